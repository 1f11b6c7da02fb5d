-- The cells of a source's program have at most 18 digits.
use Rattle.std.proofs.Common.{◌≡◌, ◌≤◌, ℕ, ℤ, pos, suc, ◌+◌, ◌-◌, ◌^◌, nat_le, Bool, true, false, if◌then◌else◌, List, [], ◌∷◌, ◌++◌, slice_get, Option, Some, None, refl, sym, ap, subst, ◌∙◌, append_assoc, arith}
use Rattle.std.specs.Prelude.{neg_ℤ, ◌≤ℤ◌}
use Rattle.std.specs.List.{AllByRecursion}
use Rattle.std.specs.Option.{option_map_or}
use Rattle.std.proofs.lemmas.Bool.{leb-true}
use Rattle.std.proofs.lemmas.Int.{ints}
use Rattle.std.proofs.lemmas.List.Elements.{recursion_from_All}
use Rattle.dec_num.proofs.Powers.{ten_monotone}
use Rattle.cob_tree.specs.declared.form.Form.{Form}
use Rattle.cob_tree.specs.declared.form.Form.TheVariants.{Group, Text, Number, Edited}
use Rattle.cob_data.specs.declared.layout.Item.{Item}
use Rattle.cob_data.specs.declared.layout.Layout.{Layout}
use Rattle.cob_program.specs.Act.{Turns, times, Stmt, MkStmt, Act, perform, Program}
use Rattle.cob_program.specs.Statements.{program_statements}
use Rattle.cob_runs.specs.Contents.{item_at, form_at, scale_of}
use Rattle.cob_store.specs.WellFormed.{IsWellFormedForm, IsWellFormedItem, HasWellFormedItems}
use Rattle.interval_domain.specs.declared.bounds.Interval.{Interval}
use Rattle.cob_graph.specs.declared.homes.Home.{Home}
use Rattle.cob_graph.specs.declared.homes.Home.TheVariants.{Item as of_item, Count as of_count}
use Rattle.cob_graph.specs.Homes.{if_named, home_of, item_homes, turns_homes, act_homes, count_homes, homes_of}
use Rattle.cell_steps.specs.OwnRanges.{picture_range, form_range}
use Rattle.diff_layer.specs.Plans.{IsShortHome}

-- ---- pictures

record IsShortRange (i : Interval) : Type 0 where
  low : neg_ℤ (pos (10 ^ 18)) ≤ℤ i.low
  high : i.high ≤ℤ pos (10 ^ 18)

picture_short : (digits : ℕ) (signed : Bool) → digits ≤ 18 → IsShortRange (picture_range digits signed)
picture_short digits signed few = by_sign signed (ten_monotone digits 18 few)
  where
    by_sign : (signed : Bool) → 10 ^ digits ≤ 10 ^ 18 → IsShortRange (picture_range digits signed)
    by_sign true most = record { low = omega (arith, ints, most); high = omega (arith, ints, most) }
    by_sign false most = record { low = omega (arith, ints); high = omega (arith, ints, most) }

module _ (l : Layout) where
  -- ---- items

  short_here : (place digits : ℕ) (signed : Bool) (f : Form) → form_at l place ≡ f → form_range f ≡ picture_range digits signed → digits ≤ 18 →
      scale_of f ≤ 18 → IsShortHome l (of_item place)
  short_here place digits signed f e range few fewer =
      let short = subst IsShortRange (sym (ap form_range e ∙ range)) (picture_short digits signed few) in
      record { low = short.low; high = short.high; decimals = subst (λ (g : Form). scale_of g ≤ 18) (sym e) fewer }

  abbrev AreShort : List Home → Type 0
  AreShort hs = AllByRecursion (IsShortHome l) hs

  form_short : (place : ℕ) (f : Form) (bytes : ℕ) (hs : List Home) → form_at l place ≡ f → IsWellFormedForm f bytes → AreShort hs → AreShort (home_of place f ++ hs)
  form_short place Group bytes hs e sound all = all
  form_short place (Text n) bytes hs e sound all = by_length (nat_le n 18) refl
    where
      by_length : (short : Bool) → nat_le n 18 ≡ short → AreShort ((if short then of_item place ∷ [] else []) ++ hs)
      by_length true told = (short_here place n false (Text n) e refl (leb-true n 18 told) (omega arith), all)
      by_length false told = all
  form_short place (Number digits scale signed kept) bytes hs e sound all =
      let few = sound.number.at_most_18 in
      (short_here place digits signed (Number digits scale signed kept) e refl few (omega (arith, few, sound.decimals)), all)
  form_short place (Edited picture digits scale) bytes hs e sound all = all

  named_short : (place : ℕ) (name : Option (List ℕ)) (f : Form) (bytes : ℕ) (hs : List Home) → form_at l place ≡ f → IsWellFormedForm f bytes → AreShort hs →
      AreShort (if_named name (home_of place f) ++ hs)
  named_short place None f bytes hs e sound all = all
  named_short place (Some n) f bytes hs e sound all = form_short place f bytes hs e sound all

  -- the items are the layout's from the place on
  abbrev StandFrom : ℕ → List Item → Type 0
  StandFrom place items = (k : ℕ) → slice_get l.items (place + k) ≡ slice_get items k

  form_here : (place : ℕ) (i : Item) (items : List Item) → StandFrom place (i ∷ items) → form_at l place ≡ i.form
  form_here place i items stand =
      let same : place + 0 ≡ place = omega arith in
      let at : item_at l place ≡ Some i = ap (slice_get l.items) (sym same) ∙ stand 0 in
      ap (λ o. option_map_or (λ (j : Item). j.form) o Group) at

  stand_behind : (place : ℕ) (i : Item) (items : List Item) → StandFrom place (i ∷ items) → StandFrom (suc place) items
  stand_behind place i items stand k =
      let same : suc place + k ≡ place + suc k = omega arith in ap (slice_get l.items) same ∙ stand (suc k)

  items_short : (place : ℕ) (items : List Item) (hs : List Home) → StandFrom place items → AllByRecursion (IsWellFormedItem l) items → AreShort hs →
      AreShort (item_homes place items ++ hs)
  items_short place [] hs stand sound all = all
  items_short place (i ∷ items) hs stand sound all =
      let named = if_named i.name (home_of place i.form) in
      subst AreShort (sym (append_assoc named (item_homes (suc place) items) hs))
      (named_short place i.name i.form i.length (item_homes (suc place) items ++ hs) (form_here place i items stand) sound.0.form
      (items_short (suc place) items hs (stand_behind place i items stand) sound.1 all))

  -- ---- counters

  count_short : (n : ℕ) → IsShortHome l (of_count n)
  count_short n = let short = picture_short 18 true (omega arith) in record { low = short.low; high = short.high; decimals = omega arith }

  turns_short : (n : ℕ) (t : Turns) (hs : List Home) → AreShort hs → AreShort (turns_homes n t ++ hs)
  turns_short n (times x) hs all = (count_short n, all)
  turns_short n _ hs all = all

  act_short : (n : ℕ) (a : Act) (hs : List Home) → AreShort hs → AreShort (act_homes n a ++ hs)
  act_short n (perform body turns) hs all = turns_short n turns hs all
  act_short n _ hs all = all

  counts_short : (ss : List Stmt) → AreShort (count_homes ss)
  counts_short [] = tt
  counts_short (MkStmt n line a ∷ ss) = act_short n a (count_homes ss) (counts_short ss)

pub homes_are_short : (p : Program) → HasWellFormedItems p.layout → AllByRecursion (IsShortHome p.layout) (homes_of p)
homes_are_short p sound =
    let l = p.layout in
    let at : (k : ℕ) → slice_get l.items (0 + k) ≡ slice_get l.items k = λ k. let same : 0 + k ≡ k = omega arith in ap (slice_get l.items) same in
    items_short l 0 l.items (count_homes (program_statements p)) at (recursion_from_All (IsWellFormedItem l) l.items sound.items)
    (counts_short l (program_statements p))
