-- The layout of a tree is well-formed.
use Rattle.std.proofs.Common.{◌≡◌, ℕ, ◌+◌, suc, Bool, true, false, cond, eqb, ◌&&◌, ◌||◌, List, [], ◌∷◌, ◌++◌, map, length, slice_get, count_by, Option, Some, None, IfSome, refl, ap, ◌∙◌, sym, subst, arith}
use Rattle.std.specs.List.{All, AllByRecursion, list_any, position_from}
use Rattle.std.specs.Option.{option_map_or}
use Rattle.std.proofs.lemmas.Bool.{not-false, and_parts, eqb-true}
use Rattle.std.proofs.lemmas.List.Sums.{sum_by-cons}
use Rattle.std.proofs.lemmas.List.Elements.{All-nil, All-cons}
use Rattle.rule_order.specs.Order.{line_if}
use Rattle.cob_tree.specs.declared.form.Form.{Form}
use Rattle.cob_tree.specs.declared.form.Form.TheVariants.{Group, Text, Number, Edited}
use Rattle.cob_tree.specs.declared.front.Select.{Select}
use Rattle.cob_tree.specs.declared.tree.Tree.{Tree}
use Rattle.cob_data.specs.declared.layout.Item.{Item}
use Rattle.cob_data.specs.declared.layout.Layout.{Layout}
use Rattle.cob_data.specs.declared.description.Description.{Description}
use Rattle.cob_data.specs.declared.description.Spot.{Spot}
use Rattle.cob_data.specs.declared.end.Rule.{Rule}
use Rattle.cob_data.specs.declared.end.Rule.TheVariants.{L1, L2, L3, L5, L7, L11}
use Rattle.cob_data.specs.Entries.{all_entries}
use Rattle.cob_data.specs.Spots.{all_spots}
use Rattle.cob_data.specs.Files.{is_named, is_two_bytes, is_status_holder, may_hold_status, is_status_item, is_wrong_status, status_of, breaks_status}
use Rattle.cob_data.specs.Rules.{Facts, facts_of, item_breaks, item_lines, condition_lines, select_breaks, select_lines, fd_lines, end_lines, lines_in}
use Rattle.cob_data.specs.Layouts.{item_at, laid_items, status_place, file_of, fd_place, layout_in, layout, HasLayout}
use Rattle.cob_data.proofs.AnswerLemmas.{seated}
use Rattle.cob_store.specs.WellFormed.{IsWellFormedForm, IsWellFormedItem, IsWellFormedFile}
use Rattle.cob_tree.specs.PrintFront.{print_front}
use Rattle.cob_well_formed.specs.Numerals.{AreShort}
use Rattle.cob_well_formed.specs.Layouts.{IsWellFormedLayout}
use Rattle.cob_well_formed.proofs.ShortValues.{short_values}
use Rattle.cob_well_formed.proofs.Flags.{flags_sound, short_conditions}
use Rattle.cob_well_formed.proofs.Pairs.{AllPairs, HasOwnBytes, rule_kept, have_own_bytes}
use Rattle.cob_well_formed.proofs.Forms.{IsFromEntry, are_from_entries, item_is_sound}
use Rattle.cob_well_formed.proofs.Areas.{IsIn, all_in, area_in}

-- ---- items

items_sound : (l : Layout) (ds : List Description) (ss : List Spot) → AllByRecursion IsFromEntry ds →
    AllPairs HasOwnBytes ds ss →
    AllPairs (λ d s. item_breaks L2 d s ≡ false) ds ss → AllPairs (λ d s. item_breaks L3 d s ≡ false) ds ss →
    AllPairs (λ d s. item_breaks L5 d s ≡ false) ds ss →
    AllByRecursion (IsIn l.storage) ss → AllPairs (λ d s. IsWellFormedItem l (item_at d s)) ds ss
items_sound l [] ss from own parts pictures values ends = tt
items_sound l (d ∷ ds) [] from own parts pictures values ends = tt
items_sound l (d ∷ ds) (s ∷ ss) from own parts pictures values ends = (
  item_is_sound l d s from.0 own.0 parts.0 pictures.0 values.0 ends.0,
  items_sound l ds ss from.1 own.1 parts.1 pictures.1 values.1 ends.1,
)

all_sound : (l : Layout) (ds : List Description) (ss : List Spot) → AllPairs (λ d s. IsWellFormedItem l (item_at d s)) ds ss →
    All (IsWellFormedItem l) (laid_items ds ss)
all_sound l [] ss sound = All-nil (IsWellFormedItem l)
all_sound l (d ∷ ds) [] sound = All-nil (IsWellFormedItem l)
all_sound l (d ∷ ds) (s ∷ ss) sound =
    All-cons (IsWellFormedItem l) (item_at d s) (laid_items ds ss) sound.0 (all_sound l ds ss sound.1)

-- ---- FILE STATUS

two_bytes : (f : Form) (bytes : ℕ) → IsWellFormedForm f bytes → is_two_bytes f ≡ true → bytes ≡ 2
two_bytes Group bytes sound two = absurd (cc)
two_bytes (Text n) bytes sound two = sound ∙ eqb-true n 2 two
two_bytes (Number digits scale signed usage) bytes sound two = absurd (cc)
two_bytes (Edited picture digits scale) bytes sound two = absurd (cc)

-- how long the item with a number is
abbrev length_in : List Item → ℕ → ℕ
length_in items place = option_map_or (λ i. i.length) (slice_get items place) 0

counted : (name : List ℕ) (x : Bool) (d : Description) (ds : List Description) (n : ℕ) → is_named name d ≡ x →
    count_by (is_named name) (d ∷ ds) ≡ n →
    cond x 1 0 + count_by (is_named name) ds ≡ n
counted name x d ds n e count =
    ap (λ y. cond y 1 0 + count_by (is_named name) ds) (sym e) ∙ sym (sum_by-cons (λ y. cond (is_named name y) 1 0) d ds) ∙ count

none_holds : (name : List ℕ) (ds : List Description) → count_by (is_named name) ds ≡ 0 →
    list_any (may_hold_status name) ds ≡ false
none_holds name [] none = refl
none_holds name (d ∷ ds) none = at (is_named name d) (is_status_holder d) name ds (counted name (is_named name d) d ds 0 refl none) (none_holds name ds) where
  at : (x y : Bool) (name : List ℕ) (ds : List Description) → cond x 1 0 + count_by (is_named name) ds ≡ 0 →
      (count_by (is_named name) ds ≡ 0 → list_any (may_hold_status name) ds ≡ false) → ((x && y) || list_any (may_hold_status name) ds) ≡ false
  at true y name ds none others = absurd (omega (arith, none))
  at false y name ds none others = others (omega (arith, none))

-- the first item of the name holds a status, where it is the only one and one of the name does
first_holds : (x : Bool) (name : List ℕ) (d : Description) (ds : List Description) → is_named name d ≡ x → x ≡ true →
    count_by (is_named name) (d ∷ ds) ≡ 1 →
    list_any (may_hold_status name) (d ∷ ds) ≡ true → is_status_holder d ≡ true
first_holds false name d ds e named count any = absurd (cc)
first_holds true name d ds e named count any =
    let one : 1 + count_by (is_named name) ds ≡ 1 = counted name true d ds 1 e count in
    let others : list_any (may_hold_status name) ds ≡ false = none_holds name ds (omega (arith, one)) in
    let here : (is_status_holder d || false) ≡ true = rw (e, others) at any in
    at (is_status_holder d) here where
      at : (y : Bool) → (y || false) ≡ true → y ≡ true
      at true h = refl
      at false h = cc

place_found : (l : Layout) (name : List ℕ) (ds : List Description) (ss : List Spot) (i : ℕ) (P : ℕ → Type 0) →
    ((k : ℕ) → length_in (laid_items ds ss) k ≡ 2 → P (i + k)) →
    length ds ≡ length ss → AllPairs (λ d s. IsWellFormedItem l (item_at d s)) ds ss → count_by (is_named name) ds ≡ 1 →
    list_any (may_hold_status name) ds ≡ true →
    IfSome (position_from (is_named name) i ds) P
place_found l name [] ss i P show e sound count any = tt
place_found l name (d ∷ ds) [] i P show e sound count any = absurd (omega (arith, e))
place_found l name (d ∷ ds) (s ∷ ss) i P show e sound count any =
    at (is_named name d) refl
    (λ named. let holder = first_holds (is_named name d) name d ds refl named count any in
    let two = two_bytes d.form s.length sound.0.form (and_parts _ (is_two_bytes d.form) holder).1 in
    let same : i + 0 ≡ i = omega arith in
    subst P same (show 0 two))
    (λ other. place_found l name ds ss (i + 1) P
    (λ k h. let same : i + suc k ≡ i + 1 + k = omega arith in subst P same (show (suc k) h))
    (omega (arith, e)) sound.1 (omega (arith, counted name false d ds 1 other count)) (rw other at any)) where
      at : (x : Bool) → is_named name d ≡ x → (is_named name d ≡ true → P i) →
          (is_named name d ≡ false → IfSome (position_from (is_named name) (i + 1) ds) P) →
          IfSome (cond x (Some i) (position_from (is_named name) (i + 1) ds)) P
      at true e here there = here e
      at false e here there = there e

status_found : (l : Layout) (ds : List Description) (ss : List Spot) (o : Option (List ℕ)) → length ds ≡ length ss →
    AllPairs (λ d s. IsWellFormedItem l (item_at d s)) ds ss →
    is_wrong_status ds o ≡ false → IfSome (status_place ds o) (λ place. length_in (laid_items ds ss) place ≡ 2)
status_found l ds ss None e sound right = tt
status_found l ds ss (Some name) e sound right =
    let item : is_status_item name ds ≡ true = not-false (is_status_item name ds) right in
    let parts = and_parts (eqb (count_by (is_named name) ds) 1) (list_any (may_hold_status name) ds) item in
    place_found l name ds ss 0 (λ place. length_in (laid_items ds ss) place ≡ 2) (λ k h. let same : 0 + k ≡ k = omega arith in subst (λ n. length_in (laid_items ds ss) n ≡ 2) (sym same) h)
    e sound (eqb-true (count_by (is_named name) ds) 1 parts.0) parts.1

-- ---- files

line_kept : (x : Bool) (line : ℕ) (others : List ℕ) → line_if x line others ≡ [] → (x ≡ false) × (others ≡ [])
line_kept true line others e = absurd (cc)
line_kept false line others e = (refl, e)

module _ (f : Facts) (laid : f.spots ≡ all_spots f.items) (levels : AllPairs (λ d s. item_breaks L1 d s ≡ false) f.items f.spots)
    (sound : AllPairs (λ d s. IsWellFormedItem (layout_in f) (item_at d s)) f.items f.spots) where
  abbrev same_length : length f.items ≡ length f.spots
  same_length = seated f.items ∙ ap length (sym laid)

  file_sound : (s : Select) → breaks_status f.items s ≡ false → IsWellFormedFile (layout_in f) (file_of f s)
  file_sound s right = record {
    within = rw laid (area_in (fd_place f.fds s.name) f.items (rw laid at levels));
    status = status_found (layout_in f) f.items f.spots (status_of s) same_length sound right;
  }

  files_sound : (before ss : List Select) → select_lines L11 f before ss ≡ [] →
      All (IsWellFormedFile (layout_in f)) (map (file_of f) ss)
  files_sound before [] kept = All-nil (IsWellFormedFile (layout_in f))
  files_sound before (s ∷ ss) kept =
      let both = line_kept (select_breaks L11 f before s) s.line (select_lines L11 f (before ++ s ∷ []) ss) kept in
      All-cons (IsWellFormedFile (layout_in f)) (file_of f s) (map (file_of f) ss) (file_sound s both.0) (files_sound (before ++ s ∷ []) ss both.1)

-- ---- layouts

nothing_in_both : (xs ys : List ℕ) → xs ++ ys ≡ [] → (xs ≡ []) × (ys ≡ [])
nothing_in_both [] ys e = (refl, e)
nothing_in_both (x ∷ xs) ys e = absurd (cc)

items_kept : (a b c d e : List ℕ) → a ++ b ++ c ++ d ++ e ≡ [] → a ≡ []
items_kept a b c d e none =
    (nothing_in_both a b (nothing_in_both (a ++ b) c (nothing_in_both (a ++ b ++ c) d (nothing_in_both (a ++ b ++ c ++ d) e none).0).0).0).0

conditions_kept : (a b c d e : List ℕ) → a ++ b ++ c ++ d ++ e ≡ [] → b ≡ []
conditions_kept a b c d e none =
    (nothing_in_both a b (nothing_in_both (a ++ b) c (nothing_in_both (a ++ b ++ c) d (nothing_in_both (a ++ b ++ c ++ d) e none).0).0).0).1

selects_kept : (a b c d e : List ℕ) → a ++ b ++ c ++ d ++ e ≡ [] → c ≡ []
selects_kept a b c d e none =
    (nothing_in_both (a ++ b) c (nothing_in_both (a ++ b ++ c) d (nothing_in_both (a ++ b ++ c ++ d) e none).0).0).1

pub layouts_are_well_formed : (t : Tree) → HasLayout t → AreShort (print_front t.front) → IsWellFormedLayout (layout t)
layouts_are_well_formed t has numerals =
    let f = facts_of t in
    let rules = has.kept in
    let short = short_values t.front numerals in
    let kept : (rule : Rule) → lines_in f rule ≡ [] → AllPairs (λ d s. item_breaks rule d s ≡ false) f.items f.spots =
    λ rule none. rule_kept rule f.items f.spots (items_kept (item_lines rule f.items f.spots) (condition_lines rule f f.conditions) (select_lines rule f [] f.selects) (fd_lines rule f [] f.fds) (end_lines rule f.program f.end) none) in
    let named : (rule : Rule) → lines_in f rule ≡ [] → condition_lines rule f f.conditions ≡ [] =
    λ rule none. conditions_kept (item_lines rule f.items f.spots) (condition_lines rule f f.conditions) (select_lines rule f [] f.selects) (fd_lines rule f [] f.fds) (end_lines rule f.program f.end) none in
    let sound = items_sound (layout t) f.items f.spots (are_from_entries (all_entries t.front) short) (have_own_bytes f.items) (kept L2 rules.1.0) (kept L3 rules.1.1.0) (kept L5 rules.1.1.1.1.0) (all_in f.items) in
    let files = selects_kept (item_lines L11 f.items f.spots) (condition_lines L11 f f.conditions) (select_lines L11 f [] f.selects) (fd_lines L11 f [] f.fds) (end_lines L11 f.program f.end) (rules.1.1.1.1.1.1.1.1.1.1.0) in
    record {
      items = record {
        items = all_sound (layout t) f.items f.spots sound;
        files = files_sound f refl (kept L1 rules.0) sound [] f.selects files;
      };
      flags = flags_sound f f.conditions (named L1 rules.0) (named L7 rules.1.1.1.1.1.1.0) (short_conditions 0 None (all_entries t.front) short);
    }
