-- The parts of each edge of a source's program: values go into items that take numbers, and are worked out of what typing
-- lets them be; bytes change within storage; divisors keep the rule of bounds, and tests can be made.
use Rattle.std.proofs.Common.{◌≡◌, ◌≤◌, ℕ, ◌+◌, zero, suc, Bool, true, false, List, [], ◌∷◌, ◌++◌, ◌&&◌, length, slice_get, Option, Some, None, is_some, IfSome, refl, ap, subst, arith}
use Rattle.std.specs.Prelude.{if◌then◌else◌}
use Rattle.std.specs.List.{AllByRecursion, list_any}
use Rattle.std.specs.Option.{option_map, option_map_or}
use Rattle.std.proofs.lemmas.Bool.{and_parts}
use Rattle.std.proofs.lemmas.List.Elements.{recursion_from_All}
use Rattle.std.proofs.lemmas.Option.{same_Some}
use Rattle.dec_num.specs.declared.types.Mode.TheVariants.{Trunc}
use Rattle.cob_tree.specs.declared.form.Form.{Form}
use Rattle.cob_tree.specs.declared.form.Form.TheVariants as form
use Rattle.cob_tree.specs.Forms.{is_number_form}
use Rattle.cob_data.specs.declared.layout.FileDecl.{FileDecl}
use Rattle.cob_data.specs.declared.layout.Item.{Item}
use Rattle.cob_data.specs.declared.layout.Layout.{Layout}
use Rattle.cob_data.specs.declared.layout.Pair.{Pair}
use Rattle.cob_data.specs.declared.layout.Sender.{Sender}
use Rattle.cob_data.specs.declared.layout.Sender.TheVariants as sender
use Rattle.cob_program.specs.declared.act.How.{How}
use Rattle.cob_program.specs.declared.act.How.TheVariants as how
use Rattle.cob_program.specs.declared.act.Target.{Target}
use Rattle.cob_program.specs.Sum.{Sum, Atom}
use Rattle.cob_program.specs.Values.{root_of}
use Rattle.cob_program.specs.Bounds.{is_small, is_small_sum, is_small_atom, is_small_stored}
use Rattle.cob_program.specs.Logic.{Logic, Test, numbers, texts, member, numeric, always}
use Rattle.cob_program.specs.Act.{once, times, until, varying, Act, move, arith as arith_, perform, Body, open_files, close_files, read as read_, write, Program}
use Rattle.cob_runs.specs.declared.action.Action.{Action}
use Rattle.cob_runs.specs.declared.action.Action.TheVariants as action
use Rattle.cob_runs.specs.Contents.{item_at, form_at, length_at, scale_of, number_in}
use Rattle.cob_runs.specs.Moves.{takes_number}
use Rattle.cob_runs.specs.Computing.{items_in}
use Rattle.cob_runs.specs.Acts.{decl_at, file_from}
use Rattle.cob_runs.specs.Effects.{tests_in_act}
use Rattle.cob_store.specs.WellFormed.{IsWellFormedFile, HasWellFormedItems}
use Rattle.cob_store.proofs.Parts.{first_within}
use Rattle.data_laws.proofs.Items.{item_sound}
use Rattle.cob_calc.specs.Contents.{bound_at}
use Rattle.cob_calc.specs.Arithmetic.{is_small_result, are_small_results, is_small_rest, are_small_rests, take_numbers, is_sound_remainder, CanCompute}
use Rattle.cob_calc.specs.Comparing.{CanTest}
use Rattle.cob_world.specs.Needs.{IsNumber}
use Rattle.cob_world.specs.Doing.{CanMoveTo, CanDoAct}
use Rattle.cob_edge_parts.specs.Parts.{Amount, moved, computed, remaining, augmented, Part, read, unread, index, divide, store, bytes_in, guard, set_count, divisors_in, divisors_of, item_reads, number_reads, own_reads, divides, target_parts, targets_parts, augment_parts, compare_parts, remainder_parts, arith_parts, is_number_item, text_reads, gets_value, is_read_for, item_bytes, receiver_parts, receivers_parts, move_parts, end_reads, member_reads, test_reads, test_parts, status_parts, file_parts, file_call_parts, into_parts, assign_parts, compute_parts, condition_parts, count_parts, call_parts, read_parts, bad_parts, parts_of}
use Rattle.transfer_ranges.specs.EdgeOperands.{edge_amount}
use Rattle.cell_laws.proofs.PremiseDivisors.{AreSmall, together, in_sum, of_targets}
use Rattle.cell_laws.proofs.PremiseTests.{tests_can}

-- ---- what a part keeps

abbrev pub is_arithmetic : Act → Bool
is_arithmetic (arith_ s ts remainder size fine) = true
is_arithmetic _ = false

module _ (l : Layout) where
  -- what a division leaves, whose quotient goes to an item of so many decimals
  pub record IsRest (s : Sum) (scale : ℕ) : Type 0 where
    pub stored : is_small_stored (bound_at l) s ≡ true
    pub rest : is_small_rest (bound_at l) scale (root_of s) ≡ true
    pub item : ℕ
    pub takes : takes_number (form_at l item) ≡ true
    pub its : scale_of (form_at l item) ≡ scale

  -- what a receiver's amount is worked out of
  abbrev pub IsSourceAmount : Act → Action → ℕ → Amount → Type 0
  IsSourceAmount a x place (moved y) = (edge_amount a x ≡ Some (moved y)) × CanMoveTo l y place
  IsSourceAmount a x place (computed s h) = (edge_amount a x ≡ Some (computed s how.Whole)) × (is_small_result (bound_at l) s place h ≡ true)
  IsSourceAmount a x place (remaining s scale) = (edge_amount a x ≡ Some (computed s how.Whole)) × IsRest s scale
  IsSourceAmount a x place (augmented y) = (edge_amount a x ≡ Some (augmented y)) × (is_number_form (form_at l place) ≡ true) × IsNumber l y

  abbrev pub IsSourcePart : Act → Action → Part → Type 0
  IsSourcePart a x (divide d) = is_small_atom (bound_at l) d ≡ true
  IsSourcePart a x (store place mode y) = (takes_number (form_at l place) ≡ true) × IsSourceAmount a x place y
  IsSourcePart a x (bytes_in offset count) = (offset + count ≤ l.storage) × (is_arithmetic a ≡ false)
  IsSourcePart a x (index last k count) = is_small (bound_at l k) ≡ true
  IsSourcePart a x (guard t wanted) = CanTest l t
  IsSourcePart a x (set_count n y) = (edge_amount a x ≡ Some (moved y)) × IsNumber l y
  IsSourcePart a x _ = Unit {0}

-- what of it an analysis of cells needs
abbrev pub IsSoundPart : Layout → Part → Type 0
IsSoundPart l (store place mode y) = takes_number (form_at l place) ≡ true
IsSoundPart l (bytes_in offset count) = offset + count ≤ l.storage
IsSoundPart l _ = Unit {0}

abbrev pub AreSound : Layout → List Part → Type 0
AreSound l parts = AllByRecursion (IsSoundPart l) parts

sound_part : (l : Layout) (a : Act) (x : Action) (y : Part) → IsSourcePart l a x y → IsSoundPart l y
sound_part l a x (store place mode y) kept = kept.0
sound_part l a x (bytes_in offset count) kept = kept.0
sound_part l a x y kept = tt

holds_at : {X : Type 0} (P : X → Type 0) (xs : List X) (place : ℕ) (x : X) → AllByRecursion P xs → slice_get xs place ≡ Some x → P x
holds_at P [] place x all at = absurd (cc)
holds_at P (y ∷ ys) zero x all at = subst P (same_Some _ _ at) all.0
holds_at P (y ∷ ys) (suc place) x all at = holds_at P ys place x all.1 at

numeric_takes : (f : Form) → is_number_form f ≡ true → takes_number f ≡ true
numeric_takes (form.Number digits scale signed kept) is = refl
numeric_takes form.Group is = absurd (cc)
numeric_takes (form.Text n) is = absurd (cc)
numeric_takes (form.Edited picture digits scale) is = absurd (cc)

-- what is so of each is so of each by another name
pub every : {X : Type 0} (P Q : X → Type 0) → ((x : X) → P x → Q x) → (xs : List X) → AllByRecursion P xs → AllByRecursion Q xs
every P Q weaker [] all = tt
every P Q weaker (x ∷ xs) all = (weaker x all.0, every P Q weaker xs all.1)

module _ (l : Layout) (a : Act) (x : Action) where
  abbrev pub AreKept : List Part → Type 0
  AreKept parts = AllByRecursion (IsSourcePart l a x) parts

  both : (xs ys : List Part) → AreKept xs → AreKept ys → AreKept (xs ++ ys)
  both [] ys first second = second
  both (y ∷ xs) ys first second = (first.0, both xs ys first.1 second)

  where_so : (b : Bool) (xs : List Part) → AreKept xs → AreKept (if b then xs else [])
  where_so true xs kept = kept
  where_so false xs kept = tt

  -- ---- what is read

  items_read : (places : List ℕ) → AreKept (item_reads places)
  items_read [] = tt
  items_read (place ∷ places) = (tt, items_read places)

  text_read : (b : Bool) → AreKept (if b then [] else unread ∷ [])
  text_read true = tt
  text_read false = (tt, tt)

  number_read : (y : Sender) → AreKept (number_reads y)
  number_read (sender.Item place) = (tt, tt)
  number_read (sender.Number n) = tt
  number_read (sender.Text text) = text_read (is_some (number_in (form.Text (length text)) text))
  number_read (sender.Fill byte) = (tt, tt)
  number_read sender.Zero = tt

  own_read : (h : How) (place : ℕ) → AreKept (own_reads h place)
  own_read how.Whole place = tt
  own_read how.Plus place = (tt, tt)
  own_read how.Minus place = (tt, tt)
  own_read how.Times place = (tt, tt)
  own_read how.Under place = (tt, tt)

  divided : (atoms : List Atom) → AreSmall (bound_at l) atoms → AreKept (divides atoms)
  divided [] small = tt
  divided (d ∷ atoms) small = (small.0, divided atoms small.1)

  compared : (u v : Sum) → is_small_sum (bound_at l) u ≡ true → is_small_sum (bound_at l) v ≡ true → AreKept (compare_parts u v)
  compared u v first second =
      both (item_reads (items_in u)) (item_reads (items_in v) ++ divides (divisors_in u ++ divisors_in v)) (items_read (items_in u))
      (both (item_reads (items_in v)) (divides (divisors_in u ++ divisors_in v)) (items_read (items_in v))
      (divided (divisors_in u ++ divisors_in v)
      (together (bound_at l) (divisors_in u) (divisors_in v) (in_sum (bound_at l) u first) (in_sum (bound_at l) v second))))

  -- ---- conditions

  read_as_text : (y : Sender) → AreKept (text_reads l y)
  read_as_text y = where_so (is_number_item l y) (number_reads y) (number_read y)

  ends : (ps : List Pair) → AreKept (end_reads l ps)
  ends [] = tt
  ends (p ∷ ps) =
      both (text_reads l p.low) (text_reads l p.high ++ end_reads l ps) (read_as_text p.low)
      (both (text_reads l p.high) (end_reads l ps) (read_as_text p.high) (ends ps))

  among : (place : ℕ) (ps : List Pair) → AreKept (member_reads l place ps)
  among place [] = tt
  among place (p ∷ ps) = both (text_reads l (sender.Item place)) (end_reads l (p ∷ ps)) (read_as_text (sender.Item place)) (ends (p ∷ ps))

  test_read : (t : Test) → CanTest l t → AreKept (test_reads l t)
  test_read (numbers u r v) can =
      let first = and_parts (is_small_sum (bound_at l) u) _ can.1.1 in
      let second = and_parts (is_small_sum (bound_at l) v) _ first.1 in
      compared u v first.0 second.0
  test_read (texts y r z) can = both (text_reads l y) (text_reads l z) (read_as_text y) (read_as_text z)
  test_read (member place ps) can = among place ps
  test_read (numeric place) can = tt
  test_read always can = tt

  tested : (wanted : Bool) (o : Option Test) → ((t : Test) → o ≡ Some t → CanTest l t) → AreKept (test_parts l wanted o)
  tested wanted None can = tt
  tested wanted (Some t) can = both (test_reads l t) (guard t wanted ∷ []) (test_read t (can t refl)) (can t refl, tt)

  -- ---- arithmetic

  module _ (s : Sum) (its : edge_amount a x ≡ Some (computed s how.Whole)) where
    targets_stored : (ts : List Target) → take_numbers l ts ≡ true → are_small_results (bound_at l) s ts ≡ true → AreKept (targets_parts s ts)
    targets_stored [] take small = tt
    targets_stored (t ∷ ts) take small =
        let takes = and_parts (takes_number (form_at l t.item)) (take_numbers l ts) take in
        let results = and_parts (is_small_result (bound_at l) s t.item t.how) (are_small_results (bound_at l) s ts) small in
        both (target_parts s t) (targets_parts s ts)
        (both (own_reads t.how t.item) (store t.item t.mode (computed s t.how) ∷ []) (own_read t.how t.item) ((takes.0, (its, results.0)), tt))
        (targets_stored ts takes.1 results.1)

    rest_stored : (ts : List Target) (remainder : Option ℕ) → take_numbers l ts ≡ true → is_sound_remainder l s ts remainder ≡ true → AreKept (remainder_parts l s ts remainder)
    rest_stored [] None take sound = tt
    rest_stored [] (Some place) take sound = tt
    rest_stored (t ∷ []) None take sound = tt
    rest_stored (t ∷ []) (Some place) take sound =
        let rests = are_small_rests (bound_at l) l (root_of s) (t ∷ []) in
        let receives = and_parts (takes_number (form_at l place)) (is_small_stored (bound_at l) s && rests) sound in
        let small = and_parts (is_small_stored (bound_at l) s) rests receives.1 in
        let rest = and_parts (is_small_rest (bound_at l) (scale_of (form_at l t.item)) (root_of s)) true small.1 in
        let takes = and_parts (takes_number (form_at l t.item)) true take in
        let left : IsRest l s (scale_of (form_at l t.item)) = record { stored = small.0; rest = rest.0; item = t.item; takes = takes.0; its = refl } in
        ((receives.0, (its, left)), tt)
    rest_stored (t ∷ u ∷ ts) None take sound = tt
    rest_stored (t ∷ u ∷ ts) (Some place) take sound = tt

    arithmetic : (ts : List Target) (remainder : Option ℕ) → CanCompute l s ts remainder → AreKept (arith_parts l s ts remainder)
    arithmetic ts remainder can =
        both (item_reads (items_in s)) _ (items_read (items_in s))
        (both (divides (divisors_of s ts)) _ (divided (divisors_of s ts) (of_targets (bound_at l) s ts can.results))
        (both (targets_parts s ts) (remainder_parts l s ts remainder) (targets_stored ts can.receivers can.results)
        (rest_stored ts remainder can.receivers can.rest)))

  augments : (place : ℕ) (by : Sender) → edge_amount a x ≡ Some (augmented by) → is_number_form (form_at l place) ≡ true → IsNumber l by → AreKept (augment_parts place by)
  augments place by its is number =
      both (number_reads by) (read place ∷ store place Trunc (augmented by) ∷ []) (number_read by)
      (tt, ((numeric_takes (form_at l place) is, (its, is, number)), tt))

  counts : (statement : ℕ) (y : Sender) → edge_amount a x ≡ Some (moved y) → IsNumber l y → AreKept (number_reads y ++ set_count statement y ∷ [])
  counts statement y its number = both (number_reads y) (set_count statement y ∷ []) (number_read y) ((its, number), tt)

  -- ---- bytes of storage

  module _ (items : HasWellFormedItems l) (plain : is_arithmetic a ≡ false) where
    file_sound : (place : ℕ) (d : FileDecl) → decl_at l place ≡ Some d → IsWellFormedFile l d
    file_sound place d at = holds_at (IsWellFormedFile l) l.files place d (recursion_from_All (IsWellFormedFile l) l.files items.files) at

    found_bytes : (place : ℕ) (o : Option Item) → item_at l place ≡ o → AreKept (option_map_or (λ i. bytes_in i.offset i.length ∷ []) o [])
    found_bytes place None at = tt
    found_bytes place (Some i) at = ((first_within l i (item_sound l items place i at), plain), tt)

    bytes_put : (place : ℕ) → AreKept (item_bytes l place)
    bytes_put place = found_bytes place (item_at l place) refl

    -- ---- MOVE

    module _ (y : Sender) (its : edge_amount a x ≡ Some (moved y)) where
      value_or_bytes : (place : ℕ) (b : Bool) → CanMoveTo l y place → gets_value l (form_at l place) y ≡ b →
          AreKept (if b then store place Trunc (moved y) ∷ [] else item_bytes l place)
      value_or_bytes place true can gets = (((and_parts (takes_number (form_at l place)) _ gets).0, (its, can)), tt)
      value_or_bytes place false can gets = bytes_put place

      receives : (places : List ℕ) → AllByRecursion (CanMoveTo l y) places → AreKept (receivers_parts l y places)
      receives [] can = tt
      receives (place ∷ places) can =
          both (receiver_parts l y place) (receivers_parts l y places)
          (value_or_bytes place (gets_value l (form_at l place) y) can.0 refl) (receives places can.1)

      moves : (places : List ℕ) → AllByRecursion (CanMoveTo l y) places → AreKept (move_parts l y places)
      moves places can =
          both (if list_any (λ place. is_read_for l (form_at l place) y) places then number_reads y else []) (receivers_parts l y places)
          (where_so (list_any (λ place. is_read_for l (form_at l place) y) places) (number_reads y) (number_read y)) (receives places can)

    moves_into : (into : Option ℕ) → AreKept (into_parts l into)
    moves_into None = tt
    moves_into (Some place) = bytes_put place

    -- ---- files

    two_bytes : (place : ℕ) (o : Option Item) → item_at l place ≡ o → length_at l place ≡ 2 →
        AreKept (option_map_or (λ i. bytes_in i.offset 2 ∷ []) o [])
    two_bytes place None at two = tt
    two_bytes place (Some i) at two =
        let whole = first_within l i (item_sound l items place i at) in
        let long : length_at l place ≡ i.length = ap (λ o. option_map_or (λ (j : Item). j.length) o 0) at in
        ((omega (arith, whole, long, two), plain), tt)

    status : (o : Option ℕ) → IfSome o (λ place. length_at l place ≡ 2) → AreKept (status_parts l o)
    status None two = tt
    status (Some place) two = two_bytes place (item_at l place) refl two

    file : (fills : Bool) (place : ℕ) (o : Option FileDecl) → decl_at l place ≡ o → AreKept (file_parts l fills o)
    file fills place None at = tt
    file fills place (Some d) at =
        let sound = file_sound place d at in
        both (status_parts l d.status) (if fills then bytes_in d.offset d.length ∷ [] else []) (status d.status sound.status)
        (where_so fills (bytes_in d.offset d.length ∷ []) ((sound.within, plain), tt))

    call : (fills : Bool) (o : Option ℕ) → AreKept (file_call_parts l fills o)
    call fills None = tt
    call fills (Some place) = file fills place (decl_at l place) refl

-- ---- edges

module _ (p : Program) (items : HasWellFormedItems p.layout) (statement : ℕ) where
  abbrev Kept : Act → Action → List Part → Type 0
  Kept a x parts = AreKept p.layout a x parts

  assigned : (a : Act) → CanDoAct p.layout a → Kept a action.Assign (assign_parts p statement a)
  assigned (move y places) can = moves p.layout (move y places) action.Assign items refl y refl places can
  assigned (perform body (varying after place start by t)) can =
      moves p.layout (perform body (varying after place start by t)) action.Assign items refl start refl (place ∷ []) (can.0.0.start_, tt)
  assigned (perform body once) can = tt
  assigned (perform body (times y)) can = tt
  assigned (perform body (until after t)) can = tt
  assigned (read_ f into end fine) can = moves_into p.layout (read_ f into end fine) action.Assign items refl into
  assigned (write r None) can = tt
  assigned (write r (Some y)) can = moves p.layout (write r (Some y)) action.Assign items refl y refl (r ∷ []) (can, tt)
  assigned a can = tt

  -- VARYING goes on by what it augments
  abbrev GoesOn : Action → Type 0
  GoesOn x = (body : Body) (after : Bool) (place : ℕ) (start by : Sender) (t : Logic) → edge_amount (perform body (varying after place start by t)) x ≡ Some (augmented by)

  worked_out : (a : Act) (x : Action) → GoesOn x → CanDoAct p.layout a → Kept a x (compute_parts p statement a)
  worked_out (arith_ s ts remainder size fine) x on can = arithmetic p.layout (arith_ s ts remainder size fine) x s refl ts remainder can.0
  worked_out (perform body (varying after place start by t)) x on can =
      augments p.layout (perform body (varying after place start by t)) x place by (on body after place start by t) can.0.0.item can.0.0.by_
  worked_out (perform body once) x on can = tt
  worked_out (perform body (times y)) x on can = tt
  worked_out (perform body (until after t)) x on can = tt
  worked_out a x on can = tt

  tested_at : (a : Act) (x : Action) (wanted : Bool) (k : ℕ) → CanDoAct p.layout a → Kept a x (test_parts p.layout wanted (slice_get (tests_in_act a) k))
  tested_at a x wanted k can =
      tested p.layout a x wanted (slice_get (tests_in_act a) k)
      (λ t at. holds_at (CanTest p.layout) (tests_in_act a) k t (tests_can p.layout a can) at)

  decided : (a : Act) (x : Action) (wanted : Bool) (k : ℕ) → CanDoAct p.layout a → Kept a x (condition_parts p statement wanted k a)
  decided (perform body (times y)) x wanted k can = (tt, (tt, tt))
  decided (perform body once) x wanted k can = tested_at (perform body once) x wanted k can
  decided (perform body (until after t)) x wanted k can = tested_at (perform body (until after t)) x wanted k can
  decided (perform body (varying after place start by t)) x wanted k can = tested_at (perform body (varying after place start by t)) x wanted k can
  decided a x wanted k can = tested_at a x wanted k can

  counted : (a : Act) → CanDoAct p.layout a → Kept a action.SetCount (count_parts p statement a)
  counted (perform body (times y)) can = counts p.layout (perform body (times y)) action.SetCount statement y refl can.0
  counted (perform body once) can = tt
  counted (perform body (until after t)) can = tt
  counted (perform body (varying after place start by t)) can = tt
  counted a can = tt

  called : (a : Act) (x : Action) (fine : Bool) (k : ℕ) → Kept a x (call_parts p statement fine k a)
  called (open_files os) x fine k = call p.layout (open_files os) x items refl false (option_map (λ o. o.file) (slice_get os k))
  called (close_files fs) x fine k = call p.layout (close_files fs) x items refl false (slice_get fs k)
  called (write r from) x fine k = call p.layout (write r from) x items refl fine (file_from p.layout 0 p.layout.files r)
  called a x fine k = tt

  taken : (a : Act) (x : Action) → Kept a x (read_parts p statement a)
  taken (read_ f into end fine) x = file p.layout (read_ f into end fine) x items refl true f (decl_at p.layout f) refl
  taken a x = tt

  failed : (a : Act) (x : Action) (k : ℕ) → Kept a x (bad_parts p statement k a)
  failed (read_ f into end fine) x k = file p.layout (read_ f into end fine) x items refl true f (decl_at p.layout f) refl
  failed a x k = called a x false k

  pub parts_are_kept : (a : Act) (x : Action) → CanDoAct p.layout a → Kept a x (parts_of p statement a x)
  parts_are_kept a action.Skip can = tt
  parts_are_kept a action.Assign can = assigned a can
  parts_are_kept a action.Done can = worked_out a action.Done (λ body after place start by t. refl) can
  parts_are_kept a action.Size can = worked_out a action.Size (λ body after place start by t. refl) can
  parts_are_kept a (action.True k) can = decided a (action.True k) true k can
  parts_are_kept a (action.False k) can = decided a (action.False k) false k can
  parts_are_kept a action.SetCount can = counted a can
  parts_are_kept a action.Down can = (tt, (tt, tt))
  parts_are_kept a (action.Open k) can = called a (action.Open k) true k
  parts_are_kept a (action.Close k) can = called a (action.Close k) true k
  parts_are_kept a action.Take can = taken a action.Take
  parts_are_kept a action.AtEnd can = taken a action.AtEnd
  parts_are_kept a (action.Bad k) can = failed a (action.Bad k) k
  parts_are_kept a action.Write can = called a action.Write true 0
  parts_are_kept a action.Show can = tt

  pub parts_are_sound : (a : Act) (x : Action) → CanDoAct p.layout a → AreSound p.layout (parts_of p statement a x)
  parts_are_sound a x can = every (IsSourcePart p.layout a x) (IsSoundPart p.layout) (sound_part p.layout a x) (parts_of p statement a x) (parts_are_kept a x can)
