-- Subscripts: what is seen behind one stays true, and what is cleared before one isn't met there.
use Rattle.std.proofs.Common.{◌≡◌, ◌<◌, ℕ, zero, suc, Bool, true, false, ◌&&◌, ◌||◌, if◌then◌else◌, List, [], ◌∷◌, ◌++◌, Option, Some, None, Ok, Err, ℤ, pos, negsuc, refl, subst, arith}
use Rattle.std.specs.Prelude.{IsSomeAnd, nat_lt, int_le}
use Rattle.std.specs.Option.{option_map}
use Rattle.std.proofs.lemmas.Int.{ints}
use Rattle.std.proofs.lemmas.Bool.Decides.{nat_tests}
use Rattle.dec_num.specs.declared.types.Scaled.{Scaled}
use Rattle.cob_tree.specs.declared.fault.Kind.{Kind}
use Rattle.cob_tree.specs.declared.fault.Kind.TheVariants as kind
use Rattle.interval_domain.specs.declared.bounds.Interval.{Interval}
use Rattle.interval_domain.specs.Bounds.{Holds}
use Rattle.cob_program.specs.Act.{Act, Program}
use Rattle.cob_runs.specs.declared.action.Action.{Action}
use Rattle.cob_runs.specs.Contents.{form_at, bytes_at, scale_of}
use Rattle.cob_runs.specs.Subscripts.{in_table}
use Rattle.num_bytes.specs.Reading.{contents_value}
use Rattle.cob_edge_parts.specs.Parts.{Part, subscript, index}
use Rattle.cob_edge_parts.specs.Meaning.{Moment, skipped, subscript_in, ReadsSubscript, Finds}
use Rattle.cob_edge_parts.specs.Counters.{PassesPart}
use Rattle.cob_edge_parts.proofs.Subscripts.{subscript_leaves, index_leaves}
use Rattle.dom_laws.specs.Walking.{IsSeen}
use Rattle.transfer_ranges.specs.Kept.{met}
use Rattle.transfer_ranges.proofs.Least.{met_holds}
use Rattle.cob_graph.specs.declared.homes.Home.TheVariants.{Item as of_item}
use Rattle.cob_graph.specs.Homes.{homes_of}
use Rattle.cell_steps.specs.Storages.{storage}
use Rattle.cell_steps.specs.Cells.{is_table, units_of}
use Rattle.cell_steps.specs.Seen.{Seen, with_cells}
use Rattle.cell_steps.specs.Stores.{handled}
use Rattle.cell_steps.specs.Steps.{table, known_as, read_cells, indexed_cells, with_cells_if, may_not_come, shows_nothing, after_subscript, after_index}
use Rattle.cell_steps.specs.Clearing.{lies_in_table}
use Rattle.cell_steps.specs.Agreeing.{Agrees, walking}
use Rattle.cell_laws.proofs.CellLists.{chosen}
use Rattle.cell_laws.proofs.HomesHold.{units_hold, some_times}
use Rattle.cell_laws.proofs.PartsDone.{both_true}
use Rattle.cell_laws.proofs.QuietParts.{same_moment, seen_on, cells_on, AllKnown, quiet, item_known, value_of_number, seen_cells}

-- ---- tables

-- what names an occurrence lies in the table
pub found_in : (count : ℕ) (z : ℤ) (at : ℕ) → in_table count z ≡ Ok at → Holds (table count) z
found_in count (pos zero) at e = absurd cc
found_in count (pos (suc n)) at e = go (nat_lt n count) refl e
  where
    below : nat_lt n count ≡ true → n < count
    below f = grind (arith, nat_tests)

    go : (b : Bool) → nat_lt n count ≡ b → (if b then Ok n else Err kind.Subscript) ≡ Ok at → Holds (table count) (pos (suc n))
    go true f g = (omega (arith, ints), let l = below f in omega (arith, ints, l))
    go false f g = absurd cc
found_in count (negsuc n) at e = absurd cc

-- what doesn't is the fault of a subscript
pub fault_is : (count : ℕ) (z : ℤ) (fault : Kind) → in_table count z ≡ Err fault → fault ≡ kind.Subscript
fault_is count (pos zero) fault e = cc
fault_is count (pos (suc n)) fault e = go (nat_lt n count) e
  where
    go : (b : Bool) → (if b then Ok n else Err kind.Subscript) ≡ Err fault → fault ≡ kind.Subscript
    go true f = absurd cc
    go false f = cc
fault_is count (negsuc n) fault e = cc

pub not_found : (count : ℕ) (z : ℤ) (fault : Kind) → in_table count z ≡ Err fault → Holds (table count) z → ⊥
not_found count (pos zero) fault e (low, high) = omega (arith, ints, low)
not_found count (pos (suc n)) fault e (low, high) = go (nat_lt n count) refl e
  where
    below : nat_lt n count ≡ false → n < count → ⊥
    below f h = grind (arith, nat_tests)

    go : (b : Bool) → nat_lt n count ≡ b → (if b then Ok n else Err kind.Subscript) ≡ Err fault → ⊥
    go true f g = cc
    go false f g = below f (omega (arith, ints, high))
not_found count (negsuc n) fault e (low, high) = omega (arith, ints, low)

-- ---- turns

-- One that surely comes isn't skipped.
not_skipped : (divided failed last may any : Bool) → (divided ≡ true → may ≡ true) → (failed ≡ true → divided ≡ false → any ≡ true)
    → (may || (last && any)) ≡ false → (divided || (last && failed)) ≡ false
not_skipped true failed last true any f g e = absurd cc
not_skipped true failed last false any f g e = absurd (let one = f refl in cc)
not_skipped false failed false may any f g e = refl
not_skipped false false true may any f g e = refl
not_skipped false true true true any f g e = absurd cc
not_skipped false true true false true f g e = absurd cc
not_skipped false true true false false f g e = absurd (let one = g refl refl in cc)

or_false : (b c : Bool) → (b || c) ≡ false → (b ≡ false) × (c ≡ false)
or_false true c f = absurd cc
or_false false c f = (refl, f)

module _ (p : Program) (statement : ℕ) (a : Act) (x : Action) where
  -- a turn that shows something comes, to an item of one occurrence
  comes : (done : List Part) (last : Bool) (k : ℕ) (s : Seen) (m : Moment) → Agrees p statement a x done s m → shows_nothing p last k s ≡ false → (skipped last m ≡ false) × (is_table p.layout k ≡ false)
  comes done last k s m g e =
      let neither = or_false (may_not_come last s) (is_table p.layout k) e in
      (not_skipped m.by_zero m.failed last s.may_zero s.any_fail g.zero g.fails neither.0, neither.1)

  -- a subscript's number lies in what is known of its item
  pub subscript_holds : (done : List Part) (k : ℕ) (s : Seen) (m : Moment) (v : Scaled) → Agrees p statement a x done s m → subscript_in p.layout m k ≡ Some v → Holds (units_of p.layout (homes_of p) s.cells (of_item k)) v.units
  subscript_holds done k s m v g e =
      units_hold p g.sound.items s.cells (storage m.storage m.counts) g.stands k 0 v.units (some_times p.layout g.sound.items k)
      (value_of_number (scale_of (form_at p.layout k)) (contents_value (form_at p.layout k) (bytes_at p.layout m.storage k)) v e)

  read_known : (done : List Part) (k : ℕ) (s : Seen) (m n : Moment) → Agrees p statement a x done s m → is_table p.layout k ≡ false → ReadsSubscript p.layout false k m n → AllKnown p statement a x (read_cells p (of_item k) s.cells) m
  read_known done k s m n g plain (v, e, same) =
      item_known p statement a x g.sound.items s.cells m k v (units_of p.layout (homes_of p) s.cells (of_item k)) plain g.stands.known e (subscript_holds done k s m v g e)

  pub subscript_keeps : (done : List Part) (last : Bool) (k : ℕ) (s : Seen) (m n : Moment) → Agrees p statement a x done s m → PassesPart p.layout (handled p a x) (subscript last k) m n
      → Agrees p statement a x (done ++ subscript last k ∷ []) (after_subscript p last k s) n
  subscript_keeps done last k s m n g h =
      let same = same_moment m n (subscript_leaves p.layout (skipped last m) k m n h.0) in
      chosen (λ (t : Seen). Agrees p statement a x (done ++ subscript last k ∷ []) t n) (shows_nothing p last k s) s (with_cells s (read_cells p (of_item k) s.cells))
      (λ e. quiet p statement a x done (subscript last k) s s m n g h refl refl same (seen_on s) g.stands.known)
      (λ e. quiet p statement a x done (subscript last k) s (with_cells s (read_cells p (of_item k) s.cells)) m n g h refl refl same (cells_on s (read_cells p (of_item k) s.cells))
      (let here = comes done last k s m g e in
      read_known done k s m n g here.1 (subst (λ (b : Bool). ReadsSubscript p.layout b k m n) here.0 h.0)))

  -- the item's numbers that name an occurrence
  cut_known : (done : List Part) (k count : ℕ) (s : Seen) (m n : Moment) → Agrees p statement a x done s m → is_table p.layout k ≡ false → Finds p.layout false k count m n
      → IsSomeAnd (indexed_cells p k count s.cells) (λ cells. AllKnown p statement a x cells m)
  cut_known done k count s m n g plain (v, e, at, found, same) =
      go (met (units_of p.layout (homes_of p) s.cells (of_item k)) (table count))
      (met_holds (units_of p.layout (homes_of p) s.cells (of_item k)) (table count) v.units (subscript_holds done k s m v g e) (found_in count v.units at found))
    where
      go : (o : Option Interval) → IsSomeAnd o (λ i. Holds i v.units) → IsSomeAnd (option_map (known_as p (of_item k) s.cells) o) (λ cells. AllKnown p statement a x cells m)
      go None f = absurd f
      go (Some i) f = item_known p statement a x g.sound.items s.cells m k v i plain g.stands.known e f

  pub index_keeps : (done : List Part) (last : Bool) (k count : ℕ) (s : Seen) (m n : Moment) → Agrees p statement a x done s m → PassesPart p.layout (handled p a x) (index last k count) m n
      → IsSeen (walking p statement a x) (after_index p last k count s) (λ t. Agrees p statement a x (done ++ index last k count ∷ []) t n)
  index_keeps done last k count s m n g h = go (shows_nothing p last k s) refl
    where
      go : (b : Bool) → shows_nothing p last k s ≡ b
          → IsSeen (walking p statement a x) (if b then Some s else with_cells_if s (indexed_cells p k count s.cells)) (λ t. Agrees p statement a x (done ++ index last k count ∷ []) t n)
      go true e =
          quiet p statement a x done (index last k count) s s m n g h refl refl (same_moment m n (index_leaves p.layout (skipped last m) k count m n h.0)) (seen_on s) g.stands.known
      go false e =
          seen_cells p statement a x done (index last k count) s m n (indexed_cells p k count s.cells) g h refl refl (same_moment m n (index_leaves p.layout (skipped last m) k count m n h.0))
          (let here = comes done last k s m g e in
          cut_known done k count s m n g here.1 (subst (λ (b : Bool). Finds p.layout b k count m n) here.0 h.0))

  -- ---- faults

  -- Each number that is known lies in the table: none is the fault of a subscript.
  pub index_cleared : (done : List Part) (k count : ℕ) (s : Seen) (m : Moment) (v : Scaled) (fault : Kind) → Agrees p statement a x done s m
      → lies_in_table count (units_of p.layout (homes_of p) s.cells (of_item k)) ≡ true → subscript_in p.layout m k ≡ Some v → in_table count v.units ≡ Err fault → ⊥
  index_cleared done k count s m v fault g clear e none =
      let i = units_of p.layout (homes_of p) s.cells (of_item k) in
      let inside = both_true (int_le (pos 1) i.low) (int_le i.high (pos count)) clear in
      let held = subscript_holds done k s m v g e in
      let low = inside.0 in
      let high = inside.1 in
      not_found count v.units fault none (let l = held.0 in omega (arith, ints, l, low), let h = held.1 in omega (arith, ints, h, high))
