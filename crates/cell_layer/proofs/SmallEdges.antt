-- What is kept of operands changes neither what an edge makes of cells nor what it clears, where its parts are small.
use Rattle.std.proofs.Common.{◌≡◌, ℕ, Bool, true, false, ◌||◌, ◌&&◌, not, if◌then◌else◌, List, [], ◌∷◌, Option, Some, None, refl, sym, ap, ◌∙◌}
use Rattle.std.specs.List.{AllByRecursion}
use Rattle.std.specs.Option.{option_map, option_map_or}
use Rattle.dec_num.specs.declared.types.Mode.{Mode}
use Rattle.cob_tree.specs.declared.fault.Kind.{Kind}
use Rattle.cob_tree.specs.declared.fault.Kind.TheVariants as kind
use Rattle.cob_program.specs.Values.{◌>>=◌}
use Rattle.cob_program.specs.Sum.{Atom}
use Rattle.cob_program.specs.Act.{Act, Program}
use Rattle.cob_runs.specs.declared.action.Action.{Action}
use Rattle.cob_edge_parts.specs.Parts.{Amount, Part, read, unread, subscript, index, divide, store, bytes_in, guard, read_count, set_count, count_down, guard_count, has_phrase}
use Rattle.sum_ranges.specs.SumRanges.{atom_range}
use Rattle.sum_ranges.specs.Vanishing.{may_be_zero}
use Rattle.transfer_ranges.specs.declared.amounts.Taken.{Taken}
use Rattle.transfer_ranges.specs.ResultRanges.{count_range, lowered}
use Rattle.interval_domain.specs.Known.{Known}
use Rattle.cob_graph.specs.declared.homes.Home.TheVariants.{Item as of_item, Count as of_count}
use Rattle.cob_graph.specs.Homes.{homes_of}
use Rattle.cell_steps.specs.Cells.{is_table, units_of}
use Rattle.cell_steps.specs.Seen.{Seen, beginning, with_cells, with_zero}
use Rattle.cell_steps.specs.Stores.{range_at, handled, taking, with_taken, stored}
use Rattle.cell_steps.specs.Steps.{can_divide, known_as, read_cells, guarded_cells, counted_cells, with_cells_if, after_read, after_bytes, after_count, after_divide, step, shows_nothing, after_subscript, after_index, indexed_cells}
use Rattle.cell_steps.specs.Clearing.{is_misfit, all_fit, all_count, clears_part, clears_parts}
use Rattle.cell_steps.specs.Edges.{steps, finished}
use Rattle.cell_laws.specs.Sizes.{sends_small, IsSmallPart}
use Rattle.cell_layer.specs.Walks.{with_common, if_sent_small, trimmed, with_taken_small, step_small, clears_small, steps_small, clears_all_small}

module _ (p : Program) (a : Act) (x : Action) where
  abbrev trim : Seen → Seen
  trim s = trimmed p a x s

  -- ---- where a small number is sent all is kept

  all_kept : sends_small p a x ≡ true → (o : Option Taken) → if_sent_small p a x o ≡ o
  all_kept e o = go (sends_small p a x) e
    where
      go : (b : Bool) → b ≡ true → (if b then o else None) ≡ o
      go true f = refl
      go false f = absurd cc

  same : sends_small p a x ≡ true → (s : Seen) → trim s ≡ s
  same e s = ap (with_common s) (all_kept e s.common)

  same_if : sends_small p a x ≡ true → (o : Option Seen) → o ≡ option_map (trimmed p a x) o
  same_if e None = refl
  same_if e (Some s) = ap Some (sym (same e s))

  -- ---- operands are taken

  taken_same : (s : Seen) → with_taken_small p a x (trim s) ≡ trim (with_taken p a x s)
  taken_same s = go s.written
    where
      go : (b : Bool) → (if b then trim s else trim (taking p a x s)) ≡ trim (if b then s else taking p a x s)
      go true = refl
      go false = refl

  pub all_is_taken : sends_small p a x ≡ true → (s : Seen) → with_taken_small p a x s ≡ with_taken p a x s
  all_is_taken e s = go s.written
    where
      go : (b : Bool) → (if b then s else trim (taking p a x s)) ≡ (if b then s else taking p a x s)
      go true = refl
      go false = same e (taking p a x s)

  -- ---- one part

  cells_if : (s : Seen) (o : Option (List Known)) → with_cells_if (trim s) o ≡ option_map (trimmed p a x) (with_cells_if s o)
  cells_if s None = refl
  cells_if s (Some cs) = refl

  read_if_same : (b : Bool) (place : ℕ) (s : Seen) →
      (if b then trim s else with_cells (trim s) (read_cells p (of_item place) s.cells)) ≡ trim (if b then s else with_cells s (read_cells p (of_item place) s.cells))
  read_if_same true place s = refl
  read_if_same false place s = refl

  read_same : (place : ℕ) (s : Seen) → after_read p place (trim s) ≡ trim (after_read p place s)
  read_same place s = read_if_same (s.may_zero || is_table p.layout place) place s

  subscript_same : (last : Bool) (k : ℕ) (s : Seen) → after_subscript p last k (trim s) ≡ trim (after_subscript p last k s)
  subscript_same last k s = read_if_same (shows_nothing p last k s) k s

  index_same : (last : Bool) (k count : ℕ) (s : Seen) → after_index p last k count (trim s) ≡ option_map (trimmed p a x) (after_index p last k count s)
  index_same last k count s = go (shows_nothing p last k s)
    where
      go : (b : Bool) → (if b then Some (trim s) else with_cells_if (trim s) (indexed_cells p k count s.cells))
          ≡ option_map (trimmed p a x) (if b then Some s else with_cells_if s (indexed_cells p k count s.cells))
      go true = refl
      go false = cells_if s (indexed_cells p k count s.cells)

  divide_same : (d : Atom) (s : Seen) → after_divide p a x d (trim s) ≡ option_map (trimmed p a x) (after_divide p a x d s)
  divide_same d s = go (handled p a x) (can_divide (atom_range (range_at p s.cells) d))
    where
      go : (h c : Bool) →
          (if h then Some (with_zero (trim s) (s.may_zero || may_be_zero (range_at p s.cells) d)) else (if c then Some (trim s) else None))
          ≡ option_map (trimmed p a x) (if h then Some (with_zero s (s.may_zero || may_be_zero (range_at p s.cells) d)) else (if c then Some s else None))
      go true c = refl
      go false true = refl
      go false false = refl

  stored_same : sends_small p a x ≡ true → (s : Seen) (place : ℕ) (mode : Mode) (y : Amount) →
      stored p a x (with_taken_small p a x (trim s)) place mode y ≡ option_map (trimmed p a x) (stored p a x (with_taken p a x s) place mode y)
  stored_same e s place mode y =
      ap (λ (t : Seen). stored p a x t place mode y) (taken_same s ∙ same e (with_taken p a x s))
      ∙ same_if e (stored p a x (with_taken p a x s) place mode y)

  count_same : sends_small p a x ≡ true → (s : Seen) (n : ℕ) →
      after_count p n (with_taken_small p a x (trim s)) ≡ option_map (trimmed p a x) (after_count p n (with_taken p a x s))
  count_same e s n =
      ap (λ (t : Seen). after_count p n t) (taken_same s ∙ same e (with_taken p a x s))
      ∙ same_if e (after_count p n (with_taken p a x s))

  pub step_same : (y : Part) (s : Seen) → IsSmallPart p a x y → step_small p a x y (trim s) ≡ option_map (trimmed p a x) (step p a x y s)
  step_same (read place) s h = ap Some (read_same place s)
  step_same unread s h = refl
  step_same (subscript last k) s h = ap Some (subscript_same last k s)
  step_same (index last k count) s h = index_same last k count s
  step_same (divide d) s h = divide_same d s
  step_same (store place mode y) s h = stored_same h.sender s place mode y
  step_same (bytes_in offset count) s h = ap (λ (t : Seen). Some (after_bytes p offset count t)) (taken_same s)
  step_same (guard t wanted) s h = cells_if s (guarded_cells p t wanted s.cells)
  step_same (read_count n) s h = refl
  step_same (set_count n y) s h = count_same h.1 s n
  step_same (count_down n) s h =
      cells_if s (option_map (known_as p (of_count n) s.cells)
      (count_range (lowered (units_of p.layout (homes_of p) s.cells (of_count n)))))
  step_same (guard_count n wanted) s h = cells_if s (counted_cells p n wanted s.cells)

  store_clears_same : sends_small p a x ≡ true → (s : Seen) (place : ℕ) (mode : Mode) (y : Amount) (fault : Kind) →
      clears_small p a x (store place mode y) (trim s) fault ≡ clears_part p a x (store place mode y) s fault
  store_clears_same e s place mode y fault =
      ap (λ (t : Seen). has_phrase a || (not (is_misfit y fault) || all_fit p a x t place mode y)) (taken_same s ∙ same e (with_taken p a x s))

  count_clears_same : sends_small p a x ≡ true → (s : Seen) → all_count p a x (with_taken_small p a x (trim s)) ≡ all_count p a x (with_taken p a x s)
  count_clears_same e s = ap (λ (t : Seen). all_count p a x t) (taken_same s ∙ same e (with_taken p a x s))

  pub clears_same : (y : Part) (s : Seen) (fault : Kind) → IsSmallPart p a x y → clears_small p a x y (trim s) fault ≡ clears_part p a x y s fault
  clears_same (read place) s kind.Class h = refl
  clears_same (read place) s kind.Size h = refl
  clears_same (read place) s kind.Zero h = refl
  clears_same (read place) s kind.Truncation h = refl
  clears_same (read place) s kind.Subscript h = refl
  clears_same unread s kind.Class h = refl
  clears_same unread s kind.Size h = refl
  clears_same unread s kind.Zero h = refl
  clears_same unread s kind.Truncation h = refl
  clears_same unread s kind.Subscript h = refl
  clears_same (subscript last k) s kind.Class h = refl
  clears_same (subscript last k) s kind.Size h = refl
  clears_same (subscript last k) s kind.Zero h = refl
  clears_same (subscript last k) s kind.Truncation h = refl
  clears_same (subscript last k) s kind.Subscript h = refl
  clears_same (index last k count) s kind.Class h = refl
  clears_same (index last k count) s kind.Size h = refl
  clears_same (index last k count) s kind.Zero h = refl
  clears_same (index last k count) s kind.Truncation h = refl
  clears_same (index last k count) s kind.Subscript h = refl
  clears_same (divide d) s kind.Class h = refl
  clears_same (divide d) s kind.Size h = refl
  clears_same (divide d) s kind.Zero h = refl
  clears_same (divide d) s kind.Truncation h = refl
  clears_same (divide d) s kind.Subscript h = refl
  clears_same (store place mode y) s fault h = store_clears_same h.sender s place mode y fault
  clears_same (bytes_in offset count) s fault h = refl
  clears_same (guard t wanted) s fault h = refl
  clears_same (read_count n) s kind.Class h = refl
  clears_same (read_count n) s kind.Size h = refl
  clears_same (read_count n) s kind.Zero h = refl
  clears_same (read_count n) s kind.Truncation h = refl
  clears_same (read_count n) s kind.Subscript h = refl
  clears_same (set_count n y) s kind.Size h = count_clears_same h.1 s
  clears_same (set_count n y) s kind.Class h = refl
  clears_same (set_count n y) s kind.Zero h = refl
  clears_same (set_count n y) s kind.Truncation h = refl
  clears_same (set_count n y) s kind.Subscript h = refl
  clears_same (count_down n) s kind.Class h = refl
  clears_same (count_down n) s kind.Size h = refl
  clears_same (count_down n) s kind.Zero h = refl
  clears_same (count_down n) s kind.Truncation h = refl
  clears_same (count_down n) s kind.Subscript h = refl
  clears_same (guard_count n wanted) s fault h = refl

  -- ---- all parts

  abbrev AreSmall : List Part → Type 0
  AreSmall ys = AllByRecursion (IsSmallPart p a x) ys

  then_same : (ys : List Part) (o : Option Seen) → ((s : Seen) → steps_small p a x ys (trim s) ≡ option_map (trimmed p a x) (steps p a x ys s)) →
      (option_map (trimmed p a x) o >>= λ t. steps_small p a x ys t) ≡ option_map (trimmed p a x) (o >>= λ t. steps p a x ys t)
  then_same ys None more = refl
  then_same ys (Some s) more = more s

  steps_same : (ys : List Part) (s : Seen) → AreSmall ys → steps_small p a x ys (trim s) ≡ option_map (trimmed p a x) (steps p a x ys s)
  steps_same [] s all = refl
  steps_same (y ∷ ys) s all =
      ap (λ (o : Option Seen). o >>= λ t. steps_small p a x ys t) (step_same y s all.0)
      ∙ then_same ys (step p a x y s) (λ t. steps_same ys t all.1)

  then_clears_same : (ys : List Part) (o : Option Seen) (fault : Kind) → ((s : Seen) → clears_all_small p a x ys (trim s) fault ≡ clears_parts p a x ys s fault) →
      option_map_or (λ t. clears_all_small p a x ys t fault) (option_map (trimmed p a x) o) true ≡ option_map_or (λ t. clears_parts p a x ys t fault) o true
  then_clears_same ys None fault more = refl
  then_clears_same ys (Some s) fault more = more s

  clears_all_same : (ys : List Part) (s : Seen) (fault : Kind) → AreSmall ys → clears_all_small p a x ys (trim s) fault ≡ clears_parts p a x ys s fault
  clears_all_same [] s fault all = refl
  clears_all_same (y ∷ ys) s fault all =
      ap (λ (b : Bool). b && option_map_or (λ t. clears_all_small p a x ys t fault) (step_small p a x y (trim s)) true) (clears_same y s fault all.0)
      ∙ (ap (λ (o : Option Seen). clears_part p a x y s fault && option_map_or (λ t. clears_all_small p a x ys t fault) o true) (step_same y s all.0)
      ∙ ap (λ (b : Bool). clears_part p a x y s fault && b) (then_clears_same ys (step p a x y s) fault (λ t. clears_all_same ys t fault all.1)))

  -- ---- from the beginning

  begins_same : (cells : List Known) → beginning cells ≡ trim (beginning cells)
  begins_same cells = go (sends_small p a x)
    where
      go : (b : Bool) → beginning cells ≡ with_common (beginning cells) (if b then None else None)
      go true = refl
      go false = refl

  finished_same : (o : Option Seen) → finished p a x (option_map (trimmed p a x) o) ≡ finished p a x o
  finished_same None = refl
  finished_same (Some s) = refl

  pub posts_are_small : (ys : List Part) (cells : List Known) → AreSmall ys →
      finished p a x (steps_small p a x ys (beginning cells)) ≡ finished p a x (steps p a x ys (beginning cells))
  posts_are_small ys cells all =
      ap (λ (s : Seen). finished p a x (steps_small p a x ys s)) (begins_same cells)
      ∙ (ap (finished p a x) (steps_same ys (beginning cells) all) ∙ finished_same (steps p a x ys (beginning cells)))

  pub clears_are_small : (ys : List Part) (cells : List Known) (fault : Kind) → AreSmall ys →
      clears_all_small p a x ys (beginning cells) fault ≡ clears_parts p a x ys (beginning cells) fault
  clears_are_small ys cells fault all =
      ap (λ (s : Seen). clears_all_small p a x ys s fault) (begins_same cells) ∙ clears_all_same ys (beginning cells) fault all
