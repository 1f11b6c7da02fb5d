-- Behind a part the walk can go on.
use Rattle.std.proofs.Common.{◌≡◌, ℕ, zero, suc, Bool, true, false, ◌||◌, if◌then◌else◌, List, [], ◌∷◌, Option, Some, None, refl, sym, ap, subst, ◌∙◌, arith}
use Rattle.std.specs.Prelude.{IfSome, slice_get}
use Rattle.std.proofs.lemmas.Int.{ints}
use Rattle.std.specs.List.{AllByRecursion}
use Rattle.std.specs.Option.{option_map}
use Rattle.std.proofs.lemmas.Option.{same_Some}
use Rattle.dec_num.specs.declared.types.Mode.{Mode}
use Rattle.interval_domain.specs.declared.bounds.Interval.{Interval}
use Rattle.cob_tree.specs.declared.form.Form.{Form}
use Rattle.cob_program.specs.declared.act.Stmt as declared_stmt
use Rattle.cob_program.specs.declared.act.Stmt.{out-Stmt}
use Rattle.cob_program.specs.declared.act.Act.TheFolds.{fold_out-Stmt}
use Rattle.cob_program.specs.ActView.{plain_act, plain_stmt}
use Rattle.cob_program.specs.Values.{◌>>=◌}
use Rattle.cob_program.specs.Sum.{Atom}
use Rattle.cob_program.specs.Act.{Act, Stmt, Program}
use Rattle.cob_runs.specs.declared.action.Action.{Action}
use Rattle.cob_runs.specs.Contents.{form_at}
use Rattle.cob_calc.specs.Contents.{bound_at}
use Rattle.cob_edge_parts.specs.Parts.{Amount, Part, read, unread, subscript, index, divide, store, bytes_in, guard, read_count, set_count, count_down, guard_count}
use Rattle.edge_parts.specs.PartView.{edge_parts}
use Rattle.sum_ranges.specs.SumRanges.{atom_range}
use Rattle.sum_ranges.specs.Vanishing.{may_be_zero}
use Rattle.sum_ranges.specs.Working.{AreBounded}
use Rattle.transfer_ranges.specs.declared.amounts.Taken.{Taken}
use Rattle.transfer_ranges.specs.declared.amounts.AmountRange.{AmountRange}
use Rattle.transfer_ranges.specs.Receivers.{receiver_of}
use Rattle.transfer_ranges.specs.ResultRanges.{result_range, count_range, lowered}
use Rattle.transfer_ranges.specs.Sizes.{IsSmallAmount}
use Rattle.transfer_ranges.specs.Working.{CanSettleFor, CanWork, amount_from, units_from}
use Rattle.interval_domain.specs.Known.{Known, IsOrdered, KnownFits}
use Rattle.interval_domain.specs.Elements.{Element, CellsFit, ElementFits}
use Rattle.cob_graph.specs.declared.homes.Home.{Home}
use Rattle.cob_graph.specs.declared.homes.Home.TheVariants.{Item as of_item, Count as of_count}
use Rattle.cob_graph.specs.Homes.{homes_of}
use Rattle.cell_steps.specs.OwnRanges.{form_range, home_range, picture_range, owns}
use Rattle.cell_steps.specs.Cells.{is_table, units_of, forgotten, is_in_extent, bytes_from}
use Rattle.transfer_ranges.specs.EdgeOperands.{edge_operands}
use Rattle.cell_steps.specs.Seen.{Seen, with_cells, with_zero}
use Rattle.cell_steps.specs.Stores.{range_at, handled, keeps_receiver, taking, amount_at, result_at, may_fail, stored_cells, stored_element, behind_store, stored}
use Rattle.cell_steps.specs.Steps.{can_divide, known_as, read_cells, guarded_cells, counted_cells, indexed_cells, with_cells_if, shows_nothing, after_read, after_subscript, after_index, after_divide}
use Rattle.cell_laws.proofs.CellLists.{cells_reflexive, with_known_fits, forgotten_fits, stored_fits}
use Rattle.cell_laws.proofs.ResultsFit.{result_fits, count_fits}
use Rattle.cell_laws.proofs.PartsRise.{FitBelow, FitBelowIf, stored_cells_below, read_cells_below, guarded_below, counted_below, indexed_below}
use Rattle.cell_laws.proofs.ResultLawsHold.{rising}
use Rattle.cell_laws.specs.Sizes.{sends_small, IsSmallStore, IsSmallPart}
use Rattle.cell_layer.specs.NumberedStatements.{act_in}
use Rattle.cell_layer.specs.Walks.{if_sent_small, trimmed, with_taken_small, step_small, CanStep}
use Rattle.cell_layer.proofs.RangeBounds.{ranges_are_bounded}

-- ---- the part with a number

pub held_at : {X : Type 0} (P : X → Type 0) (xs : List X) (k : ℕ) (y : X) → AllByRecursion P xs → slice_get xs k ≡ Some y → P y
held_at P [] k y all at = absurd cc
held_at P (z ∷ xs) zero y all at = subst P (same_Some _ _ at) all.0
held_at P (z ∷ xs) (suc k) y all at = held_at P xs k y all.1 at

-- what a statement does
pub act_same : (s : declared_stmt.Stmt) → act_in (plain_stmt s) ≡ plain_act (out-Stmt s).act
act_same s = ap act_in (fold_out-Stmt _ _ _ _ _ _ _ _ s)

module _ (p : Program) (x : Action) where
  -- of an edge of a statement, seen through what the statement does
  pub small_part : (s : declared_stmt.Stmt) (k : ℕ) (y : Part) → AllByRecursion (IsSmallPart p (act_in (plain_stmt s)) x) (edge_parts p (plain_stmt s) x) →
      slice_get (edge_parts p (plain_stmt s) x) k ≡ Some y → IsSmallPart p (plain_act (out-Stmt s).act) x y
  small_part s k y all at =
      subst (λ (a : Act). IsSmallPart p a x y) (act_same s)
      (held_at (IsSmallPart p (act_in (plain_stmt s)) x) (edge_parts p (plain_stmt s) x) k y all at)

-- ---- what is stored

-- the units of a result lie in the receiver's own range
pub units_fit_form : (mode : Mode) (f : Form) (o : Option AmountRange) → IfSome (units_from mode (receiver_of f) o) (λ i. KnownFits (form_range f) (Some i))
units_fit_form mode f None = tt
units_fit_form mode f (Some r) = result_fits rising mode f r

ordered_if : (own : Interval) (o : Option Interval) → IfSome o (λ i. KnownFits own (Some i)) → IsOrdered o
ordered_if own None h = tt
ordered_if own (Some i) h = h.1

pub units_ordered : (mode : Mode) (f : Form) (o : Option AmountRange) → IsOrdered (units_from mode (receiver_of f) o)
units_ordered mode f o = ordered_if (form_range f) (units_from mode (receiver_of f) o) (units_fit_form mode f o)

module _ (p : Program) where
  itself : (cs : List Known) → CellsFit (owns p) cs → FitBelow p cs cs
  itself cs f = record { fits = f; below = cells_reflexive cs }

  put_fits : (place : ℕ) (cs : List Known) (o : Option Interval) → CellsFit (owns p) cs → IfSome o (λ i. KnownFits (form_range (form_at p.layout place)) (Some i)) →
      ElementFits (owns p) (option_map (stored_cells p place cs) o)
  put_fits place cs None f h = tt
  put_fits place cs (Some i) f h =
      (stored_cells_below p place cs cs i i (itself cs f) h (omega (arith, ints), omega (arith, ints))).fits

module _ (p : Program) (a : Act) (x : Action) where
  abbrev Can : Seen → Type 0
  Can s = CanStep p a x s

  -- ---- with other cells, or with more that happened

  with_other : (s : Seen) (cs : List Known) → Can s → CellsFit (owns p) cs → Can (with_cells s cs)
  with_other s cs can f = record { fits = f; taken = can.taken }

  with_others : (s : Seen) (o : Option (List Known)) → Can s → FitBelowIf p o o → IfSome (with_cells_if s o) (CanStep p a x)
  with_others s None can f = tt
  with_others s (Some cs) can f = with_other s cs can f.fits

  with_zero_can : (s : Seen) (b : Bool) → Can s → Can (with_zero s b)
  with_zero_can s b can = record { fits = can.fits; taken = can.taken }

  -- ---- operands are taken

  taking_can : (s : Seen) → Can s → Can (trimmed p a x (taking p a x s))
  taking_can s can = record {
    fits = can.fits;
    taken = λ e. record { range = range_at p s.cells; bounded = ranges_are_bounded p s.cells can.fits; same = refl };
  }

  pub taken_can : (s : Seen) → Can s → Can (with_taken_small p a x s)
  taken_can s can = go s.written
    where
      go : (b : Bool) → Can (if b then s else trimmed p a x (taking p a x s))
      go true = can
      go false = taking_can s can

  pub taken_written : (s : Seen) → (with_taken_small p a x s).written ≡ true
  taken_written s = go s.written refl
    where
      go : (b : Bool) → s.written ≡ b → (if b then s else trimmed p a x (taking p a x s)).written ≡ true
      go true e = e
      go false e = refl

  -- ---- what a store may be worked out of

  IsSent : sends_small p a x ≡ true → (o : Option Taken) → if_sent_small p a x o ≡ o
  IsSent e o = go (sends_small p a x) e
    where
      go : (b : Bool) → b ≡ true → (if b then o else None) ≡ o
      go true f = refl
      go false f = absurd cc

  module _ (s : Seen) (can : CanStep p a x s) (written : s.written ≡ true) (place : ℕ) (y : Amount) (small : IsSmallStore p a x place y) where
    same_taken : (edge_operands (can.taken written).range a x) ≡ s.common
    same_taken = sym ((can.taken written).same ∙ IsSent small.sender (edge_operands (can.taken written).range a x))

    own_bounded : AreBounded (range_at p s.cells) (bound_at p.layout)
    own_bounded = ranges_are_bounded p s.cells can.fits

    pub can_work : IfSome s.common (CanWork y (range_at p s.cells place))
    can_work =
        subst (λ (o : Option Taken). IfSome o (CanWork y (range_at p s.cells place))) same_taken
        (small.can (can.taken written).range (range_at p s.cells) (can.taken written).bounded own_bounded)

    pub small_amounts : IfSome (amount_from s.common y (range_at p s.cells place)) IsSmallAmount
    small_amounts =
        subst (λ (o : Option Taken). IfSome (amount_from o y (range_at p s.cells place)) IsSmallAmount) same_taken
        (small.small (can.taken written).range (range_at p s.cells) (can.taken written).bounded own_bounded)

    settles : (o : Option Taken) → IfSome o (CanWork y (range_at p s.cells place)) → IfSome o (CanSettleFor y)
    settles None h = tt
    settles (Some c) h = h.settled

    pub can_settle : IfSome s.common (CanSettleFor y)
    can_settle = settles s.common can_work

  -- ---- one part

  behind_can : (s : Seen) (fails : Bool) (o : Element) → Can s → ElementFits (owns p) o → IfSome (behind_store s fails o) (CanStep p a x)
  behind_can s fails None can f = tt
  behind_can s fails (Some cs) can f = record { fits = f; taken = can.taken }

  stored_can : (s : Seen) (place : ℕ) (mode : Mode) (y : Amount) → Can s → IfSome (stored p a x s place mode y) (CanStep p a x)
  stored_can s place mode y can =
      let units = result_at p a x s place mode y in
      behind_can s (may_fail p a x s place mode y) (stored_element (may_fail p a x s place mode y) s.cells (option_map (stored_cells p place s.cells) units)) can
      (stored_fits (owns p) (may_fail p a x s place mode y) s.cells (option_map (stored_cells p place s.cells) units) can.fits
      (put_fits p place s.cells units can.fits (by_keeping (keeps_receiver a x) (amount_at p a x s place y))))
    where
      by_keeping : (b : Bool) (o : Option AmountRange) → IfSome (if b then None else (o >>= result_range mode (receiver_of (form_at p.layout place)))) (λ i. KnownFits (form_range (form_at p.layout place)) (Some i))
      by_keeping true o = tt
      by_keeping false o = units_fit_form mode (form_at p.layout place) o

  read_if_can : (b : Bool) (place : ℕ) (s : Seen) → Can s → Can (if b then s else with_cells s (read_cells p (of_item place) s.cells))
  read_if_can true place s can = can
  read_if_can false place s can = with_other s (read_cells p (of_item place) s.cells) can (read_cells_below p (of_item place) s.cells s.cells (itself p s.cells can.fits)).fits

  read_can : (place : ℕ) (s : Seen) → Can s → Can (after_read p place s)
  read_can place s can = read_if_can (s.may_zero || is_table p.layout place) place s can

  subscript_can : (last : Bool) (k : ℕ) (s : Seen) → Can s → Can (after_subscript p last k s)
  subscript_can last k s can = read_if_can (shows_nothing p last k s) k s can

  index_can : (last : Bool) (k count : ℕ) (s : Seen) → Can s → IfSome (after_index p last k count s) (CanStep p a x)
  index_can last k count s can = go (shows_nothing p last k s)
    where
      go : (b : Bool) → IfSome (if b then Some s else with_cells_if s (indexed_cells p k count s.cells)) (CanStep p a x)
      go true = can
      go false = with_others s (indexed_cells p k count s.cells) can (indexed_below p k count s.cells s.cells (itself p s.cells can.fits))

  divide_can : (d : Atom) (s : Seen) → Can s → IfSome (after_divide p a x d s) (CanStep p a x)
  divide_can d s can = go (handled p a x) (can_divide (atom_range (range_at p s.cells) d))
    where
      go : (h c : Bool) → IfSome (if h then Some (with_zero s (s.may_zero || may_be_zero (range_at p s.cells) d)) else (if c then Some s else None)) (CanStep p a x)
      go true c = with_zero_can s (s.may_zero || may_be_zero (range_at p s.cells) d) can
      go false true = can
      go false false = tt

  known_can : (h : Home) (s : Seen) (o : Option Interval) → Can s → IfSome o (λ i. KnownFits (home_range p.layout h) (Some i)) →
      IfSome (with_cells_if s (option_map (known_as p h s.cells) o)) (CanStep p a x)
  known_can h s None can f = tt
  known_can h s (Some i) can f = with_other s (known_as p h s.cells i) can (with_known_fits p.layout (homes_of p) s.cells h (Some i) can.fits f)

  count_if : (o : Option Taken) → IfSome (o >>= λ c. count_range c.top.units) (λ i. KnownFits (picture_range 18 true) (Some i))
  count_if None = tt
  count_if (Some c) = count_fits rising c.top.units

  pub goes_on : (y : Part) (s : Seen) → Can s → IfSome (step_small p a x y s) (CanStep p a x)
  goes_on (read place) s can = read_can place s can
  goes_on unread s can = tt
  goes_on (subscript last k) s can = subscript_can last k s can
  goes_on (index last k count) s can = index_can last k count s can
  goes_on (divide d) s can = divide_can d s can
  goes_on (store place mode y) s can = stored_can (with_taken_small p a x s) place mode y (taken_can s can)
  goes_on (bytes_in offset count) s can =
      with_other (with_taken_small p a x s) (forgotten (is_in_extent p.layout (bytes_from offset count)) (homes_of p) (with_taken_small p a x s).cells) (taken_can s can)
      (forgotten_fits p.layout (is_in_extent p.layout (bytes_from offset count)) (homes_of p) (with_taken_small p a x s).cells (taken_can s can).fits)
  goes_on (guard t wanted) s can = with_others s (guarded_cells p t wanted s.cells) can (guarded_below p rising t wanted s.cells s.cells (itself p s.cells can.fits))
  goes_on (read_count n) s can =
      with_other s (read_cells p (of_count n) s.cells) can (read_cells_below p (of_count n) s.cells s.cells (itself p s.cells can.fits)).fits
  goes_on (set_count n y) s can = known_can (of_count n) (with_taken_small p a x s) ((with_taken_small p a x s).common >>= λ c. count_range c.top.units) (taken_can s can) (count_if (with_taken_small p a x s).common)
  goes_on (count_down n) s can =
      let down = lowered (units_of p.layout (homes_of p) s.cells (of_count n)) in
      known_can (of_count n) s (count_range down) can (count_fits rising down)
  goes_on (guard_count n wanted) s can = with_others s (counted_cells p n wanted s.cells) can (counted_below p rising n wanted s.cells s.cells (itself p s.cells can.fits))
