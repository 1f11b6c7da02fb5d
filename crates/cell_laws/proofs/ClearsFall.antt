-- What is cleared where more is seen is cleared where less is.
use Rattle.std.proofs.Common.{◌≡◌, ℕ, true, ◌||◌, not, inl, inr, Option, Some, None, pos, refl, arith}
use Rattle.std.specs.Prelude.{int_le}
use Rattle.std.specs.Option.{option_map_or}
use Rattle.std.proofs.lemmas.Int.{ints}
use Rattle.dec_num.specs.declared.types.Mode.{Mode}
use Rattle.cob_tree.specs.declared.fault.Kind.{Kind}
use Rattle.cob_tree.specs.declared.fault.Kind.TheVariants as kind
use Rattle.cob_program.specs.Sum.{Atom}
use Rattle.cob_program.specs.Act.{Act, Program}
use Rattle.cob_runs.specs.declared.action.Action.{Action}
use Rattle.cob_runs.specs.Contents.{form_at}
use Rattle.cob_edge_parts.specs.Parts.{Amount, Part, read, unread, subscript, index, divide, store, bytes_in, guard, read_count, set_count, count_down, guard_count, has_phrase}
use Rattle.sum_ranges.specs.declared.ranged.Ranged.{Ranged}
use Rattle.sum_ranges.specs.SumRanges.{atom_range}
use Rattle.sum_ranges.specs.Vanishing.{holds_zero}
use Rattle.sum_ranges.proofs.Narrow.{atom_below}
use Rattle.sum_ranges.proofs.Vanish.{zero_rises}
use Rattle.transfer_ranges.specs.declared.amounts.Taken.{Taken}
use Rattle.transfer_ranges.specs.declared.amounts.AmountRange.{AmountRange}
use Rattle.transfer_ranges.specs.Receivers.{receiver_of, counter}
use Rattle.transfer_ranges.specs.Amounts.{IsNarrowerTakenIfAny}
use Rattle.transfer_ranges.specs.ResultRanges.{may_fail, lowered, count_may_fail}
use Rattle.cob_graph.specs.declared.homes.Home.TheVariants.{Item as of_item, Count as of_count}
use Rattle.cob_graph.specs.Homes.{homes_of}
use Rattle.cell_steps.specs.Cells.{units_of}
use Rattle.transfer_ranges.specs.EdgeOperands.{amount_of}
use Rattle.cell_steps.specs.Seen.{Seen}
use Rattle.cell_steps.specs.Stores.{range_at, with_taken}
use Rattle.cell_steps.specs.Clearing.{is_misfit, has_quotient, all_fit_of, all_fit, all_count, lies_in_table, clears_part}
use Rattle.cell_steps.specs.Order.{SeenBelow}
use Rattle.cell_laws.proofs.ResultLaws.{Given}
use Rattle.cell_laws.proofs.ItemRanges.{units_below, range_below, is_known_below, numeric_below}
use Rattle.cell_laws.proofs.OperandsRise.{or_rises, and_rises, AmountBelowIf, amount_below}
use Rattle.cell_laws.proofs.PartsRise.{le_test, test_le, not_falls, TakenBelow, taken_rises}
use Rattle.cell_laws.proofs.PartsDone.{both_true, and_true}

module _ (given : Given) (p : Program) (a : Act) (x : Action) where
  module _ (s t : Seen) (h : TakenBelow given p a x s t) where
    all_fit_falls : (place : ℕ) (mode : Mode) (y : Amount) → all_fit p a x t place mode y ≡ true → all_fit p a x s place mode y ≡ true
    all_fit_falls place mode y e = and_rises (has_quotient y) (option_map_or (all_fit_of p a x t place mode y) t.common true) (option_map_or (all_fit_of p a x s place mode y) s.common true) (λ u. go s.common t.common h.below.common) e
      where
        amounts : (under : Option Ranged) (o q : Option AmountRange) → AmountBelowIf under o q
            → option_map_or (λ r. not (may_fail mode (receiver_of (form_at p.layout place)) r)) q true ≡ true → option_map_or (λ r. not (may_fail mode (receiver_of (form_at p.layout place)) r)) o true ≡ true
        amounts under None q m f = refl
        amounts under (Some u) None (inl m) f = absurd m
        amounts under (Some u) None (inr m) f = absurd (let k = m.0 in cc)
        amounts under (Some u) (Some v) (inl m) f =
            not_falls (may_fail mode (receiver_of (form_at p.layout place)) v) (may_fail mode (receiver_of (form_at p.layout place)) u) (given.fails_ mode (receiver_of (form_at p.layout place)) u v m) f
        amounts under (Some u) (Some v) (inr m) f = absurd (let k = m.0 in cc)

        go : (o q : Option Taken) → IsNarrowerTakenIfAny o q → option_map_or (all_fit_of p a x t place mode y) q true ≡ true → option_map_or (all_fit_of p a x s place mode y) o true ≡ true
        go None q m f = refl
        go (Some c) None m f = absurd m
        go (Some c) (Some d) m f =
            amounts c.under (amount_of y (range_at p s.cells place) c) (amount_of y (range_at p t.cells place) d)
            (amount_below given y (range_at p s.cells place) (range_at p t.cells place) c d (range_below p.layout (homes_of p) s.cells t.cells h.below.fits h.below.cells place) m) f

    all_count_falls : all_count p a x t ≡ true → all_count p a x s ≡ true
    all_count_falls e = go s.common t.common h.below.common e
      where
        go : (o q : Option Taken) → IsNarrowerTakenIfAny o q → option_map_or (λ c. not (count_may_fail c.top.units)) q true ≡ true → option_map_or (λ c. not (count_may_fail c.top.units)) o true ≡ true
        go None q m f = refl
        go (Some c) None m f = absurd m
        go (Some c) (Some d) m f = not_falls (count_may_fail d.top.units) (count_may_fail c.top.units) (given.exceeds_ counter.digits c.top.units d.top.units (m.top.low, m.top.high)) f

  store_clears_below : (place : ℕ) (mode : Mode) (y : Amount) (s t : Seen) (fault : Kind) → SeenBelow p a x s t
      → (has_phrase a || (not (is_misfit y fault) || all_fit p a x (with_taken p a x t) place mode y)) ≡ true
      → (has_phrase a || (not (is_misfit y fault) || all_fit p a x (with_taken p a x s) place mode y)) ≡ true
  store_clears_below place mode y s t fault h e =
      or_rises (has_phrase a) (not (is_misfit y fault) || all_fit p a x (with_taken p a x t) place mode y) (has_phrase a) (not (is_misfit y fault) || all_fit p a x (with_taken p a x s) place mode y) (λ f. f)
      (or_rises (not (is_misfit y fault)) (all_fit p a x (with_taken p a x t) place mode y) (not (is_misfit y fault)) (all_fit p a x (with_taken p a x s) place mode y) (λ f. f)
      (all_fit_falls (with_taken p a x s) (with_taken p a x t) (taken_rises given p a x s t h) place mode y)) e

  divide_clears_below : (d : Atom) (s t : Seen) → SeenBelow p a x s t
      → (has_phrase a || not (holds_zero (atom_range (range_at p t.cells) d))) ≡ true → (has_phrase a || not (holds_zero (atom_range (range_at p s.cells) d))) ≡ true
  divide_clears_below d s t h e =
      or_rises (has_phrase a) (not (holds_zero (atom_range (range_at p t.cells) d))) (has_phrase a) (not (holds_zero (atom_range (range_at p s.cells) d))) (λ f. f)
      (not_falls (holds_zero (atom_range (range_at p t.cells) d)) (holds_zero (atom_range (range_at p s.cells) d))
      (zero_rises (atom_range (range_at p s.cells) d) (atom_range (range_at p t.cells) d)
      (atom_below (range_at p s.cells) (range_at p t.cells) (range_below p.layout (homes_of p) s.cells t.cells h.fits h.cells) d))) e

  down_clears_below : (n : ℕ) (s t : Seen) → SeenBelow p a x s t
      → not (count_may_fail (lowered (units_of p.layout (homes_of p) t.cells (of_count n)))) ≡ true → not (count_may_fail (lowered (units_of p.layout (homes_of p) s.cells (of_count n)))) ≡ true
  down_clears_below n s t h e =
      let w = units_below p.layout (homes_of p) s.cells t.cells (of_count n) h.fits h.cells in
      not_falls (count_may_fail (lowered (units_of p.layout (homes_of p) t.cells (of_count n)))) (count_may_fail (lowered (units_of p.layout (homes_of p) s.cells (of_count n))))
      (given.exceeds_ counter.digits (lowered (units_of p.layout (homes_of p) s.cells (of_count n))) (lowered (units_of p.layout (homes_of p) t.cells (of_count n)))
      (let l = w.low in omega (arith, ints, l), let m = w.high in omega (arith, ints, m))) e

  -- fewer numbers lie in the table too
  index_clears_below : (k count : ℕ) (s t : Seen) → SeenBelow p a x s t
      → lies_in_table count (units_of p.layout (homes_of p) t.cells (of_item k)) ≡ true → lies_in_table count (units_of p.layout (homes_of p) s.cells (of_item k)) ≡ true
  index_clears_below k count s t h e =
      let i = units_of p.layout (homes_of p) s.cells (of_item k) in
      let j = units_of p.layout (homes_of p) t.cells (of_item k) in
      let w = units_below p.layout (homes_of p) s.cells t.cells (of_item k) h.fits h.cells in
      let both = both_true (int_le (pos 1) j.low) (int_le j.high (pos count)) e in
      let low = le_test (pos 1) j.low both.0 in
      let high = le_test j.high (pos count) both.1 in
      and_true (int_le (pos 1) i.low) (int_le i.high (pos count))
      (test_le (pos 1) i.low (let l = w.low in omega (arith, ints, l, low))) (test_le i.high (pos count) (let m = w.high in omega (arith, ints, m, high)))

  pub clears_below : (y : Part) (s t : Seen) (fault : Kind) → SeenBelow p a x s t → clears_part p a x y t fault ≡ true → clears_part p a x y s fault ≡ true
  clears_below (read place) s t kind.Class h e = numeric_below p.layout (homes_of p) s.cells t.cells h.cells place e
  clears_below (read place) s t kind.Size h e = refl
  clears_below (read place) s t kind.Zero h e = refl
  clears_below (read place) s t kind.Truncation h e = refl
  clears_below (read place) s t kind.Subscript h e = refl
  clears_below unread s t kind.Class h e = e
  clears_below unread s t kind.Size h e = refl
  clears_below unread s t kind.Zero h e = refl
  clears_below unread s t kind.Truncation h e = refl
  clears_below unread s t kind.Subscript h e = refl
  clears_below (subscript last k) s t kind.Class h e = numeric_below p.layout (homes_of p) s.cells t.cells h.cells k e
  clears_below (subscript last k) s t kind.Size h e = refl
  clears_below (subscript last k) s t kind.Zero h e = refl
  clears_below (subscript last k) s t kind.Truncation h e = refl
  clears_below (subscript last k) s t kind.Subscript h e = refl
  clears_below (index last k count) s t kind.Subscript h e = index_clears_below k count s t h e
  clears_below (index last k count) s t kind.Size h e = refl
  clears_below (index last k count) s t kind.Zero h e = refl
  clears_below (index last k count) s t kind.Class h e = refl
  clears_below (index last k count) s t kind.Truncation h e = refl
  clears_below (divide d) s t kind.Zero h e = divide_clears_below d s t h e
  clears_below (divide d) s t kind.Size h e = refl
  clears_below (divide d) s t kind.Class h e = refl
  clears_below (divide d) s t kind.Truncation h e = refl
  clears_below (divide d) s t kind.Subscript h e = refl
  clears_below (store place mode y) s t fault h e = store_clears_below place mode y s t fault h e
  clears_below (bytes_in offset count) s t fault h e = refl
  clears_below (guard v wanted) s t fault h e = refl
  clears_below (read_count n) s t kind.Class h e = is_known_below p.layout (homes_of p) s.cells t.cells h.cells (of_count n) e
  clears_below (read_count n) s t kind.Size h e = refl
  clears_below (read_count n) s t kind.Zero h e = refl
  clears_below (read_count n) s t kind.Truncation h e = refl
  clears_below (read_count n) s t kind.Subscript h e = refl
  clears_below (set_count n y) s t kind.Size h e = all_count_falls (with_taken p a x s) (with_taken p a x t) (taken_rises given p a x s t h) e
  clears_below (set_count n y) s t kind.Zero h e = refl
  clears_below (set_count n y) s t kind.Class h e = refl
  clears_below (set_count n y) s t kind.Truncation h e = refl
  clears_below (set_count n y) s t kind.Subscript h e = refl
  clears_below (count_down n) s t kind.Size h e = down_clears_below n s t h e
  clears_below (count_down n) s t kind.Zero h e = refl
  clears_below (count_down n) s t kind.Class h e = refl
  clears_below (count_down n) s t kind.Truncation h e = refl
  clears_below (count_down n) s t kind.Subscript h e = refl
  clears_below (guard_count n wanted) s t fault h e = refl
