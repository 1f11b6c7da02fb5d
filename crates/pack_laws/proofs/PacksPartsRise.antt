-- What a part that a run passes makes of a lower matrix of one pack is lower.
use Rattle.std.proofs.Common.{◌≡◌, ℕ, ◌+◌, Bool, true, false, List, [], ℤ, Option, Some, None, refl, sym, ap, subst}
use Rattle.std.specs.Prelude.{◌&&◌, nat_le, is_some}
use Rattle.std.specs.Option.{option_map}
use Rattle.std.proofs.lemmas.Bool.{false≢true}
use Rattle.cob_data.specs.declared.extent.Extent.{Extent}
use Rattle.interval_domain.specs.declared.bounds.Interval.{Interval}
use Rattle.cob_tree.specs.declared.token.Rel.{Rel}
use Rattle.cob_program.specs.Sum.{Sum}
use Rattle.cob_program.specs.Values.{◌>>=◌}
use Rattle.cob_program.specs.Logic.{numbers, texts, member, numeric, always}
use Rattle.cob_program.specs.Act.{Act, Program}
use Rattle.cob_runs.specs.declared.action.Action.{Action}
use Rattle.cob_runs.specs.Deciding.{below, equal, above, holds}
use Rattle.cob_edge_parts.specs.Parts.{Part, read, unread, subscript, index, divide, store, bytes_in, guard, read_count, set_count, count_down, guard_count}
use Rattle.diff_bounds.specs.declared.form.lin.Lin.{Lin}
use Rattle.diff_bounds.specs.Matrix.{word, IsMatrix}
use Rattle.diff_bounds.specs.Values.{AreLower}
use Rattle.sum_ranges.specs.declared.ranged.Ranged.{Ranged}
use Rattle.sum_ranges.specs.Ranged as range
use Rattle.sum_ranges.specs.SumRanges.{sum_range}
use Rattle.sum_ranges.proofs.Narrow.{sum_below}
use Rattle.transfer_ranges.specs.declared.amounts.Taken.{Taken}
use Rattle.transfer_ranges.specs.ResultRanges.{count_range}
use Rattle.transfer_ranges.specs.declared.cuts.Cuts.{Cuts}
use Rattle.transfer_ranges.specs.Sides.{is_wanted}
use Rattle.transfer_ranges.specs.Guards.{lone_item, sides_cut}
use Rattle.interval_domain.specs.Known.{Known}
use Rattle.cob_graph.specs.declared.homes.Home.TheVariants.{Count as of_count}
use Rattle.cob_graph.specs.Homes.{homes_of}
use Rattle.cell_steps.specs.Cells.{is_in_extent, bytes_from}
use Rattle.cell_steps.specs.Seen.{Seen}
use Rattle.cell_steps.specs.Stores.{range_at, with_taken, result_at, may_fail, stored_cells, stored_element, behind_store}
use Rattle.cell_steps.specs.Steps.{known_as, all_cut, with_cells_if, step}
use Rattle.cell_steps.specs.Order.{SeenBelow}
use Rattle.cell_laws.proofs.ItemRanges.{range_below}
use Rattle.cell_laws.proofs.PartsRise.{taken_rises}
use Rattle.cell_laws.proofs.ResultLawsHold.{rising}
use Rattle.diff_steps.specs.Packs.{Pack, size_of, pack_decimals}
use Rattle.diff_steps.specs.Forms.{cell_at, set_form, lowered_form}
use Rattle.diff_steps.specs.Guards.{difference_form, has_decimals, are_fine, ordered}
use Rattle.diff_steps.specs.Steps.{guarded_pack, changed_pack}
use Rattle.pack_laws.specs.Orders.{AreLowerOff}
use Rattle.pack_laws.proofs.FormsRise.{are_taken, difference_narrower, lowered_narrower, set_narrower}
use Rattle.pack_laws.proofs.PacksPutRise.{matrix_is_flat, lower_of}
use Rattle.pack_laws.proofs.PacksWordsRise.{matrix_has_top, cells_rise, ordered_rises}
use Rattle.pack_laws.proofs.PacksStoresRise.{store_rises, counted_rises}

-- ---- parts that are passed

-- a store that a run passes fits, where it can't fail
store_fits : (p : Program) (t u : Seen) (place : ℕ) (fails : Bool) (o : Option Interval) → behind_store t fails (stored_element fails t.cells (option_map (stored_cells p place t.cells) o)) ≡ Some u → fails ≡ false → is_some o ≡ true
store_fits p t u place true o e f = absurd (false≢true (sym f))
store_fits p t u place false None e f = absurd cc
store_fits p t u place false (Some i) e f = refl

-- both sides of a test that is passed have a range
record HaveRanges (o q : Option Ranged) : Type 0 where
  left : Ranged
  left_is : o ≡ Some left
  right : Ranged
  right_is : q ≡ Some right

sides_there : (s u : Seen) (f : Cuts → List Known) (next : Ranged → Ranged → Option Cuts) (o q : Option Ranged) → with_cells_if s (option_map f (o >>= λ v. q >>= λ w. next v w)) ≡ Some u → HaveRanges o q
sides_there s u f next None q e = absurd cc
sides_there s u f next (Some v) None e = absurd cc
sides_there s u f next (Some v) (Some w) e = record { left = v; left_is = refl; right = w; right_is = refl }

-- operands that a counter is set to
operands_there : (p : Program) (t u : Seen) (statement : ℕ) (o : Option Taken) → with_cells_if t (option_map (known_as p (of_count statement) t.cells) (o >>= λ c. count_range c.top.units)) ≡ Some u → (c : Taken) × (o ≡ Some c)
operands_there p t u statement None e = absurd cc
operands_there p t u statement (Some c) e = (c, refl)

-- ---- decimals
both_same : (b c d e : Bool) → b ≡ d → c ≡ e → (b && c) ≡ (d && e)
both_same b c d e h k = rw (h, k) refl

-- narrower ranges have the same decimals
decimals_same : (f : ℕ) (cell more : ℕ → Option ℕ) (narrow wide : ℕ → Ranged) (o q : Option Ranged) (r : Ranged) → o ≡ Some r → range.IsBelow o q → has_decimals f cell narrow o ≡ has_decimals f more wide q
decimals_same f cell more narrow wide None q r e h = absurd cc
decimals_same f cell more narrow wide (Some v) None r e h = absurd h
decimals_same f cell more narrow wide (Some v) (Some w) r e h = ap (λ (k : ℕ). nat_le k f) h.scale

-- ---- one pack
module _ (p : Program) (a : Act) (x : Action) (s t : Seen) (under : SeenBelow p a x s t) (wrote : List Extent) (pack : Pack) (m n : List ℤ) (is : IsMatrix (size_of pack) m) (are : IsMatrix (size_of pack) n) (lower : AreLowerOff (size_of pack) m n) where
  all_lower : AreLower (size_of pack + 1) (word (size_of pack + 1) m) (word (size_of pack + 1) n)
  all_lower = lower_of (size_of pack) m n (matrix_is_flat (size_of pack) m is) (matrix_is_flat (size_of pack) n are) lower

  ranges : (place : ℕ) → range.IsNarrower (range_at p s.cells place) (range_at p t.cells place)
  ranges = range_below p.layout (homes_of p) s.cells t.cells under.fits under.cells

  -- ---- tests

  module _ (b : Sum) (r : Rel) (c : Sum) (wanted : Bool) (have : HaveRanges (sum_range (range_at p s.cells) b) (sum_range (range_at p s.cells) c)) where
    abbrev is_fine : Seen → Bool
    is_fine k = are_fine (pack_decimals p.layout pack) (cell_at p pack k []) (range_at p k.cells) b c

    abbrev difference : Seen → Option Lin
    difference k = difference_form (pack_decimals p.layout pack) (cell_at p pack k []) (range_at p k.cells) b c

    fine_same : is_fine s ≡ is_fine t
    fine_same =
        both_same _ _ _ _
        (decimals_same (pack_decimals p.layout pack) (cell_at p pack s []) (cell_at p pack t []) (range_at p s.cells) (range_at p t.cells) (sum_range (range_at p s.cells) b) (sum_range (range_at p t.cells) b) have.left have.left_is (sum_below (range_at p s.cells) (range_at p t.cells) ranges b))
        (decimals_same (pack_decimals p.layout pack) (cell_at p pack s []) (cell_at p pack t []) (range_at p s.cells) (range_at p t.cells) (sum_range (range_at p s.cells) c) (sum_range (range_at p t.cells) c) have.right have.right_is (sum_below (range_at p s.cells) (range_at p t.cells) ranges c))

    test_rises : AreLowerOff (size_of pack) (guarded_pack p a x s (numbers b r c) wanted pack m) (guarded_pack p a x t (numbers b r c) wanted pack n)
    test_rises =
        let l = is_wanted wanted (holds r below) in
        let e = is_wanted wanted (holds r equal) in
        let g = is_wanted wanted (holds r above) in
        subst (λ (fine : Bool). AreLowerOff (size_of pack) (ordered (size_of pack) (is_fine s) (difference s) l e g m) (ordered (size_of pack) fine (difference t) l e g n)) fine_same
        (ordered_rises (size_of pack) m n all_lower (is_fine s) (difference s) (difference t) l e g
        (difference_narrower p a x pack s t under b c have.left have.right have.left_is have.right_is))

  -- ---- all parts

  pub changed_rises : (y : Part) (after : Seen) → step p a x y s ≡ Some after → AreLowerOff (size_of pack) (changed_pack p a x y s wrote pack m) (changed_pack p a x y t wrote pack n)
  changed_rises (read place) after e = lower
  changed_rises unread after e = lower
  changed_rises (subscript last k) after e = lower
  changed_rises (index last k count) after e = lower
  changed_rises (divide d) after e = lower
  changed_rises (store place mode y) after e =
      store_rises p a x (with_taken p a x s) (with_taken p a x t) (taken_rises rising p a x s t under) wrote place mode y pack m n is are all_lower
      (store_fits p (with_taken p a x s) after place (may_fail p a x (with_taken p a x s) place mode y) (result_at p a x (with_taken p a x s) place mode y) e)
  changed_rises (bytes_in offset count) after e =
      cells_rise (size_of pack) (is_in_extent p.layout (bytes_from offset count)) (is_in_extent p.layout (bytes_from offset count)) 1 pack m n (λ h f. f) (matrix_has_top (size_of pack) m is) (λ i j l g ne u v. lower.words i j l g ne)
  changed_rises (guard (numbers b r c) wanted) after e =
      test_rises b r c wanted
      (sides_there s after (all_cut p s.cells) (λ v w. sides_cut (lone_item b) v r (lone_item c) w wanted) (sum_range (range_at p s.cells) b) (sum_range (range_at p s.cells) c) e)
  changed_rises (guard (texts y r z) wanted) after e = lower
  changed_rises (guard (member place ps) wanted) after e = lower
  changed_rises (guard (numeric place) wanted) after e = lower
  changed_rises (guard always wanted) after e = lower
  changed_rises (read_count k) after e = lower
  changed_rises (set_count k y) after e =
      let u = with_taken p a x s in
      let v = with_taken p a x t in
      let taken = (taken_rises rising p a x s t under).below in
      let some = operands_there p u after k u.common e in
      counted_rises p a x k pack m n all_lower (set_form p pack u wrote y) (set_form p pack v wrote y)
      (set_narrower p a x pack u v taken wrote y (are_taken u.common v.common some.0 some.1 taken.common))
  changed_rises (count_down k) after e =
      counted_rises p a x k pack m n all_lower (lowered_form p pack s wrote k) (lowered_form p pack t wrote k) (lowered_narrower p a x pack s t under wrote k)
  changed_rises (guard_count k wanted) after e = lower
