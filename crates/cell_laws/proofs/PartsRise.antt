-- Less is seen behind a part where less is seen before it.
use Rattle.std.proofs.Common.{◌≡◌, ℕ, Bool, true, false, ◌&&◌, ◌||◌, not, if◌then◌else◌, ◌⊎◌, inl, inr, List, length, Option, Some, None, ℤ, pos, ◌≤ℤ◌, refl, sym, subst, ◌∙◌, arith}
use Rattle.std.specs.Prelude.{IfSome, int_le, is_some}
use Rattle.std.specs.Option.{option_map, option_map_or}
use Rattle.std.proofs.lemmas.Int.{ints}
use Rattle.dec_num.specs.declared.types.Mode.{Mode}
use Rattle.cob_tree.specs.declared.form.Form.{Form}
use Rattle.cob_tree.specs.declared.form.Form.TheVariants as form
use Rattle.interval_domain.specs.declared.bounds.Interval.{Interval}
use Rattle.cob_program.specs.Sum.{Atom}
use Rattle.cob_program.specs.Values.{◌>>=◌}
use Rattle.cob_program.specs.Logic.{Test}
use Rattle.cob_program.specs.Act.{Act, Program}
use Rattle.cob_runs.specs.declared.action.Action.{Action}
use Rattle.cob_runs.specs.Contents.{form_at}
use Rattle.cob_edge_parts.specs.Parts.{Amount, Part, read, unread, subscript, index, divide, store, bytes_in, guard, read_count, set_count, count_down, guard_count}
use Rattle.sum_ranges.specs.declared.ranged.Ranged.{Ranged}
use Rattle.sum_ranges.specs.Ranged.{IsNarrower, IsBelow}
use Rattle.sum_ranges.specs.SumRanges.{atom_range}
use Rattle.sum_ranges.specs.Vanishing.{may_be_zero}
use Rattle.sum_ranges.proofs.Narrow.{atom_below}
use Rattle.sum_ranges.proofs.Vanish.{divisor_rises}
use Rattle.transfer_ranges.specs.declared.amounts.Taken.{Taken}
use Rattle.transfer_ranges.specs.declared.amounts.AmountRange.{AmountRange}
use Rattle.transfer_ranges.specs.Receivers.{receiver_of, counter}
use Rattle.transfer_ranges.specs.Amounts.{IsNarrowerTakenIfAny}
use Rattle.transfer_ranges.specs.Results.{IsInside, IsInsideIfAny}
use Rattle.transfer_ranges.specs.ResultRanges as result
use Rattle.transfer_ranges.specs.ResultRanges.{count_range, lowered}
use Rattle.transfer_ranges.specs.declared.cuts.Cut.{Cut}
use Rattle.transfer_ranges.specs.declared.cuts.Cuts.{Cuts}
use Rattle.transfer_ranges.specs.Guards.{guarded}
use Rattle.transfer_ranges.specs.Counts.{count_kept}
use Rattle.transfer_ranges.specs.Kept.{met}
use Rattle.cell_laws.proofs.Meetings.{table_cut, cut_rises}
use Rattle.transfer_ranges.specs.Meaning.{CutFits, CutsFit, SideBelow, CutsBelow}
use Rattle.interval_domain.specs.Known.{Known, KnownFits, KnownBelow}
use Rattle.interval_domain.specs.Elements.{Element, CellsFit, ElementFits, CellsBelow, ElementBelow}
use Rattle.cob_graph.specs.declared.homes.Home.{Home}
use Rattle.cob_graph.specs.declared.homes.Home.TheVariants.{Item as of_item, Count as of_count}
use Rattle.cob_graph.specs.Homes.{homes_of}
use Rattle.cell_steps.specs.OwnRanges.{home_range, form_range, picture_range, owns}
use Rattle.cell_steps.specs.Storages.{known_of}
use Rattle.cell_steps.specs.Cells.{is_table, units_of, is_numeric, with_known, forgotten, is_in_extent, bytes_from, is_beside}
use Rattle.transfer_ranges.specs.EdgeOperands.{operands_vanish, amount_of, may_divide_by_zero, is_remainder}
use Rattle.cell_steps.specs.Seen.{Seen, with_cells, with_zero}
use Rattle.cell_steps.specs.Stores.{handled, keeps_receiver, range_at, taking, with_taken, amount_at, result_at, may_exceed, may_fail, may_fit, stored_known, receiver_known, stored_cells, stored_element, behind_store, stored}
use Rattle.transfer_ranges.specs.Working.{may_vanish}
use Rattle.cell_steps.specs.Steps.{is_zero_alone, can_divide, table, known_as, read_cells, cut_cells, all_cut, guarded_cells, counted_cells, indexed_cells, with_cells_if, may_not_come, shows_nothing, after_read, after_subscript, after_index, after_divide, after_count, after_down, step}
use Rattle.cell_steps.specs.Order.{SeenBelow}
use Rattle.cell_laws.proofs.ResultLaws.{Given}
use Rattle.interval_domain.proofs.OneKnown.{known_join_fits}
use Rattle.cell_laws.proofs.CellLists.{both_chosen, known_fits, known_below, known_joined_below, cells_transitive, with_known_fits, forgotten_fits, with_known_below, forgotten_below, with_known_length, forgotten_length, read_below, HasLength, stored_below, stored_fits}
use Rattle.cell_laws.proofs.ItemRanges.{units_fit, units_below, range_ordered, range_below, knows_more}
use Rattle.cell_laws.proofs.OperandsRise.{or_left, or_right, or_either, or_rises, and_rises, untaken_operands, operands_vanish_rises, edge_operands_below, AmountBelowIf, amount_below, divisor_zero_rises}
use Rattle.cell_laws.proofs.ResultsFit.{result_fits, count_fits}
use Rattle.cell_laws.proofs.PartsDone.{both_true, and_true}

-- nothing lies below all
abbrev pub BelowIf : Program → Act → Action → Option Seen → Option Seen → Type 0
BelowIf p a x None t = Unit {0}
BelowIf p a x (Some s) None = ⊥
BelowIf p a x (Some s) (Some t) = SeenBelow p a x s t

-- ---- stored numbers

pub stored_known_fits : (table : Bool) (f : Form) (own : Interval) (old : Known) (i : Interval) → KnownFits own old → KnownFits own (Some i) → KnownFits own (stored_known table f old i)
stored_known_fits table form.Group own old i k n = tt
stored_known_fits table (form.Text m) own old i k n = tt
stored_known_fits false (form.Number digits scale signed kept) own old i k n = n
stored_known_fits true (form.Number digits scale signed kept) own old i k n = known_join_fits own old (Some i) k n
stored_known_fits table (form.Edited picture digits scale) own old i k n = tt

stored_known_below : (table : Bool) (f : Form) (c d : Known) (i j : Interval) → KnownBelow c d → IsInside i j → KnownBelow (stored_known table f c i) (stored_known table f d j)
stored_known_below table form.Group c d i j k n = tt
stored_known_below table (form.Text m) c d i j k n = tt
stored_known_below false (form.Number digits scale signed kept) c d i j k n = n
stored_known_below true (form.Number digits scale signed kept) c d i j k n = known_joined_below c (Some i) d (Some j) k n
stored_known_below table (form.Edited picture digits scale) c d i j k n = tt

-- ---- one home

cut_part : (own i j : Interval) → KnownFits own (Some i) → IsInside j i → j.low ≤ℤ j.high → KnownFits own (Some j)
cut_part own i j k inside ordered =
    let l = k.0 in let m = k.2 in let n = inside.0 in let q = inside.1 in
    (omega (arith, ints, l, n), ordered, omega (arith, ints, m, q))

module _ (p : Program) where
  -- some cells, all of their own ranges, below others
  pub record FitBelow (as_ bs : List Known) : Type 0 where
    pub fits : CellsFit (owns p) as_
    pub below : CellsBelow as_ bs

  abbrev pub FitBelowIf : Option (List Known) → Option (List Known) → Type 0
  FitBelowIf None bs = Unit {0}
  FitBelowIf (Some as_) None = ⊥
  FitBelowIf (Some as_) (Some bs) = FitBelow as_ bs

  pub set_below : (h : Home) (as_ bs : List Known) (c d : Known) → FitBelow as_ bs → KnownFits (home_range p.layout h) c → KnownBelow c d → FitBelow (with_known h c (homes_of p) as_) (with_known h d (homes_of p) bs)
  set_below h as_ bs c d f k n = record {
    fits = with_known_fits p.layout (homes_of p) as_ h c f.fits k;
    below = with_known_below (homes_of p) as_ bs h c d f.below n;
  }

  pub known_as_below : (h : Home) (as_ bs : List Known) (i j : Interval) → FitBelow as_ bs → KnownFits (home_range p.layout h) (Some i) → IsInside i j → FitBelow (known_as p h as_ i) (known_as p h bs j)
  known_as_below h as_ bs i j f k n = set_below h as_ bs (Some i) (Some j) f k n

  pub known_if_below : (h : Home) (as_ bs : List Known) (o q : Option Interval) → FitBelow as_ bs → IfSome o (λ i. KnownFits (home_range p.layout h) (Some i)) → IsInsideIfAny o q
      → FitBelowIf (option_map (known_as p h as_) o) (option_map (known_as p h bs) q)
  known_if_below h as_ bs None q f k n = tt
  known_if_below h as_ bs (Some i) None f k n = n
  known_if_below h as_ bs (Some i) (Some j) f k n = known_as_below h as_ bs i j f k n

  pub read_cells_below : (h : Home) (as_ bs : List Known) → FitBelow as_ bs → FitBelow (read_cells p h as_) (read_cells p h bs)
  read_cells_below h as_ bs f =
      let w = units_below p.layout (homes_of p) as_ bs h f.fits f.below in
      known_as_below h as_ bs (units_of p.layout (homes_of p) as_ h) (units_of p.layout (homes_of p) bs h) f
      (units_fit p.layout (homes_of p) as_ h f.fits) (w.low, w.high)

  -- a home is cut below, and not above
  pub cut_alone_below : (h : Home) (as_ bs : List Known) (i : Interval) → FitBelow as_ bs → IsInside i (units_of p.layout (homes_of p) as_ h) → i.low ≤ℤ i.high → FitBelow (known_as p h as_ i) bs
  cut_alone_below h as_ bs i f inside ordered =
      let w = units_below p.layout (homes_of p) as_ bs h f.fits f.below in
      let fits = cut_part (home_range p.layout h) (units_of p.layout (homes_of p) as_ h) i (units_fit p.layout (homes_of p) as_ h f.fits) inside ordered in
      let low = inside.0 in
      let high = inside.1 in
      let cut = known_as_below h as_ bs i (units_of p.layout (homes_of p) bs h) f fits (let l = w.low in omega (arith, ints, l, low), let m = w.high in omega (arith, ints, m, high)) in
      record {
        fits = cut.fits;
        below = cells_transitive (known_as p h as_ i) (read_cells p h bs) bs cut.below (read_below (home_range p.layout h) (homes_of p) bs h);
      }

  -- what is read below, and not above
  pub read_alone_below : (h : Home) (as_ bs : List Known) → FitBelow as_ bs → FitBelow (read_cells p h as_) bs
  read_alone_below h as_ bs f = record {
    fits = with_known_fits p.layout (homes_of p) as_ h (Some (units_of p.layout (homes_of p) as_ h)) f.fits (units_fit p.layout (homes_of p) as_ h f.fits);
    below = cells_transitive (read_cells p h as_) as_ bs (read_below (home_range p.layout h) (homes_of p) as_ h) f.below;
  }

  pub forgotten_fit_below : (gone : Home → Bool) (as_ bs : List Known) → FitBelow as_ bs → FitBelow (forgotten gone (homes_of p) as_) (forgotten gone (homes_of p) bs)
  forgotten_fit_below gone as_ bs f = record {
    fits = forgotten_fits p.layout gone (homes_of p) as_ f.fits;
    below = forgotten_below gone (homes_of p) as_ bs f.below;
  }

  -- behind a store into one of an item's occurrences
  pub stored_cells_below : (place : ℕ) (as_ bs : List Known) (i j : Interval) → FitBelow as_ bs → KnownFits (form_range (form_at p.layout place)) (Some i) → IsInside i j → FitBelow (stored_cells p place as_ i) (stored_cells p place bs j)
  stored_cells_below place as_ bs i j f k n =
      let gone = is_beside p.layout place in
      let table = is_table p.layout place in
      let form = form_at p.layout place in
      set_below (of_item place) (forgotten gone (homes_of p) as_) (forgotten gone (homes_of p) bs) (receiver_known p place as_ i) (receiver_known p place bs j) (forgotten_fit_below gone as_ bs f)
      (stored_known_fits table form (form_range form) (known_of (homes_of p) as_ (of_item place)) i (known_fits p.layout (homes_of p) as_ (of_item place) f.fits) k)
      (stored_known_below table form (known_of (homes_of p) as_ (of_item place)) (known_of (homes_of p) bs (of_item place)) i j (known_below (homes_of p) as_ bs (of_item place) f.below) n)

  -- ---- tests

  cut_fits : (cs : List Known) (range : ℕ → Ranged) (c : Cut) → (k : KnownFits (home_range p.layout (of_item c.item)) (Some (range c.item).units)) → CutFits range c → KnownFits (home_range p.layout (of_item c.item)) (Some c.units)
  cut_fits cs range c k f =
      let l = k.0 in let h = k.2 in
      (omega (arith, ints, l, f.low), f.ordered, omega (arith, ints, h, f.high))

  cut_below : (as_ bs : List Known) (range : ℕ → Ranged) (o q : Option Cut) → ((place : ℕ) → KnownFits (home_range p.layout (of_item place)) (Some (range place).units)) → FitBelow as_ bs → IfSome o (CutFits range) → SideBelow o q → FitBelow (cut_cells p as_ o) (cut_cells p bs q)
  cut_below as_ bs range None None k f c n = f
  cut_below as_ bs range None (Some d) k f c n = absurd n
  cut_below as_ bs range (Some e) None k f c n = absurd n
  cut_below as_ bs range (Some e) (Some d) k f c n =
      subst (λ (place : ℕ). FitBelow (cut_cells p as_ (Some e)) (if is_table p.layout place then bs else known_as p (of_item place) bs d.units)) n.same
      (both_chosen (λ cs ds. FitBelow cs ds) (is_table p.layout e.item) as_ (known_as p (of_item e.item) as_ e.units) bs (known_as p (of_item e.item) bs d.units)
      f (known_as_below (of_item e.item) as_ bs e.units d.units f (cut_fits as_ range e (k e.item) c) (n.low, n.high)))

  all_cut_below : (as_ bs : List Known) (range : ℕ → Ranged) (o q : Option Cuts) → ((place : ℕ) → KnownFits (home_range p.layout (of_item place)) (Some (range place).units)) → FitBelow as_ bs → IfSome o (CutsFit range) → CutsBelow o q
      → FitBelowIf (option_map (all_cut p as_) o) (option_map (all_cut p bs) q)
  all_cut_below as_ bs range None q k f c n = tt
  all_cut_below as_ bs range (Some e) None k f c n = n
  all_cut_below as_ bs range (Some e) (Some d) k f c n =
      cut_below (cut_cells p as_ e.left) (cut_cells p bs d.left) range e.right d.right k (cut_below as_ bs range e.left d.left k f c.0 n.0) c.1 n.1

  pub guarded_below : Given → (t : Test) (wanted : Bool) (as_ bs : List Known) → FitBelow as_ bs → FitBelowIf (guarded_cells p t wanted as_) (guarded_cells p t wanted bs)
  guarded_below given t wanted as_ bs f =
      all_cut_below as_ bs (range_at p as_)
      (guarded p.layout (range_at p as_) (is_numeric p.layout (homes_of p) as_) t wanted)
      (guarded p.layout (range_at p bs) (is_numeric p.layout (homes_of p) bs) t wanted)
      (λ place. units_fit p.layout (homes_of p) as_ (of_item place) f.fits) f
      (given.cuts_ p.layout (range_at p as_) (is_numeric p.layout (homes_of p) as_) (range_ordered p.layout (homes_of p) as_ f.fits) t wanted)
      (given.guards_ p.layout (range_at p as_) (is_numeric p.layout (homes_of p) as_) (range_at p bs) (is_numeric p.layout (homes_of p) bs)
      (knows_more p.layout (homes_of p) as_ bs f.fits f.below) t wanted)

  count_part : (own i : Interval) (o : Option Interval) → KnownFits own (Some i) → IfSome o (λ j. IsInside j i × (j.low ≤ℤ j.high)) → IfSome o (λ j. KnownFits own (Some j))
  count_part own i None k h = tt
  count_part own i (Some j) k h = cut_part own i j k h.0 h.1

  pub counted_below : Given → (n : ℕ) (wanted : Bool) (as_ bs : List Known) → FitBelow as_ bs → FitBelowIf (counted_cells p n wanted as_) (counted_cells p n wanted bs)
  counted_below given n wanted as_ bs f =
      let i = units_of p.layout (homes_of p) as_ (of_count n) in
      let j = units_of p.layout (homes_of p) bs (of_count n) in
      let w = units_below p.layout (homes_of p) as_ bs (of_count n) f.fits f.below in
      known_if_below (of_count n) as_ bs (count_kept wanted i) (count_kept wanted j) f
      (count_part (home_range p.layout (of_count n)) i (count_kept wanted i) (units_fit p.layout (homes_of p) as_ (of_count n) f.fits) (given.counts_fit_ wanted i))
      (given.counts_ wanted i j (w.low, w.high))

  pub indexed_below : (k count : ℕ) (as_ bs : List Known) → FitBelow as_ bs → FitBelowIf (indexed_cells p k count as_) (indexed_cells p k count bs)
  indexed_below k count as_ bs f =
      let i = units_of p.layout (homes_of p) as_ (of_item k) in
      let j = units_of p.layout (homes_of p) bs (of_item k) in
      let w = units_below p.layout (homes_of p) as_ bs (of_item k) f.fits f.below in
      known_if_below (of_item k) as_ bs (met i (table count)) (met j (table count)) f
      (count_part (home_range p.layout (of_item k)) i (met i (table count)) (units_fit p.layout (homes_of p) as_ (of_item k) f.fits) (table_cut i (table count)))
      (cut_rises i j (table count) (w.low, w.high))

-- ---- divisors

pub le_test : (z w : ℤ) → int_le z w ≡ true → z ≤ℤ w
le_test z w e = omega (arith, ints, e)

pub test_le : (z w : ℤ) → z ≤ℤ w → int_le z w ≡ true
test_le z w e = grind (arith, ints, e)

pub not_falls : (b c : Bool) → (c ≡ true → b ≡ true) → not b ≡ true → not c ≡ true
not_falls true c h e = absurd cc
not_falls false true h e = absurd (grind (arith, h refl))
not_falls false false h e = refl

zero_falls : (r s : Ranged) → IsNarrower r s → is_zero_alone s ≡ true → is_zero_alone r ≡ true
zero_falls r s n e =
    let t = both_true (int_le (pos 0) s.units.low) (int_le s.units.high (pos 0)) e in
    let low = le_test (pos 0) s.units.low t.0 in
    let high = le_test s.units.high (pos 0) t.1 in
    and_true (int_le (pos 0) r.units.low) (int_le r.units.high (pos 0)) (test_le (pos 0) r.units.low (omega (arith, ints, low, n.low))) (test_le r.units.high (pos 0) (omega (arith, ints, high, n.high)))

can_rises : (o q : Option Ranged) → IsBelow o q → can_divide o ≡ true → can_divide q ≡ true
can_rises None q n e = absurd cc
can_rises (Some r) None n e = absurd n
can_rises (Some r) (Some s) n e = not_falls (is_zero_alone r) (is_zero_alone s) (zero_falls r s n) e

-- ---- parts

module _ (given : Given) (p : Program) (a : Act) (x : Action) where
  abbrev Below : Seen → Seen → Type 0
  Below = SeenBelow p a x

  fit_below : (s t : Seen) → Below s t → FitBelow p s.cells t.cells
  fit_below s t h = record { fits = h.fits; below = h.cells }

  -- other cells, with the rest as it was
  cells_below : (s t : Seen) (as_ bs : List Known) → Below s t → FitBelow p as_ bs → Below (with_cells s as_) (with_cells t bs)
  cells_below s t as_ bs h f = record {
    fits = f.fits;
    cells = f.below;
    written = h.written;
    common = h.common;
    untaken = h.untaken;
    zero = h.zero;
    fails = h.fails;
  }

  cells_if_below : (s t : Seen) (o q : Option (List Known)) → Below s t → FitBelowIf p o q → BelowIf p a x (with_cells_if s o) (with_cells_if t q)
  cells_if_below s t None q h f = tt
  cells_if_below s t (Some as_) None h f = f
  cells_if_below s t (Some as_) (Some bs) h f = cells_below s t as_ bs h f

  -- It is read where its turn surely comes.
  read_if_rises : (u v : Bool) → (u ≡ true → v ≡ true) → (place : ℕ) (s t : Seen) → Below s t
      → Below (if u then s else with_cells s (read_cells p (of_item place) s.cells)) (if v then t else with_cells t (read_cells p (of_item place) t.cells))
  read_if_rises u v uv place s t h = go u v uv
    where
      go : (u v : Bool) → (u ≡ true → v ≡ true) → Below (if u then s else with_cells s (read_cells p (of_item place) s.cells)) (if v then t else with_cells t (read_cells p (of_item place) t.cells))
      go true true uv = h
      go true false uv = absurd (grind (arith, uv refl))
      go false true uv = cells_below s t (read_cells p (of_item place) s.cells) t.cells h (read_alone_below p (of_item place) s.cells t.cells (fit_below s t h))
      go false false uv = cells_below s t (read_cells p (of_item place) s.cells) (read_cells p (of_item place) t.cells) h (read_cells_below p (of_item place) s.cells t.cells (fit_below s t h))

  read_rises : (place : ℕ) (s t : Seen) → Below s t → Below (after_read p place s) (after_read p place t)
  read_rises place s t h =
      read_if_rises (s.may_zero || is_table p.layout place) (t.may_zero || is_table p.layout place)
      (or_rises s.may_zero (is_table p.layout place) t.may_zero (is_table p.layout place) h.zero (λ e. e)) place s t h

  -- ---- subscripts

  -- where less has happened a turn shows more
  shows_falls : (last : Bool) (k : ℕ) (s t : Seen) → Below s t → shows_nothing p last k s ≡ true → shows_nothing p last k t ≡ true
  shows_falls last k s t h =
      or_rises (may_not_come last s) (is_table p.layout k) (may_not_come last t) (is_table p.layout k)
      (or_rises s.may_zero (last && s.any_fail) t.may_zero (last && t.any_fail) h.zero (and_rises last s.any_fail t.any_fail (λ e. h.fails))) (λ e. e)

  subscript_rises : (last : Bool) (k : ℕ) (s t : Seen) → Below s t → Below (after_subscript p last k s) (after_subscript p last k t)
  subscript_rises last k s t h = read_if_rises (shows_nothing p last k s) (shows_nothing p last k t) (shows_falls last k s t h) k s t h

  index_rises : (last : Bool) (k count : ℕ) (s t : Seen) → Below s t → BelowIf p a x (after_index p last k count s) (after_index p last k count t)
  index_rises last k count s t h = go (shows_nothing p last k s) (shows_nothing p last k t) (shows_falls last k s t h)
    where
      here : Interval
      here = units_of p.layout (homes_of p) s.cells (of_item k)

      alone : (o : Option Interval) → IfSome o (λ i. IsInside i here × (i.low ≤ℤ i.high)) → BelowIf p a x (with_cells_if s (option_map (known_as p (of_item k) s.cells) o)) (Some t)
      alone None f = tt
      alone (Some i) f = cells_below s t (known_as p (of_item k) s.cells i) t.cells h (cut_alone_below p (of_item k) s.cells t.cells i (fit_below s t h) f.0 f.1)

      go : (u v : Bool) → (u ≡ true → v ≡ true) → BelowIf p a x (if u then Some s else with_cells_if s (indexed_cells p k count s.cells)) (if v then Some t else with_cells_if t (indexed_cells p k count t.cells))
      go true true uv = h
      go true false uv = absurd (grind (arith, uv refl))
      go false true uv = alone (met here (table count)) (table_cut here (table count))
      go false false uv = cells_if_below s t (indexed_cells p k count s.cells) (indexed_cells p k count t.cells) h (indexed_below p k count s.cells t.cells (fit_below s t h))

  ranges : (s t : Seen) → Below s t → (place : ℕ) → IsNarrower (range_at p s.cells place) (range_at p t.cells place)
  ranges s t h = range_below p.layout (homes_of p) s.cells t.cells h.fits h.cells

  zero_below : (s t : Seen) (u v : Bool) → Below s t → (u ≡ true → v ≡ true) → Below (with_zero s (s.may_zero || u)) (with_zero t (t.may_zero || v))
  zero_below s t u v h uv = record {
    fits = h.fits;
    cells = h.cells;
    written = h.written;
    common = h.common;
    untaken = λ e f g. or_left s.may_zero u (h.untaken e f g);
    zero = or_rises s.may_zero u t.may_zero v h.zero uv;
    fails = h.fails;
  }

  divide_rises : (d : Atom) (s t : Seen) → Below s t → BelowIf p a x (after_divide p a x d s) (after_divide p a x d t)
  divide_rises d s t h = go (handled p a x) (can_divide (atom_range (range_at p s.cells) d)) (can_divide (atom_range (range_at p t.cells) d))
      (can_rises (atom_range (range_at p s.cells) d) (atom_range (range_at p t.cells) d)
      (atom_below (range_at p s.cells) (range_at p t.cells) (ranges s t h) d))
    where
      go : (k u v : Bool) → (u ≡ true → v ≡ true)
          → BelowIf p a x (if k then Some (with_zero s (s.may_zero || may_be_zero (range_at p s.cells) d)) else (if u then Some s else None))
          (if k then Some (with_zero t (t.may_zero || may_be_zero (range_at p t.cells) d)) else (if v then Some t else None))
      go true u v uv =
          zero_below s t (may_be_zero (range_at p s.cells) d) (may_be_zero (range_at p t.cells) d) h
          (divisor_rises (range_at p s.cells) (range_at p t.cells) (ranges s t h) d)
      go false false v uv = tt
      go false true true uv = h
      go false true false uv = absurd (grind (arith, uv refl))

  -- ---- operands are taken

  taking_rises : (s t : Seen) → Below s t → Below (taking p a x s) (taking p a x t)
  taking_rises s t h = record {
    fits = h.fits;
    cells = h.cells;
    written = refl;
    common = edge_operands_below (range_at p s.cells) (range_at p t.cells) (ranges s t h) given a x;
    untaken = λ e f g. or_right s.may_zero (handled p a x && operands_vanish (range_at p s.cells) a)
        (and_true (handled p a x) (operands_vanish (range_at p s.cells) a) e
        (untaken_operands (range_at p s.cells) (range_ordered p.layout (homes_of p) s.cells h.fits) a x e g));
    zero = or_rises s.may_zero (handled p a x && operands_vanish (range_at p s.cells) a) t.may_zero (handled p a x && operands_vanish (range_at p t.cells) a) h.zero
        (and_rises (handled p a x) (operands_vanish (range_at p s.cells) a) (operands_vanish (range_at p t.cells) a)
        (λ e. operands_vanish_rises (range_at p s.cells) (range_at p t.cells) (ranges s t h) a));
    fails = h.fails;
  }

  -- what is taken, and that it is
  pub record TakenBelow (s t : Seen) : Type 0 where
    pub below : SeenBelow p a x s t
    pub written : s.written ≡ true

  pub taken_rises : (s t : Seen) → Below s t → TakenBelow (with_taken p a x s) (with_taken p a x t)
  taken_rises s t h = go s.written t.written refl h.written
    where
      go : (u v : Bool) → s.written ≡ u → u ≡ v → TakenBelow (if u then s else taking p a x s) (if v then t else taking p a x t)
      go true true e f = record { below = h; written = e }
      go true false e f = absurd cc
      go false true e f = absurd cc
      go false false e f = record { below = taking_rises s t h; written = refl }

  -- ---- stores

  module _ (s t : Seen) (h : TakenBelow s t) (place : ℕ) (mode : Mode) (y : Amount) where
    abbrev its_form : Form
    its_form = form_at p.layout place

    own_below : IsNarrower (range_at p s.cells place) (range_at p t.cells place)
    own_below = ranges s t h.below place

    -- results of operands: one within the other, or a divisor may be 0 above
    result_below : (o q : Option Taken) → IsNarrowerTakenIfAny o q
        → IsInsideIfAny (o >>= amount_of y (range_at p s.cells place) >>= result.result_range mode (receiver_of its_form)) (q >>= amount_of y (range_at p t.cells place) >>= result.result_range mode (receiver_of its_form))
    result_below None q n = tt
    result_below (Some c) None n = absurd n
    result_below (Some c) (Some d) n = go (amount_of y (range_at p s.cells place) c) (amount_of y (range_at p t.cells place) d)
        (amount_below given y (range_at p s.cells place) (range_at p t.cells place) c d own_below n)
      where
        go : (o q : Option AmountRange) → AmountBelowIf c.under o q → IsInsideIfAny (o >>= result.result_range mode (receiver_of its_form)) (q >>= result.result_range mode (receiver_of its_form))
        go None q m = tt
        go (Some u) None (inl m) = absurd m
        go (Some u) None (inr m) = absurd (grind (arith, m.0))
        go (Some u) (Some v) (inl m) = given.results_ mode (receiver_of its_form) u v m
        go (Some u) (Some v) (inr m) = absurd (grind (arith, m.0))

    results_below : IsInsideIfAny (result_at p a x s place mode y) (result_at p a x t place mode y)
    results_below =
        by_keeping (keeps_receiver a x) (amount_at p a x s place y >>= result.result_range mode (receiver_of its_form)) (amount_at p a x t place y >>= result.result_range mode (receiver_of its_form))
        (result_below s.common t.common h.below.common)
      where
        by_keeping : (b : Bool) (o q : Option Interval) → IsInsideIfAny o q → IsInsideIfAny (if b then None else o) (if b then None else q)
        by_keeping true o q k = tt
        by_keeping false o q k = k

    stored_fit_below : (i j : Interval) → KnownFits (form_range its_form) (Some i) → IsInside i j → FitBelow p (stored_cells p place s.cells i) (stored_cells p place t.cells j)
    stored_fit_below i j k n =
        stored_cells_below p place s.cells t.cells i j (fit_below s t h.below) k n

    stored_if : (o q : Option Interval) → IfSome o (λ i. KnownFits (form_range its_form) (Some i)) → IsInsideIfAny o q
        → FitBelowIf p (option_map (stored_cells p place s.cells) o) (option_map (stored_cells p place t.cells) q)
    stored_if None q k n = tt
    stored_if (Some i) None k n = n
    stored_if (Some i) (Some j) k n = stored_fit_below i j k n

    amounts_fit : (o : Option AmountRange) → IfSome (o >>= result.result_range mode (receiver_of its_form)) (λ i. KnownFits (form_range its_form) (Some i))
    amounts_fit None = tt
    amounts_fit (Some u) = result_fits given mode its_form u

    results_fit : (b : Bool) (o : Option AmountRange) → IfSome (if b then None else (o >>= result.result_range mode (receiver_of its_form))) (λ i. KnownFits (form_range its_form) (Some i))
    results_fit true o = tt
    results_fit false o = amounts_fit o

    fit_element : (o q : Option (List Known)) → FitBelowIf p o q → ElementFits (owns p) o
    fit_element None q f = tt
    fit_element (Some as_) None f = absurd f
    fit_element (Some as_) (Some bs) f = f.fits

    below_element : (o q : Option (List Known)) → FitBelowIf p o q → ElementBelow o q
    below_element None q f = tt
    below_element (Some as_) None f = f
    below_element (Some as_) (Some bs) f = f.below

    lengths : (q : Option Interval) → HasLength (length t.cells) (option_map (stored_cells p place t.cells) q)
    lengths None = tt
    lengths (Some j) = sym (with_known_length (homes_of p) (forgotten (is_beside p.layout place) (homes_of p) t.cells) (of_item place) (receiver_known p place t.cells j) ∙ forgotten_length (is_beside p.layout place) (homes_of p) t.cells)

    -- ---- whether it may fail

    -- one of the causes above
    exceeds_rise : (o q : Option Taken) → IsNarrowerTakenIfAny o q → (o ≡ None → t.may_zero ≡ true)
        → option_map_or (result.may_fail mode (receiver_of its_form)) (o >>= amount_of y (range_at p s.cells place)) true ≡ true
        → (option_map_or (result.may_fail mode (receiver_of its_form)) (q >>= amount_of y (range_at p t.cells place)) true ≡ true) ⊎ ((t.may_zero ≡ true) ⊎ (may_vanish q y ≡ true))
    exceeds_rise None q n z e = inr (inl (z refl))
    exceeds_rise (Some c) None n z e = absurd n
    exceeds_rise (Some c) (Some d) n z e = go (amount_of y (range_at p s.cells place) c) (amount_of y (range_at p t.cells place) d)
        (amount_below given y (range_at p s.cells place) (range_at p t.cells place) c d own_below n) e
      where
        vanishes : may_divide_by_zero y c ≡ true → may_divide_by_zero y d ≡ true
        vanishes = divisor_zero_rises y c d n

        go : (u v : Option AmountRange) → AmountBelowIf c.under u v → option_map_or (result.may_fail mode (receiver_of its_form)) u true ≡ true
            → (option_map_or (result.may_fail mode (receiver_of its_form)) v true ≡ true) ⊎ ((t.may_zero ≡ true) ⊎ (may_divide_by_zero y d ≡ true))
        go u None m f = inl refl
        go None (Some v) (inl m) f = absurd m
        go None (Some v) (inr m) f = inr (inr (vanishes (or_left _ _ m.1)))
        go (Some u) (Some v) (inl m) f = inl (given.fails_ mode (receiver_of its_form) u v m f)
        go (Some u) (Some v) (inr m) f = absurd (grind (arith, m.0))

    vanish_rises_in : (o q : Option Taken) → IsNarrowerTakenIfAny o q → (o ≡ None → t.may_zero ≡ true) → may_vanish o y ≡ true → (t.may_zero ≡ true) ⊎ (may_vanish q y ≡ true)
    vanish_rises_in None q n z e = inl (z refl)
    vanish_rises_in (Some c) None n z e = absurd n
    vanish_rises_in (Some c) (Some d) n z e = inr (divisor_zero_rises y c d n e)

    -- any of four causes
    first : (b c d e : Bool) → b ≡ true → (b || (c || (d || e))) ≡ true
    first b c d e f = or_left b (c || (d || e)) f

    second : (b c d e : Bool) → c ≡ true → (b || (c || (d || e))) ≡ true
    second b c d e f = or_right b (c || (d || e)) (or_left c (d || e) f)

    third : (b c d e : Bool) → d ≡ true → (b || (c || (d || e))) ≡ true
    third b c d e f = or_right b (c || (d || e)) (or_right c (d || e) (or_left d e f))

    fourth : (b c d e : Bool) → e ≡ true → (b || (c || (d || e))) ≡ true
    fourth b c d e f = or_right b (c || (d || e)) (or_right c (d || e) (or_right d e f))

    fails_rise : may_fail p a x s place mode y ≡ true → may_fail p a x t place mode y ≡ true
    fails_rise = and_rises (handled p a x) _ _ causes
      where
        E : Bool
        E = may_exceed p a x t place mode y

        V : Bool
        V = may_vanish t.common y

        R : Bool
        R = is_remainder y && t.any_fail

        causes : handled p a x ≡ true → (may_exceed p a x s place mode y || (s.may_zero || (may_vanish s.common y || (is_remainder y && s.any_fail)))) ≡ true → (E || (t.may_zero || (V || R))) ≡ true
        causes on e = elim (or_either (may_exceed p a x s place mode y) _ e) [
          | inl f ↦ elim (exceeds_rise s.common t.common h.below.common (λ g. h.below.zero (h.below.untaken on h.written g)) f) [
            | inl g ↦ first E t.may_zero V R g
            | inr k ↦ elim k [
              | inl g ↦ second E t.may_zero V R g
              | inr g ↦ third E t.may_zero V R g
            ]
          ]
          | inr f ↦ elim (or_either s.may_zero _ f) [
            | inl g ↦ second E t.may_zero V R (h.below.zero g)
            | inr g ↦ elim (or_either (may_vanish s.common y) _ g) [
              | inl k ↦ elim (vanish_rises_in s.common t.common h.below.common (λ m. h.below.zero (h.below.untaken on h.written m)) k) [
                | inl m ↦ second E t.may_zero V R m
                | inr m ↦ third E t.may_zero V R m
              ]
              | inr k ↦ fourth E t.may_zero V R (and_rises (is_remainder y) s.any_fail t.any_fail (λ u. h.below.fails) k)
            ]
          ]
        ]

    some_inside : (o q : Option Interval) → IsInsideIfAny o q → is_some o ≡ true → is_some q ≡ true
    some_inside None q n e = absurd cc
    some_inside (Some i) None n e = absurd n
    some_inside (Some i) (Some j) n e = refl

    fits_rise : may_fit p a x s place mode y ≡ true → may_fit p a x t place mode y ≡ true
    fits_rise e = some_inside (result_at p a x s place mode y) (result_at p a x t place mode y) results_below e

    pub flags_rise : (may_fail p a x s place mode y ≡ true → may_fail p a x t place mode y ≡ true) × (may_fit p a x s place mode y ≡ true → may_fit p a x t place mode y ≡ true)
    flags_rise = (fails_rise, fits_rise)

    -- ---- behind it

    behind_below : (f g : Bool) (o q : Element) → (f ≡ true → g ≡ true) → ElementFits (owns p) o → ElementBelow o q → BelowIf p a x (behind_store s f o) (behind_store t g q)
    behind_below f g None q fg k m = tt
    behind_below f g (Some as_) None fg k m = m
    behind_below f g (Some as_) (Some bs) fg k m = record {
      fits = k;
      cells = m;
      written = h.below.written;
      common = h.below.common;
      untaken = h.below.untaken;
      zero = h.below.zero;
      fails = or_rises s.any_fail f t.any_fail g h.below.fails fg;
    }

    pub store_rises : BelowIf p a x (stored p a x s place mode y) (stored p a x t place mode y)
    store_rises =
        let o = option_map (stored_cells p place s.cells) (result_at p a x s place mode y) in
        let q = option_map (stored_cells p place t.cells) (result_at p a x t place mode y) in
        let fits = stored_if (result_at p a x s place mode y) (result_at p a x t place mode y) (results_fit (keeps_receiver a x) (amount_at p a x s place y)) results_below in
        behind_below (may_fail p a x s place mode y) (may_fail p a x t place mode y)
        (stored_element (may_fail p a x s place mode y) s.cells o) (stored_element (may_fail p a x t place mode y) t.cells q) fails_rise
        (stored_fits (owns p) (may_fail p a x s place mode y) s.cells o h.below.fits (fit_element o q fits))
        (stored_below (may_fail p a x s place mode y) (may_fail p a x t place mode y) s.cells t.cells o q fails_rise h.below.cells (below_element o q fits) (lengths (result_at p a x t place mode y)))

  -- ---- counters

  set_count_rises : (n : ℕ) (s t : Seen) → TakenBelow s t → BelowIf p a x (after_count p n s) (after_count p n t)
  set_count_rises n s t h =
      cells_if_below s t (option_map (known_as p (of_count n) s.cells) (s.common >>= λ c. count_range c.top.units)) (option_map (known_as p (of_count n) t.cells) (t.common >>= λ c. count_range c.top.units))
      h.below (known_if_below p (of_count n) s.cells t.cells _ _ (fit_below s t h.below) (fits s.common) (inside s.common t.common h.below.common))
    where
      fits : (o : Option Taken) → IfSome (o >>= λ c. count_range c.top.units) (λ i. KnownFits (picture_range 18 true) (Some i))
      fits None = tt
      fits (Some c) = count_fits given c.top.units

      inside : (o q : Option Taken) → IsNarrowerTakenIfAny o q → IsInsideIfAny (o >>= λ c. count_range c.top.units) (q >>= λ c. count_range c.top.units)
      inside None q m = tt
      inside (Some c) None m = absurd m
      inside (Some c) (Some d) m = given.fitted_ counter c.top.units d.top.units (m.top.low, m.top.high)

  count_down_rises : (n : ℕ) (s t : Seen) → Below s t → BelowIf p a x (after_down p n s) (after_down p n t)
  count_down_rises n s t h =
      let i = units_of p.layout (homes_of p) s.cells (of_count n) in
      let j = units_of p.layout (homes_of p) t.cells (of_count n) in
      let w = units_below p.layout (homes_of p) s.cells t.cells (of_count n) h.fits h.cells in
      cells_if_below s t (option_map (known_as p (of_count n) s.cells) (count_range (lowered i))) (option_map (known_as p (of_count n) t.cells) (count_range (lowered j))) h
      (known_if_below p (of_count n) s.cells t.cells (count_range (lowered i)) (count_range (lowered j)) (fit_below s t h) (count_fits given (lowered i))
      (given.fitted_ counter (lowered i) (lowered j) (let l = w.low in omega (arith, ints, l), let m = w.high in omega (arith, ints, m))))

  -- ---- all parts

  pub rises : (y : Part) (s t : Seen) → SeenBelow p a x s t → BelowIf p a x (step p a x y s) (step p a x y t)
  rises (read place) s t h = read_rises place s t h
  rises unread s t h = tt
  rises (subscript last k) s t h = subscript_rises last k s t h
  rises (index last k count) s t h = index_rises last k count s t h
  rises (divide d) s t h = divide_rises d s t h
  rises (store place mode y) s t h = store_rises (with_taken p a x s) (with_taken p a x t) (taken_rises s t h) place mode y
  rises (bytes_in offset count) s t h =
      let k = (taken_rises s t h).below in
      cells_below (with_taken p a x s) (with_taken p a x t) (forgotten (is_in_extent p.layout (bytes_from offset count)) (homes_of p) (with_taken p a x s).cells) (forgotten (is_in_extent p.layout (bytes_from offset count)) (homes_of p) (with_taken p a x t).cells) k
      (forgotten_fit_below p (is_in_extent p.layout (bytes_from offset count)) (with_taken p a x s).cells (with_taken p a x t).cells (fit_below (with_taken p a x s) (with_taken p a x t) k))
  rises (guard v wanted) s t h = cells_if_below s t (guarded_cells p v wanted s.cells) (guarded_cells p v wanted t.cells) h (guarded_below p given v wanted s.cells t.cells (fit_below s t h))
  rises (read_count n) s t h = cells_below s t (read_cells p (of_count n) s.cells) (read_cells p (of_count n) t.cells) h (read_cells_below p (of_count n) s.cells t.cells (fit_below s t h))
  rises (set_count n y) s t h = set_count_rises n (with_taken p a x s) (with_taken p a x t) (taken_rises s t h)
  rises (count_down n) s t h = count_down_rises n s t h
  rises (guard_count n wanted) s t h = cells_if_below s t (counted_cells p n wanted s.cells) (counted_cells p n wanted t.cells) h (counted_below p given n wanted s.cells t.cells (fit_below s t h))
