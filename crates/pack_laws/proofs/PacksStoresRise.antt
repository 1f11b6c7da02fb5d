-- What a store, or a counter that is set, makes of a lower matrix is lower.
use Rattle.std.proofs.Common.{◌≡◌, ◌≢◌, ℕ, suc, ◌+◌, ◌≤◌, Bool, true, false, List, ℤ, ◌≤ℤ◌, Option, Some, None, ◌⊎◌, inl, inr, refl, sym, subst, ◌∙◌, arith}
use Rattle.std.specs.Prelude.{◌&&◌, ◌||◌, not, if◌then◌else◌, is_some}
use Rattle.std.specs.List.{list_any}
use Rattle.std.proofs.lemmas.Bool.{cases_eq, false≢true}
use Rattle.dec_num.specs.declared.types.Mode.{Mode}
use Rattle.cob_data.specs.declared.extent.Extent.{Extent}
use Rattle.cob_program.specs.Values.{◌>>=◌}
use Rattle.cob_program.specs.Act.{Act, Program}
use Rattle.cob_runs.specs.declared.action.Action.{Action}
use Rattle.cob_runs.specs.Contents.{form_at}
use Rattle.cob_runs.specs.Computing.{items_in}
use Rattle.cob_edge_parts.specs.Parts.{Amount, moved, computed, remaining, augmented}
use Rattle.diff_bounds.specs.declared.form.lin.Lin.{Lin}
use Rattle.diff_bounds.specs.Results.{IsNarrower}
use Rattle.diff_bounds.specs.Matrix.{word, none, IsMatrix}
use Rattle.diff_bounds.specs.Values.{AreLower}
use Rattle.interval_domain.specs.declared.bounds.Interval.{Interval}
use Rattle.diff_bounds.specs.Errors.{IsSurer}
use Rattle.sum_ranges.specs.declared.ranged.Ranged.{Ranged}
use Rattle.sum_ranges.specs.Ranged as range
use Rattle.sum_ranges.specs.SumRanges.{sum_range}
use Rattle.sum_ranges.proofs.Narrow.{sum_below}
use Rattle.sum_forms.specs.Values.{IsNarrowerIfAny}
use Rattle.transfer_ranges.specs.declared.amounts.AmountRange.{AmountRange}
use Rattle.transfer_ranges.specs.declared.amounts.Taken.{Taken}
use Rattle.transfer_ranges.specs.Amounts.{IsNarrowerTakenIfAny}
use Rattle.transfer_ranges.specs.Receivers.{receiver_of}
use Rattle.transfer_ranges.specs.ResultRanges as result
use Rattle.cob_graph.specs.declared.homes.Home.{Home}
use Rattle.cob_graph.specs.declared.homes.Home.TheVariants.{Item as of_item, Count as of_count}
use Rattle.cob_graph.specs.Homes.{is_home, homes_of}
use Rattle.cell_steps.specs.Cells.{is_beside}
use Rattle.transfer_ranges.specs.EdgeOperands.{amount_of}
use Rattle.cell_steps.specs.Seen.{Seen}
use Rattle.cell_steps.specs.Stores.{range_at, keeps_receiver, amount_at, may_fail, may_fit}
use Rattle.cell_steps.specs.Order.{SeenBelow}
use Rattle.cell_laws.proofs.ItemRanges.{range_below}
use Rattle.cell_laws.proofs.OperandsRise.{or_rises, AmountBelow, AmountBelowIf, amount_below}
use Rattle.cell_laws.proofs.PartsRise.{TakenBelow, flags_rise}
use Rattle.cell_laws.proofs.ResultLawsHold.{rising}
use Rattle.diff_steps.specs.Packs.{Pack, size_of, cell_of, unit_of}
use Rattle.diff_steps.specs.Matrices.{bottom}
use Rattle.diff_steps.specs.Moments.{is_written}
use Rattle.diff_steps.specs.Forms.{amount_form, has_operands}
use Rattle.diff_steps.specs.Stores.{known_of_amount, forgotten_cells}
use Rattle.diff_steps.specs.Steps.{by_outcome, is_other, is_lost, form_at_cell, stored_cell, stored_pack, pack_behind_store, counter_stored, counted_pack}
use Rattle.pack_laws.specs.Orders.{AreLowerOff}
use Rattle.pack_laws.proofs.Rises.{IsImage, forgotten_image, form_image, image_below, put_lower, store_lower}
use Rattle.pack_laws.proofs.FormsRise.{amount_narrower}
use Rattle.pack_laws.proofs.SignsRise.{amount_surer}
use Rattle.pack_laws.proofs.PacksPutRise.{off_of}
use Rattle.pack_laws.proofs.PacksWordsRise.{IsHigh, HasTop, matrix_is_high, matrix_has_top, value_high, forgotten_high, cells_high, bottom_high, bottom_below, is_gone_at, cells_rise, kept_below, gone_at_cell, cell_within}
use Rattle.pack_laws.proofs.PacksClosingRise.{through_both}

-- ---- numbers of an amount
is_there : {A B : Type 0} (o : Option A) (next : A → Option B) → is_some (o >>= next) ≡ true → (r : A) × (o ≡ Some r)
is_there None next e = absurd (false≢true e)
is_there (Some r) next e = (r, refl)

-- operands that have a range below have one above
module _ (p : Program) (a : Act) (x : Action) (s t : Seen) (below : SeenBelow p a x s t) where
  some_rises : (o q : Option Ranged) → range.IsBelow o q → is_some o ≡ true → is_some q ≡ true
  some_rises None q n e = absurd (false≢true e)
  some_rises (Some r) None n e = absurd n
  some_rises (Some r) (Some v) n e = refl

  pub operands_rise : (wrote : List Extent) (y : Amount) → has_operands p s wrote y ≡ true → has_operands p t wrote y ≡ true
  operands_rise wrote (moved y) e = e
  operands_rise wrote (computed v how) e =
      or_rises (list_any (is_written p.layout wrote) (items_in v)) (is_some (sum_range (range_at p s.cells) v)) (list_any (is_written p.layout wrote) (items_in v)) (is_some (sum_range (range_at p t.cells) v))
      (λ f. f) (some_rises (sum_range (range_at p s.cells) v) (sum_range (range_at p t.cells) v) (sum_below (range_at p s.cells) (range_at p t.cells) (range_below p.layout (homes_of p) s.cells t.cells below.fits below.cells) v)) e
  operands_rise wrote (remaining v scale) e = e
  operands_rise wrote (augmented y) e = e

module _ (p : Program) (a : Act) (x : Action) (s t : Seen) (h : TakenBelow rising p a x s t) where
  ranges : (place : ℕ) → range.IsNarrower (range_at p s.cells place) (range_at p t.cells place)
  ranges = range_below p.layout (homes_of p) s.cells t.cells h.below.fits h.below.cells

  pub amounts_below : (place : ℕ) (y : Amount) (r : AmountRange) → amount_at p a x s place y ≡ Some r → AmountBelow (amount_at p a x s place y) (amount_at p a x t place y)
  amounts_below place y r e = go s.common t.common h.below.common e
    where
      below : (under : Option Ranged) (o q : Option AmountRange) → AmountBelowIf under o q → o ≡ Some r → AmountBelow o q
      below under o q (inl m) e = m
      below under o q (inr m) e = absurd (let f = m.0 in cc)

      go : (o q : Option Taken) → IsNarrowerTakenIfAny o q → (o >>= amount_of y (range_at p s.cells place)) ≡ Some r
          → AmountBelow (o >>= amount_of y (range_at p s.cells place)) (q >>= amount_of y (range_at p t.cells place))
      go None q n e = absurd cc
      go (Some c) None n e = absurd n
      go (Some c) (Some d) n e =
          below c.under (amount_of y (range_at p s.cells place) c) (amount_of y (range_at p t.cells place) d)
          (amount_below rising y (range_at p s.cells place) (range_at p t.cells place) c d (ranges place) n) e

  -- ---- one pack
  module _ (wrote : List Extent) (place : ℕ) (mode : Mode) (y : Amount) (pack : Pack) (m n : List ℤ) (is : IsMatrix (size_of pack) m) (are : IsMatrix (size_of pack) n) (lower : AreLower (size_of pack + 1) (word (size_of pack + 1) m) (word (size_of pack + 1) n)) where
    abbrev size : ℕ
    size = size_of pack

    abbrev below_cell : ℕ → Option Lin → List ℤ
    below_cell to o = form_at_cell p a x s place mode y pack to o m

    abbrev above_cell : ℕ → Option Lin → List ℤ
    above_cell to o = form_at_cell p a x t place mode y pack to o n

    top : HasTop (size_of pack) m
    top = matrix_has_top (size_of pack) m is

    surer : (f g : Lin) → IsNarrower f g → (scale : ℕ) (o q : Option AmountRange) → AmountBelow o q → IsSurer (known_of_amount (size_of pack) m f scale o) (known_of_amount (size_of pack) n g scale q)
    surer f g k scale None None b = record { whole = λ e. absurd (false≢true e); not_negative = λ e. absurd (false≢true e); not_positive = λ e. absurd (false≢true e) }
    surer f g k scale None (Some q) b = absurd b
    surer f g k scale (Some r) None b = absurd b
    surer f g k scale (Some r) (Some q) b = amount_surer (size_of pack) m n lower f g k scale r q b

    cell_image : (to : ℕ) (last : to ≤ size_of pack) (o : Option Lin) → IsImage (size_of pack) to last m (below_cell to o)
    cell_image to last None = forgotten_image (size_of pack) to last m
    cell_image to last (Some f) =
        form_image (size_of pack) to last f (receiver_of (form_at p.layout place)).signed mode (unit_of p.layout pack (of_item place))
        (known_of_amount (size_of pack) m f (receiver_of (form_at p.layout place)).scale (amount_at p a x s place y)) m

    cell_rises : (to : ℕ) (last : to ≤ size_of pack) (o q : Option Lin) → IsNarrowerIfAny o q → AmountBelow (amount_at p a x s place y) (amount_at p a x t place y) → AreLowerOff (size_of pack) (below_cell to o) (above_cell to q)
    cell_rises to last o None k b = image_below (size_of pack) to last m n lower (below_cell to o) (cell_image to last o)
    cell_rises to last None (Some g) k b = absurd k
    cell_rises to last (Some f) (Some g) k b =
        store_lower (size_of pack) to last m n lower f g (receiver_of (form_at p.layout place)).signed mode (unit_of p.layout pack (of_item place))
        (known_of_amount (size_of pack) m f (receiver_of (form_at p.layout place)).scale (amount_at p a x s place y))
        (known_of_amount (size_of pack) n g (receiver_of (form_at p.layout place)).scale (amount_at p a x t place y)) k
        (surer f g k (receiver_of (form_at p.layout place)).scale (amount_at p a x s place y) (amount_at p a x t place y) b)

    image_top : (to : ℕ) (last : to ≤ size_of pack) (z : List ℤ) → IsImage (size_of pack) to last m z → HasTop (size_of pack) z
    image_top to last z image = record { most = λ i j g k ne. each i j g k ne (cases_eq i to) (cases_eq j to) }
      where
        each : (i j : ℕ) → i ≤ size_of pack → j ≤ size_of pack → i ≢ j → (i ≡ to) ⊎ (i ≡ to → ⊥) → (j ≡ to) ⊎ (j ≡ to → ⊥) → word (size_of pack + 1) z i j ≤ℤ none
        each i j g k ne (inl e) (inl f) = absurd (ne (e ∙ sym f))
        each i j g k ne (inl e) (inr apart) = subst (λ (q : ℕ). word (size_of pack + 1) z q j ≤ℤ none) (sym e) (image.row j k apart)
        each i j g k ne (inr off) (inl f) = subst (λ (q : ℕ). word (size_of pack + 1) z i q ≤ℤ none) (sym f) (image.column i g off)
        each i j g k ne (inr off) (inr apart) = through_both (word (size_of pack + 1) z i j) (word (size_of pack + 1) m i j) none (image.others i j g k off apart) (top.most i j g k ne)

    abbrev below_stored : Option ℕ → List ℤ
    below_stored k = stored_cell p a x s wrote place mode y pack k m

    abbrev above_stored : Option ℕ → List ℤ
    above_stored k = stored_cell p a x t wrote place mode y pack k n

    within : (k : ℕ) → cell_of pack (of_item place) ≡ Some k → suc k ≤ size_of pack
    within k e = let less = cell_within pack (of_item place) k e in omega (arith, less)

    stored_top : (k : Option ℕ) → cell_of pack (of_item place) ≡ k → HasTop (size_of pack) (below_stored k)
    stored_top None e = top
    stored_top (Some k) e = image_top (suc k) (within k e) (below_cell (suc k) (amount_form p pack s wrote place y)) (cell_image (suc k) (within k e) (amount_form p pack s wrote place y))

    form_high : (to : ℕ) (o : Option Lin) → IsHigh (size_of pack) (above_cell to o)
    form_high to None = forgotten_high (size_of pack) to n (matrix_is_high (size_of pack) n are)
    form_high to (Some g) =
        let k = known_of_amount (size_of pack) n g (receiver_of (form_at p.layout place)).scale (amount_at p a x t place y) in
        value_high (size_of pack) to (receiver_of (form_at p.layout place)).signed k _ n (matrix_is_high (size_of pack) n are)

    stored_high : (k : Option ℕ) → IsHigh (size_of pack) (above_stored k)
    stored_high None = matrix_is_high (size_of pack) n are
    stored_high (Some k) = form_high (suc k) (amount_form p pack t wrote place y)

    -- ---- what is stored, lost or kept
    abbrev lost : List ℤ → List ℤ
    lost z = forgotten_cells (size_of pack) (is_lost p a x place) 1 pack z

    abbrev others_lost : List ℤ → List ℤ
    others_lost z = forgotten_cells (size_of pack) (is_other p a x place) 1 pack z

    off : AreLowerOff (size_of pack) m n
    off = off_of (size_of pack) m n lower

    stored_cell_rises : (k : Option ℕ) → cell_of pack (of_item place) ≡ k → IsNarrowerIfAny (amount_form p pack s wrote place y) (amount_form p pack t wrote place y)
        → AmountBelow (amount_at p a x s place y) (amount_at p a x t place y) → AreLowerOff (size_of pack) (below_stored k) (above_stored k)
    stored_cell_rises None e narrower b = off
    stored_cell_rises (Some k) e narrower b = cell_rises (suc k) (within k e) (amount_form p pack s wrote place y) (amount_form p pack t wrote place y) narrower b

    other_is_lost : (g : Home) → is_other p a x place g ≡ true → is_lost p a x place g ≡ true
    other_is_lost g e = go (is_beside p.layout place g) (is_home g (of_item place)) e
      where
        go : (b c : Bool) → (b && not c) ≡ true → (c || b) ≡ true
        go true true e = refl
        go true false e = refl
        go false c e = absurd (false≢true e)

    own_is_lost : (g : Home) → is_home g (of_item place) ≡ true → is_lost p a x place g ≡ true
    own_is_lost g e = go (is_home g (of_item place)) (is_beside p.layout place g) e
      where
        go : (b c : Bool) → b ≡ true → (b || c) ≡ true
        go true c e = refl
        go false c e = absurd (false≢true e)

    unlost_rises : (k : Option ℕ) → cell_of pack (of_item place) ≡ k → (i j : ℕ) → i ≤ size_of pack → j ≤ size_of pack → i ≢ j
        → is_gone_at (size_of pack) (is_lost p a x place) 1 pack i ≡ false → is_gone_at (size_of pack) (is_lost p a x place) 1 pack j ≡ false
        → word (size_of pack + 1) (below_stored k) i j ≤ℤ word (size_of pack + 1) n i j
    unlost_rises None e i j l g ne b c = off.words i j l g ne
    unlost_rises (Some k) e i j l g ne b c =
        through_both (word (size_of pack + 1) (below_stored (Some k)) i j) (word (size_of pack + 1) m i j) (word (size_of pack + 1) n i j)
        ((cell_image (suc k) (within k e) (amount_form p pack s wrote place y)).others i j l g (apart i b) (apart j c)) (off.words i j l g ne)
      where
        apart : (i : ℕ) → is_gone_at (size_of pack) (is_lost p a x place) 1 pack i ≡ false → i ≡ suc k → ⊥
        apart i b f = false≢true (sym b ∙ gone_at_cell (size_of pack) (is_lost p a x place) (of_item place) own_is_lost 1 pack k i e (omega (arith, f)))

    abbrev its_cell : Option ℕ
    its_cell = cell_of pack (of_item place)

    others_rise : IsNarrowerIfAny (amount_form p pack s wrote place y) (amount_form p pack t wrote place y) → AmountBelow (amount_at p a x s place y) (amount_at p a x t place y)
        → AreLowerOff (size_of pack) (others_lost (below_stored its_cell)) (others_lost (above_stored its_cell))
    others_rise narrower b =
        cells_rise (size_of pack) (is_other p a x place) (is_other p a x place) 1 pack (below_stored its_cell) (above_stored its_cell) (λ g e. e) (stored_top its_cell refl)
        (λ i j l g ne u v. (stored_cell_rises its_cell refl narrower b).words i j l g ne)

    stored_below_lost : AreLowerOff (size_of pack) (others_lost (below_stored its_cell)) (lost n)
    stored_below_lost =
        cells_rise (size_of pack) (is_other p a x place) (is_lost p a x place) 1 pack (below_stored its_cell) n other_is_lost (stored_top its_cell refl) (unlost_rises its_cell refl)

    lost_rises : AreLowerOff (size_of pack) (lost m) (lost n)
    lost_rises = cells_rise (size_of pack) (is_lost p a x place) (is_lost p a x place) 1 pack m n (λ g e. e) top (λ i j l g ne u v. off.words i j l g ne)

    kept_below_lost : AreLowerOff (size_of pack) m (lost n)
    kept_below_lost = kept_below (size_of pack) (is_lost p a x place) 1 pack m n top off

    -- where operands have a range, or there is nothing
    both_stored : (b c : Bool) (z v : List ℤ) → IsHigh (size_of pack) v → (b ≡ true → c ≡ true) → (b ≡ true → AreLowerOff (size_of pack) z v)
        → AreLowerOff (size_of pack) (if b then z else bottom (size_of pack)) (if c then v else bottom (size_of pack))
    both_stored true true z v high bc zv = zv refl
    both_stored true false z v high bc zv = absurd (false≢true (bc refl))
    both_stored false true z v high bc zv = bottom_below (size_of pack) v high
    both_stored false false z v high bc zv = bottom_below (size_of pack) (bottom (size_of pack)) (bottom_high (size_of pack))

    one_stored : (b : Bool) (z v : List ℤ) → IsHigh (size_of pack) v → AreLowerOff (size_of pack) z v → AreLowerOff (size_of pack) (if b then z else bottom (size_of pack)) v
    one_stored true z v high zv = zv
    one_stored false z v high zv = bottom_below (size_of pack) v high

    stored_rises : (r : AmountRange) → amount_at p a x s place y ≡ Some r → AreLowerOff (size_of pack) (stored_pack p a x s wrote place mode y pack m) (stored_pack p a x t wrote place mode y pack n)
    stored_rises r e =
        both_stored (has_operands p s wrote y) (has_operands p t wrote y) (others_lost (below_stored its_cell)) (others_lost (above_stored its_cell))
        (cells_high (size_of pack) (is_other p a x place) 1 pack (above_stored its_cell) (stored_high its_cell)) (operands_rise p a x s t h.below wrote y)
        (λ has. others_rise (amount_narrower p a x pack s t h.below wrote place y r e has) (amounts_below place y r e))

    stored_below : AreLowerOff (size_of pack) (stored_pack p a x s wrote place mode y pack m) (lost n)
    stored_below =
        one_stored (has_operands p s wrote y) (others_lost (below_stored its_cell)) (lost n)
        (cells_high (size_of pack) (is_lost p a x place) 1 pack n (matrix_is_high (size_of pack) n are)) stored_below_lost

    by_outcomes : (f u g v : Bool) (z w : List ℤ) → (f ≡ true → g ≡ true) → (u ≡ true → v ≡ true) → (f ≡ false → u ≡ true) → (f ≡ false → AreLowerOff (size_of pack) z w) → AreLowerOff (size_of pack) z (lost n)
        → AreLowerOff (size_of pack) (by_outcome f u z (lost m) m) (by_outcome g v w (lost n) n)
    by_outcomes false u false v z w fg uv fu zw zn = zw refl
    by_outcomes false u true true z w fg uv fu zw zn = zn
    by_outcomes false u true false z w fg uv fu zw zn = absurd (false≢true (uv (fu refl)))
    by_outcomes true u false v z w fg uv fu zw zn = absurd (false≢true (fg refl))
    by_outcomes true true true true z w fg uv fu zw zn = lost_rises
    by_outcomes true true true false z w fg uv fu zw zn = absurd (false≢true (uv refl))
    by_outcomes true false true true z w fg uv fu zw zn = kept_below_lost
    by_outcomes true false true false z w fg uv fu zw zn = off

    -- where the store fits, or may fail, since else no run passes it
    pub store_rises : (may_fail p a x s place mode y ≡ false → may_fit p a x s place mode y ≡ true)
        → AreLowerOff (size_of pack) (pack_behind_store p a x s wrote place mode y pack m) (pack_behind_store p a x t wrote place mode y pack n)
    store_rises fits =
        let flags = flags_rise rising p a x s t h place mode y in
        by_outcomes (may_fail p a x s place mode y) (may_fit p a x s place mode y) (may_fail p a x t place mode y) (may_fit p a x t place mode y)
        (stored_pack p a x s wrote place mode y pack m) (stored_pack p a x t wrote place mode y pack n) flags.0 flags.1 fits
        (λ e. let some = is_there (amount_at p a x s place y) (result.result_range mode (receiver_of (form_at p.layout place))) (fits_by (keeps_receiver a x) (amount_at p a x s place y >>= result.result_range mode (receiver_of (form_at p.layout place))) (fits e)) in stored_rises some.0 some.1) stored_below
      where
        fits_by : (b : Bool) (o : Option Interval) → is_some (if b then None else o) ≡ true → is_some o ≡ true
        fits_by true o e = absurd cc
        fits_by false o e = e

-- ---- counters
module _ (p : Program) (a : Act) (x : Action) (statement : ℕ) (pack : Pack) where
  pub counted_rises : (m n : List ℤ) → AreLower (size_of pack + 1) (word (size_of pack + 1) m) (word (size_of pack + 1) n) → (o q : Option Lin) → IsNarrowerIfAny o q
      → AreLowerOff (size_of pack) (counted_pack p a x statement o pack m) (counted_pack p a x statement q pack n)
  counted_rises m n lower o q k = by_cell (cell_of pack (of_count statement)) refl
    where
      by_cell : (c : Option ℕ) → cell_of pack (of_count statement) ≡ c → AreLowerOff (size_of pack) (counter_stored p a x statement o pack c m) (counter_stored p a x statement q pack c n)
      by_cell None e = off_of (size_of pack) m n lower
      by_cell (Some c) e = put_lower (size_of pack) (suc c) (let less = cell_within pack (of_count statement) c e in omega (arith, less)) m n lower o q k
