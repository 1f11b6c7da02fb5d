-- What a pack's matrix shows of a number that is stored, or that divides.
use Rattle.std.proofs.Common.{◌≡◌, ◌≤◌, ℕ, suc, ◌+◌, ◌^◌, Bool, true, ◌||◌, ◌⊎◌, inl, inr, List, [], ◌∷◌, Option, Some, None, ℤ, pos, negsuc, neg_ℤ, ◌+ℤ◌, ◌*ℤ◌, ◌≤ℤ◌, ◌<ℤ◌, refl, sym, ap, subst, ◌∙◌, arith}
use Rattle.std.specs.Prelude.{IfSome, int_le, int_lt}
use Rattle.std.proofs.lemmas.Int.{ints, clamps}
use Rattle.dec_num.specs.declared.types.Mode.{Mode}
use Rattle.dec_num.specs.declared.types.Scaled.{Scaled}
use Rattle.dec_num.specs.Exact.{near}
use Rattle.dec_num.specs.Scaled.{value_of}
use Rattle.dec_num.proofs.Powers.{ten_positive}
use Rattle.dec_num.proofs.Signed.{neg_ℤ_times}
use Rattle.interval_domain.specs.declared.bounds.Interval.{Interval}
use Rattle.interval_domain.specs.Bounds.{Holds}
use Rattle.interval_domain.proofs.Quotients.{near_le}
use Rattle.cob_data.specs.declared.layout.Layout.{Layout}
use Rattle.cob_program.specs.Values.{◌>>=◌}
use Rattle.cob_program.specs.Act.{Program}
use Rattle.dom_laws.specs.Meaning.{Storage}
use Rattle.diff_bounds.specs.declared.form.lin.Lin.{Lin}
use Rattle.diff_bounds.specs.Forms.{coef, dot}
use Rattle.diff_bounds.specs.Results.{multiple_of}
use Rattle.diff_bounds.proofs.Dots.{dot_of_multiples}
use Rattle.diff_bounds.specs.Matrix.{word}
use Rattle.diff_bounds.specs.Storages.{StandsIn}
use Rattle.diff_bounds.specs.Numbers.{IsAbove}
use Rattle.diff_bounds.specs.Upper.{coef_at, upper_of}
use Rattle.diff_bounds.specs.Values.{worths, total, IsOver}
use Rattle.diff_bounds.proofs.Forms.{total_of_form}
use Rattle.diff_bounds.proofs.Sound.{upper_above}
use Rattle.diff_bounds.proofs.Scales.{times_monotone}
use Rattle.sum_ranges.specs.Ranged.{decimal}
use Rattle.sum_forms.specs.SumForms.{turned_form}
use Rattle.sum_forms.proofs.Shows.{if_there}
use Rattle.transfer_ranges.specs.declared.amounts.Receiver.{Receiver}
use Rattle.transfer_ranges.specs.ResultRanges.{most}
use Rattle.cell_laws.proofs.OperandsRise.{or_either}
use Rattle.cell_laws.proofs.PartsDone.{both_true}
use Rattle.diff_steps.specs.Packs.{Pack, size_of, pack_decimals, cells_in, PackStands, PacksStand}
use Rattle.diff_steps.specs.Stores.{upper_negated}
use Rattle.diff_steps.specs.Clearing.{some_pack, high_fits, low_fits, high_shown, low_shown, ends_fit, is_negative}
use Rattle.pack_laws.specs.Orders.{IsShown}
use Rattle.pack_laws.proofs.Stored.{coef_turned}
use Rattle.pack_laws.specs.Agreeing.{AreMatrices, IsPackOf, ArePacksOf}
use Rattle.std.proofs.Math.IntN.{zero-*ℤ}

-- ---- bounds

module _ (size : ℕ) (m : List ℤ) (cells : ℕ → Option ℤ) (few : size ≤ 8) (stands : StandsIn (size + 1) (word (size + 1) m) cells) (f : ℕ) where
  form_under : (g : Lin) → IsOver size g → (u : ℤ) → upper_of size m g ≡ Some u → (dot (coef g) (λ k. worths cells (suc k)) 8 +ℤ g.constant.high) ≤ℤ u
  form_under g over u e =
      let above : (total (coef_at g.coefs) (worths cells) size +ℤ g.constant.high) ≤ℤ u = subst (IsAbove (total (coef_at g.coefs) (worths cells) size +ℤ g.constant.high)) e (upper_above size (word (size + 1) m) cells stands (coef_at g.coefs) g.constant.high) in
      let same = total_of_form size g cells few over in
      omega (arith, ints, above, same)

  -- the bound of a form is one of what it shows
  pub shown_under : (g : Lin) (d : Scaled) → IsShown size cells g d f → (u : ℤ) → upper_of size m g ≡ Some u → (d.units *ℤ pos (10 ^ f)) ≤ℤ (u *ℤ pos (10 ^ d.scale))
  shown_under g d is u e =
      let more = times_monotone _ _ (10 ^ d.scale) (form_under g is.over u e) in
      let high = is.spans.most in
      omega (arith, ints, more, high)

  turned_over : (g : Lin) → IsOver size g → IsOver size (multiple_of g (negsuc 0))
  turned_over g over = record { beyond = λ k h l. coef_turned size cells g k l ∙ ap (λ (x : ℤ). x *ℤ negsuc 0) (over.beyond k h l) }

  -- and so is that of the negated form, below
  pub shown_over : (g : Lin) (d : Scaled) → IsShown size cells g d f → (u : ℤ) → upper_negated size m g ≡ Some u → (neg_ℤ u *ℤ pos (10 ^ d.scale)) ≤ℤ (d.units *ℤ pos (10 ^ f))
  shown_over g d is u e = by_turned (turned_form true g) (if_there (λ h. upper_of size m h ≡ Some u → neg_ℤ u ≤ℤ (dot (coef g) (λ k. worths cells (suc k)) 8 +ℤ g.constant.low)) (multiple_of g (negsuc 0)) turned_under) e
    where
      turned_under : upper_of size m (multiple_of g (negsuc 0)) ≡ Some u → neg_ℤ u ≤ℤ (dot (coef g) (λ k. worths cells (suc k)) 8 +ℤ g.constant.low)
      turned_under h =
          let sum = dot_of_multiples (coef g) (coef (multiple_of g (negsuc 0))) (λ k. worths cells (suc k)) (negsuc 0) 8 (coef_turned size cells g) in
          let under = form_under (multiple_of g (negsuc 0)) (turned_over g is.over) u h in
          omega (arith, ints, clamps, sum, under)

      by_turned : (o : Option Lin) → IfSome o (λ h. upper_of size m h ≡ Some u → neg_ℤ u ≤ℤ (dot (coef g) (λ k. worths cells (suc k)) 8 +ℤ g.constant.low)) → (o >>= upper_of size m) ≡ Some u
          → (neg_ℤ u *ℤ pos (10 ^ d.scale)) ≤ℤ (d.units *ℤ pos (10 ^ f))
      by_turned None h k = absurd cc
      by_turned (Some t) h k =
          let less = times_monotone _ _ (10 ^ d.scale) (h k) in
          let low = is.spans.least in
          omega (arith, ints, less, low)

  -- ---- ends

  -- a number that a form shows, cut or rounded, is at most what fits
  high_fitted : (mode : Mode) (r : Receiver) (g : Lin) (d : Scaled) → IsShown size cells g d f → (o : Option ℤ) → upper_of size m g ≡ o → high_fits mode r f o ≡ true → near mode (value_of d) (pos r.scale) ≤ℤ most r.digits
  high_fitted mode r g d is None e h = absurd cc
  high_fitted mode r g d is (Some u) e h =
      let grows = near_le mode (value_of d) (value_of (decimal u f)) (pos r.scale) (ten_positive d.scale) (ten_positive f) (shown_under g d is u e) in
      at_most (near mode (value_of d) (pos r.scale)) (near mode (value_of (decimal u f)) (pos r.scale)) (most r.digits) grows h
    where
      at_most : (x y z : ℤ) → x ≤ℤ y → int_le y z ≡ true → x ≤ℤ z
      at_most x y z le e = grind (arith, ints, le, e)

  low_fitted : (mode : Mode) (r : Receiver) (g : Lin) (d : Scaled) → IsShown size cells g d f → (o : Option ℤ) → upper_negated size m g ≡ o → low_fits mode r f o ≡ true → neg_ℤ (most r.digits) ≤ℤ near mode (value_of d) (pos r.scale)
  low_fitted mode r g d is None e h = absurd cc
  low_fitted mode r g d is (Some u) e h =
      let grows = near_le mode (value_of (decimal (neg_ℤ u) f)) (value_of d) (pos r.scale) (ten_positive f) (ten_positive d.scale) (shown_over g d is u e) in
      at_least (neg_ℤ (most r.digits)) (near mode (value_of (decimal (neg_ℤ u) f)) (pos r.scale)) (near mode (value_of d) (pos r.scale)) h grows
    where
      at_least : (x y z : ℤ) → int_le x y ≡ true → y ≤ℤ z → x ≤ℤ z
      at_least x y z e le = grind (arith, ints, le, e)

-- ---- some pack

pub some_shows : (p : Program) (s : Storage) (shows : Pack → List ℤ → Bool) (C : Type 0) → ((pack : Pack) (m : List ℤ) → IsPackOf p pack → size_of pack ≤ 8 → PackStands p.layout pack m s → shows pack m ≡ true → C)
    → (packs : List Pack) (ms : List (List ℤ)) → ArePacksOf p packs → AreMatrices packs ms → PacksStand p.layout packs ms s → some_pack shows packs ms ≡ true → C
some_shows p s shows C one [] ms of are stand e = absurd cc
some_shows p s shows C one (pack ∷ packs) [] of are stand e = absurd cc
some_shows p s shows C one (pack ∷ packs) (m ∷ ms) (is, of) ((few, matrix), are) (k, stand) e = by_first (or_either (shows pack m) (some_pack shows packs ms) e) (λ f. some_shows p s shows C one packs ms of are stand f)
  where
    by_first : (shows pack m ≡ true) ⊎ (some_pack shows packs ms ≡ true) → (some_pack shows packs ms ≡ true → C) → C
    by_first (inl f) more = one pack m is few k f
    by_first (inr f) more = more f

-- the form shows a decimal that is cut or rounded to the number
abbrev pub ShowsNear : Layout → Storage → Mode → Receiver → ℤ → Pack → Lin → Type 0
ShowsNear l s mode r z pack g = (d : Scaled) × (z ≡ near mode (value_of d) (pos r.scale)) × IsShown (size_of pack) (cells_in l pack s) g d (pack_decimals l pack)

module _ (p : Program) (packs : List Pack) (ms : List (List ℤ)) (s : Storage) (of : ArePacksOf p packs) (are : AreMatrices packs ms) (stand : PacksStand p.layout packs ms s) where
  module _ (form : Pack → Option Lin) (mode : Mode) (r : Receiver) (z : ℤ) (shown : (pack : Pack) → IsPackOf p pack → size_of pack ≤ 8 → IfSome (form pack) (ShowsNear p.layout s mode r z pack)) where
    high_of : high_shown p packs ms form mode r ≡ true → z ≤ℤ most r.digits
    high_of e =
        some_shows p s (λ pack m. high_fits mode r (pack_decimals p.layout pack) (form pack >>= upper_of (size_of pack) m)) (z ≤ℤ most r.digits) (λ pack m is few k f. by_form pack m few k (form pack) (shown pack is few) f) packs ms of are stand e
      where
        by_form : (pack : Pack) (m : List ℤ) → size_of pack ≤ 8 → PackStands p.layout pack m s → (o : Option Lin) → IfSome o (ShowsNear p.layout s mode r z pack)
            → high_fits mode r (pack_decimals p.layout pack) (o >>= upper_of (size_of pack) m) ≡ true → z ≤ℤ most r.digits
        by_form pack m few k None h f = absurd cc
        by_form pack m few k (Some g) (d, same, is) f =
            subst (λ (x : ℤ). x ≤ℤ most r.digits) (sym same)
            (high_fitted (size_of pack) m (cells_in p.layout pack s) few k (pack_decimals p.layout pack) mode r g d is (upper_of (size_of pack) m g) refl f)

    low_of : low_shown p packs ms form mode r ≡ true → neg_ℤ (most r.digits) ≤ℤ z
    low_of e =
        some_shows p s (λ pack m. low_fits mode r (pack_decimals p.layout pack) (form pack >>= upper_negated (size_of pack) m)) (neg_ℤ (most r.digits) ≤ℤ z) (λ pack m is few k f. by_form pack m few k (form pack) (shown pack is few) f) packs ms of are stand e
      where
        by_form : (pack : Pack) (m : List ℤ) → size_of pack ≤ 8 → PackStands p.layout pack m s → (o : Option Lin) → IfSome o (ShowsNear p.layout s mode r z pack)
            → low_fits mode r (pack_decimals p.layout pack) (o >>= upper_negated (size_of pack) m) ≡ true → neg_ℤ (most r.digits) ≤ℤ z
        by_form pack m few k None h f = absurd cc
        by_form pack m few k (Some g) (d, same, is) f =
            subst (λ (x : ℤ). neg_ℤ (most r.digits) ≤ℤ x) (sym same)
            (low_fitted (size_of pack) m (cells_in p.layout pack s) few k (pack_decimals p.layout pack) mode r g d is (upper_negated (size_of pack) m g) refl f)

    -- each end fits by the interval or by a pack
    pub ends_hold : (i : Interval) → Holds i z → ends_fit p packs ms form mode r i ≡ true → (neg_ℤ (most r.digits) ≤ℤ z) × (z ≤ℤ most r.digits)
    ends_hold i (low, high) e =
        let two = both_true (int_le i.high (most r.digits) || high_shown p packs ms form mode r) (int_le (neg_ℤ (most r.digits)) i.low || low_shown p packs ms form mode r) e in
        (at_low (or_either (int_le (neg_ℤ (most r.digits)) i.low) (low_shown p packs ms form mode r) two.1), at_high (or_either (int_le i.high (most r.digits)) (high_shown p packs ms form mode r) two.0))
      where
        le_by : (x y w : ℤ) → x ≤ℤ y → int_le y w ≡ true → x ≤ℤ w
        le_by x y w h f = grind (arith, ints, h, f)

        le_from : (x y w : ℤ) → int_le x y ≡ true → y ≤ℤ w → x ≤ℤ w
        le_from x y w f h = grind (arith, ints, h, f)

        at_low : (int_le (neg_ℤ (most r.digits)) i.low ≡ true) ⊎ (low_shown p packs ms form mode r ≡ true) → neg_ℤ (most r.digits) ≤ℤ z
        at_low (inl f) = le_from (neg_ℤ (most r.digits)) i.low z f low
        at_low (inr f) = low_of f

        at_high : (int_le i.high (most r.digits) ≡ true) ⊎ (high_shown p packs ms form mode r ≡ true) → z ≤ℤ most r.digits
        at_high (inl f) = le_by z i.high (most r.digits) high f
        at_high (inr f) = high_of f

  -- ---- divisors

  -- a decimal that a form shows isn't 0 where a bound of the form, or of the negated form, is below 0
  pub none_apart : (form : Pack → Option Lin) (d : Scaled) → d.units ≡ pos 0 → ((pack : Pack) → IsPackOf p pack → size_of pack ≤ 8 → IfSome (form pack) (λ g. IsShown (size_of pack) (cells_in p.layout pack s) g d (pack_decimals p.layout pack)))
      → some_pack (λ pack m. is_negative (form pack >>= upper_of (size_of pack) m) || is_negative (form pack >>= upper_negated (size_of pack) m)) packs ms ≡ true → ⊥
  none_apart form d zero_ shown e =
      some_shows p s (λ pack m. is_negative (form pack >>= upper_of (size_of pack) m) || is_negative (form pack >>= upper_negated (size_of pack) m)) ⊥ (λ pack m is few k f. by_form pack m few k (form pack) (shown pack is few) f) packs ms of are stand e
    where
      below : (o : Option ℤ) → is_negative o ≡ true → (u : ℤ) × (o ≡ Some u) × (u <ℤ pos 0)
      below None f = absurd cc
      below (Some u) f = (u, refl, lt_of u f)
        where
          lt_of : (u : ℤ) → int_lt u (pos 0) ≡ true → u <ℤ pos 0
          lt_of u f = grind (arith, ints)

      nothing : (n : ℕ) → d.units *ℤ pos n ≡ pos 0
      nothing n = ap (λ (x : ℤ). x *ℤ pos n) zero_ ∙ zero-*ℤ (pos n)

      over_none : (u : ℤ) (n : ℕ) → u <ℤ pos 0 → 1 ≤ n → (u *ℤ pos n) <ℤ pos 0
      over_none u n lt some = let more = times_monotone u (negsuc 0) n (omega (arith, ints, lt)) in let one : negsuc 0 *ℤ pos n ≡ neg_ℤ (pos n) = omega (arith, ints) in omega (arith, ints, more, one, some)

      by_form : (pack : Pack) (m : List ℤ) → size_of pack ≤ 8 → PackStands p.layout pack m s → (o : Option Lin) → IfSome o (λ g. IsShown (size_of pack) (cells_in p.layout pack s) g d (pack_decimals p.layout pack))
          → (is_negative (o >>= upper_of (size_of pack) m) || is_negative (o >>= upper_negated (size_of pack) m)) ≡ true → ⊥
      by_form pack m few k None h f = cc
      by_form pack m few k (Some g) is f =
          elim (or_either (is_negative (upper_of (size_of pack) m g)) (is_negative (upper_negated (size_of pack) m g)) f) [
            | inl low ↦
                let u = below (upper_of (size_of pack) m g) low in
                let under = shown_under (size_of pack) m (cells_in p.layout pack s) few k (pack_decimals p.layout pack) g d is u.0 u.1 in
                let none = nothing (10 ^ pack_decimals p.layout pack) in let less = over_none u.0 (10 ^ d.scale) u.2 (ten_positive d.scale) in
                omega (arith, ints, under, none, less)
            | inr low ↦
                let u = below (upper_negated (size_of pack) m g) low in
                let over = shown_over (size_of pack) m (cells_in p.layout pack s) few k (pack_decimals p.layout pack) g d is u.0 u.1 in
                let none = nothing (10 ^ pack_decimals p.layout pack) in let less = over_none u.0 (10 ^ d.scale) u.2 (ten_positive d.scale) in
                let turned = neg_ℤ_times u.0 (10 ^ d.scale) in
                omega (arith, ints, over, none, less, turned)
          ]
