-- What a store of a form leaves of the values that stand in a matrix.
use Rattle.std.proofs.Common.{◌≡◌, ℕ, zero, suc, ◌+◌, ◌-◌, ◌*◌, ◌^◌, ◌<◌, ◌≤◌, Bool, true, false, List, ℤ, pos, negsuc, neg_ℤ, ◌+ℤ◌, ◌*ℤ◌, ◌≤ℤ◌, Option, Some, None, refl, sym, ap, subst, ◌∙◌, arith}
use Rattle.std.specs.Prelude.{IfSome, unsigned_abs}
use Rattle.std.proofs.lemmas.Int.{ints, clamps}
use Rattle.std.proofs.lemmas.Bool.{ne_eqb}
use Rattle.dec_num.specs.declared.types.Mode.{Mode}
use Rattle.dec_num.specs.declared.types.Scaled.{Scaled}
use Rattle.dec_num.specs.Exact.{rounded, with_sign_of}
use Rattle.dec_num.proofs.Near.{rounded_whole}
use Rattle.dec_num.proofs.Powers.{ten_positive}
use Rattle.dec_num.proofs.Signed.{neg_ℤ_times}
use Rattle.interval_domain.specs.declared.bounds.Interval.{Interval}
use Rattle.cob_program.specs.Values.{◌>>=◌}
use Rattle.diff_bounds.specs.declared.form.lin.Lin.{Lin}
use Rattle.diff_bounds.specs.Forms.{coef, dot}
use Rattle.diff_bounds.specs.Results.{added_coefs, scaled_coefs, sum_of, multiple_of}
use Rattle.diff_bounds.proofs.Coefs.{coef-coefs_of}
use Rattle.diff_bounds.proofs.Dots.{dot_of_multiples}
use Rattle.diff_bounds.specs.Matrix.{word}
use Rattle.diff_bounds.specs.Storages.{StandsIn}
use Rattle.diff_bounds.specs.Values.{worths, IsOver}
use Rattle.diff_bounds.specs.Assigned.{with_value, AreOperands, IsValue}
use Rattle.diff_bounds.specs.declared.form.known.Known as sure
use Rattle.diff_bounds.specs.Errors.{error_in, stored_units, AreSure}
use Rattle.diff_bounds.specs.Scales.{Spans, IsBetween}
use Rattle.diff_bounds.proofs.Rounds.{within}
use Rattle.diff_bounds.proofs.Scales.{stored_between}
use Rattle.sum_forms.specs.Constants.{constant_form}
use Rattle.sum_forms.specs.SumForms.{turned_form}
use Rattle.sum_forms.proofs.Shows.{if_there}
use Rattle.sum_forms.proofs.Sound.{if_then}
use Rattle.transfer_ranges.specs.Receivers.{kept_units}
use Rattle.diff_steps.specs.Matrices.{forgotten}
use Rattle.diff_steps.specs.Stores.{widened_form, assigned_or_forgotten, absolute_stored, form_stored}
use Rattle.pack_laws.proofs.Kept.{forgotten_stands, assigned_stands, lesser_stands}

-- ---- absolute values

kept_above : (mode : Mode) (v : Scaled) (t : ℕ) → pos 0 ≤ℤ v.units → pos (unsigned_abs (stored_units mode v t)) ≡ stored_units mode v t
kept_above mode v t h = above v.units h _
  where
    above : (u : ℤ) → pos 0 ≤ℤ u → (n : ℕ) → pos (unsigned_abs (with_sign_of u n)) ≡ with_sign_of u n
    above (pos a) h n = refl
    above (negsuc a) h n = absurd (omega (arith, ints, h))

none_stored : (mode : Mode) (n t b : ℕ) → n ≡ 0 → 0 < b → rounded mode (n * 10 ^ t) b ≡ 0
none_stored mode n t b e h =
    let g : n * 10 ^ t ≡ 0 * b = ap (λ m. m * 10 ^ t) e ∙ omega arith in
    ap (λ k. rounded mode k b) g ∙ rounded_whole mode 0 b h

kept_below : (mode : Mode) (v : Scaled) (t : ℕ) → v.units ≤ℤ pos 0 → pos (unsigned_abs (stored_units mode v t)) ≡ neg_ℤ (stored_units mode v t)
kept_below mode v t h = below v.units h (rounded mode (unsigned_abs v.units * 10 ^ t) (10 ^ v.scale)) (λ e. none_stored mode (unsigned_abs v.units) t (10 ^ v.scale) e (ten_positive v.scale))
  where
    turned : (n : ℕ) → pos (unsigned_abs (neg_ℤ (pos n))) ≡ neg_ℤ (neg_ℤ (pos n))
    turned n = omega (arith, ints)

    flat : (n : ℕ) → n ≡ 0 → pos n ≡ neg_ℤ (pos n)
    flat n e = omega (arith, ints, e)

    below : (u : ℤ) → u ≤ℤ pos 0 → (n : ℕ) → (unsigned_abs u ≡ 0 → n ≡ 0) → pos (unsigned_abs (with_sign_of u n)) ≡ neg_ℤ (with_sign_of u n)
    below (pos a) h n k = flat n (k (omega (arith, ints, h)))
    below (negsuc a) h n k = turned n

module _ (size : ℕ) (cells : ℕ → Option ℤ) where
  -- a form of the pack that can be a number
  record CanBe (form : Lin) (z : ℤ) : Type 0 where
    over : IsOver size form
    value : IsValue size cells form z

  -- ---- forms with the same coefficients, or their multiples

  pub dot_same : (c e v : ℕ → ℤ) (n : ℕ) → ((k : ℕ) → k < n → c k ≡ e k) → dot c v n ≡ dot e v n
  unfolding dot
  dot_same c e v zero h = refl
  dot_same c e v (suc n) h =
      let here : c n *ℤ v n ≡ e n *ℤ v n = ap (λ (x : ℤ). x *ℤ v n) (h n (omega arith)) in
      let before : dot c v n ≡ dot e v n = dot_same c e v n (λ k l. h k (omega arith)) in
      omega (arith, ints, here, before)

  plus_none : (x : ℤ) → x +ℤ pos 0 ≡ x
  plus_none x = omega (arith, ints)

  pub coef_widened : (form : Lin) (e : Interval) (k : ℕ) → k < 8 → coef (sum_of form (constant_form e)) k ≡ coef form k
  coef_widened form e k h =
      coef-coefs_of (added_coefs form (constant_form e)) k h ∙ ap (λ (x : ℤ). coef form k +ℤ x) (coef-coefs_of (λ _. pos 0) k h) ∙ plus_none (coef form k)

  -- operands have values where coefficients are not 0
  pub operands_of : (f g : Lin) → ((k : ℕ) → k < 8 → coef f k ≡ pos 0 → coef g k ≡ pos 0) → size ≤ 8 → AreOperands size cells f → AreOperands size cells g
  operands_of f g none few are = record {
    values = λ j some within ne. are.values j some within (λ zero_. ne (none (j - 1) (omega arith) zero_));
  }

  widened_can : (form : Lin) (e : Interval) (z : ℤ) → size ≤ 8 → IsOver size form → AreOperands size cells form → IsBetween (dot (coef form) (λ k. worths cells (suc k)) 8) form.constant e z → CanBe (sum_of form (constant_form e)) z
  widened_can form e z few over are between =
      let same : dot (coef (sum_of form (constant_form e))) (λ k. worths cells (suc k)) 8 ≡ dot (coef form) (λ k. worths cells (suc k)) 8 = dot_same _ _ (λ k. worths cells (suc k)) 8 (λ k h. coef_widened form e k h) in
      let least = between.least in let most = between.most in
      record {
        over = record { beyond = λ k h l. coef_widened form e k l ∙ over.beyond k h l };
        value = record {
          operands = operands_of form (sum_of form (constant_form e)) (λ k h zero_. coef_widened form e k h ∙ zero_) few are;
          held = (omega (arith, ints, same, least), omega (arith, ints, same, most));
        };
      }

  pub coef_turned : (form : Lin) (k : ℕ) → k < 8 → coef (multiple_of form (negsuc 0)) k ≡ coef form k *ℤ negsuc 0
  coef_turned form k h = coef-coefs_of (scaled_coefs form (negsuc 0)) k h

  turned_can : (form : Lin) (z : ℤ) → size ≤ 8 → CanBe form z → CanBe (multiple_of form (negsuc 0)) (neg_ℤ z)
  turned_can form z few can =
      let sum = dot_of_multiples (coef form) (coef (multiple_of form (negsuc 0))) (λ k. worths cells (suc k)) (negsuc 0) 8 (coef_turned form) in
      let low = can.value.held.0 in let high = can.value.held.1 in
      record {
        over = record { beyond = λ k h l. coef_turned form k l ∙ ap (λ (x : ℤ). x *ℤ negsuc 0) (can.over.beyond k h l) };
        value = record {
          operands = operands_of form (multiple_of form (negsuc 0)) (λ k h zero_. coef_turned form k h ∙ ap (λ (x : ℤ). x *ℤ negsuc 0) zero_) few can.value.operands;
          held = (omega (arith, ints, clamps, sum, low, high), omega (arith, ints, clamps, sum, low, high));
        };
      }

  turned_if_can : (o : Option Lin) (z : ℤ) → size ≤ 8 → IfSome o (λ g. CanBe g z) → IfSome (o >>= turned_form true) (λ g. CanBe g (neg_ℤ z))
  turned_if_can o z few h =
      if_then o (λ g. CanBe g z) (λ g. CanBe g (neg_ℤ z)) (turned_form true) h
      (λ g l. if_there (λ g. CanBe g (neg_ℤ z)) (multiple_of g (negsuc 0)) (turned_can g z few l))

  -- ---- images

  module _ (m : List ℤ) (to : ℕ) (few : size ≤ 8) (some : 0 < to) (last : to ≤ size) (stands : StandsIn (size + 1) (word (size + 1) m) cells) where
    lost : (z : ℤ) → StandsIn (size + 1) (word (size + 1) (forgotten size to m)) (with_value cells to z)
    lost z = forgotten_stands size to m cells (with_value cells to z) last stands (record { same = λ k ne. rw (ne_eqb k to ne) refl })

    put : (o : Option Lin) (z : ℤ) → IfSome o (λ g. CanBe g z) → StandsIn (size + 1) (word (size + 1) (assigned_or_forgotten size to o m)) (with_value cells to z)
    put None z h = lost z
    put (Some g) z h = assigned_stands size to g m cells z few h.over some last stands h.value

    put_absolute : (o : Option Lin) (n p : Bool) (z r : ℤ) → IfSome o (λ g. CanBe g z) → (n ≡ true → r ≡ z) → (p ≡ true → r ≡ neg_ℤ z) → StandsIn (size + 1) (word (size + 1) (absolute_stored size to o n p m)) (with_value cells to r)
    put_absolute o true true z r h k l =
        lesser_stands size (assigned_or_forgotten size to o m) (assigned_or_forgotten size to (o >>= turned_form true) m) (with_value cells to r)
        (put o r (subst (λ (x : ℤ). IfSome o (λ g. CanBe g x)) (sym (k refl)) h))
        (put (o >>= turned_form true) r (subst (λ (x : ℤ). IfSome (o >>= turned_form true) (λ g. CanBe g x)) (sym (l refl)) (turned_if_can o z few h)))
    put_absolute o true false z r h k l = put o r (subst (λ (x : ℤ). IfSome o (λ g. CanBe g x)) (sym (k refl)) h)
    put_absolute o false true z r h k l =
        put (o >>= turned_form true) r (subst (λ (x : ℤ). IfSome (o >>= turned_form true) (λ g. CanBe g x)) (sym (l refl)) (turned_if_can o z few h))
    put_absolute o false false z r h k l = lost r

    -- ---- stores

    pub form_stands : (form : Lin) (signed : Bool) (mode : Mode) (k : sure.Known) (v : Scaled) (t more : ℕ) → IsOver size form → AreOperands size cells form → AreSure k v t → Spans (dot (coef form) (λ j. worths cells (suc j)) 8) form.constant v (t + more) → StandsIn (size + 1) (word (size + 1) (form_stored size to signed mode (10 ^ more) k form m)) (with_value cells to (kept_units signed (stored_units mode v t) *ℤ pos (10 ^ more)))
    form_stands form signed mode k v t more over are sure_ spans = by_sign signed
      where
        e : Interval
        e = error_in k mode (pos (10 ^ more))

        s : ℤ
        s = stored_units mode v t

        can : IfSome (widened_form form e) (λ g. CanBe g (s *ℤ pos (10 ^ more)))
        can = if_there (λ g. CanBe g (s *ℤ pos (10 ^ more))) (sum_of form (constant_form e))
            (widened_can form e (s *ℤ pos (10 ^ more)) few over are
            (stored_between (dot (coef form) (λ j. worths cells (suc j)) 8) form.constant e s v t more spans (within mode k v t more sure_)))

        not_negative : k.not_negative ≡ true → pos (unsigned_abs s) *ℤ pos (10 ^ more) ≡ s *ℤ pos (10 ^ more)
        not_negative h = ap (λ (x : ℤ). x *ℤ pos (10 ^ more)) (kept_above mode v t (sure_.not_negative h))

        not_positive : k.not_positive ≡ true → pos (unsigned_abs s) *ℤ pos (10 ^ more) ≡ neg_ℤ (s *ℤ pos (10 ^ more))
        not_positive h = ap (λ (x : ℤ). x *ℤ pos (10 ^ more)) (kept_below mode v t (sure_.not_positive h)) ∙ neg_ℤ_times s (10 ^ more)

        by_sign : (b : Bool) → StandsIn (size + 1) (word (size + 1) (form_stored size to b mode (10 ^ more) k form m)) (with_value cells to (kept_units b s *ℤ pos (10 ^ more)))
        by_sign true = put (widened_form form e) (s *ℤ pos (10 ^ more)) can
        by_sign false = put_absolute (widened_form form e) k.not_negative k.not_positive (s *ℤ pos (10 ^ more)) (pos (unsigned_abs s) *ℤ pos (10 ^ more)) can not_negative not_positive
