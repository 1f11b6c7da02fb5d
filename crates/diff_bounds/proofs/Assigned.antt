-- What an assignment makes of a matrix holds of the values behind it.
use Rattle.std.proofs.Common.{◌≡◌, ◌≢◌, ℕ, zero, suc, ◌+◌, ◌<◌, ◌≤◌, Bool, true, false, cond, ℤ, pos, negsuc, neg_ℤ, ◌+ℤ◌, ◌-ℤ◌, ◌*ℤ◌, ◌≤ℤ◌, List, Option, Some, None, ◌⊎◌, inl, inr, refl, sym, ap, subst, ◌∙◌, arith}
use Rattle.std.proofs.lemmas.Int.{ints}
use Rattle.std.proofs.lemmas.Bool.{cases_eq, eq-eqb, ne_eqb}
use Rattle.diff_bounds.specs.declared.form.lin.Lin.{Lin}
use Rattle.diff_bounds.specs.Forms.{dot, is_small}
use Rattle.diff_bounds.specs.Matrix.{IsBound}
use Rattle.diff_bounds.specs.Storages.{value_at, DifferBy, StandsIn}
use Rattle.diff_bounds.specs.Numbers.{word_of, IsAbove}
use Rattle.diff_bounds.specs.Upper.{upper, coef_at}
use Rattle.diff_bounds.specs.Values.{AreLower, worth, total, worths, HasValue, IsOver}
use Rattle.diff_bounds.specs.Assigned.{less_place, negated, upper_less, less_upper, AreAssigned, with_value, IsValue}
use Rattle.diff_bounds.proofs.Numbers.{parts_of_product}
use Rattle.diff_bounds.proofs.Sound.{upper_above}
use Rattle.diff_bounds.proofs.BoundValues.{Shows, upper_shows}
use Rattle.diff_bounds.proofs.Bounded.{upper_word}
use Rattle.diff_bounds.proofs.Forms.{total_of_form}

-- ---- what is assigned, by coefficients
pub record IsStored (size : ℕ) (cells : ℕ → Option ℤ) (c : ℕ → ℤ) (low high z : ℤ) : Type 0 where
  pub operands : (j : ℕ) → 0 < j → j ≤ size → c j ≢ pos 0 → HasValue (cells j)
  pub least : (total c (worths cells) size +ℤ low) ≤ℤ z
  pub most : z ≤ℤ (total c (worths cells) size +ℤ high)

pub record StoredWords (size : ℕ) (w : ℕ → ℕ → ℤ) (to : ℕ) (c : ℕ → ℤ) (low high : ℤ) (u : ℕ → ℕ → ℤ) : Type 0 where
  pub row : (j : ℕ) → j ≤ size → j ≢ to → u to j ≡ word_of (upper_less w j c high size)
  pub column : (i : ℕ) → i ≤ size → i ≢ to → u i to ≡ word_of (less_upper w i c low size)
  pub others : (i j : ℕ) → i ≤ size → j ≤ size → i ≢ to → j ≢ to → u i j ≡ w i j

-- a bound is shown only where the coefficients are small
guarded : (b : Bool) (o : Option ℤ) → IsBound (word_of (cond b o None)) → word_of (cond b o None) ≡ word_of o
guarded true o h = refl
guarded false o h = absurd (omega (arith, ints))

-- ---- the form's value less another's
less_at : (j : ℕ) (c : ℕ → ℤ) (k : ℕ) → k ≡ suc j → less_place (suc j) c k ≡ c k -ℤ pos 1
less_at j c k e = rw (eq-eqb k (suc j) e) refl

less_other : (j : ℕ) (c : ℕ → ℤ) (k : ℕ) → (k ≡ suc j → ⊥) → less_place (suc j) c k ≡ c k
less_other j c k ne = rw (ne_eqb k (suc j) ne) refl

one_less : (x v : ℤ) → (x -ℤ pos 1) *ℤ v ≡ x *ℤ v -ℤ v
one_less (pos zero) v = omega (arith, ints)
one_less (pos (suc a)) v =
    let e : pos (suc a) -ℤ pos 1 ≡ pos a = omega (arith, ints) in
    rw e (omega (arith, ints, parts_of_product a v, parts_of_product (suc a) v))
one_less (negsuc a) v = omega (arith, ints)

-- before the place nothing changes
total_before : (j : ℕ) (c v : ℕ → ℤ) (n : ℕ) → n ≤ j → total (less_place (suc j) c) v n ≡ total c v n
unfolding dot
total_before j c v zero h = refl
total_before j c v (suc n) h =
    let same : less_place (suc j) c (suc n) *ℤ v (suc n) ≡ c (suc n) *ℤ v (suc n) = ap (λ (z : ℤ). z *ℤ v (suc n)) (less_other j c (suc n) (λ e. omega arith)) in
    omega (arith, ints, total_before j c v n (omega arith))

total_behind : (j : ℕ) (c v : ℕ → ℤ) (n : ℕ) → suc j ≤ n → total (less_place (suc j) c) v n ≡ total c v n -ℤ v (suc j)
unfolding dot
total_behind j c v zero h = absurd (omega arith)
total_behind j c v (suc n) h =
    elim (cases_eq n j) as (λ _. total (less_place (suc j) c) v (suc n) ≡ total c v (suc n) -ℤ v (suc j)) [
      | inl e ↦
          let here : less_place (suc j) c (suc n) *ℤ v (suc n) ≡ c (suc n) *ℤ v (suc n) -ℤ v (suc n) = ap (λ (z : ℤ). z *ℤ v (suc n)) (less_at j c (suc n) (ap suc e)) ∙ one_less (c (suc n)) (v (suc n)) in
          let same : v (suc n) ≡ v (suc j) = ap (λ (i : ℕ). v (suc i)) e in
          omega (arith, ints, total_before j c v n (omega arith))
      | inr ne ↦
          let kept : less_place (suc j) c (suc n) *ℤ v (suc n) ≡ c (suc n) *ℤ v (suc n) = ap (λ (z : ℤ). z *ℤ v (suc n)) (less_other j c (suc n) (λ e. omega arith)) in
          omega (arith, ints, total_behind j c v n (omega arith))
    ]

total_less : (cells : ℕ → Option ℤ) (c : ℕ → ℤ) (n j : ℕ) → j ≤ n → total (less_place j c) (worths cells) n ≡ total c (worths cells) n -ℤ worths cells j
total_less cells c n zero h = omega (arith, ints)
total_less cells c n (suc j) h = total_behind j c (worths cells) n h

neg_product : (x v : ℤ) → neg_ℤ x *ℤ v ≡ neg_ℤ (x *ℤ v)
neg_product (pos zero) v = omega (arith, ints)
neg_product (pos (suc a)) v = omega (arith, ints)
neg_product (negsuc a) v = omega (arith, ints)

pub total_negated : (c v : ℕ → ℤ) (n : ℕ) → total (negated c) v n ≡ neg_ℤ (total c v n)
unfolding dot
total_negated c v zero = refl
total_negated c v (suc n) = omega (arith, ints, total_negated c v n, neg_product (c (suc n)) (v (suc n)))

-- ---- a word that is a number
pub number_shown : (t : ℤ) (o : Option ℤ) → IsBound (word_of o) → IsAbove t o → t ≤ℤ word_of o
number_shown t (Some u) b h = h
number_shown t None b h = absurd (omega (arith, ints))

pub shown : (P : Type 0) (o : Option ℤ) → IsBound (word_of o) → Shows P o → P
shown P (Some u) b h = h
shown P None b h = absurd (omega (arith, ints))

pub differ_of : (c : ℤ) (x y : Option ℤ) → HasValue x → HasValue y → (worth x -ℤ worth y) ≤ℤ c → DifferBy c x y
differ_of c (Some x) (Some y) h k l = l
differ_of c (Some x) None h k l = absurd k
differ_of c None y h k l = absurd h

-- ---- the values behind
value_same : (cells : ℕ → Option ℤ) (to : ℕ) (z : ℤ) (j : ℕ) → 0 < to → j ≢ to → value_at (with_value cells to z) j ≡ value_at cells j
value_same cells to z zero h ne = refl
value_same cells to z (suc j) h ne = rw (ne_eqb (suc j) to ne) refl

value_new : (cells : ℕ → Option ℤ) (to : ℕ) (z : ℤ) → 0 < to → value_at (with_value cells to z) to ≡ Some z
value_new cells zero z h = absurd (omega arith)
value_new cells (suc to) z h = rw (eq-eqb (suc to) (suc to) refl) refl

nonzero_or_one : (x : ℤ) → (x -ℤ pos 1 ≢ pos 0) ⊎ (x ≡ pos 1)
nonzero_or_one (pos zero) = inl (λ e. omega (arith, ints))
nonzero_or_one (pos (suc zero)) = inr refl
nonzero_or_one (pos (suc (suc n))) = inl (λ e. omega (arith, ints))
nonzero_or_one (negsuc n) = inl (λ e. omega (arith, ints))

module _ (size : ℕ) (w : ℕ → ℕ → ℤ) (cells : ℕ → Option ℤ) (to : ℕ) (c : ℕ → ℤ) (low high z : ℤ)
    (some : 0 < to) (within : to ≤ size) (stands : StandsIn (size + 1) w cells) (is : IsStored size cells c low high z) where
  -- a cell beside the receiver has a value where a bound of the form's difference to it is shown
  apart_value : (j : ℕ) → j ≤ size → (high_ : ℤ) → IsBound (word_of (upper w (less_place j c) high_ size)) → HasValue (value_at cells j)
  apart_value zero h high_ b = tt
  apart_value (suc j) h high_ b =
      elim (nonzero_or_one (c (suc j))) as (λ _. HasValue (cells (suc j))) [
        | inl ne ↦ shown (HasValue (cells (suc j))) (upper w (less_place (suc j) c) high_ size) b
            (upper_shows size w cells stands (less_place (suc j) c) high_ (suc j) (omega arith) h (λ e. ne (sym (less_at j c (suc j) refl) ∙ e)))
        | inr one ↦ is.operands (suc j) (omega arith) h (λ e. let f : pos 1 ≡ pos 0 = sym one ∙ e in omega (arith, ints))
      ]

  negated_value : (j : ℕ) → j ≤ size → (high_ : ℤ) → IsBound (word_of (upper w (negated (less_place j c)) high_ size)) → HasValue (value_at cells j)
  negated_value zero h high_ b = tt
  negated_value (suc j) h high_ b =
      elim (nonzero_or_one (c (suc j))) as (λ _. HasValue (cells (suc j))) [
        | inl ne ↦ shown (HasValue (cells (suc j))) (upper w (negated (less_place (suc j) c)) high_ size) b
            (upper_shows size w cells stands (negated (less_place (suc j) c)) high_ (suc j) (omega arith) h
            (λ e. ne (let f : neg_ℤ (c (suc j) -ℤ pos 1) ≡ pos 0 = ap neg_ℤ (sym (less_at j c (suc j) refl)) ∙ e in omega (arith, ints))))
        | inr one ↦ is.operands (suc j) (omega arith) h (λ e. let f : pos 1 ≡ pos 0 = sym one ∙ e in omega (arith, ints))
      ]

  in_row : (j : ℕ) → j ≤ size → j ≢ to → IsBound (word_of (upper w (less_place j c) high size)) → DifferBy (word_of (upper w (less_place j c) high size)) (Some z) (value_at cells j)
  in_row j h ne b =
      let above = number_shown (total (less_place j c) (worths cells) size +ℤ high) (upper w (less_place j c) high size) b (upper_above size w cells stands (less_place j c) high) in
      let sum = total_less cells c size j h in
      let most = is.most in
      differ_of (word_of (upper w (less_place j c) high size)) (Some z) (value_at cells j) tt (apart_value j h high b) (omega (arith, ints, above, sum, most))

  in_column : (i : ℕ) → i ≤ size → i ≢ to → IsBound (word_of (upper w (negated (less_place i c)) (neg_ℤ low) size)) → DifferBy (word_of (upper w (negated (less_place i c)) (neg_ℤ low) size)) (value_at cells i) (Some z)
  in_column i h ne b =
      let above = number_shown (total (negated (less_place i c)) (worths cells) size +ℤ neg_ℤ low) (upper w (negated (less_place i c)) (neg_ℤ low) size) b (upper_above size w cells stands (negated (less_place i c)) (neg_ℤ low)) in
      let sum = total_less cells c size i h in
      let minus = total_negated (less_place i c) (worths cells) size in
      let least = is.least in
      differ_of (word_of (upper w (negated (less_place i c)) (neg_ℤ low) size)) (value_at cells i) (Some z) (negated_value i h (neg_ℤ low) b) tt (omega (arith, ints, above, sum, minus, least))

pub stands_stored : (size : ℕ) (w u : ℕ → ℕ → ℤ) (cells : ℕ → Option ℤ) (to : ℕ) (c : ℕ → ℤ) (low high z : ℤ) → 0 < to → to ≤ size → StandsIn (size + 1) w cells → IsStored size cells c low high z → StoredWords size w to c low high u → StandsIn (size + 1) u (with_value cells to z)
stands_stored size w u cells to c low high z some within stands is words = record { bounded = λ i j h k ne b. by_places i j h k ne b (cases_eq i to) (cases_eq j to) }
  where
    new : value_at (with_value cells to z) to ≡ Some z
    new = value_new cells to z some

    by_places : (i j : ℕ) → i < size + 1 → j < size + 1 → i ≢ j → IsBound (u i j) → (i ≡ to) ⊎ (i ≡ to → ⊥) → (j ≡ to) ⊎ (j ≡ to → ⊥) → DifferBy (u i j) (value_at (with_value cells to z) i) (value_at (with_value cells to z) j)
    by_places i j h k ne b (inl e) (inl f) = absurd (ne (e ∙ sym f))
    by_places i j h k ne b (inl e) (inr apart_) =
        let there : u i j ≡ word_of (upper_less w j c high size) = ap (λ (p : ℕ). u p j) e ∙ words.row j (omega arith) apart_ in
        let at : u i j ≡ word_of (upper w (less_place j c) high size) = there ∙ guarded (is_small (less_place j c j)) (upper w (less_place j c) high size) (subst (λ (x : ℤ). IsBound x) there b) in
        let value_i : value_at (with_value cells to z) i ≡ Some z = ap (value_at (with_value cells to z)) e ∙ new in
        rw (at, value_i, value_same cells to z j some apart_)
        (in_row size w cells to c low high z some within stands is j (omega arith) apart_ (subst (λ (x : ℤ). IsBound x) at b))
    by_places i j h k ne b (inr apart_) (inl f) =
        let there : u i j ≡ word_of (less_upper w i c low size) = ap (λ (p : ℕ). u i p) f ∙ words.column i (omega arith) apart_ in
        let at : u i j ≡ word_of (upper w (negated (less_place i c)) (neg_ℤ low) size) = there ∙ guarded (is_small (less_place i c i)) (upper w (negated (less_place i c)) (neg_ℤ low) size) (subst (λ (x : ℤ). IsBound x) there b) in
        let value_j : value_at (with_value cells to z) j ≡ Some z = ap (value_at (with_value cells to z)) f ∙ new in
        rw (at, value_j, value_same cells to z i some apart_)
        (in_column size w cells to c low high z some within stands is i (omega arith) apart_ (subst (λ (x : ℤ). IsBound x) at b))
    by_places i j h k ne b (inr apart_) (inr neither) =
        let at : u i j ≡ w i j = words.others i j (omega arith) (omega arith) apart_ neither in
        rw (at, value_same cells to z i some apart_, value_same cells to z j some neither) (stands.bounded i j h k ne (subst (λ (x : ℤ). IsBound x) at b))

-- ---- a narrower form over a lower matrix
guarded_word : (b : Bool) (o p : Option ℤ) → word_of o ≤ℤ word_of p → word_of (cond b o None) ≤ℤ word_of (cond b p None)
guarded_word true o p h = h
guarded_word false o p h = omega (arith, ints)

stored_lower : (size : ℕ) (w u a b : ℕ → ℕ → ℤ) (to : ℕ) (c : ℕ → ℤ) (low high less more : ℤ) → to ≤ size → AreLower (size + 1) w u → less ≤ℤ low → high ≤ℤ more → StoredWords size w to c low high a → StoredWords size u to c less more b → (i j : ℕ) → i ≤ size → j ≤ size → i ≢ j → a i j ≤ℤ b i j
stored_lower size w u a b to c low high less more within lower h k one other i j l m ne = by_places (cases_eq i to) (cases_eq j to)
  where
    by_places : (i ≡ to) ⊎ (i ≡ to → ⊥) → (j ≡ to) ⊎ (j ≡ to → ⊥) → a i j ≤ℤ b i j
    by_places (inl e) (inl f) = absurd (ne (e ∙ sym f))
    by_places (inl e) (inr apart_) =
        let p : a i j ≡ word_of (upper_less w j c high size) = ap (λ (x : ℕ). a x j) e ∙ one.row j m apart_ in
        let q : b i j ≡ word_of (upper_less u j c more size) = ap (λ (x : ℕ). b x j) e ∙ other.row j m apart_ in
        rw (p, q) (guarded_word (is_small (less_place j c j)) (upper w (less_place j c) high size) (upper u (less_place j c) more size) (upper_word size w u lower (less_place j c) high more k))
    by_places (inr apart_) (inl f) =
        let p : a i j ≡ word_of (less_upper w i c low size) = ap (λ (x : ℕ). a i x) f ∙ one.column i l apart_ in
        let q : b i j ≡ word_of (less_upper u i c less size) = ap (λ (x : ℕ). b i x) f ∙ other.column i l apart_ in
        rw (p, q) (guarded_word (is_small (less_place i c i)) (upper w (negated (less_place i c)) (neg_ℤ low) size) (upper u (negated (less_place i c)) (neg_ℤ less) size) (upper_word size w u lower (negated (less_place i c)) (neg_ℤ low) (neg_ℤ less) (omega (arith, ints))))
    by_places (inr apart_) (inr neither) = rw (one.others i j l m apart_ neither, other.others i j l m apart_ neither) (lower.words i j (omega arith) (omega arith))

-- ---- forms
words_of_form : (size : ℕ) (w : ℕ → ℕ → ℤ) (to : ℕ) (form : Lin) (u : ℕ → ℕ → ℤ) → AreAssigned size w to form u → StoredWords size w to (coef_at form.coefs) form.constant.low form.constant.high u
words_of_form size w to form u are = record { row = are.row; column = are.column; others = are.others }

pub stands_assigned : (size : ℕ) (w u : ℕ → ℕ → ℤ) (cells : ℕ → Option ℤ) (to : ℕ) (form : Lin) (z : ℤ) → size ≤ 8 → IsOver size form → 0 < to → to ≤ size → StandsIn (size + 1) w cells → IsValue size cells form z → AreAssigned size w to form u → StandsIn (size + 1) u (with_value cells to z)
stands_assigned size w u cells to form z few over some within stands is are =
    let sum = total_of_form size form cells few over in
    let held = is.held in
    stands_stored size w u cells to (coef_at form.coefs) form.constant.low form.constant.high z some within stands
    (record { operands = is.operands.values; least = omega (arith, ints, sum, held.0); most = omega (arith, ints, sum, held.1) })
    (words_of_form size w to form u are)

pub assigned_lower : (size : ℕ) (w u a b : ℕ → ℕ → ℤ) (to : ℕ) (f g : Lin) → to ≤ size → AreLower (size + 1) w u → f.coefs ≡ g.coefs → g.constant.low ≤ℤ f.constant.low → f.constant.high ≤ℤ g.constant.high → AreAssigned size w to f a → AreAssigned size u to g b → (i j : ℕ) → i ≤ size → j ≤ size → i ≢ j → a i j ≤ℤ b i j
assigned_lower size w u a b to f g within lower e h k one other =
    stored_lower size w u a b to (coef_at g.coefs) f.constant.low f.constant.high g.constant.low g.constant.high within lower h k
    (subst (λ (coefs : List ℤ). StoredWords size w to (coef_at coefs) f.constant.low f.constant.high a) e (words_of_form size w to f a one))
    (words_of_form size u to g b other)
