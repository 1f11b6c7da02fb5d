-- A numeral that fits an item without loss is its number exactly.
use Rattle.std.proofs.Common.{◌≡◌, ◌⊎◌, inl, inr, ◌==◌, ℕ, ◌+◌, ◌-◌, ◌*◌, ◌/◌, ◌^◌, ◌<◌, ◌≤◌, zero, suc, Bool, true, false, List, [], ◌∷◌, ◌++◌, length, take, drop, pos, neg_ℤ, refl, ap, ◌∙◌, sym, subst, arith}
use Rattle.std.proofs.lemmas.Bool.{and_parts, eqb-true, cases_lt}
use Rattle.std.proofs.lemmas.List.{take-append-drop, length-drop}
use Rattle.std.proofs.Math.Nat.{mul_assoc}
use Rattle.dec_num.specs.declared.types.Mode.TheVariants.{Trunc}
use Rattle.dec_num.specs.Exact.{near, IsSameNumber}
use Rattle.dec_num.specs.Scaled.{value_of}
use Rattle.dec_num.proofs.Near.{rounded_whole}
use Rattle.dec_num.proofs.Powers.{ten_positive, ten-add}
use Rattle.dec_num.proofs.Signed.{neg_ℤ_times}
use Rattle.cob_tree.specs.declared.token.Num.{Num}
use Rattle.cob_data.specs.Values.{all_zeros, decimals}
use Rattle.cob_program.specs.Values.{negated, digit_of, numeral, literal}
use Rattle.cob_runs.specs.Contents.{scaled_by}

-- ---- zeros behind

numeral_zeros : (a : ℕ) (cs : List ℕ) → all_zeros cs ≡ true → numeral a cs ≡ a * 10 ^ length cs
numeral_zeros a [] zeros = omega arith
numeral_zeros a (c ∷ cs) zeros =
    let parts = and_parts (c == 48) (all_zeros cs) zeros in
    let zero_first : c ≡ 48 = eqb-true c 48 parts.0 in
    let next : 10 * a + 0 ≡ a * 10 = omega arith in
    let one : suc (length cs) ≡ 1 + length cs = omega arith in
    let power : 10 ^ suc (length cs) ≡ 10 * 10 ^ length cs = ap (λ k. 10 ^ k) one ∙ ten-add 1 (length cs) in
    subst (λ x. numeral (10 * a + digit_of x) cs ≡ a * 10 ^ suc (length cs)) (sym zero_first)
    (numeral_zeros (10 * a + 0) cs parts.1 ∙ (ap (λ n. n * 10 ^ length cs) next ∙ (mul_assoc a 10 (10 ^ length cs) ∙ ap (λ n. a * n) (sym power))))

numeral_append : (a : ℕ) (xs ys : List ℕ) → numeral a (xs ++ ys) ≡ numeral (numeral a xs) ys
numeral_append a [] ys = refl
numeral_append a (x ∷ xs) ys = numeral_append (10 * a + digit_of x) xs ys

drop-nil : (k : ℕ) → drop {A = ℕ} k [] ≡ []
drop-nil zero = refl
drop-nil (suc k) = refl

drop-drop : (m n : ℕ) (cs : List ℕ) → drop m (drop n cs) ≡ drop (n + m) cs
drop-drop m zero cs = let same : m ≡ 0 + m = omega arith in ap (λ k. drop k cs) same
drop-drop m (suc n) [] = drop-nil m ∙ sym (drop-nil (suc n + m))
drop-drop m (suc n) (c ∷ cs) = let more : suc (n + m) ≡ suc n + m = omega arith in drop-drop m n cs ∙ ap (λ k. drop k (c ∷ cs)) more

-- ---- the size

-- the digits in tens of the numeral's scale
module _ (n : Num) (scale : ℕ) (proper : n.scale ≤ length n.digits) (zeros : all_zeros (drop scale (decimals n)) ≡ true) where
  abbrev size : ℕ
  size = numeral 0 n.digits

  shorter : scale < n.scale → (k : ℕ) × (size * 10 ^ scale ≡ k * 10 ^ n.scale)
  shorter less =
      let many = length n.digits in
      let at = many - n.scale + scale in
      let front = numeral 0 (take at n.digits) in
      let rest : all_zeros (drop at n.digits) ≡ true = ap all_zeros (sym (drop-drop scale (many - n.scale) n.digits)) ∙ zeros in
      let long : length (drop at n.digits) ≡ n.scale - scale = omega (arith, length-drop at n.digits, proper, less) in
      let split : size ≡ front * 10 ^ (n.scale - scale) =
      ap (numeral 0) (sym (take-append-drop at n.digits))
      ∙ (numeral_append 0 (take at n.digits) (drop at n.digits)
      ∙ (numeral_zeros front (drop at n.digits) rest ∙ ap (λ m. front * 10 ^ m) long)) in
      let together : n.scale - scale + scale ≡ n.scale = omega (arith, less) in (
        front,
        ap (λ m. m * 10 ^ scale) split
            ∙ (mul_assoc front (10 ^ (n.scale - scale)) (10 ^ scale)
            ∙ ap (λ m. front * m) (sym (ten-add (n.scale - scale) scale) ∙ ap (λ m. 10 ^ m) together)),
      )

  longer : n.scale ≤ scale → (k : ℕ) × (size * 10 ^ scale ≡ k * 10 ^ n.scale)
  longer more =
      let together : scale - n.scale + n.scale ≡ scale = omega (arith, more) in (
        size * 10 ^ (scale - n.scale),
        ap (λ m. size * 10 ^ m) (sym together)
            ∙ (ap (λ m. size * m) (ten-add (scale - n.scale) n.scale) ∙ sym (mul_assoc size (10 ^ (scale - n.scale)) (10 ^ n.scale))),
      )

  whole_units : (k : ℕ) × (size * 10 ^ scale ≡ k * 10 ^ n.scale)
  whole_units = by (cases_lt scale n.scale) where
    by : (scale < n.scale) ⊎ (n.scale ≤ scale) → (k : ℕ) × (size * 10 ^ scale ≡ k * 10 ^ n.scale)
    by (inl less) = shorter less
    by (inr more) = longer more

  exact_size : size * 10 ^ scale / 10 ^ n.scale * 10 ^ n.scale ≡ size * 10 ^ scale
  exact_size =
      let units = whole_units in
      let cut : size * 10 ^ scale / 10 ^ n.scale ≡ units.0 =
      ap (λ m. m / 10 ^ n.scale) units.1 ∙ rounded_whole Trunc units.0 (10 ^ n.scale) (ten_positive n.scale) in
      ap (λ m. m * 10 ^ n.scale) cut ∙ sym units.1

-- ---- the sign

signed_exact : (minus : Bool) (size scale to : ℕ) → size * 10 ^ to / 10 ^ scale * 10 ^ scale ≡ size * 10 ^ to →
    let v = negated minus (record { units = pos size; scale = scale }) in
    IsSameNumber (value_of (scaled_by to (near Trunc (value_of v) (pos to)))) (value_of v)
signed_exact false size scale to exact = ap pos exact
signed_exact true zero scale to exact = ap pos exact
signed_exact true (suc size) scale to exact =
    let up = suc size * 10 ^ to / 10 ^ scale in
    neg_ℤ_times (pos up) (10 ^ scale) ∙ (ap (λ k. neg_ℤ (pos k)) exact ∙ sym (neg_ℤ_times (pos (suc size)) (10 ^ to)))

pub literal_exact : (n : Num) (scale : ℕ) → n.scale ≤ length n.digits → all_zeros (drop scale (decimals n)) ≡ true →
    IsSameNumber (value_of (scaled_by scale (near Trunc (value_of (literal n)) (pos scale)))) (value_of (literal n))
literal_exact n scale proper zeros =
    signed_exact (n.sign == 45) (numeral 0 n.digits) n.scale scale (exact_size n scale proper zeros)
