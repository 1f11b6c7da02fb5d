-- Results and remainders of a statement that keeps the rule of bounds are small.
use Rattle.std.proofs.Common.{◌≡◌, ℕ, ◌+◌, ◌-◌, ◌*◌, ◌/◌, ◌^◌, ◌<◌, ◌≤◌, ◌==◌, ◌&&◌, not, suc, ℤ, pos, negsuc, Bool, true, false, if◌then◌else◌, Option, Some, None, refl, sym, subst, arith}
use Rattle.std.specs.Prelude.{unsigned_abs, ◌-ℤ◌, ◌≢◌, nat_le, IfSome}
use Rattle.std.proofs.lemmas.Int.{ints}
use Rattle.std.proofs.lemmas.Nat.{mul-le, le-div}
use Rattle.std.proofs.lemmas.Bool.Decides.{nat_tests}
use Rattle.std.proofs.Math.Nat.{div-mul-le_self, div-div-eq-div-mul, div-le_self}
use Rattle.dec_num.specs.declared.types.Mode.TheVariants.{Trunc}
use Rattle.dec_num.specs.declared.types.Scaled.{Scaled}
use Rattle.dec_num.specs.Exact.{ratio_of, near}
use Rattle.dec_num.proofs.Near.{size_of_near, rounded_below}
use Rattle.dec_num.proofs.Powers.{ten_positive}
use Rattle.cob_program.specs.declared.act.How.{How}
use Rattle.cob_program.specs.declared.act.How.TheVariants as how
use Rattle.cob_program.specs.Sum.{Sum}
use Rattle.cob_program.specs.Values.{whole_number, negated, plus, product, ◌>>=◌, sum_value, product_from, atom_value, Root}
use Rattle.cob_program.specs.Bounds.{Bound, exactly, sum_bound, product_bound, is_small, sum_most, product_most_from, atom_most, is_small_sum, IsWithin, IsSmall}
use Rattle.cob_program.proofs.Steps.{both, if_some, negated_within, whole_within, plus_within, product_within, small_of}
use Rattle.cob_calc.specs.declared.exact.Exact.{Exact}
use Rattle.cob_calc.specs.declared.exact.Exact.TheVariants as exact
use Rattle.cob_calc.specs.declared.worked.Worked.{Worked}
use Rattle.cob_calc.specs.Contents.{Contents, IsBounded, amount_at, bound_at}
use Rattle.cob_calc.specs.Exact.{fraction_of, quotient_if, exact_from, IsSmallQuotient, IsSmallExact}
use Rattle.cob_calc.specs.Receiving.{is_whole, IsSmallSum, AreSmall, CanWork, cut_at, rest_at, IsSmallRest, HasSmallRest}
use Rattle.cob_calc.specs.Arithmetic.{quotient_at, is_small_rest_at, is_small_rest, is_small_result}
use Rattle.cob_calc.proofs.Within as within
use Rattle.dec_num.proofs.Shifting.{near_shift}
use Rattle.cob_program.proofs.SmallSums.{small_sum_bound}

-- ---- results

module _ (c : Contents) (s : Sum) (held : IsBounded c) where
  sum_most_within : (v : Scaled) → sum_value (amount_at c) s ≡ Some v → IsWithin v (sum_most (bound_at c.layout) s)
  sum_most_within v e = within.sum_within (amount_at c) (bound_at c.layout) held s v e

  pub can_work : (w : Worked) (place : ℕ) (h : How) (own : Scaled) → (is_whole h ≡ true → IfSome w.whole IsSmallExact) → (not (is_whole h) ≡ true → w.value ≡ sum_value (amount_at c) s) →
      is_small_result (bound_at c.layout) s place h ≡ true → is_small (bound_at c.layout place) ≡ true → IsWithin own (bound_at c.layout place) → CanWork w h own
  can_work w place how.Whole own whole value e small k = whole refl
  can_work w place how.Plus own whole value e small k =
      let m = both (is_small_sum (bound_at c.layout) s) (is_small (sum_bound (bound_at c.layout place) (sum_most (bound_at c.layout) s))) e in
      subst (λ o. IfSome o (IsSmallSum own)) (sym (value refl)) (if_some (IsSmallSum own) (sum_value (amount_at c) s) (λ v ev. record {
        left = small_of own (bound_at c.layout place) k small;
        right = small_of v (sum_most (bound_at c.layout) s) (sum_most_within v ev) (small_sum_bound (bound_at c.layout) s m.0);
        sum = small_of (plus own v) _ (plus_within own v (bound_at c.layout place) (sum_most (bound_at c.layout) s) k (sum_most_within v ev)) m.1;
      }))
  can_work w place how.Minus own whole value e small k =
      let m = both (is_small_sum (bound_at c.layout) s) (is_small (sum_bound (bound_at c.layout place) (sum_most (bound_at c.layout) s))) e in
      let P : Scaled → Type 0 = λ (v : Scaled). IsSmallSum own (negated true v) × IsSmall v in
      subst (λ o. IfSome o P) (sym (value refl)) (if_some P (sum_value (amount_at c) s) (λ v ev.
      let n = negated_within true v (sum_most (bound_at c.layout) s) (sum_most_within v ev) in (
        record {
          left = small_of own (bound_at c.layout place) k small;
          right = small_of (negated true v) (sum_most (bound_at c.layout) s) n (small_sum_bound (bound_at c.layout) s m.0);
          sum = small_of (plus own (negated true v)) _ (plus_within own (negated true v) (bound_at c.layout place) (sum_most (bound_at c.layout) s) k n) m.1;
        },
        small_of v (sum_most (bound_at c.layout) s) (sum_most_within v ev) (small_sum_bound (bound_at c.layout) s m.0),
      )))
  can_work w place how.Times own whole value e small k =
      let m = both (is_small_sum (bound_at c.layout) s) (is_small (product_bound (bound_at c.layout place) (sum_most (bound_at c.layout) s))) e in
      let P : Scaled → Type 0 = λ (v : Scaled). IsSmall (product own v) in
      subst (λ o. IfSome o P) (sym (value refl)) (if_some P (sum_value (amount_at c) s) (λ v ev.
      small_of (product own v) _ (product_within own v (bound_at c.layout place) (sum_most (bound_at c.layout) s) k (sum_most_within v ev)) m.1))
  can_work w place how.Under own whole value e small k =
      subst (λ o. IfSome o (AreSmall own)) (sym (value refl)) (if_some (AreSmall own) (sum_value (amount_at c) s) (λ v ev. record {
        left = small_of own (bound_at c.layout place) k small;
        right = small_of v (sum_most (bound_at c.layout) s) (sum_most_within v ev) (small_sum_bound (bound_at c.layout) s e);
      }))

-- ---- a quotient that is cut at a scale

ratio_top : (n d : ℤ) → unsigned_abs (ratio_of n d).top ≡ unsigned_abs n
ratio_top n (pos d) = refl
ratio_top n (negsuc d) = omega (arith, ints)

ratio_bottom : (n d : ℤ) → (ratio_of n d).bottom ≡ unsigned_abs d
ratio_bottom n (pos d) = refl
ratio_bottom n (negsuc d) = refl

some_size : (z : ℤ) → z ≢ pos 0 → 0 < unsigned_abs z
some_size z h = omega (arith, ints, λ (e : unsigned_abs z ≡ 0). h (none z e))
  where
    none : (z : ℤ) → unsigned_abs z ≡ 0 → z ≡ pos 0
    none z e = omega (arith, ints)

div_more : (x y t : ℕ) → 0 < t → x ≤ y → x / t ≤ y / t
div_more x y t h k = le-div (x / t) y t h (omega (arith, div-mul-le_self x t, k))

cut_up : (n d : ℤ) (k most : ℕ) → 0 < unsigned_abs d → unsigned_abs n ≤ most → unsigned_abs (near Trunc (ratio_of n d) (pos k)) ≤ most * 10 ^ k
cut_up n d k most h m =
    let below = rounded_below Trunc (unsigned_abs (ratio_of n d).top * 10 ^ k) (ratio_of n d).bottom (rw (ratio_bottom n d) h) in
    let more = mul-le (unsigned_abs (ratio_of n d).top) (10 ^ k) most (10 ^ k) (rw (ratio_top n d) m) (omega arith) in
    omega (arith, size_of_near Trunc (ratio_of n d) (pos k), below, more)

cut_down : (n d : ℤ) (k most : ℕ) → 0 < unsigned_abs d → unsigned_abs n ≤ most → unsigned_abs (near Trunc (ratio_of n d) (negsuc k)) ≤ most / 10 ^ suc k
cut_down n d k most h m =
    let top = unsigned_abs (ratio_of n d).top in
    let same : top / ((ratio_of n d).bottom * 10 ^ suc k) ≡ top / (ratio_of n d).bottom / 10 ^ suc k = sym (div-div-eq-div-mul top (ratio_of n d).bottom (10 ^ suc k)) in
    let less : top / (ratio_of n d).bottom ≤ most = omega (arith, div-le_self top (ratio_of n d).bottom, ratio_top n d, m) in
    omega (arith, size_of_near Trunc (ratio_of n d) (negsuc k), same, div_more (top / (ratio_of n d).bottom) most (10 ^ suc k) (omega (arith, ten_positive (suc k))) less)

if_more : (b : Bool) (x y m : ℕ) → (b ≡ true → m ≤ x) → (b ≡ false → m ≤ y) → m ≤ (if b then x else y)
if_more true x y m h k = h refl
if_more false x y m h k = k refl

at_most : (a b : ℕ) → nat_le a b ≡ true → a ≤ b
at_most a b e = grind (arith, nat_tests)

above : (a b : ℕ) → nat_le a b ≡ false → b < a
above a b e = grind (arith, nat_tests)

cut_within : (scale : ℕ) (n d : Scaled) (a b : Bound) → IsWithin n a → IsWithin d b → d.units ≢ pos 0 → unsigned_abs (near Trunc (fraction_of (exact.Quotient n d)) (pos scale)) ≤ (quotient_at a b scale).most
cut_within scale n d a b h k some =
    if_more (nat_le a.scale (scale + b.scale)) (a.most * 10 ^ (scale + b.scale - a.scale)) (a.most / 10 ^ (a.scale - (scale + b.scale))) (unsigned_abs (near Trunc (fraction_of (exact.Quotient n d)) (pos scale)))
    (λ e.
    let up_is : pos (scale + b.scale - a.scale) ≡ pos (scale + d.scale) -ℤ pos n.scale = omega (arith, ints, h.scale, k.scale, at_most a.scale (scale + b.scale) e) in
    subst (λ z. unsigned_abs z ≤ a.most * 10 ^ (scale + b.scale - a.scale)) (sym (near_shift Trunc n.units d.units scale d.scale n.scale (pos (scale + b.scale - a.scale)) up_is))
    (cut_up n.units d.units (scale + b.scale - a.scale) a.most (some_size d.units some) h.most))
    (λ e.
    let far = above a.scale (scale + b.scale) e in
    let up_is : negsuc (a.scale - (scale + b.scale) - 1) ≡ pos (scale + d.scale) -ℤ pos n.scale = omega (arith, ints, h.scale, k.scale, far) in
    let more : suc (a.scale - (scale + b.scale) - 1) ≡ a.scale - (scale + b.scale) = omega (arith, far) in
    subst (λ z. unsigned_abs z ≤ a.most / 10 ^ (a.scale - (scale + b.scale))) (sym (near_shift Trunc n.units d.units scale d.scale n.scale (negsuc (a.scale - (scale + b.scale) - 1)) up_is))
    (subst (λ m. unsigned_abs (near Trunc (ratio_of n.units d.units) (negsuc (a.scale - (scale + b.scale) - 1))) ≤ a.most / 10 ^ m) more
    (cut_down n.units d.units (a.scale - (scale + b.scale) - 1) a.most (some_size d.units some) h.most)))

small_rest : (scale : ℕ) (n d : Scaled) (a b : Bound) → IsSmallQuotient n d → scale ≤ 18 → IsWithin n a → IsWithin d b → is_small_rest_at a b (quotient_at a b scale) ≡ true → IsSmallRest scale n d
small_rest scale n d a b parts point h k e =
    let q = quotient_at a b scale in
    let l = both (is_small q) (is_small (product_bound b q) && is_small (sum_bound a (product_bound b q))) e in
    let m = both (is_small (product_bound b q)) (is_small (sum_bound a (product_bound b q))) l.1 in
    let most = cut_within scale n d a b h k parts.some in
    let cut : IsWithin (cut_at scale n d) q = record { most = most; scale = refl } in
    let back = product_within d (cut_at scale n d) b q k cut in
    record {
      parts = parts;
      point = point;
      cut = (small_of (cut_at scale n d) q cut l.0).most;
      product = small_of (product d (cut_at scale n d)) (product_bound b q) back m.0;
      rest = small_of (rest_at scale n d) (sum_bound a (product_bound b q)) (plus_within n (negated true (product d (cut_at scale n d))) a (product_bound b q) h (negated_within true (product d (cut_at scale n d)) (product_bound b q) back)) m.1;
    }

module _ (c : Contents) (s : Sum) (held : IsBounded c) (scale : ℕ) (point : scale ≤ 18) where
  abbrev Holds : Option Exact → Type 0
  Holds o = IfSome o IsSmallExact → HasSmallRest scale o

  pub has_small_rest : (r : Option Root) → is_small_rest (bound_at c.layout) scale r ≡ true → Holds (exact_from (amount_at c) s r)
  has_small_rest None e = elim (sum_value (amount_at c) s) as (λ o. Holds (o >>= λ v. Some (exact.Number v))) [ None ↦ λ h. tt | Some v ↦ λ h. tt ]
  has_small_rest (Some r) e = go (product_from f (whole_number (pos 1)) r.above) refl (atom_value f r.below) refl
    where
      f : ℕ → Scaled
      f = amount_at c

      a : Bound
      a = product_most_from (bound_at c.layout) (exactly 1) r.above

      b : Bound
      b = atom_most (bound_at c.layout) r.below

      divided : (n d : Scaled) (z : Bool) → IsWithin n a → IsWithin d b → Holds (if z then None else Some (exact.Quotient n d))
      divided n d true h k small = tt
      divided n d false h k small = small_rest scale n d a b small point h k e

      go : (x : Option Scaled) → product_from f (whole_number (pos 1)) r.above ≡ x → (y : Option Scaled) → atom_value f r.below ≡ y → Holds (x >>= λ n. y >>= λ d. quotient_if n (negated r.minus d))
      go None ex y ey = λ h. tt
      go (Some n) ex None ey = λ h. tt
      go (Some n) ex (Some d) ey =
          divided n (negated r.minus d) (unsigned_abs (negated r.minus d).units == 0)
          (within.product_within f (bound_at c.layout) held r.above (whole_number (pos 1)) (exactly 1) n (whole_within 1) ex)
          (negated_within r.minus d b (within.atom_within f (bound_at c.layout) held r.below d ey))
