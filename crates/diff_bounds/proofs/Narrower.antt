-- Narrower forms have narrower sums and multiples.
use Rattle.std.proofs.Common.{◌≡◌, ℕ, ◌^◌, ◌<◌, List, get_or, ℤ, pos, negsuc, ◌+ℤ◌, ◌*ℤ◌, ◌≤ℤ◌, refl, sym, ap, subst, ◌∙◌, arith}
use Rattle.std.specs.Int.{int_max, int_min}
use Rattle.std.proofs.lemmas.Int.{ints, clamps}
use Rattle.interval_domain.specs.declared.bounds.Interval.{Interval}
use Rattle.interval_domain.specs.Bounds.{Holds, IsSmall}
use Rattle.interval_domain.proofs.IntervalEnds.{low_held, high_held}
use Rattle.diff_bounds.proofs.SmallNumbers.{small_between}
use Rattle.diff_bounds.specs.declared.form.lin.Lin.{Lin}
use Rattle.diff_bounds.specs.Forms.{coef, coefs_of, AreSmallCoefs, IsSmallConstant, IsSmallForm}
use Rattle.diff_bounds.specs.Results.{added_coefs, added_constant, sum_of, scaled_coefs, scaled_constant, multiple_of, IsNarrower}
use Rattle.diff_bounds.proofs.Values.{between_multiples}

-- a form with these coefficients and a constant within is small
small_within : (f g : Lin) → IsNarrower f g → IsSmallForm g → IsSmallForm f
small_within f g is small = record {
  coefs = record { small = λ k h. subst (λ z. IsSmall z) (ap (λ (cs : List ℤ). get_or cs k (pos 0)) (sym is.coefs)) (small.coefs.small k h) };
  constant = record {
    low = small_between g.constant.low g.constant.high f.constant.low small.constant.low small.constant.high is.low (let ordered = is.ordered in let high = is.high in omega (arith, ints, ordered, high));
    high = small_between g.constant.low g.constant.high f.constant.high small.constant.low small.constant.high (let low = is.low in let ordered = is.ordered in omega (arith, ints, low, ordered)) is.high;
  };
}

narrower_sum : (a b c d : Lin) → IsNarrower a c → IsNarrower b d → IsNarrower (sum_of a b) (sum_of c d)
narrower_sum a b c d p q = record {
  coefs = ap (λ (cs : List ℤ). coefs_of (λ k. get_or cs k (pos 0) +ℤ coef b k)) p.coefs ∙ ap (λ (cs : List ℤ). coefs_of (λ k. coef c k +ℤ get_or cs k (pos 0))) q.coefs;
  low = let x = p.low in let y = q.low in omega (arith, ints, x, y);
  ordered = let x = p.ordered in let y = q.ordered in omega (arith, ints, x, y);
  high = let x = p.high in let y = q.high in omega (arith, ints, x, y);
}

pub sum_narrower : (a b c d : Lin) → IsNarrower a c → IsNarrower b d → IsSmallForm (sum_of c d) → IsSmallForm (sum_of a b) × IsNarrower (sum_of a b) (sum_of c d)
sum_narrower a b c d p q small = let is = narrower_sum a b c d p q in (small_within (sum_of a b) (sum_of c d) is small, is)

narrower_multiple : (a b : Lin) (by : ℤ) → IsNarrower a b → IsNarrower (multiple_of a by) (multiple_of b by)
narrower_multiple a b by p =
    let first : Holds b.constant a.constant.low = (p.low, (let ordered = p.ordered in let high = p.high in omega (arith, ints, ordered, high))) in
    let last : Holds b.constant a.constant.high = ((let low = p.low in let ordered = p.ordered in omega (arith, ints, low, ordered)), p.high) in
    let low = between_multiples b.constant by a.constant.low first in
    let high = between_multiples b.constant by a.constant.high last in
    let one = low.0 in
    let two = low.1 in
    let three = high.0 in
    let four = high.1 in
    record {
      coefs = ap (λ (cs : List ℤ). coefs_of (λ k. get_or cs k (pos 0) *ℤ by)) p.coefs;
      low = omega (arith, ints, clamps, one, three);
      ordered = omega (arith, ints, clamps);
      high = omega (arith, ints, clamps, two, four);
    }

pub multiple_narrower : (a b : Lin) (by : ℤ) → IsNarrower a b → IsSmallForm (multiple_of b by) → IsSmallForm (multiple_of a by) × IsNarrower (multiple_of a by) (multiple_of b by)
multiple_narrower a b by p small = let is = narrower_multiple a b by p in (small_within (multiple_of a by) (multiple_of b by) is small, is)
