use Rattle.std.proofs.Common.{◌≡◌, ◌+◌, ◌∙◌, ap, subst, sym, to_z, of_z, refl, arith, rules, ℕ, ℤ, Option, Some}
use Rattle.std.specs.Int.{w128, int_min}
use Rattle.std.proofs.lemmas.Int.{ints, to_z-of_z}
use Rattle.diff_bounds.specs.Matrix.{word}
use Rattle.diff_bounds.specs.Numbers.{word_of, added}
use Rattle.diff_bounds.specs.Upper.{terms, by_pair, by_zero, least_to, upper, coef_at}
use Rattle.diff_bounds.proofs.Signs.{least_more, lesser_word}
use Rattle.diff_bounds.proofs.Bounded.{least_is, pair_is, cut_is}
use Rattle.diff_bounds.proofs.form.bounds.least_bound.Goals as goal

pub loop-k-preserved : goal.loop-k-preserved
loop-k-preserved c =
    let w = word (c.args.size + 1) c.args.m.now in
    let cs = coef_at c.args.coefs.now in
    let high = to_z w128 (of_z w128 c.args.high) in
    let n = c.args.size in
    to_z-of_z w128 c.min-best.result (search rules) ∙ c.min-best.ensures.value ∙ least_more (λ x. least_to n (λ y. by_pair w cs high n x y (cs x) (cs y))) c.loop-k.k (to_z w128 c.loop-k.best-bits) (to_z w128 (of_z w128 c.bound_by_pairs.result))
    (least_is c.loop-k.k (λ x. least_to n (λ y. by_pair w cs high n x y (cs x) (cs y))) (λ x. least_is n (λ y. by_pair w cs high n x y (cs x) (cs y)) (λ y. pair_is w cs high n x y (cs x) (cs y))))
    (least_is n (λ y. by_pair w cs high n (c.loop-k.k + 1) y (cs (c.loop-k.k + 1)) (cs y)) (λ y. pair_is w cs high n (c.loop-k.k + 1) y (cs (c.loop-k.k + 1)) (cs y)))
    c.loop-k.invariant (to_z-of_z w128 c.bound_by_pairs.result (search rules) ∙ c.bound_by_pairs.ensures)

pub returns : goal.returns
returns c =
    let w = word (c.args.size + 1) c.args.m.now in
    let cs = coef_at c.args.coefs.now in
    let n = c.args.size in
    let h = to_z w128 (of_z w128 c.args.high) in
    let high = to_z-of_z w128 c.args.high (search rules) in
    let whole : word_of (upper w cs h n) ≡ word_of (upper w cs c.args.high n) = ap (λ (z : ℤ). word_of (upper w cs z n)) high in
    let all : c.loop-k.k ≡ n = omega arith in
    let least : to_z w128 c.loop-k.best-bits ≡ word_of (least_to n (λ x. least_to n (λ y. by_pair w cs h n x y (cs x) (cs y)))) = subst (λ (k : ℕ). to_z w128 c.loop-k.best-bits ≡ word_of (least_to k (λ x. least_to n (λ y. by_pair w cs h n x y (cs x) (cs y))))) all c.loop-k.invariant in
    to_z-of_z w128 c.min.result (search rules) ∙ c.min.ensures.value
    ∙ ap (λ (z : ℤ). int_min z (to_z w128 c.loop-k.best-bits)) (to_z-of_z w128 c.bound_by_zero-first.result (search rules) ∙ c.bound_by_zero-first.ensures)
    ∙ ap (λ (z : ℤ). int_min (word_of (by_zero w cs h n)) z) least
    ∙ lesser_word (by_zero w cs h n) (least_to n (λ x. least_to n (λ y. by_pair w cs h n x y (cs x) (cs y)))) (cut_is (added (terms w cs n) (Some h))) (least_is n (λ x. least_to n (λ y. by_pair w cs h n x y (cs x) (cs y))) (λ x. least_is n (λ y. by_pair w cs h n x y (cs x) (cs y)) (λ y. pair_is w cs h n x y (cs x) (cs y))))
    ∙ whole
