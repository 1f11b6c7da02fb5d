use Rattle.std.proofs.Common.{ℕ, ℤ, pos, get_or, inl, inr, refl, sym, ap, subst, ◌∙◌, arith, rules}
use Rattle.std.specs.Int.{w128}
use Rattle.std.proofs.lemmas.Int.{to_z-of_z}
use Rattle.std.proofs.lemmas.Bool.{cases_eq, false≢true}
use Rattle.diff_bounds.specs.Matrix.{word, IsWord}
use Rattle.diff_bounds.specs.RowSums.{IsNegativeAt}
use Rattle.diff_bounds.proofs.RowSums.{negative_along}
use Rattle.diff_bounds.proofs.Asked.{pair_again}
use Rattle.diff_bounds.proofs.matrix.one_row.is_negative_trip.Goals as goal

pub is_negative-requires-clause-word : goal.is_negative-requires-clause-word
is_negative-requires-clause-word c =
    subst (λ (x : ℤ). IsWord x) (sym (to_z-of_z w128 _ (search rules) ∙ ap (λ (p : ℕ). get_or c.args.m.now p (pos 0)) c.place_of.ensures.value))
    (c.requires.words c.args.at c.loop-over.over c.requires.at (omega arith))

pub returns-then-is_negative-clause-some : goal.returns-then-is_negative-clause-some
returns-then-is_negative-clause-some c t = (
  c.loop-over.over,
  c.loop-over-test.true,
  negative_along (word c.args.places c.args.m.now c.args.at c.loop-over.over) (get_or c.args.into.now c.loop-over.over (pos 0)) _ _
      (to_z-of_z w128 _ (search rules) ∙ ap (λ (p : ℕ). get_or c.args.m.now p (pos 0)) c.place_of.ensures.value)
      (to_z-of_z w128 _ (search rules))
      (c.if-is_negative.ensures.0 refl),
)

pub loop-over-preserved : goal.loop-over-preserved
loop-over-preserved c v h =
    elim (cases_eq v c.loop-over.over) as (λ _. IsNegativeAt c.args.at (word c.args.places c.args.m.now) c.args.into.now v → ⊥) [
      | inl e ↦ λ is. false≢true (c.if-is_negative.ensures.1
          (negative_along _ _ (word c.args.places c.args.m.now c.args.at c.loop-over.over) (get_or c.args.into.now c.loop-over.over (pos 0))
          (sym (to_z-of_z w128 _ (search rules) ∙ ap (λ (p : ℕ). get_or c.args.m.now p (pos 0)) c.place_of.ensures.value))
          (sym (to_z-of_z w128 _ (search rules)))
          (subst (λ (x : ℕ). IsNegativeAt c.args.at (word c.args.places c.args.m.now) c.args.into.now x) e is)))
      | inr ne ↦ c.loop-over.invariant v (omega arith)
    ]

pub is_negative-requires-clause-sum : goal.is_negative-requires-clause-sum
is_negative-requires-clause-sum c = pair_again _ (c.requires.into.sums c.loop-over.over c.loop-over-test.true).pair

pub returns-then-is_negative-clause-none : goal.returns-then-is_negative-clause-none
returns-then-is_negative-clause-none c e = absurd (false≢true (sym e))

pub returns-clause-some : goal.returns-clause-some
returns-clause-some c t = absurd (false≢true t)

pub returns-clause-none : goal.returns-clause-none
returns-clause-none c e v h = c.loop-over.invariant v (omega arith)
