use Rattle.std.proofs.Common.{ℕ, pos, get_or, ◌≤ℤ◌, refl, arith}
use Rattle.std.proofs.lemmas.Int.{ints}
use Rattle.std.proofs.lemmas.Bool.{false≢true}
use borrow.Author.Count.{below_more}
use Rattle.diff_bounds.proofs.matrix.lattice.leq.Goals as goal

pub returns-then-b-k : goal.returns-then-b-k
returns-then-b-k c = (
  λ t. absurd (false≢true t),
  λ are. let le = are.words c.loop-k.k (omega (arith, c.requires.a.width)) in absurd (omega (arith, ints, le)),
)

pub loop-k-preserved : goal.loop-k-preserved
loop-k-preserved c = below_more (λ (j : ℕ). get_or c.args.a.now j (pos 0) ≤ℤ get_or c.args.b.now j (pos 0)) c.loop-k.k c.loop-k.invariant (omega (arith, ints))

pub returns : goal.returns
returns c = (λ t. record { words = λ j h. c.loop-k.invariant j (omega (arith, c.requires.a.width)) }, λ are. refl)
