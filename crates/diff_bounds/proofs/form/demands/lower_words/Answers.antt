use Rattle.std.proofs.Common.{◌≡◌, ℕ, ◌+◌, ◌*◌, ◌/◌, ◌%◌, List, ℤ, pos, get_or, sym, ap, ◌∙◌, arith}
use Rattle.std.proofs.lemmas.Int.{ints, clamps}
use Rattle.std.proofs.lemmas.Nat.{div-add-mod'}
use Rattle.diff_bounds.specs.Matrix.{word}
use Rattle.diff_bounds.specs.Numbers.{word_of}
use Rattle.diff_bounds.specs.Upper.{coef_at}
use Rattle.diff_bounds.specs.Demanded.{demanded}
use Rattle.diff_bounds.proofs.Lowered.{lowered_more}
use Rattle.diff_bounds.proofs.form.demands.lower_words.Goals as goal

pub loop-k-preserved : goal.loop-k-preserved
loop-k-preserved c =
    let n = c.args.size + 1 in
    let k = c.loop-k.k in
    let old = c.args.m.now in
    let place : k / n * n + k % n ≡ k = div-add-mod' k n in
    let here : get_or c.loop-k.m k (pos 0) ≡ word n old (k / n) (k % n) = c.loop-k.invariant.left k (omega arith) ∙ ap (λ (p : ℕ). get_or old p (pos 0)) (sym place) in
    let low = c.demanded_word.ensures ∙ ap (λ (l : List ℤ). word_of (demanded (word n l) (coef_at c.args.form.now.coefs) c.args.form.now.constant.low c.args.size (k / n) (k % n))) (sym c.requires.same) in
    let more = lowered_more c.args.size old c.args.form.now k c.loop-k.m _ (omega arith) (omega (arith, ints, clamps, here, low)) (record { done = c.loop-k.invariant.done; left = c.loop-k.invariant.left }) in
    record { done = more.done; left = more.left }
