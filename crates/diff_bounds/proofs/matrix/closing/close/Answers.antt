use Rattle.std.proofs.Common.{◌+◌, refl, arith}
use Rattle.diff_bounds.specs.Matrix.{word}
use Rattle.diff_bounds.proofs.Steps.{no_cycle, closure_of}
use Rattle.diff_bounds.proofs.Ends.{words_of, cut_words, cut_matrix}
use Rattle.diff_bounds.proofs.Standing.{stands_after, stands_before, none_stands}
use Rattle.diff_bounds.proofs.matrix.closing.close.Goals as goal

pub returns-clause-cycles : goal.returns-clause-cycles
returns-clause-cycles c =
    let n = c.args.size + 1 in
    (λ t. no_cycle n (word n c.args.m.now) (word n c.least_sums.new.m) (words_of c.args.size c.args.m.now c.requires.m) (c.if-not-least_sums.ensures.least refl), λ none. refl)

pub returns-clause-sums : goal.returns-clause-sums
returns-clause-sums c t =
    let n = c.args.size + 1 in
    closure_of n (word n c.args.m.now) (word n c.least_sums.new.m) (word n c.cut_sums.new.m) (words_of c.args.size c.args.m.now c.requires.m) (c.if-not-least_sums.ensures.least refl)
    (cut_words n c.least_sums.new.m c.cut_sums.new.m (omega (arith, c.requires.m.width)) (record { width = omega arith; cuts = c.cut_sums.ensures }))

pub returns-clause-matrix : goal.returns-clause-matrix
returns-clause-matrix c t =
    cut_matrix c.args.size c.args.m.now c.least_sums.new.m c.cut_sums.new.m (omega (arith, c.requires.m.width)) (record { width = omega arith; cuts = c.cut_sums.ensures }) (c.if-not-least_sums.ensures.least refl)

pub returns-clause-meaning : goal.returns-clause-meaning
returns-clause-meaning c t cells =
    let n = c.args.size + 1 in
    let words = words_of c.args.size c.args.m.now c.requires.m in
    let closed = closure_of n (word n c.args.m.now) (word n c.least_sums.new.m) (word n c.cut_sums.new.m) words (c.if-not-least_sums.ensures.least refl)
    (cut_words n c.least_sums.new.m c.cut_sums.new.m (omega (arith, c.requires.m.width)) (record { width = omega arith; cuts = c.cut_sums.ensures })) in (
      stands_after n (word n c.args.m.now) (word n c.cut_sums.new.m) cells c.requires.m.diagonal closed,
      stands_before n (word n c.args.m.now) (word n c.cut_sums.new.m) cells words.words closed,
    )

pub returns-then-not-least_sums-clause-empty : goal.returns-then-not-least_sums-clause-empty
returns-then-not-least_sums-clause-empty c e cells =
    let n = c.args.size + 1 in
    none_stands n (word n c.args.m.now) cells c.requires.m.diagonal (c.if-not-least_sums.ensures.negative refl)
