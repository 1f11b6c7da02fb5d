use Rattle.std.proofs.Common.{◌+◌, ◌*◌, ◌<◌, arith}
use Rattle.diff_bounds.specs.Matrix.{word}
use Rattle.diff_bounds.proofs.Places.{place_fits}
use Rattle.diff_bounds.proofs.Monotone.{cut_of_least, none_without_path}
use Rattle.diff_bounds.proofs.matrix.laws.closed_words_are_least_sums.Goals as goal

pub returns-clause-path : goal.returns-clause-path
returns-clause-path c a closed is closure i j h g p path least =
    let n = c.args.size + 1 in
    let row : i < n = omega (arith, h) in
    let column : j < n = omega (arith, g) in
    cut_of_least n (word n a) i j (word n closed i j) (is.words (i * n + j) (omega (arith, is.width, place_fits n i j row column))) (closure.sums i j row column) p path least

pub returns-clause-apart : goal.returns-clause-apart
returns-clause-apart c a closed is closure i j h g apart =
    let n = c.args.size + 1 in
    let row : i < n = omega (arith, h) in
    let column : j < n = omega (arith, g) in
    none_without_path n (word n a) i j (word n closed i j) (is.words (i * n + j) (omega (arith, is.width, place_fits n i j row column))) (closure.sums i j row column) apart
