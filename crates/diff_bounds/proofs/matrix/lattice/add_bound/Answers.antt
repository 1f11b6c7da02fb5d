use Rattle.std.proofs.Common.{◌+◌, ◌*◌, ◌≡◌, ◌<◌, ℕ, pos, get_or, set, to_z, of_z, inl, inr, ap, arith}
use Rattle.std.specs.Int.{w128, int_min}
use Rattle.std.proofs.lemmas.Int.{ints, clamps}
use Rattle.diff_bounds.specs.Matrix.{word}
use Rattle.diff_bounds.proofs.Places.{word-set_same, word-set_other, place_fits}
use Rattle.diff_bounds.proofs.WordByWord.{min_word, added_matrix, stands_added, stands_with}
use Rattle.diff_bounds.proofs.matrix.lattice.add_bound.Goals as goal

pub returns-clause-others : goal.returns-clause-others
returns-clause-others c i j h g away =
    word-set_other (c.args.size + 1) c.args.m.now c.args.row c.args.column c.place_of-at.result _ i j (omega (arith, c.requires.column)) (omega arith) c.place_of-at.ensures.value
    (λ e f. elim away [ inl ne ↦ ne e | inr ne ↦ ne f ])

pub returns-clause-matrix : goal.returns-clause-matrix
returns-clause-matrix c =
    let n = c.args.size + 1 in
    let old = word n c.args.m.now c.args.row c.args.column in
    let same = ap (λ (p : ℕ). get_or c.args.m.now p (pos 0)) c.place_of-at.ensures.value in
    added_matrix c.args.size c.args.m.now c.args.row c.args.column c.place_of-at.result _ c.requires.m (omega (arith, c.requires.row)) (omega (arith, c.requires.column)) c.requires.different c.place_of-at.ensures.value
    (min_word old c.args.most _ (omega (arith, ints, clamps, same)) (c.requires.m.words (c.args.row * n + c.args.column) (omega (arith, c.requires.m.width, place_fits n c.args.row c.args.column (omega (arith, c.requires.row)) (omega (arith, c.requires.column))))) c.requires.low c.requires.high)

pub returns-clause-meaning : goal.returns-clause-meaning
returns-clause-meaning c cells =
    let n = c.args.size + 1 in
    let m = c.args.m.now in
    let x = to_z w128 (of_z w128 c.min.result) in
    let at = c.place_of-at.result in
    let row : c.args.row < n = omega (arith, c.requires.row) in
    let column : c.args.column < n = omega (arith, c.requires.column) in
    let same = ap (λ (p : ℕ). get_or m p (pos 0)) c.place_of-at.ensures.value in
    let here = word-set_same n m c.args.row c.args.column at x c.requires.m.width row column c.place_of-at.ensures.value in
    let lowered : word n (set m at x) c.args.row c.args.column ≡ int_min (word n m c.args.row c.args.column) c.args.most = omega (arith, ints, clamps, same, here) in
    let others = λ (i j : ℕ) (h : i < n) (g : j < n) (away : i ≡ c.args.row → j ≡ c.args.column → ⊥). word-set_other n m c.args.row c.args.column at x i j column g c.place_of-at.ensures.value away in (
      stands_added n (word n m) (word n (set m at x)) c.args.row c.args.column c.args.most cells row column c.requires.different c.requires.high lowered others,
      λ both. stands_with n (word n m) (word n (set m at x)) c.args.row c.args.column c.args.most cells row column c.requires.different lowered others both.0 both.1,
    )
