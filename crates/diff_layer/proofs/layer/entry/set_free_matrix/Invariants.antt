use Rattle.std.proofs.Common.{◌≡◌, ℕ, ◌<◌, pos, get_or}
use Rattle.diff_layer.specs.Edges.{free_word}
use Rattle.diff_layer.proofs.layer.entry.set_free_matrix.Given as goal

abbrev pub invariant-loop-at : goal.invariant-loop-at
invariant-loop-at l = (j : ℕ) → j < l.at → get_or l.m j (pos 0) ≡ free_word l.size j
