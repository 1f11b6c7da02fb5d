use Rattle.std.specs.Prelude.{ℕ, Bool}
use Rattle.cob_tree.specs.declared.fault.Kind.{Kind}
use Rattle.cert_check.specs.Clearing.{AreClearedTo, TestsTell}
use Rattle.cert_check.proofs.nodes.note_nodes.Given as goal

abbrev pub invariant-loop-k : goal.invariant-loop-k
invariant-loop-k g l =
    (clears : ℕ → Kind → Bool) → TestsTell (g.L.System.flow l.layer) (g.L.Layer.meaning l.layer) (g.R.Rows.row_at l.rows) clears →
    AreClearedTo l.graph clears l.k l.noted
