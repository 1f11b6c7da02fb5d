use Rattle.std.specs.Prelude.{◌≡◌, ℕ, Bool}
use Rattle.std.specs.List.{flat_map, range_with_len}
use Rattle.cob_tree.specs.declared.fault.Kind.{Kind}
use Rattle.cert_check.specs.OpenPairs.{opens_by}
use Rattle.cert_check.specs.Clearing.{TestsTell}
use Rattle.cert_check.proofs.nodes.pairs_by.Given as goal

abbrev pub invariant-loop-k : goal.invariant-loop-k
invariant-loop-k g l =
    (clears : ℕ → Kind → Bool) → TestsTell (g.L.System.flow l.fn.layer) (g.L.Layer.meaning l.fn.layer) (g.R.Rows.row_at l.fn.rows) clears →
    l.pairs.items ≡ flat_map (opens_by l.fn.graph clears) (range_with_len 1 l.k)
