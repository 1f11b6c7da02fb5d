-- How a step goes on.
use Rattle.std.proofs.Common.{◌≡◌, ℕ, false, Some, ap, arith}
use Rattle.cob_graph.specs.declared.graph.Node.{Node}
use Rattle.cob_graph.specs.Laid.{one_if}
use Rattle.cob_graph.specs.Lookup.{node_at}
use Rattle.cob_graph_laws.specs.Ways.{passed}
use Rattle.cob_runs.specs.State.{World}
use Rattle.cob_interp.specs.declared.setting.Setting.{Setting}
use Rattle.cob_interp.specs.Runs.{Outside}
use Rattle.cob_interp.specs.Running.{IsUnderway, Stands}
use Rattle.cob_interp.specs.Setting.{program_of, paths_of}

pub passes_on : (step : ℕ) (x : Node) → x.starts ≡ false → step ≡ passed step x
passes_on step x e = let f : one_if x.starts ≡ 0 = ap one_if e in omega (arith, f)

-- where no other step begins the step goes on
pub goes_on_underway : (s : Setting) (start now : Outside) (w : World) (step node : ℕ)
    → ((x : Node) → node_at s.graph.now.nodes node ≡ Some x → x.starts ≡ false)
    → Stands (program_of s) s.graph.now (paths_of s) start now w step step node
    → IsUnderway (program_of s) s.graph.now (paths_of s) start now w step node
goes_on_underway s start now w step node rests stands =
    record { left = step; stands = stands; counts = λ x at. passes_on step x (rests x at) }
