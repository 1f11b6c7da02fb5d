use Rattle.std.proofs.Common.{◌≡◌, ◌+◌, take, drop}
use Rattle.cob_plan.specs.Nodes.{Leave, at_front}
use Rattle.cob_plan.proofs.nodes.leaving.Given as goal

abbrev pub invariant-loop-count : goal.invariant-loop-count
invariant-loop-count l =
    Leave l.number (take l.count l.edges)
    × (at_front l.number l.edges ≡ l.count + at_front l.number (drop l.count l.edges))
