-- Why a program has no control graph within the limits.
use Rattle.std.specs.Prelude.{ℕ}
use Rattle.cob_program.specs.Act.{Program}
use Rattle.cob_graph.specs.Nesting.{IsNested, IsOutside}
use Rattle.cob_graph.specs.Graphs.{IsOver}
use Rattle.cob_front.specs.declared.refusal.Refusal.{Refusal}
use Rattle.cob_front.specs.declared.refusal.Refusal.TheVariants as end

-- the first broken rule on PERFORM and GO TO; else the cells, or the nodes, are more than the limit
abbrev pub IsControlCause : Program → Refusal → Type 0
IsControlCause p (end.Outside rule line) = IsOutside p rule line
IsControlCause p (end.Limit which count) = IsNested p × IsOver p which count
IsControlCause p _ = ⊥
