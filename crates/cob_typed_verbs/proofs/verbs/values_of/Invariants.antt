use Rattle.std.proofs.Common.{◌≡◌, ◌++◌, map, drop}
use Rattle.cob_typed_exprs.specs.Judged.{noted, each_of}
use Rattle.cob_typed_exprs.specs.Sums.{operand}
use Rattle.cob_typed_verbs.proofs.verbs.values_of.Given as goal

abbrev pub invariant-loop-operand : goal.invariant-loop-operand
invariant-loop-operand l = record {
  value : l.values.items ++ map (λ x. x) (each_of (operand l.scope) (drop l.operand-index l.operands)).value ≡ map (λ x. x) (each_of (operand l.scope) l.operands).value;
  noted : noted l.line l.findings.items (each_of (operand l.scope) (drop l.operand-index l.operands)).broken ≡ noted l.line l.initial.findings.items (each_of (operand l.scope) l.operands).broken;
}
