use Rattle.std.proofs.Common.{◌≡◌, ◌++◌, map, drop}
use Rattle.cob_program.specs.SumView.{plain_part}
use Rattle.cob_typed_exprs.specs.Judged.{noted, each_of}
use Rattle.cob_typed_exprs.specs.Sums.{numeric_operand}
use Rattle.cob_typed_verbs.specs.Arithmetic.{atom_part}
use Rattle.cob_typed_verbs.proofs.arithmetic.add_operands.Given as goal

abbrev pub invariant-loop-operand : goal.invariant-loop-operand
invariant-loop-operand l = record {
  value : map plain_part l.parts.items ++ map (atom_part l.minus) (each_of (numeric_operand l.scope) (drop l.operand-index l.operands)).value ≡ map plain_part l.initial.parts.items ++ map (atom_part l.minus) (each_of (numeric_operand l.scope) l.operands).value;
  noted : noted l.line l.findings.items (each_of (numeric_operand l.scope) (drop l.operand-index l.operands)).broken ≡ noted l.line l.initial.findings.items (each_of (numeric_operand l.scope) l.operands).broken;
}
