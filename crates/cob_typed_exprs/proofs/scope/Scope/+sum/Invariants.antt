use Rattle.std.proofs.Common.{◌≡◌, ◌++◌, map}
use Rattle.cob_program.specs.SumView.{plain_part, plain_factor}
use Rattle.cob_typed_exprs.specs.Judged.{noted}
use Rattle.cob_typed_exprs.specs.Sums.{parts_in, factors_in}
use Rattle.cob_typed_exprs.proofs.Loops.{terms_from, facts_from}
use Rattle.cob_typed_exprs.proofs.scope.Scope.+sum.Given as goal

abbrev pub invariant-add_factors-loop-fact : goal.invariant-add_factors-loop-fact
invariant-add_factors-loop-fact l = record {
  value : map plain_factor l.factors.items ++ (factors_in l.self (facts_from l.facts l.fact-index)).value ≡ map plain_factor l.initial.factors.items ++ (factors_in l.self (facts_from l.facts 0)).value;
  noted : noted l.line l.findings.items (factors_in l.self (facts_from l.facts l.fact-index)).broken ≡ noted l.line l.initial.findings.items (factors_in l.self (facts_from l.facts 0)).broken;
}

abbrev pub invariant-add_parts-loop-term : goal.invariant-add_parts-loop-term
invariant-add_parts-loop-term l = record {
  value : map plain_part l.parts.items ++ (parts_in l.self (terms_from l.terms l.term-index)).value ≡ map plain_part l.initial.parts.items ++ (parts_in l.self (terms_from l.terms 0)).value;
  noted : noted l.line l.findings.items (parts_in l.self (terms_from l.terms l.term-index)).broken ≡ noted l.line l.initial.findings.items (parts_in l.self (terms_from l.terms 0)).broken;
}
