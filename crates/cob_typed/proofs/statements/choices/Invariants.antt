use Rattle.std.proofs.Common.{◌≡◌, ◌++◌, map, drop}
use Rattle.cob_tree.specs.StmtView.{plain_sel}
use Rattle.cob_program.specs.LogicView.{plain_logic}
use Rattle.cob_typed_exprs.specs.Judged.{noted, each_of}
use Rattle.cob_typed_conds.specs.Selections.{selection}
use Rattle.cob_typed.proofs.statements.choices.Given as goal

abbrev pub invariant-loop-choice : goal.invariant-loop-choice
invariant-loop-choice l = record {
  value : map plain_logic l.tests.items ++ map (λ x. x) (each_of (λ x. selection l.scope l.looked (plain_sel x)) (drop l.choice-index l.choices)).value ≡ map (λ x. x) (each_of (λ x. selection l.scope l.looked (plain_sel x)) l.choices).value;
  noted : noted l.line l.findings.items (each_of (λ x. selection l.scope l.looked (plain_sel x)) (drop l.choice-index l.choices)).broken ≡ noted l.line l.initial.findings.items (each_of (λ x. selection l.scope l.looked (plain_sel x)) l.choices).broken;
}
