use Rattle.std.proofs.Common.{◌≡◌, ◌++◌, drop}
use Rattle.cob_typed_exprs.specs.Judged.{noted}
use Rattle.cob_typed_verbs.specs.Verbs.{all_openings}
use Rattle.cob_typed_verbs.proofs.verbs.open_act.Given as goal

abbrev pub invariant-loop-some : goal.invariant-loop-some
invariant-loop-some l = record {
  value : l.list.items ++ (all_openings l.scope (drop l.some-index l.opens)).value ≡ (all_openings l.scope l.opens).value;
  noted : noted l.line l.findings.items (all_openings l.scope (drop l.some-index l.opens)).broken ≡ noted l.line l.initial.findings.items (all_openings l.scope l.opens).broken;
}
