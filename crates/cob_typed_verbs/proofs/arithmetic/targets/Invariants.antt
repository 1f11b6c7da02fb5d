use Rattle.std.proofs.Common.{◌≡◌, ◌++◌, map, drop}
use Rattle.cob_typed_exprs.specs.Judged.{noted, each_of}
use Rattle.cob_typed_verbs.specs.Arithmetic.{target}
use Rattle.cob_typed_verbs.proofs.arithmetic.targets.Given as goal

abbrev pub invariant-loop-receiver : goal.invariant-loop-receiver
invariant-loop-receiver l = record {
  value : l.targets.items ++ map (λ x. x) (each_of (target l.scope l.how) (drop l.receiver-index l.receivers)).value ≡ map (λ x. x) (each_of (target l.scope l.how) l.receivers).value;
  noted : noted l.line l.findings.items (each_of (target l.scope l.how) (drop l.receiver-index l.receivers)).broken ≡ noted l.line l.initial.findings.items (each_of (target l.scope l.how) l.receivers).broken;
}
