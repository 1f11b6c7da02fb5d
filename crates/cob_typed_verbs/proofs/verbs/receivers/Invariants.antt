use Rattle.std.proofs.Common.{◌≡◌, ◌++◌, map, drop}
use Rattle.cob_typed_exprs.specs.Judged.{noted, each_of}
use Rattle.cob_typed_verbs.specs.Verbs.{receiver}
use Rattle.cob_typed_verbs.proofs.verbs.receivers.Given as goal

abbrev pub invariant-loop-reference : goal.invariant-loop-reference
invariant-loop-reference l = record {
  value : l.places.items ++ map (λ x. x) (each_of (receiver l.scope l.value) (drop l.reference-index l.to)).value ≡ map (λ x. x) (each_of (receiver l.scope l.value) l.to).value;
  noted : noted l.line l.findings.items (each_of (receiver l.scope l.value) (drop l.reference-index l.to)).broken ≡ noted l.line l.initial.findings.items (each_of (receiver l.scope l.value) l.to).broken;
}
