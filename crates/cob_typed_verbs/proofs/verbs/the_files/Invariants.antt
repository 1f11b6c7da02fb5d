use Rattle.std.proofs.Common.{◌≡◌, ◌++◌, drop}
use Rattle.cob_typed_exprs.specs.Judged.{noted, each_of}
use Rattle.cob_typed_verbs.specs.Verbs.{the_file, some_of}
use Rattle.cob_typed_verbs.proofs.verbs.the_files.Given as goal

abbrev pub invariant-loop-name : goal.invariant-loop-name
invariant-loop-name l = record {
  value : l.files.items ++ some_of (each_of (the_file l.scope) (drop l.name-index l.names)).value ≡ some_of (each_of (the_file l.scope) l.names).value;
  noted : noted l.line l.findings.items (each_of (the_file l.scope) (drop l.name-index l.names)).broken ≡ noted l.line l.initial.findings.items (each_of (the_file l.scope) l.names).broken;
}
