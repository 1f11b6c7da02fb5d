use Rattle.std.proofs.Common.{◌≡◌, drop}
use Rattle.std.specs.List.{list_all}
use Rattle.cob_data.specs.Files.{contains_rightly}
use Rattle.cob_data.proofs.files.contain_rightly.Given as goal

abbrev pub invariant-loop-clause : goal.invariant-loop-clause
invariant-loop-clause l = list_all (contains_rightly l.bytes) (drop l.clause-index l.clauses) ≡ list_all (contains_rightly l.bytes) l.clauses
