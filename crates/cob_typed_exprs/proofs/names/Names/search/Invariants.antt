use Rattle.std.proofs.Common.{ℕ}
use Rattle.cob_typed_exprs.specs.Search.{name_in, count_in, NamesIn, bound, IsPlace, IsFoundFrom}
use Rattle.cob_typed_exprs.proofs.names.Names.search.Given as goal

abbrev pub invariant-loop-next : goal.invariant-loop-next
invariant-loop-next l = record {
  place : IsPlace l.name (name_in l.self l.kind) (count_in l.self l.kind) l.next;
  so_far : IsFoundFrom (NamesIn l.self l.kind l.name l.of) (bound l.next) l.found;
}

abbrev pub decreases-loop-next : goal.decreases-loop-next
decreases-loop-next l = bound l.next
