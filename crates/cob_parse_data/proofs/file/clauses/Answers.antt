use Rattle.std.proofs.Common.{List, map, sym, subst, arith}
use Rattle.cob_tree.specs.declared.front.FdClause.{FdClause}
use Rattle.cob_parse_expr.specs.Steps.{signs, Leads, Lacks}
use Rattle.reading.specs.Readers.{fresh}
use Rattle.cob_parse_expr.specs.LexemeClasses.{of}
use Rattle.cob_parse_data.specs.Heads.{same_kind, fd_symbol, fd_kind_of, fd_head_of}
use Rattle.cob_parse_data.specs.Reading.{fd_body}
use Rattle.cob_parse_data.proofs.ClauseLoop.{Kept, kept_start, kept_on, kept_end, kept_fail}
use Rattle.cob_parse_data.proofs.file.clauses.Goals as goal

pub clauses-init : goal.clauses-init
clauses-init c = record { kept = subst (λ (xs : List FdClause). Kept (same_kind fd_kind_of) (of fd_symbol) fd_body fd_head_of xs c.args.lexemes.now c.args.lexemes.now) (sym c.new-clauses.ensures.items) (kept_start (same_kind fd_kind_of) (of fd_symbol) fd_body fd_head_of c.args.lexemes.now); shorter = omega arith }

pub returns-in-Err-clause-gives : goal.returns-in-Err-clause-gives
returns-in-Err-clause-gives c = kept_fail (same_kind fd_kind_of) (of fd_symbol) fd_body fd_head_of c.clauses.clauses.items c.clauses.left.now c.args.lexemes.now c.clauses.invariant.kept c.in-Some.head c.in-Some.rest.now c.in-Err.halt
    (subst (λ (cs : List FdClause). Leads (fresh (same_kind fd_kind_of) (of fd_symbol) (map fd_head_of cs)) c.in-Some.head (signs c.clauses.left.now) (signs c.in-Some.rest.now)) c.as_slice.ensures.value c.in-Some.ensures.found) c.in-Err.ensures.gives

pub clauses-preserved : goal.clauses-preserved
clauses-preserved c = record {
  kept = subst (λ (xs : List FdClause). Kept (same_kind fd_kind_of) (of fd_symbol) fd_body fd_head_of xs c.in-Ok.given.1.now c.args.lexemes.now) (sym c.in_ok-push.ensures.items)
      (kept_on (same_kind fd_kind_of) (of fd_symbol) fd_body fd_head_of c.clauses.clauses.items c.clauses.left.now c.args.lexemes.now c.clauses.invariant.kept c.in-Some.head c.in-Ok.given.0 c.in-Some.rest.now c.in-Ok.given.1.now
      (subst (λ (cs : List FdClause). Leads (fresh (same_kind fd_kind_of) (of fd_symbol) (map fd_head_of cs)) c.in-Some.head (signs c.clauses.left.now) (signs c.in-Some.rest.now)) c.as_slice.ensures.value c.in-Some.ensures.found) c.in-Ok.ensures.gives c.in-Ok.ensures.headed (omega (arith, c.in-Ok.ensures.rest, c.in-Some.ensures.shorter)));
  shorter = omega (arith, c.in-Ok.ensures.rest, c.in-Some.ensures.shorter, c.clauses.invariant.shorter);
}

pub returns-clause-gives : goal.returns-clause-gives
returns-clause-gives c = kept_end (same_kind fd_kind_of) (of fd_symbol) fd_body fd_head_of c.clauses.clauses.items c.clauses.left.now c.args.lexemes.now c.clauses.invariant.kept
    (subst (λ (cs : List FdClause). Lacks (fresh (same_kind fd_kind_of) (of fd_symbol) (map fd_head_of cs)) (signs c.clauses.left.now)) c.as_slice.ensures.value c.in_default.ensures.none)
