-- A sentence, step by step.
use Rattle.std.proofs.Common.{◌≡◌, Bool, List, [], ◌∷◌, Option, Some, None, Ok, Err, refl, ap}
use Rattle.cob_tree.specs.Symbols.{Sign}
use Rattle.cob_tree.specs.Stmt.{Stmts}
use Rattle.cob_parse_expr.specs.declared.halt.Halt.{Halt}
use Rattle.cob_parse_expr.specs.Steps.{Fails}
use Rattle.reading.specs.Readers.{Stop, behind_on, behind, need, lead}
use Rattle.reading.specs.Readers as reader
use Rattle.cob_parse_expr.specs.LexemeClasses.{of, stop_symbol}
use Rattle.cob_parse_data.proofs.ListLoop.{fails_whole}
use Rattle.cob_parse_proc.specs.Bare.{list_takes}
use Rattle.cob_parse_proc.specs.Reading.{may_go, stmts_at}
use Rattle.cob_parse_proc.specs.Program.{limit, sentence_at}
use Rattle.cob_parse_proc.specs.StmtSteps.{may, left_at}
use Rattle.cob_parse_proc.proofs.VerbSteps.{missing_is}

-- the point, where it stands
point_read : (us rest : List Sign) (ss : Stmts) → behind (of stop_symbol) us ≡ Some rest → need (reader.stands (of stop_symbol)) (lead (of stop_symbol)) (may_go (list_takes ss)) us ≡ Ok (tt, rest)
point_read [] rest ss e = absurd cc
point_read (u ∷ us) rest ss e = go (of stop_symbol u) refl e
  where
    go : (o : Option (Unit {0})) → of stop_symbol u ≡ o → behind_on o us ≡ Some rest → need (reader.stands (of stop_symbol)) (lead (of stop_symbol)) (may_go (list_takes ss)) (u ∷ us) ≡ Ok (tt, rest)
    go None eo e0 = absurd cc
    go (Some x) eo e0 = let same : us ≡ rest = cc in rw eo (rw eo (ap (λ (z : List Sign). Ok (tt, z)) same))

-- and where it doesn't
point_open : (us : List Sign) (ss : Stmts) (takes : Bool) → takes ≡ may (list_takes ss) → behind (of stop_symbol) us ≡ None → need (reader.stands (of stop_symbol)) (lead (of stop_symbol)) (may_go (list_takes ss)) us ≡ Err (Stop (left_at takes us))
point_open [] ss takes same e = refl
point_open (u ∷ us) ss takes same e = go (of stop_symbol u) refl e
  where
    go : (o : Option (Unit {0})) → of stop_symbol u ≡ o → behind_on o us ≡ None → need (reader.stands (of stop_symbol)) (lead (of stop_symbol)) (may_go (list_takes ss)) (u ∷ us) ≡ Err (Stop (left_at takes (u ∷ us)))
    go None eo e0 = rw eo (missing_is (list_takes ss) takes same (u ∷ us))
    go (Some x) eo e0 = absurd cc

pub sentence_read : (ts us rest : List Sign) (ss : Stmts) → stmts_at limit ts ≡ Ok (ss, us) → behind (of stop_symbol) us ≡ Some rest → sentence_at limit ts ≡ Ok (ss, rest)
sentence_read ts us rest ss e f = rw (e, point_read us rest ss f) refl

pub sentence_open : (ts us : List Sign) (ss : Stmts) (takes : Bool) → stmts_at limit ts ≡ Ok (ss, us) → takes ≡ may (list_takes ss) → behind (of stop_symbol) us ≡ None → sentence_at limit ts ≡ Err (Stop (left_at takes us))
sentence_open ts us ss takes e same f = rw (e, point_open us ss takes same f) refl

pub sentence_wrong : (ts : List Sign) (h : Halt) → Fails h (stmts_at limit ts) → Fails h (sentence_at limit ts)
sentence_wrong ts h f = fails_whole h (stmts_at limit ts) (sentence_at limit ts) (λ d e. rw e refl) f
