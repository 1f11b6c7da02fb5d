use Rattle.std.proofs.Common.{◌≡◌, List, [], ◌∷◌, ◌++◌, map, sym, ap, subst, ◌∙◌, arith}
use Rattle.std.proofs.lemmas.List.{map_push}
use Rattle.cob_tree.specs.Stmt.{Stmts}
use Rattle.cob_tree.specs.StmtView.{plain_sentence}
use Rattle.cob_parse_data.proofs.ListLoop.{Kept, kept_start, kept_on, kept_end, kept_fail}
use Rattle.cob_parse_proc.specs.Program.{limit, start_symbol, sentence_at}
use Rattle.cob_parse_proc.proofs.sentence.sentences.Goals as goal

pub sentences-init : goal.sentences-init
sentences-init c = record { kept = subst (λ (xs : List Stmts). Kept start_symbol (sentence_at limit) xs c.args.lexemes.now c.args.lexemes.now) (sym (ap (map plain_sentence) c.new-sentences.ensures.items)) (kept_start start_symbol (sentence_at limit) c.args.lexemes.now); shorter = omega arith }

pub returns-in-Err-clause-gives : goal.returns-in-Err-clause-gives
returns-in-Err-clause-gives c = kept_fail start_symbol (sentence_at limit) (map plain_sentence c.sentences.sentences.items) c.sentences.left.now c.args.lexemes.now c.in-Err.halt c.sentences.invariant.kept (sym c.stands_start.ensures ∙ c.sentences-test.true) c.in-Err.ensures.gives

pub sentences-preserved : goal.sentences-preserved
sentences-preserved c =
    let pushed : map plain_sentence c.push.new.self.items ≡ map plain_sentence c.sentences.sentences.items ++ plain_sentence c.in-Ok.given.0 ∷ [] = rw c.in_ok-push.ensures.items (map_push plain_sentence c.sentences.sentences.items c.in-Ok.given.0) in
    record {
      kept = subst (λ (xs : List Stmts). Kept start_symbol (sentence_at limit) xs c.in-Ok.given.1.now c.args.lexemes.now) (sym pushed)
          (kept_on start_symbol (sentence_at limit) (map plain_sentence c.sentences.sentences.items) c.sentences.left.now c.args.lexemes.now c.in-Ok.given.1.now (plain_sentence c.in-Ok.given.0) c.sentences.invariant.kept (sym c.stands_start.ensures ∙ c.sentences-test.true) c.in-Ok.ensures.gives c.in-Ok.ensures.rest);
      shorter = omega (arith, c.in-Ok.ensures.rest, c.sentences.invariant.shorter);
    }

pub returns-clause-gives : goal.returns-clause-gives
returns-clause-gives c = kept_end start_symbol (sentence_at limit) (map plain_sentence c.sentences.sentences.items) c.sentences.left.now c.args.lexemes.now c.sentences.invariant.kept (sym c.stands_start.ensures ∙ c.sentences-test.false)
