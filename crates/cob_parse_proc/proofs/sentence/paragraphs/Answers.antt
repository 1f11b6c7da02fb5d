use Rattle.std.proofs.Common.{◌≡◌, List, [], ◌∷◌, ◌++◌, map, sym, ap, subst, ◌∙◌, arith}
use Rattle.std.proofs.lemmas.List.{map_push}
use Rattle.cob_tree.specs.Stmt.{Paragraph}
use Rattle.cob_tree.specs.StmtView.{plain_paragraph}
use Rattle.cob_parse_data.proofs.ListLoop.{Kept, kept_start, kept_on, kept_end, kept_fail}
use Rattle.cob_parse_expr.specs.LexemeClasses.{name_symbol}
use Rattle.cob_parse_proc.specs.Program.{limit, paragraph_at}
use Rattle.cob_parse_proc.proofs.sentence.paragraphs.Goals as goal

pub paragraphs-init : goal.paragraphs-init
paragraphs-init c = record { kept = subst (λ (xs : List Paragraph). Kept name_symbol (paragraph_at limit) xs c.args.lexemes.now c.args.lexemes.now) (sym (ap (map plain_paragraph) c.new-paragraphs.ensures.items)) (kept_start name_symbol (paragraph_at limit) c.args.lexemes.now); shorter = omega arith }

pub returns-in-Err-clause-gives : goal.returns-in-Err-clause-gives
returns-in-Err-clause-gives c = kept_fail name_symbol (paragraph_at limit) (map plain_paragraph c.paragraphs.paragraphs.items) c.paragraphs.left.now c.args.lexemes.now c.in-Err.halt c.paragraphs.invariant.kept (sym c.stands_name.ensures ∙ c.paragraphs-test.true) c.in-Err.ensures.gives

pub paragraphs-preserved : goal.paragraphs-preserved
paragraphs-preserved c =
    let pushed : map plain_paragraph c.push.new.self.items ≡ map plain_paragraph c.paragraphs.paragraphs.items ++ plain_paragraph c.in-Ok.given.0 ∷ [] = rw c.in_ok-push.ensures.items (map_push plain_paragraph c.paragraphs.paragraphs.items c.in-Ok.given.0) in
    record {
      kept = subst (λ (xs : List Paragraph). Kept name_symbol (paragraph_at limit) xs c.in-Ok.given.1.now c.args.lexemes.now) (sym pushed)
          (kept_on name_symbol (paragraph_at limit) (map plain_paragraph c.paragraphs.paragraphs.items) c.paragraphs.left.now c.args.lexemes.now c.in-Ok.given.1.now (plain_paragraph c.in-Ok.given.0) c.paragraphs.invariant.kept (sym c.stands_name.ensures ∙ c.paragraphs-test.true) c.in-Ok.ensures.gives c.in-Ok.ensures.rest);
      shorter = omega (arith, c.in-Ok.ensures.rest, c.paragraphs.invariant.shorter);
    }

pub returns-clause-gives : goal.returns-clause-gives
returns-clause-gives c = kept_end name_symbol (paragraph_at limit) (map plain_paragraph c.paragraphs.paragraphs.items) c.paragraphs.left.now c.args.lexemes.now c.paragraphs.invariant.kept (sym c.stands_name.ensures ∙ c.paragraphs-test.false)
