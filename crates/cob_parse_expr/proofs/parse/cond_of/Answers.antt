use Rattle.std.proofs.Common.{◌≡◌, ◌-◌, ◌∙◌, ℕ, sym}
use Rattle.cob_tree.specs.CondView.{plain_cond}
use Rattle.cob_parse_expr.specs.Parsing.{cond_syntax}
use Rattle.cob_parse_expr.specs.CondReading.{cond_at}
use Rattle.cob_parse_expr.proofs.ParenLaws.{law_of_conditions}
use Rattle.cob_parse_expr.proofs.CondAgree.{cond_wider}
use Rattle.cob_parse_expr.proofs.ParseLemmas.{parse_read, parse_wrong, parse_deep, parse_within}
use Rattle.cob_parse_expr.proofs.parse.cond_of.Goals as goal

pub end_at-requires : goal.end_at-requires
end_at-requires c = λ left is. parse_within (cond_syntax c.args.depth) cond_at c.args.depth c.requires.shallow (λ room top e. law_of_conditions room c.args.depth top e) cond_wider
    c.args.tokens.now c.args.at.now c.requires.inside c.in_ok-lexemes.lexemes.items c.as_slice.result.now c.as_slice.ensures.value c.in_ok-lexemes.ensures c.in-Err.halt left is c.in-Err.ensures.gives

pub returns-in-Ok-clause-read : goal.returns-in-Ok-clause-read
returns-in-Ok-clause-read c = parse_read (cond_syntax c.args.depth) cond_at c.args.depth c.requires.shallow (λ room top e. law_of_conditions room c.args.depth top e) cond_wider
    c.args.tokens.now c.args.at.now c.requires.inside c.in_ok-lexemes.lexemes.items c.as_slice.result.now c.as_slice.ensures.value c.in_ok-lexemes.ensures (plain_cond c.in-Ok.cond) c.in-Ok.rest.now c.in-Ok.ensures.gives

pub returns-clause-syntax : goal.returns-clause-syntax
returns-clause-syntax c = λ line e. parse_wrong (cond_syntax c.args.depth) cond_at c.args.depth c.requires.shallow (λ room top e. law_of_conditions room c.args.depth top e) cond_wider
    c.args.tokens.now c.args.at.now c.requires.inside c.in_ok-lexemes.lexemes.items c.as_slice.result.now c.as_slice.ensures.value c.in_ok-lexemes.ensures c.in-Err.halt line c.in-Err.ensures.gives (sym c.end_at.ensures ∙ cc)

pub returns-clause-deep : goal.returns-clause-deep
returns-clause-deep c = λ count e. parse_deep (cond_syntax c.args.depth) cond_at c.args.depth c.requires.shallow (λ room top e. law_of_conditions room c.args.depth top e) cond_wider
    c.args.tokens.now c.args.at.now c.requires.inside c.in_ok-lexemes.lexemes.items c.as_slice.result.now c.as_slice.ensures.value c.in_ok-lexemes.ensures c.in-Err.halt count c.in-Err.ensures.gives (sym c.end_at.ensures ∙ cc)
