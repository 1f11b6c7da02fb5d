use Rattle.std.proofs.Common.{sym, ◌∙◌}
use Rattle.cob_tree.specs.StmtView.{plain_tree}
use Rattle.cob_parse_proc.proofs.ParseLemmas.{program_read, program_wrong, program_deep, program_within}
use Rattle.cob_parse_proc.proofs.parse.program_of.Goals as goal

pub end_at-requires : goal.end_at-requires
end_at-requires c = λ left is. program_within c.args.tokens.now c.in_ok-lexemes.lexemes.items c.as_slice.result.now c.as_slice.ensures.value c.in_ok-lexemes.ensures
    c.in-Err.halt left is c.in-Err.ensures

pub returns-in-Ok-clause-read : goal.returns-in-Ok-clause-read
returns-in-Ok-clause-read c = program_read c.args.tokens.now c.in_ok-lexemes.lexemes.items c.as_slice.result.now c.as_slice.ensures.value c.in_ok-lexemes.ensures
    (plain_tree c.in-Ok.tree) c.in-Ok.ensures

pub returns-clause-syntax : goal.returns-clause-syntax
returns-clause-syntax c = λ line e. program_wrong c.args.tokens.now c.in_ok-lexemes.lexemes.items c.as_slice.result.now c.as_slice.ensures.value c.in_ok-lexemes.ensures
    c.in-Err.halt line c.in-Err.ensures (sym c.end_at.ensures ∙ cc)

pub returns-clause-deep : goal.returns-clause-deep
returns-clause-deep c = λ count e. program_deep c.args.tokens.now c.in_ok-lexemes.lexemes.items c.as_slice.result.now c.as_slice.ensures.value c.in_ok-lexemes.ensures
    c.in-Err.halt count c.in-Err.ensures (sym c.end_at.ensures ∙ cc)
