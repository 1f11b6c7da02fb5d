use Rattle.std.proofs.Common.{◌≡◌, map, take}
use Rattle.cob_tree.specs.Symbols.{seen}
use Rattle.cob_parse_expr.specs.Lexemes.{plain_lexeme}
use Rattle.cob_parse_expr.proofs.lexeme.lexemes.Given as goal

abbrev pub invariant-loop-token : goal.invariant-loop-token
invariant-loop-token l = map plain_lexeme l.lexemes.items ≡ map seen (take l.token-index l.tokens)
