-- From tokens to what the grammar sees of them, and from where reading halts to what a parser answers.
use Rattle.std.specs.Prelude.{ℕ, ◌-◌, List, length, drop, map, max, slice_get, unwrap_or}
use Rattle.std.specs.Option.{option_map}
use Rattle.cob_tree.specs.declared.token.Token.{Token}
use Rattle.cob_tree.specs.Symbols.{Sign, seen}
use Rattle.cob_parse_expr.specs.declared.halt.Halt.{Halt}
use Rattle.cob_parse_expr.specs.declared.halt.Halt.TheVariants as halt
use Rattle.cob_parse_expr.specs.declared.end.ParseEnd.{ParseEnd}
use Rattle.cob_parse_expr.specs.declared.end.ParseEnd.TheVariants as end

-- what the grammar sees of the tokens from a place on
abbrev pub from : List Token → ℕ → List Sign
from tokens place = map seen (drop place tokens)

-- the line of the first of so many tokens at the end, or of the last token, or 1
abbrev pub line_at : List Token → ℕ → ℕ
line_at tokens left = unwrap_or (option_map (λ t. t.line) (slice_get tokens (length tokens - max left 1))) 1

-- what a parser answers where its reader halts
abbrev pub end_at : List Token → Halt → ParseEnd
end_at tokens (halt.Stop left) = end.Syntax (line_at tokens left)
end_at tokens (halt.Deep left) = end.Deep 65
end_at tokens halt.Memory = end.Memory
