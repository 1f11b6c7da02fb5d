-- What contracts see of lexemes.
use Rattle.cob_parse_expr.specs.declared.lexeme.Symbol as declared
use Rattle.cob_parse_expr.specs.declared.lexeme.Symbol.TheVariants as symbol
use Rattle.cob_parse_expr.specs.declared.lexeme.Lexeme.{Lexeme}
use Rattle.cob_tree.specs.Symbols.{Symbol, Key, Name, Number, Text, Mark, Relation, Pic, Stop, Sign}

abbrev pub plain_symbol : declared.Symbol → Symbol
plain_symbol (symbol.Key k) = Key k
plain_symbol (symbol.Name name) = Name name
plain_symbol (symbol.Number number) = Number number
plain_symbol (symbol.Text text) = Text text
plain_symbol (symbol.Mark mark) = Mark mark
plain_symbol (symbol.Relation relation) = Relation relation
plain_symbol (symbol.Pic text) = Pic text
plain_symbol symbol.Stop = Stop

abbrev pub plain_lexeme : Lexeme → Sign
plain_lexeme l = record { symbol = plain_symbol l.symbol; line = l.line }
