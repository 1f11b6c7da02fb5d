-- Trees whose numerals have at most 18 digits, as those have that are read from a source.
use Rattle.std.specs.Prelude.{List}
use Rattle.std.specs.List.{AllByRecursion}
use Rattle.cob_tree.specs.Symbols.{Symbol, Number}
use Rattle.cob_tree.specs.Items.{Item}
use Rattle.cob_tree.specs.Stmt.{Tree}
use Rattle.cob_tree.specs.PrintStmt.{print_tree}
use Rattle.cob_store.specs.WellFormed.{IsShortLiteral}

abbrev pub IsShortSymbol : Symbol → Type 0
IsShortSymbol (Number n) = IsShortLiteral n
IsShortSymbol _ = Unit {0}

abbrev pub IsShortItem : Item → Type 0
IsShortItem i = IsShortSymbol i.symbol

abbrev pub AreShort : List Item → Type 0
AreShort is = AllByRecursion IsShortItem is

-- no number among the tokens of a tree has more than 18 digits (ISO 1989:1985, "Numeric literals")
abbrev pub HasShortNumerals : Tree → Type 0
HasShortNumerals t = AreShort (print_tree t)
