-- A tree that tokens stand for is printed as many items as there are tokens.
use Rattle.std.proofs.Common.{◌≡◌, ◌≤◌, suc, List, [], ◌∷◌, length, map, refl, ap, arith}
use Rattle.std.proofs.lemmas.List.{length-map}
use Rattle.reading.specs.Printing.{Matches}
use Rattle.cob_tree.specs.declared.token.Token.{Token}
use Rattle.cob_tree.specs.Items.{Item}
use Rattle.cob_tree.specs.Symbols.{Sign, seen}
use Rattle.cob_tree.specs.Stmt.{Tree}
use Rattle.cob_tree.specs.PrintStmt.{print_tree}
use Rattle.cob_parse_expr.specs.LexemeClasses.{by_symbol}
use Rattle.cob_parse_proc.specs.Parsing.{IsTree}
use Rattle.cob_tree.specs.Limits.{token_limit}

as_many : (is : List Item) (ts : List Sign) → Matches by_symbol is ts → length is ≡ length ts
as_many [] [] m = refl
as_many (i ∷ is) (t ∷ ts) m = ap suc (as_many is ts m.1)
as_many [] (t ∷ ts) m = absurd m
as_many (i ∷ is) [] m = absurd m

pub few_items : (ts us : List Token) (t : Tree) → ts ≡ us → length us ≤ token_limit → IsTree (map seen ts) t → length (print_tree t) ≤ token_limit
few_items ts us t same few is =
    let count = as_many (print_tree t) (map seen ts) is.spells in
    omega (arith, count, length-map ts seen, ap length same, few)
