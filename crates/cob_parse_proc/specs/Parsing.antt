-- What reading a whole program promises.
use Rattle.std.specs.Prelude.{◌≡◌, ℕ, List, ◌∷◌, ◌++◌, length, map}
use Rattle.std.specs.List.{AllByRecursion}
use Rattle.cob_tree.specs.declared.token.Token.{Token}
use Rattle.cob_tree.specs.Symbols.{Sign, seen}
use Rattle.cob_tree.specs.Items.{Item, Fits}
use Rattle.cob_tree.specs.Stmt.{Tree}
use Rattle.cob_tree.specs.PrintStmt.{print_tree}
use Rattle.cob_tree.specs.Shaped.{ShapedFront, ShapedStmts, ShapedParagraph, Shaped}
use Rattle.reading.specs.Printing.{Matches, Below}
use Rattle.reading.specs.Fronts.{NoFurther, one}
use Rattle.cob_parse_expr.specs.Places.{line_at}
use Rattle.cob_parse_expr.specs.LexemeClasses.{by_symbol}

-- what the grammar asks of a tree beside its names
abbrev pub ShapedTree : Tree → Type 0
ShapedTree t = ShapedFront t.front × AllByRecursion ShapedStmts t.sentences × AllByRecursion ShapedParagraph t.paragraphs

-- one more than the levels that may be open
abbrev pub top : ℕ
top = 65

-- The tokens are the tree's, on the lines that it holds, and at each so many statements and parentheses are open as may
-- be, or fewer.
pub record IsTree (ts : List Sign) (t : Tree) : Type 0 where
  pub shaped : Shaped t
  pub spells : Matches by_symbol (print_tree t) ts
  pub below : Below by_symbol top (print_tree t)

-- some tree's text begins with the tokens
pub record GoesOn (front : List Sign) : Type 0 where
  pub tree : Tree
  pub shaped : ShapedTree tree
  pub before : List Item
  pub after : List Item
  pub text : print_tree tree ≡ before ++ after
  pub spells : Matches by_symbol before front

-- No tree has these tokens, however deep. Some tree goes on behind those before what is left, with no more open than
-- may be, and none goes on with the next.
pub record Stops (ts left : List Sign) : Type 0 where
  pub none : (t : Tree) → Matches by_symbol (print_tree t) ts → ShapedTree t → ⊥
  pub read : List Sign
  pub parts : ts ≡ read ++ left
  pub goes_on : GoesOn read
  pub below : Below by_symbol top goes_on.before
  pub no_further : NoFurther one (λ front rest. GoesOn front) read left

-- No program goes on, and the line is that of the first token that is left; at the end of the tokens the last one's, or 1.
pub record IsWrong (tokens : List Token) (line : ℕ) : Type 0 where
  pub left : List Sign
  pub stops : Stops (map seen tokens) left
  pub line_is : line ≡ line_at tokens (length left)

-- Some tree goes on with a token at which one more is open than may be, and no more at any token before; and none has
-- these tokens with no more open than may be.
pub record IsDeep (ts : List Sign) : Type 0 where
  pub none : (t : Tree) → Matches by_symbol (print_tree t) ts → ShapedTree t → Below by_symbol top (print_tree t) → ⊥
  pub read : List Sign
  pub next : Sign
  pub rest : List Sign
  pub parts : ts ≡ read ++ next ∷ rest
  pub tree : Tree
  pub shaped : ShapedTree tree
  pub before : List Item
  pub item : Item
  pub after : List Item
  pub text : print_tree tree ≡ before ++ item ∷ after
  pub spells : Matches by_symbol before read
  pub below : Below by_symbol top before
  pub fits : Fits item next
  pub depth : item.depth ≡ top
