-- What follows for whole programs: one tree a printing, and one answer.
use Rattle.std.specs.Prelude.{◌≡◌, List, map}
use Rattle.cob_tree.specs.Symbols.{Sign}
use Rattle.cob_tree.specs.Stmt.{Tree}
use Rattle.cob_tree.specs.PrintStmt.{print_tree}
use Rattle.cob_parse_proc.specs.Lines.{tree_without}
use Rattle.cob_parse_proc.specs.Parsing.{ShapedTree, IsTree, Stops, IsDeep}

-- trees of one printing that the grammar allows are one
abbrev pub OneTree : Type 0
OneTree = (a b : Tree) → ShapedTree a → ShapedTree b → print_tree a ≡ print_tree b → a ≡ b

-- No tokens have two answers: where they are a tree's, nothing is refused and nothing is too deep; two trees that they
-- are, are one; there is one place of refusal; and what is refused isn't too deep.
pub record OneAnswer (ts : List Sign) : Type 0 where
  pub read_once : (a b : Tree) → IsTree ts a → IsTree ts b → a ≡ b
  pub read_or_wrong : (a : Tree) (u : List Sign) → IsTree ts a → Stops ts u → ⊥
  pub read_or_deep : (a : Tree) → IsTree ts a → IsDeep ts → ⊥
  pub wrong_once : (u v : List Sign) → Stops ts u → Stops ts v → u ≡ v
  pub wrong_or_deep : (u : List Sign) → Stops ts u → IsDeep ts → ⊥

-- Trees of the same symbols are equal but for the lines that they hold.
abbrev pub SameButForLines : Type 0
SameButForLines = (a b : Tree) → ShapedTree a → ShapedTree b → map (λ i. i.symbol) (print_tree a) ≡ map (λ i. i.symbol) (print_tree b) → tree_without a ≡ tree_without b
