-- What parsing expressions and conditions promises.
use Rattle.std.specs.Prelude.{◌≡◌, ℕ, List, length}
use Rattle.cob_tree.specs.declared.token.Token.{Token}
use Rattle.cob_tree.specs.Symbols.{Sign}
use Rattle.cob_tree.specs.Items.{Item}
use Rattle.cob_tree.specs.Cues.{Cue}
use Rattle.cob_parse_expr.specs.Alphabet.{grammar}
use Rattle.cob_tree.specs.Expr.{Expr}
use Rattle.cob_tree.specs.PrintExpr.{print_expr, print_cond}
use Rattle.cob_tree.specs.Takes.{takes_expr, takes_cond}
use Rattle.cob_tree.specs.Cond.{Cond}
use Rattle.cob_tree.specs.Shaped.{ShapedCond}
use Rattle.reading.specs.Law.{Syntax}
use Rattle.reading.specs.Outcome.{Stops}
use Rattle.cob_parse_expr.specs.Places.{from, line_at}

-- expressions, where so many statements and parentheses are open around
abbrev pub expr_syntax : ℕ → Syntax Item Cue Expr
expr_syntax d = record { Good = λ e. Unit {0}; print = print_expr d; takes = takes_expr }

-- The syntax of conditions.
abbrev pub cond_syntax : ℕ → Syntax Item Cue Cond
cond_syntax d = record { Good = ShapedCond; print = print_cond d; takes = takes_cond }

-- No tree is read from a place on, and the line is that of the first token at which none goes on.
pub record IsWrong {A : Type 0} (s : Syntax Item Cue A) (limit : ℕ) (tokens : List Token) (place line : ℕ) : Type 0 where
  pub left : List Sign
  pub stops : Stops grammar s limit (from tokens place) left
  pub line_is : line ≡ line_at tokens (length left)
