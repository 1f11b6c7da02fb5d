-- The syntax of heads and of the choices of EVALUATE, where so many statements and parentheses are open around.
use Rattle.std.specs.Prelude.{ℕ, List}
use Rattle.std.specs.List.{AllByRecursion}
use Rattle.cob_tree.specs.Items.{Item, each}
use Rattle.cob_tree.specs.Cues.{Cue, is, Whens}
use Rattle.cob_tree.specs.Stmt.{Sel}
use Rattle.cob_tree.specs.PrintStmt.{print_choice}
use Rattle.cob_tree.specs.Takes.{takes_sel}
use Rattle.cob_tree.specs.Shaped.{IsNotEmpty, ShapedSel}
use Rattle.reading.specs.Law.{Syntax}
use Rattle.cob_parse_verb.specs.declared.word.Begin.{Begin}
use Rattle.cob_parse_verb.specs.Heads.{Head, print_head, takes_head, GoodStarted}
use Rattle.cob_parse_verb.specs.Listed.{takes_listed}

abbrev pub head_syntax : ℕ → Syntax Item Cue (Begin × Head)
head_syntax d = record { Good = GoodStarted; print = print_head d; takes = takes_head }

-- {WHEN Sel}+
abbrev pub choices_syntax : ℕ → Syntax Item Cue (List Sel)
choices_syntax d = record { Good = λ xs. IsNotEmpty xs × AllByRecursion ShapedSel xs; print = each (print_choice d); takes = takes_listed takes_sel (is Whens) }
