-- What contracts see of a tree's lists of statements, and of what was found.
use Rattle.std.specs.Prelude.{ℕ, List, [], ◌∷◌, ◌++◌, map, Option, Vec}
use Rattle.std.specs.Option.{option_map}
use Rattle.std.specs.declared.alloc.Global.{Global}
use Rattle.cob_tree.specs.declared.stmt.Stmt as tree_stmt
use Rattle.cob_tree.specs.Stmt as tree
use Rattle.cob_tree.specs.StmtView as tree_view
use Rattle.cob_data.specs.declared.end.Rule.{Rule}
use Rattle.cob_typed_exprs.specs.declared.finding.Finding.{Finding}
use Rattle.cob_typed_exprs.specs.Judged.{finding}

abbrev pub tree_list : Vec tree_stmt.Stmt Global → tree.Stmts
tree_list v = tree.stmts_of (map tree_view.plain_stmt v.items)

abbrev pub tree_phrase : Option (Vec tree_stmt.Stmt Global) → tree.Phrase
tree_phrase o = tree.phrase_of (option_map tree_list o)

-- the rules that were broken on their lines, behind what was found before
abbrev pub found_behind : List Finding → List (Rule × ℕ) → List Finding
found_behind findings [] = findings
found_behind findings (x ∷ xs) = found_behind (findings ++ finding x.0 x.1 ∷ []) xs
