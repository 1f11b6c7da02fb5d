-- How many nodes there are, where the count isn't cut.
use Rattle.std.proofs.Common.{ℕ, List, ◌≡◌, ◌<◌, min}
use Rattle.cob_program.specs.Act.{Program, Stmt, Stmts, Whens, Body}
use Rattle.cob_graph_build.specs.declared.counting.Entry.{Entry}
use Rattle.cob_graph.specs.Laid.{size, list_size, whens_size, body_size}
use Rattle.cob_graph.specs.Limits.{most_told}
use Rattle.cob_graph_build.specs.Sizes.{stmt_size, stmts_size, stmt_whens_size, stmt_body_size}
use Rattle.cob_graph_build.specs.Tables.{lay_stmt, lay_list, lay_whens, lay_body, size_in, copy_in, IsTable}
use Rattle.cob_graph_build.proofs.Cuts.{uncut}
use Rattle.cob_graph_build.proofs.SizeLemmas.{table_sizes, alike_stmt, alike_list, alike_whens, alike_body}

module _ (p : Program) (es : List Entry) (h : IsTable p es) (n told : ℕ) (is : n ≡ told) (below : n < most_told) where
  pub exact_stmt : (s : Stmt) → told ≡ min (stmt_size (size_in es) s) most_told → n ≡ size (lay_stmt p (copy_in p es) s)
  exact_stmt s e = uncut most_told n told (stmt_size (size_in es) s) (size (lay_stmt p (copy_in p es) s)) is e
      (alike_stmt p most_told (size_in es) (copy_in p es) (table_sizes p es h) s) below

  pub exact_list : (ss : Stmts) → told ≡ min (stmts_size (size_in es) ss) most_told →
      n ≡ list_size (lay_list p (copy_in p es) ss)
  exact_list ss e = uncut most_told n told (stmts_size (size_in es) ss) (list_size (lay_list p (copy_in p es) ss)) is
      e (alike_list p most_told (size_in es) (copy_in p es) (table_sizes p es h) ss) below

  pub exact_whens : (ws : Whens) → told ≡ min (stmt_whens_size (size_in es) ws) most_told →
      n ≡ whens_size (lay_whens p (copy_in p es) ws)
  exact_whens ws e = uncut most_told n told (stmt_whens_size (size_in es) ws)
      (whens_size (lay_whens p (copy_in p es) ws)) is e
      (alike_whens p most_told (size_in es) (copy_in p es) (table_sizes p es h) ws) below

  pub exact_body : (b : Body) → told ≡ min (stmt_body_size (size_in es) b) most_told →
      n ≡ body_size (lay_body p (copy_in p es) b)
  exact_body b e = uncut most_told n told (stmt_body_size (size_in es) b) (body_size (lay_body p (copy_in p es) b)) is
      e (alike_body p most_told (size_in es) (copy_in p es) (table_sizes p es h) b) below
