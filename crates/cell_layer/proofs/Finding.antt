-- The statement that an edge leaves, found by its number.
use Rattle.std.proofs.Common.{◌≡◌, ◌<◌, inl, inr, true, ℕ, zero, suc, List, [], ◌∷◌, length, Option, Some, None, refl, sym, ap, subst, ◌∙◌, arith}
use Rattle.std.specs.Prelude.{slice_index_or}
use Rattle.std.specs.List.{All, AllByRecursion}
use Rattle.std.specs.Option.{option_map_or}
use Rattle.std.proofs.Math.Logic.{∥∥₁_elim}
use Rattle.std.proofs.lemmas.List.Elements.{All-head, All-tail}
use Rattle.cob_tree.specs.declared.fault.Kind.{Kind}
use Rattle.cob_program.specs.Act.{Stmt, MkStmt, Act, Program}
use Rattle.cob_program.specs.Statements.{program_statements}
use Rattle.cob_runs.specs.Effects.{act_at}
use Rattle.cob_graph.specs.declared.graph.Edge.{Edge}
use Rattle.cob_graph.specs.declared.graph.Graph.{Graph}
use Rattle.cob_graph.specs.WellFormed.{IsWellFormed}
use Rattle.edge_parts.specs.PartView.{edge_parts}
use Rattle.graph_runs.specs.Sources.{IsSourceGraph}
use Rattle.data_laws.specs.Statements.{IsIn}
use Rattle.data_laws.proofs.Listed.{found_is_listed}
use Rattle.interval_domain.specs.Known.{Known}
use Rattle.cell_steps.specs.Edges.{post_cells, clears_edge}
use Rattle.cell_laws.specs.Layer.{left, edge_cells, edge_clears}
use Rattle.cell_laws.specs.Sizes.{IsSmallPart}
use Rattle.cell_laws.proofs.Small.{edges_are_small_of_sources}
use Rattle.cell_layer.specs.NumberedStatements.{number_in, act_in}
use Rattle.edge_parts.specs.declared.statement_tests.StatementTests.{StatementTests}
use Rattle.cell_layer.specs.Statements.{stated, stated_in}
use Rattle.cell_layer.specs.Edges.{statement_post, statement_clears}
use Rattle.cell_layer.specs.Works.{IsLeft}

-- ---- in lists

pub found_at : (P : Stmt → Type 0) (ss : List StatementTests) (k : ℕ) (s : StatementTests) → AllByRecursion P (stated_in ss) →
    k < length ss → slice_index_or ss k s ≡ s → P (stated s)
found_at P [] k s all within is = absurd (omega (arith, within))
found_at P (t ∷ ss) zero s all within is = subst (λ (u : StatementTests). P (stated u)) is all.0
found_at P (t ∷ ss) (suc k) s all within is = found_at P ss k s all.1 (omega (arith, within)) is

-- what is listed has the number of one of them
not_listed : (n : ℕ) (a : Act) (ss : List StatementTests) → All (λ s. ¬ number_in (stated s) ≡ n) ss →
    IsIn n a (stated_in ss) → ⊥
not_listed n a [] none is = is
not_listed n a (s ∷ ss) none is =
    by_stmt (stated s) (All-head (λ t. ¬ number_in (stated t) ≡ n) s ss none) is
    (λ k. not_listed n a ss (All-tail (λ t. ¬ number_in (stated t) ≡ n) s ss none) k)
  where
    by_stmt : (y : Stmt) → ¬ number_in y ≡ n → IsIn n a (y ∷ stated_in ss) → (IsIn n a (stated_in ss) → ⊥) → ⊥
    by_stmt (MkStmt m line b) other (inl here) rest = other (sym here.0)
    by_stmt (MkStmt m line b) other (inr later) rest = rest later

module _ (p : Program) (g : Graph) (x : Edge) (ss : List StatementTests) (whole : IsWellFormed p)
    (listed : stated_in ss ≡ program_statements p) where
  none_found : (o : Option Act) → act_at p (left g x) ≡ o → All (λ s. ¬ number_in (stated s) ≡ left g x) ss → o ≡ None
  none_found None e none = refl
  none_found (Some a) e none =
      absurd (not_listed (left g x) a ss none (subst (IsIn (left g x) a) (sym listed) (found_is_listed p (left g x) a e)))

  pub is_left_none : All (λ s. ¬ number_in (stated s) ≡ left g x) ss → IsLeft p g x None
  is_left_none none = record { act = none_found (act_at p (left g x)) refl none; number = tt }

-- ---- what edges are by it

module _ (p : Program) (g : Graph) (x : Edge) where
  same_post : (y : Stmt) (cells : List Known) → number_in y ≡ left g x →
      post_cells p (left g x) (act_in y) x.action cells ≡ statement_post p y x.action cells
  same_post (MkStmt n line a) cells is = ap (λ m. post_cells p m a x.action cells) (sym is)

  same_clears : (y : Stmt) (cells : List Known) (fault : Kind) → number_in y ≡ left g x →
      clears_edge p (left g x) (act_in y) x.action cells fault ≡ statement_clears p y x.action cells fault
  same_clears (MkStmt n line a) cells fault is = ap (λ m. clears_edge p m a x.action cells fault) (sym is)

  pub edge_by : (y : Stmt) (cells : List Known) → IsLeft p g x (Some y) → edge_cells p g x cells ≡ statement_post p y x.action cells
  edge_by y cells is =
      ap (λ (o : Option Act). option_map_or (λ a. post_cells p (left g x) a x.action cells) o (Some cells)) is.act
      ∙ same_post y cells is.number

  pub edge_by_none : (cells : List Known) → IsLeft p g x None → edge_cells p g x cells ≡ Some cells
  edge_by_none cells is =
      ap (λ (o : Option Act). option_map_or (λ a. post_cells p (left g x) a x.action cells) o (Some cells)) is.act

  pub clears_by : (y : Stmt) (cells : List Known) (fault : Kind) → IsLeft p g x (Some y) →
      edge_clears p g fault cells x ≡ statement_clears p y x.action cells fault
  clears_by y cells fault is =
      ap (λ (o : Option Act). option_map_or (λ a. clears_edge p (left g x) a x.action cells fault) o true) is.act
      ∙ same_clears y cells fault is.number

  pub clears_by_none : (cells : List Known) (fault : Kind) → IsLeft p g x None → edge_clears p g fault cells x ≡ true
  clears_by_none cells fault is =
      ap (λ (o : Option Act). option_map_or (λ a. clears_edge p (left g x) a x.action cells fault) o true) is.act

  -- ---- how small they are

  pub small_at : IsSourceGraph p g → (y : Stmt) → IsLeft p g x (Some y) → AllByRecursion (IsSmallPart p (act_in y) x.action) (edge_parts p y x.action)
  small_at source (MkStmt n line a) is =
      subst (λ m. AllByRecursion (IsSmallPart p a x.action) (edge_parts p (MkStmt m line a) x.action)) (sym is.number)
      (edges_are_small_of_sources p g source (left g x) a x.action is.act)
