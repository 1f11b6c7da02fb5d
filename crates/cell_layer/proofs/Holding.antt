-- A layer's works are those of its program and graph.
use Rattle.std.proofs.Common.{◌≡◌, ◌↔◌, ◌<◌, ℕ, ℤ, Bool, true, false, if◌then◌else◌, List, length, Some, None, sym, ap, subst, ◌∙◌}
use Rattle.std.specs.Prelude.{slice_index_or, IsTrue}
use Rattle.std.specs.List.{list_all}
use Rattle.std.proofs.Props.{props}
use Rattle.std.proofs.Math.Logic.{∥∥₁_elim}
use Rattle.cob_tree.specs.declared.fault.Kind.{Kind}
use Rattle.cob_tree.specs.declared.kinds.Kinds.{Kinds}
use Rattle.cob_tree.specs.Kinds.{has, kinds_of, every_kind}
use Rattle.cob_tree.proofs.KindLaws.{has_kinds_of}
use Rattle.cob_program.specs.ActView.{plain_program}
use Rattle.cob_program.specs.Act.{Program}
use Rattle.cob_graph.specs.declared.graph.Graph.{Graph}
use Rattle.graph_runs.specs.Places.{no_edge}
use Rattle.interval_domain.specs.declared.bounds.Interval.{Interval}
use Rattle.interval_domain.specs.Known.{Known}
use Rattle.interval_domain.specs.Elements.{CellsFit}
use Rattle.interval_domain.specs.Rows.{is_reached, cells_of, element_of}
use Rattle.cell_steps.specs.OwnRanges.{owns}
use Rattle.cell_laws.specs.Layer.{row_for, edge_cells, leaves_clear, clears_at}
use Rattle.cell_layer.specs.declared.layer.works.EdgeWorks.{EdgeWorks}
use Rattle.cell_layer.specs.Held.{IsHeld}

module _ (p : Program) (g : Graph) (works : EdgeWorks) (held : ∥ IsHeld p g works ∥₁) where
  -- the works' own
  abbrev q : Program
  q = plain_program works.program.now

  abbrev h : Graph
  h = works.graph.now

  same_owns : owns p ≡ owns q
  same_owns = ∥∥₁_elim held (hlevel props) (λ is. sym (ap owns is.program))

  pub fits_too : (cells : List Known) → CellsFit (owns p) cells → CellsFit (owns q) cells
  fits_too cells fits = subst (λ (os : List Interval). CellsFit os cells) same_owns fits

  pub edges_too : (k : ℕ) → k < length g.edges → k < length h.edges
  edges_too k within =
      ∥∥₁_elim held (hlevel props) (λ is. subst (λ (x : Graph). k < length x.edges) (sym is.graph) within)

  abbrev posted : Program → Graph → ℕ → List Known → List ℤ
  posted r x k cells = row_for r (edge_cells r x (slice_index_or x.edges k no_edge) cells)

  pub posts_too : (k : ℕ) (cells : List Known) → posted q h k cells ≡ posted p g k cells
  posts_too k cells =
      ∥∥₁_elim held (hlevel props) (λ is. ap (λ r. posted r h k cells) is.program ∙ ap (λ x. posted p x k cells) is.graph)

  abbrev clears : Program → Graph → ℕ → List Known → Kind → Bool
  clears r x node cells kind = list_all (leaves_clear r x node kind cells) x.edges

  pub clears_too : (node : ℕ) (cells : List Known) (kind : Kind) → has (kinds_of (clears q h node cells)) kind ≡ clears p g node cells kind
  clears_too node cells kind =
      has_kinds_of (clears q h node cells) kind
      ∙ ∥∥₁_elim held (hlevel props) (λ is. ap (λ r. clears r h node cells kind) is.program ∙ ap (λ x. clears p x node cells kind) is.graph)

  -- ---- where a row is reached, and where it isn't

  module _ (node : ℕ) (row : List ℤ) (kind : Kind) (b : Bool) where
    pub reached_clears : b ≡ true → b ≡ is_reached row → (s : Kinds) → s ≡ kinds_of (clears q h node (cells_of row)) →
        IsTrue (has s kind) ↔ (clears_at p g node (element_of row) kind ≡ true)
    reached_clears told is s e =
        let there = ap (λ t. has t kind) e ∙ clears_too node (cells_of row) kind in
        let element = ap (λ r. clears_at p g node (if r then Some (cells_of row) else None) kind) (sym is ∙ told) in
        (λ t. element ∙ sym there ∙ t, λ t. there ∙ sym element ∙ t)

    pub unreached_clears : b ≡ false → b ≡ is_reached row → (s : Kinds) → s ≡ every_kind →
        IsTrue (has s kind) ↔ (clears_at p g node (element_of row) kind ≡ true)
    unreached_clears told is s e = (
      λ t. ap (λ r. clears_at p g node (if r then Some (cells_of row) else None) kind) (sym is ∙ told),
      λ t. ap (λ t. has t kind) e ∙ has_kinds_of (λ _. true) kind,
    )

pub reached_element : (row out : List ℤ) → out ≡ row → (b : Bool) → b ≡ true → b ≡ is_reached out → element_of row ≡ Some (cells_of out)
reached_element row out same b told is =
    sym (ap element_of same) ∙ ap (λ (r : Bool). if r then Some (cells_of out) else None) (sym is ∙ told)
