-- A layer's works are those of its program and graph.
use Rattle.std.proofs.Common.{◌≡◌, ℕ, Bool, true, false, List, ℤ, Option, Some, None, sym, ap, subst, ◌∙◌}
use Rattle.std.specs.Prelude.{slice_index_or, if◌then◌else◌, IsTrue, ◌↔◌}
use Rattle.std.specs.List.{list_all}
use Rattle.std.proofs.Props.{props}
use Rattle.std.proofs.Math.Logic.{∥∥₁_elim}
use Rattle.cob_tree.specs.declared.fault.Kind.{Kind}
use Rattle.cob_tree.specs.Kinds.{has, kinds_of, every_kind}
use Rattle.cob_tree.specs.declared.kinds.Kinds.{Kinds}
use Rattle.cob_tree.proofs.KindLaws.{has_kinds_of}
use Rattle.cob_program.specs.ActView.{plain_program}
use Rattle.cob_program.specs.Act.{Program}
use Rattle.cob_graph.specs.declared.graph.Graph.{Graph}
use Rattle.graph_runs.specs.Places.{no_edge}
use Rattle.interval_domain.specs.declared.bounds.Interval.{Interval}
use Rattle.interval_domain.specs.Known.{Known}
use Rattle.interval_domain.specs.Elements.{Element}
use Rattle.interval_domain.specs.Rows.{IsRow, is_reached, cells_of, element_of}
use Rattle.cell_steps.specs.OwnRanges.{owns}
use Rattle.cell_layer.specs.declared.layer.works.EdgeWorks.{EdgeWorks}
use Rattle.cell_layer.specs.Held.{IsHeld}
use Rattle.diff_steps.specs.Packs.{Pack}
use Rattle.diff_layer.specs.declared.pack.plans.PackPlan.{PackPlan}
use Rattle.diff_layer.specs.Edges.{packs_walked}
use Rattle.diff_layer.specs.Plans.{ArePlansOf}
use Rattle.diff_layer.specs.AtMostOne.{plans_prop}
use Rattle.pack_laws.specs.Layer.{leaves_clear2, clears_at2}

module _ (p : Program) (g : Graph) (works : EdgeWorks) (held : ∥ IsHeld p g works ∥₁) where
  -- the works' own
  abbrev q : Program
  q = plain_program works.program.now

  abbrev h : Graph
  h = works.graph.now

  pub plans_too : (plans : List PackPlan) → ArePlansOf p plans → ArePlansOf q plans
  plans_too plans all = ∥∥₁_elim held (plans_prop q plans) (λ is. subst (λ r. ArePlansOf r plans) (sym is.program) all)

  same_owns : owns p ≡ owns q
  same_owns = ∥∥₁_elim held (hlevel props) (λ is. sym (ap owns is.program))

  pub row_too : (row : List ℤ) → IsRow (owns p) row → IsRow (owns q) row
  row_too row is = subst (λ (os : List Interval). IsRow os row) same_owns is

  module _ (packs : List Pack) where
    abbrev walked : Program → Graph → ℕ → Element → List (List ℤ) → Option (List (List ℤ))
    walked r x k element ms = packs_walked r x packs (slice_index_or x.edges k no_edge) element ms

    pub walks_too : (k : ℕ) (element : Element) (ms : List (List ℤ)) → walked p g k element ms ≡ walked q h k element ms
    walks_too k element ms =
        ∥∥₁_elim held (hlevel props) (λ is. ap (λ x. walked p x k element ms) (sym is.graph) ∙ ap (λ r. walked r h k element ms) (sym is.program))

    abbrev clears : Program → Graph → ℕ → List Known → List (List ℤ) → Kind → Bool
    clears r x node cells ms kind = list_all (leaves_clear2 r x packs node kind cells ms) x.edges

    pub clears_too : (node : ℕ) (cells : List Known) (ms : List (List ℤ)) (kind : Kind) → has (kinds_of (clears q h node cells ms)) kind ≡ clears p g node cells ms kind
    clears_too node cells ms kind =
        has_kinds_of (clears q h node cells ms) kind
        ∙ ∥∥₁_elim held (hlevel props) (λ is. ap (λ r. clears r h node cells ms kind) is.program ∙ ap (λ x. clears p x node cells ms kind) is.graph)

    -- ---- where the row of cells is reached, and where it isn't

    module _ (node : ℕ) (fact : List ℤ) (ms : List (List ℤ)) (kind : Kind) (b : Bool) where
      pub reached_clears : b ≡ true → b ≡ is_reached fact → (s : Kinds) → s ≡ kinds_of (clears q h node (cells_of fact) ms) →
          IsTrue (has s kind) ↔ (clears_at2 p g packs node (element_of fact) ms kind ≡ true)
      reached_clears reached is s e =
          let there = ap (λ t. has t kind) e ∙ clears_too node (cells_of fact) ms kind in
          let element = ap (λ r. clears_at2 p g packs node (if r then Some (cells_of fact) else None) ms kind) (sym is ∙ reached) in
          (λ t. element ∙ sym there ∙ t, λ t. there ∙ sym element ∙ t)

      pub unreached_clears : b ≡ false → b ≡ is_reached fact → (s : Kinds) → s ≡ every_kind →
          IsTrue (has s kind) ↔ (clears_at2 p g packs node (element_of fact) ms kind ≡ true)
      unreached_clears missing is s e = (
        λ t. ap (λ r. clears_at2 p g packs node (if r then Some (cells_of fact) else None) ms kind) (sym is ∙ missing),
        λ t. ap (λ t. has t kind) e ∙ has_kinds_of (λ _. true) kind,
      )
