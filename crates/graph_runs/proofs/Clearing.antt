-- What rows clear that stand for the runs of a program along its graph.
use Rattle.std.proofs.Common.{ℕ, zero, suc, List, ℤ, sym, subst}
use Rattle.std.proofs.Props.{props}
use Rattle.std.proofs.Math.Logic.{∥∥₁_elim}
use Rattle.cob_tree.specs.declared.fault.Kind.{Kind}
use Rattle.cob_program.specs.Act.{Program}
use Rattle.cob_graph.specs.declared.graph.Graph.{Graph}
use Rattle.dom_laws.specs.Lattice.{Lattice}
use Rattle.dom_laws.specs.Flow.{Flow, IsFlow, IsInductive}
use Rattle.dom_laws.specs.Meaning.{Storage, Runs, Meaning, IsMeaning, ReachesIn, IsGranted}
use Rattle.dom_laws.proofs.Soundness.{comes_to_node, no_fault}
use Rattle.graph_runs.specs.Sources.{IsSourceGraph}
use Rattle.graph_runs.specs.Doing.{graph_runs}
use Rattle.graph_runs.specs.Flows.{flow_over}
use Rattle.graph_runs.specs.Following.{IsMet}
use Rattle.graph_runs.specs.Clearing.{Includes, IsLayerOf, IsClearAt, ClearedIsNotMet, ClearIsFaultless}
use Rattle.graph_runs.proofs.Following.{faults_are_reached}

pub includes_itself : (r : Runs) → Includes r r
includes_itself r = record {
  begins = λ s begins. begins;
  acts = λ e s t acts. acts;
  meets = λ node fault s meets. meets;
}

-- runs that include others come wherever these do
reaches_more : (f : Flow) (r q : Runs) → Includes r q → (n node : ℕ) (s : Storage) → ReachesIn f q n node s →
    ReachesIn f r n node s
reaches_more f r q more zero node s (at, begins) = (at, more.begins s begins)
reaches_more f r q more (suc n) node s (e, before, is, at, comes, acts) =
    (e, before, is, at, reaches_more f r q more n (f.source e) before comes, more.acts e before s acts)

module _ (p : Program) (g : Graph) (l : Lattice) (f : Flow) (m : Meaning) (rows : ℕ → List ℤ) (of : IsLayerOf p g f m)
    (flows : IsFlow l f) (means : IsMeaning l f m) (inductive : IsInductive l f rows) (granted : IsGranted f m) where
  comes : (n node : ℕ) (s : Storage) → ReachesIn (flow_over g f.entry f.post) (graph_runs p g) n node s →
      ReachesIn f m.runs n node s
  comes n node s h =
      reaches_more f m.runs (graph_runs p g) of.runs n node s
      (subst (λ (k : Flow). ReachesIn k (graph_runs p g) n node s) (sym of.flow) h)

  -- a fault that is cleared at a statement is met by no storage that comes to one of its nodes
  none_met : (fault : Kind) (statement : ℕ) → IsClearAt f m rows g fault statement →
      ¬ IsMet p g f.entry f.post fault statement
  none_met fault statement clear t =
      let c = comes t.edges t.node t.storage t.reaches in
      no_fault l f m rows flows means inductive granted t.edges t.node t.storage fault c
      (clear t.node (comes_to_node l f m flows t.edges t.node t.storage c) t.of)
      (of.runs.meets t.node fault t.storage t.meets)

  pub cleared_is_not_met : ClearedIsNotMet f m rows p g
  cleared_is_not_met fault statement clear contents first choices n e =
      ∥∥₁_elim of.of_source (hlevel props) (λ (s : IsSourceGraph p g).
      none_met fault statement clear
      (faults_are_reached p g s f.entry f.post contents first choices n fault statement e))

  pub clear_is_faultless : ClearIsFaultless f m rows p
  clear_is_faultless clear contents first choices n fault statement e =
      cleared_is_not_met fault statement (λ node is its. clear node fault is) contents first choices n e
