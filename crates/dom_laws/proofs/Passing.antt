-- Rows that are kept at every place are inductive, and the other way round.
use Rattle.std.proofs.Common.{◌≡◌, ℕ, zero, suc, ◌+◌, ◌-◌, ◌<◌, ◌≤◌, List, ℤ, ap, sym, ◌∙◌, subst, refl, arith, inl, inr}
use Rattle.std.proofs.lemmas.Bool.{cases_eq}
use Rattle.dom_laws.specs.Lattice.{Lattice, IsElement}
use Rattle.dom_laws.specs.Flow.{Flow, IsNode, IsEdge, IsInductive}
use Rattle.dom_laws.specs.Leaks.{HasElements, Keeps, IsFirstLeak}

-- an edge's place says what the edge does
pub keeps_by_edge : (l : Lattice) (f : Flow) (rows : ℕ → List ℤ) (edge : ℕ) → 1 ≤ edge → l.Below (f.post edge (rows (f.source edge))) (rows (f.target edge)) → Keeps l f rows edge
keeps_by_edge l f rows zero some below = absurd (omega arith)
keeps_by_edge l f rows (suc e) some below = below

pub edge_by_keeps : (l : Lattice) (f : Flow) (rows : ℕ → List ℤ) (edge : ℕ) → 1 ≤ edge → Keeps l f rows edge → l.Below (f.post edge (rows (f.source edge))) (rows (f.target edge))
edge_by_keeps l f rows zero some kept = absurd (omega arith)
edge_by_keeps l f rows (suc e) some kept = kept

-- all places up to one are kept
abbrev pub KeptTo : Lattice → Flow → (ℕ → List ℤ) → ℕ → Type 0
KeptTo l f rows index = (place : ℕ) → place ≤ index → Keeps l f rows place

pub kept_none : (l : Lattice) (f : Flow) (rows : ℕ → List ℤ) → Keeps l f rows 0 → KeptTo l f rows 0
kept_none l f rows entry place upto = let is : place ≡ 0 = omega (arith, upto) in subst (λ p. Keeps l f rows p) (sym is) entry

pub kept_more : (l : Lattice) (f : Flow) (rows : ℕ → List ℤ) (index : ℕ) → KeptTo l f rows index → Keeps l f rows (index + 1) → KeptTo l f rows (index + 1)
kept_more l f rows index kept now place upto = elim (cases_eq place (index + 1)) [
  | inl at ↦ subst (λ p. Keeps l f rows p) (sym at) now
  | inr off ↦ kept place (omega (arith, upto, off))
]

pub kept_all : (l : Lattice) (f : Flow) (rows : ℕ → List ℤ) (index : ℕ) → HasElements l f rows → f.edges ≤ index → KeptTo l f rows index → IsInductive l f rows
kept_all l f rows index elements all kept = record {
  elements = elements;
  entry = kept 0 (omega arith);
  edges = λ edge is. edge_by_keeps l f rows edge is.first (kept edge (omega (arith, is.last, all)));
}

pub inductive_keeps : (l : Lattice) (f : Flow) (rows : ℕ → List ℤ) (place : ℕ) → place ≤ f.edges → IsInductive l f rows → Keeps l f rows place
inductive_keeps l f rows zero within inductive = inductive.entry
inductive_keeps l f rows (suc e) within inductive = inductive.edges (suc e) (record { first = omega arith; last = within })

pub first_leak : (l : Lattice) (f : Flow) (rows : ℕ → List ℤ) (index : ℕ) → index + 1 ≤ f.edges → KeptTo l f rows index → ¬ Keeps l f rows (index + 1) → IsFirstLeak l f rows (index + 1)
first_leak l f rows index within kept leak = record {
  within = within;
  before = λ earlier less. kept earlier (omega arith);
  leaks = leak;
}

pub entry_leak : (l : Lattice) (f : Flow) (rows : ℕ → List ℤ) → ¬ Keeps l f rows 0 → IsFirstLeak l f rows 0
entry_leak l f rows leak = record {
  within = omega arith;
  before = λ earlier less. absurd (omega arith);
  leaks = leak;
}
