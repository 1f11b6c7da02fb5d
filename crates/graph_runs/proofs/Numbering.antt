-- Edges of a graph by their numbers.
use Rattle.std.proofs.Common.{◌≡◌, ◌≤◌, ℕ, zero, suc, ◌+◌, ◌-◌, ◌<◌, List, [], ◌∷◌, length, refl, ap, ◌∙◌, arith}
use Rattle.std.specs.Prelude.{slice_index_or, Contains}
use Rattle.cob_graph.specs.declared.graph.Edge.{Edge}
use Rattle.cob_graph.specs.declared.graph.Graph.{Graph}
use Rattle.graph_runs.specs.Places.{no_edge, edge_at}

-- the element at a place within a list, whatever stands for those beyond it
index_any : {A : Type 0} (xs : List A) (k : ℕ) (d e : A) → k < length xs → slice_index_or xs k d ≡ slice_index_or xs k e
index_any [] k d e l = absurd (omega (arith, l))
index_any (x ∷ xs) zero d e l = refl
index_any (x ∷ xs) (suc k) d e l = index_any xs k d e (omega (arith, l))

-- an edge among those of a graph has a number
pub record IsNumbered (g : Graph) (x : Edge) : Type 0 where
  pub e : ℕ
  pub first : 1 ≤ e
  pub last : e ≤ length g.edges
  pub is : edge_at g e ≡ x

pub numbered : (g : Graph) (x : Edge) → Contains g.edges x → IsNumbered g x
numbered g x (k, l, is) = record {
  e = k + 1;
  first = omega arith;
  last = omega (arith, l);
  is = ap (λ (i : ℕ). slice_index_or g.edges i no_edge) (less_one k) ∙ (index_any g.edges k no_edge x l ∙ is);
}
  where
    less_one : (n : ℕ) → n + 1 - 1 ≡ n
    less_one n = omega arith
