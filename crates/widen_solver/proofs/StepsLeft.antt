-- The edges that are settled, and the steps that are left.
use Rattle.std.proofs.Common.{◌≡◌, ℕ, ◌+◌, ◌-◌, ◌*◌, ◌<◌, ◌≤◌, List, ℤ, Bool, true, false, inl, inr, subst, sym, arith}
use Rattle.std.proofs.lemmas.Bool.{cases_eq}
use Rattle.std.proofs.Math.Nat.{mul-le-mul_left}
use Rattle.dom_laws.specs.Lattice.{Lattice, IsLattice}
use Rattle.dom_laws.specs.Flow.{Flow, IsEdge, IsFlow, head_count}
use Rattle.widen_solver.specs.Solving.{IsUnderWay, IsSettled, AreSettled, head_ranks, TakesEdge, Advances, step_bound}
use Rattle.widen_solver.proofs.HeadRanks.{ranks_within}

-- where no head grew, the next one follows
pub goes_on : (l : Lattice) (f : Flow) → IsFlow l f → (edge : ℕ) → IsEdge f edge → (old new : List (List ℤ)) → AreSettled l f old edge → (again : Bool) → again ≡ false → TakesEdge l f edge old new again → Advances l f edge old new (edge + 1)
goes_on l f flows edge is old new settled again quiet taken =
    let ranks : f.edges * head_ranks l f new ≤ f.edges * head_ranks l f old = mul-le-mul_left f.edges taken.no_higher in
    record {
      under_way = taken.under_way;
      settled = record {
        each = λ other also less. elim (cases_eq other edge) [
          | inl same ↦ subst (λ n. IsSettled l f new n) (sym same) (taken.here quiet)
          | inr off ↦ taken.keeps quiet other also (flows.by_source other edge also is (omega (arith, less))) (settled.each other also (omega (arith, less, off)))
        ];
      };
      next_within = omega arith;
      fewer_left = omega (arith, ranks, is.last);
    }

-- where a head grew, those with a source before it stay settled, and its fall pays for all edges once more
pub goes_back : (l : Lattice) (f : Flow) → (edge : ℕ) → IsEdge f edge → (old new : List (List ℤ)) → AreSettled l f old edge → (again : Bool) → again ≡ true → TakesEdge l f edge old new again → (count : ℕ) → count ≤ edge - 1 → ((other : ℕ) → IsEdge f other → other ≤ count → f.source other < f.target edge) → Advances l f edge old new (count + 1)
goes_back l f edge is old new settled again tells taken count within before =
    let less = taken.falls tells in
    let ranks : f.edges * (head_ranks l f new + 1) ≤ f.edges * head_ranks l f old = mul-le-mul_left f.edges (omega (arith, less)) in
    record {
      under_way = taken.under_way;
      settled = record { each = λ other also upto. taken.keeps_before other also (before other also (omega (arith, upto))) (settled.each other also (omega (arith, upto, within, is.first))) };
      next_within = omega (arith, within);
      fewer_left = omega (arith, ranks, is.last);
    }

-- all edges for each rank of a head, and once more
pub within_bound : (l : Lattice) (f : Flow) → IsLattice l → (rows : List (List ℤ)) → IsUnderWay l f rows → f.edges * (head_ranks l f rows + 1) ≤ step_bound l f
within_bound l f laws rows under_way =
    let ranks : head_ranks l f rows ≤ head_count f * l.height = ranks_within l f laws rows f.nodes (λ node first last. under_way.elements node (record { first = first; last = last })) in
    mul-le-mul_left f.edges (omega arith)
