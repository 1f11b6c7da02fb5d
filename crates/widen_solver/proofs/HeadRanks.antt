-- How often the heads can still grow.
use Rattle.std.proofs.Common.{◌≡◌, ℕ, zero, suc, ◌*◌, ◌<◌, ◌≤◌, List, ℤ, Bool, true, false, if◌then◌else◌, ◌⊎◌, inl, inr, refl, arith}
use Rattle.std.proofs.lemmas.Grind.{common_steps}
use Rattle.std.proofs.lemmas.Bool.{cases_Bool, cases_eq}
use Rattle.dom_laws.specs.Lattice.{Lattice, IsElement, IsLattice}
use Rattle.dom_laws.specs.Flow.{Flow, IsHead, goes_back_to, heads_up_to}
use Rattle.dom_laws.proofs.Heads.{found, missed_none}
use Rattle.widen_solver.specs.Stored.{row_at}
use Rattle.widen_solver.specs.Solving.{ranks_up_to}

-- the test for heads, both ways
pub test_finds_head : (f : Flow) (node : ℕ) → goes_back_to f node f.edges ≡ true → IsHead f node
test_finds_head f node e = found f node f.edges (omega arith) e

pub head_passes_test : (f : Flow) (node : ℕ) → IsHead f node → goes_back_to f node f.edges ≡ true
head_passes_test f node (edge, is, back, at) = missed_none f node edge f.edges is.first is.last back at

false_is_no_true : (b : Bool) → b ≡ false → b ≡ true → ⊥
false_is_no_true b e h = cc

pub head_or_not : (f : Flow) (node : ℕ) → IsHead f node ⊎ (¬ IsHead f node)
head_or_not f node = elim (cases_Bool (goes_back_to f node f.edges)) [
  | inl passes ↦ inl (test_finds_head f node passes)
  | inr fails ↦ inr (λ head. false_is_no_true (goes_back_to f node f.edges) fails (head_passes_test f node head))
]

-- one head's part of the sum
part_no_higher : (b : Bool) (p q : ℕ) → (b ≡ true → p ≤ q) → (if b then p else 0) ≤ (if b then q else 0)
part_no_higher true p q h = h refl
part_no_higher false p q h = omega arith

part_falls : (b : Bool) (p q : ℕ) → b ≡ true → p < q → (if b then p else 0) < (if b then q else 0)
part_falls true p q e h = h
part_falls false p q e h = absurd (grind (arith, common_steps))

part_within : (b : Bool) (p h : ℕ) → p ≤ h → (if b then p else 0) ≤ (if b then 1 else 0) * h
part_within true p h le = omega arith
part_within false p h le = omega arith

-- no head among the first nodes grew back
abbrev pub NoneHigher : Lattice → Flow → List (List ℤ) → List (List ℤ) → ℕ → Type 0
NoneHigher l f old new n = (node : ℕ) → 1 ≤ node → node ≤ n → goes_back_to f node f.edges ≡ true → l.rank (row_at new node) ≤ l.rank (row_at old node)

pub ranks_no_higher : (l : Lattice) (f : Flow) (old new : List (List ℤ)) (n : ℕ) → NoneHigher l f old new n → ranks_up_to l f new n ≤ ranks_up_to l f old n
ranks_no_higher l f old new zero h = omega arith
ranks_no_higher l f old new (suc n) h =
    let before : ranks_up_to l f new n ≤ ranks_up_to l f old n = ranks_no_higher l f old new n (λ node first last. h node first (omega arith)) in
    let here = part_no_higher (goes_back_to f (suc n) f.edges) (l.rank (row_at new (suc n))) (l.rank (row_at old (suc n))) (h (suc n) (omega arith) (omega arith)) in
    omega (arith, before, here)

pub ranks_fall : (l : Lattice) (f : Flow) (old new : List (List ℤ)) (n node : ℕ) → NoneHigher l f old new n → 1 ≤ node → node ≤ n → goes_back_to f node f.edges ≡ true → l.rank (row_at new node) < l.rank (row_at old node) → ranks_up_to l f new n < ranks_up_to l f old n
ranks_fall l f old new zero node h first last head less = absurd (omega arith)
ranks_fall l f old new (suc n) node h first last head less = elim (cases_eq node (suc n)) [
  | inl at ↦ let before : ranks_up_to l f new n ≤ ranks_up_to l f old n = ranks_no_higher l f old new n (λ other low high. h other low (omega arith)) in
      let here = part_falls (goes_back_to f (suc n) f.edges) (l.rank (row_at new (suc n))) (l.rank (row_at old (suc n))) (rw (← at) head) (rw (← at) less) in
      omega (arith, before, here)
  | inr off ↦ let before : ranks_up_to l f new n < ranks_up_to l f old n = ranks_fall l f old new n node (λ other low high. h other low (omega arith)) first (omega arith) head less in
      let here = part_no_higher (goes_back_to f (suc n) f.edges) (l.rank (row_at new (suc n))) (l.rank (row_at old (suc n))) (h (suc n) (omega arith) (omega arith)) in
      omega (arith, before, here)
]

-- the ranks are at most as many heights as there are heads
pub ranks_within : (l : Lattice) (f : Flow) → IsLattice l → (rows : List (List ℤ)) (n : ℕ) → ((node : ℕ) → 1 ≤ node → node ≤ n → IsElement l (row_at rows node)) → ranks_up_to l f rows n ≤ heads_up_to f n * l.height
ranks_within l f laws rows zero elements = omega arith
ranks_within l f laws rows (suc n) elements =
    let before : ranks_up_to l f rows n ≤ heads_up_to f n * l.height = ranks_within l f laws rows n (λ node first last. elements node first (omega arith)) in
    let here = part_within (goes_back_to f (suc n) f.edges) (l.rank (row_at rows (suc n))) l.height (laws.rank_within (row_at rows (suc n)) (elements (suc n) (omega arith) (omega arith))) in
    omega (arith, before, here)
