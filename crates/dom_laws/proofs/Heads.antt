-- The test for heads.
use Rattle.std.proofs.Common.{◌≡◌, ℕ, zero, suc, ◌≤◌, Bool, true, false, nat_eq, nat_le, ◌&&◌, ◌||◌, ◌⊎◌, inl, inr, refl, arith}
use Rattle.std.proofs.lemmas.Grind.{common_steps}
use Rattle.dom_laws.specs.Flow.{Flow, IsHead, goes_back_to}

either : (a b : Bool) → (a || b) ≡ true → (a ≡ true) ⊎ (b ≡ true)
either true b e = inl refl
either false b e = inr e

both : (a b : Bool) → (a && b) ≡ true → (a ≡ true) × (b ≡ true)
both true true e = (refl, refl)
both true false e = (refl, e)
both false b e = absurd (grind (arith, common_steps))

-- a test that holds was made at an edge
pub found : (f : Flow) (node n : ℕ) → n ≤ f.edges → goes_back_to f node n ≡ true → IsHead f node
found f node zero h e = absurd (grind (arith, common_steps))
found f node (suc n) h e =
    elim (either (nat_eq (f.target (suc n)) node && nat_le (f.target (suc n)) (f.source (suc n))) (goes_back_to f node n) e) [
      | inl here ↦ let parts = both (nat_eq (f.target (suc n)) node) (nat_le (f.target (suc n)) (f.source (suc n))) here in
          (suc n, record { first = omega arith; last = h }, grind (arith, common_steps, parts.1), grind (arith, common_steps, parts.0))
      | inr before ↦ found f node n (omega arith) before
    ]

-- an edge up to n that goes back to the node makes it hold
pub missed_none : (f : Flow) (node edge n : ℕ) → 1 ≤ edge → edge ≤ n → f.target edge ≤ f.source edge → f.target edge ≡ node → goes_back_to f node n ≡ true
missed_none f node edge zero h k back at = absurd (omega arith)
missed_none f node edge (suc n) h k back at = grind (arith, common_steps, missed_none f node edge n h)
