-- How often a row grows.
use Rattle.std.proofs.Common.{ℕ, zero, suc, ◌<◌, ◌≤◌, List, ℤ, arith}
use Rattle.dom_laws.specs.Lattice.{Lattice, IsElement, IsLattice, CanGrow}

pub grows_within_rank : (l : Lattice) → IsLattice l → (a : List ℤ) (n : ℕ) → IsElement l a → CanGrow l a n → n ≤ l.rank a
grows_within_rank l laws a zero e g = omega arith
grows_within_rank l laws a (suc n) e (b, be, above, g) =
    let falls : l.rank (l.widen a b) < l.rank a = laws.widen_falls a b e be above in
    let within : n ≤ l.rank (l.widen a b) = grows_within_rank l laws (l.widen a b) n (laws.widen_element a b e be) g in
    omega (arith, falls, within)

pub grows_within_height : (l : Lattice) → IsLattice l → (a : List ℤ) (n : ℕ) → IsElement l a → CanGrow l a n → n ≤ l.height
grows_within_height l laws a n e g =
    let within : n ≤ l.rank a = grows_within_rank l laws a n e g in
    let least : l.rank a ≤ l.height = laws.rank_within a e in
    omega (arith, within, least)
