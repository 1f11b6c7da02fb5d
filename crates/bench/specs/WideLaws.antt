-- The system that is timed meets the laws.
use Rattle.std.specs.Prelude.{◌≡◌, ℕ, ◌<◌, ◌≤◌, ℤ, pos, ◌-ℤ◌, ◌≤ℤ◌, ◌<ℤ◌, unsigned_abs, refl}
use Rattle.std.proofs.Common.{arith, sym}
use Rattle.std.proofs.lemmas.Int.{ints, clamps, by_lt_z}
use Rattle.std.proofs.lemmas.List.{length-replicate}
use Rattle.dom_laws.specs.Lattice.{IsElement, IsLattice}
use Rattle.dom_laws.specs.Flow.{IsHead, IsFlow}
use Rattle.bench.specs.Wide.{word, row_of, widened, wide, chain}

element : (z : ℤ) → pos 0 ≤ℤ z → z ≤ℤ pos 9 → IsElement wide (row_of z)
element z h k = record { width = length-replicate 600 z; formed = (refl, h, k) }

widened_low : (p q : ℤ) → p ≤ℤ pos 9 → p ≤ℤ widened p q
widened_low p q h = grind (arith, ints)

widened_up : (p q : ℤ) → q ≤ℤ pos 9 → q ≤ℤ widened p q
widened_up p q h = grind (arith, ints)

widened_within : (p q : ℤ) → p ≤ℤ pos 9 → widened p q ≤ℤ pos 9
widened_within p q h = grind (arith, ints)

widened_keeps : (p q : ℤ) → q ≤ℤ p → widened p q ≡ p
widened_keeps p q h = grind (arith, ints)

pub widened_grows : (p q : ℤ) → ¬ q ≤ℤ p → widened p q ≡ pos 9
widened_grows p q h = grind (arith, ints)

falls : (p q r : ℤ) → q ≤ℤ pos 9 → ¬ q ≤ℤ p → r ≡ pos 9 → unsigned_abs (pos 9 -ℤ r) < unsigned_abs (pos 9 -ℤ p)
falls p q r h k e = by_lt_z p q (λ (lt : p <ℤ q). omega (arith, ints)) (λ (le : q ≤ℤ p). absurd (k le))

pub wide_ordered : IsLattice wide
wide_ordered = record {
  reflexive = λ a e. omega (arith, ints);
  transitive = λ a b c e f g h k. omega (arith, ints);
  least_element = element (pos 0) (omega (arith, ints)) (omega (arith, ints));
  least_below = λ a e. e.formed.1;
  join_element = λ a b e f. element _ (omega (arith, ints, clamps, e.formed.1, f.formed.1)) (omega (arith, ints, clamps, e.formed.2, f.formed.2));
  join_left = λ a b e f. omega (arith, ints, clamps);
  join_right = λ a b e f. omega (arith, ints, clamps);
  join_least = λ a b c e f g h k. omega (arith, ints, clamps);
  widen_element = λ a b e f. let low = widened_low (word a) (word b) e.formed.2 in element _ (omega (arith, ints, low, e.formed.1)) (widened_within (word a) (word b) e.formed.2);
  widen_left = λ a b e f. widened_low (word a) (word b) e.formed.2;
  widen_right = λ a b e f. widened_up (word a) (word b) f.formed.2;
  widen_keeps = λ a b e f h. rw (widened_keeps (word a) (word b) h) (sym e.formed.0);
  widen_falls = λ a b e f h. falls (word a) (word b) (widened (word a) (word b)) f.formed.2 h (widened_grows (word a) (word b) h);
  rank_within = λ a e. omega (arith, ints, e.formed.1, e.formed.2);
}

pub no_heads : (nodes node : ℕ) → IsHead (chain nodes) node → ⊥
no_heads nodes node head = let back = head.2 in omega (arith, back)

pub chain_flows : (nodes : ℕ) → 1 ≤ nodes → IsFlow wide (chain nodes)
chain_flows nodes some = record {
  has_node = some;
  source_node = λ edge is. record { first = is.first; last = omega (arith, is.last) };
  target_node = λ edge is. record { first = omega arith; last = omega (arith, is.last, some) };
  by_source = λ d e is also upto. upto;
  entry_element = element (pos 1) (omega (arith, ints)) (omega (arith, ints));
  post_element = λ edge a is e. element _ e.formed.1 e.formed.2;
  post_monotone = λ edge a b is e f h. h;
}
