-- Domains: rows of numbers with an order, joins and a widening (Cousot and Cousot 1977).
use Rattle.std.specs.Prelude.{◌≡◌, ℕ, zero, suc, ◌<◌, ◌≤◌, List, ℤ, length}

pub record Lattice : Type 1 where
  -- how many numbers a row has
  pub width : ℕ
  -- which rows of that many numbers mean something
  pub IsWellFormed : List ℤ → Type 0
  -- the order, in which two rows may mean the same
  pub Below : List ℤ → List ℤ → Type 0
  pub least : List ℤ
  pub join : List ℤ → List ℤ → List ℤ
  pub widen : List ℤ → List ℤ → List ℤ
  -- no row grows more often under `widen` than its rank
  pub rank : List ℤ → ℕ
  -- no rank is greater
  pub height : ℕ

pub record IsElement (l : Lattice) (row : List ℤ) : Type 0 where
  pub width : length row ≡ l.width
  pub formed : l.IsWellFormed row

pub record IsLattice (l : Lattice) : Type 0 where
  pub reflexive : (a : List ℤ) → IsElement l a → l.Below a a
  pub transitive : (a b c : List ℤ) → IsElement l a → IsElement l b → IsElement l c
      → l.Below a b → l.Below b c → l.Below a c
  pub least_element : IsElement l l.least
  pub least_below : (a : List ℤ) → IsElement l a → l.Below l.least a
  pub join_element : (a b : List ℤ) → IsElement l a → IsElement l b → IsElement l (l.join a b)
  pub join_left : (a b : List ℤ) → IsElement l a → IsElement l b → l.Below a (l.join a b)
  pub join_right : (a b : List ℤ) → IsElement l a → IsElement l b → l.Below b (l.join a b)
  pub join_least : (a b c : List ℤ) → IsElement l a → IsElement l b → IsElement l c
      → l.Below a c → l.Below b c → l.Below (l.join a b) c
  pub widen_element : (a b : List ℤ) → IsElement l a → IsElement l b → IsElement l (l.widen a b)
  pub widen_left : (a b : List ℤ) → IsElement l a → IsElement l b → l.Below a (l.widen a b)
  pub widen_right : (a b : List ℤ) → IsElement l a → IsElement l b → l.Below b (l.widen a b)
  -- what doesn't grow stays as it is
  pub widen_keeps : (a b : List ℤ) → IsElement l a → IsElement l b → l.Below b a → l.widen a b ≡ a
  -- what grows falls in rank
  pub widen_falls : (a b : List ℤ) → IsElement l a → IsElement l b → ¬ l.Below b a
      → l.rank (l.widen a b) < l.rank a
  pub rank_within : (a : List ℤ) → IsElement l a → l.rank a ≤ l.height

-- the row can grow so often, one time after another, under `widen`
abbrev pub CanGrow : Lattice → List ℤ → ℕ → Type 0
CanGrow l row zero = Unit {0}
CanGrow l row (suc n) =
    (other : List ℤ) × IsElement l other × ¬ l.Below other row × CanGrow l (l.widen row other) n
