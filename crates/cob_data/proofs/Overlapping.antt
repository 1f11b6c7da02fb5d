-- Items whose extents have a byte in common share a byte.
use Rattle.std.proofs.Common.{◌≡◌, ◌<◌, ◌≤◌, ◌⊎◌, inl, inr, ℕ, ◌+◌, Bool, true, false, refl, sym, ◌∙◌, arith}
use Rattle.std.specs.Prelude.{◌↔◌, nat_le, IsTrue}
use Rattle.std.proofs.lemmas.Bool.Decides.{nat_tests}
use Rattle.cob_data.specs.declared.layout.Item.{Item}
use Rattle.cob_data.specs.Extents.{start_of, share_bytes, meets_range, share_extents}
use Rattle.cob_data.specs.Occurrences.{extent_of}
use Rattle.cob_data.specs.Overlaps.{Meet}
use Rattle.cob_data.proofs.Meeting.{some_below, any_is, share_is, share_for}

-- the later start of two ranges that share a byte lies in both
later_start : (a b : ℕ) → (k : ℕ) × (a ≤ k) × (b ≤ k) × ((k ≡ a) ⊎ (k ≡ b))
later_start a b = go (nat_le a b) refl
  where
    go : (t : Bool) → nat_le a b ≡ t → (k : ℕ) × (a ≤ k) × (b ≤ k) × ((k ≡ a) ⊎ (k ≡ b))
    go true e = (b, grind (arith, nat_tests, e), omega arith, inr refl)
    go false e = (a, omega arith, grind (arith, nat_tests, e), inl refl)

module _ (a b : Item) (some : 0 < a.length) (more : 0 < b.length) where
  both_have : (m n : ℕ) → m < a.times → n < b.times →
      (start_of (extent_of a) m < start_of (extent_of b) n + b.length) × (start_of (extent_of b) n < start_of (extent_of a) m + a.length) →
      Meet a b
  both_have m n f g (h, i) = at (later_start (start_of (extent_of a) m) (start_of (extent_of b) n))
    where
      at : (k : ℕ) × (start_of (extent_of a) m ≤ k) × (start_of (extent_of b) n ≤ k)
          × ((k ≡ start_of (extent_of a) m) ⊎ (k ≡ start_of (extent_of b) n)) → Meet a b
      at (k, u, v, inl same) =
          (m, n, k, record { there = f; from = u; to = omega (arith, same, some) }, record { there = g; from = v; to = omega (arith, same, h) })
      at (k, u, v, inr same) =
          (m, n, k, record { there = f; from = u; to = omega (arith, same, i) }, record { there = g; from = v; to = omega (arith, same, more) })

  inner : (m : ℕ) → m < a.times →
      (n : ℕ) × (n < b.times) × (share_bytes (start_of (extent_of a) m) a.length (start_of (extent_of b) n) b.length ≡ true) → Meet a b
  inner m f (n, g, h) = both_have m n f g (share_is (start_of (extent_of a) m) a.length (start_of (extent_of b) n) b.length h)

  outer : (m : ℕ) × (m < a.times) × (meets_range (extent_of b) (start_of (extent_of a) m) a.length ≡ true) → Meet a b
  outer (m, f, g) = inner m f (some_below b.times (λ n. share_bytes (start_of (extent_of a) m) a.length (start_of (extent_of b) n) b.length) g)

  pub met_by : share_extents (extent_of a) (extent_of b) ≡ true → Meet a b
  met_by e = outer (some_below a.times (λ m. meets_range (extent_of b) (start_of (extent_of a) m) a.length) e)

pub met_shares : (a b : Item) → Meet a b → share_extents (extent_of a) (extent_of b) ≡ true
met_shares a b (m, n, k, x, y) =
    any_is a.times (λ i. meets_range (extent_of b) (start_of (extent_of a) i) a.length) m x.there
    (any_is b.times (λ j. share_bytes (start_of (extent_of a) m) a.length (start_of (extent_of b) j) b.length) n y.there
    (share_for (start_of (extent_of a) m) a.length (start_of (extent_of b) n) b.length
    (omega (arith, x.from, y.to)) (omega (arith, y.from, x.to))))

-- where both have bytes, that their extents share some is that some byte lies in both
pub meets_is : (a b : Item) (shared result : Bool) → shared ≡ share_extents (extent_of a) (extent_of b) →
    IsTrue result ↔ (IsTrue shared × (0 < a.length) × (0 < b.length)) → IsTrue result ↔ Meet a b
meets_is a b shared result e (there, back) = (
  λ u. let is = there u in met_by a b is.1 is.2 (sym e ∙ is.0),
  λ met. let has = has_bytes met in back (e ∙ met_shares a b met, has.0, has.1),
)
  where
    has_bytes : Meet a b → (0 < a.length) × (0 < b.length)
    has_bytes (m, n, k, x, y) = (omega (arith, x.from, x.to), omega (arith, y.from, y.to))
