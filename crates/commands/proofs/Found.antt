-- What a name holds is one thing: nothing, bytes that are too long, bytes that are bad in one way, or bytes of one
-- value.
use Rattle.std.proofs.Common.{◌≡◌, ℕ, ◌<◌, ◌≤◌, List, length, Option, Some, None, refl, sym, ap, subst, arith}
use Rattle.std.specs.Prelude.{IsSomeAnd}

pub data Found (B X : Type 0) : Type 0 where
  Missing : Found B X
  Long : Found B X
  Bad : B → Found B X
  Good : X → Found B X

-- the bytes that are held
pub at_held : (held : Option (List ℕ)) (bytes : List ℕ) (P : List ℕ → Type 0) → held ≡ Some bytes → P bytes → IsSomeAnd held P
at_held held bytes P e h = subst (λ (o : Option (List ℕ)). IsSomeAnd o P) (sym e) h

pub held_bytes : (held : Option (List ℕ)) (P : List ℕ → Type 0) → IsSomeAnd held P
    → (bytes : List ℕ) × (held ≡ Some bytes) × P bytes
held_bytes None P h = absurd h
held_bytes (Some bytes) P h = (bytes, refl, h)

no_some : (P : List ℕ → Type 0) (held : Option (List ℕ)) → held ≡ None → IsSomeAnd held P → ⊥
no_some P None e h = h
no_some P (Some bytes) e h = cc

both : (P Q : List ℕ → Type 0) (held : Option (List ℕ)) → IsSomeAnd held P → IsSomeAnd held Q → (bytes : List ℕ) × P bytes × Q bytes
both P Q None h k = absurd h
both P Q (Some bytes) h k = (bytes, h, k)

module _ {B X : Type 0} (held : Option (List ℕ)) (limit : ℕ) (IsBad : List ℕ → B → Type 0) (IsGood : List ℕ → X → Type 0)
    (one_bad : (bytes : List ℕ) (a b : B) → IsBad bytes a → IsBad bytes b → a ≡ b)
    (refused : (bytes : List ℕ) (x : X) (b : B) → IsGood bytes x → IsBad bytes b → ⊥)
    (one_value : (bytes : List ℕ) (x y : X) → IsGood bytes x → IsGood bytes y → x ≡ y) where
  abbrev pub Finds : Found B X → Type 0
  Finds Missing = held ≡ None
  Finds Long = IsSomeAnd held (λ bytes. limit < length bytes)
  Finds (Bad b) = IsSomeAnd held (λ bytes. (length bytes ≤ limit) × IsBad bytes b)
  Finds (Good x) = IsSomeAnd held (λ bytes. (length bytes ≤ limit) × IsGood bytes x)

  pub one_found : (f g : Found B X) → Finds f → Finds g → f ≡ g
  one_found Missing Missing h k = refl
  one_found Missing Long h k = absurd (no_some _ held h k)
  one_found Missing (Bad b) h k = absurd (no_some _ held h k)
  one_found Missing (Good x) h k = absurd (no_some _ held h k)
  one_found Long Missing h k = absurd (no_some _ held k h)
  one_found Long Long h k = refl
  one_found Long (Bad b) h k = let w = both _ _ held h k in absurd (omega (arith, w.1, w.2.0))
  one_found Long (Good x) h k = let w = both _ _ held h k in absurd (omega (arith, w.1, w.2.0))
  one_found (Bad b) Missing h k = absurd (no_some _ held k h)
  one_found (Bad b) Long h k = let w = both _ _ held k h in absurd (omega (arith, w.1, w.2.0))
  one_found (Bad b) (Bad other) h k = let w = both _ _ held h k in ap Bad (one_bad w.0 b other w.1.1 w.2.1)
  one_found (Bad b) (Good x) h k = let w = both _ _ held h k in absurd (refused w.0 x b w.2.1 w.1.1)
  one_found (Good x) Missing h k = absurd (no_some _ held k h)
  one_found (Good x) Long h k = let w = both _ _ held k h in absurd (omega (arith, w.1, w.2.0))
  one_found (Good x) (Bad b) h k = let w = both _ _ held h k in absurd (refused w.0 x b w.1.1 w.2.1)
  one_found (Good x) (Good y) h k = let w = both _ _ held h k in ap Good (one_value w.0 x y w.1.1 w.2.1)
