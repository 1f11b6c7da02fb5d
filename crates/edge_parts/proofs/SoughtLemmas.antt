-- A place sought in lists that are put together.
use Rattle.std.proofs.Common.{◌≡◌, ℕ, zero, suc, ◌+◌, ◌-◌, ◌<◌, ◌==◌, Bool, true, false, if◌then◌else◌, List, [], ◌∷◌, ◌++◌, length, refl, ap, ◌∙◌, arith}
use Rattle.std.specs.Prelude.{slice_get}
use Rattle.std.specs.ControlFlow.{break_value}
use Rattle.std.specs.declared.ops.ControlFlow.{ControlFlow}
use Rattle.std.specs.declared.ops.ControlFlow.TheVariants.{Continue, Break}
use Rattle.std.proofs.lemmas.Bool.Decides.{nat_tests}
use Rattle.edge_parts.specs.Handing.{sought}

pub found_in_front : {A : Type 0} (xs ys : List A) (k : ℕ) (x : A) → Break x ≡ sought xs k →
    Break x ≡ sought (xs ++ ys) k
found_in_front [] ys k x e = absurd cc
found_in_front (a ∷ xs) ys k x e = go (k == 0) (found_in_front xs ys (k - 1) x) e
  where
    go : (first : Bool) → (Break x ≡ sought xs (k - 1) → Break x ≡ sought (xs ++ ys) (k - 1)) →
        Break x ≡ (if first then Break a else sought xs (k - 1)) →
        Break x ≡ (if first then Break a else sought (xs ++ ys) (k - 1))
    go true rest h = h
    go false rest h = rest h

pub sought_behind : {A : Type 0} (xs ys : List A) (k m : ℕ) (r : ControlFlow A ℕ) → Continue m ≡ sought xs k →
    r ≡ sought ys m → r ≡ sought (xs ++ ys) k
sought_behind [] ys k m r e h = let same : m ≡ k = cc in h ∙ ap (λ n. sought ys n) same
sought_behind (a ∷ xs) ys k m r e h = go (k == 0) (λ b. sought_behind xs ys (k - 1) m r b h) e
  where
    go : (first : Bool) → (Continue m ≡ sought xs (k - 1) → r ≡ sought (xs ++ ys) (k - 1)) →
        Continue m ≡ (if first then Break a else sought xs (k - 1)) →
        r ≡ (if first then Break a else sought (xs ++ ys) (k - 1))
    go true rest b = absurd cc
    go false rest b = rest b

-- ---- places

pub at_place : {A : Type 0} (xs : List A) (k : ℕ) → break_value (sought xs k) ≡ slice_get xs k
at_place [] k = refl
at_place (x ∷ xs) zero = refl
at_place (x ∷ xs) (suc k) = go (suc k == 0) (suc k - 1) (grind (arith, nat_tests)) (omega arith) (at_place xs k)
  where
    go : (first : Bool) (n : ℕ) → first ≡ false → n ≡ k → break_value (sought xs k) ≡ slice_get xs k →
        break_value (if first then Break x else sought xs n) ≡ slice_get xs k
    go true n e same h = absurd cc
    go false n e same h = ap (λ m. break_value (sought xs m)) same ∙ h

pub length_before : {A : Type 0} (xs : List A) (k m : ℕ) → Continue m ≡ sought xs k → length xs + m ≡ k
length_before [] k m e = let same : m ≡ k = cc in omega arith
length_before (x ∷ xs) k m e = go (k == 0) refl (length_before xs (k - 1) m) e
  where
    go : (first : Bool) → (k == 0) ≡ first → (Continue m ≡ sought xs (k - 1) → length xs + m ≡ k - 1) →
        Continue m ≡ (if first then Break x else sought xs (k - 1)) → length (x ∷ xs) + m ≡ k
    go true at rest h = absurd cc
    go false at rest h =
        let behind : length xs + m ≡ k - 1 = rest h in
        let some : 0 < k = grind (arith, nat_tests) in
        omega arith

pub within : {A : Type 0} (xs : List A) (k : ℕ) (y : A) → Break y ≡ sought xs k → k < length xs
within [] k y e = absurd cc
within (x ∷ xs) k y e = go (k == 0) refl (within xs (k - 1) y) e
  where
    go : (first : Bool) → (k == 0) ≡ first → (Break y ≡ sought xs (k - 1) → k - 1 < length xs) →
        Break y ≡ (if first then Break x else sought xs (k - 1)) → k < length (x ∷ xs)
    go true at rest h = let none : k ≡ 0 = grind (arith, nat_tests) in omega arith
    go false at rest h = let behind : k - 1 < length xs = rest h in omega arith
