-- What is found from one number on, one behind the other: fronts and backs.
use Rattle.std.proofs.Common.{◌≡◌, ℕ, suc, ◌+◌, List, [], ◌∷◌, ◌++◌, length, Option, Some, refl, ap, subst, ◌∙◌, arith, append_assoc, length-append}
use Rattle.std.specs.Prelude.{slice_get}
use Rattle.cob_graph.specs.Nodes.{Noded}
use Rattle.cob_graph.specs.Lookup.{node_at}

abbrev pub Runs : {A : Type 0} → (ℕ → Option A) → ℕ → List A → Type 0
Runs get at [] = Unit {0}
Runs get at (x ∷ xs) = (get at ≡ Some x) × Runs get (at + 1) xs

module _ {A : Type 0} (get : ℕ → Option A) where
  pub moved : (m n : ℕ) (xs : List A) → m ≡ n → Runs get m xs → Runs get n xs
  moved m n xs e h = subst (λ (i : ℕ). Runs get i xs) e h

  pub front : (at : ℕ) (xs ys : List A) → Runs get at (xs ++ ys) → Runs get at xs
  front at [] ys h = tt
  front at (x ∷ xs) ys h = (h.0, front (at + 1) xs ys h.1)

  pub back : (at size : ℕ) (xs ys : List A) → length xs ≡ size → Runs get at (xs ++ ys) → Runs get (at + size) ys
  back at size [] ys e h = moved at (at + size) ys (omega (arith, e)) h
  back at size (x ∷ xs) ys e h = moved (at + 1 + length xs) (at + size) ys (omega (arith, e))
      (back (at + 1) (length xs) xs ys refl h.1)

  pub right : (at : ℕ) (xs ys zs : List A) → Runs get at (xs ++ ys ++ zs) → Runs get at (xs ++ (ys ++ zs))
  right at xs ys zs h = subst (λ (l : List A). Runs get at l) (append_assoc xs ys zs) h

at_seam : {A : Type 0} (xs ys : List A) (y : A) → slice_get (xs ++ y ∷ ys) (length xs) ≡ Some y
at_seam [] ys y = refl
at_seam (x ∷ xs) ys y = at_seam xs ys y

-- a list's own elements
pub behind : {A : Type 0} (xs ys : List A) (at : ℕ) → at ≡ length xs → Runs (slice_get (xs ++ ys)) at ys
behind xs [] at e = tt
behind xs (y ∷ ys) at e = (
  ap (slice_get (xs ++ y ∷ ys)) e ∙ at_seam xs ys y,
  subst (λ l. Runs (slice_get l) (at + 1) ys) (append_assoc xs (y ∷ []) ys)
      (behind (xs ++ y ∷ []) ys (at + 1) (omega (arith, e, length-append xs (y ∷ [])))),
)

pub of_nodes : (all ns : List Noded) (at : ℕ) → Runs (slice_get all) at ns → Runs (node_at all) (at + 1) ns
of_nodes all [] at h = tt
of_nodes all (n ∷ ns) at h =
    let same : at + 1 ≡ suc at = omega arith in
    (ap (node_at all) same ∙ h.0, of_nodes all ns (at + 1) h.1)

pub whole : (ns : List Noded) → Runs (node_at ns) 1 ns
whole ns = moved (node_at ns) (0 + 1) 1 ns (omega arith) (of_nodes ns ns 0 (behind [] ns 0 refl))
