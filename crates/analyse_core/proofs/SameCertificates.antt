-- Certificates of equal sizes and packs, of assignments that are the same at each node, are one.
use Rattle.std.proofs.Common.{◌≡◌, ℕ, zero, suc, ◌+◌, ◌≤◌, ◌<◌, List, ◌∷◌, map, ℤ, refl, ap, ◌∙◌, arith}
use Rattle.std.specs.List.{range_with_len}
use Rattle.interval_domain.specs.Elements.{Element}
use Rattle.cert_text.specs.View.{Place}
use Rattle.cert_text.specs.MatrixClaims.{sizes_of}
use Rattle.analyse_core.specs.Certificates.{certificate_for, place_for}

module _ (sizes : List ℕ) (x : ℕ → Element) (bounds others : ℕ → List ℤ) where
  same_places : (first count : ℕ) → ((node : ℕ) → first ≤ node → node < first + count → bounds node ≡ others node) →
      map (λ node. place_for sizes (x node) (bounds node)) (range_with_len first count)
      ≡ map (λ node. place_for sizes (x node) (others node)) (range_with_len first count)
  same_places first zero same = refl
  same_places first (suc count) same =
      ap (λ row. place_for sizes (x first) row ∷ map (λ node. place_for sizes (x node) (bounds node)) (range_with_len (first + 1) count))
      (same first (omega arith) (omega arith))
      ∙ ap (λ ps. place_for sizes (x first) (others first) ∷ ps)
      (same_places (first + 1) count (λ node l h. same node (omega (arith, l)) (omega (arith, h))))

pub same_certificate : (x : ℕ → Element) (bounds others : ℕ → List ℤ) (a b : ℕ) (ps qs : List (List ℕ)) (m n : ℕ) →
    a ≡ b → ps ≡ qs → m ≡ n → ((node : ℕ) → 1 ≤ node → node ≤ n → bounds node ≡ others node) →
    certificate_for a ps m x bounds ≡ certificate_for b qs n x others
same_certificate x bounds others a b ps qs m n cells packs nodes same =
    (λ i. certificate_for (cells i) (packs i) (nodes i) x bounds)
    ∙ ap (λ (places : List Place). record { cells = b; packs = qs; nodes = places })
    (same_places (sizes_of qs) x bounds others 1 n (λ node l h. same node l (omega (arith, h))))
