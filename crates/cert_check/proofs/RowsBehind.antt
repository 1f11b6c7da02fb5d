-- Rows of one width that stand one behind the other.
use Rattle.std.proofs.Common.{◌≡◌, ℕ, zero, suc, ◌+◌, ◌*◌, ◌<◌, ◌≤◌, List, [], ◌∷◌, ◌++◌, length, get_or, take, drop, take_at, drop_at, refl, sym, ap, ◌∙◌, arith}
use Rattle.std.specs.List.{flat_map}
use Rattle.std.proofs.Math.Nat.{suc-mul}
use Rattle.std.proofs.lemmas.List.{drop-drop, length-append}
use Rattle.diff_bounds.specs.Lattice.{matrix_of, bottom_word}
use Rattle.cert_text.specs.declared.cert.Bound.{Bound}
use Rattle.cert_text.specs.View.{Place, NotReached, Holds}
use Rattle.diff_bounds.specs.PackRows.{row_of, width_of}
use Rattle.cert_text.specs.MatrixClaims.{claimed_matrix, claimed_row, claimed_word, least_matrices, matrices_from}
use Rattle.cert_text.proofs.MatrixFilling.{matrix_width}

module _ {X A : Type 0} (f : X → List A) (width : ℕ) (wide : (x : X) → length (f x) ≡ width) where
  -- the row at a place lies within all rows
  pub row_within : (xs : List X) (k : ℕ) → k < length xs → k * width + width ≤ length (flat_map f xs)
  row_within [] k h = absurd (omega (arith, h))
  row_within (x ∷ xs) zero h = omega (arith, wide x, length-append (f x) (flat_map f xs))
  row_within (x ∷ xs) (suc k) h =
      let rest = row_within xs k (omega (arith, h)) in
      omega (arith, rest, suc-mul k width, wide x, length-append (f x) (flat_map f xs))

  -- the row at the place is that of the element at the place
  pub row_there : (xs : List X) (k : ℕ) (d : X) → k < length xs → take width (drop (k * width) (flat_map f xs)) ≡ f (get_or xs k d)
  row_there [] k d h = absurd (omega (arith, h))
  row_there (x ∷ xs) zero d h =
      let none : 0 * width ≡ 0 = omega arith in
      ap (λ n. take width (drop n (f x ++ flat_map f xs))) none ∙ take_at (f x) (flat_map f xs) width (wide x)
  row_there (x ∷ xs) (suc k) d h =
      let next : suc k * width ≡ width + k * width = omega (arith, suc-mul k width) in
      let behind = drop_at (f x) (flat_map f xs) width (wide x) in
      ap (λ n. take width (drop n (f x ++ flat_map f xs))) next
      ∙ ap (take width) (sym (drop-drop (k * width) width (f x ++ flat_map f xs)))
      ∙ ap (λ ys. take width (drop (k * width) ys)) behind
      ∙ row_there xs k d (omega (arith, h))

-- ---- the width of what is claimed

least_width : (ns : List ℕ) → length (row_of (least_matrices ns)) ≡ width_of ns
least_width [] = refl
least_width (n ∷ ns) =
    let first = matrix_width n (bottom_word n) in
    let rest = least_width ns in
    omega (arith, first, rest, length-append (matrix_of n (bottom_word n)) (row_of (least_matrices ns)))

bounds_width : (pack : ℕ) (ns : List ℕ) (bounds : List Bound) → length (row_of (matrices_from pack ns bounds)) ≡ width_of ns
bounds_width pack [] bounds = refl
bounds_width pack (n ∷ ns) bounds =
    let first = matrix_width n (claimed_word bounds pack n) in
    let rest = bounds_width (suc pack) ns bounds in
    omega (arith, first, rest, length-append (claimed_matrix bounds pack n) (row_of (matrices_from (suc pack) ns bounds)))

pub claimed_width : (ns : List ℕ) (place : Place) → length (claimed_row ns place) ≡ width_of ns
claimed_width ns NotReached = least_width ns
claimed_width ns (Holds claims bounds) = bounds_width 1 ns bounds
