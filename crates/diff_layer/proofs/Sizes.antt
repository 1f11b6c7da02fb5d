-- Rows by the sizes of packs.
use Rattle.std.proofs.Common.{◌≡◌, ◌≤◌, ℕ, List, length, ℤ, sym, ap, subst, ◌∙◌}
use Rattle.std.specs.List.{AllByRecursion}
use Rattle.std.proofs.lemmas.List.{length-map}
use Rattle.dom_laws.specs.Lattice.{IsElement}
use Rattle.diff_steps.specs.Packs.{Pack, size_of}
use Rattle.diff_bounds.specs.PackRows.{matrices_beside, packs_lattice}
use Rattle.pack_laws.specs.Layer.{sizes_of, diff_lattice}
use Rattle.diff_layer.proofs.Rows.{small_sizes}

module _ (sizes : List ℕ) (packs : List Pack) (same : sizes ≡ sizes_of packs) where
  pub small_in : AllByRecursion (λ pack. size_of pack ≤ 8) packs → AllByRecursion (λ n. n ≤ 8) sizes
  small_in few = subst (AllByRecursion (λ n. n ≤ 8)) (sym same) (small_sizes packs few)

  pub many_in : length sizes ≡ length packs
  many_in = ap length same ∙ length-map packs size_of

  module _ (lists : List (List ℤ)) where
    pub element_in : (row : List ℤ) → IsElement (diff_lattice packs lists) row → IsElement (matrices_beside sizes lists) row
    element_in row is = subst (λ ns. IsElement (matrices_beside ns lists) row) (sym same) (record { width = is.width; formed = is.formed })

    pub row_in : (row : List ℤ) → IsElement (diff_lattice packs lists) row → IsElement (packs_lattice sizes lists) row
    row_in row is = subst (λ ns. IsElement (packs_lattice ns lists) row) (sym same) is
