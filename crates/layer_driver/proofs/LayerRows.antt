-- The rows of the layer over packs.
use Rattle.std.proofs.Common.{◌≡◌, ◌≤◌, ℕ, List, [], ◌∷◌, length, ℤ, refl, sym, ap, subst, ◌∙◌}
use Rattle.std.specs.List.{AllByRecursion}
use Rattle.std.proofs.lemmas.List.{length-map}
use Rattle.cob_program.specs.Act.{Program}
use Rattle.cob_graph.specs.declared.homes.Home.{Home}
use Rattle.cob_graph.specs.Homes.{homes_of}
use Rattle.dom_laws.specs.Lattice.{IsElement}
use Rattle.diff_bounds.specs.declared.Pack.{Pack}
use Rattle.diff_bounds.specs.PackRows.{packs_lattice}
use Rattle.cert_text.specs.MatrixClaims.{cells_in, sizes_of}
use Rattle.pack_laws.specs.Layer as layer
use Rattle.pack_laws.specs.Layer.{diff_lattice}
use Rattle.pack_laws.specs.Packs.{home_at, pack_in, packs_in, packs_of, ArePacksOfCells}
use Rattle.layer_driver.specs.Rows.{no_thresholds, rows_of_packs}

sizes_same : (homes : List Home) (packs : List Pack) → sizes_of (cells_in packs) ≡ layer.sizes_of (packs_in homes packs)
sizes_same homes [] = refl
sizes_same homes (pack ∷ packs) =
    ap (λ n. n ∷ sizes_of (cells_in packs)) (sym (length-map pack.cells.items (home_at homes)))
    ∙ ap (λ ns. length (pack_in homes pack.cells.items) ∷ ns) (sizes_same homes packs)

module _ (p : Program) (packs : List Pack) (lists : List (List ℤ)) (none : lists ≡ no_thresholds (sizes_of (cells_in packs))) where
  same_lattice : rows_of_packs packs ≡ diff_lattice (packs_of p packs) lists
  same_lattice =
      ap (λ ls. packs_lattice (sizes_of (cells_in packs)) ls) (sym none)
      ∙ ap (λ ns. packs_lattice ns lists) (sizes_same (homes_of p) packs)

  pub layer_element : (row : List ℤ) → IsElement (rows_of_packs packs) row → IsElement (diff_lattice (packs_of p packs) lists) row
  layer_element row is = subst (λ l. IsElement l row) same_lattice is

  pub layer_width : (width : ℕ) → width ≡ (diff_lattice (packs_of p packs) lists).width → width ≡ (rows_of_packs packs).width
  layer_width width e = e ∙ sym (ap (λ l. l.width) same_lattice)

pub are_small : (cells : ℕ) (packs : List Pack) → ArePacksOfCells cells packs → AllByRecursion (λ n. n ≤ 8) (sizes_of (cells_in packs))
are_small cells [] are = tt
are_small cells (pack ∷ packs) are = (are.0.few, are_small cells packs are.1)
