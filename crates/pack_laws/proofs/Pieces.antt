-- Rows of several packs' matrices, and the matrices in them.
use Rattle.std.proofs.Common.{◌≡◌, ℕ, ◌≤◌, List, [], ◌∷◌, length, take, drop, ℤ, refl, ap, ◌∙◌, take_at, drop_at, arith}
use Rattle.std.specs.List.{AllByRecursion}
use Rattle.cob_data.specs.declared.layout.Layout.{Layout}
use Rattle.cob_program.specs.Act.{Program}
use Rattle.dom_laws.specs.Lattice.{IsElement}
use Rattle.dom_laws.specs.Meaning.{Storage}
use Rattle.diff_bounds.specs.Matrix.{IsMatrix}
use Rattle.diff_bounds.specs.Order.{IsAtMost}
use Rattle.diff_bounds.specs.Lattice.{matrices}
use Rattle.diff_bounds.proofs.MatrixLattice.{by_places}
use Rattle.diff_bounds.proofs.Monotone.{stands_higher}
use Rattle.diff_bounds.proofs.Forms.{lower_words}
use Rattle.diff_steps.specs.Packs.{Pack, size_of, cells_in, PacksStand}
use Rattle.pack_laws.specs.Orders.{AreLowerOff}
use Rattle.diff_bounds.specs.PackRows.{words_of, matrices_in, row_of, matrices_beside}
use Rattle.diff_bounds.proofs.Lattices.{pair_is, pair_below}
use Rattle.pack_laws.specs.Agreeing.{AreMatrices}
use Rattle.pack_laws.specs.EdgeLaws.{AreLowerEach}
use Rattle.pack_laws.proofs.PacksPutRise.{matrix_is_flat, lower_of, off_of}
use Rattle.pack_laws.specs.Layer.{sizes_of, ArePacks, diff_lattice}

pub matrices_back : (packs : List Pack) (ms : List (List ℤ)) → AreMatrices packs ms → matrices_in (sizes_of packs) (row_of ms) ≡ ms
matrices_back [] [] are = refl
matrices_back [] (m ∷ ms) are = absurd are
matrices_back (pack ∷ packs) [] are = absurd are
matrices_back (pack ∷ packs) (m ∷ ms) are =
    let front = take_at m (row_of ms) (words_of (size_of pack)) are.0.1.width in
    let back = drop_at m (row_of ms) (words_of (size_of pack)) are.0.1.width in
    (λ i. front i ∷ matrices_in (sizes_of packs) (back i)) ∙ ap (λ (rest : List (List ℤ)). m ∷ rest) (matrices_back packs ms are.1)

-- ---- elements

abbrev IsRow : List Pack → List (List ℤ) → List ℤ → Type 0
IsRow packs lists row = IsElement (matrices_beside (sizes_of packs) lists) row

same_row : (packs : List Pack) (lists : List (List ℤ)) (row : List ℤ) → IsElement (diff_lattice packs lists) row → IsRow packs lists row
same_row packs lists row is = record { width = is.width; formed = is.formed }

its_row : (packs : List Pack) (lists : List (List ℤ)) (row : List ℤ) → IsRow packs lists row → IsElement (diff_lattice packs lists) row
its_row packs lists row is = record { width = is.width; formed = is.formed }

are_pieces : (packs : List Pack) (lists : List (List ℤ)) → AllByRecursion (λ pack. size_of pack ≤ 8) packs → length lists ≡ length packs
    → (row : List ℤ) → IsRow packs lists row → AreMatrices packs (matrices_in (sizes_of packs) row)
are_pieces [] lists few listed row is = tt
are_pieces (pack ∷ packs) [] few listed row is = absurd (omega (arith, listed))
are_pieces (pack ∷ packs) (ts ∷ lists) few listed row is =
    ((few.0, is.formed.0.formed), are_pieces packs lists few.1 (omega (arith, listed)) (drop (words_of (size_of pack)) row) is.formed.1)

one_is : (pack : Pack) (ts m : List ℤ) → IsMatrix (size_of pack) m → IsElement (matrices (size_of pack) ts) m
one_is pack ts m is = record { width = is.width; formed = is }

are_row : (packs : List Pack) (lists ms : List (List ℤ)) → length lists ≡ length packs → AreMatrices packs ms → IsRow packs lists (row_of ms)
are_row [] lists [] listed are = record { width = refl; formed = tt }
are_row [] lists (m ∷ ms) listed are = absurd are
are_row (pack ∷ packs) lists [] listed are = absurd are
are_row (pack ∷ packs) [] (m ∷ ms) listed are = absurd (omega (arith, listed))
are_row (pack ∷ packs) (ts ∷ lists) (m ∷ ms) listed are =
    pair_is (matrices (size_of pack) ts) (matrices_beside (sizes_of packs) lists) m (row_of ms)
    (one_is pack ts m are.0.1) (are_row packs lists ms (omega (arith, listed)) are.1)

-- ---- order

lower_off : (size : ℕ) (a b : List ℤ) → IsMatrix size a → IsAtMost a b → AreLowerOff size a b
lower_off size a b is below = off_of size a b (lower_words size a b is below)

at_most : (size : ℕ) (a b : List ℤ) → IsMatrix size a → IsMatrix size b → AreLowerOff size a b → IsAtMost a b
at_most size a b is other lower = by_places size b a is.width (lower_of size a b (matrix_is_flat size a is) (matrix_is_flat size b other) lower).words

pieces_lower : (packs : List Pack) (lists : List (List ℤ)) → length lists ≡ length packs → (a b : List ℤ) → IsRow packs lists a
    → IsRow packs lists b → (diff_lattice packs lists).Below a b → AreLowerEach packs (matrices_in (sizes_of packs) a) (matrices_in (sizes_of packs) b)
pieces_lower [] lists listed a b is other below = tt
pieces_lower (pack ∷ packs) [] listed a b is other below = absurd (omega (arith, listed))
pieces_lower (pack ∷ packs) (ts ∷ lists) listed a b is other below =
    let n = words_of (size_of pack) in (
      lower_off (size_of pack) (take n a) (take n b) is.formed.0.formed below.0,
      pieces_lower packs lists (omega (arith, listed)) (drop n a) (drop n b) is.formed.1 other.formed.1 below.1,
    )

rows_below : (packs : List Pack) (lists ms ns : List (List ℤ)) → length lists ≡ length packs → AreMatrices packs ms → AreMatrices packs ns
    → AreLowerEach packs ms ns → (diff_lattice packs lists).Below (row_of ms) (row_of ns)
rows_below [] lists [] [] listed are is lower = tt
rows_below [] lists (m ∷ ms) ns listed are is lower = absurd are
rows_below [] lists [] (n ∷ ns) listed are is lower = absurd is
rows_below (pack ∷ packs) lists [] ns listed are is lower = absurd are
rows_below (pack ∷ packs) lists (m ∷ ms) [] listed are is lower = absurd is
rows_below (pack ∷ packs) [] (m ∷ ms) (n ∷ ns) listed are is lower = absurd (omega (arith, listed))
rows_below (pack ∷ packs) (ts ∷ lists) (m ∷ ms) (n ∷ ns) listed are is lower =
    pair_below (matrices (size_of pack) ts) (matrices_beside (sizes_of packs) lists) m (row_of ms) n (row_of ns)
    (one_is pack ts m are.0.1) (one_is pack ts n is.0.1) (at_most (size_of pack) m n are.0.1 is.0.1 lower.0)
    (rows_below packs lists ms ns (omega (arith, listed)) are.1 is.1 lower.1)

-- ---- storages

pieces_stand : (l : Layout) (packs : List Pack) (lists : List (List ℤ)) → length lists ≡ length packs → (a b : List ℤ) (s : Storage)
    → IsRow packs lists a → IsRow packs lists b → (diff_lattice packs lists).Below a b
    → PacksStand l packs (matrices_in (sizes_of packs) a) s → PacksStand l packs (matrices_in (sizes_of packs) b) s
pieces_stand l [] lists listed a b s is other below stands = tt
pieces_stand l (pack ∷ packs) [] listed a b s is other below stands = absurd (omega (arith, listed))
pieces_stand l (pack ∷ packs) (ts ∷ lists) listed a b s is other below stands =
    let n = words_of (size_of pack) in (
      stands_higher (size_of pack) (take n a) (take n b) (cells_in l pack s) is.formed.0.width below.0 stands.0,
      pieces_stand l packs lists (omega (arith, listed)) (drop n a) (drop n b) s is.formed.1 other.formed.1 below.1 stands.1,
    )

-- ---- of rows in which a first arrival is taken as it is

module _ {p : Program} (packs : List Pack) (lists : List (List ℤ)) (is_packs : ArePacks p packs lists) where
  pub are_matrices : (row : List ℤ) → IsElement (diff_lattice packs lists) row → AreMatrices packs (matrices_in (sizes_of packs) row)
  are_matrices row is = are_pieces packs lists is_packs.few is_packs.listed row (same_row packs lists row is)

  pub row_is_element : (ms : List (List ℤ)) → AreMatrices packs ms → IsElement (diff_lattice packs lists) (row_of ms)
  row_is_element ms are = its_row packs lists (row_of ms) (are_row packs lists ms is_packs.listed are)

  pub are_lower : (a b : List ℤ) → IsElement (diff_lattice packs lists) a → IsElement (diff_lattice packs lists) b
      → (diff_lattice packs lists).Below a b → AreLowerEach packs (matrices_in (sizes_of packs) a) (matrices_in (sizes_of packs) b)
  are_lower a b is other below = pieces_lower packs lists is_packs.listed a b (same_row packs lists a is) (same_row packs lists b other) below

  pub row_is_below : (ms ns : List (List ℤ)) → AreMatrices packs ms → AreMatrices packs ns → AreLowerEach packs ms ns
      → (diff_lattice packs lists).Below (row_of ms) (row_of ns)
  row_is_below ms ns are is lower = rows_below packs lists ms ns is_packs.listed are is lower

  pub all_stand_above : (a b : List ℤ) (s : Storage) → IsElement (diff_lattice packs lists) a → IsElement (diff_lattice packs lists) b
      → (diff_lattice packs lists).Below a b → PacksStand p.layout packs (matrices_in (sizes_of packs) a) s → PacksStand p.layout packs (matrices_in (sizes_of packs) b) s
  all_stand_above a b s is other below stands =
      pieces_stand p.layout packs lists is_packs.listed a b s (same_row packs lists a is) (same_row packs lists b other) below stands
