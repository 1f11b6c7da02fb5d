-- Rows of words against the matrices in them.
use Rattle.std.proofs.Common.{◌≡◌, ◌≤◌, ℕ, ◌+◌, ◌*◌, ◌-◌, List, [], ◌∷◌, ◌++◌, length, take, drop, ℤ, Option, Some, None, refl, sym, ap, ◌∙◌, arith}
use Rattle.std.specs.List.{AllByRecursion}
use Rattle.std.specs.Option.{option_map_or}
use Rattle.std.proofs.Math.Nat.{mul-le-mul_left}
use Rattle.std.proofs.lemmas.List.{take-append-drop, length-drop, length-map}
use Rattle.cob_program.specs.Act.{Act, Program}
use Rattle.cob_runs.specs.Effects.{act_at}
use Rattle.cob_graph.specs.declared.graph.Edge.{Edge}
use Rattle.cob_graph.specs.declared.graph.Graph.{Graph}
use Rattle.interval_domain.specs.Known.{Known}
use Rattle.interval_domain.specs.Elements.{Element}
use Rattle.cob_graph.specs.declared.homes.Home.{Home}
use Rattle.cell_laws.specs.Layer.{left}
use Rattle.diff_bounds.specs.declared.Pack as declared
use Rattle.diff_bounds.specs.Lattice.{matrices}
use Rattle.diff_steps.specs.Packs.{Pack, size_of}
use Rattle.diff_steps.specs.Edges.{bottoms, or_bottoms, walked_packs, post_packs}
use Rattle.diff_bounds.specs.PackRows.{words_of, width_of, matrices_in, row_of, matrices_beside}
use Rattle.pack_laws.specs.Layer.{sizes_of, edge_packs, packs_post}
use Rattle.pack_laws.specs.Packs.{home_at, pack_in, packs_in}
use Rattle.diff_layer.specs.Planning.{sizes_in}
use Rattle.diff_layer.specs.Edges.{edge_walked, packs_walked}

no_words : (row : List ℤ) → length row ≡ 0 → [] ≡ row
no_words [] e = refl
no_words (x ∷ row) e = absurd (omega (arith, e))

-- a row is that of its matrices
pub row_back : (sizes : List ℕ) (row : List ℤ) → length row ≡ width_of sizes → row_of (matrices_in sizes row) ≡ row
row_back [] row e = no_words row e
row_back (n ∷ sizes) row e =
    let left_ = length-drop (words_of n) row in
    ap (λ rest. take (words_of n) row ++ rest) (row_back sizes (drop (words_of n) row) (omega (arith, e, left_)))
    ∙ take-append-drop (words_of n) row

pub width_is : (sizes : List ℕ) (lists : List (List ℤ)) → length lists ≡ length sizes → (matrices_beside sizes lists).width ≡ width_of sizes
width_is [] lists e = refl
width_is (n ∷ sizes) [] e = absurd (omega (arith, e))
width_is (n ∷ sizes) (ts ∷ lists) e = ap (λ k. words_of n + k) (width_is sizes lists (omega (arith, e)))

-- the least row is that of no run
pub least_is : (packs : List Pack) (lists : List (List ℤ)) → length lists ≡ length packs → (matrices_beside (sizes_of packs) lists).least ≡ row_of (bottoms packs)
least_is [] lists e = refl
least_is (pack ∷ packs) [] e = absurd (omega (arith, e))
least_is (pack ∷ packs) (ts ∷ lists) e = ap (λ row. (matrices (size_of pack) ts).least ++ row) (least_is packs lists (omega (arith, e)))

-- a row has at most 81 words for each pack
pub few_words : (sizes : List ℕ) → AllByRecursion (λ n. n ≤ 8) sizes → width_of sizes ≤ 81 * length sizes
few_words [] few = omega arith
few_words (n ∷ sizes) few =
    let here = few_here n few.0 in
    let rest = few_words sizes few.1 in
    omega (arith, here, rest)
  where
    few_here : (n : ℕ) → n ≤ 8 → words_of n ≤ 81
    few_here n few =
        let most : n + 1 ≤ 9 = omega (arith, few) in
        let square = mul-le-mul_left (n + 1) most in
        omega (arith, square, few)

-- ---- sizes of packs by their cells' numbers

pub same_sizes : (homes : List Home) (packs : List declared.Pack) → sizes_in packs ≡ sizes_of (packs_in homes packs)
same_sizes homes [] = refl
same_sizes homes (pack ∷ packs) =
    ap (λ n. n ∷ sizes_in packs) (sym (length-map pack.cells.items (home_at homes)))
    ∙ ap (λ ns. size_of (pack_in homes pack.cells.items) ∷ ns) (same_sizes homes packs)

pub small_sizes : (packs : List Pack) → AllByRecursion (λ pack. size_of pack ≤ 8) packs → AllByRecursion (λ n. n ≤ 8) (sizes_of packs)
small_sizes [] few = tt
small_sizes (pack ∷ packs) few = (few.0, small_sizes packs few.1)

-- ---- what an edge makes of matrices, by whether a run comes

module _ (p : Program) (g : Graph) (packs : List Pack) (x : Edge) (ms : List (List ℤ)) where
  edge_posts : (cells : List Known) → edge_packs p g packs x cells ms ≡ or_bottoms packs (edge_walked p g packs x ms cells)
  edge_posts cells = by_act (act_at p (left g x))
    where
      by_act : (o : Option Act) → option_map_or (λ a. post_packs p packs (left g x) a x.action (Some cells) ms) o ms
          ≡ or_bottoms packs (option_map_or (λ a. walked_packs p packs (left g x) a x.action (Some cells) ms) o (Some ms))
      by_act None = refl
      by_act (Some a) = refl

  posts_by : (element : Element) → packs_post p g packs x element ms ≡ or_bottoms packs (packs_walked p g packs x element ms)
  posts_by None = refl
  posts_by (Some cells) = edge_posts cells

  pub post_passed : (element : Element) (cs : List (List ℤ)) → packs_walked p g packs x element ms ≡ Some cs → row_of (packs_post p g packs x element ms) ≡ row_of cs
  post_passed element cs e = ap row_of (posts_by element ∙ ap (or_bottoms packs) e)

  pub post_stopped : (element : Element) → packs_walked p g packs x element ms ≡ None → row_of (packs_post p g packs x element ms) ≡ row_of (bottoms packs)
  post_stopped element e = ap row_of (posts_by element ∙ ap (or_bottoms packs) e)
