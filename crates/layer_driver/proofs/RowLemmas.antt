-- Rows of matrices by the sizes of packs, and the empty lists beside them.
use Rattle.std.proofs.Common.{◌≡◌, ◌<◌, ◌≤◌, ℕ, ◌+◌, List, [], ◌∷◌, ◌++◌, length, take, drop, get_or, ℤ, refl, sym, ap, subst, ◌∙◌, arith}
use Rattle.std.specs.Prelude.{Vec}
use Rattle.std.specs.List.{AllByRecursion}
use Rattle.std.specs.declared.alloc.Global.{Global}
use Rattle.std.proofs.lemmas.List.{length-map, length-append, map-append, take_at, take_more, drop_at}
use Rattle.dom_laws.specs.Lattice.{IsElement}
use Rattle.diff_bounds.specs.declared.Pack.{Pack}
use Rattle.diff_bounds.specs.Matrix.{IsMatrix}
use Rattle.diff_bounds.specs.Widening.{AreThresholds}
use Rattle.diff_bounds.specs.PackRows.{words_of, width_of, lists_of}
use Rattle.cert_text.specs.MatrixClaims.{cells_in, sizes_of}
use Rattle.layer_driver.specs.Rows.{no_thresholds, rows_for}

-- ---- a matrix, and the others behind it

module _ (n : ℕ) (ns : List ℕ) where
  module _ (row : List ℤ) (is : IsElement (rows_for (n ∷ ns)) row) (words : ℕ) (many : words ≡ words_of n) where
    pub first_matrix : (m : List ℤ) → m ≡ take words row → IsMatrix n m
    first_matrix m e = subst (IsMatrix n) (sym (e ∙ ap (λ k. take k row) many)) is.formed.0.formed

    pub others_element : (rest : List ℤ) → rest ≡ drop words row → IsElement (rows_for ns) rest
    others_element rest e =
        subst (IsElement (rows_for ns)) (sym (e ∙ ap (λ k. drop k row) many))
        (record { width = is.formed.1.width; formed = is.formed.1.formed })

  pub joined_element : (m rest : List ℤ) → IsMatrix n m → IsElement (rows_for ns) rest → IsElement (rows_for (n ∷ ns)) (m ++ rest)
  joined_element m rest first others = record {
    width = length-append m rest ∙ (λ i. first.width i + others.width i);
    formed = (
      subst (IsElement _) (sym (take_at m rest (words_of n) first.width)) (record { width = first.width; formed = first }),
      subst (IsElement _) (sym (drop_at m rest (words_of n) first.width)) (record { width = others.width; formed = others.formed }),
    );
  }

-- ---- no thresholds

pub width_for : (sizes : List ℕ) → (rows_for sizes).width ≡ width_of sizes
width_for [] = refl
width_for (n ∷ sizes) = ap (λ k. words_of n + k) (width_for sizes)

none_are_thresholds : AreThresholds []
none_are_thresholds = record { low = λ k h. absurd (omega (arith, h)); high = λ k h. absurd (omega (arith, h)) }

pub are_thresholds : (sizes : List ℕ) → AllByRecursion AreThresholds (no_thresholds sizes)
are_thresholds [] = tt
are_thresholds (n ∷ sizes) = (none_are_thresholds, are_thresholds sizes)

pub list_pushed : (packs : List Pack) (i : ℕ) (pack : Pack) (new old : List (Vec ℤ Global)) (list : Vec ℤ Global) → i < length packs →
    pack ≡ get_or packs i pack → new ≡ old ++ list ∷ [] → list.items ≡ [] → lists_of old ≡ no_thresholds (sizes_of (cells_in (take i packs))) →
    lists_of new ≡ no_thresholds (sizes_of (cells_in (take (i + 1) packs)))
list_pushed packs i pack new old list within is grown empty done =
    ap lists_of grown
    ∙ map-append (λ (x : Vec ℤ Global). x.items) old (list ∷ [])
    ∙ (λ k. done k ++ empty k ∷ [])
    ∙ sym (map-append (λ (n : ℕ). []) (sizes_of (cells_in (take i packs))) (length pack.cells.items ∷ []))
    ∙ ap no_thresholds (sym (map-append length (cells_in (take i packs)) (pack.cells.items ∷ [])))
    ∙ ap (λ ns. no_thresholds (sizes_of ns)) (sym (map-append (λ (x : Pack). x.cells.items) (take i packs) (pack ∷ [])))
    ∙ ap (λ ps. no_thresholds (sizes_of (cells_in ps))) (ap (λ x. take i packs ++ x ∷ []) is ∙ sym (take_more packs i pack within))

pub are_short : (sizes : List ℕ) (lists : List (Vec ℤ Global)) → lists_of lists ≡ no_thresholds sizes → AllByRecursion (λ list. length list.items ≤ 2048) lists
are_short sizes [] e = tt
are_short [] (list ∷ lists) e = absurd (cc e)
are_short (n ∷ sizes) (list ∷ lists) e =
    let first : list.items ≡ [] = cc e in
    let rest : lists_of lists ≡ no_thresholds sizes = cc e in
    let count = ap length first in
    (omega (arith, count), are_short sizes lists rest)

pub listed : (packs : List Pack) (lists : List (Vec ℤ Global)) → lists_of lists ≡ no_thresholds (sizes_of (cells_in packs)) →
    length lists ≡ length packs
listed packs lists e =
    sym (length-map lists (λ list. list.items))
    ∙ ap length e
    ∙ length-map (sizes_of (cells_in packs)) (λ n. [])
    ∙ length-map (cells_in packs) length
    ∙ length-map packs (λ (pack : Pack). pack.cells.items)
