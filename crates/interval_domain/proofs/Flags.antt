-- Rows by whether they are reached.
use Rattle.std.proofs.Common.{◌≡◌, ◌/◌, List, length, Bool, true, false, not, IsTrue, ◌↔◌, cond, Some, None, ℤ, refl, sym, ap, subst, ◌∙◌, arith}
use Rattle.interval_domain.specs.Elements.{Element, CellsBelow, ElementBelow, joined, joined_element, widened, widened_element, CellsWithin, ElementWithin}
use Rattle.interval_domain.specs.Rows.{cells_of, row_of, row_from, is_reached, element_of, IsReached, IsSaid, RowBelow, joined_row, widened_row}
use Rattle.interval_domain.proofs.Places.{reached_length}

of_reached : (row : List ℤ) → is_reached row ≡ true → element_of row ≡ Some (cells_of row)
of_reached row h = ap (λ (b : Bool). cond b (Some (cells_of row)) None) h

of_unreached : (row : List ℤ) → is_reached row ≡ false → element_of row ≡ None
of_unreached row h = ap (λ (b : Bool). cond b (Some (cells_of row)) None) h

pub said_reached : (row : List ℤ) → IsSaid row → is_reached row ≡ true → IsReached row
said_reached row said h = said ∙ ap (row_from (length row)) (of_reached row h)

-- two words for each cell, and one
pub cell_count_is : (row : List ℤ) → IsReached row → length row / 2 ≡ length (cells_of row)
cell_count_is row h = let e = reached_length row h in omega (arith, e)

pub same_count : (a b : List ℤ) → IsReached a → IsReached b → length a ≡ length b → length (cells_of a) ≡ length (cells_of b)
same_count a b h k e = let f = reached_length a h in let g = reached_length b k in omega (arith, e, f, g)

-- ---- the order
never : false ≡ true → ⊥
never e = cc

-- what isn't so is false where it is so
pub turned : (P : Type 0) (r : Bool) → (IsTrue r ↔ P) → (not r ≡ false) ↔ P
turned P true h = (λ _. h.0 refl, λ _. refl)
turned P false h = (λ e. absurd (never (sym e)), λ p. absurd (never (h.1 p)))

pub leq_unreached : (a b : List ℤ) → is_reached a ≡ false → IsTrue true ↔ RowBelow a b
leq_unreached a b h = (λ _. subst (λ (x : Element). ElementBelow x (element_of b)) (sym (of_unreached a h)) tt, λ _. refl)

pub leq_no_more : (a b : List ℤ) → is_reached a ≡ true → is_reached b ≡ false → IsTrue false ↔ RowBelow a b
leq_no_more a b h k = (λ e. absurd (never e), λ below. absurd (subst (λ (y : Element). ElementBelow (Some (cells_of a)) y) (of_unreached b k) (subst (λ (x : Element). ElementBelow x (element_of b)) (of_reached a h) below)))

pub leq_reached : (a b : List ℤ) (r : Bool) → is_reached a ≡ true → is_reached b ≡ true → (IsTrue r ↔ CellsBelow (cells_of a) (cells_of b)) → IsTrue r ↔ RowBelow a b
leq_reached a b r h k cells = (
  λ e. subst (λ (x : Element). ElementBelow x (element_of b)) (sym (of_reached a h)) (subst (λ (y : Element). ElementBelow (Some (cells_of a)) y) (sym (of_reached b k)) (cells.0 e)),
  λ below. cells.1 (subst (λ (y : Element). ElementBelow (Some (cells_of a)) y) (of_reached b k) (subst (λ (x : Element). ElementBelow x (element_of b)) (of_reached a h) below)),
)

-- ---- joins
joined_with_nothing : (x : Element) → joined_element x None ≡ x
joined_with_nothing None = refl
joined_with_nothing (Some cs) = refl

pub join_stays : (a b : List ℤ) → IsSaid a → is_reached b ≡ false → a ≡ joined_row a b
join_stays a b said h =
    said
    ∙ ap (row_from (length a)) (sym (joined_with_nothing (element_of a)))
    ∙ ap (λ (y : Element). row_from (length a) (joined_element (element_of a) y)) (sym (of_unreached b h))

pub join_arrives : (a b : List ℤ) → IsSaid b → length a ≡ length b → is_reached a ≡ false → b ≡ joined_row a b
join_arrives a b said e h =
    said
    ∙ ap (λ n. row_from n (element_of b)) (sym e)
    ∙ ap (λ (x : Element). row_from (length a) (joined_element x (element_of b))) (sym (of_unreached a h))

pub join_reached : (a b : List ℤ) → is_reached a ≡ true → is_reached b ≡ true → row_of (joined (cells_of a) (cells_of b)) ≡ joined_row a b
join_reached a b h k =
    ap (λ (y : Element). row_from (length a) (joined_element (Some (cells_of a)) y)) (sym (of_reached b k))
    ∙ ap (λ (x : Element). row_from (length a) (joined_element x (element_of b))) (sym (of_reached a h))

-- ---- widening
widened_with_nothing : (tss : List (List ℤ)) (x : Element) → widened_element tss x None ≡ x
widened_with_nothing tss None = refl
widened_with_nothing tss (Some cs) = refl

pub widen_stays : (tss : List (List ℤ)) (a b : List ℤ) → IsSaid a → is_reached b ≡ false → a ≡ widened_row tss a b
widen_stays tss a b said h =
    said
    ∙ ap (row_from (length a)) (sym (widened_with_nothing tss (element_of a)))
    ∙ ap (λ (y : Element). row_from (length a) (widened_element tss (element_of a) y)) (sym (of_unreached b h))

pub widen_arrives : (tss : List (List ℤ)) (a b : List ℤ) → IsSaid b → length a ≡ length b → is_reached a ≡ false → b ≡ widened_row tss a b
widen_arrives tss a b said e h =
    said
    ∙ ap (λ n. row_from n (element_of b)) (sym e)
    ∙ ap (λ (x : Element). row_from (length a) (widened_element tss x (element_of b))) (sym (of_unreached a h))

pub widen_reached : (tss : List (List ℤ)) (a b : List ℤ) → is_reached a ≡ true → is_reached b ≡ true → row_of (widened tss (cells_of a) (cells_of b)) ≡ widened_row tss a b
widen_reached tss a b h k =
    ap (λ (y : Element). row_from (length a) (widened_element tss (Some (cells_of a)) y)) (sym (of_reached b k))
    ∙ ap (λ (x : Element). row_from (length a) (widened_element tss x (element_of b))) (sym (of_reached a h))

pub within_reached : (tss : List (List ℤ)) (b : List ℤ) → is_reached b ≡ true → ElementWithin tss (element_of b) → CellsWithin tss (cells_of b)
within_reached tss b h within = subst (λ (y : Element). ElementWithin tss y) (of_reached b h) within
