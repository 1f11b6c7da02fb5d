-- Rows as code takes them apart: the first matrix, and those behind it.
use Rattle.std.proofs.Common.{◌≡◌, ℕ, ◌+◌, ◌-◌, ◌*◌, ◌≤◌, Bool, true, false, List, [], ◌∷◌, ◌++◌, length, take, drop, get_or, ℤ, sym, ap, subst, ◌∙◌, take_all, length-drop, arith}
use Rattle.std.specs.Prelude.{Vec, IsTrue, ◌↔◌}
use Rattle.std.proofs.lemmas.Nat.{mul-le}
use Rattle.std.specs.declared.alloc.Global.{Global}
use Rattle.std.specs.List.{AllByRecursion}
use Rattle.dom_laws.specs.Lattice.{IsElement}
use Rattle.diff_bounds.specs.Matrix.{IsMatrix}
use Rattle.diff_bounds.specs.Order.{IsAtMost}
use Rattle.diff_bounds.specs.Lattice.{matrix_of, bottom_word, joined, widened}
use Rattle.diff_bounds.specs.PackRows.{words_of, matrices_beside, lists_of}

-- behind the first element
behind : {A : Type 0} (x : A) (xs : List A) → take (length (x ∷ xs) - 1) (drop 1 (x ∷ xs)) ≡ xs
behind x xs = take_all (length (x ∷ xs) - 1) xs (omega arith)

-- ---- what holds of each
pub all_first : (P : ℕ → Type 0) (xs : List ℕ) → 1 ≤ length xs → AllByRecursion P xs → P (get_or xs 0 0)
all_first P [] some all = absurd (omega (arith, some))
all_first P (x ∷ xs) some all = all.0

pub all_behind : {A : Type 0} (P : A → Type 0) (xs : List A) → 1 ≤ length xs → AllByRecursion P xs → AllByRecursion P (take (length xs - 1) (drop 1 xs))
all_behind P [] some all = absurd (omega (arith, some))
all_behind P (x ∷ xs) some all = subst (AllByRecursion P) (sym (behind x xs)) all.1

pub behind_length : {A : Type 0} (xs : List A) → 1 ≤ length xs → length (take (length xs - 1) (drop 1 xs)) + 1 ≡ length xs
behind_length [] some = absurd (omega (arith, some))
behind_length (x ∷ xs) some = omega (arith, ap length (behind x xs))

pub item_first : {A : Type 0} (P : A → Type 0) (xs : List A) (item : A) → 1 ≤ length xs → item ≡ get_or xs 0 item → AllByRecursion P xs → P item
item_first P [] item some e all = absurd (omega (arith, some))
item_first P (x ∷ xs) item some e all = subst P (sym e) all.0

pub list_first : (P : List ℤ → Type 0) (ts : List (Vec ℤ Global)) (list : Vec ℤ Global) (items : List ℤ) → 1 ≤ length ts → list ≡ get_or ts 0 list → items ≡ list.items → AllByRecursion P (lists_of ts) → P items
list_first P [] list items some e f all = absurd (omega (arith, some))
list_first P (t ∷ ts) list items some e f all = subst P (sym (f ∙ ap (λ (v : Vec ℤ Global). v.items) e)) all.0

pub lists_behind : (P : List ℤ → Type 0) (ts : List (Vec ℤ Global)) → 1 ≤ length ts → AllByRecursion P (lists_of ts) → AllByRecursion P (lists_of (take (length ts - 1) (drop 1 ts)))
lists_behind P [] some all = absurd (omega (arith, some))
lists_behind P (t ∷ ts) some all = subst (λ (us : List (Vec ℤ Global)). AllByRecursion P (lists_of us)) (sym (behind t ts)) all.1

-- ---- the parts of a row
pub front_within : (sizes : List ℕ) (ts : List (Vec ℤ Global)) (row : List ℤ) (width : ℕ) → 1 ≤ length sizes → 1 ≤ length ts → length row ≡ (matrices_beside sizes (lists_of ts)).width → width ≡ words_of (get_or sizes 0 0) → width ≤ length row
front_within [] ts row width some more e f = absurd (omega (arith, some))
front_within (n ∷ ns) [] row width some more e f = absurd (omega (arith, more))
front_within (n ∷ ns) (t ∷ ts) row width some more e f = omega (arith, e, f)

pub front_matrix : (sizes : List ℕ) (ts : List (Vec ℤ Global)) (row front : List ℤ) → 1 ≤ length sizes → 1 ≤ length ts → IsElement (matrices_beside sizes (lists_of ts)) row → front ≡ take (words_of (get_or sizes 0 0)) row → IsMatrix (get_or sizes 0 0) front
front_matrix [] ts row front some more is e = absurd (omega (arith, some))
front_matrix (n ∷ ns) [] row front some more is e = absurd (omega (arith, more))
front_matrix (n ∷ ns) (t ∷ ts) row front some more is e = subst (λ (m : List ℤ). IsMatrix n m) (sym e) is.formed.0.formed

pub back_element : (sizes : List ℕ) (ts : List (Vec ℤ Global)) (row back : List ℤ) → 1 ≤ length sizes → 1 ≤ length ts → IsElement (matrices_beside sizes (lists_of ts)) row → back ≡ drop (words_of (get_or sizes 0 0)) row
    → IsElement (matrices_beside (take (length sizes - 1) (drop 1 sizes)) (lists_of (take (length ts - 1) (drop 1 ts)))) back
back_element [] ts row back some more is e = absurd (omega (arith, some))
back_element (n ∷ ns) [] row back some more is e = absurd (omega (arith, more))
back_element (n ∷ ns) (t ∷ ts) row back some more is e =
    subst (λ (m : List ℤ). IsElement (matrices_beside (take (length (n ∷ ns) - 1) (drop 1 (n ∷ ns))) (lists_of (take (length (t ∷ ts) - 1) (drop 1 (t ∷ ts))))) m) (sym e)
    (subst (λ (us : List (Vec ℤ Global)). IsElement (matrices_beside (take (length (n ∷ ns) - 1) (drop 1 (n ∷ ns))) (lists_of us)) (drop (words_of n) row)) (sym (behind t ts))
    (subst (λ (ms : List ℕ). IsElement (matrices_beside ms (lists_of ts)) (drop (words_of n) row)) (sym (behind n ns)) is.formed.1))

pub back_width : (sizes : List ℕ) (ts : List (Vec ℤ Global)) (row back : List ℤ) → 1 ≤ length sizes → 1 ≤ length ts → length row ≡ (matrices_beside sizes (lists_of ts)).width → back ≡ drop (words_of (get_or sizes 0 0)) row
    → length back ≡ (matrices_beside (take (length sizes - 1) (drop 1 sizes)) (lists_of (take (length ts - 1) (drop 1 ts)))).width
back_width [] ts row back some more is e = absurd (omega (arith, some))
back_width (n ∷ ns) [] row back some more is e = absurd (omega (arith, more))
back_width (n ∷ ns) (t ∷ ts) row back some more is e =
    let rest : length back ≡ (matrices_beside ns (lists_of ts)).width = ap length e ∙ omega (arith, is, length-drop (words_of n) row) in
    rest ∙ (λ i. (matrices_beside (sym (behind n ns) i) (lists_of (sym (behind t ts) i))).width)

-- ---- how often a row can grow
pub few_words : (size lists : ℕ) → size ≤ 8 → lists ≤ 2048 → size * (size + 1) * (lists + 1) ≤ 147528
few_words size lists h k = omega (arith, mul-le size (size + 1) 8 9 h (omega arith), mul-le (size * (size + 1)) (lists + 1) 72 2049 (omega (arith, mul-le size (size + 1) 8 9 h (omega arith))) (omega arith))

pub height_joined : (sizes : List ℕ) (ts : List (Vec ℤ Global)) (list : Vec ℤ Global) (items : List ℤ) (rest : ℕ) → 1 ≤ length sizes → 1 ≤ length ts → list ≡ get_or ts 0 list → items ≡ list.items
    → rest ≡ (matrices_beside (take (length sizes - 1) (drop 1 sizes)) (lists_of (take (length ts - 1) (drop 1 ts)))).height
    → get_or sizes 0 0 * (get_or sizes 0 0 + 1) * (length items + 1) + rest ≡ (matrices_beside sizes (lists_of ts)).height
height_joined [] ts list items rest some more p q e = absurd (omega (arith, some))
height_joined (n ∷ ns) [] list items rest some more p q e = absurd (omega (arith, more))
height_joined (n ∷ ns) (t ∷ ts) list items rest some more p q e =
    let is : items ≡ t.items = q ∙ ap (λ (v : Vec ℤ Global). v.items) p in
    let f : rest ≡ (matrices_beside ns (lists_of ts)).height = e ∙ (λ i. (matrices_beside (behind n ns i) (lists_of (behind t ts i))).height) in λ i. n * (n + 1) * (length (is i) + 1) + f i

-- ---- what is made of both parts
pub least_joined : (sizes : List ℕ) (ts : List (Vec ℤ Global)) (front back : List ℤ) → 1 ≤ length sizes → 1 ≤ length ts → front ≡ matrix_of (get_or sizes 0 0) (bottom_word (get_or sizes 0 0))
    → back ≡ (matrices_beside (take (length sizes - 1) (drop 1 sizes)) (lists_of (take (length ts - 1) (drop 1 ts)))).least → front ++ back ≡ (matrices_beside sizes (lists_of ts)).least
least_joined [] ts front back some more e f = absurd (omega (arith, some))
least_joined (n ∷ ns) [] front back some more e f = absurd (omega (arith, more))
least_joined (n ∷ ns) (t ∷ ts) front back some more e f =
    let g : back ≡ (matrices_beside ns (lists_of ts)).least = f ∙ (λ i. (matrices_beside (behind n ns i) (lists_of (behind t ts i))).least) in λ i. e i ++ g i

pub join_joined : (sizes : List ℕ) (ts : List (Vec ℤ Global)) (a b front other back others first rest : List ℤ) → 1 ≤ length sizes → 1 ≤ length ts
    → front ≡ take (words_of (get_or sizes 0 0)) a → other ≡ take (words_of (get_or sizes 0 0)) b → back ≡ drop (words_of (get_or sizes 0 0)) a → others ≡ drop (words_of (get_or sizes 0 0)) b
    → first ≡ joined (get_or sizes 0 0) front other → rest ≡ (matrices_beside (take (length sizes - 1) (drop 1 sizes)) (lists_of (take (length ts - 1) (drop 1 ts)))).join back others
    → first ++ rest ≡ (matrices_beside sizes (lists_of ts)).join a b
join_joined [] ts a b front other back others first rest some more e f g h k l = absurd (omega (arith, some))
join_joined (n ∷ ns) [] a b front other back others first rest some more e f g h k l = absurd (omega (arith, more))
join_joined (n ∷ ns) (t ∷ ts) a b front other back others first rest some more e f g h k l =
    let one : first ≡ joined n (take (words_of n) a) (take (words_of n) b) = k ∙ (λ i. joined n (e i) (f i)) in
    let two : rest ≡ (matrices_beside ns (lists_of ts)).join (drop (words_of n) a) (drop (words_of n) b) =
    l ∙ (λ i. (matrices_beside (behind n ns i) (lists_of (behind t ts i))).join (g i) (h i)) in λ i. one i ++ two i

pub widen_joined : (sizes : List ℕ) (ts : List (Vec ℤ Global)) (list : Vec ℤ Global) (items a b front other back others first rest : List ℤ) → 1 ≤ length sizes → 1 ≤ length ts
    → list ≡ get_or ts 0 list → items ≡ list.items
    → front ≡ take (words_of (get_or sizes 0 0)) a → other ≡ take (words_of (get_or sizes 0 0)) b → back ≡ drop (words_of (get_or sizes 0 0)) a → others ≡ drop (words_of (get_or sizes 0 0)) b
    → first ≡ widened (get_or sizes 0 0) items front other → rest ≡ (matrices_beside (take (length sizes - 1) (drop 1 sizes)) (lists_of (take (length ts - 1) (drop 1 ts)))).widen back others
    → first ++ rest ≡ (matrices_beside sizes (lists_of ts)).widen a b
widen_joined [] ts list items a b front other back others first rest some more p q e f g h k l = absurd (omega (arith, some))
widen_joined (n ∷ ns) [] list items a b front other back others first rest some more p q e f g h k l = absurd (omega (arith, more))
widen_joined (n ∷ ns) (t ∷ ts) list items a b front other back others first rest some more p q e f g h k l =
    let is : items ≡ t.items = q ∙ ap (λ (v : Vec ℤ Global). v.items) p in
    let one : first ≡ widened n t.items (take (words_of n) a) (take (words_of n) b) = k ∙ (λ i. widened n (is i) (e i) (f i)) in
    let two : rest ≡ (matrices_beside ns (lists_of ts)).widen (drop (words_of n) a) (drop (words_of n) b) =
    l ∙ (λ i. (matrices_beside (behind n ns i) (lists_of (behind t ts i))).widen (g i) (h i)) in λ i. one i ++ two i

at_most_along : (a b c d : List ℤ) → c ≡ a → d ≡ b → IsAtMost c d → IsAtMost a b
at_most_along a b c d p q h = subst (λ (x : List ℤ). IsAtMost x b) p (subst (λ (y : List ℤ). IsAtMost c y) q h)

below_along : (ns ms : List ℕ) (ts us : List (Vec ℤ Global)) (a b c d : List ℤ) → ms ≡ ns → us ≡ ts → c ≡ a → d ≡ b → (matrices_beside ms (lists_of us)).Below c d → (matrices_beside ns (lists_of ts)).Below a b
below_along ns ms ts us a b c d p q r s h =
    subst (λ (xs : List ℕ). (matrices_beside xs (lists_of ts)).Below a b) p
    (subst (λ (xs : List (Vec ℤ Global)). (matrices_beside ms (lists_of xs)).Below a b) q
    (subst (λ (x : List ℤ). (matrices_beside ms (lists_of us)).Below x b) r
    (subst (λ (x : List ℤ). (matrices_beside ms (lists_of us)).Below c x) s h)))

pub below_joined : (sizes : List ℕ) (ts : List (Vec ℤ Global)) (a b front other back others : List ℤ) → 1 ≤ length sizes → 1 ≤ length ts
    → front ≡ take (words_of (get_or sizes 0 0)) a → other ≡ take (words_of (get_or sizes 0 0)) b → back ≡ drop (words_of (get_or sizes 0 0)) a → others ≡ drop (words_of (get_or sizes 0 0)) b
    → (IsAtMost front other × (matrices_beside (take (length sizes - 1) (drop 1 sizes)) (lists_of (take (length ts - 1) (drop 1 ts)))).Below back others) ↔ (matrices_beside sizes (lists_of ts)).Below a b
below_joined [] ts a b front other back others some more e f g h = absurd (omega (arith, some))
below_joined (n ∷ ns) [] a b front other back others some more e f g h = absurd (omega (arith, more))
below_joined (n ∷ ns) (t ∷ ts) a b front other back others some more e f g h = (
  λ both. (at_most_along _ _ front other e f both.0, below_along ns _ ts _ _ _ back others (behind n ns) (behind t ts) g h both.1),
  λ both. (at_most_along front other _ _ (sym e) (sym f) both.0, below_along _ ns _ ts back others _ _ (sym (behind n ns)) (sym (behind t ts)) (sym g) (sym h) both.1),
)

-- the order as a test tells it, where the first matrices are in order, and where they aren't
pub told_rest : (first rest : Bool) (A B C : Type 0) → (IsTrue first ↔ A) → (IsTrue rest ↔ B) → ((A × B) ↔ C) → first ≡ true → IsTrue rest ↔ C
told_rest first rest A B C p q r e = (λ t. r.0 (p.0 e, q.0 t), λ k. q.1 (r.1 k).1)

pub told_first : (first : Bool) (A B C : Type 0) → (IsTrue first ↔ A) → ((A × B) ↔ C) → first ≡ false → IsTrue first ↔ C
told_first first A B C p r e = (λ t. absurd (cc), λ k. p.1 (r.1 k).0)
