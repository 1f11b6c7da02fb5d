-- Lists of entries, the first of a name before later ones, against the finite map that they make.
use Rattle.std.proofs.Common.{◌≡◌, ℕ, zero, suc, ◌<◌, ◌≤◌, Bool, true, false, not, cond, List, [], ◌∷◌, ◌++◌, None, Some, Option, refl, sym, ap, ◌∙◌, length, get_or, set, arith}
use Rattle.std.specs.Prelude.{position, bytes_eq}
use Rattle.std.specs.List.{position_or_len}
use Rattle.std.specs.Cmp.Lexicographic.{slice_cmp}
use Rattle.std.proofs.lemmas.Cmp.{nat_list_cmp_total}
use Rattle.std.proofs.lemmas.Slice.Eq.{bytes_eq-Decides}
use Rattle.std.proofs.lemmas.Map.Text.{is_eq-slice_cmp}
use Rattle.std.proofs.lemmas.Bool.{false_from_ne_true}
use Rattle.std.proofs.lemmas.List.Quantifiers.{position-Some}
use Rattle.std.proofs.lemmas.List.Sums.{prefix_len_passes}
use Rattle.std.proofs.lemmas.Grind.{common_steps}
use Rattle.std.specs.Ordering.{nat_cmp, eq_by_cmp}
use Rattle.std.specs.FinMap.{find, get, insert, from_entries, get-from_entries, get-insert, same_map, from_entries_push, nat_cmp-IsAntisymmetric, slice_cmp-IsAntisymmetric}
use Rattle.batch_io.specs.FilesState.{Contents}

abbrev pub Entry : Type 0
Entry = List ℕ × List ℕ

abbrev pub blank : Entry
blank = ([], [])

-- the place of the first entry of this name
abbrev pub place_in : List Entry → List ℕ → Option ℕ
place_in es name = position (λ e. bytes_eq e.0 name) es

abbrev is_name : List ℕ → List ℕ → Bool
is_name a b = eq_by_cmp (slice_cmp nat_cmp) a b

abbrev found : List ℕ → List Entry → Option (List ℕ)
found = find (slice_cmp nat_cmp)

pub same_name : (a b : List ℕ) → is_name a b ≡ true → a ≡ b
same_name a b h = (bytes_eq-Decides a b).0 (sym (is_eq-slice_cmp a b) ∙ h)

pub is_same : (a b : List ℕ) → a ≡ b → is_name a b ≡ true
is_same a b e = is_eq-slice_cmp a b ∙ (bytes_eq-Decides a b).1 e

-- what the code's test of the two names in the other order says
named : (a b : List ℕ) → bytes_eq b a ≡ true → b ≡ a
named a b h = (bytes_eq-Decides b a).0 h

not_named : (a b : List ℕ) → bytes_eq b a ≡ false → is_name a b ≡ false
not_named a b h = false_from_ne_true (is_name a b) (λ t.
    let e : bytes_eq b a ≡ true = (bytes_eq-Decides b a).1 (sym (same_name a b t)) in
    cc)

-- no entry passes
none_passes : {X : Type 0} (p : X → Bool) (xs : List X) → position p xs ≡ None → (k : ℕ) (d : X) → k < length xs → p (get_or xs k d) ≡ false
none_passes p xs none k d within =
    let all : length xs ≤ position_or_len p xs = grind (arith, common_steps) in
    let passes = prefix_len_passes (λ x. not (p x)) xs k d (omega arith) in
    grind (arith, common_steps)

found-absent : (q : List ℕ) (es : List Entry) → ((k : ℕ) → k < length es → is_name q (get_or es k blank).0 ≡ false) → found q es ≡ None
found-absent q [] apart = refl
found-absent q (e ∷ es) apart =
    ap (λ b. cond b (Some e.1) (found q es)) (apart 0 (omega arith)) ∙ found-absent q es (λ k h. apart (suc k) (omega arith))

found-first : (q : List ℕ) (es : List Entry) (i : ℕ) → i < length es → is_name q (get_or es i blank).0 ≡ true
    → ((k : ℕ) → k < i → is_name q (get_or es k blank).0 ≡ false) → found q es ≡ Some (get_or es i blank).1
found-first q [] i within here apart = absurd (omega arith)
found-first q (e ∷ es) zero within here apart = ap (λ b. cond b (Some e.1) (found q es)) here
found-first q (e ∷ es) (suc i) within here apart =
    ap (λ b. cond b (Some e.1) (found q es)) (apart 0 (omega arith)) ∙ found-first q es i (omega arith) here (λ k h. apart (suc k) (omega arith))

-- a test that is repeated
pub shadowed : {A : Type 0} (b : Bool) (x y z : A) → cond b x z ≡ cond b x (cond b y z)
shadowed true x y z = refl
shadowed false x y z = refl

-- two tests that do not pass together
swapped : {A : Type 0} (a b : Bool) (x y z : A) → (a ≡ true → b ≡ true → ⊥) → cond a x (cond b y z) ≡ cond b y (cond a x z)
swapped true true x y z apart = absurd (apart refl refl)
swapped true false x y z apart = refl
swapped false b x y z apart = refl

found-set : (name bytes q : List ℕ) (es : List Entry) (i : ℕ) → i < length es → (get_or es i blank).0 ≡ name
    → ((k : ℕ) → k < i → is_name name (get_or es k blank).0 ≡ false)
    → found q (set es i (name, bytes)) ≡ cond (is_name q name) (Some bytes) (found q es)
found-set name bytes q [] i within here apart = absurd (omega arith)
found-set name bytes q (e ∷ es) zero within here apart =
    shadowed (is_name q name) (Some bytes) (Some e.1) (found q es)
    ∙ ap (λ n. cond (is_name q name) (Some bytes) (cond (is_name q n) (Some e.1) (found q es))) (sym here)
found-set name bytes q (e ∷ es) (suc i) within here apart =
    ap (cond (is_name q e.0) (Some e.1)) (found-set name bytes q es i (omega arith) here (λ k h. apart (suc k) (omega arith)))
    ∙ swapped (is_name q e.0) (is_name q name) (Some e.1) (Some bytes) (found q es) (λ one other.
    let same : name ≡ e.0 = sym (same_name q name other) ∙ same_name q e.0 one in
    let yes = is_same name e.0 same in
    let no = apart 0 (omega arith) in
    cc)

pub same_contents : (m n : Contents) → ((q : List ℕ) → get m q ≡ get n q) → m ≡ n
same_contents m n same = same_map nat_list_cmp_total (slice_cmp-IsAntisymmetric nat_cmp-IsAntisymmetric) m n same

module _ (es : List Entry) (name : List ℕ) where
  pub contents-absent : place_in es name ≡ None → get (from_entries {R = slice_cmp nat_cmp} es) name ≡ None
  contents-absent none = get-from_entries nat_list_cmp_total es name
      ∙ found-absent name es (λ k h. not_named name _ (none_passes (λ e. bytes_eq e.0 name) es none k blank h))

  pub contents-push : (bytes : List ℕ) → place_in es name ≡ None → from_entries {R = slice_cmp nat_cmp} (es ++ (name, bytes) ∷ []) ≡ insert (from_entries es) name bytes
  contents-push bytes none = from_entries_push nat_list_cmp_total (slice_cmp-IsAntisymmetric nat_cmp-IsAntisymmetric) es name bytes
      (found-absent name es (λ k h. not_named name _ (none_passes (λ e. bytes_eq e.0 name) es none k blank h)))

  module _ (i : ℕ) (some : place_in es name ≡ Some i) where
    at_place : (i < length es) × (bytes_eq (get_or es i blank).0 name ≡ true) × ((k : ℕ) → k < i → bytes_eq (get_or es k blank).0 name ≡ false)
    at_place = position-Some (λ e. bytes_eq e.0 name) es i blank some

    pub place_within : i < length es
    place_within = at_place.0

    pub place_named : (get_or es i blank).0 ≡ name
    place_named = named name (get_or es i blank).0 at_place.1

    pub contents-present : get (from_entries {R = slice_cmp nat_cmp} es) name ≡ Some (get_or es i blank).1
    contents-present = get-from_entries nat_list_cmp_total es name
        ∙ found-first name es i place_within (is_same name _ (sym place_named)) (λ k h. not_named name _ (at_place.2 k h))

    pub contents-set : (bytes : List ℕ) → from_entries {R = slice_cmp nat_cmp} (set es i (name, bytes)) ≡ insert (from_entries es) name bytes
    contents-set bytes = same_contents _ _ (λ q.
        get-from_entries nat_list_cmp_total (set es i (name, bytes)) q
        ∙ found-set name bytes q es i place_within place_named (λ k h. not_named name _ (at_place.2 k h))
        ∙ ap (cond (is_name q name) (Some bytes)) (sym (get-from_entries nat_list_cmp_total es q))
        ∙ sym (get-insert nat_list_cmp_total (from_entries es) name bytes q))
