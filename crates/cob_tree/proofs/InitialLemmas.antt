-- The reserved words by their first letters.
use Rattle.std.proofs.Common.{◌≡◌, ℕ, suc, ◌+◌, ◌-◌, ◌<◌, ◌≤◌, Bool, true, false, cond, eqb, List, [], ◌∷◌, length, get_or, take, drop, map, refl, ap, ◌∙◌, sym, subst, arith, Option, Some, None}
use Rattle.std.specs.Prelude.{nat_le, ◌&&◌}
use Rattle.std.specs.List.{list_all, range_with_len}
use Rattle.std.specs.Str.{bytes_eq}
use Rattle.std.proofs.lemmas.Bool.{and_parts, eqb-true, eq-eqb, leb-true}
use Rattle.std.proofs.lemmas.Slice.Eq.{bytes_eq-Decides}
use Rattle.std.proofs.lemmas.List.FromFn.{get_or-map-range_with_len}
use Rattle.cob_tree.specs.declared.keyword.Keyword.{Keyword}
use Rattle.cob_tree.specs.Keywords.{text_of, keywords, keyword_among, keyword_of}

-- the first letter of a reserved word
abbrev initial : Keyword → ℕ
initial k = get_or (text_of k) 0 0

-- those that begin so
abbrev only : ℕ → List Keyword → List Keyword
only c [] = []
only c (k ∷ ks) = cond (eqb (initial k) c) (k ∷ only c ks) (only c ks)

other_text : (k : Keyword) (c : ℕ) (rest : List ℕ) → eqb (initial k) c ≡ false → bytes_eq (text_of k) (c ∷ rest) ≡ false
other_text k c rest e = by_bool (bytes_eq (text_of k) (c ∷ rest)) refl
  where
    by_bool : (b : Bool) → bytes_eq (text_of k) (c ∷ rest) ≡ b → b ≡ false
    by_bool false f = refl
    by_bool true f =
        let same : text_of k ≡ c ∷ rest = (bytes_eq-Decides (text_of k) (c ∷ rest)).0 f in
        let first : initial k ≡ c = ap (λ (t : List ℕ). get_or t 0 0) same in
        let g : eqb (initial k) c ≡ true = eq-eqb (initial k) c first in
        absurd cc

-- the others needn't be looked at
among_only : (c : ℕ) (rest : List ℕ) (ks : List Keyword) → keyword_among (c ∷ rest) (only c ks) ≡ keyword_among (c ∷ rest) ks
among_only c rest [] = refl
among_only c rest (k ∷ ks) = by_bool (eqb (initial k) c) refl (among_only c rest ks)
  where
    by_bool : (b : Bool) → eqb (initial k) c ≡ b → keyword_among (c ∷ rest) (only c ks) ≡ keyword_among (c ∷ rest) ks → keyword_among (c ∷ rest) (cond b (k ∷ only c ks) (only c ks)) ≡ keyword_among (c ∷ rest) (k ∷ ks)
    by_bool true e h = ap (λ (o : Option Keyword). cond (bytes_eq (text_of k) (c ∷ rest)) (Some k) o) h
    by_bool false e h = rw (other_text k c rest e) h

-- ---- the table of first places

abbrev starts : List ℕ
starts = 0 ∷ 8 ∷ 12 ∷ 23 ∷ 27 ∷ 45 ∷ 50 ∷ 53 ∷ 55 ∷ 63 ∷ 63 ∷ 63 ∷ 68 ∷ 71 ∷ 75 ∷ 84 ∷ 92 ∷ 94 ∷ 103 ∷ 117 ∷ 126 ∷ 128 ∷ 131 ∷ 135 ∷ 135 ∷ 135 ∷ 138 ∷ []

abbrev start : ℕ → ℕ
start n = get_or starts n 0

abbrev slice : ℕ → List Keyword
slice n = take (start (n + 1) - start n) (drop (start n) keywords)

abbrev letter : ℕ → List Keyword
letter n = only (65 + n) keywords

tables : map slice (range_with_len 0 26) ≡ map letter (range_with_len 0 26)
tables = refl

slice_is : (n : ℕ) → n < 26 → slice n ≡ letter n
slice_is n h =
    sym (get_or-map-range_with_len slice 0 26 n n [] h (omega arith))
    ∙ ap (λ (l : List (List Keyword)). get_or l n []) tables
    ∙ get_or-map-range_with_len letter 0 26 n n [] h (omega arith)

pub among_slice : (c n : ℕ) (rest : List ℕ) → n < 26 → c ≡ 65 + n → keyword_among (c ∷ rest) (slice n) ≡ keyword_among (c ∷ rest) keywords
among_slice c n rest h e =
    ap (λ (ks : List Keyword). keyword_among (c ∷ rest) ks) (slice_is n h ∙ ap (λ k. only k keywords) (sym e)) ∙ among_only c rest keywords

-- the table goes up
abbrev is_rising : ℕ → Bool
is_rising n = nat_le (start n) (start (n + 1)) && nat_le (start (n + 1)) 138

rising : map is_rising (range_with_len 0 26) ≡ map (λ (n : ℕ). true) (range_with_len 0 26)
rising = refl

pub rises : (n : ℕ) → n < 26 → (start n ≤ start (n + 1)) × (start (n + 1) ≤ 138)
rises n h =
    let up : is_rising n ≡ true = sym (get_or-map-range_with_len is_rising 0 26 n n false h (omega arith)) ∙ ap (λ (l : List Bool). get_or l n false) rising ∙ get_or-map-range_with_len (λ (n : ℕ). true) 0 26 n n false h (omega arith) in
    let both = and_parts (nat_le (start n) (start (n + 1))) (nat_le (start (n + 1)) 138) up in
    (leb-true (start n) (start (n + 1)) both.0, leb-true (start (n + 1)) 138 both.1)

-- ---- no letter

abbrev is_capital : Keyword → Bool
is_capital k = nat_le 65 (initial k) && nat_le (initial k) 90

no_letter : (c : ℕ) (ks : List Keyword) → (nat_le 65 c && nat_le c 90) ≡ false → list_all is_capital ks ≡ true → only c ks ≡ []
no_letter c [] none all = refl
no_letter c (k ∷ ks) none all = by_bool (eqb (initial k) c) refl (no_letter c ks none (and_parts (is_capital k) (list_all is_capital ks) all).1)
  where
    by_bool : (b : Bool) → eqb (initial k) c ≡ b → only c ks ≡ [] → cond b (k ∷ only c ks) (only c ks) ≡ []
    by_bool false e h = h
    by_bool true e h =
        let same : initial k ≡ c = eqb-true (initial k) c e in
        let f : (nat_le 65 c && nat_le c 90) ≡ true = subst (λ n. (nat_le 65 n && nat_le n 90) ≡ true) same (and_parts (is_capital k) (list_all is_capital ks) all).0 in
        absurd cc

pub among_none : (c : ℕ) (rest : List ℕ) → (nat_le 65 c && nat_le c 90) ≡ false → keyword_among (c ∷ rest) [] ≡ keyword_among (c ∷ rest) keywords
among_none c rest none = ap (λ (ks : List Keyword). keyword_among (c ∷ rest) ks) (sym (no_letter c keywords none refl)) ∙ among_only c rest keywords

-- ---- a name

pub found_among : (name : List ℕ) (ks : List Keyword) (c : ℕ) (r : Option Keyword) → 0 < length name → c ≡ get_or name 0 0 → ((rest : List ℕ) → keyword_among (c ∷ rest) ks ≡ keyword_among (c ∷ rest) keywords) → r ≡ keyword_among name ks → r ≡ keyword_of name
unfolding keyword_of
found_among [] ks c r h e all is = absurd (omega (arith, h))
found_among (x ∷ name) ks c r h e all is = is ∙ subst (λ n. keyword_among (n ∷ name) ks ≡ keyword_among (n ∷ name) keywords) e (all name)

pub none_in_nothing : (name : List ℕ) → length name ≡ 0 → None ≡ keyword_of name
unfolding keyword_of
none_in_nothing [] h = refl
none_in_nothing (x ∷ name) h = absurd (omega (arith, h))
