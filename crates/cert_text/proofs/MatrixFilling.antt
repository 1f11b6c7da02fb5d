-- Matrices of bounds, bound by bound and pack by pack.
use Rattle.std.proofs.Common.{◌≡◌, ◌≢◌, ℕ, replicate, ◌+◌, ◌-◌, ◌*◌, ◌/◌, ◌%◌, ◌<◌, ◌≤◌, Bool, true, false, ◌&&◌, ◌==◌, List, [], ◌∷◌, length, take, drop, get_or, set, ℤ, pos, inl, inr, refl, sym, ap, subst, ◌∙◌, arith, length-set, get_or-set_same, get_or-set_other}
use Rattle.std.specs.Prelude.{nat_eq, if◌then◌else◌}
use Rattle.std.specs.List.{AllByRecursion}
use Rattle.std.proofs.lemmas.Bool.{cases_eq, eqb-true, eq-eqb, ne_eqb}
use Rattle.std.proofs.lemmas.Nat.{div-mul-add, mod-mul-add, div-add-mod', mod_below}
use Rattle.std.proofs.lemmas.List.{take_all, drop_more, length-replicate, get_or-replicate}
use Rattle.std.proofs.lemmas.List.Elements.{All-from_recursion}
use Rattle.std.proofs.lemmas.List.FromFn.{fill_by_all, get_or-map-range_with_len, length-map-range_with_len}
use Rattle.diff_bounds.specs.declared.Pack.{Pack}
use Rattle.diff_bounds.specs.Matrix.{word}
use Rattle.diff_bounds.specs.Lattice.{matrix_of}
use Rattle.diff_bounds.proofs.Places.{place_fits, word-set_other, word-set_same}
use Rattle.cert_text.specs.declared.cert.Bound.{Bound}
use Rattle.diff_bounds.specs.PackRows.{words_of}
use Rattle.cert_text.specs.MatrixClaims.{cells_in, claimed_matrix, claimed_word, is_of, sizes_of}
use Rattle.cert_text.specs.Written.{IsBoundOf, plain_word}

-- ---- a matrix from a function

pub matrix_word : (size : ℕ) (f : ℕ → ℤ) (k : ℕ) → k < words_of size → get_or (matrix_of size f) k (pos 0) ≡ f k
matrix_word size f k h = get_or-map-range_with_len f 0 (words_of size) k k (pos 0) h (omega arith)

pub matrix_width : (size : ℕ) (f : ℕ → ℤ) → length (matrix_of size f) ≡ words_of size
matrix_width size f = length-map-range_with_len f 0 (words_of size)

-- ---- one word off the diagonal

-- a matrix without bounds, with zeros at the first places of the diagonal
pub record IsPlainTo (x : ℤ) (size count : ℕ) (m : List ℤ) : Type 0 where
  pub width : length m ≡ words_of size
  pub zeros : (i : ℕ) → i < count → i < size + 1 → word (size + 1) m i i ≡ pos 0
  pub others : (k : ℕ) → k < words_of size → k / (size + 1) ≢ k % (size + 1) → get_or m k (pos 0) ≡ x

pub plain_first : (x : ℤ) (size n : ℕ) (m : List ℤ) → m ≡ replicate n x → n ≡ words_of size → IsPlainTo x size 0 m
plain_first x size n m e f = record {
  width = ap length e ∙ length-replicate n x ∙ f;
  zeros = λ i h g. absurd (omega (arith, h));
  others = λ k h ne. ap (λ (ws : List ℤ). get_or ws k (pos 0)) e ∙ get_or-replicate n k x (pos 0) (omega (arith, h, f, length-replicate n x));
}

pub plain_more : (x : ℤ) (size count at : ℕ) (y : ℤ) (m : List ℤ) → count < size + 1 → at ≡ count * (size + 1) + count → y ≡ pos 0
    → IsPlainTo x size count m → IsPlainTo x size (count + 1) (set m at y)
plain_more x size count at y m few e zero_word are = record {
  width = length-set m at y ∙ are.width;
  zeros = λ i h g. elim (cases_eq i count) as (λ _. word (size + 1) (set m at y) i i ≡ pos 0) [
    | inl same ↦
        subst (λ (n : ℕ). word (size + 1) (set m at y) n n ≡ pos 0) (sym same)
        (word-set_same (size + 1) m count count at y are.width few few e ∙ zero_word)
    | inr ne ↦ word-set_other (size + 1) m count count at y i i few g e (λ f k. ne f) ∙ are.zeros i (omega (arith, h, ne)) g
  ];
  others = λ k h ne.
      get_or-set_other m at k y (pos 0) (λ same.
      let row = ap (λ (n : ℕ). n / (size + 1)) (same ∙ e) ∙ div-mul-add count (size + 1) count few in
      let column = ap (λ (n : ℕ). n % (size + 1)) (same ∙ e) ∙ mod-mul-add count (size + 1) count few in
      ne (row ∙ sym column))
      ∙ are.others k h ne;
}

pub plain_all : (x : ℤ) (size count : ℕ) (m : List ℤ) → size + 1 ≤ count → IsPlainTo x size count m → m ≡ matrix_of size (plain_word x size)
plain_all x size count m all are =
    fill_by_all (plain_word x size) m (words_of size) (pos 0) are.width
    (λ k h. elim (cases_eq (k / (size + 1)) (k % (size + 1))) as (λ _. get_or m k (pos 0) ≡ plain_word x size k) [
      | inl same ↦
          let i = k % (size + 1) in
          let low : i < size + 1 = mod_below k (size + 1) (omega arith) in
          let place : i * (size + 1) + i ≡ k = ap (λ (q : ℕ). q * (size + 1) + i) (sym same) ∙ div-add-mod' k (size + 1) in
          let on : nat_eq (k / (size + 1)) (k % (size + 1)) ≡ true = eq-eqb _ _ same in
          subst (λ (q : ℕ). get_or m q (pos 0) ≡ pos 0) place (are.zeros i (omega (arith, all, low)) low)
          ∙ sym (ap (λ t. if t then pos 0 else x) on)
      | inr ne ↦
          let off : nat_eq (k / (size + 1)) (k % (size + 1)) ≡ false = ne_eqb _ _ ne in
          are.others k h ne ∙ sym (ap (λ t. if t then pos 0 else x) off)
    ])

-- ---- one bound

both_true : (a b : Bool) → (a && b) ≡ true → (a ≡ true) × (b ≡ true)
both_true true b e = (refl, e)
both_true false b e = absurd cc

pub of_tells : (b : Bound) (pack row column : ℕ) → is_of b pack row column ≡ true → (b.pack ≡ pack) × ((b.row ≡ row) × (b.column ≡ column))
of_tells b pack row column e =
    let first = both_true (b.pack == pack) ((b.row == row) && (b.column == column)) e in
    let rest = both_true (b.row == row) (b.column == column) first.1 in
    (eqb-true _ _ first.0, (eqb-true _ _ rest.0, eqb-true _ _ rest.1))

is_its_own : (b : Bound) (pack row column : ℕ) → b.pack ≡ pack → b.row ≡ row → b.column ≡ column → is_of b pack row column ≡ true
is_its_own b pack row column e f g = rw (eq-eqb b.pack pack e) (rw (eq-eqb b.row row f) (eq-eqb b.column column g))

module _ (pack size : ℕ) (b : Bound) (bounds : List Bound) (is : IsBoundOf pack size b) where
  abbrev pub place : ℕ
  place = b.row * (size + 1) + b.column

  -- the word at the bound's own place is the bound
  here : (k : ℕ) → k ≡ place → claimed_word (b ∷ bounds) pack size k ≡ b.most
  here k e =
      let row : b.row ≡ k / (size + 1) = sym (ap (λ n. n / (size + 1)) e ∙ div-mul-add b.row (size + 1) b.column (omega (arith, is.places.column))) in
      let column : b.column ≡ k % (size + 1) = sym (ap (λ n. n % (size + 1)) e ∙ mod-mul-add b.row (size + 1) b.column (omega (arith, is.places.column))) in
      let off : nat_eq (k / (size + 1)) (k % (size + 1)) ≡ false = ne_eqb _ _ (λ same. is.places.different (row ∙ same ∙ sym column)) in
      let found = is_its_own b pack (k / (size + 1)) (k % (size + 1)) is.same row column in
      rw off (rw found refl)

  -- the word at another place is that of the other bounds
  elsewhere : (k : ℕ) → (k ≡ place → ⊥) → claimed_word (b ∷ bounds) pack size k ≡ claimed_word bounds pack size k
  elsewhere k ne = go (is_of b pack (k / (size + 1)) (k % (size + 1))) refl
    where
      go : (t : Bool) → is_of b pack (k / (size + 1)) (k % (size + 1)) ≡ t → claimed_word (b ∷ bounds) pack size k ≡ claimed_word bounds pack size k
      go true e =
          let told = of_tells b pack (k / (size + 1)) (k % (size + 1)) e in
          absurd (ne (sym ((λ i. told.1.0 i * (size + 1) + told.1.1 i) ∙ div-add-mod' k (size + 1))))
      go false e = rw e refl

  pub bound_written : set (claimed_matrix bounds pack size) place b.most ≡ claimed_matrix (b ∷ bounds) pack size
  bound_written =
      let old = claimed_matrix bounds pack size in
      let wide = matrix_width size (claimed_word bounds pack size) in
      fill_by_all (claimed_word (b ∷ bounds) pack size) (set old place b.most) (words_of size) (pos 0) (length-set old place b.most ∙ wide)
      (λ k h. elim (cases_eq k place) as (λ _. get_or (set old place b.most) k (pos 0) ≡ claimed_word (b ∷ bounds) pack size k) [
        | inl e ↦
            subst (λ (n : ℕ). get_or (set old place b.most) n (pos 0) ≡ b.most) (sym e)
            (get_or-set_same old place b.most (pos 0) (omega (arith, wide, place_fits (size + 1) b.row b.column (omega (arith, is.places.row)) (omega (arith, is.places.column)))))
            ∙ sym (here k e)
        | inr ne ↦ get_or-set_other old place k b.most (pos 0) ne ∙ matrix_word size (claimed_word bounds pack size) k h ∙ sym (elsewhere k ne)
      ])

-- ---- a loop from the last bound on

pub place_within : (pack size : ℕ) (bounds : List Bound) (j : ℕ) (d : Bound) (m : List ℤ) → AllByRecursion (IsBoundOf pack size) bounds → j < length bounds
    → length m ≡ words_of size → (get_or bounds j d).row * (size + 1) + (get_or bounds j d).column < length m
place_within pack size bounds j d m are within wide =
    let at = All-from_recursion (IsBoundOf pack size) bounds are j d within in
    omega (arith, wide, place_fits (size + 1) (get_or bounds j d).row (get_or bounds j d).column (omega (arith, at.places.row)) (omega (arith, at.places.column)))

pub next_written : (pack size : ℕ) (bounds : List Bound) (k j : ℕ) (d : Bound) (m new : List ℤ) → j ≡ k - 1 → 0 < k → k ≤ length bounds
    → AllByRecursion (IsBoundOf pack size) bounds → m ≡ claimed_matrix (drop k bounds) pack size
    → new ≡ set m ((get_or bounds j d).row * (size + 1) + (get_or bounds j d).column) (get_or bounds j d).most
    → new ≡ claimed_matrix (drop j bounds) pack size
next_written pack size bounds k j d m new e some within are h f =
    let k_is : k ≡ j + 1 = omega (arith, e, some) in
    let b = get_or bounds j d in
    let at = All-from_recursion (IsBoundOf pack size) bounds are j d (omega (arith, e, some, within)) in
    f ∙ ap (λ (x : List ℤ). set x (b.row * (size + 1) + b.column) b.most) (h ∙ ap (λ n. claimed_matrix (drop n bounds) pack size) k_is)
    ∙ bound_written pack size b (drop (j + 1) bounds) at
    ∙ ap (λ bs. claimed_matrix bs pack size) (sym (drop_more bounds j d (omega (arith, e, some, within))))

-- ---- packs

-- the size of the first pack, and those of the packs behind it
pub sizes_split : (packs : List Pack) (first : Pack) (n : ℕ) → 1 ≤ length packs → first ≡ get_or packs 0 first → n ≡ length first.cells.items
    → sizes_of (cells_in packs) ≡ n ∷ sizes_of (cells_in (take (length packs - 1) (drop 1 packs)))
sizes_split [] first n some is e = absurd (omega (arith, some))
sizes_split (p ∷ packs) first n some is e =
    let same : length p.cells.items ≡ n = sym (e ∙ ap (λ (q : Pack). length q.cells.items) is) in
    let rest : packs ≡ take (length (p ∷ packs) - 1) packs = sym (take_all (length (p ∷ packs) - 1) packs (omega arith)) in
    λ i. same i ∷ sizes_of (cells_in (rest i))
