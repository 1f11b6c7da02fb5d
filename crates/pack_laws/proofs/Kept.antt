-- Values that stand in a changed matrix.
use Rattle.std.proofs.Common.{◌≡◌, ℕ, ◌+◌, ◌<◌, ◌≤◌, Bool, true, false, List, ℤ, Option, refl, sym, subst, ◌∙◌, arith}
use Rattle.std.specs.Prelude.{nat_eq, ◌||◌, if◌then◌else◌}
use Rattle.std.specs.Int.{int_min}
use Rattle.std.proofs.lemmas.Bool.{eq-eqb, ne_eqb}
use Rattle.interval_domain.proofs.IntervalEnds.{min_is_one}
use Rattle.diff_bounds.specs.declared.form.lin.Lin.{Lin}
use Rattle.diff_bounds.specs.Matrix.{word, none, IsBound}
use Rattle.diff_bounds.specs.Storages.{value_at, DifferBy, StandsIn}
use Rattle.diff_bounds.specs.Numbers.{word_of}
use Rattle.diff_bounds.specs.Upper.{coef_at}
use Rattle.diff_bounds.specs.Values.{IsOver}
use Rattle.diff_bounds.specs.Assigned.{upper_less, less_upper, AreAssigned, with_value, IsValue}
use Rattle.diff_bounds.specs.Demanded.{lowered, AreDemanded, IsMet}
use Rattle.diff_bounds.specs.Forgotten.{AreForgotten, AgreeBut}
use Rattle.diff_bounds.proofs.Assigned.{stands_assigned}
use Rattle.diff_bounds.proofs.Demanded.{stands_demanded}
use Rattle.diff_bounds.proofs.Forgotten.{stands_forgotten}
use Rattle.diff_steps.specs.Matrices.{forgotten, assigned, demanded, lesser}
use Rattle.pack_laws.proofs.Words.{word_at}

-- by whether a row and a column are equal, and whether they are the cell's
abbrev four : Bool → Bool → Bool → ℤ → ℤ → ℤ → ℤ → ℤ
four same first last a b c d = if same then a else (if first then b else (if last then c else d))

row_chosen : (i j to : ℕ) (a b c d : ℤ) → (i ≡ j → ⊥) → i ≡ to → four (nat_eq i j) (nat_eq i to) (nat_eq j to) a b c d ≡ b
row_chosen i j to a b c d ne e = rw (ne_eqb i j ne, eq-eqb i to e) refl

column_chosen : (i j to : ℕ) (a b c d : ℤ) → (i ≡ j → ⊥) → (i ≡ to → ⊥) → j ≡ to → four (nat_eq i j) (nat_eq i to) (nat_eq j to) a b c d ≡ c
column_chosen i j to a b c d ne off e = rw (ne_eqb i j ne, ne_eqb i to off, eq-eqb j to e) refl

other_chosen : (i j to : ℕ) (a b c d : ℤ) → a ≡ d → (i ≡ to → ⊥) → (j ≡ to → ⊥) → four (nat_eq i j) (nat_eq i to) (nat_eq j to) a b c d ≡ d
other_chosen i j to a b c d same off apart = rw (ne_eqb i to off, ne_eqb j to apart) (by_bool (nat_eq i j))
  where
    by_bool : (s : Bool) → (if s then a else d) ≡ d
    by_bool true = same
    by_bool false = refl

-- ---- forgotten

forgotten_row : (i j to : ℕ) (x : ℤ) → (i ≡ j → ⊥) → i ≡ to → (if nat_eq i j then x else (if nat_eq i to || nat_eq j to then none else x)) ≡ none
forgotten_row i j to x ne e = rw (ne_eqb i j ne, eq-eqb i to e) refl

forgotten_column : (i j to : ℕ) (x : ℤ) → (i ≡ j → ⊥) → (i ≡ to → ⊥) → j ≡ to → (if nat_eq i j then x else (if nat_eq i to || nat_eq j to then none else x)) ≡ none
forgotten_column i j to x ne off e = rw (ne_eqb i j ne, ne_eqb i to off, eq-eqb j to e) refl

forgotten_other : (i j to : ℕ) (x : ℤ) → (i ≡ to → ⊥) → (j ≡ to → ⊥) → (if nat_eq i j then x else (if nat_eq i to || nat_eq j to then none else x)) ≡ x
forgotten_other i j to x off apart = rw (ne_eqb i to off, ne_eqb j to apart) (by_bool (nat_eq i j))
  where
    by_bool : (s : Bool) → (if s then x else x) ≡ x
    by_bool true = refl
    by_bool false = refl

abbrev forgotten_words : ℕ → ℕ → List ℤ → ℕ → ℕ → ℤ
forgotten_words size to m i j =
    if nat_eq i j then word (size + 1) m i j else (if nat_eq i to || nat_eq j to then none else word (size + 1) m i j)

pub are_forgotten : (size to : ℕ) (m : List ℤ) → to ≤ size → AreForgotten size (word (size + 1) m) to (word (size + 1) (forgotten size to m))
are_forgotten size to m within = record {
  row = λ j h ne. word_at size (forgotten_words size to m) to j (omega arith) (omega arith) ∙ forgotten_row to j to (word (size + 1) m to j) (λ e. ne (sym e)) refl;
  column = λ i h ne. word_at size (forgotten_words size to m) i to (omega arith) (omega arith) ∙ forgotten_column i to to (word (size + 1) m i to) ne ne refl;
  others = λ i j h g off apart. word_at size (forgotten_words size to m) i j (omega arith) (omega arith) ∙ forgotten_other i j to (word (size + 1) m i j) off apart;
}

pub forgotten_stands : (size to : ℕ) (m : List ℤ) (cells other : ℕ → Option ℤ) → to ≤ size → StandsIn (size + 1) (word (size + 1) m) cells → AgreeBut to cells other → StandsIn (size + 1) (word (size + 1) (forgotten size to m)) other
forgotten_stands size to m cells other within stands agree =
    stands_forgotten size to (word (size + 1) m) (word (size + 1) (forgotten size to m)) cells other within (are_forgotten size to m within) stands agree

-- ---- assigned

abbrev row_of : ℕ → Lin → List ℤ → ℕ → ℤ
row_of size form m j = word_of (upper_less (word (size + 1) m) j (coef_at form.coefs) form.constant.high size)

abbrev column_of : ℕ → Lin → List ℤ → ℕ → ℤ
column_of size form m i = word_of (less_upper (word (size + 1) m) i (coef_at form.coefs) form.constant.low size)

abbrev assigned_words : ℕ → ℕ → Lin → List ℤ → ℕ → ℕ → ℤ
assigned_words size to form m i j =
    four (nat_eq i j) (nat_eq i to) (nat_eq j to) (word (size + 1) m i j) (row_of size form m j) (column_of size form m i) (word (size + 1) m i j)

pub are_assigned : (size to : ℕ) (form : Lin) (m : List ℤ) → to ≤ size → AreAssigned size (word (size + 1) m) to form (word (size + 1) (assigned size to form m))
are_assigned size to form m within = record {
  row = λ j h ne. word_at size (assigned_words size to form m) to j (omega arith) (omega arith) ∙ row_chosen to j to (word (size + 1) m to j) (row_of size form m j) (column_of size form m to) (word (size + 1) m to j) (λ e. ne (sym e)) refl;
  column = λ i h ne. word_at size (assigned_words size to form m) i to (omega arith) (omega arith) ∙ column_chosen i to to (word (size + 1) m i to) (row_of size form m to) (column_of size form m i) (word (size + 1) m i to) ne ne refl;
  others = λ i j h g off apart. word_at size (assigned_words size to form m) i j (omega arith) (omega arith) ∙ other_chosen i j to (word (size + 1) m i j) (row_of size form m j) (column_of size form m i) (word (size + 1) m i j) refl off apart;
}

pub assigned_stands : (size to : ℕ) (form : Lin) (m : List ℤ) (cells : ℕ → Option ℤ) (z : ℤ) → size ≤ 8 → IsOver size form → 0 < to → to ≤ size → StandsIn (size + 1) (word (size + 1) m) cells → IsValue size cells form z → StandsIn (size + 1) (word (size + 1) (assigned size to form m)) (with_value cells to z)
assigned_stands size to form m cells z few over some within stands is =
    stands_assigned size (word (size + 1) m) (word (size + 1) (assigned size to form m)) cells to form z few over some within stands is (are_assigned size to form m within)

-- ---- demanded

are_demanded : (size : ℕ) (form : Lin) (m : List ℤ) → AreDemanded size (word (size + 1) m) form (word (size + 1) (demanded size form m))
are_demanded size form m = record { words = λ i j h g. word_at size (lowered (word (size + 1) m) (coef_at form.coefs) form.constant.low size) i j (omega arith) (omega arith) }

pub demanded_stands : (size : ℕ) (form : Lin) (m : List ℤ) (cells : ℕ → Option ℤ) → size ≤ 8 → IsOver size form → StandsIn (size + 1) (word (size + 1) m) cells → IsMet size cells form → StandsIn (size + 1) (word (size + 1) (demanded size form m)) cells
demanded_stands size form m cells few over stands met =
    stands_demanded size (word (size + 1) m) (word (size + 1) (demanded size form m)) cells form few over stands met (are_demanded size form m)

-- ---- the lesser of two

differ_of : (x y z : ℤ) (v w : Option ℤ) → z ≡ int_min x y → (IsBound x → DifferBy x v w) → (IsBound y → DifferBy y v w) → IsBound z → DifferBy z v w
differ_of x y z v w e first last =
    subst (λ (c : ℤ). IsBound c → DifferBy c v w) (sym e) (min_is_one (λ (c : ℤ). IsBound c → DifferBy c v w) x y first last)

pub lesser_stands : (size : ℕ) (a b : List ℤ) (cells : ℕ → Option ℤ) → StandsIn (size + 1) (word (size + 1) a) cells → StandsIn (size + 1) (word (size + 1) b) cells → StandsIn (size + 1) (word (size + 1) (lesser size a b)) cells
lesser_stands size a b cells first last = record {
  bounded = λ i j h g ne bound.
      differ_of (word (size + 1) a i j) (word (size + 1) b i j) (word (size + 1) (lesser size a b) i j) (value_at cells i) (value_at cells j)
      (word_at size (λ i j. int_min (word (size + 1) a i j) (word (size + 1) b i j)) i j h g) (first.bounded i j h g ne) (last.bounded i j h g ne) bound;
}
