-- Words put into rows and columns one by one.
use Rattle.std.proofs.Common.{◌≡◌, ◌≢◌, ℕ, ◌+◌, ◌*◌, ◌<◌, List, length, get_or, set, ℤ, pos, inl, inr, sym, ap, subst, ◌∙◌, arith}
use Rattle.std.proofs.lemmas.Bool.{cases_eq}
use Rattle.std.proofs.lemmas.List.{get_or-set_other}
use Rattle.std.proofs.lemmas.Grind.{get_or-set_at}
use Rattle.diff_bounds.specs.Matrix.{word}
use Rattle.diff_bounds.proofs.Places.{word-set_same, word-set_other}

-- those before this place are there
pub record ArePut (f : ℕ → ℤ) (count : ℕ) (words : List ℤ) : Type 0 where
  pub put : (k : ℕ) → k < count → get_or words k (pos 0) ≡ f k

pub put_more : (f : ℕ → ℤ) (count : ℕ) (words : List ℤ) (x : ℤ) → count < length words → x ≡ f count → ArePut f count words → ArePut f (count + 1) (set words count x)
put_more f count words x h e are = record {
  put = λ k l. elim (cases_eq k count) as (λ _. get_or (set words count x) k (pos 0) ≡ f k) [
    | inl same ↦ get_or-set_at words count k x (pos 0) same h ∙ e ∙ ap f (sym same)
    | inr ne ↦ get_or-set_other words count k x (pos 0) ne ∙ are.put k (omega arith)
  ];
}

-- ---- a row, but for the diagonal
pub record IsRowPut (n : ℕ) (old words : List ℤ) (row column : ℕ) (m : List ℤ) : Type 0 where
  pub done : (j : ℕ) → j < column → j ≢ row → word n m row j ≡ get_or words j (pos 0)
  pub others : (i j : ℕ) → i < n → j < n → i ≢ row → word n m i j ≡ word n old i j
  pub diagonal : word n m row row ≡ word n old row row

pub row_more : (n : ℕ) (old words : List ℤ) (row column : ℕ) (m : List ℤ) (at : ℕ) (x : ℤ) → length m ≡ n * n → row < n → column < n → (column ≡ row → ⊥) → at ≡ row * n + column → x ≡ get_or words column (pos 0) → IsRowPut n old words row column m → IsRowPut n old words row (column + 1) (set m at x)
row_more n old words row column m at x fits h g apart is e are = record {
  done = λ j k ne. elim (cases_eq j column) as (λ _. word n (set m at x) row j ≡ get_or words j (pos 0)) [
    | inl same ↦ subst (λ (c : ℕ). word n (set m at x) row c ≡ get_or words c (pos 0)) (sym same) (word-set_same n m row column at x fits h g is ∙ e)
    | inr other ↦ word-set_other n m row column at x row j g (omega arith) is (λ p q. other q) ∙ are.done j (omega arith) ne
  ];
  others = λ i j k b ne. word-set_other n m row column at x i j g b is (λ p q. ne p) ∙ are.others i j k b ne;
  diagonal = word-set_other n m row column at x row row g h is (λ p q. apart (sym q)) ∙ are.diagonal;
}

pub row_skipped : (n : ℕ) (old words : List ℤ) (row column : ℕ) (m : List ℤ) → column ≡ row → IsRowPut n old words row column m → IsRowPut n old words row (column + 1) m
row_skipped n old words row column m same are = record {
  done = λ j k ne. are.done j (omega arith) ne;
  others = are.others;
  diagonal = are.diagonal;
}

-- ---- a column, but for the diagonal
pub record IsColumnPut (n : ℕ) (old words : List ℤ) (column row : ℕ) (m : List ℤ) : Type 0 where
  pub done : (i : ℕ) → i < row → i ≢ column → word n m i column ≡ get_or words i (pos 0)
  pub others : (i j : ℕ) → i < n → j < n → j ≢ column → word n m i j ≡ word n old i j
  pub diagonal : word n m column column ≡ word n old column column

pub column_more : (n : ℕ) (old words : List ℤ) (column row : ℕ) (m : List ℤ) (at : ℕ) (x : ℤ) → length m ≡ n * n → row < n → column < n → (row ≡ column → ⊥) → at ≡ row * n + column → x ≡ get_or words row (pos 0) → IsColumnPut n old words column row m → IsColumnPut n old words column (row + 1) (set m at x)
column_more n old words column row m at x fits h g apart is e are = record {
  done = λ i k ne. elim (cases_eq i row) as (λ _. word n (set m at x) i column ≡ get_or words i (pos 0)) [
    | inl same ↦ subst (λ (r : ℕ). word n (set m at x) r column ≡ get_or words r (pos 0)) (sym same) (word-set_same n m row column at x fits h g is ∙ e)
    | inr other ↦ word-set_other n m row column at x i column g g is (λ p q. other p) ∙ are.done i (omega arith) ne
  ];
  others = λ i j k b ne. word-set_other n m row column at x i j g b is (λ p q. ne q) ∙ are.others i j k b ne;
  diagonal = word-set_other n m row column at x column column g g is (λ p q. apart (sym p)) ∙ are.diagonal;
}

pub column_skipped : (n : ℕ) (old words : List ℤ) (column row : ℕ) (m : List ℤ) → row ≡ column → IsColumnPut n old words column row m → IsColumnPut n old words column (row + 1) m
column_skipped n old words column row m same are = record {
  done = λ i k ne. are.done i (omega arith) ne;
  others = are.others;
  diagonal = are.diagonal;
}
