-- Words by their rows and columns.
use Rattle.std.proofs.Common.{◌≡◌, ℕ, ◌+◌, ◌*◌, ◌<◌, List, ℤ, pos, length, get_or, set, sym, subst, ◌∙◌, arith}
use Rattle.std.proofs.lemmas.List.{get_or-set_same, get_or-set_other}
use Rattle.std.proofs.lemmas.Nat.{mul-add-lt, same_from_place}
use Rattle.diff_bounds.specs.Matrix.{word}

pub place_fits : (n i j : ℕ) → i < n → j < n → i * n + j < n * n
place_fits n i j h k = mul-add-lt i n j n h k

pub word-set_same : (n : ℕ) (m : List ℤ) (i j at : ℕ) (x : ℤ) → length m ≡ n * n → i < n → j < n → at ≡ i * n + j → word n (set m at x) i j ≡ x
word-set_same n m i j at x e h k is =
    subst (λ (p : ℕ). get_or (set m p x) (i * n + j) (pos 0) ≡ x) (sym is)
    (get_or-set_same m (i * n + j) x (pos 0) (omega (arith, place_fits n i j h k)))

pub word-set_other : (n : ℕ) (m : List ℤ) (i j at : ℕ) (x : ℤ) (r c : ℕ) → j < n → c < n → at ≡ i * n + j → (r ≡ i → c ≡ j → ⊥) → word n (set m at x) r c ≡ word n m r c
word-set_other n m i j at x r c h k is ne =
    get_or-set_other m at (r * n + c) x (pos 0) (λ e. let same = same_from_place r c i j n k h (e ∙ is) in ne same.0 same.1)
