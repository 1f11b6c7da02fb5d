-- The least bound that a matrix shows of a linear form.
use Rattle.std.specs.Prelude.{ℕ, zero, suc, ◌+◌, ◌-◌, nat_eq, if◌then◌else◌, List, ℤ, pos, negsuc, slice_index_or, Option, Some, None}
use Rattle.diff_bounds.specs.declared.form.lin.Lin.{Lin}
use Rattle.diff_bounds.specs.Matrix.{word}
use Rattle.diff_bounds.specs.Numbers.{number_of, added, lesser, cut, times}

-- Here a matrix is a function of two places, and a form has a coefficient for each place from 1 to n.

-- a coefficient times the value at a place, by the value's bound against 0
abbrev pub term : (ℕ → ℕ → ℤ) → ℕ → ℤ → Option ℤ
term w place (pos zero) = Some (pos 0)
term w place (pos (suc k)) = times (suc k) (number_of (w place 0))
term w place (negsuc k) = times (suc k) (number_of (w 0 place))

abbrev pub terms : (ℕ → ℕ → ℤ) → (ℕ → ℤ) → ℕ → Option ℤ
terms w c zero = Some (pos 0)
terms w c (suc n) = added (terms w c n) (term w (suc n) (c (suc n)))

-- the coefficients, but 0 at two places
abbrev pub without : ℕ → ℕ → (ℕ → ℤ) → ℕ → ℤ
without x y c k = if nat_eq k x then pos 0 else (if nat_eq k y then pos 0 else c k)

-- every value by its bound against 0
abbrev pub by_zero : (ℕ → ℕ → ℤ) → (ℕ → ℤ) → ℤ → ℕ → Option ℤ
by_zero w c high n = cut (added (terms w c n) (Some high))

-- two places with coefficients k and -k by the bound of their difference, the others against 0
abbrev pub by_pair : (ℕ → ℕ → ℤ) → (ℕ → ℤ) → ℤ → ℕ → ℕ → ℕ → ℤ → ℤ → Option ℤ
by_pair w c high n x y (pos (suc k)) (negsuc j) =
    if nat_eq k j then cut (added (times (suc k) (number_of (w x y))) (added (terms w (without x y c) n) (Some high))) else None
by_pair w c high n x y _ _ = None

abbrev pub least_to : ℕ → (ℕ → Option ℤ) → Option ℤ
least_to zero f = None
least_to (suc n) f = lesser (least_to n f) (f (suc n))

-- the least of all these bounds
abbrev pub upper : (ℕ → ℕ → ℤ) → (ℕ → ℤ) → ℤ → ℕ → Option ℤ
upper w c high n = lesser (by_zero w c high n) (least_to n (λ x. least_to n (λ y. by_pair w c high n x y (c x) (c y))))

-- the coefficient of a place, places counted from 1
abbrev pub coef_at : List ℤ → ℕ → ℤ
coef_at coefs place = slice_index_or coefs (place - 1) (pos 0)

-- the bound that the matrix of a pack of so many cells shows of a form over its cells
abbrev pub upper_of : ℕ → List ℤ → Lin → Option ℤ
upper_of size m form = upper (word (size + 1) m) (coef_at form.coefs) form.constant.high size
