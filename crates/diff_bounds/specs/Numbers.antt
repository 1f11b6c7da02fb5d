-- Numbers that may be none. None is greater than every number.
use Rattle.std.specs.Prelude.{ℕ, ℤ, pos, ◌+ℤ◌, ◌*ℤ◌, ◌≤ℤ◌, int_lt, if◌then◌else◌, Option, Some, None}
use Rattle.std.specs.Int.{int_min}
use Rattle.diff_bounds.specs.Matrix.{none}
use Rattle.diff_bounds.specs.Paths.{cut_of}

-- a word as a number, where it is one
abbrev pub number_of : ℤ → Option ℤ
number_of x = if int_lt x none then Some x else None

abbrev pub word_of : Option ℤ → ℤ
word_of (Some x) = x
word_of None = none

abbrev pub added : Option ℤ → Option ℤ → Option ℤ
added (Some x) (Some y) = Some (x +ℤ y)
added (Some x) None = None
added None y = None

abbrev pub lesser : Option ℤ → Option ℤ → Option ℤ
lesser (Some x) (Some y) = Some (int_min x y)
lesser (Some x) None = Some x
lesser None y = y

-- cut as a least sum of a closure is
abbrev pub cut : Option ℤ → Option ℤ
cut (Some z) = number_of (cut_of z)
cut None = None

-- a multiple, cut
abbrev pub times : ℕ → Option ℤ → Option ℤ
times k (Some x) = cut (Some (pos k *ℤ x))
times k None = None

-- t is no greater
abbrev pub IsAbove : ℤ → Option ℤ → Type 0
IsAbove t (Some u) = t ≤ℤ u
IsAbove t None = Unit {0}

-- the first is no greater than the second
abbrev pub IsUnder : Option ℤ → Option ℤ → Type 0
IsUnder (Some x) (Some y) = x ≤ℤ y
IsUnder None (Some y) = ⊥
IsUnder o None = Unit {0}
