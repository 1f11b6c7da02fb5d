-- Each element of a list once, where it comes first; and the first so many of these.
use Rattle.std.specs.Prelude.{ℕ, Bool, false, ◌||◌, nat_le, if◌then◌else◌, List, [], ◌∷◌, ◌++◌, length, take}
use Rattle.std.specs.List.{fold}

module _ {A : Type 0} (same : A → A → Bool) where
  abbrev pub holds : List A → A → Bool
  holds [] x = false
  holds (y ∷ ys) x = same y x || holds ys x

  abbrev pub added : List A → A → List A
  added ys x = if holds ys x then ys else ys ++ x ∷ []

  -- the elements that didn't come before
  abbrev pub distinct : List A → List A
  distinct xs = fold added [] xs

  abbrev pub first_distinct : ℕ → List A → List A
  first_distinct n xs = take n (distinct xs)

  -- ---- how the code goes

  abbrev pub noted : ℕ → List A → A → List A
  noted n ys x = if holds ys x || nat_le n (length ys) then ys else ys ++ x ∷ []
