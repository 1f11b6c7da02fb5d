-- The first rule in a table that is broken, and the first line that breaks it.
use Rattle.std.specs.Prelude.{◌≡◌, ℕ, ◌≤◌, min, Bool, true, false, List, [], ◌∷◌, ◌++◌, Option, Some, None}
use Rattle.std.specs.List.{AllByRecursion, Contains}

-- the line is among these, and none of them is before it
pub record IsLeast (lines : List ℕ) (line : ℕ) : Type 0 where
  pub among : Contains lines line
  pub first : AllByRecursion (λ l. line ≤ l) lines

-- no rule of the table is broken at any line
abbrev pub AreKept : {R : Type 0} → (R → List ℕ) → List R → Type 0
AreKept lines table = AllByRecursion (λ r. lines r ≡ []) table

-- The rule stands in the table behind rules that are kept, and it is broken: at this line first.
pub record IsFirstBroken {R : Type 0} (lines : R → List ℕ) (table : List R) (rule : R) (line : ℕ) : Type 0 where
  pub before : List R
  pub behind : List R
  pub stands : table ≡ before ++ rule ∷ behind
  pub kept : AreKept lines before
  pub least : IsLeast (lines rule) line

-- the lesser of two lines, where there are any
abbrev pub lesser : Option ℕ → Option ℕ → Option ℕ
lesser None b = b
lesser (Some a) None = Some a
lesser (Some a) (Some b) = Some (min a b)

-- the least of all, where there are any
abbrev pub least : List ℕ → Option ℕ
least [] = None
least (n ∷ ns) = lesser (Some n) (least ns)

-- a line among others, where it is broken
abbrev pub line_if : Bool → ℕ → List ℕ → List ℕ
line_if true line others = line ∷ others
line_if false line others = others

-- the least so far, with a line more where it is broken
abbrev pub noted : Option ℕ → Bool → ℕ → Option ℕ
noted least_so_far true line = lesser least_so_far (Some line)
noted least_so_far false line = least_so_far

-- a rule with its first line, or else what is first of the others
abbrev pub or_first : {R : Type 0} → R → Option ℕ → Option (R × ℕ) → Option (R × ℕ)
or_first rule None others = others
or_first rule (Some line) others = Some (rule, line)

-- the first rule of the table that is broken, with its first line
abbrev pub first_broken : {R : Type 0} → (R → List ℕ) → List R → Option (R × ℕ)
first_broken lines [] = None
first_broken lines (r ∷ rs) = or_first r (least (lines r)) (first_broken lines rs)
