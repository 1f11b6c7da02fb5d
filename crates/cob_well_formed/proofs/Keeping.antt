-- Rules that are kept, in lists of what was found and in what was judged.
use Rattle.std.proofs.Common.{◌≡◌, ℕ, ◌≤◌, ◌<◌, Bool, true, false, eqb, List, [], ◌∷◌, ◌++◌, refl, arith}
use Rattle.rule_order.specs.Order.{line_if, AreKept}
use Rattle.cob_data.specs.declared.end.Rule.{Rule}
use Rattle.cob_data.specs.declared.end.Rule.TheVariants.{L1, L2, L3, L4, L5, L6, L7, L8, L9, L10, L11, L12, Q1, Q2, Q3, Q4, Q5, Q6, Q7, Q8, Q9, Q10, Q11, N5, N1, N2, N3, N4}
use Rattle.cob_typed_exprs.specs.Judged.{Broken, kept, one, both, unless}
use Rattle.cob_typed.specs.Statements.{found_on}
use Rattle.cob_typed.specs.Typing.{rule_number, lines_among, typing_rules}

-- ---- lists

-- no rule on statements is among those found
abbrev pub IsSilent : List (Rule × ℕ) → Type 0
IsSilent found = AreKept (λ r. lines_among r found) typing_rules

line_none : (x : Bool) (line : ℕ) (others : List ℕ) → line_if x line others ≡ [] → (x ≡ false) × (others ≡ [])
line_none true line others e = absurd (cc)
line_none false line others e = (refl, e)

none_left : (rule : Rule) (xs ys : List (Rule × ℕ)) → lines_among rule (xs ++ ys) ≡ [] → lines_among rule xs ≡ []
none_left rule [] ys none = refl
none_left rule (x ∷ xs) ys none =
    let parts = line_none (eqb (rule_number x.0) (rule_number rule)) x.1 (lines_among rule (xs ++ ys)) none in
    rw (parts.0) (none_left rule xs ys parts.1)

none_right : (rule : Rule) (xs ys : List (Rule × ℕ)) → lines_among rule (xs ++ ys) ≡ [] → lines_among rule ys ≡ []
none_right rule [] ys none = none
none_right rule (x ∷ xs) ys none =
    let parts = line_none (eqb (rule_number x.0) (rule_number rule)) x.1 (lines_among rule (xs ++ ys)) none in
    none_right rule xs ys parts.1

all_left : (rs : List Rule) (xs ys : List (Rule × ℕ)) → AreKept (λ r. lines_among r (xs ++ ys)) rs →
    AreKept (λ r. lines_among r xs) rs
all_left [] xs ys none = tt
all_left (r ∷ rs) xs ys none = (none_left r xs ys none.0, all_left rs xs ys none.1)

all_right : (rs : List Rule) (xs ys : List (Rule × ℕ)) → AreKept (λ r. lines_among r (xs ++ ys)) rs →
    AreKept (λ r. lines_among r ys) rs
all_right [] xs ys none = tt
all_right (r ∷ rs) xs ys none = (none_right r xs ys none.0, all_right rs xs ys none.1)

pub silent_left : (xs ys : List (Rule × ℕ)) → IsSilent (xs ++ ys) → IsSilent xs
silent_left xs ys none = all_left typing_rules xs ys none

pub silent_right : (xs ys : List (Rule × ℕ)) → IsSilent (xs ++ ys) → IsSilent ys
silent_right xs ys none = all_right typing_rules xs ys none

-- ---- what was judged

-- a rule that is broken is none of those on statements
abbrev pub IsKept : Broken → Type 0
IsKept kept = Unit {0}
IsKept (one rule) = 12 < rule_number rule
IsKept (both a b) = IsKept a × IsKept b

other_rule : (rule : Rule) (line : ℕ) → IsSilent ((rule, line) ∷ []) → 12 < rule_number rule
other_rule Q1 line none = let h = none.0 in absurd (cc)
other_rule Q2 line none = let h = none.1.0 in absurd (cc)
other_rule Q3 line none = let h = none.1.1.0 in absurd (cc)
other_rule Q4 line none = let h = none.1.1.1.0 in absurd (cc)
other_rule Q5 line none = let h = none.1.1.1.1.0 in absurd (cc)
other_rule Q6 line none = let h = none.1.1.1.1.1.0 in absurd (cc)
other_rule Q7 line none = let h = none.1.1.1.1.1.1.0 in absurd (cc)
other_rule Q8 line none = let h = none.1.1.1.1.1.1.1.0 in absurd (cc)
other_rule Q9 line none = let h = none.1.1.1.1.1.1.1.1.0 in absurd (cc)
other_rule Q10 line none = let h = none.1.1.1.1.1.1.1.1.1.0 in absurd (cc)
other_rule Q11 line none = let h = none.1.1.1.1.1.1.1.1.1.1.0 in absurd (cc)
other_rule N5 line none = let h = none.1.1.1.1.1.1.1.1.1.1.1.0 in absurd (cc)
other_rule N1 line none = omega arith
other_rule N2 line none = omega arith
other_rule N3 line none = omega arith
other_rule N4 line none = omega arith
other_rule L1 line none = omega arith
other_rule L2 line none = omega arith
other_rule L3 line none = omega arith
other_rule L4 line none = omega arith
other_rule L5 line none = omega arith
other_rule L6 line none = omega arith
other_rule L7 line none = omega arith
other_rule L8 line none = omega arith
other_rule L9 line none = omega arith
other_rule L10 line none = omega arith
other_rule L11 line none = omega arith
other_rule L12 line none = omega arith

pub kept_on : (line : ℕ) (b : Broken) → IsSilent (found_on line b) → IsKept b
kept_on line kept none = tt
kept_on line (one rule) none = other_rule rule line none
kept_on line (both a b) none =
    (kept_on line a (silent_left (found_on line a) (found_on line b) none), kept_on line b (silent_right (found_on line a) (found_on line b) none))

-- what a rule that is kept demands holds
pub met : (rule : Rule) (x : Bool) → rule_number rule ≤ 12 → IsKept (unless rule x) → x ≡ true
met rule true some is = refl
met rule false some is = absurd (omega (arith, some, is))
