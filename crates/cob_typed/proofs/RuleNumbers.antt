-- Rules are told apart by their numbers.
use Rattle.std.proofs.Common.{◌≡◌, ℕ, ◌==◌, if◌then◌else◌, refl, sym, ap, ◌∙◌}
use Rattle.cob_data.specs.declared.end.Rule.{Rule}
use Rattle.cob_data.specs.declared.end.Rule.TheVariants.{L1, L2, L3, L4, L5, L6, L7, L8, L9, L10, L11, L12, Q1, Q2, Q3, Q4, Q5, Q6, Q7, Q8, Q9, Q10, Q11, N5, N1, N2, N3, N4}
use Rattle.cob_typed.specs.Typing.{rule_number, RulesAreToldApart}

abbrev rule_of : ℕ → Rule
rule_of n =
    if n == 1 then Q1
    else if n == 2 then Q2
    else if n == 3 then Q3
    else if n == 4 then Q4
    else if n == 5 then Q5
    else if n == 6 then Q6
    else if n == 7 then Q7
    else if n == 8 then Q8
    else if n == 9 then Q9
    else if n == 10 then Q10
    else if n == 11 then Q11
    else if n == 12 then N5
    else if n == 13 then L1
    else if n == 14 then L2
    else if n == 15 then L3
    else if n == 16 then L4
    else if n == 17 then L5
    else if n == 18 then L6
    else if n == 19 then L7
    else if n == 20 then L8
    else if n == 21 then L9
    else if n == 22 then L10
    else if n == 23 then L11
    else if n == 24 then L12
    else if n == 25 then N1
    else if n == 26 then N2
    else if n == 27 then N3
    else N4

own : (r : Rule) → rule_of (rule_number r) ≡ r
own Q1 = refl
own Q2 = refl
own Q3 = refl
own Q4 = refl
own Q5 = refl
own Q6 = refl
own Q7 = refl
own Q8 = refl
own Q9 = refl
own Q10 = refl
own Q11 = refl
own N5 = refl
own L1 = refl
own L2 = refl
own L3 = refl
own L4 = refl
own L5 = refl
own L6 = refl
own L7 = refl
own L8 = refl
own L9 = refl
own L10 = refl
own L11 = refl
own L12 = refl
own N1 = refl
own N2 = refl
own N3 = refl
own N4 = refl

pub told_apart : RulesAreToldApart
told_apart a b e = sym (own a) ∙ (ap rule_of e ∙ own b)
