-- What typing gives: a value, and the rules that are broken on the way.
use Rattle.std.specs.Prelude.{ℕ, Bool, true, false, List, [], ◌∷◌, ◌++◌, Option, Some, None}
use Rattle.cob_data.specs.declared.end.Rule.{Rule}
use Rattle.cob_typed_exprs.specs.declared.finding.Finding.{Finding}

-- the rules that are broken, in the order in which they are met
pub data Broken : Type 0 where
  kept : Broken
  one : Rule → Broken
  both : Broken → Broken → Broken

abbrev pub unless : Rule → Bool → Broken
unless rule true = kept
unless rule false = one rule

abbrev pub finding : Rule → ℕ → Finding
finding rule line = record { rule = rule; line = line }

-- what is noted behind what was noted before, all of it on one line
abbrev pub noted : ℕ → List Finding → Broken → List Finding
noted line findings kept = findings
noted line findings (one rule) = findings ++ finding rule line ∷ []
noted line findings (both a b) = noted line (noted line findings a) b

pub record Judged (A : Type 0) : Type 0 where
  pub value : A
  pub broken : Broken

abbrev pub sound : {A : Type 0} → A → Judged A
sound a = record { value = a; broken = kept }

abbrev pub breaks : {A : Type 0} → Rule → A → Judged A
breaks rule a = record { value = a; broken = one rule }

-- one behind the other; the second may use the first one's value
infixl 10 ◌>>=◌
abbrev pub ◌>>=◌ : {A B : Type 0} → Judged A → (A → Judged B) → Judged B
a >>= next = record { value = (next a.value).value; broken = both a.broken (next a.value).broken }

abbrev pub seen_as : {A B : Type 0} → (A → B) → Judged A → Judged B
seen_as view a = record { value = view a.value; broken = a.broken }

-- the value, where the demand is met or not
abbrev pub demand : {A : Type 0} → Rule → Bool → A → Judged A
demand rule met a = record { value = a; broken = unless rule met }

-- a demand alone
abbrev pub demanded : Rule → Bool → Judged (Unit {0})
demanded rule met = demand rule met tt

-- the second one, with the first one's faults before its own
abbrev pub beside : {A B : Type 0} → Judged A → Judged B → Judged B
beside a b = record { value = b.value; broken = both a.broken b.broken }

abbrev pub each_of : {A B : Type 0} → (A → Judged B) → List A → Judged (List B)
each_of judge [] = sound []
each_of judge (a ∷ as_) =
    record { value = (judge a).value ∷ (each_of judge as_).value; broken = both (judge a).broken (each_of judge as_).broken }

abbrev pub if_there : {A B : Type 0} → (A → Judged B) → Option A → Judged (Option B)
if_there judge None = sound None
if_there judge (Some a) = seen_as Some (judge a)
