-- The least line and the first broken rule: as functions, and in words.
use Rattle.std.proofs.Common.{◌≡◌, ℕ, ◌<◌, ◌≤◌, zero, suc, min, Bool, true, false, leb, ◌⊎◌, inl, inr, List, [], ◌∷◌, ◌++◌, length, Option, Some, None, refl, ap, ◌∙◌, sym, subst, arith}
use Rattle.std.proofs.lemmas.Bool.Decides.{nat_tests}
use Rattle.std.specs.List.{AllByRecursion, Contains}
use Rattle.rule_order.specs.Order.{IsLeast, AreKept, IsFirstBroken, lesser, least, line_if, noted, or_first, first_broken}

pub lesser_none : (a : Option ℕ) → lesser a None ≡ a
lesser_none None = refl
lesser_none (Some a) = refl

pub lesser_assoc : (a b c : Option ℕ) → lesser (lesser a b) c ≡ lesser a (lesser b c)
lesser_assoc None b c = refl
lesser_assoc (Some a) None c = refl
lesser_assoc (Some a) (Some b) None = refl
lesser_assoc (Some a) (Some b) (Some c) = ap Some (omega arith)

pub least_append : (xs ys : List ℕ) → least (xs ++ ys) ≡ lesser (least xs) (least ys)
least_append [] ys = refl
least_append (x ∷ xs) ys = ap (lesser (Some x)) (least_append xs ys) ∙ sym (lesser_assoc (Some x) (least xs) (least ys))

-- a loop that notes one line after another
pub noted_step : (so_far : Option ℕ) (broken : Bool) (line : ℕ) (others : List ℕ) (next all : Option ℕ) → next ≡ noted so_far broken line →
    lesser so_far (least (line_if broken line others)) ≡ all → lesser next (least others) ≡ all
noted_step so_far true line others next all is same = ap (λ n. lesser n (least others)) is ∙ lesser_assoc so_far (Some line) (least others) ∙ same
noted_step so_far false line others next all is same = ap (λ n. lesser n (least others)) is ∙ same

-- ---- the least line

later_than : (a b : ℕ) (ls : List ℕ) → a ≤ b → AllByRecursion (λ l. b ≤ l) ls → AllByRecursion (λ l. a ≤ l) ls
later_than a b [] h all = tt
later_than a b (l ∷ ls) h all = (omega (arith, h, all.0), later_than a b ls h all.1)

contains_later : (l : ℕ) (ls : List ℕ) (n : ℕ) → Contains ls n → Contains (l ∷ ls) n
contains_later l ls n (k, within, is) = (suc k, omega (arith, within), is)

all_contains : (n : ℕ) (ls : List ℕ) (m : ℕ) → AllByRecursion (λ l. n ≤ l) ls → Contains ls m → n ≤ m
all_contains n [] m all (k, within, is) = absurd (omega (arith, within))
all_contains n (l ∷ ls) m all (zero, within, is) = let e : l ≡ m = is in omega (arith, e, all.0)
all_contains n (l ∷ ls) m all (suc k, within, is) = all_contains n ls m all.1 (k, omega (arith, within), is)

least_none_at : (l : ℕ) (o : Option ℕ) → lesser (Some l) o ≡ None → ⊥
least_none_at l None e = cc
least_none_at l (Some m) e = cc

pub least_none : (ls : List ℕ) → least ls ≡ None → ls ≡ []
least_none [] e = refl
least_none (l ∷ ls) e = absurd (least_none_at l (least ls) e)

nat_le_or_at : (a b : ℕ) (x : Bool) → leb a b ≡ x → (a ≤ b) ⊎ (b < a)
nat_le_or_at a b true e = let h : a ≤ b = grind (arith, nat_tests) in inl h
nat_le_or_at a b false e = let h : b < a = grind (arith, nat_tests) in inr h

nat_le_or : (a b : ℕ) → (a ≤ b) ⊎ (b < a)
nat_le_or a b = nat_le_or_at a b (leb a b) refl

some_is : (a b : ℕ) → Some a ≡ Some b → a ≡ b
some_is a b e = cc

least_with : (l : ℕ) (ls : List ℕ) (m n : ℕ) → IsLeast ls m → min l m ≡ n → IsLeast (l ∷ ls) n
least_with l ls m n is e =
    elim (nat_le_or l m) [
      | inl h ↦ (let same : l ≡ n = omega (arith, h, e) in record { among = (zero, omega arith, same); first = (omega (arith, same), later_than n m ls (omega (arith, h, same)) is.first) })
      | inr h ↦ (let same : m ≡ n = omega (arith, h, e) in record { among = contains_later l ls n (subst (λ (x : ℕ). Contains ls x) same is.among); first = (omega (arith, h, same), later_than n m ls (omega (arith, same)) is.first) })
    ]

least_is_at : (l : ℕ) (ls : List ℕ) (n : ℕ) (o : Option ℕ) → least ls ≡ o → ((m : ℕ) → least ls ≡ Some m → IsLeast ls m) → lesser (Some l) o ≡ Some n → IsLeast (l ∷ ls) n
least_is_at l ls n None none others e =
    let empty : ls ≡ [] = least_none ls none in
    let same : l ≡ n = some_is l n e in
    record { among = (zero, omega arith, same); first = (omega (arith, same), rw empty tt) }
least_is_at l ls n (Some m) is others e = least_with l ls m n (others m is) (some_is (min l m) n e)

pub least_is : (ls : List ℕ) (n : ℕ) → least ls ≡ Some n → IsLeast ls n
least_is [] n e = absurd (cc)
least_is (l ∷ ls) n e = least_is_at l ls n (least ls) refl (least_is ls) e

is_least_at : (ls : List ℕ) (n : ℕ) (o : Option ℕ) → least ls ≡ o → IsLeast ls n → o ≡ Some n
is_least_at ls n None none is =
    let empty : ls ≡ [] = least_none ls none in
    let inside : is.among.0 < length ls = is.among.1 in
    absurd (omega (arith, inside, ap length empty))
is_least_at ls n (Some m) e is =
    let other : IsLeast ls m = least_is ls m e in
    let low = all_contains n ls m is.first other.among in
    let high = all_contains m ls n other.first is.among in
    ap Some (omega (arith, low, high))

pub is_least : (ls : List ℕ) (n : ℕ) → IsLeast ls n → least ls ≡ Some n
is_least ls n is = is_least_at ls n (least ls) refl is

-- ---- the first broken rule

pair_first : {R : Type 0} (a b : R × ℕ) → Some a ≡ Some b → a.0 ≡ b.0
pair_first a b e = let same : a ≡ b = cc in rw same refl

pair_second : {R : Type 0} (a b : R × ℕ) → Some a ≡ Some b → a.1 ≡ b.1
pair_second a b e = let same : a ≡ b = cc in rw same refl

further : {R : Type 0} (lines : R → List ℕ) (t : R) (ts : List R) (r : R) (n : ℕ) → lines t ≡ [] → IsFirstBroken lines ts r n → IsFirstBroken lines (t ∷ ts) r n
further lines t ts r n kept is = record {
  before = t ∷ is.before;
  behind = is.behind;
  stands = ap (λ xs. t ∷ xs) is.stands;
  kept = (kept, is.kept);
  least = is.least;
}

first_is_at : {R : Type 0} (lines : R → List ℕ) (t : R) (ts : List R) (r : R) (n : ℕ) (o : Option ℕ) → least (lines t) ≡ o → (first_broken lines ts ≡ Some (r, n) → IsFirstBroken lines ts r n) →
    or_first t o (first_broken lines ts) ≡ Some (r, n) → IsFirstBroken lines (t ∷ ts) r n
first_is_at lines t ts r n None none others e = further lines t ts r n (least_none (lines t) none) (others e)
first_is_at lines t ts r n (Some m) is others e =
    let same_rule : t ≡ r = pair_first (t, m) (r, n) e in
    let same_line : m ≡ n = pair_second (t, m) (r, n) e in
    let here : IsLeast (lines t) m = least_is (lines t) m is in
    record {
      before = [];
      behind = ts;
      stands = ap (λ x. x ∷ ts) same_rule;
      kept = tt;
      least = rw (← same_rule, ← same_line) here;
    }

pub first_is : {R : Type 0} (lines : R → List ℕ) (table : List R) (r : R) (n : ℕ) → first_broken lines table ≡ Some (r, n) → IsFirstBroken lines table r n
first_is lines [] r n e = absurd (cc)
first_is lines (t ∷ ts) r n e = first_is_at lines t ts r n (least (lines t)) refl (first_is lines ts r n) e

kept_is_at : {R : Type 0} (lines : R → List ℕ) (t : R) (ts : List R) (o : Option ℕ) → least (lines t) ≡ o → (first_broken lines ts ≡ None → AreKept lines ts) → or_first t o (first_broken lines ts) ≡ None → AreKept lines (t ∷ ts)
kept_is_at lines t ts None none others e = (least_none (lines t) none, others e)
kept_is_at lines t ts (Some m) is others e = absurd (cc)

pub kept_is : {R : Type 0} (lines : R → List ℕ) (table : List R) → first_broken lines table ≡ None → AreKept lines table
kept_is lines [] e = tt
kept_is lines (t ∷ ts) e = kept_is_at lines t ts (least (lines t)) refl (kept_is lines ts) e

behind_kept : {R : Type 0} (lines : R → List ℕ) (before ts : List R) → AreKept lines before → first_broken lines (before ++ ts) ≡ first_broken lines ts
behind_kept lines [] ts kept = refl
behind_kept lines (t ∷ before) ts kept = rw (kept.0) (behind_kept lines before ts kept.1)

pub is_kept : {R : Type 0} (lines : R → List ℕ) (table : List R) → AreKept lines table → first_broken lines table ≡ None
is_kept lines [] kept = refl
is_kept lines (t ∷ ts) kept = rw (kept.0) (is_kept lines ts kept.1)

pub is_first : {R : Type 0} (lines : R → List ℕ) (table : List R) (r : R) (n : ℕ) → IsFirstBroken lines table r n → first_broken lines table ≡ Some (r, n)
is_first lines table r n is =
    ap (first_broken lines) is.stands ∙ behind_kept lines is.before (r ∷ is.behind) is.kept ∙ ap (λ (o : Option ℕ). or_first r o (first_broken lines is.behind)) (is_least (lines r) n is.least)
