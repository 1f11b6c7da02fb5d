-- The answer as a function, and in words.
use Rattle.std.proofs.Common.{◌≡◌, ℕ, ◌<◌, ◌≤◌, Bool, true, false, cond, ltb, inl, inr, List, length, Option, Some, None, Result, Ok, Err, refl, sym, ap, ◌∙◌, subst, arith}
use Rattle.std.proofs.lemmas.Bool.Decides.{nat_tests}
use Rattle.rule_order.specs.Order.{AreKept, IsFirstBroken, first_broken}
use Rattle.rule_order.proofs.OrderLemmas.{first_is, kept_is, is_first, is_kept}
use Rattle.cob_tree.specs.declared.tree.Tree.{Tree}
use Rattle.cob_data.specs.declared.end.Rule.{Rule}
use Rattle.cob_data.specs.declared.end.Which.{Which}
use Rattle.cob_data.specs.declared.end.Which.TheVariants.{Nesting, Items, Storage, Files, Cells, Nodes}
use Rattle.cob_data.specs.declared.end.DataEnd.{DataEnd}
use Rattle.cob_data.specs.declared.end.DataEnd.TheVariants.{Outside, Limit}
use Rattle.cob_data.specs.declared.layout.Layout.{Layout}
use Rattle.cob_data.specs.declared.description.Description.{Description}
use Rattle.cob_data.specs.declared.description.Spot.{Spot}
use Rattle.cob_data.specs.Entries.{items_of, all_entries}
use Rattle.cob_data.specs.Known.{AreLow, HasFewEntries}
use Rattle.cob_data.proofs.LowLemmas.{are_low}
use Rattle.cob_data.proofs.ReadLemmas.{descriptions_length}
use Rattle.cob_data.specs.Lengths.{forest}
use Rattle.cob_data.specs.Spots.{all_spots, nothing_above, storage_of}
use Rattle.cob_data.specs.Rules.{Facts, facts_of, broken_lines, lines_in, data_rules, count_of, limit_of, IsFirstExceeded, IsWithinLimits, storage_limit}
use Rattle.cob_data.specs.Layouts.{HasLayout, IsCause}
use Rattle.cob_data.specs.Answers.{IsAnswer, IsRefused, IsAccepted, outside_or, limit_in, refusal_in, IsJudged}
use Rattle.cob_data.proofs.SpotLemmas.{spots_length, size_forest}
use Rattle.cob_tree.specs.Limits.{token_limit}

-- ---- limits

over : (a b : ℕ) → ltb a b ≡ true → a < b
over a b e = grind (arith, nat_tests)

not_over : (a b : ℕ) → ltb a b ≡ false → b ≤ a
not_over a b e = grind (arith, nat_tests)

is_over : (a b : ℕ) → a < b → ltb a b ≡ true
is_over a b h = grind (arith, nat_tests)

is_within : (a b : ℕ) → b ≤ a → ltb a b ≡ false
is_within a b h = grind (arith, nat_tests)

abbrev pub is_exceeded : Facts → Which → Bool
is_exceeded f w = ltb (limit_of w) (count_of f w)

-- one limit after another, by their tests
abbrev pub first_limit : Facts → Bool → Bool → Bool → Option DataEnd
first_limit f x y z = cond x (Some (Limit Items (count_of f Items))) (cond y (Some (Limit Storage (count_of f Storage))) (cond z (Some (Limit Files (count_of f Files))) None))

cause_of : (t : Tree) (a b : DataEnd) → Some a ≡ Some b → IsCause t a → IsCause t b
cause_of t a b e is = let same : a ≡ b = cc in subst (λ (x : DataEnd). IsCause t x) same is

limit_cause : (t : Tree) (end : DataEnd) (x y z : Bool) → AreKept (broken_lines t) data_rules → is_exceeded (facts_of t) Items ≡ x → is_exceeded (facts_of t) Storage ≡ y → is_exceeded (facts_of t) Files ≡ z →
    first_limit (facts_of t) x y z ≡ Some end → IsCause t end
limit_cause t end true y z kept p q r e = cause_of t (Limit Items (count_of (facts_of t) Items)) end e (kept, over 512 (count_of (facts_of t) Items) p, refl)
limit_cause t end false true z kept p q r e = cause_of t (Limit Storage (count_of (facts_of t) Storage)) end e (kept, (not_over 512 (count_of (facts_of t) Items) p, over storage_limit (count_of (facts_of t) Storage) q), refl)
limit_cause t end false false true kept p q r e = cause_of t (Limit Files (count_of (facts_of t) Files)) end e (kept, (not_over 512 (count_of (facts_of t) Items) p, not_over storage_limit (count_of (facts_of t) Storage) q, over 16 (count_of (facts_of t) Files) r), refl)
limit_cause t end false false false kept p q r e = absurd (cc)

limits_kept : (t : Tree) (x y z : Bool) → is_exceeded (facts_of t) Items ≡ x → is_exceeded (facts_of t) Storage ≡ y → is_exceeded (facts_of t) Files ≡ z → first_limit (facts_of t) x y z ≡ None → IsWithinLimits t
limits_kept t true y z p q r e = absurd (cc)
limits_kept t false true z p q r e = absurd (cc)
limits_kept t false false true p q r e = absurd (cc)
limits_kept t false false false p q r e = record {
  items = not_over 512 (count_of (facts_of t) Items) p;
  storage = not_over storage_limit (count_of (facts_of t) Storage) q;
  files = not_over 16 (count_of (facts_of t) Files) r;
}

limit_refusal : (t : Tree) (w : Which) → IsFirstExceeded t w → limit_in (facts_of t) ≡ Some (Limit w (count_of (facts_of t) w))
limit_refusal t Items is = rw (is_over 512 (count_of (facts_of t) Items) is) refl
limit_refusal t Storage is = rw (is_within 512 (count_of (facts_of t) Items) is.0, is_over storage_limit (count_of (facts_of t) Storage) is.1) refl
limit_refusal t Files is = rw (is_within 512 (count_of (facts_of t) Items) is.0, is_within storage_limit (count_of (facts_of t) Storage) is.1, is_over 16 (count_of (facts_of t) Files) is.2) refl
limit_refusal t Nesting is = absurd is
limit_refusal t Cells is = absurd is
limit_refusal t Nodes is = absurd is

no_limit : (t : Tree) → IsWithinLimits t → limit_in (facts_of t) ≡ None
no_limit t is = rw (is_within 512 (count_of (facts_of t) Items) is.items, is_within storage_limit (count_of (facts_of t) Storage) is.storage, is_within 16 (count_of (facts_of t) Files) is.files) refl

-- ---- the refusal

refusal_cause_at : (t : Tree) (end : DataEnd) (o : Option (Rule × ℕ)) → first_broken (broken_lines t) data_rules ≡ o → outside_or o (limit_in (facts_of t)) ≡ Some end → IsCause t end
refusal_cause_at t end None none e = limit_cause t end (is_exceeded (facts_of t) Items) (is_exceeded (facts_of t) Storage) (is_exceeded (facts_of t) Files) (kept_is (broken_lines t) data_rules none) refl refl refl e
refusal_cause_at t end (Some (rule, line)) found e = cause_of t (Outside rule line) end e (first_is (broken_lines t) data_rules rule line found)

refusal_cause : (t : Tree) (end : DataEnd) → refusal_in (facts_of t) ≡ Some end → IsCause t end
refusal_cause t end e = refusal_cause_at t end (first_broken (broken_lines t) data_rules) refl e

no_refusal_at : (t : Tree) (o : Option (Rule × ℕ)) → first_broken (broken_lines t) data_rules ≡ o → outside_or o (limit_in (facts_of t)) ≡ None → HasLayout t
no_refusal_at t None none e = record {
  kept = kept_is (broken_lines t) data_rules none;
  within = limits_kept t (is_exceeded (facts_of t) Items) (is_exceeded (facts_of t) Storage) (is_exceeded (facts_of t) Files) refl refl refl e;
}
no_refusal_at t (Some (rule, line)) found e = absurd (cc)

no_refusal : (t : Tree) → refusal_in (facts_of t) ≡ None → HasLayout t
no_refusal t e = no_refusal_at t (first_broken (broken_lines t) data_rules) refl e

outside_refusal : (t : Tree) (rule : Rule) (line : ℕ) → IsFirstBroken (broken_lines t) data_rules rule line → refusal_in (facts_of t) ≡ Some (Outside rule line)
outside_refusal t rule line is = ap (λ (o : Option (Rule × ℕ)). outside_or o (limit_in (facts_of t))) (is_first (broken_lines t) data_rules rule line is)

kept_refusal : (t : Tree) → AreKept (broken_lines t) data_rules → refusal_in (facts_of t) ≡ limit_in (facts_of t)
kept_refusal t kept = ap (λ (o : Option (Rule × ℕ)). outside_or o (limit_in (facts_of t))) (is_kept (broken_lines t) data_rules kept)

-- ---- the answer

pub answer_is : (t : Tree) (r : Result Layout DataEnd) → IsJudged (facts_of t) r → IsAnswer t r
answer_is t (Ok l) is = (no_refusal t is.0, is.1)
answer_is t (Err end) (inl e) = refusal_cause t end e
answer_is t (Err end) (inr e) = subst (λ (x : DataEnd). IsCause t x) (sym e) tt

refused_as : (t : Tree) (r : Result Layout DataEnd) (end : DataEnd) → IsJudged (facts_of t) r → refusal_in (facts_of t) ≡ Some end → IsRefused r end
refused_as t (Ok l) end is e = let none : refusal_in (facts_of t) ≡ None = is.0 in absurd (cc)
refused_as t (Err other) end (inl same) e = let one : other ≡ end = cc in inl one
refused_as t (Err other) end (inr memory) e = inr memory

pub outside_is : (t : Tree) (r : Result Layout DataEnd) → IsJudged (facts_of t) r → (rule : Rule) (line : ℕ) → IsFirstBroken (broken_lines t) data_rules rule line → IsRefused r (Outside rule line)
outside_is t r is rule line broken = refused_as t r (Outside rule line) is (outside_refusal t rule line broken)

pub limit_is : (t : Tree) (r : Result Layout DataEnd) → IsJudged (facts_of t) r → (w : Which) → AreKept (broken_lines t) data_rules → IsFirstExceeded t w → IsRefused r (Limit w (count_of (facts_of t) w))
limit_is t r is w kept exceeded = refused_as t r (Limit w (count_of (facts_of t) w)) is (kept_refusal t kept ∙ limit_refusal t w exceeded)

pub accepted_is : (t : Tree) (r : Result Layout DataEnd) → IsJudged (facts_of t) r → HasLayout t → IsAccepted r
accepted_is t (Ok l) is has = tt
accepted_is t (Err end) (inl e) has = let none : refusal_in (facts_of t) ≡ None = kept_refusal t has.kept ∙ no_limit t has.within in absurd (cc)
accepted_is t (Err end) (inr e) has = e

-- ---- what the layout relies on

pub seated : (ds : List Description) → length ds ≡ length (all_spots ds)
seated ds = sym (spots_length nothing_above 0 0 None (forest ds) ∙ size_forest ds)

storage_at : (f : Facts) (x y z : Bool) → is_exceeded f Items ≡ x → is_exceeded f Storage ≡ y → is_exceeded f Files ≡ z → first_limit f x y z ≡ None → storage_of f.spots ≤ storage_limit
storage_at f true y z p q r e = absurd (cc)
storage_at f false true z p q r e = absurd (cc)
storage_at f false false true p q r e = absurd (cc)
storage_at f false false false p q r e = not_over storage_limit (count_of f Storage) q

storage_low_at : (f : Facts) (o : Option (Rule × ℕ)) → outside_or o (limit_in f) ≡ None → storage_of f.spots ≤ storage_limit
storage_low_at f None e = storage_at f (is_exceeded f Items) (is_exceeded f Storage) (is_exceeded f Files) refl refl refl e
storage_low_at f (Some (rule, line)) e = absurd (cc)

pub storage_low : (f : Facts) → refusal_in f ≡ None → storage_of f.spots ≤ storage_limit
storage_low f e = storage_low_at f (first_broken (lines_in f) data_rules) e

pub seated_as : (ds : List Description) (ss : List Spot) → ss ≡ all_spots ds → length ds ≡ length ss
seated_as ds ss e = seated ds ∙ ap length (sym e)

pub low_as : (f : Facts) → f.spots ≡ all_spots f.items → None ≡ refusal_in f → AreLow f.spots
low_as f laid none =
    let low : storage_of f.spots ≤ storage_limit = storage_low f (sym none) in
    let same : storage_of (all_spots f.items) ≤ storage_limit = subst (λ (ss : List Spot). storage_of ss ≤ storage_limit) laid low in
    subst (λ (ss : List Spot). AreLow ss) (sym laid) (are_low f.items same)

pub few_as : (f : Facts) (t : Tree) → f ≡ facts_of t → HasFewEntries t.front → length f.items ≤ token_limit
few_as f t e few =
    let same : length f.items ≡ length (items_of t.front) = ap (λ (g : Facts). length g.items) e in
    omega (arith, same, descriptions_length (all_entries t.front), few.entries)
