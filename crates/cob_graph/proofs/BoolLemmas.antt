-- Tests and what they say.
use Rattle.std.proofs.Common.{◌≡◌, ℕ, ◌<◌, ◌≤◌, Bool, true, false, ◌&&◌, ◌||◌, ◌⊎◌, inl, inr, max, min, refl, sym, arith}
use Rattle.std.specs.Prelude.{nat_le, nat_lt, not}
use Rattle.std.proofs.lemmas.Bool.Decides.{nat_tests}
use Rattle.cob_graph.specs.Nesting.{Span, Jump, IsIn, ShareNone, IsWithin}
use Rattle.cob_graph.specs.Reaching.{is_in}
use Rattle.cob_graph.specs.Broken.{is_crossing, is_leaving}

pub and_true : (a b : Bool) → (a && b) ≡ true → (a ≡ true) × (b ≡ true)
and_true true true e = (refl, refl)
and_true true false e = absurd (cc)
and_true false b e = absurd (cc)

pub true_and : (a b : Bool) → a ≡ true → b ≡ true → (a && b) ≡ true
true_and true true e f = refl
true_and true false e f = f
true_and false b e f = e

pub or_true : (a b : Bool) → (a || b) ≡ true → (a ≡ true) ⊎ (b ≡ true)
or_true true b e = inl refl
or_true false b e = inr e

pub true_or_left : (a b : Bool) → a ≡ true → (a || b) ≡ true
true_or_left true b e = refl
true_or_left false b e = absurd (cc)

pub true_or_right : (a b : Bool) → b ≡ true → (a || b) ≡ true
true_or_right true b e = refl
true_or_right false b e = e

pub not_true : (a : Bool) → not a ≡ true → a ≡ false
not_true true e = sym e
not_true false e = refl

pub true_not : (a : Bool) → (a ≡ true → ⊥) → not a ≡ true
true_not true e = absurd (e refl)
true_not false e = refl

pub le_is : (a b : ℕ) → nat_le a b ≡ true → a ≤ b
le_is a b e = grind (arith, nat_tests)

pub is_le : (a b : ℕ) → a ≤ b → nat_le a b ≡ true
is_le a b e = grind (arith, nat_tests)

pub lt_is : (a b : ℕ) → nat_lt a b ≡ true → a < b
lt_is a b e = grind (arith, nat_tests)

pub is_lt : (a b : ℕ) → a < b → nat_lt a b ≡ true
is_lt a b e = grind (arith, nat_tests)

-- ---- of spans

pub in_is : (n : ℕ) (s : Span) → is_in n s ≡ true → IsIn n s
in_is n s e =
    let both = and_true (nat_le s.first n) (nat_le n s.last) e in
    record { from = le_is s.first n both.0; to = le_is n s.last both.1 }

pub is_in_from : (n : ℕ) (s : Span) → IsIn n s → is_in n s ≡ true
is_in_from n s h = true_and (nat_le s.first n) (nat_le n s.last) (is_le s.first n h.from) (is_le n s.last h.to)

abbrev shares : Span → Span → Bool
shares s t = nat_le (max s.first t.first) (min s.last t.last)

abbrev within : Span → Span → Bool
within s t = nat_le t.first s.first && nat_lt s.last t.last

pub crossing_is : (s t : Span) → is_crossing s t ≡ true → (ShareNone s t → ⊥) × (IsWithin s t → ⊥)
crossing_is s t e =
    let both = and_true (shares s t) (not (within s t)) e in
    let meet : max s.first t.first ≤ min s.last t.last = le_is _ _ both.0 in (
      (λ none. none (max s.first t.first) (record { from = omega arith; to = omega (arith, meet) }) (record { from = omega arith; to = omega (arith, meet) })),
      (λ inside.
          let first = (inside.all s.first (record { from = omega arith; to = omega (arith, meet) })).from in
          let last = (inside.all s.last (record { from = omega (arith, meet); to = omega arith })).to in
          let so =
          true_and (nat_le t.first s.first) (nat_lt s.last t.last) (is_le _ _ first) (is_lt _ _ (omega (arith, last, inside.exit))) in
          let other = not_true (within s t) both.1 in
          cc),
    )

pub is_crossing_from : (s t : Span) → (ShareNone s t → ⊥) → (IsWithin s t → ⊥) → is_crossing s t ≡ true
is_crossing_from s t some outside =
    true_and (shares s t) (not (within s t)) (meeting (shares s t) refl)
    (true_not (within s t) (λ e.
    let both = and_true (nat_le t.first s.first) (nat_lt s.last t.last) e in
    let first = le_is _ _ both.0 in
    let last = lt_is _ _ both.1 in
    outside (record { all = λ n h. record { from = omega (arith, first, h.from); to = omega (arith, last, h.to) }; exit = λ same. omega (arith, last, same) })))
  where
    meeting : (b : Bool) → shares s t ≡ b → b ≡ true
    meeting true e = refl
    meeting false e =
        absurd (some (λ n h g.
        let meet = is_le (max s.first t.first) (min s.last t.last) (omega (arith, h.from, h.to, g.from, g.to)) in
        cc))

pub leaving_is : (j : Jump) (s : Span) → is_leaving j s ≡ true → IsIn j.para s × (IsIn j.to s → ⊥)
leaving_is j s e =
    let both = and_true (is_in j.para s) (not (is_in j.to s)) e in
    (in_is j.para s both.0, λ h. let yes_ = is_in_from j.to s h in let no_ = not_true (is_in j.to s) both.1 in cc)

pub is_leaving_from : (j : Jump) (s : Span) → IsIn j.para s → (IsIn j.to s → ⊥) → is_leaving j s ≡ true
is_leaving_from j s h g =
    true_and (is_in j.para s) (not (is_in j.to s)) (is_in_from j.para s h) (true_not (is_in j.to s) (λ e. g (in_is j.to s e)))
