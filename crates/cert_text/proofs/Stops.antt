-- Where a list stops to be one of a set.
use Rattle.std.proofs.Common.{◌≡◌, ℕ, ◌+◌, ◌<◌, List, [], ◌∷◌, ◌++◌, length, take, drop, refl, sym, ap, ◌∙◌, subst, append_assoc, arith, inl, inr}
use Rattle.std.proofs.lemmas.Bool.{cases_lt}
use Rattle.std.proofs.lemmas.List.{length-append, take-append-drop, take-take, take_at, take_all}
use Rattle.cert_text.specs.Viable.{IsViable, StopsAfter}
use Rattle.cert_text.proofs.Texts.{viable_take}

module _ {A : Type 0} (lists : List A → Type 0) (list : List A) where
  not_before : (m n : ℕ) → StopsAfter lists list m → StopsAfter lists list n → m < n → ⊥
  not_before m n a b l =
      let shorter : take (m + 1) (take n list) ≡ take (m + 1) list = take-take (m + 1) n list (omega arith) in
      a.stops (omega (arith, b.within)) (subst (IsViable lists) shorter (viable_take lists (m + 1) (take n list) b.goes_on))

  -- a list stops at one place
  pub one_stop : (m n : ℕ) → StopsAfter lists list m → StopsAfter lists list n → m ≡ n
  one_stop m n a b =
      elim (cases_lt m n) [
        | inl below ↦ absurd (not_before m n a b below)
        | inr from ↦ elim (cases_lt n m) [
          | inl above ↦ absurd (not_before n m b a above)
          | inr to ↦ omega arith
        ]
      ]

  -- a list of the set stops nowhere
  pub never_stops : (n : ℕ) → lists list → StopsAfter lists list n → ⊥
  never_stops n is a =
      elim (cases_lt n (length list)) [
        | inl below ↦ a.stops below (drop (n + 1) list, subst lists (sym (take-append-drop (n + 1) list)) is)
        | inr from ↦ a.short (omega (arith, a.within)) is
      ]

-- some elements that go on, and one with which none does
pub stops_there : {A : Type 0} (lists : List A → Type 0) (list front : List A) (x : A) (behind : List A) → list ≡ front ++ x ∷ behind → IsViable lists front → (IsViable lists (front ++ x ∷ []) → ⊥) →
    StopsAfter lists list (length front)
stops_there {A} lists list front x behind e viable stops =
    let long : length list ≡ length front + 1 + length behind = ap length e ∙ omega (arith, length-append front (x ∷ behind)) in
    let before : take (length front) list ≡ front = ap (take (length front)) e ∙ take_at front (x ∷ behind) (length front) refl in
    let with_it : take (length front + 1) list ≡ front ++ x ∷ [] =
    ap (take (length front + 1)) (e ∙ sym (append_assoc front (x ∷ []) behind)) ∙ take_at (front ++ x ∷ []) behind (length front + 1) (length-append front (x ∷ [])) in
    record {
      within = omega arith;
      goes_on = subst (IsViable lists) (sym before) viable;
      stops = λ below on. stops (subst (IsViable lists) with_it on);
      short = λ same. absurd (omega arith);
    }

-- the list goes on, but is none of the set
pub stops_behind : {A : Type 0} (lists : List A → Type 0) (list : List A) → IsViable lists list → (lists list → ⊥) → StopsAfter lists list (length list)
stops_behind lists list viable not = record {
  within = omega arith;
  goes_on = subst (IsViable lists) (sym (take_all (length list) list (omega arith))) viable;
  stops = λ below. absurd (omega arith);
  short = λ same. not;
}
