-- Numerals and texts, one character further.
use Rattle.std.proofs.Common.{◌≡◌, ℕ, ◌+◌, ◌-◌, ◌*◌, ◌^◌, ◌<◌, ◌≤◌, zero, suc, min, Bool, true, false, eqb, ltb, List, [], ◌∷◌, length, get_or, drop, drop-cons, ap, ◌∙◌, sym, arith}
use Rattle.std.proofs.lemmas.Bool.Decides.{nat_tests}
use Rattle.std.proofs.lemmas.List.{drop_all}
use Rattle.cob_data.specs.Values.{Padded, character, at_most_from, value_behind}

-- a number that is kept at its greatest goes on as that
value_kept : (most x : ℕ) (cs : List ℕ) → min (value_behind (min x most) cs) most ≡ min (value_behind x cs) most
value_kept most x [] = omega arith
value_kept most x (c ∷ cs) =
    let y : ℕ = 10 * min x most + (c - 48) in
    let z : ℕ = 10 * x + (c - 48) in
    let same : min y most ≡ min z most = omega arith in
    sym (value_kept most y cs) ∙ ap (λ n. min (value_behind n cs) most) same ∙ value_kept most z cs

pub value_step : (ds : List ℕ) (i v digit next all : ℕ) → i < length ds → digit ≡ get_or ds i 0 - 48 → next ≡ min (10 * v + digit) (2 ^ 70) →
    min (value_behind v (drop i ds)) (2 ^ 70) ≡ all → min (value_behind next (drop (i + 1) ds)) (2 ^ 70) ≡ all
value_step ds i v digit next all within is kept so_far =
    let one : i + 1 ≡ suc i = omega arith in
    let split : drop i ds ≡ get_or ds i 0 ∷ drop (suc i) ds = drop-cons ds i 0 within in
    let here : min (value_behind (10 * v + digit) (drop (suc i) ds)) (2 ^ 70) ≡ all = rw is (rw split at so_far) in
    rw (one, kept) (value_kept (2 ^ 70) (10 * v + digit) (drop (suc i) ds) ∙ here)

pub differs_further : (n m place : ℕ) (a b : Padded) (all : Bool) → 0 < n → m ≡ n - 1 → character a place ≡ character b place → at_most_from n place a b ≡ all → at_most_from m (place + 1) a b ≡ all
differs_further zero m place a b all some e same so_far = absurd (omega arith)
differs_further (suc n) m place a b all some e same so_far =
    let one : m ≡ n = omega arith in
    let test : eqb (character a place) (character b place) ≡ true = grind (arith, nat_tests) in
    rw one (rw test at so_far)

pub differs_here : (n place x y : ℕ) (a b : Padded) (all : Bool) → 0 < n → x ≡ character a place → y ≡ character b place → (x ≡ y → ⊥) → at_most_from n place a b ≡ all → ltb x y ≡ all
differs_here zero place x y a b all some e f other so_far = absurd (omega arith)
differs_here (suc n) place x y a b all some e f other so_far =
    let test : eqb (character a place) (character b place) ≡ false = grind (arith, nat_tests) in
    rw (e, f) (rw test at so_far)

pub differs_nowhere : (n place : ℕ) (a b : Padded) (all : Bool) → n ≡ 0 → at_most_from n place a b ≡ all → true ≡ all
differs_nowhere n place a b all e so_far = rw e at so_far

pub value_end : (ds : List ℕ) (i v all : ℕ) → length ds ≤ i → v ≤ 2 ^ 70 → min (value_behind v (drop i ds)) (2 ^ 70) ≡ all → v ≡ all
value_end ds i v all past small so_far =
    let none : drop i ds ≡ [] = drop_all i ds past in
    let here : min v (2 ^ 70) ≡ all = rw none at so_far in
    omega (arith, here)
