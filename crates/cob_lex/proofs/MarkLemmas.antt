-- Runs, literals and their insides, one character on.
use Rattle.std.proofs.Common.{◌≡◌, ℕ, ◌+◌, ◌-◌, ◌<◌, ◌≤◌, Bool, true, false, List, [], ◌∷◌, ◌++◌, append_assoc, append-nil, length, drop, refl, ap, ◌∙◌, sym, cond, Option, Some, None, arith, add-zero, zero-add}
use Rattle.std.specs.Option.{option_map}
use Rattle.cob_lex.specs.declared.text.Mark.{Mark}
use Rattle.cob_lex.specs.Marks.{run_len, literal_len, undoubled, is_closed, half_behind, is_second, closed_at, undoubled_one}
use Rattle.cob_lex.specs.Characters.{ch_at, goes_on}

pub run_len_on : (xs : List Mark) → 0 < length xs → goes_on xs ≡ true → run_len xs ≡ 1 + run_len (drop 1 xs)
unfolding run_len
run_len_on [] h e = absurd (omega arith)
run_len_on (m ∷ ms) h e = rw e refl

pub run_more : (xs ys : List Mark) → ys ≡ drop 1 xs → 0 < length xs → goes_on xs ≡ true → run_len xs ≡ 1 + run_len ys
run_more xs ys e h g = run_len_on xs h g ∙ ap (λ t. 1 + run_len t) (sym e)

pub run_len_off : (xs : List Mark) → goes_on xs ≡ false → run_len xs ≡ 0
unfolding run_len
run_len_off [] e = refl
run_len_off (m ∷ ms) e = rw e refl

pub run_len_nil : (xs : List Mark) → length xs ≡ 0 → run_len xs ≡ 0
unfolding run_len
run_len_nil [] e = refl
run_len_nil (m ∷ ms) e = absurd (omega arith)

-- a count that is so much higher
abbrev pub shifted : ℕ → Option ℕ → Option ℕ
shifted n found = option_map (λ k. n + k) found

pub shifted_zero : (o : Option ℕ) → shifted 0 o ≡ o
shifted_zero None = refl
shifted_zero (Some k) = ap Some (omega arith)

shifted_more : (n : ℕ) (o : Option ℕ) → shifted n (option_map (λ k. k + 1) o) ≡ shifted (n + 1) o
shifted_more n None = refl
shifted_more n (Some k) = ap Some (omega arith)

literal_goes_on : (quote n : ℕ) (half : Bool) (xs : List Mark) → 0 < length xs → is_closed quote half xs ≡ false → shifted n (literal_len quote half xs) ≡ shifted (n + 1) (literal_len quote (half_behind quote half xs) (drop 1 xs))
unfolding literal_len
literal_goes_on quote n half [] h e = absurd (omega arith)
literal_goes_on quote n half (m ∷ ms) h e = rw e (shifted_more n (literal_len quote (half_behind quote half (m ∷ ms)) ms))

pub literal_more : (quote n : ℕ) (half next : Bool) (xs ys : List Mark) (all : Option ℕ) → ys ≡ drop 1 xs → next ≡ half_behind quote half xs → 0 < length xs → is_closed quote half xs ≡ false → shifted n (literal_len quote half xs) ≡ all → shifted (n + 1) (literal_len quote next ys) ≡ all
literal_more quote n half next xs ys all e f h g so_far = rw (e, f) (sym (literal_goes_on quote n half xs h g) ∙ so_far)

literal_stops_here : (quote n : ℕ) (half : Bool) (xs : List Mark) → 0 < length xs → is_closed quote half xs ≡ true → shifted n (literal_len quote half xs) ≡ Some n
unfolding literal_len
literal_stops_here quote n half [] h e = absurd (omega arith)
literal_stops_here quote n half (m ∷ ms) h e = rw e (ap Some (omega arith))

pub literal_stops : (quote n : ℕ) (half : Bool) (xs : List Mark) (all : Option ℕ) → 0 < length xs → is_closed quote half xs ≡ true → shifted n (literal_len quote half xs) ≡ all → Some n ≡ all
literal_stops quote n half xs all h e so_far = sym (literal_stops_here quote n half xs h e) ∙ so_far

literal_ends_here : (quote n : ℕ) (half : Bool) (xs : List Mark) → length xs ≡ 0 → shifted n (literal_len quote half xs) ≡ closed_at half n
unfolding literal_len
literal_ends_here quote n true [] h = ap Some (omega arith)
literal_ends_here quote n false [] h = refl
literal_ends_here quote n half (m ∷ ms) h = absurd (omega arith)

pub literal_ends : (quote n : ℕ) (half : Bool) (xs : List Mark) (all : Option ℕ) → length xs ≡ 0 → shifted n (literal_len quote half xs) ≡ all → closed_at half n ≡ all
literal_ends quote n half xs all h so_far = sym (literal_ends_here quote n half xs h) ∙ so_far

pub undoubled_skips : (quote : ℕ) (half next : Bool) (xs ys : List Mark) → ys ≡ drop 1 xs → next ≡ half_behind quote half xs → 0 < length xs → is_second quote half xs ≡ true → undoubled quote half xs ≡ undoubled quote next ys
unfolding undoubled
undoubled_skips quote half next [] ys d f h e = absurd (omega arith)
undoubled_skips quote half next (m ∷ ms) ys d f h e = rw (d, f, e) refl

pub undoubled_takes : (quote : ℕ) (half next : Bool) (xs ys : List Mark) → ys ≡ drop 1 xs → next ≡ half_behind quote half xs → 0 < length xs → is_second quote half xs ≡ false → undoubled quote half xs ≡ ch_at xs 0 ∷ undoubled quote next ys
unfolding undoubled
undoubled_takes quote half next [] ys d f h e = absurd (omega arith)
undoubled_takes quote half next (m ∷ ms) ys d f h e = rw (d, f, e) refl

-- the count of one step
pub undoubled_counts : (quote : ℕ) (half next second : Bool) (xs ys : List Mark) → ys ≡ drop 1 xs → next ≡ half_behind quote half xs → 0 < length xs → second ≡ is_second quote half xs → length (undoubled quote half xs) ≡ 1 - cond second 1 0 + length (undoubled quote next ys)
undoubled_counts quote half next true xs ys d f h e = ap length (undoubled_skips quote half next xs ys d f h (sym e)) ∙ omega arith
undoubled_counts quote half next false xs ys d f h e = ap length (undoubled_takes quote half next xs ys d f h (sym e)) ∙ omega arith

pub undoubled_nil : (quote : ℕ) (half : Bool) (xs : List Mark) → length xs ≡ 0 → undoubled quote half xs ≡ []
unfolding undoubled
undoubled_nil quote half [] h = refl
undoubled_nil quote half (m ∷ ms) h = absurd (omega arith)

undoubled_more : (quote : ℕ) (half : Bool) (xs : List Mark) → 0 < length xs → undoubled quote half xs ≡ undoubled_one quote half xs ++ undoubled quote (half_behind quote half xs) (drop 1 xs)
unfolding undoubled
undoubled_more quote half [] h = absurd (omega arith)
undoubled_more quote half (m ∷ ms) h = one_of (is_second quote half (m ∷ ms)) m.ch (undoubled quote (half_behind quote half (m ∷ ms)) ms)
  where
    one_of : (second : Bool) (ch : ℕ) (rest : List ℕ) → cond second rest (ch ∷ rest) ≡ cond second [] (ch ∷ []) ++ rest
    one_of true ch rest = refl
    one_of false ch rest = refl

pub undoubled_step : (quote : ℕ) (half next : Bool) (done more all : List ℕ) (xs ys : List Mark) → 0 < length xs → ys ≡ drop 1 xs → next ≡ half_behind quote half xs → more ≡ done ++ undoubled_one quote half xs → done ++ undoubled quote half xs ≡ all → more ++ undoubled quote next ys ≡ all
undoubled_step quote half next done more all xs ys h rest is pushed so_far =
    rw (rest, is, pushed) (append_assoc done (undoubled_one quote half xs) (undoubled quote (half_behind quote half xs) (drop 1 xs)) ∙ ap (λ t. done ++ t) (sym (undoubled_more quote half xs h)) ∙ so_far)

pub undoubled_ends : (quote : ℕ) (half : Bool) (done all : List ℕ) (xs : List Mark) → length xs ≡ 0 → done ++ undoubled quote half xs ≡ all → done ≡ all
undoubled_ends quote half done all xs h so_far = sym (append-nil done) ∙ ap (λ t. done ++ t) (sym (undoubled_nil quote half xs h)) ∙ so_far
