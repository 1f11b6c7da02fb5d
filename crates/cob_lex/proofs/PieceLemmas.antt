-- Reading on behind a token.
use Rattle.std.proofs.Common.{◌≡◌, ℕ, ◌+◌, ◌-◌, ◌<◌, zero, suc, List, [], ◌∷◌, ◌++◌, length, drop, refl, ap, ◌∙◌, sym, arith, append_assoc, append-nil, Option, Some, None, Result, Ok, Err}
use Rattle.cob_lex.specs.declared.text.Mark.{Mark}
use Rattle.cob_lex.specs.declared.cut.State.{State}
use Rattle.cob_lex.specs.declared.cut.Cut.{Cut}
use Rattle.cob_lex.specs.declared.piece.Piece.{Piece}
use Rattle.cob_lex.specs.declared.piece.Place.{Place}
use Rattle.cob_lex.specs.Cuts.{cut, after}
use Rattle.cob_lex.specs.Pieces.{prefixed, begun, read}
use Rattle.cob_lex.specs.Characters.{first}
use Rattle.cob_lex.specs.Spelled.{place_of, piece_list}

pub prefixed_nil : (r : Result (List Piece) Place) → prefixed [] r ≡ r
prefixed_nil (Ok ps) = refl
prefixed_nil (Err p) = refl

prefixed_append : (ps qs : List Piece) (r : Result (List Piece) Place) → prefixed (ps ++ qs) r ≡ prefixed ps (prefixed qs r)
prefixed_append ps qs (Ok rs) = ap Ok (append_assoc ps qs rs)
prefixed_append ps qs (Err p) = refl

read_skip : (start : ℕ) (s : State) (n : ℕ) (xs : List Mark) → read start s n xs ≡ read (start + n) s 0 (drop n xs)
unfolding read
read_skip start s zero [] = refl
read_skip start s (suc n) [] = refl
read_skip start s zero (m ∷ ms) = ap (λ k. read k s 0 (m ∷ ms)) (omega arith)
read_skip start s (suc n) (m ∷ ms) = read_skip (start + 1) s n ms ∙ ap (λ k. read k s 0 (drop n ms)) (omega arith)

skip_some : (start n : ℕ) (s : State) (m : Mark) (ms : List Mark) → 0 < n → read (start + 1) s (n - 1) ms ≡ read (start + n) s 0 (drop n (m ∷ ms))
skip_some start zero s m ms h = absurd (omega arith)
skip_some start (suc n) s m ms h =
    let e : suc n - 1 ≡ n = omega arith in
    ap (λ k. read (start + 1) s k ms) e ∙ read_skip (start + 1) s n ms ∙ ap (λ k. read k s 0 (drop n ms)) (omega arith)

pub read_more : (start : ℕ) (s : State) (xs : List Mark) (c : Cut) → 0 < length xs → cut s xs ≡ Some c → 0 < c.length → read start s 0 xs ≡ prefixed (piece_list start (first xs) c.length c.shape) (read (start + c.length) (after s c xs) 0 (drop c.length xs))
unfolding read
read_more start s [] c h e some = absurd (omega arith)
read_more start s (m ∷ ms) c h e some =
    ap (λ (found : Option Cut). begun start m found (λ d. read (start + 1) (after s d (m ∷ ms)) (d.length - 1) ms)) e
    ∙ ap (λ r. prefixed (piece_list start m c.length c.shape) r) (skip_some start c.length (after s c (m ∷ ms)) m ms some)

pub read_step : (ps qs : List Piece) (start : ℕ) (s t : State) (xs ys : List Mark) (c : Cut) (all : Result (List Piece) Place) → 0 < length xs → Some c ≡ cut s xs → 0 < c.length → t ≡ after s c xs → ys ≡ drop c.length xs → qs ≡ ps ++ piece_list start (first xs) c.length c.shape → prefixed ps (read start s 0 xs) ≡ all → prefixed qs (read (start + c.length) t 0 ys) ≡ all
read_step ps qs start s t xs ys c all h e some after_c rest pushed so_far =
    rw (after_c, rest, pushed)
    (prefixed_append ps (piece_list start (first xs) c.length c.shape) (read (start + c.length) (after s c xs) 0 (drop c.length xs))
    ∙ ap (prefixed ps) (sym (read_more start s xs c h (sym e) some))
    ∙ so_far)

pub read_stops_here : (start : ℕ) (s : State) (xs : List Mark) → 0 < length xs → cut s xs ≡ None → read start s 0 xs ≡ Err (place_of (first xs))
unfolding read
read_stops_here start s [] h e = absurd (omega arith)
read_stops_here start s (m ∷ ms) h e =
    ap (λ (found : Option Cut). begun start m found (λ d. read (start + 1) (after s d (m ∷ ms)) (d.length - 1) ms)) e

pub read_stops : (ps : List Piece) (start : ℕ) (s : State) (xs : List Mark) (all : Result (List Piece) Place) → 0 < length xs → None ≡ cut s xs → prefixed ps (read start s 0 xs) ≡ all → all ≡ Err (place_of (first xs))
read_stops ps start s xs all h e so_far = sym so_far ∙ ap (prefixed ps) (read_stops_here start s xs h (sym e))

pub read_ends_here : (start : ℕ) (s : State) (xs : List Mark) → length xs ≡ 0 → read start s 0 xs ≡ Ok []
unfolding read
read_ends_here start s [] h = refl
read_ends_here start s (m ∷ ms) h = absurd (omega arith)

pub read_ends : (ps : List Piece) (start : ℕ) (s : State) (xs : List Mark) (all : Result (List Piece) Place) → length xs ≡ 0 → prefixed ps (read start s 0 xs) ≡ all → all ≡ Ok ps
read_ends ps start s xs all h so_far = sym so_far ∙ ap (prefixed ps) (read_ends_here start s xs h) ∙ ap Ok (append-nil ps)
