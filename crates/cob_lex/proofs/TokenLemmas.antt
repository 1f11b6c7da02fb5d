-- The tokens of pieces, one piece on.
use Rattle.std.proofs.Common.{◌≡◌, ℕ, ◌<◌, List, [], ◌∷◌, ◌++◌, length, drop, map, refl, ap, ◌∙◌, sym, arith, append_assoc, append-nil}
use Rattle.cob_lex.specs.declared.text.Mark.{Mark}
use Rattle.cob_tree.specs.declared.token.Token.{Token}
use Rattle.cob_lex.specs.declared.piece.Piece.{Piece}
use Rattle.cob_lex.specs.Rows.{head}
use Rattle.cob_lex.specs.Canonical.{token}

tokens_more : (text : List Mark) (xs : List Piece) → 0 < length xs → map (token text) xs ≡ token text (head xs) ∷ map (token text) (drop 1 xs)
tokens_more text [] h = absurd (omega arith)
tokens_more text (p ∷ ps) h = refl

pub tokens_step : (text : List Mark) (done more all : List Token) (xs ys : List Piece) (p : Piece) (t : Token) → 0 < length xs → p ≡ head xs → ys ≡ drop 1 xs → t ≡ token text p → more ≡ done ++ t ∷ [] → done ++ map (token text) xs ≡ all → more ++ map (token text) ys ≡ all
tokens_step text done more all xs ys p t h first rest is pushed so_far =
    rw (rest, pushed, is, first) (append_assoc done (token text (head xs) ∷ []) (map (token text) (drop 1 xs)) ∙ ap (λ ts. done ++ ts) (sym (tokens_more text xs h)) ∙ so_far)

pub tokens_end : (text : List Mark) (done all : List Token) (xs : List Piece) → length xs ≡ 0 → done ++ map (token text) xs ≡ all → done ≡ all
tokens_end text done all [] h so_far = sym (append-nil done) ∙ so_far
tokens_end text done all (p ∷ ps) h so_far = absurd (omega arith)
