-- Which reserved word a word is, is known of each raw token of a text, and of the rewritten ones.
use Rattle.std.proofs.Common.{◌≡◌, ◌<◌, Bool, List, [], ◌∷◌, length, drop, refl, sym, subst, arith, Option, Some, None, Ok}
use Rattle.cob_tree.specs.declared.keyword.Keyword.{Keyword}
use Rattle.cob_lex.specs.declared.text.Mark.{Mark}
use Rattle.cob_lex.specs.declared.cut.Shape.{Shape}
use Rattle.cob_lex.specs.declared.cut.Due.{Due}
use Rattle.cob_lex.specs.declared.piece.Piece.{Piece}
use Rattle.cob_lex.specs.Words.{spelled_keyword}
use Rattle.cob_lex.specs.Tokens.{Stands, a_separator, a_word, a_number, a_text, a_mark, a_relation, a_stop, the_word_is, a_picture}
use Rattle.cob_lex.specs.Pieces.{raw_tokens}
use Rattle.cob_lex.specs.Rows.{head, rewritten}
use Rattle.cob_lex.specs.Known.{IsKnownWord, IsKnown, IsKnownPiece, AreKnown}
use Rattle.cob_lex.proofs.Spelling.{spelled_by}
use Rattle.cob_lex.proofs.EachToken.{HoldsOfRows, same_shape, IsKept, raw_hold, rewritten_hold}

word_known : (front : List Mark) (word : Option Keyword) → spelled_keyword front ≡ word → IsKnownWord word front
word_known front None e = e
word_known front (Some keyword) e = tt

row_known : {free : Bool} {due : Due} {front behind : List Mark} {shape : Option Shape} → Stands free due front behind shape → (s : Shape) → shape ≡ Some s → IsKnown s front
row_known {front = front} (a_separator e) s same = absurd cc
row_known {front = front} (a_word is e) s same = subst (λ (o : Shape). IsKnown o front) (same_shape _ s same) (word_known front (spelled_keyword front) refl)
row_known {front = front} (a_number is may e) s same = subst (λ (o : Shape). IsKnown o front) (same_shape _ s same) tt
row_known {front = front} (a_text is e) s same = subst (λ (o : Shape). IsKnown o front) (same_shape _ s same) tt
row_known {front = front} (a_mark is e) s same = subst (λ (o : Shape). IsKnown o front) (same_shape _ s same) tt
row_known {front = front} (a_relation r is e) s same = subst (λ (o : Shape). IsKnown o front) (same_shape _ s same) tt
row_known {front = front} (a_stop is e) s same = subst (λ (o : Shape). IsKnown o front) (same_shape _ s same) tt
row_known {front = front} (the_word_is is e) s same = subst (λ (o : Shape). IsKnown o front) (same_shape _ s same) tt
row_known {front = front} (a_picture is e d) s same = subst (λ (o : Shape). IsKnown o front) (same_shape _ s same) tt

rows_known : HoldsOfRows IsKnown
rows_known free due front behind shape h = row_known h shape refl

kept_known : IsKept IsKnown
kept_known = record { word = λ k shape front h. tt; relation = λ r shape front h. tt; digit = λ front short h. tt }

pub raw_known : (text : List Mark) (raw : List Piece) → raw_tokens text ≡ Ok raw → AreKnown text raw
raw_known text raw e =
    let h = spelled_by text raw e in
    subst (AreKnown text) (sym h.2) (raw_hold text IsKnown rows_known h.0 h.1)

pub rewritten_known : (text : List Mark) (raw canonical : List Piece) → canonical ≡ rewritten raw → AreKnown text raw → AreKnown text canonical
rewritten_known text raw canonical e h = subst (AreKnown text) (sym e) (rewritten_hold text IsKnown kept_known raw h)

pub head_known : (text : List Mark) (ps : List Piece) (p : Piece) → 0 < length ps → p ≡ head ps → AreKnown text ps → IsKnownPiece text p
head_known text [] p some e h = absurd (omega (arith, some))
head_known text (q ∷ ps) p some e h = subst (IsKnownPiece text) (sym e) h.0

pub rest_known : (text : List Mark) (ps qs : List Piece) → qs ≡ drop 1 ps → AreKnown text ps → AreKnown text qs
rest_known text ps qs e h = subst (AreKnown text) (sym e) (behind_known ps h)
  where
    behind_known : (ps : List Piece) → AreKnown text ps → AreKnown text (drop 1 ps)
    behind_known [] h = tt
    behind_known (p ∷ ps) h = h.1
