-- Examples, worked out by the scanner.
use Rattle.std.proofs.Common.{◌≡◌, ℕ, List, map, refl, ◌∙◌, sym, Result, Ok, Err}
use Rattle.std.specs.Prelude.{codes}
use Rattle.cob_tree.specs.Keywords.{keyword_of}
use Rattle.cob_tree.specs.declared.token.Token.{Token}
use Rattle.cob_lex.specs.declared.text.Mark.{Mark}
use Rattle.cob_lex.specs.declared.piece.Piece.{Piece}
use Rattle.cob_lex.specs.declared.piece.Place.{Place}
use Rattle.cob_lex.specs.Marks.{run_len, literal_len, undoubled}
use Rattle.cob_lex.specs.Cuts.{cut, after}
use Rattle.cob_lex.specs.Pieces.{read, raw_tokens}
use Rattle.cob_lex.specs.Rows.{reworded, related, padded, rewritten}
use Rattle.cob_lex.specs.Spelled.{IsStopped, place}
use Rattle.cob_lex.specs.Canonical.{token, AreTokensOf}
use Rattle.cob_lex.specs.Examples.{text, Has, IsRefused, AreRead, AreRefused}
use Rattle.cob_lex.proofs.Spelling.{tokens_are, stopped_at}

-- what the scanner makes of a text
abbrev answer : List Mark → Result (List Piece) Place → Result (List Token) Place
answer marks (Ok raw) = Ok (map (token marks) (rewritten raw))
answer marks (Err p) = Err p

answered : (marks : List Mark) (r : Result (List Piece) Place) (ts : List Token) → raw_tokens marks ≡ r → answer marks r ≡ Ok ts → AreTokensOf marks ts
answered marks (Ok raw) ts e h = tokens_are marks raw ts e (same ts (map (token marks) (rewritten raw)) (sym h))
  where
    same : (xs ys : List Token) → ◌≡◌ {A = Result (List Token) Place} (Ok xs) (Ok ys) → xs ≡ ys
    same xs ys e = cc
answered marks (Err p) ts e h = absurd cc

refused : (marks : List Mark) (r : Result (List Piece) Place) (p : Place) → raw_tokens marks ≡ r → answer marks r ≡ Err p → IsStopped marks p
refused marks (Ok raw) p e h = absurd cc
refused marks (Err q) p e h = stopped_at marks p (e ∙ same q p h)
  where
    same : (p q : Place) → ◌≡◌ {A = Result (List Token) Place} (Err p) (Err q) → ◌≡◌ {A = Result (List Piece) Place} (Err p) (Err q)
    same p q e = cc

has : (source : List ℕ) (ts : List Token) → answer (text source) (raw_tokens (text source)) ≡ Ok ts → Has source ts
has source ts e = answered (text source) (raw_tokens (text source)) ts refl e

is_refused : (source : List ℕ) (column : ℕ) → answer (text source) (raw_tokens (text source)) ≡ Err (place 1 column) → IsRefused source column
is_refused source column e = refused (text source) (raw_tokens (text source)) (place 1 column) refl e

pub are_read : AreRead
unfolding read cut after run_len literal_len undoubled keyword_of reworded related padded
are_read = record {
  plus_behind_a_relation = has (codes "=+5") _ refl;
  sign_behind_a_parenthesis = has (codes "(-5 - 3)") _ refl;
  point_before_a_digit = has (codes ".5") _ refl;
  doubled_marks = has (codes "'IT''S'") _ refl;
  small_letters = has (codes "x1y") _ refl;
  thirty_letters = has (codes "AAAAAAAAAAAAAAAAAAAAAAAAAAAAAA") _ refl;
  picture_before_a_stop = has (codes "PIC IS 9(3)V99.") _ refl;
  picture_of_many_points = has (codes "PICTURE ZZ,ZZ9.99, A") _ refl;
  row_of_two_words = has (codes "RECORD CONTAINS 80") _ refl;
  words_that_are_no_neighbours = has (codes "FILE IS STATUS") _ refl;
  relation_in_words = has (codes "IS LESS THAN OR EQUAL TO 1") _ refl;
  digit_behind_a_stop = has (codes ". 1") _ refl;
}

pub are_refused : AreRefused
unfolding read cut after run_len literal_len undoubled keyword_of
are_refused = record {
  hyphen_before_a_letter = is_refused (codes " -A") 9 refl;
  hyphen_behind_a_parenthesis = is_refused (codes ")-A") 9 refl;
  hyphen_behind_a_relation = is_refused (codes "=-5") 9 refl;
  hyphens = is_refused (codes "--") 8 refl;
  hyphen_between_digits = is_refused (codes "5-3") 8 refl;
  hyphen_before_a_point = is_refused (codes " -.A") 10 refl;
  sign_before_a_product = is_refused (codes " +5*3") 9 refl;
  sign_before_a_point = is_refused (codes " +5.A") 9 refl;
  plus_before_nineteen_digits = is_refused (codes " +1234567890123456789") 10 refl;
  hyphen_before_nineteen_digits = is_refused (codes " -1234567890123456789") 9 refl;
  point_between_letters = is_refused (codes "A.B") 8 refl;
  word_before_a_product = is_refused (codes "A*B") 8 refl;
  thirty_one_letters = is_refused (codes "AAAAAAAAAAAAAAAAAAAAAAAAAAAAAAA") 8 refl;
  comma_before_a_letter = is_refused (codes "A ,B") 10 refl;
  text_without_characters = is_refused (codes "A ''") 10 refl;
  text_before_a_letter = is_refused (codes "'A'B") 8 refl;
  no_picture = is_refused (codes "PIC .") 12 refl;
  is_without_a_picture = is_refused (codes "PIC IS.") 14 refl;
}
