-- Texts of one line with their tokens, and with the places at which they are refused.
use Rattle.std.specs.Prelude.{ℕ, ◌+◌, List, [], ◌∷◌, codes}
use Rattle.cob_tree.specs.declared.token.Rel.TheVariants.{Equal, AtMost}
use Rattle.cob_tree.specs.declared.token.Tok.{Tok}
use Rattle.cob_tree.specs.declared.token.Tok.TheVariants as tok
use Rattle.cob_tree.specs.declared.token.Token.{Token}
use Rattle.cob_lex.specs.declared.text.Mark.{Mark}
use Rattle.cob_lex.specs.Spelled.{IsStopped, place}
use Rattle.cob_lex.specs.Canonical.{AreTokensOf}

abbrev pub marks_from : ℕ → List ℕ → List Mark
marks_from column [] = []
marks_from column (c ∷ cs) = (record { ch = c; line = 1; column = column }) ∷ marks_from (column + 1) cs

-- these characters from column 8 of the first line on
abbrev pub text : List ℕ → List Mark
text source = marks_from 8 source

abbrev pub Has : List ℕ → List Token → Type 0
Has source tokens = AreTokensOf (text source) tokens

abbrev pub IsRefused : List ℕ → ℕ → Type 0
IsRefused source column = IsStopped (text source) (place 1 column)

abbrev pub at : ℕ → Tok → Token
at column t = record { tok = t; line = 1; column = column }

-- sign, digits and scale
abbrev pub numeral : ℕ → List ℕ → ℕ → Tok
numeral sign digits scale = tok.Number (record { sign = sign; digits = digits; scale = scale })

pub record AreRead : Type 0 where
  pub plus_behind_a_relation : Has (codes "=+5") (at 8 (tok.Relation Equal) ∷ at 9 (tok.Mark 43) ∷ at 10 (numeral 0 (codes "5") 0) ∷ [])
  pub sign_behind_a_parenthesis : Has (codes "(-5 - 3)") (at 8 (tok.Mark 40) ∷ at 9 (numeral 45 (codes "5") 0) ∷ at 12 (tok.Mark 45) ∷ at 14 (numeral 0 (codes "3") 0) ∷ at 15 (tok.Mark 41) ∷ [])
  pub point_before_a_digit : Has (codes ".5") (at 8 (numeral 0 (codes "5") 1) ∷ [])
  pub doubled_marks : Has (codes "'IT''S'") (at 8 (tok.Text (codes "IT'S")) ∷ [])
  pub small_letters : Has (codes "x1y") (at 8 (tok.Word (codes "X1Y")) ∷ [])
  pub thirty_letters : Has (codes "AAAAAAAAAAAAAAAAAAAAAAAAAAAAAA") (at 8 (tok.Word (codes "AAAAAAAAAAAAAAAAAAAAAAAAAAAAAA")) ∷ [])
  pub picture_before_a_stop : Has (codes "PIC IS 9(3)V99.") (at 8 (tok.Word (codes "PIC")) ∷ at 15 (tok.Pic (codes "9(3)V99")) ∷ at 22 tok.Stop ∷ [])
  pub picture_of_many_points : Has (codes "PICTURE ZZ,ZZ9.99, A") (at 8 (tok.Word (codes "PIC")) ∷ at 16 (tok.Pic (codes "ZZ,ZZ9.99")) ∷ at 27 (tok.Word (codes "A")) ∷ [])
  pub row_of_two_words : Has (codes "RECORD CONTAINS 80") (at 8 (tok.Word (codes "RECORD-SIZE")) ∷ at 24 (numeral 0 (codes "80") 0) ∷ [])
  pub words_that_are_no_neighbours : Has (codes "FILE IS STATUS") (at 8 (tok.Word (codes "FILE")) ∷ at 16 (tok.Word (codes "STATUS")) ∷ [])
  pub relation_in_words : Has (codes "IS LESS THAN OR EQUAL TO 1") (at 11 (tok.Relation AtMost) ∷ at 33 (numeral 0 (codes "1") 0) ∷ [])
  pub digit_behind_a_stop : Has (codes ". 1") (at 8 tok.Stop ∷ at 10 (numeral 0 (codes "01") 0) ∷ [])

pub record AreRefused : Type 0 where
  pub hyphen_before_a_letter : IsRefused (codes " -A") 9
  pub hyphen_behind_a_parenthesis : IsRefused (codes ")-A") 9
  pub hyphen_behind_a_relation : IsRefused (codes "=-5") 9
  pub hyphens : IsRefused (codes "--") 8
  pub hyphen_between_digits : IsRefused (codes "5-3") 8
  pub hyphen_before_a_point : IsRefused (codes " -.A") 10
  pub sign_before_a_product : IsRefused (codes " +5*3") 9
  pub sign_before_a_point : IsRefused (codes " +5.A") 9
  pub plus_before_nineteen_digits : IsRefused (codes " +1234567890123456789") 10
  pub hyphen_before_nineteen_digits : IsRefused (codes " -1234567890123456789") 9
  pub point_between_letters : IsRefused (codes "A.B") 8
  pub word_before_a_product : IsRefused (codes "A*B") 8
  pub thirty_one_letters : IsRefused (codes "AAAAAAAAAAAAAAAAAAAAAAAAAAAAAAA") 8
  pub comma_before_a_letter : IsRefused (codes "A ,B") 10
  pub text_without_characters : IsRefused (codes "A ''") 10
  pub text_before_a_letter : IsRefused (codes "'A'B") 8
  pub no_picture : IsRefused (codes "PIC .") 12
  pub is_without_a_picture : IsRefused (codes "PIC IS.") 14
