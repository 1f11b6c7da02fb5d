-- What the joining of lines keeps beside the text, and what its steps answer.
use Rattle.std.specs.Prelude.{◌≡◌, ◌+◌, List, length, take, Result, Ok, Err}
use Rattle.std.specs.List.{suffix_len}
use Rattle.cob_lex.specs.declared.text.Mark.{Mark}
use Rattle.cob_lex.specs.declared.refusal.Place.{Place}
use Rattle.cob_lex.specs.declared.text.TextEnd.{TextEnd}
use Rattle.cob_lex.specs.declared.text.TextEnd.TheVariants.{BadLine, Memory}
use Rattle.cob_lex.specs.declared.join.Joining.{Joining}
use Rattle.cob_lex.specs.Literal.{quote_of}
use Rattle.cob_lex.specs.Text.{is_space, place}

-- the text so far
abbrev pub text : Joining → List Mark
text j = j.marks.items

-- the fields follow from the text
pub record IsRun (j : Joining) : Type 0 where
  pub quote : j.quote ≡ quote_of (text j)
  pub solid : j.solid + suffix_len is_space (text j) ≡ length (text j)
  pub settled : j.settled ≡ quote_of (take j.solid (text j))

-- the step gives what is wanted: the new text or the refusal
abbrev pub Steps : Result (List Mark) Place → Result (Unit {0}) TextEnd → Joining → Type 0
Steps wanted (Ok done) j = (wanted ≡ Ok (text j)) × IsRun j
Steps wanted (Err (BadLine line column)) j = wanted ≡ Err (place line column)
Steps wanted (Err Memory) j = Unit {0}
