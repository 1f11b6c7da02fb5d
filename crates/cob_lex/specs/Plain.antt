-- Sources of ordinary lines alone.
use Rattle.std.specs.Prelude.{◌≡◌, IsTrue, IsFalse, List, [], ◌∷◌, ◌++◌, None}
use Rattle.std.specs.List.{flat_map}
use Rattle.cob_lex.specs.declared.text.Mark.{Mark}
use Rattle.cob_lex.specs.Columns.{is_ordinary, is_dropped, bad_column}
use Rattle.cob_lex.specs.Literal.{open_literal}
use Rattle.cob_lex.specs.Text.{Line, marks_from, end_mark}

-- an ordinary line that is neither blank nor bad, with no literal open at its end
pub record IsPlain (l : Line) : Type 0 where
  pub ordinary : IsTrue (is_ordinary l.1)
  pub kept : IsFalse (is_dropped l.1)
  pub good : bad_column l.1 ≡ None
  pub closed : open_literal (marks_from l.0 l.1 8) ≡ None

-- columns 8 to 72 of a line, and one space
abbrev pub plain_marks : Line → List Mark
plain_marks l = marks_from l.0 l.1 8 ++ end_mark l.0 ∷ []

abbrev pub plain_text : List Line → List Mark
plain_text ls = flat_map plain_marks ls
