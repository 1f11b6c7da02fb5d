-- What the reader relies on beside the tokens themselves.
use Rattle.std.specs.Prelude.{◌<◌, ◌≤◌, List, length, Option, IfSome}
use Rattle.cob_lex.specs.declared.text.Mark.{Mark}
use Rattle.cob_lex.specs.declared.cut.Cut.{Cut}

-- what is cut off has characters, all of them the text's
abbrev pub IsWithin : Option Cut → List Mark → Type 0
IsWithin found text = IfSome found (λ c. (0 < c.length) × (c.length ≤ length text))
