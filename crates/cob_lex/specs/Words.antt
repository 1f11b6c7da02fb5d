-- Words in capitals, and the reserved words among them.
use Rattle.std.specs.Prelude.{ℕ, List, map, Option}
use Rattle.std.specs.Char.{to_ascii_uppercase}
use Rattle.cob_lex.specs.declared.text.Mark.{Mark}
use Rattle.cob_tree.specs.declared.keyword.Keyword.{Keyword}
use Rattle.cob_tree.specs.Keywords.{keyword_of}

-- the characters in capitals
abbrev pub raised : List Mark → List ℕ
raised front = map (λ m. to_ascii_uppercase m.ch) front

-- the reserved word that stands here, in capitals or not
abbrev pub spelled_keyword : List Mark → Option Keyword
spelled_keyword front = keyword_of (raised front)
