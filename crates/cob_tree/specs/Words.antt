-- A word by what is known of it.
use Rattle.std.specs.Prelude.{◌≡◌, ℕ, List, None}
use Rattle.cob_tree.specs.declared.word.Found.{Found}
use Rattle.cob_tree.specs.declared.word.Found.TheVariants.{Reserved, Free}
use Rattle.cob_tree.specs.Keywords.{text_of, keyword_of}

-- its bytes
abbrev pub found_text : Found → List ℕ
found_text (Reserved keyword) = text_of keyword
found_text (Free name) = name

-- a free word is no reserved one
abbrev pub IsFound : Found → Type 0
IsFound (Reserved keyword) = Unit {0}
IsFound (Free name) = keyword_of name ≡ None
