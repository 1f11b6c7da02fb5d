-- What a source's bytes give: its canonical tokens, or a place at which there are none.
use Rattle.std.specs.Prelude.{◌≡◌, ℕ, List, Result, Ok, Err, Vec}
use Rattle.std.specs.declared.alloc.Global.{Global}
use Rattle.cob_lex.specs.declared.text.Mark.{Mark}
use Rattle.cob_lex.specs.Text.{source_text}
use Rattle.cob_lex.specs.declared.refusal.Place.{Place}
use Rattle.cob_lex.specs.Spelled.{IsStopped, place}
use Rattle.cob_lex.specs.Canonical.{AreTokensOf}
use Rattle.cob_tree.specs.declared.token.Token.{Token}
use Rattle.cob_lex.specs.declared.scan.ScanEnd.{ScanEnd}
use Rattle.cob_lex.specs.declared.scan.ScanEnd.TheVariants as end

pub data Scan : Type 0 where
  -- the line and the column of the first place that the reference format refuses
  BadLineAt : ℕ → ℕ → Scan
  -- those of the first place of the text at which neither a token nor a separator stands
  BadTokenAt : ℕ → ℕ → Scan
  Tokens : List Token → Scan

-- what a text gives
abbrev pub Lexes : List Mark → Scan → Type 0
Lexes text (BadLineAt number column) = ⊥
Lexes text (BadTokenAt number column) = IsStopped text (place number column)
Lexes text (Tokens tokens) = AreTokensOf text tokens

abbrev pub ScansBy : Result (List Mark) Place → Scan → Type 0
ScansBy (Ok text) s = Lexes text s
ScansBy (Err bad) s = s ≡ BadLineAt bad.line bad.column

-- These bytes give this: their text has these tokens or stops there, or they have no text.
abbrev pub Scans : List ℕ → Scan → Type 0
Scans bytes s = ScansBy (source_text bytes) s

-- What is answered is what the bytes give, or want of memory.
abbrev pub IsScanned : List ℕ → Result (Vec Token Global) ScanEnd → Type 0
IsScanned bytes (Ok tokens) = Scans bytes (Tokens tokens.items)
IsScanned bytes (Err (end.BadLine line column)) = Scans bytes (BadLineAt line column)
IsScanned bytes (Err (end.BadToken line column)) = Scans bytes (BadTokenAt line column)
IsScanned bytes (Err end.Memory) = Unit {0}
