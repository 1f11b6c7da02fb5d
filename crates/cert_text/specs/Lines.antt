-- A text as whole lines: each ends in LF, and is written here without it.
use Rattle.std.specs.Prelude.{◌≡◌, ℕ, List, [], ◌∷◌, ◌++◌, Option, None, Some, ◌==◌, if◌then◌else◌}
use Rattle.std.specs.List.{flat_map, AllByRecursion}

abbrev pub Line : Type 0
Line = List ℕ

-- the text of these lines
abbrev pub text_of : List Line → List ℕ
text_of lines = flat_map (λ line. line ++ 10 ∷ []) lines

-- no LF in it
abbrev pub IsOneLine : Line → Type 0
IsOneLine line = AllByRecursion (λ byte. byte ≡ 10 → ⊥) line

-- the lines that end in LF, and what stands behind the last LF
pub record Cut : Type 0 where
  pub whole : List Line
  pub rest : List ℕ

-- a byte before a text that is cut already
abbrev pub with_byte : ℕ → List Line → List ℕ → Cut
with_byte byte [] rest = record { whole = []; rest = byte ∷ rest }
with_byte byte (line ∷ lines) rest = record { whole = (byte ∷ line) ∷ lines; rest = rest }

abbrev pub cut : List ℕ → Cut
cut [] = record { whole = []; rest = [] }
cut (byte ∷ bytes) =
    if byte == 10
    then record { whole = [] ∷ (cut bytes).whole; rest = (cut bytes).rest }
    else with_byte byte (cut bytes).whole (cut bytes).rest

-- The first line and what stands behind it; None where no LF stands in the text.
abbrev pub Splits : List ℕ → Option (Line × List ℕ) → Type 0
Splits bytes None = cut bytes ≡ record { whole = []; rest = bytes }
Splits bytes (Some (line, behind)) = cut bytes ≡ record { whole = line ∷ (cut behind).whole; rest = (cut behind).rest }
