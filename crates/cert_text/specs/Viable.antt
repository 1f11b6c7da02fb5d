-- How far a text goes on as one of a set of texts.
use Rattle.std.specs.Prelude.{◌≡◌, ℕ, ◌+◌, ◌<◌, ◌≤◌, List, ◌++◌, length, take}
use Rattle.cert_text.specs.Lines.{Line, text_of, cut}

-- A front is viable where some list of the set begins with it.
abbrev pub IsViable : {A : Type 0} → (List A → Type 0) → List A → Type 0
IsViable {A} lists front = (rest : List A) × lists (front ++ rest)

-- The bytes are no text of these lines, and this is the first line, counted from 1, with which none goes on:
-- the lines before it begin one, and with it they don't, or it isn't there as a whole line.
pub record FirstBad (texts : List Line → Type 0) (bytes : List ℕ) (line : ℕ) : Type 0 where
  pub before : ℕ
  pub counted : line ≡ before + 1
  pub there : before ≤ length (cut bytes).whole
  pub goes_on : IsViable texts (take before (cut bytes).whole)
  pub stops : before < length (cut bytes).whole → IsViable texts (take (before + 1) (cut bytes).whole) → ⊥
  pub no_text : before ≡ length (cut bytes).whole → (lines : List Line) → texts lines → bytes ≡ text_of lines → ⊥

-- The list is none of the set, and so many of its elements begin one: with the next element none goes on, or there
-- is no next one.
pub record StopsAfter {A : Type 0} (lists : List A → Type 0) (list : List A) (n : ℕ) : Type 0 where
  pub within : n ≤ length list
  pub goes_on : IsViable lists (take n list)
  pub stops : n < length list → IsViable lists (take (n + 1) list) → ⊥
  pub short : n ≡ length list → lists list → ⊥
