-- Reading a text line by line.
use Rattle.std.specs.Prelude.{◌≡◌, ℕ, ◌+◌, ◌-◌, ◌^◌, ◌&&◌, min, ◌==◌, if◌then◌else◌, List, [], ◌∷◌, length, Option, Some, None, Result, Ok, Err}
use Rattle.cert_text.specs.Lines.{Line, cut}
use Rattle.cert_text.specs.declared.draft.Stage.TheVariants as stages
use Rattle.cert_text.specs.declared.cert.Cert.{Cert}
use Rattle.cert_text.specs.declared.cert.CertEnd.{CertEnd}
use Rattle.cert_text.specs.declared.cert.CertEnd.TheVariants as ends
use Rattle.cert_text.specs.View.{Certificate, view}
use Rattle.cert_text.specs.Draft.{Parts, nothing_read, is_at, certificate_of, line_read}

-- the number of the next line, where it fits
abbrev pub next_line : ℕ → ℕ
next_line n = min (n + 1) (2 ^ 32 - 1)

abbrev pub or_refuse : ℕ → Option Parts → (Parts → Result Certificate ℕ) → Result Certificate ℕ
or_refuse n None on = Err n
or_refuse n (Some d) on = on d

abbrev pub ended : ℕ → Parts → List ℕ → Result Certificate ℕ
ended n d rest = if is_at d.stage stages.Ended && (length rest == 0) then Ok (certificate_of d) else Err n

-- From line n on: the certificate, or the line that is refused.
abbrev pub reading : ℕ → Parts → List Line → List ℕ → Result Certificate ℕ
reading n d [] rest = ended n d rest
reading n d (l ∷ ls) rest = or_refuse n (line_read d l) (λ e. reading (next_line n) e ls rest)

unfoldable pub read_of : List ℕ → Result Certificate ℕ
read_of bytes = reading 1 nothing_read (cut bytes).whole (cut bytes).rest

-- What was returned is what reading gives, unless memory ran out.
abbrev pub Gives : Result Cert CertEnd → Result Certificate ℕ → Type 0
Gives (Ok c) read = read ≡ Ok (view c)
Gives (Err (ends.Syntax line)) read = read ≡ Err line
Gives (Err ends.Memory) read = Unit {0}
