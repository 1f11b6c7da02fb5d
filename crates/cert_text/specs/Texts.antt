-- The texts of certificates, as lines.
use Rattle.std.specs.Prelude.{◌≡◌, ℕ, ◌-◌, ◌^◌, min, List}
use Rattle.cert_text.specs.Lines.{Line}
use Rattle.cert_text.specs.Viable.{FirstBad}
use Rattle.cert_text.specs.declared.cert.CertEnd.{CertEnd}
use Rattle.cert_text.specs.declared.cert.CertEnd.TheVariants as ends
use Rattle.cert_text.specs.View.{Certificate}
use Rattle.cert_text.specs.Allowed.{IsAllowed}
use Rattle.cert_text.specs.Text.{lines}

abbrev pub IsText : List Line → Type 0
IsText ls = (c : Certificate) × IsAllowed c × (ls ≡ lines c)

-- What an error says of the text: the number of its first bad line, or the largest number where that is larger.
abbrev pub RefusedBy : List ℕ → CertEnd → Type 0
RefusedBy bytes (ends.Syntax line) = (n : ℕ) × (line ≡ min n (2 ^ 32 - 1)) × FirstBad IsText bytes n
RefusedBy bytes ends.Memory = Unit {0}
