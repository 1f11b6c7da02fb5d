-- Words on the answers of `fit`.
use Rattle.std.specs.Prelude.{⊤, ℤ}
use Rattle.dec_num.specs.declared.types.Fit.{Fit}
use Rattle.dec_num.specs.declared.types.Fit.TheVariants.{Stored, TooBig}

-- P of the stored number, if there is one
abbrev pub IfStored : Fit → (ℤ → Type 0) → Type 0
IfStored (Stored z) P = P z
IfStored TooBig P = ⊤

-- P of the stored number, or Q
abbrev pub MatchFit : Fit → (ℤ → Type 0) → Type 0 → Type 0
MatchFit (Stored z) P Q = P z
MatchFit TooBig P Q = Q
