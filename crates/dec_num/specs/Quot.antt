-- A word on the answers of `quot`.
use Rattle.std.specs.Prelude.{⊤, ℤ}
use Rattle.dec_num.specs.declared.types.Quot.{Quot}
use Rattle.dec_num.specs.declared.types.Quot.TheVariants.{ZeroDivisor, Over, Is}

-- P of the quotient, if there is one
abbrev pub IfIs : Quot → (ℤ → Type 0) → Type 0
IfIs ZeroDivisor P = ⊤
IfIs Over P = ⊤
IfIs (Is q) P = P q
