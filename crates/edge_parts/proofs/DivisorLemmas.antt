-- Lists of divisors, as the code cuts them.
use Rattle.std.proofs.Common.{◌≡◌, ◌<◌, ◌==◌, ℕ, Bool, false, List, [], ◌∷◌, ◌++◌, length, sym, ◌∙◌, arith}
use Rattle.std.proofs.lemmas.List.{map-append}
use Rattle.std.proofs.lemmas.Bool.Decides.{nat_tests}
use Rattle.cob_program.specs.declared.act.Target.{Target}
use Rattle.cob_program.specs.Sum.{Sum}
use Rattle.cob_edge_parts.specs.Parts as edge
use Rattle.cob_edge_parts.specs.Parts.{divides, divisors_in, divisors_of}
use Rattle.edge_parts.specs.Pieces.{whole_divisors, sides_divisors}

-- a list that isn't empty
pub some_of : (n : ℕ) (b : Bool) → b ≡ (n == 0) → b ≡ false → 0 < n
some_of n b e f = let none : (n == 0) ≡ false = sym e ∙ f in grind (arith, nat_tests)

pub divisors_cut : (s : Sum) (ts : List Target) → 0 < length ts →
    divides (divisors_of s ts) ≡ divides (divisors_in s) ++ divides (whole_divisors s ts)
divisors_cut s [] some = absurd (omega arith)
divisors_cut s (t ∷ ts) some = map-append edge.divide (divisors_in s) (whole_divisors s (t ∷ ts))

pub sides_cut : (a b : Sum) → divides (sides_divisors a b) ≡ divides (divisors_in a) ++ divides (divisors_in b)
sides_cut a b = map-append edge.divide (divisors_in a) (divisors_in b)
