-- Why the law on layouts asks for numerals of at most 18 digits: a longer one whose first digits are zeros fits an item.
use Rattle.std.proofs.Common.{◌≡◌, ◌≤◌, true, false, [], ◌∷◌, ◌++◌, replicate, refl, arith}
use Rattle.cob_tree.specs.declared.token.Num.{Num}
use Rattle.cob_data.specs.Values.{number_fits}
use Rattle.cob_store.specs.WellFormed.{IsShortLiteral}

abbrev long_five : Num
long_five = record { sign = 0; digits = replicate 18 48 ++ 53 ∷ []; scale = 0 }

it_fits : number_fits 1 0 false long_five ≡ true
it_fits = refl

it_is_long : IsShortLiteral long_five → ⊥
it_is_long sound = let h : 19 ≤ 18 = sound.digits in omega (arith, h)
