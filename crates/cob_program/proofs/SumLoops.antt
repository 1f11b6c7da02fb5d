-- Steps of the loops over the parts of a sum: what is left gives the whole.
use Rattle.std.proofs.Common.{◌≡◌, ℕ, ◌+◌, ◌<◌, ◌≤◌, List, length, get_or, drop, map, ap}
use Rattle.std.proofs.lemmas.List.{drop_all}
use Rattle.cob_program.specs.declared.sum.Sum as declared_sum
use Rattle.cob_program.specs.declared.sum.Sum.{out-Sum}
use Rattle.cob_program.specs.declared.sum.Part as declared_part
use Rattle.cob_program.specs.declared.sum.Part.{out-Part}
use Rattle.cob_program.specs.declared.sum.Factor as declared_factor
use Rattle.cob_program.specs.declared.sum.Factor.{out-Factor}
use Rattle.cob_program.specs.declared.sum.Atom.TheFolds.{fold_out-Sum, fold_out-Part, fold_out-Factor}
use Rattle.cob_program.specs.Sum.{MkSum, Parts, no_parts, more_parts, parts_of, MkPart, Factors, no_factors, more_factors, factors_of, MkFactor}
use Rattle.cob_program.specs.SumView.{plain_sum, plain_part, plain_factor, plain_atom}
use Rattle.cob_program.proofs.Loops.{item_step}

abbrev pub factors_from : List declared_factor.Factor → ℕ → Factors
factors_from xs i = factors_of (map plain_factor (drop i xs))

abbrev pub parts_from : List declared_part.Part → ℕ → Parts
parts_from xs i = parts_of (map plain_part (drop i xs))

pub factor_is : (f : declared_factor.Factor) → plain_factor f ≡ MkFactor (out-Factor f).over (out-Factor f).minus (plain_atom (out-Factor f).atom)
factor_is f = fold_out-Factor _ _ _ _ _ _ _ _ f

pub part_is : (p : declared_part.Part) → plain_part p ≡ MkPart (out-Part p).minus (factors_of (map plain_factor (out-Part p).factors.items))
part_is p = fold_out-Part _ _ _ _ _ _ _ _ p

pub sum_is : (x : declared_sum.Sum) → plain_sum x ≡ MkSum (parts_of (map plain_part (out-Sum x).parts.items))
sum_is x = fold_out-Sum _ _ _ _ _ _ _ _ x

pub factors_step : (xs : List declared_factor.Factor) (i : ℕ) (x : declared_factor.Factor) → i < length xs → x ≡ get_or xs i x → factors_from xs i ≡ more_factors (plain_factor x) (factors_from xs (i + 1))
factors_step xs i x within is = ap (λ ys. factors_of (map plain_factor ys)) (item_step xs i x within is)

pub factors_end : (xs : List declared_factor.Factor) (i : ℕ) → length xs ≤ i → factors_from xs i ≡ no_factors
factors_end xs i past = ap (λ ys. factors_of (map plain_factor ys)) (drop_all i xs past)

pub parts_step : (xs : List declared_part.Part) (i : ℕ) (x : declared_part.Part) → i < length xs → x ≡ get_or xs i x → parts_from xs i ≡ more_parts (plain_part x) (parts_from xs (i + 1))
parts_step xs i x within is = ap (λ ys. parts_of (map plain_part ys)) (item_step xs i x within is)

pub parts_end : (xs : List declared_part.Part) (i : ℕ) → length xs ≤ i → parts_from xs i ≡ no_parts
parts_end xs i past = ap (λ ys. parts_of (map plain_part ys)) (drop_all i xs past)
