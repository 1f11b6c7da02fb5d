-- Whether operands have a range.
use Rattle.std.proofs.Common.{◌≡◌, ℕ, Bool, true, false, Option, Some, None, is_some, refl, sym, ap, ◌∙◌}
use Rattle.std.specs.Option.{option_map}
use Rattle.cob_program.specs.Sum.{Sum}
use Rattle.cob_program.specs.Values.{◌>>=◌}
use Rattle.sum_ranges.specs.declared.ranged.Ranged.{Ranged}
use Rattle.sum_ranges.specs.SumRanges.{sum_range}
use Rattle.transfer_ranges.specs.declared.amounts.Taken.{Taken}
use Rattle.transfer_ranges.specs.Operands.{alone, taken_sum}
use Rattle.cell_laws.proofs.Roots.{settled_is}
use Rattle.transfer_ranges.specs.EdgeOperands.{settled}

alone_there : (o : Option Ranged) → is_some (option_map alone o) ≡ is_some o
alone_there None = refl
alone_there (Some r) = refl

alone_settles : (o : Option Ranged) → is_some (option_map alone o >>= settled) ≡ is_some o
alone_settles None = refl
alone_settles (Some r) = refl

module _ (range : ℕ → Ranged) (s : Sum) where
  settles_there : (whole : Bool) → is_some (taken_sum range whole s >>= settled) ≡ is_some (sum_range range s)
  settles_there true = ap is_some (settled_is range s) ∙ alone_there (sum_range range s)
  settles_there false = alone_settles (sum_range range s)

  pub none_taken : (whole : Bool) (o : Option Taken) → o ≡ taken_sum range whole s → o ≡ None → false ≡ is_some (sum_range range s)
  none_taken whole o e none = ap (λ (q : Option Taken). is_some (q >>= settled)) (sym none ∙ e) ∙ settles_there whole

  pub some_taken : (whole settles : Bool) (o : Option Taken) (t : Taken) → o ≡ taken_sum range whole s → o ≡ Some t → settles ≡ is_some (settled t) →
      settles ≡ is_some (sum_range range s)
  some_taken whole settles o t e some told = told ∙ ap (λ (q : Option Taken). is_some (q >>= settled)) (sym some ∙ e) ∙ settles_there whole
