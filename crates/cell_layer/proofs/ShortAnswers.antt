-- The ranges that are answered are those of the items, as far as the numbers of a statement are small.
use Rattle.std.proofs.Common.{◌≡◌, ℕ, Bool, true, List, Some, None, ap, subst}
use Rattle.cob_program.specs.Sum.{Atom}
use Rattle.cob_program.specs.Bounds.{is_small, is_small_atom}
use Rattle.cob_program.specs.Act.{once, times, until, varying, Act, arith, move, perform, write, Program}
use Rattle.cob_runs.specs.declared.action.Action.{Action}
use Rattle.cob_runs.specs.declared.action.Action.TheVariants as action
use Rattle.cob_calc.specs.Contents.{bound_at}
use Rattle.cob_edge_parts.specs.Parts.{Amount}
use Rattle.sum_ranges.specs.declared.ranged.Ranged.{Ranged}
use Rattle.sum_ranges.specs.SumRanges.{atom_range}
use Rattle.sum_ranges.specs.Vanishing.{may_be_zero}
use Rattle.transfer_ranges.specs.Stores.{operands}
use Rattle.interval_domain.specs.Known.{Known}
use Rattle.transfer_ranges.specs.EdgeOperands.{edge_amount, operands_vanish}
use Rattle.cell_steps.specs.Stores.{range_at}
use Rattle.transfer_ranges.specs.SmallAmounts.{is_small_amount, has_small_sum}
use Rattle.cell_laws.specs.Sizes.{sends_small}
use Rattle.cell_layer.specs.ShortRanges.{if_small, short_range_at}
use Rattle.cell_layer.proofs.SumsAgree.{atom_same, zero_same, operands_same, operands_vanish_same}

if_small_is : (t : Bool) (r : Ranged) → t ≡ true → if_small t r ≡ r
if_small_is t r e = ap (λ b. if_small b r) e

module _ (p : Program) (cells : List Known) where
  pub short_is : (place : ℕ) → is_small (bound_at p.layout place) ≡ true → short_range_at p cells place ≡ range_at p cells place
  short_is place small = if_small_is (is_small (bound_at p.layout place)) (range_at p cells place) small

  pub atom_is : (a : Atom) → is_small_atom (bound_at p.layout) a ≡ true → atom_range (short_range_at p cells) a ≡ atom_range (range_at p cells) a
  atom_is a small = atom_same (short_range_at p cells) (range_at p cells) (bound_at p.layout) short_is a small

  pub zero_is : (a : Atom) → is_small_atom (bound_at p.layout) a ≡ true → may_be_zero (short_range_at p cells) a ≡ may_be_zero (range_at p cells) a
  zero_is a small = zero_same (short_range_at p cells) (range_at p cells) (bound_at p.layout) short_is a small

  pub operands_are : (y : Amount) → is_small_amount (bound_at p.layout) y ≡ true → operands (short_range_at p cells) y ≡ operands (range_at p cells) y
  operands_are y small = operands_same (short_range_at p cells) (range_at p cells) (bound_at p.layout) short_is y small

  pub vanishing_is : (a : Act) → has_small_sum (bound_at p.layout) a ≡ true → operands_vanish (short_range_at p cells) a ≡ operands_vanish (range_at p cells) a
  vanishing_is a small = operands_vanish_same (short_range_at p cells) (range_at p cells) (bound_at p.layout) short_is a small

-- ---- the amount of an edge

some_is : {A : Type 0} {a b : A} → Some a ≡ Some b → a ≡ b
some_is e = cc

module _ (p : Program) (y : Amount) where
  given_is_small : (z : Amount) → Some z ≡ Some y → is_small_amount (bound_at p.layout) z ≡ true → is_small_amount (bound_at p.layout) y ≡ true
  given_is_small z e small = subst (λ w. is_small_amount (bound_at p.layout) w ≡ true) (some_is e) small

  pub edge_is_small : (a : Act) (x : Action) → edge_amount a x ≡ Some y → has_small_sum (bound_at p.layout) a ≡ true → sends_small p a x ≡ true →
      is_small_amount (bound_at p.layout) y ≡ true
  edge_is_small (arith s targets remainder size fine) x e sum sends = given_is_small _ e sum
  edge_is_small (move z places) x e sum sends = given_is_small _ e sends
  edge_is_small (perform body (varying after place start by t)) action.Assign e sum sends = given_is_small _ e sends
  edge_is_small (perform body (varying after place start by t)) x e sum sends = given_is_small _ e sends
  edge_is_small (perform body (times z)) x e sum sends = given_is_small _ e sends
  edge_is_small (perform body once) x e sum sends = absurd cc
  edge_is_small (perform body (until after t)) x e sum sends = absurd cc
  edge_is_small (write r None) x e sum sends = absurd cc
  edge_is_small (write r (Some z)) x e sum sends = given_is_small _ e sends
  edge_is_small _ x e sum sends = absurd cc
