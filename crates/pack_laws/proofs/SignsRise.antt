-- Of a lower matrix, a narrower form and a narrower amount more is sure of the sign.
use Rattle.std.proofs.Common.{◌≡◌, ℕ, ◌+◌, true, false, List, ℤ, pos, ◌≤ℤ◌, Option, Some, None, sym, subst, arith}
use Rattle.std.specs.Prelude.{nat_le, int_le}
use Rattle.cob_program.specs.Values.{◌>>=◌}
use Rattle.diff_bounds.specs.declared.form.lin.Lin.{Lin}
use Rattle.diff_bounds.specs.Results.{IsNarrower}
use Rattle.diff_bounds.specs.Matrix.{word}
use Rattle.diff_bounds.specs.Numbers.{IsUnder}
use Rattle.diff_bounds.specs.Upper.{upper, coef_at, upper_of}
use Rattle.diff_bounds.specs.Values.{AreLower}
use Rattle.diff_bounds.proofs.Mono.{upper_under}
use Rattle.diff_bounds.specs.Errors.{IsSurer}
use Rattle.sum_ranges.specs.declared.ranged.Ranged.{Ranged}
use Rattle.sum_ranges.specs.Ranged as range
use Rattle.sum_forms.specs.SumForms.{turned_form}
use Rattle.sum_forms.specs.Values.{IsNarrowerIfAny}
use Rattle.sum_forms.proofs.Narrower.{turns_narrower}
use Rattle.transfer_ranges.specs.declared.amounts.AmountRange.{AmountRange}
use Rattle.transfer_ranges.specs.declared.amounts.AmountRange.TheVariants as amount
use Rattle.transfer_ranges.specs.Amounts.{IsNarrowerAmount}
use Rattle.cell_laws.proofs.OperandsRise.{or_rises}
use Rattle.diff_steps.specs.Stores.{is_low, upper_negated, known_of_range, known_of_amount}

low_under : (o q : Option ℤ) → IsUnder o q → is_low q ≡ true → is_low o ≡ true
low_under o None n e = absurd cc
low_under None (Some v) n e = absurd n
low_under (Some u) (Some v) n e = grind (arith, n, e)

not_negative_rises : (x y : ℤ) → x ≤ℤ y → int_le (pos 0) x ≡ true → int_le (pos 0) y ≡ true
not_negative_rises x y h e = grind (arith, h, e)

not_positive_rises : (x y : ℤ) → y ≤ℤ x → int_le x (pos 0) ≡ true → int_le y (pos 0) ≡ true
not_positive_rises x y h e = grind (arith, h, e)

module _ (size : ℕ) (a b : List ℤ) (lower : AreLower (size + 1) (word (size + 1) a) (word (size + 1) b)) where
  pub upper_lower : (f g : Lin) → IsNarrower f g → IsUnder (upper_of size a f) (upper_of size b g)
  upper_lower f g n =
      subst (λ (coefs : List ℤ). IsUnder (upper_of size a f) (upper (word (size + 1) b) (coef_at coefs) g.constant.high size)) n.coefs
      (upper_under size (word (size + 1) a) (word (size + 1) b) lower (coef_at f.coefs) f.constant.high g.constant.high n.high)

  pub upper_lower_if : (o q : Option Lin) → IsNarrowerIfAny o q → IsUnder (o >>= upper_of size a) (q >>= upper_of size b)
  upper_lower_if o None n = tt
  upper_lower_if None (Some g) n = absurd n
  upper_lower_if (Some f) (Some g) n = upper_lower f g n

  pub upper_negated_lower : (f g : Lin) → IsNarrower f g → IsUnder (upper_negated size a f) (upper_negated size b g)
  upper_negated_lower f g n = upper_lower_if (turned_form true f) (turned_form true g) (turns_narrower true (Some f) (Some g) n)

  pub upper_negated_lower_if : (o q : Option Lin) → IsNarrowerIfAny o q → IsUnder (o >>= upper_negated size a) (q >>= upper_negated size b)
  upper_negated_lower_if o None n = tt
  upper_negated_lower_if None (Some g) n = absurd n
  upper_negated_lower_if (Some f) (Some g) n = upper_negated_lower f g n

  range_surer : (f g : Lin) → IsNarrower f g → (to : ℕ) (r q : Ranged) → range.IsNarrower r q → IsSurer (known_of_range size a f to r) (known_of_range size b g to q)
  range_surer f g n to r q m = record {
    whole = λ e. subst (λ (scale : ℕ). nat_le scale to ≡ true) (sym m.scale) e;
    not_negative = or_rises (int_le (pos 0) q.units.low) (is_low (upper_negated size b g)) (int_le (pos 0) r.units.low) (is_low (upper_negated size a f))
        (not_negative_rises q.units.low r.units.low m.low) (low_under (upper_negated size a f) (upper_negated size b g) (upper_negated_lower f g n));
    not_positive = or_rises (int_le q.units.high (pos 0)) (is_low (upper_of size b g)) (int_le r.units.high (pos 0)) (is_low (upper_of size a f))
        (not_positive_rises q.units.high r.units.high m.high) (low_under (upper_of size a f) (upper_of size b g) (upper_lower f g n));
  }

  nothing_surer : (f : Lin) (to : ℕ) (r : AmountRange) → IsSurer (known_of_amount size a f to (Some r)) (record { whole = false; not_negative = false; not_positive = false })
  nothing_surer f to r = record { whole = λ e. absurd cc; not_negative = λ e. absurd cc; not_positive = λ e. absurd cc }

  pub amount_surer : (f g : Lin) → IsNarrower f g → (to : ℕ) (r q : AmountRange) → IsNarrowerAmount r q → IsSurer (known_of_amount size a f to (Some r)) (known_of_amount size b g to (Some q))
  amount_surer f g n to (amount.Decimal r) (amount.Decimal q) m = range_surer f g n to r q m
  amount_surer f g n to (amount.Decimal r) (amount.Quotient top under) m = absurd m
  amount_surer f g n to (amount.Decimal r) (amount.Remainder top under scale) m = absurd m
  amount_surer f g n to (amount.Quotient t u) (amount.Decimal q) m = absurd m
  amount_surer f g n to (amount.Quotient t u) (amount.Quotient top under) m = nothing_surer f to (amount.Quotient t u)
  amount_surer f g n to (amount.Quotient t u) (amount.Remainder top under scale) m = absurd m
  amount_surer f g n to (amount.Remainder t u k) (amount.Decimal q) m = absurd m
  amount_surer f g n to (amount.Remainder t u k) (amount.Quotient top under) m = absurd m
  amount_surer f g n to (amount.Remainder t u k) (amount.Remainder top under scale) m = nothing_surer f to (amount.Remainder t u k)
