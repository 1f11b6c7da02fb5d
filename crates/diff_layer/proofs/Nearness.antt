-- Ends that a receiver has no room for.
use Rattle.std.proofs.Common.{◌≡◌, ◌≤◌, ◌<◌, ◌^◌, ◌-◌, ℕ, true, false, ℤ, pos, negsuc, neg_ℤ, sym, ap, ◌∙◌, arith}
use Rattle.std.specs.Prelude.{int_le, int_lt, unsigned_abs, Some}
use Rattle.std.proofs.lemmas.Int.{ints}
use Rattle.dec_num.specs.declared.types.Mode.{Mode}
use Rattle.dec_num.specs.Exact.{with_sign_of, near_size, near}
use Rattle.dec_num.specs.Scaled.{value_of}
use Rattle.dec_num.proofs.Powers.{ten_positive}
use Rattle.sum_ranges.specs.Ranged.{decimal}
use Rattle.transfer_ranges.specs.declared.amounts.Receiver.{Receiver}
use Rattle.diff_steps.specs.Clearing.{high_fits, low_fits}
use Rattle.diff_layer.proofs.PackSizes.{low_as_high}

above : (size most : ℕ) → most < size → false ≡ int_le (pos size) (pos most)
above size most h = grind (arith, ints)

below : (size most : ℕ) → true ≡ int_le (neg_ℤ (pos size)) (pos most)
below size most = grind (arith, ints)

not_negative : (k : ℕ) → int_lt (pos k) (pos 0) ≡ false
not_negative k = grind (arith, ints)

by_sign : (u : ℤ) (size digits : ℕ) → 10 ^ digits ≤ unsigned_abs (with_sign_of u size) → int_lt u (pos 0) ≡ int_le (with_sign_of u size) (pos (10 ^ digits - 1))
by_sign (pos k) size digits h = let some = ten_positive digits in not_negative k ∙ above size (10 ^ digits - 1) (omega (arith, h, some))
by_sign (negsuc k) size digits h = below size (10 ^ digits - 1)

pub too_big_high : (mode : Mode) (r : Receiver) (f : ℕ) (u v : ℤ) → v ≡ u → 10 ^ r.digits ≤ unsigned_abs (near mode (value_of (decimal v f)) (pos r.scale)) → int_lt v (pos 0) ≡ high_fits mode r f (Some u)
too_big_high mode r f u v e h = by_sign v (near_size mode (value_of (decimal v f)) (pos r.scale)) r.digits h ∙ ap (λ z. high_fits mode r f (Some z)) e

pub too_big_low : (mode : Mode) (r : Receiver) (f : ℕ) (u v : ℤ) → v ≡ u → 10 ^ r.digits ≤ unsigned_abs (near mode (value_of (decimal v f)) (pos r.scale)) → int_lt v (pos 0) ≡ low_fits mode r f (Some u)
too_big_low mode r f u v e h = too_big_high mode r f u v e h ∙ sym (low_as_high mode r f u)
