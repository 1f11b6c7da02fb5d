-- Sums that are read.
use Rattle.std.proofs.Common.{◌≡◌, ◌&&◌, ℕ, Bool, true, false, Option, Some, None, is_some}
use Rattle.cob_program.specs.Sum.{Sum}
use Rattle.cob_program.specs.Values.{Root, root_of}
use Rattle.cob_program.specs.Bounds.{Bound, is_small_sum, is_small_root}
use Rattle.sum_ranges.specs.Taking.{is_small_taken}

no_root : (bound : ℕ → Bound) (s : Sum) (o : Option Root) → is_some o ≡ false → is_small_root bound s o ≡ true → is_small_sum bound s ≡ true
no_root bound s None e small = small
no_root bound s (Some r) e small = absurd cc

-- a sum whose whole isn't stored, or which is no quotient
pub readable : (bound : ℕ → Bound) (whole : Bool) (s : Sum) → is_small_taken bound whole s ≡ true → (whole && is_some (root_of s)) ≡ false → is_small_sum bound s ≡ true
readable bound false s small e = small
readable bound true s small e = no_root bound s (root_of s) e small
