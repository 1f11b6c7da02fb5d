-- Statements whose numbers are small enough to be worked with.
use Rattle.std.specs.Prelude.{ℕ, nat_le, Bool, true, length}
use Rattle.cob_data.specs.declared.layout.Sender.{Sender}
use Rattle.cob_data.specs.declared.layout.Sender.TheVariants as sender
use Rattle.cob_program.specs.Bounds.{Bound, is_small, is_small_stored, literal_bound}
use Rattle.cob_program.specs.Act.{Act, arith}
use Rattle.cob_edge_parts.specs.Parts.{Amount, moved, computed, remaining, augmented}
use Rattle.transfer_ranges.specs.Operands.{is_whole}
use Rattle.sum_ranges.specs.Taking.{is_small_taken}

module _ (bound : ℕ → Bound) where
  -- a text that is read as a number has 18 digits at most
  abbrev pub is_small_sender : Sender → Bool
  is_small_sender (sender.Item place) = is_small (bound place)
  is_small_sender (sender.Number n) = is_small (literal_bound n)
  is_small_sender (sender.Text text) = nat_le (length text) 18
  is_small_sender _ = true

  -- what an amount is worked out of keeps the rule of bounds
  abbrev pub is_small_amount : Amount → Bool
  is_small_amount (moved x) = is_small_sender x
  is_small_amount (computed s how) = is_small_taken bound (is_whole how) s
  is_small_amount (remaining s scale) = is_small_taken bound true s
  is_small_amount (augmented x) = is_small_sender x

  -- the sum of an arithmetic statement does, whose whole is stored: a quotient that stays exact need not be small
  abbrev pub has_small_sum : Act → Bool
  has_small_sum (arith s targets remainder size fine) = is_small_stored bound s
  has_small_sum _ = true
