-- What receivers hold.
use Rattle.std.specs.Prelude.{ℕ, ◌^◌, ◌<◌, Bool, true, false, ℤ, pos, unsigned_abs}
use Rattle.cob_tree.specs.declared.form.Form.{Form}
use Rattle.cob_tree.specs.declared.form.Form.TheVariants as form
use Rattle.transfer_ranges.specs.declared.amounts.Receiver.{Receiver}

abbrev pub receiver : ℕ → ℕ → Bool → Receiver
receiver digits scale signed = record { digits = digits; scale = scale; signed = signed }

-- An item by its form; an edited one gets absolute values.
abbrev pub receiver_of : Form → Receiver
receiver_of (form.Number digits scale signed kept) = receiver digits scale signed
receiver_of (form.Edited picture digits scale) = receiver digits scale false
receiver_of _ = receiver 0 0 false

-- the counter of a TIMES
abbrev pub counter : Receiver
counter = receiver 18 0 true

-- so many digits hold the number
abbrev pub HasRoomFor : ℕ → ℤ → Type 0
HasRoomFor digits z = unsigned_abs z < 10 ^ digits

-- a receiver without a sign gets the absolute value
abbrev pub kept_units : Bool → ℤ → ℤ
kept_units true z = z
kept_units false z = pos (unsigned_abs z)
