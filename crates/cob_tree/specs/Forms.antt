-- What an item is by its form.
use Rattle.std.specs.Prelude.{ℕ, ◌+◌, ◌/◌, nat_le, Bool, true, false, if◌then◌else◌}
use Rattle.cob_tree.specs.declared.form.Form.{Form}
use Rattle.cob_tree.specs.declared.form.Form.TheVariants.{Number}
use Rattle.cob_tree.specs.declared.form.Usage.{Usage}
use Rattle.cob_tree.specs.declared.form.Usage.TheVariants.{Display, Leading, Trailing, Binary, Packed}

-- An edited item is text, though it shows a number.
abbrev pub is_number_form : Form → Bool
is_number_form (Number digits scale signed usage) = true
is_number_form _ = false

-- How many bytes a numeric item has.
abbrev pub number_length : ℕ → Usage → ℕ
number_length digits Display = digits
number_length digits Leading = digits + 1
number_length digits Trailing = digits + 1
number_length digits Binary = if nat_le digits 4 then 2 else (if nat_le digits 9 then 4 else 8)
number_length digits Packed = digits / 2 + 1
