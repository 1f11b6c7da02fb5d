-- Numbers of at most 18 digits.
use Rattle.std.proofs.Common.{◌≡◌, ℕ, ◌-◌, ◌^◌, ◌<◌, ◌≤◌, true, length, arith}
use Rattle.std.specs.Prelude.{unsigned_abs}
use Rattle.std.proofs.lemmas.Nat.{mul-le}
use Rattle.dec_num.specs.declared.types.Scaled.{Scaled}
use Rattle.dec_num.specs.Scaled.{units_at, joint_scale}
use Rattle.dec_num.proofs.Bounds.{size_of_units_at}
use Rattle.dec_num.proofs.Powers.{ten_monotone, ten_positive}
use Rattle.cob_tree.specs.declared.form.Form.{Form}
use Rattle.cob_tree.specs.declared.form.Form.TheVariants as form
use Rattle.cob_tree.specs.declared.token.Num.{Num}
use Rattle.cob_tree.specs.Forms.{is_number_form}
use Rattle.cob_program.specs.Bounds.{of_digits, form_bound, literal_bound, IsWithin}
use Rattle.cob_store.specs.WellFormed.{IsWellFormedForm, IsShortLiteral}
use Rattle.cob_calc.specs.Comparing.{IsShortNumber, CanCompare}

short_digits : (v : Scaled) (digits scale : ℕ) → digits ≤ 18 → scale ≤ 18 → IsWithin v (of_digits digits scale) → IsShortNumber v
short_digits v digits scale h k w = record { most = omega (arith, w.most, ten_monotone digits 18 h, ten_positive digits); scale = omega (arith, w.scale, k) }

pub short_number : (f : Form) (bytes : ℕ) (v : Scaled) → IsWellFormedForm f bytes → is_number_form f ≡ true → IsWithin v (form_bound f) → IsShortNumber v
short_number form.Group bytes v h n w = absurd cc
short_number (form.Text k) bytes v h n w = absurd cc
short_number (form.Number digits scale signed kept) bytes v h n w = short_digits v digits scale h.number.at_most_18 (omega (arith, h.decimals, h.number.at_most_18)) w
short_number (form.Edited picture digits scale) bytes v h n w = absurd cc

pub short_literal : (n : Num) (v : Scaled) → IsShortLiteral n → IsWithin v (literal_bound n) → IsShortNumber v
short_literal n v h w = short_digits v (length n.digits) n.scale h.digits h.decimals w

pub ruleset numbers = (short_number, short_literal)

-- ---- they compare

raised : (v : Scaled) (j : ℕ) → unsigned_abs v.units < 10 ^ 18 → j ≤ 18 → unsigned_abs (units_at v j) < 10 ^ 37
raised v j h k =
    omega (arith, size_of_units_at v j (10 ^ 18) (omega (arith, h)), mul-le (10 ^ 18) (10 ^ (j - v.scale)) (10 ^ 18) (10 ^ 18) (omega arith) (ten_monotone (j - v.scale) 18 (omega arith)))

pub short_compare : (v w : Scaled) → IsShortNumber v → IsShortNumber w → CanCompare v w
short_compare v w h k =
    let few : joint_scale v w ≤ 18 = omega (arith, h.scale, k.scale) in
    record { within = omega (arith, few); left = raised v (joint_scale v w) h.most few; right = raised w (joint_scale v w) k.most few }
