-- What typing lets be read as a number has at most 18 digits.
use Rattle.std.proofs.Common.{◌≡◌, ℕ, ◌+◌, ◌-◌, ◌^◌, ◌≤◌, true, [], length, Option, Some, None, refl, arith}
use Rattle.std.specs.Prelude.{nat_le}
use Rattle.std.specs.Option.{option_map_or}
use Rattle.std.proofs.lemmas.Bool.{and_from, and_parts, le-leb, leb-true}
use Rattle.std.proofs.lemmas.Nat.{mul-le}
use Rattle.dec_num.proofs.Powers.{ten_monotone}
use Rattle.cob_tree.specs.declared.form.Form.{Form}
use Rattle.cob_tree.specs.declared.form.Form.TheVariants as form
use Rattle.cob_tree.specs.declared.token.Num.{Num}
use Rattle.cob_tree.specs.Forms.{is_number_form}
use Rattle.cob_data.specs.declared.layout.Item.{Item}
use Rattle.cob_data.specs.declared.layout.Layout.{Layout}
use Rattle.cob_data.specs.declared.layout.Sender.{Sender}
use Rattle.cob_data.specs.declared.layout.Sender.TheVariants as sender
use Rattle.cob_program.specs.Bounds.{Bound, of_digits, form_bound, literal_bound, raised, joint, sum_bound, is_small}
use Rattle.cob_runs.specs.Contents.{item_at, form_at, scale_of}
use Rattle.cob_runs.specs.Moves.{takes_number}
use Rattle.cob_runs.specs.Deciding.{is_number_end}
use Rattle.cob_store.specs.WellFormed.{IsWellFormedForm, HasWellFormedItems, IsShort, IsShortLiteral, IsCountable}
use Rattle.cob_calc.specs.Comparing.{IsShortEnd}
use Rattle.cob_calc.specs.Contents.{bound_at}
use Rattle.cob_world.specs.Needs.{IsNumber}
use Rattle.data_laws.proofs.Items.{item_sound}
use Rattle.transfer_ranges.specs.Receivers.{receiver_of}
use Rattle.transfer_ranges.specs.Sizes.{IsReceiver}
use Rattle.transfer_ranges.specs.Small.{is_short, end_bound}
use Rattle.transfer_ranges.specs.SmallAmounts.{is_small_sender}

-- ---- bounds of 18 digits

pub digits_are_short : (digits scale : ℕ) → digits ≤ 18 → scale ≤ 18 → is_short (of_digits digits scale) ≡ true
digits_are_short digits scale h k =
    and_from (nat_le (10 ^ digits - 1) (10 ^ 18 - 1)) (nat_le scale 18)
    (le-leb (10 ^ digits - 1) (10 ^ 18 - 1) (omega (arith, ten_monotone digits 18 h))) (le-leb scale 18 k)

pub short_is_small : (b : Bound) → is_short b ≡ true → is_small b ≡ true
short_is_small b e =
    let l = and_parts (nat_le b.most (10 ^ 18 - 1)) (nat_le b.scale 18) e in
    and_from (nat_le b.most (10 ^ 37 - 1)) (nat_le b.scale 37)
    (le-leb b.most (10 ^ 37 - 1) (omega (arith, leb-true b.most (10 ^ 18 - 1) l.0))) (le-leb b.scale 37 (omega (arith, leb-true b.scale 18 l.1)))

-- at the greater of two scales
raised_most : (b : Bound) (scale : ℕ) → b.most ≤ 10 ^ 18 - 1 → scale ≤ 18 → raised b scale ≤ 10 ^ 36
raised_most b scale h k =
    omega (arith, mul-le b.most (10 ^ (scale - b.scale)) (10 ^ 18) (10 ^ 18) (omega (arith, h)) (ten_monotone (scale - b.scale) 18 (omega (arith, k))))

joint_most : (a b : Bound) → a.scale ≤ 18 → b.scale ≤ 18 → joint a b ≤ 18
joint_most a b h k = omega (arith, h, k)

pub short_sum : (a b : Bound) → is_short a ≡ true → is_short b ≡ true → is_small (sum_bound a b) ≡ true
short_sum a b e f =
    let l = and_parts (nat_le a.most (10 ^ 18 - 1)) (nat_le a.scale 18) e in
    let m = and_parts (nat_le b.most (10 ^ 18 - 1)) (nat_le b.scale 18) f in
    let scale = joint_most a b (leb-true a.scale 18 l.1) (leb-true b.scale 18 m.1) in
    let first = raised_most a (joint a b) (leb-true a.most (10 ^ 18 - 1) l.0) scale in
    let second = raised_most b (joint a b) (leb-true b.most (10 ^ 18 - 1) m.0) scale in
    and_from (nat_le (raised a (joint a b) + raised b (joint a b)) (10 ^ 37 - 1)) (nat_le (joint a b) 37)
    (le-leb (raised a (joint a b) + raised b (joint a b)) (10 ^ 37 - 1) (omega (arith, first, second))) (le-leb (joint a b) 37 (omega (arith, scale)))

-- ---- forms

-- what holds of a group and of each well-formed form
of_form : (P : Form → Type 0) → P form.Group → ((f : Form) (bytes : ℕ) → IsWellFormedForm f bytes → P f) → (l : Layout) → HasWellFormedItems l →
    (place : ℕ) → P (form_at l place)
of_form P none some l items place = go (item_at l place) refl
  where
    go : (o : Option Item) → item_at l place ≡ o → P (option_map_or (λ (i : Item). i.form) o form.Group)
    go None e = none
    go (Some i) e = some i.form i.length (item_sound l items place i e).form

receives : (f : Form) (bytes : ℕ) → IsWellFormedForm f bytes → takes_number f ≡ true → IsReceiver (receiver_of f)
receives form.Group bytes whole takes = absurd cc
receives (form.Text n) bytes whole takes = absurd cc
receives (form.Number digits scale signed kept) bytes whole takes = record { some = whole.number.some_digits; digits = whole.number.at_most_18; scale = whole.decimals }
receives (form.Edited picture digits scale) bytes whole takes = record { some = whole.some_digits; digits = whole.at_most_18; scale = whole.decimals }

pub receiver_at : (l : Layout) → HasWellFormedItems l → (place : ℕ) → takes_number (form_at l place) ≡ true → IsReceiver (receiver_of (form_at l place))
receiver_at = of_form (λ f. takes_number f ≡ true → IsReceiver (receiver_of f)) (λ takes. absurd cc) receives

form_decimals : (f : Form) (bytes : ℕ) → IsWellFormedForm f bytes → scale_of f ≤ 18
form_decimals form.Group bytes whole = omega arith
form_decimals (form.Text n) bytes whole = omega arith
form_decimals (form.Number digits scale signed kept) bytes whole = omega (arith, whole.decimals, whole.number.at_most_18)
form_decimals (form.Edited picture digits scale) bytes whole = omega (arith, whole.decimals, whole.at_most_18)

pub few_decimals : (l : Layout) → HasWellFormedItems l → (place : ℕ) → scale_of (form_at l place) ≤ 18
few_decimals = of_form (λ f. scale_of f ≤ 18) (omega arith) form_decimals

form_countable : (f : Form) (bytes : ℕ) → IsWellFormedForm f bytes → IsShort f → is_short (form_bound f) ≡ true
form_countable form.Group bytes whole short = refl
form_countable (form.Text n) bytes whole short = digits_are_short n 0 short (omega arith)
form_countable (form.Number digits scale signed kept) bytes whole short =
    digits_are_short digits scale whole.number.at_most_18 (omega (arith, whole.decimals, whole.number.at_most_18))
form_countable (form.Edited picture digits scale) bytes whole short =
    digits_are_short digits scale whole.at_most_18 (omega (arith, whole.decimals, whole.at_most_18))

countable_at : (l : Layout) → HasWellFormedItems l → (place : ℕ) → IsShort (form_at l place) → is_short (bound_at l place) ≡ true
countable_at = of_form (λ f. IsShort f → is_short (form_bound f) ≡ true) (λ short. refl) form_countable

number_counts : (f : Form) → is_number_form f ≡ true → IsShort f
number_counts form.Group is = tt
number_counts (form.Text n) is = absurd cc
number_counts (form.Number digits scale signed kept) is = tt
number_counts (form.Edited picture digits scale) is = tt

pub number_at_short : (l : Layout) → HasWellFormedItems l → (place : ℕ) → is_number_form (form_at l place) ≡ true → is_short (bound_at l place) ≡ true
number_at_short l items place is = countable_at l items place (number_counts (form_at l place) is)

-- ---- senders

pub literal_short : (n : Num) → IsShortLiteral n → is_short (literal_bound n) ≡ true
literal_short n short = digits_are_short (length n.digits) n.scale short.digits short.decimals

-- what receivers that take numbers are sent
pub countable_small : (l : Layout) → HasWellFormedItems l → (y : Sender) → IsCountable l y → is_small_sender (bound_at l) y ≡ true
countable_small l items (sender.Item place) can = short_is_small (bound_at l place) (countable_at l items place can)
countable_small l items (sender.Number n) can = short_is_small (literal_bound n) (literal_short n can)
countable_small l items (sender.Text text) can = le-leb (length text) 18 can
countable_small l items (sender.Fill byte) can = refl
countable_small l items sender.Zero can = refl

-- numeric items and numerals
pub end_short : (l : Layout) → HasWellFormedItems l → (y : Sender) → is_number_end l [] y ≡ true → IsShortEnd y → is_short (end_bound (bound_at l) y) ≡ true
end_short l items (sender.Item place) is short = number_at_short l items place is
end_short l items (sender.Number n) is short = literal_short n short
end_short l items (sender.Text text) is short = absurd cc
end_short l items (sender.Fill byte) is short = absurd cc
end_short l items sender.Zero is short = refl

pub number_small : (l : Layout) → HasWellFormedItems l → (y : Sender) → IsNumber l y → is_small_sender (bound_at l) y ≡ true
number_small l items (sender.Item place) number = short_is_small (bound_at l place) (end_short l items (sender.Item place) number.number number.literal)
number_small l items (sender.Number n) number = short_is_small (literal_bound n) (literal_short n number.literal)
number_small l items (sender.Text text) number = absurd (text_is_none number.number)
  where
    text_is_none : is_number_end l [] (sender.Text text) ≡ true → ⊥
    text_is_none is = absurd cc
number_small l items (sender.Fill byte) number = refl
number_small l items sender.Zero number = refl
