-- Constants: which an item can hold, and which is at most another.
use Rattle.std.specs.Prelude.{ℕ, ◌+◌, ◌-◌, ◌*◌, zero, suc, max, Bool, true, false, not, ◌&&◌, ◌||◌, ◌==◌, nat_lt, nat_le, if◌then◌else◌, List, [], ◌∷◌, length, take, drop, slice_index_or, Option, Some, None}
use Rattle.std.specs.List.{list_all}
use Rattle.cob_tree.specs.declared.token.Num.{Num}
use Rattle.cob_tree.specs.declared.form.Form.{Form}
use Rattle.cob_tree.specs.declared.form.Form.TheVariants as form
use Rattle.cob_data.specs.declared.layout.Sender.{Sender}
use Rattle.cob_data.specs.declared.layout.Sender.TheVariants as sender
use Rattle.cob_data.specs.declared.description.Span.{Span}

-- ---- numerals

abbrev pub all_zeros : List ℕ → Bool
all_zeros digits = list_all (λ c. c == 48) digits

-- the digits before the point, and those behind it
abbrev pub whole : Num → List ℕ
whole n = take (length n.digits - n.scale) n.digits

abbrev pub decimals : Num → List ℕ
decimals n = drop (length n.digits - n.scale) n.digits

-- a numeral of less than zero
abbrev pub is_negative : Num → Bool
is_negative n = n.sign == 45 && not (all_zeros n.digits)

-- Without loss: the digits for which there is no place are zeros, and less than zero needs a sign.
abbrev pub number_fits : ℕ → ℕ → Bool → Num → Bool
number_fits digits scale signed n =
    all_zeros (take (length (whole n) - (digits - scale)) (whole n))
    && all_zeros (drop scale (decimals n))
    && (signed || not (is_negative n))

-- the number that digits write
abbrev pub value_behind : ℕ → List ℕ → ℕ
value_behind n [] = n
value_behind n (c ∷ cs) = value_behind (10 * n + (c - 48)) cs

-- the numeral has this value
abbrev pub is_number : Num → ℕ → Bool
is_number n count = value_behind 0 (whole n) == count && all_zeros (decimals n) && not (is_negative n)

-- ---- constants for items

-- the constant has the category of the item: numeric, alphanumeric, or none
abbrev pub has_category : Form → Sender → Bool
has_category (form.Number _ _ _ _) (sender.Number n) = true
has_category (form.Number _ _ _ _) sender.Zero = true
has_category (form.Text _) (sender.Text text) = true
has_category (form.Text _) (sender.Fill byte) = true
has_category (form.Text _) sender.Zero = true
has_category _ _ = false

-- The item has room for the constant. Where the categories differ nothing is asked.
abbrev pub has_room : Form → Sender → Bool
has_room (form.Number digits scale signed usage) (sender.Number n) = number_fits digits scale signed n
has_room (form.Text bytes) (sender.Text text) = nat_le (length text) bytes
has_room _ _ = true

-- one constant, which the item can hold
abbrev pub holds_alone : Form → Sender → Option Sender → Bool
holds_alone f low None = has_category f low && has_room f low
holds_alone f low (Some high) = false

abbrev pub holds : Form → List Span → Bool
holds f (s ∷ []) = holds_alone f s.low s.high
holds f _ = false

-- ---- which is at most another

-- A text between characters of one kind: so many before it, and as many behind it as are asked for.
pub record Padded : Type 0 where
  pub shift : ℕ
  pub text : List ℕ
  pub fill : ℕ

abbrev pub character : Padded → ℕ → ℕ
character p place = if nat_lt place p.shift then p.fill else slice_index_or p.text (place - p.shift) p.fill

-- the first of n places from this one on at which two texts differ decides
abbrev pub at_most_from : ℕ → ℕ → Padded → Padded → Bool
at_most_from zero place a b = true
at_most_from (suc n) place a b =
    if character a place == character b place then at_most_from n (place + 1) a b
    else nat_lt (character a place) (character b place)

-- a figurative constant is as long as the other end of a range, and 1 where that is one too
abbrev pub constant_length : Sender → ℕ
constant_length (sender.Text text) = length text
constant_length _ = 1

abbrev pub as_text : Sender → Padded
as_text (sender.Text text) = record { shift = 0; text = text; fill = 32 }
as_text (sender.Fill byte) = record { shift = 0; text = []; fill = byte }
as_text _ = record { shift = 0; text = []; fill = 48 }

-- the shorter text counts as followed by spaces
abbrev pub text_at_most : Sender → Sender → Bool
text_at_most low high = at_most_from (max (constant_length low) (constant_length high)) 0 (as_text low) (as_text high)

abbrev pub whole_length : Num → ℕ
whole_length n = length n.digits - n.scale

-- the digits with so many places before the point
abbrev pub aligned : ℕ → Num → Padded
aligned places n = record { shift = places - whole_length n; text = n.digits; fill = 48 }

-- two numerals without their signs, with the points below each other
abbrev pub magnitude_at_most : Num → Num → Bool
magnitude_at_most a b =
    let places = max (whole_length a) (whole_length b) in
    at_most_from (places + max a.scale b.scale) 0 (aligned places a) (aligned places b)

abbrev pub number_at_most : Num → Num → Bool
number_at_most a b =
    if is_negative a then (if is_negative b then magnitude_at_most b a else true)
    else if is_negative b then false
    else magnitude_at_most a b

-- ends of a range of one category
abbrev pub at_most : Sender → Sender → Bool
at_most (sender.Number a) (sender.Number b) = number_at_most a b
at_most (sender.Number a) sender.Zero = is_negative a || all_zeros a.digits
at_most sender.Zero (sender.Number b) = not (is_negative b)
at_most low high = text_at_most low high
