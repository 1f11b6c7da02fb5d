-- What is put into an item has the item's length.
use Rattle.std.proofs.Common.{◌≡◌, ℕ, ◌==◌, ◌+◌, ◌-◌, ◌*◌, ◌/◌, ◌%◌, ◌^◌, ◌≤◌, zero, suc, nat_le, nat_lt, Bool, true, false, ◌&&◌, if◌then◌else◌, List, [], ◌∷◌, ◌++◌, length, replicate, refl, ap, ◌∙◌, sym, arith, Option, Some, None, Ok, ℤ, pos, unsigned_abs}
use Rattle.std.specs.Int.{w16, w32, w64, to_be_bytes, cast_unsigned}
use Rattle.std.proofs.lemmas.Option.{cond_some}
use Rattle.std.proofs.lemmas.List.{length-append, length-replicate, length-take-le}
use Rattle.dec_num.specs.declared.types.Mode.{Mode}
use Rattle.dec_num.specs.declared.types.Mode.TheVariants.{Trunc}
use Rattle.dec_num.specs.declared.types.Scaled.{Scaled}
use Rattle.dec_num.specs.Exact.{Fraction, near}
use Rattle.dec_num.specs.Scaled.{value_of}
use Rattle.cob_tree.specs.declared.fault.Kind.TheVariants as kind
use Rattle.cob_tree.specs.declared.form.Form.{Form}
use Rattle.cob_tree.specs.declared.form.Form.TheVariants.{Group, Text, Number, Edited}
use Rattle.cob_tree.specs.declared.form.Usage.{Usage}
use Rattle.cob_tree.specs.declared.form.Usage.TheVariants.{Display, Leading, Trailing, Binary, Packed}
use Rattle.cob_tree.specs.Pictures.{place_count}
use Rattle.cob_data.specs.declared.layout.Layout.{Layout}
use Rattle.cob_data.specs.declared.layout.Sender.{Sender}
use Rattle.num_bytes.specs.Digits.{last_digits, digit_text, digit_at}
use Rattle.cob_tree.specs.Forms.{number_length}
use Rattle.num_bytes.specs.Reading.{binary_width}
use Rattle.num_bytes.specs.Writing.{packed, number_bytes, is_minus, sign_half, overpunched_digit, sign_byte}
use Rattle.num_bytes.specs.Editing.{edited, edited_bytes, still_suppressed, begins_suppressed, all_suppressed}
use Rattle.num_bytes.proofs.DigitLemmas.{length-digit_text}
use Rattle.cob_store.specs.WellFormed.{IsWellFormedForm}
use Rattle.cob_runs.specs.Contents.{fitted, digits_of, scale_of, bytes_of, stored}
use Rattle.cob_runs.specs.Faults.{◌>>=◌, or_fault}
use Rattle.cob_runs.specs.Moves.{takes_number, number_of, text_of, raw_text, is_group_sender, moved_amount, moved}

-- ---- texts

pub length-fitted : (n : ℕ) (bytes : List ℕ) → length (fitted n bytes) ≡ n
length-fitted n bytes =
    length-take-le n (bytes ++ replicate n 32) (omega (arith, length-append bytes (replicate n 32), length-replicate {A = ℕ} n 32))

-- ---- numbers

length-last_digits : (n v : ℕ) → length (last_digits n v) ≡ n
length-last_digits zero v = refl
length-last_digits (suc n) v = ap suc (length-last_digits n v)

length-packed : (hs : List ℕ) → length (packed hs) ≡ (length hs + 1) / 2
length-packed [] = refl
length-packed (h ∷ []) = refl
length-packed (h ∷ l ∷ hs) = omega (arith, length-packed hs)

length-binary : (digits n : ℕ) → length (to_be_bytes (binary_width digits) n) ≡ number_length digits Binary
length-binary digits n = by (nat_le digits 4) (nat_le digits 9) where
  by : (x y : Bool) → length (to_be_bytes (if x then w16 else (if y then w32 else w64)) n) ≡ (if x then 2 else (if y then 4 else 8))
  by true y = refl
  by false true = refl
  by false false = refl

length-number : (digits : ℕ) (signed : Bool) (usage : Usage) (z : ℤ) → 1 ≤ digits → length (number_bytes digits signed usage z) ≡ number_length digits usage
length-number digits true Display z some =
    let size = unsigned_abs z in
    omega (arith, length-append (digit_text (last_digits (digits - 1) (size / 10))) (overpunched_digit (is_minus z) (size % 10) ∷ []), length-digit_text (digits - 1) (size / 10))
length-number digits false Display z some = length-digit_text digits (unsigned_abs z)
length-number digits signed Leading z some = omega (arith, length-digit_text digits (unsigned_abs z))
length-number digits signed Trailing z some =
    omega (arith, length-append (digit_text (last_digits digits (unsigned_abs z))) (sign_byte (is_minus z) ∷ []), length-digit_text digits (unsigned_abs z))
length-number digits signed Binary z some = length-binary digits (cast_unsigned (binary_width digits) z)
length-number digits signed Packed z some =
    let ds = last_digits (2 * (digits / 2) + 1) (unsigned_abs z) in
    let end = sign_half signed (is_minus z) in
    omega (arith, length-packed (ds ++ end ∷ []), length-append ds (end ∷ []), length-last_digits (2 * (digits / 2) + 1) (unsigned_abs z))

length-edited : (on : Bool) (picture : List ℕ) (v : ℕ) → length (edited on picture v) ≡ length picture
length-edited on [] v = refl
length-edited on (c ∷ cs) v = ap suc (length-edited (still_suppressed on c (digit_at (place_count cs) v)) cs v)

length-edited_bytes : (picture : List ℕ) (v : ℕ) → length (edited_bytes picture v) ≡ length picture
length-edited_bytes picture v = by (v == 0 && all_suppressed picture) where
  by : (x : Bool) → length (if x then replicate (length picture) 32 else edited (begins_suppressed picture) picture v) ≡ length picture
  by true = length-replicate {A = ℕ} (length picture) 32
  by false = length-edited (begins_suppressed picture) picture v

pub length-bytes_of : (f : Form) (n : ℕ) (units : ℤ) → IsWellFormedForm f n → takes_number f ≡ true → length (bytes_of f units) ≡ n
length-bytes_of Group n units sound takes = absurd (cc)
length-bytes_of (Text k) n units sound takes = absurd (cc)
length-bytes_of (Number digits scale true usage) n units sound takes =
    length-number digits true usage units sound.number.some_digits ∙ sym sound.number.whole
length-bytes_of (Number digits scale false usage) n units sound takes =
    length-number digits false usage (pos (unsigned_abs units)) sound.number.some_digits ∙ sym sound.number.whole
length-bytes_of (Edited picture digits scale) n units sound takes =
    length-edited_bytes picture (unsigned_abs units) ∙ sym sound.whole

-- ---- what a MOVE puts

length-text : (n : ℕ) (text : Option (List ℕ)) (bytes : List ℕ) → (or_fault kind.Class text >>= λ b. Ok (fitted n b)) ≡ Ok bytes → length bytes ≡ n
length-text n None bytes is = absurd (cc)
length-text n (Some b) bytes is = let same : fitted n b ≡ bytes = cc in ap length (sym same) ∙ length-fitted n b

pub length-stored : (mode : Mode) (f : Form) (v : Fraction) (n : ℕ) (bytes : List ℕ) → IsWellFormedForm f n → takes_number f ≡ true →
    stored mode f v ≡ Some bytes → length bytes ≡ n
length-stored mode f v n bytes sound takes is =
    let units = near mode v (pos (scale_of f)) in
    let parts = cond_some (nat_lt (unsigned_abs units) (10 ^ digits_of f)) (bytes_of f units) bytes is in
    ap length (sym parts.1) ∙ length-bytes_of f n units sound takes

length-amount : (f : Form) (x : Option Scaled) (n : ℕ) (bytes : List ℕ) → IsWellFormedForm f n → takes_number f ≡ true →
    (or_fault kind.Class x >>= λ v. or_fault kind.Truncation (stored Trunc f (value_of v))) ≡ Ok bytes → length bytes ≡ n
length-amount f None n bytes sound takes is = absurd (cc)
length-amount f (Some v) n bytes sound takes is = by (stored Trunc f (value_of v)) refl is where
  by : (o : Option (List ℕ)) → stored Trunc f (value_of v) ≡ o → or_fault kind.Truncation o ≡ Ok bytes → length bytes ≡ n
  by None e is = absurd (cc)
  by (Some b) e is = let same : b ≡ bytes = cc in length-stored Trunc f (value_of v) n bytes sound takes (e ∙ ap Some same)

pub length-moved : (l : Layout) (storage : List ℕ) (f : Form) (n : ℕ) (x : Sender) (bytes : List ℕ) → IsWellFormedForm f n →
    moved l storage f n x ≡ Ok bytes → length bytes ≡ n
length-moved l storage Group n x bytes sound is = length-text n (raw_text l storage n x) bytes is
length-moved l storage (Text k) n x bytes sound is = length-text n (text_of l storage n x) bytes is
length-moved l storage (Number digits scale signed usage) n x bytes sound is = by (is_group_sender l x) is where
  by : (b : Bool) → moved_amount l storage b (Number digits scale signed usage) n x ≡ Ok bytes → length bytes ≡ n
  by true is = length-text n (raw_text l storage n x) bytes is
  by false is = length-amount (Number digits scale signed usage) (number_of l storage x) n bytes sound refl is
length-moved l storage (Edited picture digits scale) n x bytes sound is = by (is_group_sender l x) is where
  by : (b : Bool) → moved_amount l storage b (Edited picture digits scale) n x ≡ Ok bytes → length bytes ≡ n
  by true is = length-text n (raw_text l storage n x) bytes is
  by false is = length-amount (Edited picture digits scale) (number_of l storage x) n bytes sound refl is
