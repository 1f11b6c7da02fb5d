-- Each VALUE can be put into its item, and a numeric item then holds the value's number.
use Rattle.std.proofs.Common.{◌≡◌, ◌==◌, ℕ, ◌+◌, ◌-◌, ◌*◌, ◌/◌, ◌^◌, ◌<◌, ◌≤◌, zero, suc, Bool, true, false, not, ◌&&◌, ◌||◌, if◌then◌else◌, List, [], ◌∷◌, length, take, drop, replicate, slice_get, Option, Some, None, Ok, ℤ, pos, unsigned_abs, refl, ap, ◌∙◌, sym, subst, arith}
use Rattle.std.specs.Option.{option_and_then, option_map}
use Rattle.std.proofs.lemmas.Bool.{and_parts, eqb-true, lt-ltb, not-false}
use Rattle.std.proofs.lemmas.Option.{same_Some}
use Rattle.std.proofs.lemmas.List.{length-take-le}
use Rattle.std.proofs.lemmas.Nat.{div_below}
use Rattle.std.proofs.Math.Nat.{mul-lt-mul_of_pos_right, mul-le-mul_right, mul_assoc}
use Rattle.dec_num.specs.declared.types.Mode.TheVariants.{Trunc}
use Rattle.dec_num.specs.declared.types.Scaled.{Scaled}
use Rattle.dec_num.specs.Exact.{near}
use Rattle.dec_num.specs.Scaled.{value_of}
use Rattle.dec_num.proofs.Near.{size_of_near}
use Rattle.dec_num.proofs.Powers.{ten_positive, ten_monotone, ten-add}
use Rattle.cob_tree.specs.declared.fault.Kind.TheVariants as kind
use Rattle.cob_tree.specs.declared.token.Num.{Num}
use Rattle.cob_tree.specs.declared.tree.Tree.{Tree}
use Rattle.cob_tree.specs.declared.form.Form.{Form}
use Rattle.cob_tree.specs.declared.form.Form.TheVariants.{Group, Text, Number, Edited}
use Rattle.cob_tree.specs.declared.form.Usage.{Usage}
use Rattle.cob_data.specs.declared.description.Span.{Span}
use Rattle.cob_data.specs.declared.description.Description.{Description}
use Rattle.cob_data.specs.declared.description.Spot.{Spot}
use Rattle.cob_data.specs.declared.end.Rule.TheVariants.{L5}
use Rattle.cob_data.specs.declared.layout.Item.{Item}
use Rattle.cob_data.specs.declared.layout.Layout.{Layout}
use Rattle.cob_data.specs.declared.layout.Sender.{Sender}
use Rattle.cob_data.specs.declared.layout.Sender.TheVariants as sender
use Rattle.cob_data.specs.Values.{all_zeros, whole, decimals, is_negative, number_fits, has_category, has_room, holds, holds_alone}
use Rattle.cob_data.specs.ItemRules.{breaks_values, may_begin_with}
use Rattle.cob_data.specs.Rules.{facts_of, item_breaks}
use Rattle.cob_data.specs.Layouts.{first_low, laid_items, layout, HasLayout}
use Rattle.cob_program.specs.Values.{negated, digit_of, numeral, literal, whole_number}
use Rattle.cob_store.specs.WellFormed.{IsWellFormedForm}
use Rattle.num_bytes.specs.Reading.{contents_value}
use Rattle.cob_runs.specs.Contents.{item_at, fitted, bytes_of, stored, number_in, scaled_by}
use Rattle.cob_runs.specs.Faults.{or_fault}
use Rattle.cob_runs.specs.Moves.{number_of, moved}
use Rattle.data_laws.specs.Values.{BeginsWith}
use Rattle.data_laws.specs.Trees.{TreesPutValues, TreesStoreNumbers, TreesStoreLiterals}
use Rattle.data_laws.proofs.Pairs.{AllPairs}
use Rattle.data_laws.proofs.Lossless.{literal_exact}
use Rattle.data_laws.proofs.Kept.{keeps_item_rules}
use Rattle.data_laws.proofs.Own.{stored_back}
use Rattle.data_laws.proofs.Items.{item_sound}
use Rattle.data_laws.proofs.Apartness.{values_stand_apart}
use Rattle.data_laws.proofs.Stored.{values_read_at_first}

-- ---- how great a numeral is

digit_small : (c : ℕ) → digit_of c ≤ 9
digit_small c = omega arith

numeral_below : (a : ℕ) (cs : List ℕ) → numeral a cs < (a + 1) * 10 ^ length cs
numeral_below a [] = omega arith
numeral_below a (c ∷ cs) =
    let later = numeral_below (10 * a + digit_of c) cs in
    let one : suc (length cs) ≡ 1 + length cs = omega arith in
    let step : 10 ^ suc (length cs) ≡ 10 * 10 ^ length cs = ap (λ k. 10 ^ k) one ∙ ten-add 1 (length cs) in
    let more : (10 * a + digit_of c + 1) * 10 ^ length cs ≤ (a + 1) * (10 * 10 ^ length cs) = by_ten a (digit_of c) (10 ^ length cs) (digit_small c) in
    omega (arith, later, more, ap (λ n. (a + 1) * n) step)
  where
    by_ten : (a d n : ℕ) → d ≤ 9 → (10 * a + d + 1) * n ≤ (a + 1) * (10 * n)
    by_ten a d n small =
        let rows : (10 * a + d + 1) * n ≤ (a + 1) * 10 * n = mul-le-mul_right n (omega (arith, small)) in
        omega (arith, rows, mul_assoc (a + 1) 10 n)

-- zeros in front count for nothing
numeral_behind : (m : ℕ) (cs : List ℕ) → m ≤ length cs → all_zeros (take m cs) ≡ true → numeral 0 cs < 10 ^ (length cs - m)
numeral_behind zero cs within zeros =
    let same : length cs - 0 ≡ length cs = omega arith in omega (arith, numeral_below 0 cs, ap (λ k. 10 ^ k) same)
numeral_behind (suc m) [] within zeros = absurd (omega (arith, within))
numeral_behind (suc m) (c ∷ cs) within zeros =
    let parts = and_parts (c == 48) (all_zeros (take m cs)) zeros in
    let zero_first : c ≡ 48 = eqb-true c 48 parts.0 in
    let less : length cs - m ≡ suc (length cs) - suc m = omega arith in
    subst (λ k. numeral 0 (c ∷ cs) < 10 ^ k) less
    (subst (λ x. numeral (10 * 0 + digit_of x) cs < 10 ^ (length cs - m)) (sym zero_first) (numeral_behind m cs (omega (arith, within)) parts.1))

take-take : (m n : ℕ) (cs : List ℕ) → m ≤ n → take m (take n cs) ≡ take m cs
take-take zero n cs low = refl
take-take (suc m) zero cs low = absurd (omega (arith, low))
take-take (suc m) (suc n) [] low = refl
take-take (suc m) (suc n) (c ∷ cs) low = ap (λ t. c ∷ t) (take-take m n cs (omega (arith, low)))

-- a numeral without more digits than there are places, cut at the scale
size_fits : (digits scale : ℕ) (n : Num) → scale ≤ digits → all_zeros (take (length (whole n) - (digits - scale)) (whole n)) ≡ true →
    numeral 0 n.digits * 10 ^ scale / 10 ^ n.scale < 10 ^ digits
size_fits digits scale n decimal zeros =
    let many = length n.digits in
    let wide = many - n.scale in
    let m = wide - (digits - scale) in
    let length_whole : length (whole n) ≡ wide = length-take-le wide n.digits (omega arith) in
    let front : all_zeros (take m n.digits) ≡ true =
    ap all_zeros (sym (take-take m wide n.digits (omega arith)))
    ∙ (ap (λ k. all_zeros (take (k - (digits - scale)) (whole n))) (sym length_whole) ∙ zeros) in
    let small = numeral_behind m n.digits (omega arith) front in
    let raised : numeral 0 n.digits * 10 ^ scale < 10 ^ (many - m) * 10 ^ scale = mul-lt-mul_of_pos_right small (ten_positive scale) in
    let joined : 10 ^ (many - m + scale) ≡ 10 ^ (many - m) * 10 ^ scale = ten-add (many - m) scale in
    let most : 10 ^ (many - m + scale) ≤ 10 ^ (digits + n.scale) = ten_monotone (many - m + scale) (digits + n.scale) (omega (arith, decimal)) in
    let split : 10 ^ (digits + n.scale) ≡ 10 ^ digits * 10 ^ n.scale = ten-add digits n.scale in
    div_below (numeral 0 n.digits * 10 ^ scale) (10 ^ n.scale) (10 ^ digits) (ten_positive n.scale) (omega (arith, raised, joined, most, split))

all_zero : (cs : List ℕ) → all_zeros cs ≡ true → numeral 0 cs ≡ 0
all_zero [] zeros = refl
all_zero (c ∷ cs) zeros =
    let parts = and_parts (c == 48) (all_zeros cs) zeros in
    let zero_first : c ≡ 48 = eqb-true c 48 parts.0 in
    subst (λ x. numeral (10 * 0 + digit_of x) cs ≡ 0) (sym zero_first) (all_zero cs parts.1)

-- ---- a numeral with its sign, in units of the item's scale

abbrev units_in : Scaled → ℕ → ℤ
units_in v scale = near Trunc (value_of v) (pos scale)

abbrev plain : ℕ → ℕ → Scaled
plain size scale = record { units = pos size; scale = scale }

negated_size : (minus : Bool) (size scale : ℕ) → unsigned_abs (negated minus (plain size scale)).units ≡ size
negated_size false size scale = refl
negated_size true zero scale = refl
negated_size true (suc size) scale = refl

negated_scale : (minus : Bool) (size scale : ℕ) → (negated minus (plain size scale)).scale ≡ scale
negated_scale false size scale = refl
negated_scale true size scale = refl

literal_size : (n : Num) (scale : ℕ) → unsigned_abs (units_in (literal n) scale) ≡ numeral 0 n.digits * 10 ^ scale / 10 ^ n.scale
literal_size n scale =
    let v = literal n in
    let size = negated_size (n.sign == 45) (numeral 0 n.digits) n.scale in
    let at = negated_scale (n.sign == 45) (numeral 0 n.digits) n.scale in
    size_of_near Trunc (value_of v) (pos scale)
    ∙ (ap (λ k. k * 10 ^ scale / 10 ^ v.scale) size ∙ ap (λ k. numeral 0 n.digits * 10 ^ scale / 10 ^ k) at)

negated_whole : (minus : Bool) (size scale to : ℕ) → (minus ≡ true → size ≡ 0) → units_in (negated minus (plain size scale)) to ≡ pos (unsigned_abs (units_in (negated minus (plain size scale)) to))
negated_whole false size scale to none = refl
negated_whole true zero scale to none = refl
negated_whole true (suc size) scale to none = let no : suc size ≡ 0 = none refl in absurd (cc)

not_below : (minus zeros : Bool) → not (minus && not zeros) ≡ true → minus ≡ true → zeros ≡ true
not_below true true plus is = refl
not_below true false plus is = absurd (cc)
not_below false zeros plus is = absurd (cc)

literal_whole : (n : Num) (to : ℕ) → not (is_negative n) ≡ true → units_in (literal n) to ≡ pos (unsigned_abs (units_in (literal n) to))
literal_whole n to plus =
    negated_whole (n.sign == 45) (numeral 0 n.digits) n.scale to (λ minus. all_zero n.digits (not_below (n.sign == 45) (all_zeros n.digits) plus minus))

-- ---- what is put

module _ (l : Layout) (digits scale : ℕ) (signed : Bool) (usage : Usage) (n : ℕ) (sound : IsWellFormedForm (Number digits scale signed usage) n) where
  abbrev form : Form
  form = Number digits scale signed usage

  -- the item holds the value, cut at its scale, once this is put
  record Holds (x : Sender) (v : Scaled) : Type 0 where
    bytes : List ℕ
    put : moved l [] form n x ≡ Ok bytes
    read : contents_value form bytes ≡ Some (units_in v scale)

  sign_kept : (b : Bool) (u : ℤ) → (b ≡ false → u ≡ pos (unsigned_abs u)) → (if b then u else pos (unsigned_abs u)) ≡ u
  sign_kept true u whole = refl
  sign_kept false u whole = sym (whole refl)

  amount_put : (v : Scaled) → unsigned_abs (units_in v scale) < 10 ^ digits → or_fault kind.Truncation (stored Trunc form (value_of v)) ≡ Ok (bytes_of form (units_in v scale))
  amount_put v small =
      ap (λ b. or_fault kind.Truncation (if b then Some (bytes_of form (units_in v scale)) else None)) (lt-ltb (unsigned_abs (units_in v scale)) (10 ^ digits) small)

  amount_read : (v : Scaled) → unsigned_abs (units_in v scale) < 10 ^ digits → (signed ≡ false → units_in v scale ≡ pos (unsigned_abs (units_in v scale))) →
      contents_value form (bytes_of form (units_in v scale)) ≡ Some (units_in v scale)
  amount_read v small whole =
      stored_back digits scale signed usage (units_in v scale) sound.number.some_digits sound.number.at_most_18 small
      ∙ ap Some (sign_kept signed (units_in v scale) whole)

  plus_by : (b c : Bool) → (b || c) ≡ true → b ≡ false → c ≡ true
  plus_by true c e off = absurd (cc)
  plus_by false c e off = e

  literal_held : (x : Num) → number_fits digits scale signed x ≡ true → Holds (sender.Number x) (literal x)
  literal_held x fits =
      let all = and_parts (all_zeros (take (length (whole x) - (digits - scale)) (whole x)) && all_zeros (drop scale (decimals x))) (signed || not (is_negative x)) fits in
      let front = (and_parts (all_zeros (take (length (whole x) - (digits - scale)) (whole x))) (all_zeros (drop scale (decimals x))) all.0).0 in
      let small : unsigned_abs (units_in (literal x) scale) < 10 ^ digits = omega (arith, literal_size x scale, size_fits digits scale x sound.decimals front) in
      record {
        bytes = bytes_of form (units_in (literal x) scale);
        put = amount_put (literal x) small;
        read = amount_read (literal x) small (λ off. literal_whole x scale (plus_by signed (not (is_negative x)) all.1 off));
      }

  zero_held : Holds sender.Zero (whole_number (pos 0))
  zero_held =
      let v = whole_number (pos 0) in
      let small : unsigned_abs (units_in v scale) < 10 ^ digits = omega (arith, size_of_near Trunc (value_of v) (pos scale), ten_positive digits) in
      record { bytes = bytes_of form (units_in v scale); put = amount_put v small; read = amount_read v small (λ off. refl) }

  number_held : (x : Sender) (v : Scaled) → has_category form x ≡ true → has_room form x ≡ true → number_of l [] x ≡ Some v → Holds x v
  number_held (sender.Number x) v category room is = subst (Holds (sender.Number x)) (same_Some _ _ is) (literal_held x room)
  number_held sender.Zero v category room is = subst (Holds sender.Zero) (same_Some _ _ is) zero_held
  number_held (sender.Item place) v category room is = absurd (cc)
  number_held (sender.Text text) v category room is = absurd (cc)
  number_held (sender.Fill byte) v category room is = absurd (cc)

-- each constant of the item's category that it has room for can be put
put_by_form : (l : Layout) (f : Form) (n : ℕ) (x : Sender) → IsWellFormedForm f n → has_category f x ≡ true → has_room f x ≡ true →
    (bytes : List ℕ) × (moved l [] f n x ≡ Ok bytes)
put_by_form l Group n x sound category room = absurd (cc)
put_by_form l (Edited picture digits scale) n x sound category room = absurd (cc)
put_by_form l (Text k) n (sender.Text text) sound category room = (fitted n text, refl)
put_by_form l (Text k) n (sender.Fill byte) sound category room = (fitted n (replicate n byte), refl)
put_by_form l (Text k) n sender.Zero sound category room = (fitted n (replicate n 48), refl)
put_by_form l (Text k) n (sender.Item place) sound category room = absurd (cc)
put_by_form l (Text k) n (sender.Number x) sound category room = absurd (cc)
put_by_form l (Number digits scale signed usage) n (sender.Number x) sound category room =
    let held = literal_held l digits scale signed usage n sound x room in (held.bytes, held.put)
put_by_form l (Number digits scale signed usage) n sender.Zero sound category room =
    let held = zero_held l digits scale signed usage n sound in (held.bytes, held.put)
put_by_form l (Number digits scale signed usage) n (sender.Item place) sound category room = absurd (cc)
put_by_form l (Number digits scale signed usage) n (sender.Text text) sound category room = absurd (cc)
put_by_form l (Number digits scale signed usage) n (sender.Fill byte) sound category room = absurd (cc)

-- ---- the rule on values

abbrev Fits : Item → Type 0
Fits i = (x : Sender) → i.value ≡ Some x → (has_category i.form x ≡ true) × (has_room i.form x ≡ true)

alone_fits : (f : Form) (low : Sender) (high : Option Sender) → holds_alone f low high ≡ true → (has_category f low ≡ true) × (has_room f low ≡ true)
alone_fits f low None h = and_parts (has_category f low) (has_room f low) h
alone_fits f low (Some high) h = absurd (cc)

first_fits : (f : Form) (values : List Span) (x : Sender) → holds f values ≡ true → first_low values ≡ Some x → (has_category f x ≡ true) × (has_room f x ≡ true)
first_fits f [] x h is = absurd (cc)
first_fits f (s ∷ []) x h is = subst (λ y. (has_category f y ≡ true) × (has_room f y ≡ true)) (same_Some _ _ is) (alone_fits f s.low s.high h)
first_fits f (s ∷ t ∷ ss) x h is = absurd (cc)

value_fits : (d : Description) (s : Spot) (value : Option (List Span)) (x : Sender) → d.value ≡ value → breaks_values d s ≡ false →
    option_and_then first_low value ≡ Some x → (has_category d.form x ≡ true) × (has_room d.form x ≡ true)
value_fits d s None x e kept is = absurd (cc)
value_fits d s (Some values) x e kept is =
    let may : may_begin_with d s values ≡ true = not-false (may_begin_with d s values) (rw e at kept) in
    first_fits d.form values x (and_parts _ (holds d.form values) may).1 is

all_fit : (ds : List Description) (ss : List Spot) → AllPairs (λ d s. item_breaks L5 d s ≡ false) ds ss → (place : ℕ) (i : Item) →
    slice_get (laid_items ds ss) place ≡ Some i → Fits i
all_fit [] ss kept place i at = absurd (cc)
all_fit (d ∷ ds) [] kept place i at = absurd (cc)
all_fit (d ∷ ds) (s ∷ ss) kept zero i at = subst Fits (same_Some _ _ at) (λ x is. value_fits d s d.value x refl kept.0 is)
all_fit (d ∷ ds) (s ∷ ss) kept (suc place) i at = all_fit ds ss kept.1 place i at

-- ---- the layout of a tree

value_of_tree : (t : Tree) → HasLayout t → (place : ℕ) (i : Item) → item_at (layout t) place ≡ Some i → Fits i
value_of_tree t has place i at =
    let f = facts_of t in all_fit f.items f.spots (keeps_item_rules t has).values place i at

pub values_can_be_put : TreesPutValues
values_can_be_put t has sound place i value =
    let l = layout t in
    let fits = value_of_tree t has place i value.at value.value value.given in
    let held = item_sound l sound place i value.at in
    let put = put_by_form l i.form i.length value.value held.form fits.0 fits.1 in
    (put.0, record { has = value; put = put.1 })

pub numbers_stand_at_first : TreesStoreNumbers
numbers_stand_at_first t has sound first place i value digits scale signed usage v form number k less =
    let l = layout t in
    let x = value.value in
    let fits = value_of_tree t has place i value.at x value.given in
    let formed = (item_sound l sound place i value.at).form in
    let held = number_held l digits scale signed usage i.length (subst (λ f. IsWellFormedForm f i.length) form formed) x v
    (subst (λ f. has_category f x ≡ true) form fits.0) (subst (λ f. has_room f x ≡ true) form fits.1) number in
    let begins : BeginsWith l place i held.bytes = record { has = value; put = ap (λ f. moved l [] f i.length x) form ∙ held.put } in
    values_read_at_first l first place i held.bytes sound (values_stand_apart t has) begins k less
    ∙ (ap (λ f. number_in f held.bytes) form ∙ ap (option_map (scaled_by scale)) held.read)

number_room : (digits scale : ℕ) (signed : Bool) (usage : Usage) (n : Num) → has_room (Number digits scale signed usage) (sender.Number n) ≡ true →
    all_zeros (drop scale (decimals n)) ≡ true
number_room digits scale signed usage n room =
    let front = all_zeros (take (length (whole n) - (digits - scale)) (whole n)) in
    let behind = all_zeros (drop scale (decimals n)) in
    (and_parts front behind (and_parts (front && behind) (signed || not (is_negative n)) room).0).1

pub literals_stand_at_first : TreesStoreLiterals
literals_stand_at_first t has sound first place i value digits scale signed usage n form is proper k less =
    let l = layout t in
    let room = (value_of_tree t has place i value.at value.value value.given).1 in
    let fits : has_room (Number digits scale signed usage) (sender.Number n) ≡ true =
    subst (λ x. has_room (Number digits scale signed usage) x ≡ true) is (subst (λ f. has_room f value.value ≡ true) form room) in
    record {
      number = scaled_by scale (near Trunc (value_of (literal n)) (pos scale));
      read = numbers_stand_at_first t has sound first place i value digits scale signed usage (literal n) form (ap (number_of l []) is) k less;
      same = literal_exact n scale proper (number_room digits scale signed usage n fits);
    }
