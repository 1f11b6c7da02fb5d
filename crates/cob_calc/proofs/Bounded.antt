-- No item is worth more than its picture says.
use Rattle.std.proofs.Common.{◌≡◌, ℕ, ◌+◌, ◌-◌, ◌^◌, ◌≤◌, ℤ, pos, true, List, length, drop, Option, Some, None, refl, subst, arith}
use Rattle.std.specs.Prelude.{unwrap_or, nat_le, IsTrue, slice_get}
use Rattle.std.proofs.lemmas.Bool.Decides.{nat_tests}
use Rattle.std.proofs.lemmas.Option.{slice_get_within, get_or_from_slice_get}
use Rattle.std.proofs.lemmas.List.{length-take-le, length-drop}
use Rattle.dec_num.proofs.Powers.{ten_monotone}
use Rattle.cob_tree.specs.declared.form.Form.{Form}
use Rattle.cob_tree.specs.declared.form.Form.TheVariants as form
use Rattle.cob_data.specs.declared.layout.Item.{Item}
use Rattle.cob_data.specs.declared.layout.Layout.{Layout}
use Rattle.num_bytes.specs.Reading.{contents_value}
use Rattle.cob_program.specs.Bounds.{of_digits, form_bound, is_small, IsWithin}
use Rattle.cob_runs.specs.Contents.{area, item_at, form_at, scaled_by}
use Rattle.cob_runs.specs.Moves.{takes_number}
use Rattle.cob_store.specs.WellFormed.{IsWellFormedForm, IsWellFormedItem, HasWellFormedItems}
use Rattle.cob_store.proofs.Parts.{first_within}
use Rattle.cob_store.proofs.ReadBound.{read_within}
use Rattle.cob_calc.specs.Contents.{Contents, IsWellFormed, amount, amount_at, bound_at, IsBounded}

number_within : (digits scale : ℕ) (z : Option ℤ) → ((x : ℤ) → z ≡ Some x → IsWithin (scaled_by scale x) (of_digits digits scale)) → IsWithin (scaled_by scale (unwrap_or z (pos 0))) (of_digits digits scale)
number_within digits scale None h = record { most = omega arith; scale = refl }
number_within digits scale (Some x) h = h x refl

amount_within : (f : Form) (bs : List ℕ) → IsWellFormedForm f (length bs) → IsWithin (amount f bs) (form_bound f)
amount_within form.Group bs h = record { most = omega arith; scale = refl }
amount_within (form.Text n) bs h = record { most = omega arith; scale = refl }
amount_within (form.Number digits scale signed kept) bs h =
    number_within digits scale (contents_value (form.Number digits scale signed kept) bs)
    (λ x e. read_within (form.Number digits scale signed kept) bs x (scaled_by scale x) h e refl)
amount_within (form.Edited picture digits scale) bs h = record { most = omega arith; scale = refl }

length-area : (storage : List ℕ) (offset count : ℕ) → offset + count ≤ length storage → length (area storage offset count) ≡ count
length-area storage offset count h = length-take-le count (drop offset storage) (omega (arith, length-drop offset storage))

-- the item at a place
pub sound_item : (l : Layout) (place : ℕ) (i : Item) → HasWellFormedItems l → slice_get l.items place ≡ Some i → IsWellFormedItem l i
sound_item l place i sound e =
    subst (IsWellFormedItem l) (get_or_from_slice_get l.items place i i e) (sound.items place i (slice_get_within l.items place i e))

-- its bytes lie within storage,
pub held_within : (c : Contents) (place : ℕ) (i : Item) → IsWellFormed c → item_at c.layout place ≡ Some i → i.offset + i.length ≤ length c.storage
held_within c place i sound e =
    let h = first_within c.layout i (sound_item c.layout place i sound.items e) in
    omega (arith, h, sound.whole)

-- and are those of its form
pub held_formed : (c : Contents) (place : ℕ) (i : Item) → IsWellFormed c → item_at c.layout place ≡ Some i →
    IsWellFormedForm i.form (length (area c.storage i.offset i.length))
held_formed c place i sound e =
    let h = sound_item c.layout place i sound.items e in
    rw (length-area c.storage i.offset i.length (held_within c place i sound e)) h.form

pub bounded : (c : Contents) → IsWellFormed c → IsBounded c
bounded c sound place = go (slice_get c.layout.items place) refl
  where
    go : (o : Option Item) → slice_get c.layout.items place ≡ o → IsWithin (amount_at c place) (bound_at c.layout place)
    go None e = rw e (record { most = omega arith; scale = refl })
    go (Some i) e = rw e (amount_within i.form (area c.storage i.offset i.length) (held_formed c place i sound e))

-- ---- receivers

few : (a b : ℕ) → a ≤ b → nat_le a b ≡ true
few a b h = grind (arith, nat_tests)

digits_are_small : (digits scale : ℕ) → digits ≤ 18 → scale ≤ digits → is_small (of_digits digits scale) ≡ true
digits_are_small digits scale h k =
    rw (few (10 ^ digits - 1) (10 ^ 37 - 1) (omega (arith, ten_monotone digits 18 h)), few scale 37 (omega arith)) refl

form_is_small : (f : Form) (bytes : ℕ) → IsWellFormedForm f bytes → IsTrue (takes_number f) → is_small (form_bound f) ≡ true
form_is_small form.Group bytes h t = absurd cc
form_is_small (form.Text n) bytes h t = absurd cc
form_is_small (form.Number digits scale signed kept) bytes h t = digits_are_small digits scale h.number.at_most_18 h.decimals
form_is_small (form.Edited picture digits scale) bytes h t = digits_are_small digits scale h.at_most_18 h.decimals

-- what takes a number is small
pub receiver_is_small : (l : Layout) (place : ℕ) → HasWellFormedItems l → IsTrue (takes_number (form_at l place)) → is_small (bound_at l place) ≡ true
receiver_is_small l place sound = go (slice_get l.items place) refl
  where
    go : (o : Option Item) → slice_get l.items place ≡ o → IsTrue (takes_number (form_at l place)) → is_small (bound_at l place) ≡ true
    go None e t = absurd (none (rw e at t))
      where
        none : IsTrue (takes_number form.Group) → ⊥
        none t = cc
    go (Some i) e t = rw e (form_is_small i.form i.length (sound_item l place i sound e).form (rw e at t))
