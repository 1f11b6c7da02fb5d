-- A part of storage that is written.
use Rattle.std.proofs.Common.{◌≡◌, Some, ℕ, ◌+◌, ◌-◌, ◌≤◌, List, ◌++◌, length, length-drop, take, drop, refl, ap, ◌∙◌, sym, subst, arith}
use Rattle.std.proofs.lemmas.List.{take_all, length-take-le}
use Rattle.std.proofs.lemmas.Slice.{put_mid-paste}
use borrow.Rule.Slice.PartMut.{put_mid}
use Rattle.cob_tree.specs.declared.form.Form.{Form}
use Rattle.cob_tree.specs.declared.form.Form.TheVariants.{Group, Text, Number, Edited}
use Rattle.std.specs.Option.{option_map_or}
use Rattle.cob_data.specs.declared.layout.Item.{Item}
use Rattle.cob_data.specs.declared.layout.Layout.{Layout}
use Rattle.cob_runs.specs.Contents.{area, written, digits_of, item_at, form_at, filled_at}
use Rattle.cob_store.specs.WellFormed.{IsWellFormedForm, IsWellFormedItem}

pub put_mid_written : (xs ys : List ℕ) (a k : ℕ) → length ys ≡ k → put_mid a k xs ys ≡ written xs a ys
put_mid_written xs ys a k whole =
    put_mid-paste a k xs ys ys k refl refl (sym whole)
    ∙ (ap (λ zs. take a xs ++ zs ++ drop (a + k) xs) (take_all k ys (omega arith))
    ∙ ap (λ n. take a xs ++ ys ++ drop (a + n) xs) (sym whole))

pub first_within : (l : Layout) (i : Item) → IsWellFormedItem l i → i.offset + i.length ≤ l.storage
first_within l i sound = sound.within 0 (omega (arith, sound.extent.some))

-- the bytes of an item that is no table's are those of its form
pub first_formed : (l : Layout) (i : Item) (storage : List ℕ) → IsWellFormedItem l i → length storage ≡ l.storage →
    IsWellFormedForm i.form (length (area storage i.offset i.length))
first_formed l i storage sound whole =
    let within = first_within l i sound in
    let rest = length-drop i.offset storage in
    let long : length (area storage i.offset i.length) ≡ i.length =
    length-take-le i.length (drop i.offset storage) (omega (arith, rest, within, whole)) in
    subst (IsWellFormedForm i.form) (sym long) sound.form

pub few_digits : (f : Form) (bytes : ℕ) → IsWellFormedForm f bytes → digits_of f ≤ 18
few_digits Group bytes sound = omega arith
few_digits (Text n) bytes sound = omega arith
few_digits (Number digits scale signed usage) bytes sound = sound.number.at_most_18
few_digits (Edited picture digits scale) bytes sound = sound.at_most_18

-- an item's part of storage is written with bytes that its form tells
pub part-filled : (l : Layout) (xs : List ℕ) (place : ℕ) (i : Item) (bytes : Form → List ℕ) (ys : List ℕ) → item_at l place ≡ Some i →
    length ys ≡ i.offset + i.length - i.offset → ys ≡ bytes i.form →
    put_mid i.offset (i.offset + i.length - i.offset) xs ys ≡ filled_at l xs place (bytes (form_at l place))
part-filled l xs place i bytes ys found whole is =
    put_mid_written xs ys i.offset (i.offset + i.length - i.offset) whole
    ∙ (ap (written xs i.offset) is ∙ sym (ap (λ o. option_map_or (λ (j : Item). written xs j.offset (bytes (option_map_or (λ (k : Item). k.form) o Group))) o xs) found))
