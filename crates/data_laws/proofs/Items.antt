-- The items of a layout, and the numbers that storage holds in them.
use Rattle.std.proofs.Common.{◌≡◌, ℕ, ◌+◌, ◌<◌, ◌≤◌, zero, suc, List, [], ◌∷◌, length, drop, slice_get, Option, Some, None, ℤ, refl, ap, sym, subst, arith}
use Rattle.std.specs.List.{AllByRecursion}
use Rattle.std.specs.Option.{option_map, option_map_or}
use Rattle.std.proofs.lemmas.Option.{same_Some}
use Rattle.std.proofs.lemmas.List.{length-take-le, length-drop}
use Rattle.std.proofs.lemmas.List.Elements.{recursion_from_All}
use Rattle.dec_num.specs.declared.types.Scaled.{Scaled}
use Rattle.cob_tree.specs.declared.form.Form.{Form}
use Rattle.cob_tree.specs.declared.form.Form.TheVariants.{Group}
use Rattle.cob_data.specs.declared.layout.Item.{Item}
use Rattle.cob_data.specs.declared.layout.Layout.{Layout}
use Rattle.num_bytes.specs.Reading.{contents_value}
use Rattle.cob_store.specs.WellFormed.{IsWellFormedForm, IsWellFormedItem, HasWellFormedItems}
use Rattle.cob_data.specs.Extents.{start_of}
use Rattle.cob_data.specs.Occurrences.{extent_of}
use Rattle.cob_runs.specs.Contents.{area, item_at, form_at, times_at, occurrence_bytes, scale_of, scaled_by}
use Rattle.graph_runs.specs.Sources.{HasSignIfSeparate, SeparateItemsHaveSigns}
use Rattle.data_laws.specs.Items.{IsOwn, NumbersAreOwn}
use Rattle.data_laws.proofs.Own.{read_is_own}

holds_at : (P : Item → Type 0) (items : List Item) (place : ℕ) (i : Item) → AllByRecursion P items → slice_get items place ≡ Some i → P i
holds_at P [] place i all at = absurd (cc)
holds_at P (j ∷ items) zero i all at = subst P (same_Some _ _ at) all.0
holds_at P (j ∷ items) (suc place) i all at = holds_at P items place i all.1 at

pub item_sound : (l : Layout) → HasWellFormedItems l → (place : ℕ) (i : Item) → item_at l place ≡ Some i → IsWellFormedItem l i
item_sound l sound place i at = holds_at (IsWellFormedItem l) l.items place i (recursion_from_All (IsWellFormedItem l) l.items sound.items) at

item_sign : (l : Layout) → SeparateItemsHaveSigns l → (place : ℕ) (i : Item) → item_at l place ≡ Some i → HasSignIfSeparate i.form
item_sign l signs place i at =
    holds_at (λ j. HasSignIfSeparate j.form) l.items place i (recursion_from_All (λ (j : Item). HasSignIfSeparate j.form) l.items signs) at

length-area : (storage : List ℕ) (offset count : ℕ) → offset + count ≤ length storage → length (area storage offset count) ≡ count
length-area storage offset count within = length-take-le count (drop offset storage) (omega (arith, length-drop offset storage))

module _ (l : Layout) (sound : HasWellFormedItems l) (signs : SeparateItemsHaveSigns l) (bytes : List ℕ) (whole : length bytes ≡ l.storage) where
  own_in : (place n : ℕ) (z : ℤ) (o : Option Item) → item_at l place ≡ o → n < option_map_or (λ i. i.times) o 1 →
      contents_value (option_map_or (λ i. i.form) o Group)
      (option_map_or (λ i. area bytes (start_of (extent_of i) n) i.length) o []) ≡ Some z →
      IsOwn (option_map_or (λ i. i.form) o Group) z
  own_in place n z None at less is = absurd (cc)
  own_in place n z (Some i) at less is =
      let held = item_sound l sound place i at in
      let from = start_of (extent_of i) n in
      let long : length (area bytes from i.length) ≡ i.length =
      length-area bytes from i.length (omega (arith, held.within n less, whole)) in
      read_is_own i.form (area bytes from i.length) z (subst (IsWellFormedForm i.form) (sym long) held.form) (item_sign l signs place i at) is

  pub own_at : (place n : ℕ) (z : ℤ) → n < times_at l place →
      contents_value (form_at l place) (occurrence_bytes l bytes place n) ≡ Some z → IsOwn (form_at l place) z
  own_at place n z less is = own_in place n z (item_at l place) refl less is

units_of : (f : Form) (o : Option ℤ) (v : Scaled) → option_map (scaled_by (scale_of f)) o ≡ Some v → o ≡ Some v.units
units_of f None v is = absurd (cc)
units_of f (Some z) v is = ap (λ (w : Scaled). Some w.units) (same_Some _ _ is)

pub numbers_are_own : NumbersAreOwn
numbers_are_own l bytes place n v sound signs whole less is =
    own_at l sound signs bytes whole place n v.units less
    (units_of (form_at l place) (contents_value (form_at l place) (occurrence_bytes l bytes place n)) v is)
