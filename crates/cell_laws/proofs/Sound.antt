-- What an analysis of cells needs of a layout.
use Rattle.std.proofs.Common.{◌≡◌, ◌==◌, not, ℕ, ◌+◌, ◌^◌, ◌<◌, Bool, true, false, if◌then◌else◌, Option, Some, None, ℤ, pos, negsuc, unsigned_abs, refl, ap, ◌∙◌, subst, arith}
use Rattle.std.specs.Option.{option_map_or}
use Rattle.std.proofs.lemmas.Bool.{eqb-true, ltb-true}
use Rattle.std.proofs.lemmas.Int.{ints}
use Rattle.cob_tree.specs.declared.form.Form.{Form}
use Rattle.cob_tree.specs.declared.form.Form.TheVariants.{Group, Text, Number, Edited}
use Rattle.cob_tree.specs.declared.form.Usage.{Usage}
use Rattle.cob_data.specs.declared.layout.Item.{Item}
use Rattle.cob_data.specs.declared.layout.Layout.{Layout}
use Rattle.num_bytes.specs.Reading.{is_own, contents_value}
use Rattle.cob_store.specs.WellFormed.{IsWellFormedForm, HasWellFormedItems}
use Rattle.cob_runs.specs.Contents.{item_at, form_at, bytes_of}
use Rattle.interval_domain.specs.Bounds.{Holds}
use Rattle.cell_steps.specs.OwnRanges.{picture_range, form_range}
use Rattle.data_laws.specs.Items.{IsOwn}
use Rattle.data_laws.proofs.Lengths.{length-bytes_of}
use Rattle.data_laws.proofs.Own.{stored_back}
use Rattle.data_laws.proofs.Items.{item_sound, own_at}
use Rattle.cell_laws.specs.Items.{ItemsAreSound}

-- ---- own numbers as intervals

in_picture : (digits : ℕ) (signed : Bool) (z : ℤ) → is_own digits signed z ≡ true → Holds (picture_range digits signed) z
in_picture digits true (pos n) own = let below = ltb-true n (10 ^ digits) own in (omega (arith, ints, below), omega (arith, ints, below))
in_picture digits true (negsuc n) own = let below = ltb-true (n + 1) (10 ^ digits) own in (omega (arith, ints, below), omega (arith, ints, below))
in_picture digits false (pos n) own = let below = ltb-true n (10 ^ digits) own in (omega (arith, ints, below), omega (arith, ints, below))
in_picture digits false (negsuc n) own = absurd (cc)

in_form : (f : Form) (z : ℤ) → IsOwn f z → Holds (form_range f) z
in_form Group z own = absurd own
in_form (Text n) z own = in_picture n false z own
in_form (Number digits scale signed usage) z own = in_picture digits signed z own
in_form (Edited picture digits scale) z own = absurd own

-- ---- occurrences

one_at : (l : Layout) → HasWellFormedItems l → (place : ℕ) (o : Option Item) → item_at l place ≡ o →
    option_map_or (λ i. not (i.stride == 0)) o false ≡ false → option_map_or (λ i. i.times) o 1 ≡ 1
one_at l sound place None at plain = refl
one_at l sound place (Some i) at plain = (item_sound l sound place i at).one (go (i.stride == 0) refl plain)
  where
    go : (b : Bool) → (i.stride == 0) ≡ b → not b ≡ false → i.stride ≡ 0
    go true e f = eqb-true i.stride 0 e
    go false e f = absurd (cc)

-- ---- numbers that are stored

back_at : (l : Layout) → HasWellFormedItems l → (place digits scale : ℕ) (signed : Bool) (usage : Usage) (z : ℤ) (o : Option Item) → item_at l place ≡ o →
    option_map_or (λ i. i.form) o Group ≡ Number digits scale signed usage → unsigned_abs z < 10 ^ digits →
    contents_value (option_map_or (λ i. i.form) o Group) (bytes_of (option_map_or (λ i. i.form) o Group) z) ≡ Some (if signed then z else pos (unsigned_abs z))
back_at l sound place digits scale signed usage z None at is small = absurd (cc)
back_at l sound place digits scale signed usage z (Some i) at is small =
    let held = subst (λ f. IsWellFormedForm f i.length) is (item_sound l sound place i at).form in
    ap (λ f. contents_value f (bytes_of f z)) is
    ∙ stored_back digits scale signed usage z held.number.some_digits held.number.at_most_18 small

pub items_are_sound : ItemsAreSound
items_are_sound l sound signs = record {
  within = λ place i at. (item_sound l sound place i at).within;
  extent = λ place i at. (item_sound l sound place i at).extent;
  one = λ place plain. one_at l sound place (item_at l place) refl plain;
  own = λ place n bytes z whole less is. in_form (form_at l place) z (own_at l sound signs bytes whole place n z less is);
  whole = λ place i z at takes small. length-bytes_of i.form i.length z (item_sound l sound place i at).form takes;
  back = λ place digits scale signed usage z is small. back_at l sound place digits scale signed usage z (item_at l place) refl is small;
}
