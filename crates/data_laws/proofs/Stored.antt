-- Storage in which values are put, one after another.
use Rattle.std.proofs.Common.{◌≡◌, ◌<◌, ◌≤◌, ◌⊎◌, inl, inr, ℕ, zero, suc, ◌+◌, List, [], ◌∷◌, length, slice_get, Option, Some, None, Result, Ok, Err, refl, sym, ap, ◌∙◌, subst, arith}
use Rattle.std.specs.List.{AllByRecursion}
use Rattle.std.specs.Option.{option_map_or}
use Rattle.std.proofs.lemmas.Option.{same_Some}
use Rattle.std.proofs.lemmas.List.Elements.{recursion_from_All}
use Rattle.cob_tree.specs.declared.fault.Kind.{Kind}
use Rattle.cob_tree.specs.declared.form.Form.TheVariants as form
use Rattle.cob_data.specs.declared.extent.Extent.{Extent}
use Rattle.cob_data.specs.declared.layout.Item.{Item}
use Rattle.cob_data.specs.declared.layout.Layout.{Layout}
use Rattle.cob_data.specs.declared.layout.Sender.{Sender}
use Rattle.cob_data.specs.Extents.{start_of, AreApart, IsExtent, LiesWithin}
use Rattle.cob_data.specs.Occurrences.{extent_of}
use Rattle.cob_data.proofs.ExtentStarts.{last_or_before}
use Rattle.cob_store.specs.WellFormed.{IsWellFormedItem}
use Rattle.cob_runs.specs.Contents.{area, fitted, item_at, form_at, occurrence_bytes, number_in}
use Rattle.cob_runs.specs.Moves.{moved}
use Rattle.cob_runs.specs.Runs.{with_occurrences, with_value, with_constant, with_values, first_storage}
use Rattle.cob_edge_parts.specs.Ranges.{GetsItsBytes}
use Rattle.cob_edge_parts.proofs.Frames.{length_written, occurrence_changes}
use Rattle.data_laws.specs.Values.{FirstStorageIsWhole, ValuesStandAtFirst, ValuesReadAtFirst}
use Rattle.data_laws.proofs.Lengths.{length-fitted, length-moved}

-- ---- one item's occurrences

-- a range lies apart from each of them
abbrev IsApartFrom : Extent → ℕ → ℕ → Type 0
IsApartFrom e from many = (m : ℕ) → m < e.times → AreApart (start_of e m) e.length from many

-- storage is as long as before, and each area apart from them is as before
record ChangesOccurrences (e : Extent) (before behind : List ℕ) : Type 0 where
  same_length : length behind ≡ length before
  elsewhere : (from many : ℕ) → IsApartFrom e from many → area behind from many ≡ area before from many

unchanged : (e : Extent) (storage : List ℕ) → ChangesOccurrences e storage storage
unchanged e storage = record { same_length = refl; elsewhere = λ from many apart. refl }

module _ (e : Extent) (is : IsExtent e) (bytes : List ℕ) (whole : length bytes ≡ e.length) (storage : List ℕ)
    (within : LiesWithin e (length storage)) where
  abbrev filled : ℕ → List ℕ
  filled n = with_occurrences e bytes n storage

  filled_whole : (n : ℕ) → n ≤ e.times → length (filled n) ≡ length storage
  filled_whole zero low = refl
  filled_whole (suc n) low =
      let before = filled_whole n (omega (arith, low)) in
      let inside = within n (omega (arith, low)) in
      length_written (filled n) (start_of e n) bytes (omega (arith, inside, whole, before)) ∙ before

  one_gets : (n : ℕ) → n < e.times → GetsItsBytes e n bytes (filled n) (filled (suc n))
  one_gets n less =
      occurrence_changes e n bytes (filled n) is
      (subst (LiesWithin e) (sym (filled_whole n (omega (arith, less)))) within) less whole

  filled_elsewhere : (n : ℕ) → n ≤ e.times → (from many : ℕ) → IsApartFrom e from many → area (filled n) from many ≡ area storage from many
  filled_elsewhere zero low from many apart = refl
  filled_elsewhere (suc n) low from many apart =
      (one_gets n (omega (arith, low))).changes.elsewhere from many (apart n (omega (arith, low)))
      ∙ filled_elsewhere n (omega (arith, low)) from many apart

  filled_held : (n : ℕ) → n ≤ e.times → (m : ℕ) → m < n → area (filled n) (start_of e m) e.length ≡ bytes
  filled_held zero low m less = absurd (omega (arith, less))
  filled_held (suc n) low m less =
      by (last_or_before m n less) (one_gets n (omega (arith, low))) (λ before. filled_held n (omega (arith, low)) m before)
    where
      by : (m < n) ⊎ (m ≡ n) → GetsItsBytes e n bytes (filled n) (filled (suc n)) →
          (m < n → area (filled n) (start_of e m) e.length ≡ bytes) → area (filled (suc n)) (start_of e m) e.length ≡ bytes
      by (inl before) gets held =
          gets.siblings m (omega (arith, before, low)) (λ same. omega (arith, same, before)) ∙ held before
      by (inr same) gets held = subst (λ k. area (filled (suc n)) (start_of e k) e.length ≡ bytes) (sym same) gets.held

module _ (l : Layout) where
  lies_within : (i : Item) (storage : List ℕ) → IsWellFormedItem l i → length storage ≡ l.storage → LiesWithin (extent_of i) (length storage)
  lies_within i storage sound whole = subst (LiesWithin (extent_of i)) (sym whole) sound.within

  one_put : (i : Item) (x : Sender) (r : Result (List ℕ) Kind) (storage : List ℕ) → IsWellFormedItem l i → length storage ≡ l.storage →
      moved l [] i.form i.length x ≡ r → ChangesOccurrences (extent_of i) storage (with_value i r storage)
  one_put i x (Ok bytes) storage sound whole is =
      let long : length bytes ≡ i.length = length-moved l [] i.form i.length x bytes sound.form is in
      let within = lies_within i storage sound whole in
      record {
        same_length = filled_whole (extent_of i) sound.extent bytes long storage within i.times (omega arith);
        elsewhere = filled_elsewhere (extent_of i) sound.extent bytes long storage within i.times (omega arith);
      }
  one_put i x (Err kind) storage sound whole is = unchanged (extent_of i) storage

  one_changes : (i : Item) (value : Option Sender) (storage : List ℕ) → IsWellFormedItem l i → length storage ≡ l.storage →
      ChangesOccurrences (extent_of i) storage (with_constant l i value storage)
  one_changes i None storage sound whole = unchanged (extent_of i) storage
  one_changes i (Some x) storage sound whole = one_put i x (moved l [] i.form i.length x) storage sound whole refl

  one_held : (i : Item) (x : Sender) (bytes storage : List ℕ) → IsWellFormedItem l i → length storage ≡ l.storage →
      moved l [] i.form i.length x ≡ Ok bytes → (n : ℕ) → n < i.times →
      area (with_constant l i (Some x) storage) (start_of (extent_of i) n) i.length ≡ bytes
  one_held i x bytes storage sound whole is n less =
      let long : length bytes ≡ i.length = length-moved l [] i.form i.length x bytes sound.form is in
      ap (λ r. area (with_value i r storage) (start_of (extent_of i) n) i.length) is
      ∙ filled_held (extent_of i) sound.extent bytes long storage (lies_within i storage sound whole) i.times (omega arith) n less

  -- ---- all items

  still_whole : (i : Item) (storage : List ℕ) → IsWellFormedItem l i → length storage ≡ l.storage → length (with_constant l i i.value storage) ≡ l.storage
  still_whole i storage sound whole = (one_changes i i.value storage sound whole).same_length ∙ whole

  all_whole : (items : List Item) (storage : List ℕ) → AllByRecursion (IsWellFormedItem l) items → length storage ≡ l.storage →
      length (with_values l items storage) ≡ l.storage
  all_whole [] storage sound whole = whole
  all_whole (i ∷ items) storage sound whole = all_whole items (with_constant l i i.value storage) sound.1 (still_whole i storage sound.0 whole)

  -- those of the list that begin with a value lie apart from the range
  abbrev LeaveAlone : ℕ → ℕ → List Item → Type 0
  LeaveAlone from many [] = Unit {0}
  LeaveAlone from many (i ∷ items) = ((x : Sender) → i.value ≡ Some x → IsApartFrom (extent_of i) from many) × LeaveAlone from many items

  left_by_one : (i : Item) (value : Option Sender) (storage : List ℕ) (from many : ℕ) → i.value ≡ value → IsWellFormedItem l i → length storage ≡ l.storage →
      ((x : Sender) → i.value ≡ Some x → IsApartFrom (extent_of i) from many) → area (with_constant l i value storage) from many ≡ area storage from many
  left_by_one i None storage from many e sound whole apart = refl
  left_by_one i (Some x) storage from many e sound whole apart = (one_changes i (Some x) storage sound whole).elsewhere from many (apart x e)

  left_alone : (items : List Item) (storage : List ℕ) (from many : ℕ) → AllByRecursion (IsWellFormedItem l) items → length storage ≡ l.storage →
      LeaveAlone from many items → area (with_values l items storage) from many ≡ area storage from many
  left_alone [] storage from many sound whole alone = refl
  left_alone (i ∷ items) storage from many sound whole alone =
      left_alone items (with_constant l i i.value storage) from many sound.1 (still_whole i storage sound.0 whole) alone.1
      ∙ left_by_one i i.value storage from many refl sound.0 whole alone.0

  -- an occurrence of the item at a place lies apart from all items behind it that begin with a value
  abbrev IsLeftBehind : List Item → ℕ → Item → ℕ → Type 0
  IsLeftBehind [] place i n = Unit {0}
  IsLeftBehind (j ∷ items) zero i n = LeaveAlone (start_of (extent_of i) n) i.length items
  IsLeftBehind (j ∷ items) (suc place) i n = IsLeftBehind items place i n

  stands_behind : (items : List Item) (storage : List ℕ) (place : ℕ) (i : Item) (x : Sender) (bytes : List ℕ) (n : ℕ) → n < i.times →
      AllByRecursion (IsWellFormedItem l) items → length storage ≡ l.storage → slice_get items place ≡ Some i → i.value ≡ Some x →
      moved l [] i.form i.length x ≡ Ok bytes → IsLeftBehind items place i n →
      area (with_values l items storage) (start_of (extent_of i) n) i.length ≡ bytes
  stands_behind [] storage place i x bytes n less sound whole at given put left = absurd (cc)
  stands_behind (j ∷ items) storage zero i x bytes n less sound whole at given put left =
      let same : j ≡ i = same_Some _ _ at in
      let sound_here : IsWellFormedItem l i = subst (IsWellFormedItem l) same sound.0 in
      let put_here : with_constant l j j.value storage ≡ with_constant l i (Some x) storage =
      ap (λ (k : Item). with_constant l k k.value storage) same ∙ ap (λ o. with_constant l i o storage) given in
      left_alone items (with_constant l j j.value storage) (start_of (extent_of i) n) i.length sound.1 (still_whole j storage sound.0 whole) left
      ∙ (ap (λ s. area s (start_of (extent_of i) n) i.length) put_here ∙ one_held i x bytes storage sound_here whole put n less)
  stands_behind (j ∷ items) storage (suc place) i x bytes n less sound whole at given put left =
      stands_behind items (with_constant l j j.value storage) place i x bytes n less sound.1 (still_whole j storage sound.0 whole) at given put left

-- ---- the first storage

leave_alone : (l : Layout) (items : List Item) (from many : ℕ) →
    ((b : ℕ) (j : Item) (x : Sender) → slice_get items b ≡ Some j → j.value ≡ Some x → IsApartFrom (extent_of j) from many) → LeaveAlone l from many items
leave_alone l [] from many apart = tt
leave_alone l (j ∷ items) from many apart =
    (λ x given. apart 0 j x refl given, leave_alone l items from many (λ b k x at given. apart (suc b) k x at given))

left_behind : (l : Layout) (items : List Item) (place : ℕ) (i : Item) (n : ℕ) →
    ((b : ℕ) (j : Item) (x : Sender) → place < b → slice_get items b ≡ Some j → j.value ≡ Some x →
    IsApartFrom (extent_of j) (start_of (extent_of i) n) i.length) →
    IsLeftBehind l items place i n
left_behind l [] place i n apart = tt
left_behind l (j ∷ items) zero i n apart =
    leave_alone l items (start_of (extent_of i) n) i.length (λ b k x at given. apart (suc b) k x (omega arith) at given)
left_behind l (j ∷ items) (suc place) i n apart =
    left_behind l items place i n (λ b k x low at given. apart (suc b) k x (omega (arith, low)) at given)

pub first_storage_is_whole : FirstStorageIsWhole
first_storage_is_whole l first sound =
    all_whole l l.items (fitted l.storage first) (recursion_from_All (IsWellFormedItem l) l.items sound.items) (length-fitted l.storage first)

first_area : (l : Layout) (storage : List ℕ) (place n : ℕ) (i : Item) → item_at l place ≡ Some i →
    occurrence_bytes l storage place n ≡ area storage (start_of (extent_of i) n) i.length
first_area l storage place n i at = ap (λ o. option_map_or (λ (j : Item). area storage (start_of (extent_of j) n) j.length) o []) at

pub values_stand_at_first : ValuesStandAtFirst
values_stand_at_first l first place i bytes sound apart begins n less =
    let behind : IsLeftBehind l l.items place i n = left_behind l l.items place i n
    (λ b j x low at given m there.
    apart b place j i (record { at = at; value = x; given = given }) begins.has (λ same. omega (arith, low, same)) m n there less) in
    first_area l (first_storage l first) place n i begins.has.at
    ∙ stands_behind l l.items (fitted l.storage first) place i begins.has.value bytes n less
    (recursion_from_All (IsWellFormedItem l) l.items sound.items)
    (length-fitted l.storage first) begins.has.at begins.has.given begins.put behind

pub values_read_at_first : ValuesReadAtFirst
values_read_at_first l first place i bytes sound apart begins n less =
    let form : form_at l place ≡ i.form = ap (λ o. option_map_or (λ (j : Item). j.form) o form.Group) begins.has.at in
    ap (λ f. number_in f (occurrence_bytes l (first_storage l first) place n)) form
    ∙ ap (number_in i.form) (values_stand_at_first l first place i bytes sound apart begins n less)
