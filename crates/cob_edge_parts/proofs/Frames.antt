-- Bytes that are written leave all areas apart from them.
use Rattle.std.proofs.Common.{◌≡◌, ◌<◌, ◌≤◌, ◌⊎◌, ℕ, ◌+◌, Bool, true, false, List, ◌++◌, length, take, drop, inl, inr, Option, Some, None, refl, sym, ap, subst, ◌∙◌, append_assoc, arith, length-append, length-drop}
use Rattle.std.specs.Prelude.{if◌then◌else◌, ◌==◌}
use Rattle.std.specs.Option.{option_map_or}
use Rattle.std.proofs.lemmas.Bool.{cases_lt}
use Rattle.std.proofs.lemmas.Bool.Decides.{nat_tests}
use Rattle.std.proofs.lemmas.List.{length-take-le, take-append-le, drop-append-le, take-append-drop, take_at}
use Rattle.std.proofs.lemmas.Slice.{drop-append-drop}
use Rattle.std.proofs.Math.Seq.{drop-append_seam}
use Rattle.cob_data.specs.declared.extent.Extent.{Extent}
use Rattle.cob_data.specs.declared.layout.Item.{Item}
use Rattle.cob_data.specs.Extents.{start_of, AreApart, share_extents, IsExtent, LiesWithin}
use Rattle.cob_data.specs.Occurrences.{extent_of}
use Rattle.cob_data.proofs.Meeting.{lie_apart}
use Rattle.cob_runs.specs.Contents.{area, written}
use Rattle.cob_edge_parts.specs.Ranges.{ChangesWithin, RangesChangeAlone, GetsItsBytes, OccurrencesChangeAlone}

front_area : (xs ys : List ℕ) (from many : ℕ) → from + many ≤ length xs → area (xs ++ ys) from many ≡ area xs from many
front_area xs ys from many h =
    ap (take many) (drop-append-le from xs ys (omega arith))
    ∙ take-append-le many (drop from xs) ys (omega (arith, length-drop from xs))

module _ (storage : List ℕ) (offset : ℕ) (bytes : List ℕ) (within : offset + length bytes ≤ length storage) where
  front_length : length (take offset storage) ≡ offset
  front_length = length-take-le offset storage (omega arith)

  until_length : length (take offset storage ++ bytes) ≡ offset + length bytes
  until_length = length-append (take offset storage) bytes ∙ ap (λ n. n + length bytes) front_length

  pub length_written : length (written storage offset bytes) ≡ length storage
  length_written =
      let a = length-append (take offset storage ++ bytes) (drop (offset + length bytes) storage) in
      let b = length-drop (offset + length bytes) storage in
      omega (arith, a, b, until_length)

  before_it : (from many : ℕ) → from + many ≤ offset → area (written storage offset bytes) from many ≡ area storage from many
  before_it from many h =
      ap (λ (s : List ℕ). area s from many) (append_assoc (take offset storage) bytes (drop
      (offset + length bytes) storage))
      ∙ (front_area (take offset storage) (bytes ++ drop (offset + length bytes) storage) from many (omega
      (arith, front_length))
      ∙ (sym (front_area (take offset storage) (drop offset storage) from many (omega (arith, front_length)))
      ∙ ap (λ (s : List ℕ). area s from many) (take-append-drop offset storage)))

  behind_it : (from many : ℕ) → offset + length bytes ≤ from → area
      (written storage offset bytes) from many ≡ area storage from many
  behind_it from many h =
      ap (take many) (drop-append-drop (offset + length bytes) storage
      (take offset storage ++ bytes) from h until_length)

  pub apart_from_it : (from many : ℕ) → AreApart offset (length bytes) from many →
      area (written storage offset bytes) from many ≡ area storage from many
  apart_from_it from many (inl h) = before_it from many h
  apart_from_it from many (inr h) = behind_it from many h

  pub written_changes : ChangesWithin offset (length bytes) storage (written storage offset bytes)
  written_changes = record { same_length = length_written; elsewhere = apart_from_it }

  behind_front : drop offset (take offset storage ++ (bytes ++ drop (offset + length bytes) storage))
      ≡ bytes ++ drop (offset + length bytes) storage
  behind_front =
      subst (λ (n : ℕ). drop n (take offset storage ++ (bytes ++ drop (offset + length bytes) storage))
      ≡ bytes ++ drop (offset + length bytes) storage) front_length
      (drop-append_seam (take offset storage) (bytes ++ drop (offset + length bytes) storage))

  pub written_held : area (written storage offset bytes) offset (length bytes) ≡ bytes
  written_held =
      ap (λ (s : List ℕ). area s offset (length bytes)) (append_assoc (take offset storage) bytes (drop
      (offset + length bytes) storage))
      ∙ (ap (take (length bytes)) behind_front
      ∙ take_at bytes (drop (offset + length bytes) storage) (length bytes) refl)

unchanged : (offset count : ℕ) (storage : List ℕ) → ChangesWithin offset count storage storage
unchanged offset count storage = record { same_length = refl; elsewhere = λ from many h. refl }

eq_is : (a b : ℕ) → (a == b) ≡ true → a ≡ b
eq_is a b e = grind (arith, nat_tests)

by_length : (offset count : ℕ) (storage bytes : List ℕ) → offset + count ≤ length storage → (b : Bool) →
    (length bytes == count) ≡ b →
    ChangesWithin offset count storage (if b then written storage offset bytes else storage)
by_length offset count storage bytes h true e =
    let same = eq_is (length bytes) count e in
    subst (λ (n : ℕ). ChangesWithin offset n storage (written storage offset bytes)) same
    (written_changes storage offset bytes (omega (arith, same)))
by_length offset count storage bytes h false e = unchanged offset count storage

pub ranges_change_alone : RangesChangeAlone
ranges_change_alone None offset count storage h = unchanged offset count storage
ranges_change_alone (Some bytes) offset count storage h =
    by_length offset count storage bytes h (length bytes == count) refl

-- ---- occurrences

two_are_apart : (e : Extent) → IsExtent e → (m n : ℕ) → m < e.times → n < e.times → ¬ m ≡ n →
    AreApart (start_of e n) e.length (start_of e m) e.length
two_are_apart e is m n a b differ = by (cases_lt m n)
  where
    by : (m < n) ⊎ (n ≤ m) → AreApart (start_of e n) e.length (start_of e m) e.length
    by (inl l) = inl (is.apart m n l b)
    by (inr l) = inr (is.apart n m (omega (arith, l, differ)) a)

pub occurrence_changes : (e : Extent) (n : ℕ) (bytes storage : List ℕ) → IsExtent e → LiesWithin e (length storage) → n < e.times →
    length bytes ≡ e.length → GetsItsBytes e n bytes storage (written storage (start_of e n) bytes)
occurrence_changes e n bytes storage is within there same = record {
  changes = changes;
  siblings = λ m less differ. changes.elsewhere (start_of e m) e.length (two_are_apart e is m n less there differ);
  others = λ d none m less. changes.elsewhere (start_of d m) d.length (lie_apart e d none n m there less);
  held = subst (λ (k : ℕ). area (written storage (start_of e n) bytes) (start_of e n) k ≡ bytes) same
      (written_held storage (start_of e n) bytes inside);
}
  where
    inside : start_of e n + length bytes ≤ length storage
    inside = subst (λ (k : ℕ). start_of e n + k ≤ length storage) (sym same) (within n there)

    changes : ChangesWithin (start_of e n) e.length storage (written storage (start_of e n) bytes)
    changes =
        subst (λ (k : ℕ). ChangesWithin (start_of e n) k storage (written storage (start_of e n) bytes)) same
        (written_changes storage (start_of e n) bytes inside)

pub occurrences_change_alone : OccurrencesChangeAlone
occurrences_change_alone l storage place i n bytes at is within there same =
    subst (λ (s : List ℕ). GetsItsBytes (extent_of i) n bytes storage s)
    (sym (ap (λ (o : Option Item). option_map_or (λ j. written storage (start_of (extent_of j) n) bytes) o storage) at))
    (occurrence_changes (extent_of i) n bytes storage is within there same)
