-- Two owners of places that all hold words, before and after their border is moved.
use Rattle.std.proofs.Common.{◌≡◌, ℕ, ◌≤◌, List, [], ◌++◌, ℤ, pos, replicate, append-nil, length, take, drop, map, ap, sym, ◌∙◌, refl, arith}
use Rattle.std.specs.Prelude.{Option, Some}
use Rattle.std.proofs.lemmas.List.{take-map, drop-map, map-append, take-append-drop, length-take, length-map, length-replicate}
use Rattle.block_store.specs.Places.{somes}
use Rattle.block_store.proofs.Places.{somes-map}
use Rattle.block_store.specs.Slots.{IsFullOf, IsZeros}
use Rattle.block_store.proofs.SlotsLemmas.{zero_words, zero_full}

pub record Shifted (low high low' high' : List (Option ℤ)) (at : ℕ) : Type 0 where
  pub low_full : IsFullOf low' (length (somes low')) (somes low')
  pub low_is : somes low' ≡ take at (somes low ++ somes high)
  pub high_full : IsFullOf high' (length (somes high')) (somes high')
  pub high_is : somes high' ≡ drop at (somes low ++ somes high)
  pub count : length (low' ++ high') ≡ length (low ++ high)
  pub sizes : length (low ++ high) ≡ length (somes low ++ somes high)
  pub border : at ≤ length (low ++ high) → length low' ≡ at

pub shifted : (low high low' high' : List (Option ℤ)) (at : ℕ) → low ≡ map Some (somes low) → high ≡ map Some (somes high) → low' ≡ take at (low ++ high) → high' ≡ drop at (low ++ high) → Shifted low high low' high' at
shifted low high low' high' at l h l' h' =
    let all = somes low ++ somes high in
    let both : low ++ high ≡ map Some all = ap (λ x. x ++ high) l ∙ ap (λ y. map Some (somes low) ++ y) h ∙ sym (map-append Some (somes low) (somes high)) in
    let low_map : low' ≡ map Some (take at all) = l' ∙ ap (take at) both ∙ take-map Some at all in
    let high_map : high' ≡ map Some (drop at all) = h' ∙ ap (drop at) both ∙ drop-map Some at all in
    let low_is : somes low' ≡ take at all = ap somes low_map ∙ somes-map (take at all) in
    let high_is : somes high' ≡ drop at all = ap somes high_map ∙ somes-map (drop at all) in
    record {
      low_full = record { are = low_map ∙ ap (map Some) (sym low_is); count = refl };
      low_is = low_is;
      high_full = record { are = high_map ∙ ap (map Some) (sym high_is); count = refl };
      high_is = high_is;
      count = ap length (ap (λ x. x ++ high') l' ∙ ap (λ y. take at (low ++ high) ++ y) h' ∙ take-append-drop at (low ++ high));
      sizes = ap length both ∙ length-map all Some;
      border = λ within. ap length l' ∙ omega (arith, within, length-take at (low ++ high));
    }

-- zeros, all behind the border
pub record Zeroed (low high : List (Option ℤ)) (len : ℕ) : Type 0 where
  pub none : low ≡ []
  pub low_is : somes low ≡ []
  pub low_full : IsFullOf low (length (somes low)) (somes low)
  pub high_is : somes high ≡ replicate len (pos 0)
  pub high_full : IsFullOf high (length (somes high)) (somes high)
  pub count : length (low ++ high) ≡ len

pub zeroed : (zeros rest low high : List (Option ℤ)) (len : ℕ) → IsZeros zeros len → rest ≡ [] → low ≡ take 0 (zeros ++ rest) → high ≡ drop 0 (zeros ++ rest) → Zeroed low high len
zeroed zeros rest low high len are none l h =
    let high_zeros : IsZeros high len = h ∙ ap (λ y. zeros ++ y) none ∙ append-nil zeros ∙ are in
    let low_none : low ≡ [] = l in
    record {
      none = low_none;
      low_is = ap somes low_none;
      low_full = record { are = low_none ∙ ap (map Some) (sym (ap somes low_none)); count = refl };
      high_is = zero_words high len high_zeros;
      high_full = record { are = (zero_full high len high_zeros).are; count = refl };
      count = ap (λ x. length (x ++ high)) low_none ∙ ap length high_zeros ∙ length-replicate len (Some (pos 0));
    }
