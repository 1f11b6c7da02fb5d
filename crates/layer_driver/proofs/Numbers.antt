-- Numbers that rise, one after the other.
use Rattle.std.proofs.Common.{◌≡◌, ◌<◌, ◌≤◌, ◌⊎◌, inl, inr, ℕ, ◌+◌, List, [], ◌∷◌, ◌++◌, length, sym, subst, arith}
use Rattle.std.specs.Prelude.{slice_index_or}
use Rattle.std.proofs.lemmas.Bool.{cases_lt}
use Rattle.std.proofs.lemmas.List.{length-append, get_or_append_left, get_or_at}
use Rattle.pack_laws.specs.Packs.{AreRisingNumbers, ArePacksOfCells}
use Rattle.diff_bounds.specs.declared.Pack.{Pack}

-- numbers rise, are of so many cells, and none is above the last
pub record RiseTo (cells last : ℕ) (numbers : List ℕ) : Type 0 where
  pub rising : AreRisingNumbers cells numbers
  pub most : (k : ℕ) → k < length numbers → slice_index_or numbers k 0 ≤ last

pub none_rise : (cells last : ℕ) → RiseTo cells last []
none_rise cells last = record {
  rising = record {
    few = omega arith;
    first = λ k h. absurd (omega (arith, h));
    last = λ k h. absurd (omega (arith, h));
    rising = λ j k l h. absurd (omega (arith, h));
  };
  most = λ k h. absurd (omega (arith, h));
}

-- the places of the list with one number more
module _ (numbers : List ℕ) (number : ℕ) where
  count : length (numbers ++ number ∷ []) ≡ length numbers + 1
  count = length-append numbers (number ∷ [])

  before : (k : ℕ) → k < length numbers → slice_index_or (numbers ++ number ∷ []) k 0 ≡ slice_index_or numbers k 0
  before k h = get_or_append_left numbers (number ∷ []) 0 k h

  newest : (k : ℕ) → length numbers ≡ k → slice_index_or (numbers ++ number ∷ []) k 0 ≡ number
  newest k e = get_or_at numbers number [] 0 k e

  -- what holds of each number before and of the newest one holds of each
  each : (P : ℕ → Type 0) → ((k : ℕ) → k < length numbers → P (slice_index_or numbers k 0)) → P number →
      (k : ℕ) → k < length (numbers ++ number ∷ []) → P (slice_index_or (numbers ++ number ∷ []) k 0)
  each P all here k h = by_place (cases_lt k (length numbers))
    where
      by_place : (k < length numbers) ⊎ (length numbers ≤ k) → P (slice_index_or (numbers ++ number ∷ []) k 0)
      by_place (inl l) = subst P (sym (before k l)) (all k l)
      by_place (inr l) = subst P (sym (newest k (omega (arith, l, h, count)))) here

  module _ (cells last : ℕ) (rise : RiseTo cells last numbers) (above : last < number) (within : number ≤ cells) (room : length numbers < 8) where
    rises : (j k : ℕ) → j < k → k < length (numbers ++ number ∷ []) →
        slice_index_or (numbers ++ number ∷ []) j 0 < slice_index_or (numbers ++ number ∷ []) k 0
    rises j k l h = by_place (cases_lt k (length numbers))
      where
        by_place : (k < length numbers) ⊎ (length numbers ≤ k) →
            slice_index_or (numbers ++ number ∷ []) j 0 < slice_index_or (numbers ++ number ∷ []) k 0
        by_place (inl kept) =
            let less = rise.rising.rising j k l kept in
            let at_j = before j (omega (arith, l, kept)) in
            let at_k = before k kept in
            omega (arith, less, at_j, at_k)
        by_place (inr new) =
            let there : j < length numbers = omega (arith, l, h, count) in
            let at_j = before j there in
            let at_k = newest k (omega (arith, new, h, count)) in
            let most = rise.most j there in
            omega (arith, above, most, at_j, at_k)

    one_more : RiseTo cells number (numbers ++ number ∷ [])
    one_more = record {
      rising = record {
        few = omega (arith, count, room);
        first = each (λ n. 1 ≤ n) rise.rising.first (omega (arith, above));
        last = each (λ n. n ≤ cells) rise.rising.last within;
        rising = rises;
      };
      most = each (λ n. n ≤ number) (λ k h. let most = rise.most k h in omega (arith, most, above)) (omega arith);
    }

pub number_pushed : (cells last number : ℕ) (new old : List ℕ) → new ≡ old ++ number ∷ [] → RiseTo cells last old → last < number →
    number ≤ cells → length old < 8 → RiseTo cells number new
number_pushed cells last number new old grown rise above within room =
    subst (RiseTo cells number) (sym grown) (one_more old number cells last rise above within room)

-- ---- packs

one_pack_more : (cells : ℕ) (packs : List Pack) (pack : Pack) → ArePacksOfCells cells packs → AreRisingNumbers cells pack.cells.items →
    ArePacksOfCells cells (packs ++ pack ∷ [])
one_pack_more cells [] pack are rising = (rising, tt)
one_pack_more cells (x ∷ packs) pack are rising = (are.0, one_pack_more cells packs pack are.1 rising)

pub pack_pushed : (cells : ℕ) (new old : List Pack) (pack : Pack) → new ≡ old ++ pack ∷ [] → ArePacksOfCells cells old →
    AreRisingNumbers cells pack.cells.items → ArePacksOfCells cells new
pack_pushed cells new old pack grown are rising = subst (ArePacksOfCells cells) (sym grown) (one_pack_more cells old pack are rising)
