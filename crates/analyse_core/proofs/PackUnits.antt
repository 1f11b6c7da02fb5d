-- The thresholds of a pack are few, and within what a word of a matrix can be.
use Rattle.std.proofs.Common.{◌≡◌, ℕ, zero, suc, ◌-◌, ◌*◌, ◌^◌, ◌<◌, ◌≤◌, List, [], ◌∷◌, ◌++◌, map, length, get_or, ℤ, neg_ℤ, ◌*ℤ◌, sym, ap, ◌∙◌, subst, arith}
use Rattle.std.specs.Prelude.{unsigned_abs, slice_get, Vec}
use Rattle.std.specs.declared.alloc.Global.{Global}
use Rattle.std.specs.List.{AllByRecursion}
use Rattle.std.specs.Option.{option_map_or}
use Rattle.std.proofs.lemmas.Int.{ints}
use Rattle.std.proofs.lemmas.List.{length-append, length-map}
use Rattle.dec_num.proofs.Bounds.{size_of_product}
use Rattle.dec_num.proofs.Powers.{ten_monotone}
use Rattle.cob_runs.specs.declared.action.Cell.{Cell}
use Rattle.analyse_core.specs.Mentions.{lists_of}
use Rattle.diff_bounds.specs.declared.Pack as declared
use Rattle.diff_bounds.specs.Widening.{AreThresholds}
use Rattle.analyse_core.specs.Choice.{numbers_of}
use Rattle.analyse_core.specs.Rising.{sorted, Rises}
use Rattle.analyse_core.specs.PackThresholds.{scale_at, finest, cell_units, own_thresholds, list_thresholds, cells_thresholds, thresholds_of_pack, IsCellList, HasFewDecimals, HasFewCells, IsWord}
use Rattle.analyse_core.proofs.PackRising.{all_sorted, sorted_length, sorted_rises}
use Rattle.analyse_core.proofs.Rising.{all_at}

-- ---- units

few_at : (cells : List Cell) (k : ℕ) → AllByRecursion HasFewDecimals cells → option_map_or (λ (c : Cell). c.scale) (slice_get cells k) 0 ≤ 18
few_at [] k h = omega arith
few_at (c ∷ cells) zero h = h.0
few_at (c ∷ cells) (suc k) h = few_at cells k h.1

pub finest_is_small : (cells : List Cell) (numbers : List ℕ) → AllByRecursion HasFewDecimals cells → finest cells numbers ≤ 18
finest_is_small cells [] h = omega arith
finest_is_small cells (n ∷ ns) h =
    let one = few_at cells (n - 1) h in
    let more = finest_is_small cells ns h in
    omega (arith, one, more)

pub units_are_few : (cells : List Cell) (decimals number : ℕ) → decimals ≤ 18 → unsigned_abs (cell_units cells decimals number) ≤ 10 ^ 18
units_are_few cells decimals number l = ten_monotone (decimals - scale_at cells number) 18 (omega (arith, l))

-- a machine word of 64 bits, in units
pub product_fits : (x y : ℤ) → unsigned_abs x ≤ 2 ^ 63 → unsigned_abs y ≤ 10 ^ 18 → unsigned_abs (x *ℤ y) ≤ 10 ^ 37
product_fits x y h k = let most = size_of_product x y (2 ^ 63) (10 ^ 18) h k in omega (arith, most)

-- ---- how many

none_short : IsCellList []
none_short = record { few = omega arith; small = tt }

own_is_list : (lists : List (List ℤ)) (k : ℕ) → AllByRecursion IsCellList lists → IsCellList (get_or lists k [])
own_is_list [] k h = none_short
own_is_list (ts ∷ lists) zero h = h.0
own_is_list (ts ∷ lists) (suc k) h = own_is_list lists k h.1

list_length : (units : ℤ) (ts : List ℤ) → length (list_thresholds units ts) ≡ 2 * length ts
list_length units [] = omega arith
list_length units (t ∷ ts) = let more = list_length units ts in omega (arith, more)

module _ (cells : List Cell) (lists : List (List ℤ)) (are : AllByRecursion IsCellList lists) where
  cells_length : (decimals : ℕ) (numbers : List ℕ) → length (cells_thresholds cells lists decimals numbers) ≤ 256 * length numbers
  cells_length decimals [] = omega arith
  cells_length decimals (n ∷ ns) =
      let own = own_thresholds lists n in
      let units = cell_units cells decimals n in
      let few = (own_is_list lists (n - 1) are).few in
      let one = list_length units own in
      let more = cells_length decimals ns in
      let all = length-append (list_thresholds units own) (cells_thresholds cells lists decimals ns) in
      omega (arith, few, one, more, all)

  few_of_pack : (numbers : List ℕ) → HasFewCells numbers → length (thresholds_of_pack cells lists numbers) ≤ 2048
  few_of_pack numbers few =
      let all = cells_thresholds cells lists (finest cells numbers) numbers in
      let most = cells_length (finest cells numbers) numbers in
      let once = sorted_length all in
      omega (arith, few, most, once)

  few_each : (packs : List (List ℕ)) → AllByRecursion HasFewCells packs →
      AllByRecursion (λ (ts : List ℤ). length ts ≤ 2048) (map (thresholds_of_pack cells lists) packs)
  few_each [] h = tt
  few_each (p ∷ packs) (few, h) = (few_of_pack p few, few_each packs h)

  -- ---- how great

  one_word : (units t : ℤ) → unsigned_abs units ≤ 10 ^ 18 → unsigned_abs t < 10 ^ 18 → IsWord (t *ℤ units)
  one_word units t u l = let most = size_of_product t units (10 ^ 18) (10 ^ 18) (omega (arith, l)) u in omega (arith, most)

  negative_word : (z : ℤ) → IsWord z → IsWord (neg_ℤ z)
  negative_word z h = omega (arith, ints, h)

  list_words : (units : ℤ) (ts : List ℤ) → unsigned_abs units ≤ 10 ^ 18 → AllByRecursion (λ z. unsigned_abs z < 10 ^ 18) ts →
      AllByRecursion IsWord (list_thresholds units ts)
  list_words units [] u h = tt
  list_words units (t ∷ ts) u (l, h) =
      (one_word units t u l, (negative_word (t *ℤ units) (one_word units t u l), list_words units ts u h))

  both_words : (xs ys : List ℤ) → AllByRecursion IsWord xs → AllByRecursion IsWord ys → AllByRecursion IsWord (xs ++ ys)
  both_words [] ys h k = k
  both_words (x ∷ xs) ys h k = (h.0, both_words xs ys h.1 k)

  cells_words : (decimals : ℕ) (numbers : List ℕ) → decimals ≤ 18 → AllByRecursion IsWord (cells_thresholds cells lists decimals numbers)
  cells_words decimals [] d = tt
  cells_words decimals (n ∷ ns) d =
      both_words (list_thresholds (cell_units cells decimals n) (own_thresholds lists n)) (cells_thresholds cells lists decimals ns)
      (list_words (cell_units cells decimals n) (own_thresholds lists n) (units_are_few cells decimals n d) (own_is_list lists (n - 1) are).small)
      (cells_words decimals ns d)

  words_are : (ts : List ℤ) → AllByRecursion IsWord ts → AreThresholds ts
  words_are ts h = record {
    low = λ k l. let w = all_at IsWord ts k h l in omega (arith, ints, w);
    high = λ k l. let w = all_at IsWord ts k h l in omega (arith, ints, w);
  }

  ends_each : (packs : List (List ℕ)) → AllByRecursion HasFewDecimals cells → AllByRecursion AreThresholds (map (thresholds_of_pack cells lists) packs)
  ends_each [] d = tt
  ends_each (p ∷ packs) d =
      let all = cells_thresholds cells lists (finest cells p) p in (
        words_are (sorted all) (all_sorted IsWord all (cells_words (finest cells p) p (finest_is_small cells p d))),
        ends_each packs d,
      )

rise_each : (cells : List Cell) (lists : List (List ℤ)) (packs : List (List ℕ)) →
    AllByRecursion Rises (map (thresholds_of_pack cells lists) packs)
rise_each cells lists [] = tt
rise_each cells lists (p ∷ packs) = (sorted_rises (cells_thresholds cells lists (finest cells p) p), rise_each cells lists packs)

-- ---- what contracts see

short_items : (thresholds : List (Vec ℤ Global)) → AllByRecursion (λ (ts : List ℤ). length ts ≤ 2048) (lists_of thresholds) →
    AllByRecursion (λ (list : Vec ℤ Global). length list.items ≤ 2048) thresholds
short_items [] h = tt
short_items (list ∷ thresholds) h = (h.0, short_items thresholds h.1)

module _ (cells : List Cell) (lists : List (List ℤ)) (packs : List declared.Pack) (thresholds : List (Vec ℤ Global))
    (is : lists_of thresholds ≡ map (thresholds_of_pack cells lists) (numbers_of packs)) where
  pub are_counted : length thresholds ≡ length packs
  are_counted =
      sym (length-map thresholds (λ (list : Vec ℤ Global). list.items))
      ∙ ap length is
      ∙ length-map (numbers_of packs) (thresholds_of_pack cells lists)
      ∙ length-map packs (λ (pack : declared.Pack). pack.cells.items)

  pub they_rise : AllByRecursion Rises (lists_of thresholds)
  they_rise = subst (AllByRecursion Rises) (sym is) (rise_each cells lists (numbers_of packs))

  pub they_are_short : AllByRecursion IsCellList lists → AllByRecursion HasFewCells (numbers_of packs) →
      AllByRecursion (λ (list : Vec ℤ Global). length list.items ≤ 2048) thresholds
  they_are_short are few =
      short_items thresholds
      (subst (AllByRecursion (λ (ts : List ℤ). length ts ≤ 2048)) (sym is) (few_each cells lists are (numbers_of packs) few))

  pub they_are_words : AllByRecursion IsCellList lists → AllByRecursion HasFewDecimals cells → AllByRecursion AreThresholds (lists_of thresholds)
  they_are_words are d = subst (AllByRecursion AreThresholds) (sym is) (ends_each cells lists are (numbers_of packs) d)
