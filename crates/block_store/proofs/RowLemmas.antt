-- Rows of one width in words, whose low and high part lie on two sides of a border.
use Rattle.std.proofs.Common.{◌≡◌, ◌≢◌, ℕ, suc, ◌+◌, ◌-◌, ◌*◌, ◌^◌, ◌<◌, ◌≤◌, ◌⊎◌, inl, inr, List, [], ◌++◌, ℤ, length, take, drop, get_or, slice_set, ap, sym, ◌∙◌, subst, refl, rules, arith, length-set, get_or-set_same, get_or-set_other}
use Rattle.std.specs.List.{range_with_len, refill, length_refill}
use Rattle.std.proofs.lemmas.Bool.{cases_eq, cases_lt}
use Rattle.std.proofs.lemmas.List.{places, same_lists, length-take, length-drop, length-map, take-append-drop}
use Rattle.std.proofs.lemmas.List.FromFn.{get_or-map-range_with_len, length-range_with_len}
use Rattle.std.proofs.Math.Nat.{mul-le-mul_right, suc-mul, add-mul, mul_comm}
use Rattle.block_store.specs.Words.{run_at, with_run}
use Rattle.block_store.specs.Region.{row_of, rows_of}
use Rattle.block_store.specs.Grid.{HasRows}
use Rattle.block_store.specs.HalvesLends.{rewritten}
use Rattle.block_store.proofs.SlotsLemmas.{length-with_run}

-- ---- places

pub fits : (a n w : ℕ) → a < n → a * w + w ≤ w * n
fits a n w less = let step : suc a * w ≤ n * w = mul-le-mul_right w less in omega (arith, step, suc-mul a w, mul_comm w n)

apart : (a b w : ℕ) → a ≢ b → (a * w + w ≤ b * w) ⊎ (b * w + w ≤ a * w)
apart a b w differ = elim (cases_lt a b) [
  | inl less ↦ let step : suc a * w ≤ b * w = mul-le-mul_right w less in inl (omega (arith, step, suc-mul a w))
  | inr le ↦ let more : b < a = omega (arith, differ) in let step : suc b * w ≤ a * w = mul-le-mul_right w more in inr (omega (arith, step, suc-mul b w))
]

-- ---- runs

pub run_same : (ws run : List ℤ) (at n : ℕ) → at + n ≤ length ws → length run ≡ n → run_at (with_run ws at n run) at n ≡ run
run_same ws run at n within wide = same_lists _ _ (search (rules, places)) (λ k d h. grind (arith, places))

run_other : (ws run : List ℤ) (at n other m : ℕ) → at + n ≤ length ws → length run ≡ n → other + m ≤ length ws → (other + m ≤ at) ⊎ (at + n ≤ other) → run_at (with_run ws at n run) other m ≡ run_at ws other m
run_other ws run at n other m within wide inside (inl before) = same_lists _ _ (search (rules, places)) (λ k d h. grind (arith, places))
run_other ws run at n other m within wide inside (inr behind) = same_lists _ _ (search (rules, places)) (λ k d h. grind (arith, places))

pub run_low : (low high : List ℤ) (at n : ℕ) → at + n ≤ length low → run_at low at n ≡ run_at (low ++ high) at n
run_low low high at n within = same_lists _ _ (search (rules, places)) (λ k d h. grind (arith, places))

pub run_high : (low high : List ℤ) (at n from : ℕ) → from ≡ length low + at → from + n ≤ length (low ++ high) → run_at high at n ≡ run_at (low ++ high) from n
run_high low high at n from is within = same_lists _ _ (search (rules, places)) (λ k d h. grind (arith, places))

with_low : (low high run : List ℤ) (at n : ℕ) → at + n ≤ length low → length run ≡ n → with_run low at n run ++ high ≡ with_run (low ++ high) at n run
with_low low high run at n within wide = same_lists _ _ (search (rules, places)) (λ k d h. grind (arith, places))

with_high : (low high run : List ℤ) (at n from : ℕ) → from ≡ length low + at → from + n ≤ length (low ++ high) → length run ≡ n → low ++ with_run high at n run ≡ with_run (low ++ high) from n run
with_high low high run at n from is within wide = same_lists _ _ (search (rules, places)) (λ k d h. grind (arith, places))

-- ---- rows

pub row_is : (words : List ℤ) (width count place : ℕ) → place < count → get_or (rows_of words width count) place [] ≡ row_of words width place
row_is words width count place less = get_or-map-range_with_len (row_of words width) 0 count place place [] less (omega arith)

pub row_count : (words : List ℤ) (width count : ℕ) → length (rows_of words width count) ≡ count
row_count words width count = length-map (range_with_len 0 count) (row_of words width) ∙ length-range_with_len 0 count

pub row_width : (words : List ℤ) (width count place : ℕ) → length words ≡ width * count → place < count → length (row_of words width place) ≡ width
row_width words width count place size less =
    let within = fits place count width less in
    omega (arith, within, size, length-take width (drop (place * width) words), length-drop (place * width) words)

row_written : (words run : List ℤ) (width count place : ℕ) → length words ≡ width * count → place < count → length run ≡ width → rows_of (with_run words (place * width) width run) width count ≡ slice_set (rows_of words width count) place run
row_written words run width count place size less wide =
    let new = with_run words (place * width) width run in
    let within = fits place count width less in
    same_lists _ _ (omega (arith, row_count new width count, row_count words width count, length-set (rows_of words width count) place run))
    (λ k d h. let at : k < count = omega (arith, h, row_count new width count) in
    let inside = fits k count width at in
    get_or-map-range_with_len (row_of new width) 0 count k k d at (omega arith) ∙ elim (cases_eq k place) [
      | inl same ↦ ap (row_of new width) same ∙ run_same words run (place * width) width (omega (arith, within, size)) wide
          ∙ sym (ap (λ j. get_or (slice_set (rows_of words width count) place run) j d) same ∙ get_or-set_same (rows_of words width count) place run d (omega (arith, less, row_count words width count)))
      | inr off ↦ run_other words run (place * width) width (k * width) width (omega (arith, within, size)) wide (omega (arith, inside, size)) (apart k place width off)
          ∙ sym (get_or-set_other (rows_of words width count) place k run d off ∙ get_or-map-range_with_len (row_of words width) 0 count k k d at (omega arith))
    ])

-- one row was written
pub record Rewrites (words new : List ℤ) (width count place : ℕ) (ws : List ℤ) : Type 0 where
  pub size : length new ≡ width * count
  pub rows : rows_of new width count ≡ slice_set (rows_of words width count) place (refill width (get_or (rows_of words width count) place []) ws)

rewrites : (words ws : List ℤ) (width count place : ℕ) → length words ≡ width * count → place < count → Rewrites words (rewritten words (place * width) width ws) width count place ws
rewrites words ws width count place size less =
    let old = row_of words width place in
    let run = refill width old ws in
    let within = fits place count width less in
    let wide : length run ≡ width = sym (length_refill width old ws (sym (row_width words width count place size less))) in
    record {
      size = length-with_run words run (place * width) width (omega (arith, within, size)) wide ∙ size;
      rows = row_written words run width count place size less wide ∙ ap (λ row. slice_set (rows_of words width count) place (refill width row ws)) (sym (row_is words width count place less));
    }

-- through the high part, which begins at the row
pub rewrites_high : (low high words ws : List ℤ) (width count place : ℕ) → low ++ high ≡ words → length words ≡ width * count → place < count → length low ≡ place * width → Rewrites words (low ++ rewritten high 0 width ws) width count place ws
rewrites_high low high words ws width count place is size less border =
    let within = fits place count width less in
    let both : length (low ++ high) ≡ width * count = ap length is ∙ size in
    let at : run_at high 0 width ≡ row_of (low ++ high) width place = run_high low high 0 width (place * width) (omega (arith, border)) (omega (arith, within, both)) in
    let run = refill width (row_of (low ++ high) width place) ws in
    let wide : length run ≡ width = sym (length_refill width (row_of (low ++ high) width place) ws (sym (row_width (low ++ high) width count place both less))) in
    let same : low ++ rewritten high 0 width ws ≡ rewritten words (place * width) width ws =
    ap (λ old. low ++ with_run high 0 width (refill width old ws)) at
    ∙ with_high low high run 0 width (place * width) (omega (arith, border)) (omega (arith, within, both)) wide
    ∙ ap (λ all. rewritten all (place * width) width ws) is in
    subst (λ new. Rewrites words new width count place ws) (sym same) (rewrites words ws width count place size less)

-- through the low part
pub rewrites_low : (low high words ws : List ℤ) (width count place : ℕ) → low ++ high ≡ words → length words ≡ width * count → place < count → place * width + width ≤ length low → Rewrites words (rewritten low (place * width) width ws ++ high) width count place ws
rewrites_low low high words ws width count place is size less border =
    let both : length (low ++ high) ≡ width * count = ap length is ∙ size in
    let at : row_of low width place ≡ row_of (low ++ high) width place = run_low low high (place * width) width border in
    let run = refill width (row_of (low ++ high) width place) ws in
    let wide : length run ≡ width = sym (length_refill width (row_of (low ++ high) width place) ws (sym (row_width (low ++ high) width count place both less))) in
    let same : rewritten low (place * width) width ws ++ high ≡ rewritten words (place * width) width ws =
    ap (λ old. with_run low (place * width) width (refill width old ws) ++ high) at
    ∙ with_low low high run (place * width) width border wide
    ∙ ap (λ all. rewritten all (place * width) width ws) is in
    subst (λ new. Rewrites words new width count place ws) (sym same) (rewrites words ws width count place size less)

-- its low part keeps its length
pub low_length : (low ws : List ℤ) (width place : ℕ) → place * width + width ≤ length low → length (rewritten low (place * width) width ws) ≡ length low
low_length low ws width place within =
    let old = run_at low (place * width) width in
    let wide : width ≡ length old = omega (arith, within, length-take width (drop (place * width) low), length-drop (place * width) low) in
    length-with_run low (refill width old ws) (place * width) width within (sym (length_refill width old ws wide))

-- ---- a row that is there

pub record Row (words : List ℤ) (width count place : ℕ) : Type 0 where
  pub less : place < count
  pub within : place * width + width ≤ length words
  pub small : place * width + width < 2 ^ 64
  pub wide : length (get_or (rows_of words width count) place []) ≡ width

pub is_row : (words : List ℤ) (width count place : ℕ) → length words ≡ width * count → width * count ≤ 2 ^ 32 → place < length (rows_of words width count) → Row words width count place
is_row words width count place size limit there =
    let less : place < count = omega (arith, there, row_count words width count) in
    let within = fits place count width less in
    record {
      less = less;
      within = omega (arith, within, size);
      small = omega (arith, within, limit);
      wide = ap length (row_is words width count place less) ∙ row_width words width count place size less;
    }

pub ordered : (a b w : ℕ) → a < b → a * w + w ≤ b * w
ordered a b w less = let step : suc a * w ≤ b * w = mul-le-mul_right w less in omega (arith, step, suc-mul a w)

pub behind : (place border width : ℕ) → border ≤ place → place * width ≡ border * width + (place - border) * width
behind place border width le =
    let whole : place ≡ border + (place - border) = omega (arith, le) in
    ap (λ n. n * width) whole ∙ add-mul border (place - border) width

-- as it is seen in one of the two parts
pub seen_low : (low high words : List ℤ) (width count place : ℕ) → low ++ high ≡ words → place < count → place * width + width ≤ length low → run_at low (place * width) width ≡ get_or (rows_of words width count) place []
seen_low low high words width count place is less within =
    run_low low high (place * width) width within ∙ ap (λ all. row_of all width place) is ∙ sym (row_is words width count place less)

pub seen_high : (low high words : List ℤ) (width count place at : ℕ) → low ++ high ≡ words → Row words width count place → place * width ≡ length low + at → run_at high at width ≡ get_or (rows_of words width count) place []
seen_high low high words width count place at is row border =
    run_high low high at width (place * width) border (omega (arith, row.within, ap length is)) ∙ ap (λ all. row_of all width place) is ∙ sym (row_is words width count place row.less)

-- the border is moved to a row
pub record Moved (words low high : List ℤ) (at : ℕ) : Type 0 where
  pub is : low ++ high ≡ words
  pub border : length low ≡ at
  pub rest : at + length high ≡ length words

pub moved : (words low high : List ℤ) (at : ℕ) → at ≤ length words → low ≡ take at words → high ≡ drop at words → Moved words low high at
moved words low high at within l h = record {
  is = ap (λ x. x ++ high) l ∙ ap (λ y. take at words ++ y) h ∙ take-append-drop at words;
  border = ap length l ∙ omega (arith, within, length-take at words);
  rest = omega (arith, within, ap length h, length-drop at words);
}

-- what is reserved
pub has_rows : (words : List ℤ) (width count : ℕ) → length words ≡ width * count → HasRows width count (record { width = width; rows = rows_of words width count })
has_rows words width count size = record {
  width_is = refl;
  count_is = row_count words width count;
  widths = λ place less. ap length (row_is words width count place less) ∙ row_width words width count place size less;
}
