-- The chain of the free blocks, before and after a change, and what the blocks then are.
use Rattle.std.proofs.Common.{◌≡◌, ◌≢◌, ℕ, zero, suc, ◌+◌, ◌-◌, ◌*◌, ◌^◌, ◌<◌, ◌≤◌, List, [], ◌∷◌, ℤ, pos, Bool, true, false, ◌||◌, nat_eq, cond, inl, inr, length, drop, get_or, slice_set, replicate, ap, sym, ◌∙◌, subst, refl, arith, length-set, get_or-set_same, get_or-set_other}
use Rattle.std.specs.Prelude.{Option, Some, None, IsSome}
use Rattle.std.specs.List.{range_with_len, IsDistinct, AllByRecursion, length_refill}
use Rattle.std.proofs.lemmas.Bool.{cases_eq, cases_lt, cases_Bool}
use Rattle.std.proofs.lemmas.Bool.Decides.{nat_tests}
use Rattle.std.proofs.lemmas.List.{same_lists, length-map, get_or_past, length-replicate, get_or-replicate, take_at}
use Rattle.std.proofs.lemmas.List.FromFn.{get_or-map-range_with_len, length-range_with_len}
use Rattle.std.proofs.lemmas.Map.Steps.{length-le_from_distinct_below}
use Rattle.std.proofs.Math.Nat.{mul-le-mul_right}
use Rattle.block_store.specs.Grid.{Grid, row_at, with_row, HasRows}
use Rattle.block_store.specs.RegionLends.{rewritten_row}
use Rattle.block_store.specs.Chain.{place_in, first_word, next_of, chain, has_id, Differ, IsLinked}
use Rattle.block_store.specs.Blocks.{block_in, blocks_in, IsChain}

-- ---- ids in a list

or_no : (a b : Bool) → (a || b) ≡ false → (a ≡ false) × (b ≡ false)
or_no true b e = absurd (cc)
or_no false b e = (refl, e)

not_both : (b : Bool) → b ≡ true → b ≡ false → ⊥
not_both b e h = cc

pub has_head : (x : ℕ) (xs : List ℕ) → has_id (x ∷ xs) x ≡ true
has_head x xs = grind (arith, nat_tests)

has_tail : (x id : ℕ) (xs : List ℕ) → has_id xs id ≡ true → has_id (x ∷ xs) id ≡ true
has_tail x id xs h = grind (arith, nat_tests, h)

other_has : (x k : ℕ) (xs : List ℕ) → k ≢ x → has_id (x ∷ xs) k ≡ has_id xs k
other_has x k xs off = grind (arith, nat_tests, off)

not_found : (ids : List ℕ) (id other : ℕ) → has_id ids id ≡ false → has_id ids other ≡ true → other ≢ id
not_found ids id other missing has e = not_both _ (subst (λ x. has_id ids x ≡ true) e has) missing

none_equal : (x : ℕ) (xs : List ℕ) → has_id xs x ≡ false → AllByRecursion (λ y. nat_eq x y ≡ false) xs
none_equal x [] e = tt
none_equal x (y ∷ ys) e = let both = or_no (nat_eq x y) (has_id ys x) e in (both.0, none_equal x ys both.1)

distinct : (xs : List ℕ) → Differ xs → IsDistinct nat_eq xs
unfolding IsDistinct
distinct [] d = tt
distinct (x ∷ xs) d = (none_equal x xs d.0, distinct xs d.1)

-- ids below a number, none twice, are at most as many
pub few : (rows : List (List ℤ)) (free : List ℕ) → IsChain rows free → length free ≤ length rows
few rows free c = length-le_from_distinct_below free (length rows) (distinct free c.differ) c.within

-- ---- the chain

pub chain_pop : (rows : List (List ℤ)) (n head : ℕ) → 1 ≤ n → chain rows n head ≡ head ∷ chain rows (n - 1) (next_of rows head)
chain_pop rows zero head some = absurd (omega arith)
chain_pop rows (suc n) head some = ap (λ m. head ∷ chain rows m (next_of rows head)) (omega arith)

pub chain_length : (rows : List (List ℤ)) (n head : ℕ) → length (chain rows n head) ≡ n
chain_length rows zero head = refl
chain_length rows (suc n) head = ap suc (chain_length rows n (next_of rows head))

chain_kept : (r s : List (List ℤ)) (n head : ℕ) → ((id : ℕ) → has_id (chain r n head) id ≡ true → next_of s id ≡ next_of r id) → chain s n head ≡ chain r n head
chain_kept r s zero head h = refl
chain_kept r s (suc n) head h =
    let here = h head (has_head head (chain r n (next_of r head))) in
    ap (λ l. head ∷ l) (ap (chain s n) here ∙ chain_kept r s n (next_of r head) (λ id has. h id (has_tail head id _ has)))

other_word : (rows : List (List ℤ)) (row : List ℤ) (id other : ℕ) → other ≢ id → first_word (slice_set rows id row) other ≡ first_word rows other
other_word rows row id other differ = ap (λ r. get_or r 0 (pos 0)) (get_or-set_other rows id other row [] differ)

-- a block that isn't free is written
pub chain_same : (rows : List (List ℤ)) (row : List ℤ) (n head id : ℕ) → has_id (chain rows n head) id ≡ false → chain (slice_set rows id row) n head ≡ chain rows n head
chain_same rows row n head id missing =
    chain_kept rows (slice_set rows id row) n head (λ other has. ap place_in (other_word rows row id other (not_found (chain rows n head) id other missing has)))

pub chain_is : (rows : List (List ℤ)) (row : List ℤ) (id : ℕ) (free : List ℕ) → has_id free id ≡ false → IsChain rows free → IsChain (slice_set rows id row) free
chain_is rows row id free missing c =
    let count = length-set rows id row in
    record {
      within = λ other has. omega (arith, c.within other has, count);
      places = λ other has.
          let same = other_word rows row id other (not_found free id other missing has) in
          let old = c.places other has in
          (same ∙ old.0 ∙ ap pos (sym (ap place_in same)), omega (arith, old.1, count, ap place_in same));
      differ = c.differ;
    }

-- ---- the blocks, by id

block_is : (rows : List (List ℤ)) (free : List ℕ) (id : ℕ) → id < length rows → get_or (blocks_in rows free) id None ≡ block_in rows free id
block_is rows free id less = get_or-map-range_with_len (block_in rows free) 0 (length rows) id id None less (omega arith)

pub block_count : (rows : List (List ℤ)) (free : List ℕ) → length (blocks_in rows free) ≡ length rows
block_count rows free = length-map (range_with_len 0 (length rows)) (block_in rows free) ∙ length-range_with_len 0 (length rows)

is_none : (b : Option (List ℤ)) → b ≡ None → IsSome b → ⊥
is_none None e h = absurd (cc)
is_none (Some x) e h = absurd (cc)

-- a block in use
pub record Live (rows : List (List ℤ)) (free : List ℕ) (id : ℕ) : Type 0 where
  pub less : id < length rows
  pub used : has_id free id ≡ false
  pub is : get_or (blocks_in rows free) id None ≡ Some (get_or rows id [])

pub is_live : (rows : List (List ℤ)) (free : List ℕ) (id : ℕ) → IsSome (get_or (blocks_in rows free) id None) → Live rows free id
is_live rows free id some = elim (cases_lt id (length rows)) [
  | inl less ↦ elim (cases_Bool (has_id free id)) [
    | inl found ↦ absurd (is_none _ (block_is rows free id less ∙ ap (λ b. cond b None (Some (get_or rows id []))) found) some)
    | inr missing ↦ record { less = less; used = missing; is = block_is rows free id less ∙ ap (λ b. cond b None (Some (get_or rows id []))) missing }
  ]
  | inr past ↦ absurd (is_none _ (get_or_past (blocks_in rows free) id None (omega (arith, past, block_count rows free))) some)
]

-- two lists of blocks that differ at one id
blocks_set : (r s : List (List ℤ)) (free now : List ℕ) (id : ℕ) (v : Option (List ℤ)) → length s ≡ length r → id < length r → block_in s now id ≡ v → ((k : ℕ) → k < length r → k ≢ id → block_in s now k ≡ block_in r free k) → blocks_in s now ≡ slice_set (blocks_in r free) id v
blocks_set r s free now id v count less here others =
    same_lists _ _ (omega (arith, count, block_count s now, block_count r free, length-set (blocks_in r free) id v))
    (λ k d h. let within : k < length r = omega (arith, h, count, block_count s now) in
    get_or-map-range_with_len (block_in s now) 0 (length s) k k d (omega (arith, within, count)) (omega arith) ∙ elim (cases_eq k id) [
      | inl at ↦ ap (block_in s now) at ∙ here ∙ sym (ap (λ j. get_or (slice_set (blocks_in r free) id v) j d) at ∙ get_or-set_same (blocks_in r free) id v d (omega (arith, less, block_count r free)))
      | inr off ↦ others k within off ∙ sym (get_or-set_other (blocks_in r free) id k v d off ∙ get_or-map-range_with_len (block_in r free) 0 (length r) k k d within (omega arith))
    ])

pub block_written : (rows : List (List ℤ)) (row : List ℤ) (free : List ℕ) (id : ℕ) → Live rows free id → blocks_in (slice_set rows id row) free ≡ slice_set (blocks_in rows free) id (Some row)
block_written rows row free id live =
    blocks_set rows (slice_set rows id row) free free id (Some row) (length-set rows id row) live.less
    (ap (λ b. cond b None (Some (get_or (slice_set rows id row) id []))) live.used ∙ ap Some (get_or-set_same rows id row [] live.less))
    (λ k within off. ap (λ r. cond (has_id free k) None (Some r)) (get_or-set_other rows id k row [] off))

-- ---- a block is taken, and given back

pub tail_is : (rows : List (List ℤ)) (x : ℕ) (xs : List ℕ) → IsChain rows (x ∷ xs) → IsChain rows xs
tail_is rows x xs c = record {
  within = λ id has. c.within id (has_tail x id xs has);
  places = λ id has. c.places id (has_tail x id xs has);
  differ = c.differ.1;
}

-- what is known of the first free block, and of the others
pub record Taken (rows : List (List ℤ)) (x : ℕ) (xs : List ℕ) : Type 0 where
  pub less : x < length rows
  pub fresh : get_or (blocks_in rows (x ∷ xs)) x None ≡ None
  pub is : get_or (blocks_in rows xs) x None ≡ Some (get_or rows x [])
  pub blocks : blocks_in rows xs ≡ slice_set (blocks_in rows (x ∷ xs)) x (Some (get_or rows x []))

pub taken : (rows : List (List ℤ)) (x : ℕ) (xs : List ℕ) → IsChain rows (x ∷ xs) → Taken rows x xs
taken rows x xs c =
    let less = c.within x (has_head x xs) in
    record {
      less = less;
      fresh = block_is rows (x ∷ xs) x less ∙ ap (λ b. cond b None (Some (get_or rows x []))) (has_head x xs);
      is = block_is rows xs x less ∙ ap (λ b. cond b None (Some (get_or rows x []))) c.differ.0;
      blocks = blocks_set rows rows (x ∷ xs) xs x (Some (get_or rows x [])) refl less
          (ap (λ b. cond b None (Some (get_or rows x []))) c.differ.0)
          (λ k within off. ap (λ b. cond b None (Some (get_or rows k []))) (sym (other_has x k xs off)));
    }

-- the block that is given back holds the place of the first free one
pub given_chain : (rows : List (List ℤ)) (row : List ℤ) (n head x : ℕ) → Live rows (chain rows n head) x → get_or row 0 (pos 0) ≡ pos head → chain (slice_set rows x row) (n + 1) x ≡ x ∷ chain rows n head
given_chain rows row n head x live word =
    let s = slice_set rows x row in
    let next : next_of s x ≡ head = ap (λ r. place_in (get_or r 0 (pos 0))) (get_or-set_same rows x row [] live.less) ∙ ap place_in word in
    let less : n + 1 - 1 ≡ n = omega arith in
    chain_pop s (n + 1) x (omega arith)
    ∙ ap (λ m. x ∷ chain s m (next_of s x)) less
    ∙ ap (λ first. x ∷ chain s n first) next
    ∙ ap (λ l. x ∷ l) (chain_same rows row n head x live.used)

pub given_is : (rows : List (List ℤ)) (row : List ℤ) (free : List ℕ) (head x : ℕ) → Live rows free x → get_or row 0 (pos 0) ≡ pos head → head ≤ length rows → IsChain rows free → IsChain (slice_set rows x row) (x ∷ free)
given_is rows row free head x live word le c =
    let s = slice_set rows x row in
    let count = length-set rows x row in
    let kept = chain_is rows row x free live.used c in
    let first : first_word s x ≡ pos head = ap (λ r. get_or r 0 (pos 0)) (get_or-set_same rows x row [] live.less) ∙ word in
    record {
      within = λ id has. elim (cases_eq id x) [
        | inl at ↦ omega (arith, live.less, count)
        | inr off ↦ kept.within id (sym (other_has x id free off) ∙ has)
      ];
      places = λ id has. elim (cases_eq id x) [
        | inl at ↦ subst (λ k. (first_word s k ≡ pos (next_of s k)) × (next_of s k ≤ length s)) (sym at) (first ∙ ap pos (sym (ap place_in first)), omega (arith, le, count, ap place_in first))
        | inr off ↦ kept.places id (sym (other_has x id free off) ∙ has)
      ];
      differ = (live.used, c.differ);
    }

pub block_given : (rows : List (List ℤ)) (row : List ℤ) (free : List ℕ) (x : ℕ) → Live rows free x → blocks_in (slice_set rows x row) (x ∷ free) ≡ slice_set (blocks_in rows free) x None
block_given rows row free x live =
    blocks_set rows (slice_set rows x row) free (x ∷ free) x None (length-set rows x row) live.less
    (ap (λ b. cond b None (Some (get_or (slice_set rows x row) x []))) (has_head x free))
    (λ k within off. ap (λ b. cond b None (Some (get_or (slice_set rows x row) k []))) (other_has x k free off) ∙ ap (λ r. cond (has_id free k) None (Some r)) (get_or-set_other rows x k row [] off))

-- ---- all blocks are free

-- the chain from a block on has that block and all behind it
record Behind (free : List ℕ) (head count : ℕ) : Type 0 where
  has : (id : ℕ) → head ≤ id → id < count → has_id free id ≡ true
  above : (id : ℕ) → has_id free id ≡ true → (head ≤ id) × (id < count)
  differ : Differ free

none_before : (free : List ℕ) (head id count : ℕ) → ((k : ℕ) → has_id free k ≡ true → (head ≤ k) × (k < count)) → id < head → has_id free id ≡ false
none_before free head id count above less = elim (cases_Bool (has_id free id)) [
  | inl found ↦ absurd (omega (arith, less, (above id found).0))
  | inr missing ↦ missing
]

linked_from : (rows : List (List ℤ)) (n head count : ℕ) → IsLinked rows count → head + n ≡ count → Behind (chain rows n head) head count
linked_from rows zero head count linked sum = record {
  has = λ id le less. absurd (omega arith);
  above = λ id e. absurd (cc);
  differ = tt;
}
linked_from rows (suc n) head count linked sum =
    let next : next_of rows head ≡ head + 1 = ap place_in (linked head (omega (arith, sum))) in
    let rest : Behind (chain rows n (head + 1)) (head + 1) count = linked_from rows n (head + 1) count linked (omega (arith, sum)) in
    subst (λ k. Behind (head ∷ chain rows n k) head count) (sym next) (record {
      has = λ id le less. elim (cases_eq id head) [
        | inl at ↦ subst (λ k. has_id (head ∷ chain rows n (head + 1)) k ≡ true) (sym at) (has_head head (chain rows n (head + 1)))
        | inr off ↦ has_tail head id _ (rest.has id (omega (arith, le, off)) less)
      ];
      above = λ id e. elim (cases_eq id head) [
        | inl at ↦ (omega (arith, at), omega (arith, at, sum))
        | inr off ↦ let both = rest.above id (sym (other_has head id _ off) ∙ e) in (omega (arith, both.0), both.1)
      ];
      differ = (none_before (chain rows n (head + 1)) (head + 1) head count rest.above (omega arith), rest.differ);
    })

pub linked_chain : (rows : List (List ℤ)) (count : ℕ) → length rows ≡ count → IsLinked rows count → IsChain rows (chain rows count 0)
linked_chain rows count size linked =
    let all = linked_from rows count 0 count linked (omega arith) in
    record {
      within = λ id has. omega (arith, (all.above id has).1, size);
      places = λ id has.
          let less = (all.above id has).1 in
          let word = linked id less in
          (word ∙ ap pos (sym (ap place_in word)), omega (arith, less, size, ap place_in word));
      differ = all.differ;
    }

pub none_in_use : (rows : List (List ℤ)) (count : ℕ) → length rows ≡ count → IsLinked rows count → blocks_in rows (chain rows count 0) ≡ replicate count None
none_in_use rows count size linked =
    let free = chain rows count 0 in
    let all = linked_from rows count 0 count linked (omega arith) in
    same_lists _ _ (omega (arith, block_count rows free, size, length-replicate {A = Option (List ℤ)} count None))
    (λ k d h. let less : k < count = omega (arith, h, block_count rows free, size) in
    get_or-map-range_with_len (block_in rows free) 0 (length rows) k k d (omega (arith, less, size)) (omega arith)
    ∙ ap (λ b. cond b None (Some (get_or rows k []))) (all.has k (omega arith) less)
    ∙ sym (get_or-replicate count k None d less))

-- ---- rows of one width

pub rewritten_is : (g : Grid) (place : ℕ) (ws : List ℤ) → length ws ≡ g.width → rewritten_row g place ws ≡ ws
rewritten_is g place ws wide = take_at ws (drop (length ws) (row_at g place)) g.width wide

pub rewritten_wide : (g : Grid) (place : ℕ) (ws : List ℤ) → length (row_at g place) ≡ g.width → length (rewritten_row g place ws) ≡ g.width
rewritten_wide g place ws wide = sym (length_refill g.width (row_at g place) ws (sym wide))

pub own_rows : (width count : ℕ) (g : Grid) → HasRows width count g → HasRows g.width (length g.rows) g
own_rows width count g has = record {
  width_is = refl;
  count_is = refl;
  widths = λ place less. has.widths place (omega (arith, less, has.count_is)) ∙ sym has.width_is;
}

pub has_rows_set : (width count : ℕ) (g : Grid) (place : ℕ) (row : List ℤ) → HasRows width count g → length row ≡ width → HasRows width count (with_row g place row)
has_rows_set width count g place row has wide = record {
  width_is = has.width_is;
  count_is = length-set g.rows place row ∙ has.count_is;
  widths = λ k less. elim (cases_eq k place) [
    | inl at ↦ subst (λ j. length (get_or (slice_set g.rows place row) j []) ≡ width) (sym at) (ap length (get_or-set_same g.rows place row [] (omega (arith, less, at, has.count_is))) ∙ wide)
    | inr off ↦ ap length (get_or-set_other g.rows place k row [] off) ∙ has.widths k less
  ];
}

-- each block up to one is linked to the one behind it
pub linked_more : (rows : List (List ℤ)) (place : ℕ) (row : List ℤ) → place < length rows → get_or row 0 (pos 0) ≡ pos (place + 1) → IsLinked rows place → IsLinked (slice_set rows place row) (place + 1)
linked_more rows place row within word linked id less = elim (cases_eq id place) [
  | inl at ↦ subst (λ k. first_word (slice_set rows place row) k ≡ pos (k + 1)) (sym at) (ap (λ r. get_or r 0 (pos 0)) (get_or-set_same rows place row [] within) ∙ word)
  | inr off ↦ other_word rows row place id off ∙ linked id (omega (arith, less, off))
]

pub at_most_words : (words count : ℕ) → 1 ≤ words → words * count ≤ 2 ^ 32 → count ≤ 2 ^ 32
at_most_words words count some limit = let step : 1 * count ≤ words * count = mul-le-mul_right count some in omega (arith, step, limit)
