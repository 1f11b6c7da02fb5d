-- How long the text of a certificate can be.
use Rattle.std.proofs.Common.{◌≡◌, ◌≢◌, ℕ, zero, suc, ◌+◌, ◌-◌, ◌*◌, ◌^◌, ◌<◌, ◌≤◌, Bool, true, false, ◌&&◌, not, cond, eqb, ltb, leb, List, [], ◌∷◌, ◌++◌, map, length, ℤ, pos, negsuc, refl, sym, ap, subst, ◌∙◌, inl, inr, arith}
use Rattle.std.specs.Prelude.{get_or, unsigned_abs, int_le, ◌⊎◌, ◌||◌}
use Rattle.std.specs.Fmt.{decimal, signed_decimal}
use Rattle.std.proofs.lemmas.Bool.{and_parts, ltb-true, leb-true, eqb-true}
use Rattle.std.proofs.lemmas.Fmt.{length-decimal-le_wide}
use Rattle.std.proofs.lemmas.List.{length-append, length-map, map-append}
use Rattle.cert_text.specs.declared.word.Word.{Word}
use Rattle.cert_text.specs.declared.word.Word.TheVariants as words
use Rattle.cert_text.specs.declared.cert.Claim.{Claim}
use Rattle.cert_text.specs.declared.cert.Bound.{Bound}
use Rattle.cert_text.specs.declared.draft.Key.{Key}
use Rattle.cert_text.specs.View.{Place, NotReached, Holds, Certificate}
use Rattle.cert_text.specs.Text.{name, Entry, entry, entry_line, numbers_text, pack_entry, claim_entry, bound_entry, place_entries, nodes_entries, heading, entries_text, spelling}
use Rattle.cert_text.specs.Allowed.{cells_rise, pack_fits, packs_fit, claim_fits, claims_fit, key_of, no_key, is_before, places_fit, bound_fits, bounds_fit, place_fits, places_all_fit, IsAllowed}
use Rattle.cert_text.specs.Lengths.{most_bounds, most_bytes}
use Rattle.cert_text.proofs.BoundPlaces.{IsPair, IsAfter, pairs_to, some_pair, pairs_to_most, pairs_to_rise}

-- ---- numbers

-- so many digits
natural_length : (k n : ℕ) → 0 < k → n < 10 ^ k → n < 10 ^ 64 → length (signed_decimal (pos n)) ≤ k
natural_length k n some small less = length-decimal-le_wide k n some small less

-- so many digits and a sign
signed_length : (k : ℕ) (z : ℤ) → 0 < k → unsigned_abs z < 10 ^ k → unsigned_abs z < 10 ^ 64 → length (signed_decimal z) ≤ k + 1
signed_length k (pos n) some small less = omega (arith, length-decimal-le_wide k n some small less)
signed_length k (negsuc n) some small less = omega (arith, length-decimal-le_wide k (suc n) some small less)

-- ---- lines

-- the bytes of these lines
abbrev bytes_of : List Entry → ℕ
bytes_of es = length (entries_text es)

line_more : (e : Entry) (es : List Entry) → bytes_of (e ∷ es) ≡ length (entry_line e) + 1 + bytes_of es
line_more e es = omega (arith, length-append (entry_line e ++ 10 ∷ []) (entries_text es), length-append (entry_line e) (10 ∷ []))

bytes-append : (a b : List Entry) → bytes_of (a ++ b) ≡ bytes_of a + bytes_of b
bytes-append [] b = omega arith
bytes-append (e ∷ a) b = omega (arith, line_more e (a ++ b), line_more e a, bytes-append a b)

-- the bytes of numbers, each after a space
abbrev numbers_length : List ℤ → ℕ
numbers_length [] = 0
numbers_length (z ∷ zs) = 1 + length (signed_decimal z) + numbers_length zs

length-numbers : (zs : List ℤ) → length (numbers_text zs) ≡ numbers_length zs
length-numbers [] = refl
length-numbers (z ∷ zs) = omega (arith, length-append (signed_decimal z) (numbers_text zs), length-numbers zs)

length-line : (w : Word) (zs : List ℤ) → length (entry_line (entry w zs)) ≡ length (name w) + numbers_length zs
length-line w zs = omega (arith, length-append (name w) (numbers_text zs), length-numbers zs)

one_line : (w : Word) (n k m : ℕ) → length (name w) ≡ m → 0 < k → n < 10 ^ k → n < 10 ^ 64 → bytes_of (entry w (pos n ∷ []) ∷ []) ≤ m + k + 2
one_line w n k m named some small less = omega (arith, line_more (entry w (pos n ∷ [])) [], length-line w (pos n ∷ []), natural_length k n some small less)

-- ---- packs

cells_length : (cells last : ℕ) (cs : List ℕ) → cells < 1000 → cells_rise cells last cs ≡ true → numbers_length (map pos cs) ≤ 4 * length cs
cells_length cells last [] few h = omega arith
cells_length cells last (c ∷ cs) few h =
    let p = and_parts (ltb last c && leb c cells) (cells_rise cells c cs) h in
    let q = and_parts (ltb last c) (leb c cells) p.0 in
    let small : c ≤ cells = leb-true c cells q.1 in
    omega (arith, natural_length 3 c (omega arith) (omega arith) (omega arith), cells_length cells c cs few p.1)

pack_size : (cells : ℕ) (p : List ℕ) → pack_fits cells p ≡ true → length p ≤ 8
pack_size cells p h =
    let a = and_parts (leb 2 (length p) && leb (length p) 8) (cells_rise cells 0 p) h in
    leb-true _ _ (and_parts (leb 2 (length p)) (leb (length p) 8) a.0).1

pack_length : (cells : ℕ) (p : List ℕ) → cells < 1000 → pack_fits cells p ≡ true → length (entry_line (pack_entry p)) + 1 ≤ 37
pack_length cells p few h =
    let a = and_parts (leb 2 (length p) && leb (length p) 8) (cells_rise cells 0 p) h in
    let named : length (name words.Pack) ≡ 4 = refl in
    omega (arith, length-line words.Pack (map pos p), cells_length cells 0 p few a.1, pack_size cells p h)

packs_length : (cells : ℕ) (ps : List (List ℕ)) → cells < 1000 → packs_fit cells ps ≡ true → bytes_of (map pack_entry ps) ≤ 37 * length ps
packs_length cells [] few h = omega arith
packs_length cells (p ∷ ps) few h =
    let a = and_parts (pack_fits cells p) (packs_fit cells ps) h in
    omega (arith, line_more (pack_entry p) (map pack_entry ps), pack_length cells p few a.0, packs_length cells ps few a.1)

size_small : (cells : ℕ) (ps : List (List ℕ)) (pack : ℕ) → packs_fit cells ps ≡ true → length (get_or ps pack []) ≤ 8
size_small cells [] pack h = omega arith
size_small cells (p ∷ ps) zero h = pack_size cells p (and_parts (pack_fits cells p) (packs_fit cells ps) h).0
size_small cells (p ∷ ps) (suc pack) h = size_small cells ps pack (and_parts (pack_fits cells p) (packs_fit cells ps) h).1

-- ---- claims

record IsClaim (cells last : ℕ) (c : Claim) : Type 0 where
  pub after : last < c.cell
  pub within : c.cell ≤ cells
  pub low : unsigned_abs c.low < 10 ^ 18
  pub high : unsigned_abs c.high < 10 ^ 18

claim_is : (cells last : ℕ) (c : Claim) → claim_fits cells last c ≡ true → IsClaim cells last c
claim_is cells last c h =
    let a = and_parts (ltb last c.cell && leb c.cell cells) (int_le c.low c.high && (ltb (unsigned_abs c.low) (10 ^ 18) && ltb (unsigned_abs c.high) (10 ^ 18))) h in
    let b = and_parts (ltb last c.cell) (leb c.cell cells) a.0 in
    let d = and_parts (int_le c.low c.high) (ltb (unsigned_abs c.low) (10 ^ 18) && ltb (unsigned_abs c.high) (10 ^ 18)) a.1 in
    let e = and_parts (ltb (unsigned_abs c.low) (10 ^ 18)) (ltb (unsigned_abs c.high) (10 ^ 18)) d.1 in
    record { after = ltb-true _ _ b.0; within = leb-true _ _ b.1; low = ltb-true _ _ e.0; high = ltb-true _ _ e.1 }

claim_length : (cells last : ℕ) (c : Claim) → cells < 1000 → IsClaim cells last c → length (entry_line (claim_entry c)) + 1 ≤ 46
claim_length cells last c few h =
    let within : c.cell ≤ cells = h.within in
    let low : unsigned_abs c.low < 10 ^ 18 = h.low in
    let high : unsigned_abs c.high < 10 ^ 18 = h.high in
    let named : length (name words.Claim) ≡ 1 = refl in
    omega (
      arith,
      length-line words.Claim (pos c.cell ∷ c.low ∷ c.high ∷ []),
      natural_length 3 c.cell (omega arith) (omega arith) (omega arith),
      signed_length 18 c.low (omega arith) low (omega arith),
      signed_length 18 c.high (omega arith) high (omega arith),
    )

claims_length : (cells last : ℕ) (cs : List Claim) → cells < 1000 → last ≤ cells → claims_fit cells last cs ≡ true → bytes_of (map claim_entry cs) + 46 * last ≤ 46 * cells
claims_length cells last [] few in_ h = omega arith
claims_length cells last (c ∷ cs) few in_ h =
    let a = and_parts (claim_fits cells last c) (claims_fit cells c.cell cs) h in
    let one = claim_is cells last c a.0 in
    let after : last < c.cell = one.after in
    omega (arith, line_more (claim_entry c) (map claim_entry cs), claim_length cells last c few one, claims_length cells c.cell cs few one.within a.1)

-- ---- bounds

abbrev size_of : List (List ℕ) → ℕ → ℕ
size_of packs pack = length (get_or packs (pack - 1) [])

record IsBound (packs : List (List ℕ)) (last : Key) (b : Bound) : Type 0 where
  pub after : is_before last (key_of b) ≡ true
  pub first : 1 ≤ b.pack
  pub in_packs : b.pack ≤ length packs
  pub pair : IsPair (size_of packs b.pack) b.row b.column
  pub small : unsigned_abs b.most ≤ 10 ^ 37

differ_from : (a b : ℕ) → not (eqb a b) ≡ true → a ≢ b
differ_from a b h same = absurd (grind arith)

bound_is : (packs : List (List ℕ)) (last : Key) (b : Bound) → bound_fits packs last b ≡ true → IsBound packs last b
bound_is packs last b h =
    let size = size_of packs b.pack in
    let a = and_parts (is_before last (key_of b) && (leb 1 b.pack && leb b.pack (length packs))) (places_fit size (key_of b) && leb (unsigned_abs b.most) (10 ^ 37)) h in
    let c = and_parts (is_before last (key_of b)) (leb 1 b.pack && leb b.pack (length packs)) a.0 in
    let d = and_parts (leb 1 b.pack) (leb b.pack (length packs)) c.1 in
    let e = and_parts (places_fit size (key_of b)) (leb (unsigned_abs b.most) (10 ^ 37)) a.1 in
    let f = and_parts (leb b.row size && leb b.column size) (not (eqb b.row b.column)) e.0 in
    let g = and_parts (leb b.row size) (leb b.column size) f.0 in
    record {
      after = c.0;
      first = leb-true _ _ d.0;
      in_packs = leb-true _ _ d.1;
      pair = record { row_in = leb-true _ _ g.0; column_in = leb-true _ _ g.1; differ = differ_from _ _ f.1 };
      small = leb-true _ _ e.1;
    }

bound_length : (cells : ℕ) (packs : List (List ℕ)) (last : Key) (b : Bound) → length packs ≤ 32 → packs_fit cells packs ≡ true → IsBound packs last b → length (entry_line (bound_entry b)) + 1 ≤ 49
bound_length cells packs last b few fit h =
    let in_packs : b.pack ≤ length packs = h.in_packs in
    let row : b.row ≤ size_of packs b.pack = h.pair.row_in in
    let column : b.column ≤ size_of packs b.pack = h.pair.column_in in
    let size : size_of packs b.pack ≤ 8 = size_small cells packs (b.pack - 1) fit in
    let small : unsigned_abs b.most ≤ 10 ^ 37 = h.small in
    let named : length (name words.Bound) ≡ 1 = refl in
    omega (
      arith,
      length-line words.Bound (pos b.pack ∷ pos b.row ∷ pos b.column ∷ b.most ∷ []),
      natural_length 2 b.pack (omega arith) (omega arith) (omega arith),
      natural_length 1 b.row (omega arith) (omega arith) (omega arith),
      natural_length 1 b.column (omega arith) (omega arith) (omega arith),
      signed_length 38 b.most (omega arith) (omega arith) (omega arith),
    )

-- the pairs of places up to that of a key
abbrev pairs_to_key : List (List ℕ) → Key → ℕ
pairs_to_key packs k = pairs_to packs (k.pack - 1) k.row k.column

or_cases : (a b : Bool) → (a || b) ≡ true → (a ≡ true) ⊎ (b ≡ true)
or_cases true b h = inl refl
or_cases false b h = inr h

after_from : (a b : Key) → 1 ≤ a.pack → 1 ≤ b.pack → is_before a b ≡ true → IsAfter (a.pack - 1) a.row a.column (b.pack - 1) b.row b.column
after_from a b some some' h = by_pack (or_cases (ltb a.pack b.pack) (eqb a.pack b.pack && (ltb a.row b.row || (eqb a.row b.row && ltb a.column b.column))) h)
  where
    by_row : a.pack ≡ b.pack → (ltb a.row b.row ≡ true) ⊎ ((eqb a.row b.row && ltb a.column b.column) ≡ true) → IsAfter (a.pack - 1) a.row a.column (b.pack - 1) b.row b.column
    by_row same (inl less) = inr (omega arith, inl (ltb-true _ _ less))
    by_row same (inr both) =
        let p = and_parts (eqb a.row b.row) (ltb a.column b.column) both in
        inr (omega arith, inr (eqb-true _ _ p.0, ltb-true _ _ p.1))

    by_pack : (ltb a.pack b.pack ≡ true) ⊎ ((eqb a.pack b.pack && (ltb a.row b.row || (eqb a.row b.row && ltb a.column b.column))) ≡ true) → IsAfter (a.pack - 1) a.row a.column (b.pack - 1) b.row b.column
    by_pack (inl less) = inl (omega (arith, ltb-true _ _ less))
    by_pack (inr both) =
        let p = and_parts (eqb a.pack b.pack) (ltb a.row b.row || (eqb a.row b.row && ltb a.column b.column)) both in
        by_row (eqb-true _ _ p.0) (or_cases _ _ p.1)

-- each bound that may come next stands behind so many pairs
abbrev StandsBehind : List (List ℕ) → Key → ℕ → Type 0
StandsBehind packs last passed = (b : Bound) → IsBound packs last b → passed < pairs_to_key packs (key_of b)

first_behind : (packs : List (List ℕ)) (last : Key) → StandsBehind packs last 0
first_behind packs last b h =
    let first : 1 ≤ b.pack = h.first in
    let in_packs : b.pack ≤ length packs = h.in_packs in
    some_pair packs (b.pack - 1) b.row b.column (omega arith) h.pair

next_behind : (packs : List (List ℕ)) (last : Key) (b : Bound) → IsBound packs last b → StandsBehind packs (key_of b) (pairs_to_key packs (key_of b))
next_behind packs last b h next k =
    let first : 1 ≤ b.pack = h.first in
    let in_packs : b.pack ≤ length packs = h.in_packs in
    let next_first : 1 ≤ next.pack = k.first in
    let next_in : next.pack ≤ length packs = k.in_packs in
    pairs_to_rise packs (b.pack - 1) b.row b.column (next.pack - 1) next.row next.column (omega arith) (omega arith) h.pair k.pair (after_from (key_of b) (key_of next) first next_first k.after)

bounds_length : (cells : ℕ) (packs : List (List ℕ)) (last : Key) (bs : List Bound) (passed : ℕ) → length packs ≤ 32 → packs_fit cells packs ≡ true
    → passed ≤ most_bounds packs → StandsBehind packs last passed → bounds_fit packs last bs ≡ true → bytes_of (map bound_entry bs) + 49 * passed ≤ 49 * most_bounds packs
bounds_length cells packs last [] passed few fit in_ behind h = omega arith
bounds_length cells packs last (b ∷ bs) passed few fit in_ behind h =
    let a = and_parts (bound_fits packs last b) (bounds_fit packs (key_of b) bs) h in
    let one = bound_is packs last b a.0 in
    let first : 1 ≤ b.pack = one.first in
    let in_packs : b.pack ≤ length packs = one.in_packs in
    let here : passed < pairs_to_key packs (key_of b) = behind b one in
    let most : pairs_to_key packs (key_of b) ≤ most_bounds packs = pairs_to_most packs (b.pack - 1) b.row b.column (omega arith) one.pair in
    omega (
      arith,
      line_more (bound_entry b) (map bound_entry bs),
      bound_length cells packs last b few fit one,
      bounds_length cells packs (key_of b) bs (pairs_to_key packs (key_of b)) few fit most (next_behind packs last b one) a.1,
    )

-- ---- nodes

abbrev most_of_node : ℕ → List (List ℕ) → ℕ
most_of_node cells packs = 10 + 46 * cells + 49 * most_bounds packs

place_length : (cells : ℕ) (packs : List (List ℕ)) (i : ℕ) (p : Place) → cells < 1000 → length packs ≤ 32 → packs_fit cells packs ≡ true → i < 10000
    → place_fits cells packs p ≡ true → bytes_of (place_entries i p) ≤ most_of_node cells packs
place_length cells packs i NotReached few packs_few fit in_ h = omega (arith, one_line words.Never i 4 4 refl (omega arith) (omega arith) (omega arith))
place_length cells packs i (Holds claims bounds) few packs_few fit in_ h =
    let a = and_parts (claims_fit cells 0 claims) (bounds_fit packs no_key bounds) h in
    omega (
      arith,
      one_line words.Node i 4 4 refl (omega arith) (omega arith) (omega arith),
      line_more (entry words.Node (pos i ∷ [])) (map claim_entry claims ++ map bound_entry bounds),
      line_more (entry words.Node (pos i ∷ [])) [],
      bytes-append (map claim_entry claims) (map bound_entry bounds),
      claims_length cells 0 claims few (omega arith) a.0,
      bounds_length cells packs no_key bounds 0 packs_few fit (omega arith) (first_behind packs no_key) a.1,
    )

nodes_length : (cells : ℕ) (packs : List (List ℕ)) (i : ℕ) (ps : List Place) → cells < 1000 → length packs ≤ 32 → packs_fit cells packs ≡ true → i + length ps ≤ 10000
    → places_all_fit cells packs ps ≡ true → bytes_of (nodes_entries i ps) ≤ length ps * most_of_node cells packs
nodes_length cells packs i [] few packs_few fit in_ h = omega arith
nodes_length cells packs i (p ∷ ps) few packs_few fit in_ h =
    let a = and_parts (place_fits cells packs p) (places_all_fit cells packs ps) h in
    omega (
      arith,
      bytes-append (place_entries i p) (nodes_entries (suc i) ps),
      place_length cells packs i p few packs_few fit (omega arith) a.0,
      nodes_length cells packs (suc i) ps few packs_few fit (omega arith) a.1,
    )

-- ---- the whole

heading_length : (cells nodes packs : ℕ) → cells < 1000 → nodes < 10000 → packs ≤ 32 → bytes_of (heading cells nodes packs) ≤ 41
heading_length cells nodes packs few few_nodes few_packs =
    omega (
      arith,
      bytes-append (entry words.Title (pos 1 ∷ []) ∷ []) (entry words.Cells (pos cells ∷ []) ∷ entry words.Nodes (pos nodes ∷ []) ∷ entry words.Packs (pos packs ∷ []) ∷ []),
      bytes-append (entry words.Cells (pos cells ∷ []) ∷ []) (entry words.Nodes (pos nodes ∷ []) ∷ entry words.Packs (pos packs ∷ []) ∷ []),
      bytes-append (entry words.Nodes (pos nodes ∷ []) ∷ []) (entry words.Packs (pos packs ∷ []) ∷ []),
      one_line words.Title 1 1 8 refl (omega arith) (omega arith) (omega arith),
      one_line words.Cells cells 3 5 refl (omega arith) (omega arith) (omega arith),
      one_line words.Nodes nodes 4 5 refl (omega arith) (omega arith) (omega arith),
      one_line words.Packs packs 2 5 refl (omega arith) (omega arith) (omega arith),
    )

pub text_is_short : (c : Certificate) → IsAllowed c → c.cells < 1000 → length c.nodes < 10000 → length (spelling c) ≤ most_bytes c
text_is_short c w few few_nodes =
    let packs_few : length c.packs ≤ 32 = w.packs in
    let ended : List Entry = entry words.End [] ∷ [] in
    let end_bytes : bytes_of ended ≡ 4 = refl in
    omega (
      arith,
      bytes-append (heading c.cells (length c.nodes) (length c.packs)) (map pack_entry c.packs ++ (nodes_entries 1 c.nodes ++ ended)),
      bytes-append (map pack_entry c.packs) (nodes_entries 1 c.nodes ++ ended),
      bytes-append (nodes_entries 1 c.nodes) ended,
      heading_length c.cells (length c.nodes) (length c.packs) few few_nodes packs_few,
      packs_length c.cells c.packs few w.each_pack,
      nodes_length c.cells c.packs 1 c.nodes few packs_few w.each_pack (omega arith) w.each_node,
    )
