-- What the numbers of a line say, both ways; and lists that grow at their end.
use Rattle.std.proofs.Common.{◌≡◌, ℕ, ◌^◌, ◌<◌, true, ◌&&◌, ltb, leb, List, [], ◌∷◌, ◌++◌, map, length, Some, ℤ, pos, negsuc, refl, ap, subst, ◌∙◌}
use Rattle.std.specs.Prelude.{unsigned_abs}
use Rattle.std.proofs.lemmas.Bool.{and_parts, and_from, ltb-true, lt-ltb}
use Rattle.std.proofs.lemmas.List.{length-map}
use Rattle.std.proofs.lemmas.Option.{same_Some}
use Rattle.cert_text.specs.declared.cert.Claim.{Claim}
use Rattle.cert_text.specs.declared.cert.Bound.{Bound}
use Rattle.cert_text.specs.declared.draft.Key.{Key}
use Rattle.cert_text.specs.View.{Place}
use Rattle.cert_text.specs.Reading.{◌▷◌}
use Rattle.cert_text.specs.Allowed.{cells_rise, pack_fits, packs_fit, claim_fits, claims_fit, key_of, bound_fits, bounds_fit, place_fits, places_all_fit}
use Rattle.cert_text.specs.Draft.{small_natural, small_integer, one_number, cells_among, pack_among, claim_among, bound_among}
use Rattle.cert_text.proofs.Numbers.{guard_some}
use Rattle.cert_text.proofs.Words.{bind_some}

-- ---- single numbers

pub natural_takes : (z : ℤ) (n : ℕ) → small_natural z ≡ Some n → (z ≡ pos n) × (n < 2 ^ 32)
natural_takes (pos m) n e =
    let g = guard_some (ltb m (2 ^ 32)) (Some m) n e in
    subst (λ (k : ℕ). (pos m ≡ pos k) × (k < 2 ^ 32)) (same_Some m n g.1) (refl, ltb-true _ _ g.0)
natural_takes (negsuc m) n e = absurd cc

pub natural_again : (n : ℕ) → n < 2 ^ 32 → small_natural (pos n) ≡ Some n
natural_again n lt = rw (lt-ltb n (2 ^ 32) lt) refl

pub integer_takes : (z y : ℤ) → small_integer z ≡ Some y → (z ≡ y) × (unsigned_abs z < 10 ^ 18)
integer_takes z y e = let g = guard_some (ltb (unsigned_abs z) (10 ^ 18)) (Some z) y e in (same_Some z y g.1, ltb-true _ _ g.0)

pub integer_again : (z : ℤ) → ltb (unsigned_abs z) (10 ^ 18) ≡ true → small_integer z ≡ Some z
integer_again z lt = rw lt refl

pub one_takes : (zs : List ℤ) (n : ℕ) → one_number zs ≡ Some n → (zs ≡ pos n ∷ []) × (n < 2 ^ 32)
one_takes [] n e = absurd cc
one_takes (z ∷ []) n e = let t = natural_takes z n e in (ap (λ (y : ℤ). y ∷ []) t.0, t.1)
one_takes (z ∷ y ∷ zs) n e = absurd cc

-- ---- packs

pub cells_take : (cells last : ℕ) (zs : List ℤ) (cs : List ℕ) → cells_among cells last zs ≡ Some cs → (zs ≡ map pos cs) × (cells_rise cells last cs ≡ true)
cells_take cells last [] cs e = subst (λ (ds : List ℕ). ([] ≡ map pos ds) × (cells_rise cells last ds ≡ true)) (same_Some [] cs e) (refl, refl)
cells_take cells last (negsuc n ∷ zs) cs e = absurd cc
cells_take cells last (pos c ∷ zs) cs e =
    let g = guard_some (ltb last c && leb c cells) (cells_among cells c zs ▷ (λ ds. Some (c ∷ ds))) cs e in
    let b = bind_some (cells_among cells c zs) (λ ds. Some (c ∷ ds)) cs g.1 in
    let t = cells_take cells c zs b.0 b.1 in
    subst (λ (ds : List ℕ). (pos c ∷ zs ≡ map pos ds) × (cells_rise cells last ds ≡ true)) (same_Some (c ∷ b.0) cs b.2)
    (ap (λ (ys : List ℤ). pos c ∷ ys) t.0, and_from _ _ g.0 t.1)

pub cells_again : (cells last : ℕ) (cs : List ℕ) → cells_rise cells last cs ≡ true → cells_among cells last (map pos cs) ≡ Some cs
cells_again cells last [] h = refl
cells_again cells last (c ∷ cs) h =
    let p = and_parts (ltb last c && leb c cells) (cells_rise cells c cs) h in
    rw (p.0, cells_again cells c cs p.1) refl

pub pack_takes : (cells : ℕ) (zs : List ℤ) (p : List ℕ) → pack_among cells zs ≡ Some p → (zs ≡ map pos p) × (pack_fits cells p ≡ true)
pack_takes cells zs p e =
    let g = guard_some (leb 2 (length zs) && leb (length zs) 8) (cells_among cells 0 zs) p e in
    let t = cells_take cells 0 zs p g.1 in
    let len : length zs ≡ length p = ap length t.0 ∙ length-map p pos in
    (t.0, and_from _ _ (rw len at g.0) t.1)

pub pack_again : (cells : ℕ) (p : List ℕ) → pack_fits cells p ≡ true → pack_among cells (map pos p) ≡ Some p
pack_again cells p h =
    let a = and_parts (leb 2 (length p) && leb (length p) 8) (cells_rise cells 0 p) h in
    let len : length (map pos p) ≡ length p = length-map p pos in
    rw (len, a.0, cells_again cells 0 p a.1) refl

-- ---- claims and bounds

pub record IsClaimOf (zs : List ℤ) (c : Claim) : Type 0 where
  pub numbers : zs ≡ pos c.cell ∷ c.low ∷ c.high ∷ []
  pub cell : c.cell < 2 ^ 32
  pub low : unsigned_abs c.low < 10 ^ 18
  pub high : unsigned_abs c.high < 10 ^ 18

three_alike : (x a y b z c : ℤ) → x ≡ a → y ≡ b → z ≡ c → x ∷ y ∷ z ∷ [] ≡ a ∷ b ∷ c ∷ []
three_alike x a y b z c e f g = cc

pub claim_takes : (zs : List ℤ) (c : Claim) → claim_among zs ≡ Some c → IsClaimOf zs c
claim_takes [] c e = absurd cc
claim_takes (x ∷ []) c e = absurd cc
claim_takes (x ∷ y ∷ []) c e = absurd cc
claim_takes (x ∷ y ∷ z ∷ w ∷ zs) c e = absurd cc
claim_takes (x ∷ y ∷ z ∷ []) c e =
    let a = bind_some (small_natural x) (λ cell. small_integer y ▷ (λ low. small_integer z ▷ (λ high. Some (record { cell = cell; low = low; high = high })))) c e in
    let b = bind_some (small_integer y) (λ low. small_integer z ▷ (λ high. Some (record { cell = a.0; low = low; high = high }))) c a.2 in
    let d = bind_some (small_integer z) (λ high. Some (record { cell = a.0; low = b.0; high = high })) c b.2 in
    let n = natural_takes x a.0 a.1 in
    let l = integer_takes y b.0 b.1 in
    let h = integer_takes z d.0 d.1 in
    let made : Claim = record { cell = a.0; low = b.0; high = d.0 } in
    subst (IsClaimOf (x ∷ y ∷ z ∷ [])) (same_Some made c d.2)
    (record {
      numbers = three_alike x (pos a.0) y b.0 z d.0 n.0 l.0 h.0;
      cell = n.1;
      low = subst (λ (v : ℤ). unsigned_abs v < 10 ^ 18) l.0 l.1;
      high = subst (λ (v : ℤ). unsigned_abs v < 10 ^ 18) h.0 h.1;
    })

pub claim_again : (c : Claim) → c.cell < 2 ^ 32 → ltb (unsigned_abs c.low) (10 ^ 18) ≡ true → ltb (unsigned_abs c.high) (10 ^ 18) ≡ true → claim_among (pos c.cell ∷ c.low ∷ c.high ∷ []) ≡ Some c
claim_again c cell low high = rw (natural_again c.cell cell, integer_again c.low low, integer_again c.high high) refl

pub record IsBoundOf (zs : List ℤ) (b : Bound) : Type 0 where
  pub numbers : zs ≡ pos b.pack ∷ pos b.row ∷ pos b.column ∷ b.most ∷ []
  pub pack : b.pack < 2 ^ 32
  pub row : b.row < 2 ^ 32
  pub column : b.column < 2 ^ 32

pub bound_takes : (zs : List ℤ) (b : Bound) → bound_among zs ≡ Some b → IsBoundOf zs b
bound_takes [] b e = absurd cc
bound_takes (x ∷ []) b e = absurd cc
bound_takes (x ∷ y ∷ []) b e = absurd cc
bound_takes (x ∷ y ∷ z ∷ []) b e = absurd cc
bound_takes (x ∷ y ∷ z ∷ w ∷ v ∷ zs) b e = absurd cc
bound_takes (x ∷ y ∷ z ∷ w ∷ []) b e =
    let p = bind_some (small_natural x) (λ p. small_natural y ▷ (λ r. small_natural z ▷ (λ c. Some (record { pack = p; row = r; column = c; most = w })))) b e in
    let r = bind_some (small_natural y) (λ r. small_natural z ▷ (λ c. Some (record { pack = p.0; row = r; column = c; most = w }))) b p.2 in
    let c = bind_some (small_natural z) (λ c. Some (record { pack = p.0; row = r.0; column = c; most = w })) b r.2 in
    let i = natural_takes x p.0 p.1 in
    let j = natural_takes y r.0 r.1 in
    let k = natural_takes z c.0 c.1 in
    let made : Bound = record { pack = p.0; row = r.0; column = c.0; most = w } in
    subst (IsBoundOf (x ∷ y ∷ z ∷ w ∷ [])) (same_Some made b c.2)
    (record { numbers = ap (λ (v : ℤ). v ∷ y ∷ z ∷ w ∷ []) i.0 ∙ ap (λ (v : List ℤ). pos p.0 ∷ v) (three_alike y (pos r.0) z (pos c.0) w w j.0 k.0 refl); pack = i.1; row = j.1; column = k.1 })

pub bound_again : (b : Bound) → b.pack < 2 ^ 32 → b.row < 2 ^ 32 → b.column < 2 ^ 32 → bound_among (pos b.pack ∷ pos b.row ∷ pos b.column ∷ b.most ∷ []) ≡ Some b
bound_again b pack row column = rw (natural_again b.pack pack, natural_again b.row row, natural_again b.column column) refl

-- ---- one more at the end

pub packs_fit_push : (cells : ℕ) (ps : List (List ℕ)) (p : List ℕ) → packs_fit cells ps ≡ true → pack_fits cells p ≡ true → packs_fit cells (ps ++ p ∷ []) ≡ true
packs_fit_push cells [] p h k = and_from _ _ k refl
packs_fit_push cells (q ∷ qs) p h k = let a = and_parts (pack_fits cells q) (packs_fit cells qs) h in and_from _ _ a.0 (packs_fit_push cells qs p a.1 k)

pub places_fit_push : (cells : ℕ) (packs : List (List ℕ)) (ps : List Place) (p : Place) → places_all_fit cells packs ps ≡ true → place_fits cells packs p ≡ true → places_all_fit cells packs (ps ++ p ∷ []) ≡ true
places_fit_push cells packs [] p h k = and_from _ _ k refl
places_fit_push cells packs (q ∷ qs) p h k = let a = and_parts (place_fits cells packs q) (places_all_fit cells packs qs) h in and_from _ _ a.0 (places_fit_push cells packs qs p a.1 k)

-- the cell of the last claim
abbrev pub last_cell : ℕ → List Claim → ℕ
last_cell last [] = last
last_cell last (c ∷ cs) = last_cell c.cell cs

pub last_cell_push : (last : ℕ) (cs : List Claim) (c : Claim) → last_cell last (cs ++ c ∷ []) ≡ c.cell
last_cell_push last [] c = refl
last_cell_push last (d ∷ ds) c = last_cell_push d.cell ds c

pub claims_fit_push : (cells last : ℕ) (cs : List Claim) (c : Claim) → claims_fit cells last cs ≡ true → claim_fits cells (last_cell last cs) c ≡ true → claims_fit cells last (cs ++ c ∷ []) ≡ true
claims_fit_push cells last [] c h k = and_from _ _ k refl
claims_fit_push cells last (d ∷ ds) c h k = let a = and_parts (claim_fits cells last d) (claims_fit cells d.cell ds) h in and_from _ _ a.0 (claims_fit_push cells d.cell ds c a.1 k)

-- the key of the last bound
abbrev pub last_key : Key → List Bound → Key
last_key last [] = last
last_key last (b ∷ bs) = last_key (key_of b) bs

pub last_key_push : (last : Key) (bs : List Bound) (b : Bound) → last_key last (bs ++ b ∷ []) ≡ key_of b
last_key_push last [] b = refl
last_key_push last (d ∷ ds) b = last_key_push (key_of d) ds b

pub bounds_fit_push : (packs : List (List ℕ)) (last : Key) (bs : List Bound) (b : Bound) → bounds_fit packs last bs ≡ true → bound_fits packs (last_key last bs) b ≡ true → bounds_fit packs last (bs ++ b ∷ []) ≡ true
bounds_fit_push packs last [] b h k = and_from _ _ k refl
bounds_fit_push packs last (d ∷ ds) b h k = let a = and_parts (bound_fits packs last d) (bounds_fit packs (key_of d) ds) h in and_from _ _ a.0 (bounds_fit_push packs (key_of d) ds b a.1 k)
