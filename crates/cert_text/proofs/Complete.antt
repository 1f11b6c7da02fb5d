-- The lines of an allowed certificate are read to their end.
use Rattle.std.proofs.Common.{◌≡◌, ℕ, zero, suc, ◌+◌, ◌-◌, ◌^◌, ◌<◌, ◌≤◌, true, not, ◌&&◌, ◌||◌, eqb, ltb, leb, List, [], ◌∷◌, ◌++◌, map, length, get_or, Option, Some, None, ℤ, pos, refl, sym, ap, subst, ◌∙◌, append_assoc, arith}
use Rattle.std.specs.Prelude.{unsigned_abs, int_le}
use Rattle.std.specs.List.{AllByRecursion}
use Rattle.std.proofs.lemmas.Bool.{and_parts, and_from, or_right, ltb-true, leb-true, eqb-true, lt-ltb, le-leb, eq-eqb, cond-true}
use Rattle.std.proofs.lemmas.List.{append-nil, length-append, nil_from_length, length-map}
use Rattle.std.proofs.lemmas.Option.{same_Some}
use Rattle.cert_text.specs.Lines.{Line}
use Rattle.cert_text.specs.declared.cert.Claim.{Claim}
use Rattle.cert_text.specs.declared.cert.Bound.{Bound}
use Rattle.cert_text.specs.declared.draft.Stage.TheVariants as stages
use Rattle.cert_text.specs.declared.word.Word.{Word}
use Rattle.cert_text.specs.declared.word.Word.TheVariants as words
use Rattle.cert_text.specs.View.{Place, NotReached, Holds, Certificate}
use Rattle.cert_text.specs.Text.{Entry, entry, entry_line, pack_entry, claim_entry, bound_entry, place_entries, nodes_entries, heading, entries}
use Rattle.cert_text.specs.Reading.{◌▷◌}
use Rattle.cert_text.specs.Allowed.{cells_rise, pack_fits, packs_fit, claim_fits, claims_fit, key_of, no_key, is_before, places_fit, bound_fits, bounds_fit, place_fits, places_all_fit, IsAllowed}
use Rattle.cert_text.specs.Draft.{Parts, nothing_read, is_at, closed, node_closed, is_next, one_number, pack_among, claim_among, bound_among, claim_read, bound_read, one_step, step, certificate_of, line_read}
use Rattle.cert_text.proofs.Numbers.{guard_some, IsSmall}
use Rattle.cert_text.proofs.Words.{bind_some, line_again}
use Rattle.cert_text.proofs.Taken.{one_takes, pack_takes, claim_takes, bound_takes, natural_again, pack_again, claim_again, bound_again, last_cell, last_key}
use Rattle.cert_text.proofs.Made.{one_entry, begun, Made, made_cells, step_made}

-- ---- what is read is small

abbrev pub Fits : List ℤ → Type 0
Fits zs = (length zs ≤ 8) × AllByRecursion IsSmall zs

rise_small : (cells last : ℕ) (cs : List ℕ) → cells < 2 ^ 32 → cells_rise cells last cs ≡ true → AllByRecursion IsSmall (map pos cs)
rise_small cells last [] lt h = tt
rise_small cells last (c ∷ cs) lt h =
    let a = and_parts (ltb last c && leb c cells) (cells_rise cells c cs) h in
    let b = and_parts (ltb last c) (leb c cells) a.0 in
    let le : c ≤ cells = leb-true _ _ b.1 in
    (omega arith, rise_small cells c cs lt a.1)

one_small : (zs : List ℤ) (n : ℕ) → one_number zs ≡ Some n → Fits zs
one_small zs n e =
    let t = one_takes zs n e in
    let lt : n < 2 ^ 32 = t.1 in
    subst Fits (sym t.0) (omega arith, (omega arith, tt))

one_step_small : (d e : Parts) (w : Word) (zs : List ℤ) → (one_number zs ▷ one_step d w) ≡ Some e → Fits zs
one_step_small d e w zs h = let b = bind_some (one_number zs) (one_step d w) e h in one_small zs b.0 b.1

pub step_small : (d e : Parts) (w : Word) (zs : List ℤ) → d.cells < 2 ^ 32 → step d w zs ≡ Some e → Fits zs
step_small d e words.Title zs lt h = one_step_small d e words.Title zs h
step_small d e words.Cells zs lt h = one_step_small d e words.Cells zs h
step_small d e words.Nodes zs lt h = one_step_small d e words.Nodes zs h
step_small d e words.Packs zs lt h = one_step_small d e words.Packs zs h
step_small d e words.Never zs lt h = one_step_small d e words.Never zs h
step_small d e words.Node zs lt h = one_step_small d e words.Node zs h
step_small d e words.Pack zs lt h =
    let g = guard_some (is_at d.stage stages.Body && ltb (length d.packs) d.pack_count) (pack_among d.cells zs ▷ (λ p. Some (record d { packs = d.packs ++ p ∷ [] }))) e h in
    let r = bind_some (pack_among d.cells zs) (λ p. Some (record d { packs = d.packs ++ p ∷ [] })) e g.1 in
    let t = pack_takes d.cells zs r.0 r.1 in
    let a = and_parts (leb 2 (length r.0) && leb (length r.0) 8) (cells_rise d.cells 0 r.0) t.1 in
    let b = and_parts (leb 2 (length r.0)) (leb (length r.0) 8) a.0 in
    let le : length r.0 ≤ 8 = leb-true _ _ b.1 in
    subst Fits (sym t.0) (omega (arith, length-map r.0 pos), rise_small d.cells 0 r.0 lt a.1)
step_small d e words.Claim zs lt h =
    let b = bind_some (claim_among zs) (claim_read d) e h in
    let t = claim_takes zs b.0 b.1 in
    let x = t.cell in
    let y = t.low in
    let z = t.high in
    subst Fits (sym t.numbers) (omega arith, (omega (arith, x), (omega (arith, y), (omega (arith, z), tt))))
step_small d e words.Bound zs lt h =
    let b = bind_some (bound_among zs) (bound_read d) e h in
    let t = bound_takes zs b.0 b.1 in
    let g = guard_some ((is_at d.stage stages.Body && d.open_node) && bound_fits d.packs d.key b.0) (Some (record d { bounds = d.bounds ++ b.0 ∷ []; key = key_of b.0 })) e b.2 in
    let a = and_parts _ _ g.0 in
    let f = and_parts (is_before d.key (key_of b.0) && (leb 1 b.0.pack && leb b.0.pack (length d.packs))) (places_fit (length (get_or d.packs (b.0.pack - 1) [])) (key_of b.0) && leb (unsigned_abs b.0.most) (10 ^ 37)) a.1 in
    let m = and_parts (places_fit (length (get_or d.packs (b.0.pack - 1) [])) (key_of b.0)) (leb (unsigned_abs b.0.most) (10 ^ 37)) f.1 in
    let most : unsigned_abs b.0.most ≤ 10 ^ 37 = leb-true _ _ m.1 in
    let x = t.pack in
    let y = t.row in
    let z = t.column in
    subst Fits (sym t.numbers) (omega arith, (omega (arith, x), (omega (arith, y), (omega (arith, z), (most, tt)))))
step_small d e words.End zs lt h =
    let g = guard_some ((is_at d.stage stages.Body && eqb (length d.packs) d.pack_count) && (eqb (length (closed d)) d.node_count && eqb (length zs) 0)) (Some (record (node_closed d) { stage = stages.Ended })) e h in
    let a = and_parts _ _ g.0 in
    let f = and_parts _ _ a.1 in
    subst Fits (sym (nil_from_length zs (eqb-true _ _ f.1))) (omega arith, tt)

-- ---- lines one after the other

abbrev pub run : Parts → List Entry → Option Parts
run d [] = Some d
run d (l ∷ ls) = step d l.word l.numbers ▷ (λ e. run e ls)

abbrev pub lines_read : Parts → List Line → Option Parts
lines_read d [] = Some d
lines_read d (l ∷ ls) = line_read d l ▷ (λ e. lines_read e ls)

run_append : (d : Parts) (xs ys : List Entry) (e f : Parts) → run d xs ≡ Some e → run e ys ≡ Some f → run d (xs ++ ys) ≡ Some f
run_append d [] ys e f h k = subst (λ (y : Parts). run y ys ≡ Some f) (sym (same_Some d e h)) k
run_append d (x ∷ xs) ys e f h k =
    let b = bind_some (step d x.word x.numbers) (λ y. run y xs) e h in
    ap (λ r. r ▷ (λ y. run y (xs ++ ys))) b.1 ∙ run_append b.0 xs ys e f b.2 k

-- the lines as bytes go the same way
pub lines_run : (ls : List Entry) (d e : Parts) (front : List Entry) → Made d front → run d ls ≡ Some e → lines_read d (map entry_line ls) ≡ Some e
lines_run [] d e front m h = h
lines_run (l ∷ ls) d e front m h =
    let b = bind_some (step d l.word l.numbers) (λ y. run y ls) e h in
    let s = step_small d b.0 l.word l.numbers (made_cells d front m) b.1 in
    let next = step_made d b.0 l.word l.numbers b.1 front m in
    ap (λ r. r ▷ (λ y. lines_read y (map entry_line ls))) (line_again d l.word l.numbers s.0 s.1 ∙ b.1) ∙ lines_run ls b.0 e (front ++ l ∷ []) next b.2

-- ---- the heading

pub one_again : (d : Parts) (w : Word) (n : ℕ) → n < 2 ^ 32 → (one_number (pos n ∷ []) ▷ one_step d w) ≡ one_step d w n
one_again d w n lt = ap (λ r. r ▷ one_step d w) (natural_again n lt)

heading_run : (c n k : ℕ) → c < 2 ^ 32 → n < 2 ^ 32 → k ≤ 32 → (eqb k 0 || leb 2 c) ≡ true → run nothing_read (heading c n k) ≡ Some (begun c n k)
heading_run c n k cl nl kl room =
    let d2 : Parts = record nothing_read { stage = stages.Cells } in
    let d3 : Parts = record nothing_read { stage = stages.Nodes; cells = c } in
    let d4 : Parts = record nothing_read { stage = stages.Packs; cells = c; node_count = n } in
    let e1 : run nothing_read (heading c n k) ≡ (one_number (pos c ∷ []) ▷ one_step d2 words.Cells) ▷ (λ y. run y (one_entry words.Nodes n ∷ one_entry words.Packs k ∷ [])) = refl in
    let e2 : (one_number (pos c ∷ []) ▷ one_step d2 words.Cells) ≡ Some d3 = one_again d2 words.Cells c cl in
    let e3 : (one_number (pos n ∷ []) ▷ one_step d3 words.Nodes) ≡ Some d4 = one_again d3 words.Nodes n nl in
    let e4 : (one_number (pos k ∷ []) ▷ one_step d4 words.Packs) ≡ Some (begun c n k) = one_again d4 words.Packs k (omega arith) ∙ cond-true (leb k 32 && (eqb k 0 || leb 2 c)) (Some (begun c n k)) None (and_from _ _ (le-leb _ _ kl) room) in
    e1 ∙ ap (λ r. r ▷ (λ y. run y (one_entry words.Nodes n ∷ one_entry words.Packs k ∷ []))) e2
    ∙ ap (λ r. r ▷ (λ y. run y (one_entry words.Packs k ∷ []))) e3
    ∙ ap (λ r. r ▷ (λ y. run y [])) e4

-- ---- packs

pub at_body : (d : Parts) → d.stage ≡ stages.Body → is_at d.stage stages.Body ≡ true
at_body d e = ap (λ s. is_at s stages.Body) e

pub pack_step : (d : Parts) (p : List ℕ) → d.stage ≡ stages.Body → length d.packs < d.pack_count → pack_fits d.cells p ≡ true → step d words.Pack (map pos p) ≡ Some (record d { packs = d.packs ++ p ∷ [] })
pack_step d p s lt fits =
    cond-true (is_at d.stage stages.Body && ltb (length d.packs) d.pack_count) (pack_among d.cells (map pos p) ▷ (λ q. Some (record d { packs = d.packs ++ q ∷ [] }))) None (and_from _ _ (at_body d s) (lt-ltb _ _ lt))
    ∙ ap (λ r. r ▷ (λ q. Some (record d { packs = d.packs ++ q ∷ [] }))) (pack_again d.cells p fits)

packs_run : (ps : List (List ℕ)) (d : Parts) → d.stage ≡ stages.Body → length d.packs + length ps ≤ d.pack_count → packs_fit d.cells ps ≡ true → run d (map pack_entry ps) ≡ Some (record d { packs = d.packs ++ ps })
packs_run [] d s le h = ap (λ (qs : List (List ℕ)). let e : Parts = record d { packs = qs } in Some e) (sym (append-nil d.packs))
packs_run (p ∷ ps) d s le h =
    let a = and_parts (pack_fits d.cells p) (packs_fit d.cells ps) h in
    let next : Parts = record d { packs = d.packs ++ p ∷ [] } in
    ap (λ r. r ▷ (λ y. run y (map pack_entry ps))) (pack_step d p s (omega arith) a.0)
    ∙ packs_run ps next s (omega (arith, length-append d.packs (p ∷ []))) a.1
    ∙ ap (λ (qs : List (List ℕ)). let e : Parts = record d { packs = qs } in Some e) (append_assoc d.packs (p ∷ []) ps)

-- ---- claims and bounds

claim_step : (d : Parts) (c : Claim) → d.stage ≡ stages.Body → d.open_node ≡ true → d.bounds ≡ [] → d.cells < 2 ^ 32 → claim_fits d.cells d.cell c ≡ true
    → step d words.Claim (pos c.cell ∷ c.low ∷ c.high ∷ []) ≡ Some (record d { claims = d.claims ++ c ∷ []; cell = c.cell })
claim_step d c s o none lt h =
    let a = and_parts (ltb d.cell c.cell && leb c.cell d.cells) (int_le c.low c.high && (ltb (unsigned_abs c.low) (10 ^ 18) && ltb (unsigned_abs c.high) (10 ^ 18))) h in
    let b = and_parts (ltb d.cell c.cell) (leb c.cell d.cells) a.0 in
    let f = and_parts (int_le c.low c.high) (ltb (unsigned_abs c.low) (10 ^ 18) && ltb (unsigned_abs c.high) (10 ^ 18)) a.1 in
    let g = and_parts (ltb (unsigned_abs c.low) (10 ^ 18)) (ltb (unsigned_abs c.high) (10 ^ 18)) f.1 in
    let le : c.cell ≤ d.cells = leb-true _ _ b.1 in
    let empty : eqb (length d.bounds) 0 ≡ true = ap (λ (bs : List Bound). eqb (length bs) 0) none in
    ap (λ r. r ▷ claim_read d) (claim_again c (omega arith) g.0 g.1)
    ∙ cond-true ((is_at d.stage stages.Body && d.open_node) && (eqb (length d.bounds) 0 && claim_fits d.cells d.cell c)) (Some (record d { claims = d.claims ++ c ∷ []; cell = c.cell })) None
    (and_from _ _ (and_from _ _ (at_body d s) o) (and_from _ _ empty h))

claims_run : (cs : List Claim) (d : Parts) → d.stage ≡ stages.Body → d.open_node ≡ true → d.bounds ≡ [] → d.cells < 2 ^ 32 → claims_fit d.cells d.cell cs ≡ true
    → run d (map claim_entry cs) ≡ Some (record d { claims = d.claims ++ cs; cell = last_cell d.cell cs })
claims_run [] d s o none lt h = ap (λ (xs : List Claim). let e : Parts = record d { claims = xs } in Some e) (sym (append-nil d.claims))
claims_run (c ∷ cs) d s o none lt h =
    let a = and_parts (claim_fits d.cells d.cell c) (claims_fit d.cells c.cell cs) h in
    let next : Parts = record d { claims = d.claims ++ c ∷ []; cell = c.cell } in
    ap (λ r. r ▷ (λ y. run y (map claim_entry cs))) (claim_step d c s o none lt a.0)
    ∙ claims_run cs next s o none lt a.1
    ∙ ap (λ (xs : List Claim). let e : Parts = record d { claims = xs; cell = last_cell c.cell cs } in Some e) (append_assoc d.claims (c ∷ []) cs)

short_pack : (cells : ℕ) (ps : List (List ℕ)) (i : ℕ) → packs_fit cells ps ≡ true → length (get_or ps i []) ≤ 8
short_pack cells [] i h = omega arith
short_pack cells (p ∷ ps) zero h =
    let a = and_parts (pack_fits cells p) (packs_fit cells ps) h in
    let b = and_parts (leb 2 (length p) && leb (length p) 8) (cells_rise cells 0 p) a.0 in
    let c = and_parts (leb 2 (length p)) (leb (length p) 8) b.0 in
    leb-true _ _ c.1
short_pack cells (p ∷ ps) (suc i) h = let a = and_parts (pack_fits cells p) (packs_fit cells ps) h in short_pack cells ps i a.1

bound_step : (d : Parts) (b : Bound) → d.stage ≡ stages.Body → d.open_node ≡ true → length d.packs ≤ 32 → packs_fit d.cells d.packs ≡ true → bound_fits d.packs d.key b ≡ true
    → step d words.Bound (pos b.pack ∷ pos b.row ∷ pos b.column ∷ b.most ∷ []) ≡ Some (record d { bounds = d.bounds ++ b ∷ []; key = key_of b })
bound_step d b s o few fit h =
    let size = length (get_or d.packs (b.pack - 1) []) in
    let f = and_parts (is_before d.key (key_of b) && (leb 1 b.pack && leb b.pack (length d.packs))) (places_fit size (key_of b) && leb (unsigned_abs b.most) (10 ^ 37)) h in
    let p = and_parts (is_before d.key (key_of b)) (leb 1 b.pack && leb b.pack (length d.packs)) f.0 in
    let q = and_parts (leb 1 b.pack) (leb b.pack (length d.packs)) p.1 in
    let m = and_parts (places_fit size (key_of b)) (leb (unsigned_abs b.most) (10 ^ 37)) f.1 in
    let r = and_parts (leb b.row size && leb b.column size) (not (eqb b.row b.column)) m.0 in
    let t = and_parts (leb b.row size) (leb b.column size) r.0 in
    let pack_le : b.pack ≤ length d.packs = leb-true _ _ q.1 in
    let row_le : b.row ≤ size = leb-true _ _ t.0 in
    let column_le : b.column ≤ size = leb-true _ _ t.1 in
    let small : size ≤ 8 = short_pack d.cells d.packs (b.pack - 1) fit in
    ap (λ r. r ▷ bound_read d) (bound_again b (omega arith) (omega arith) (omega arith))
    ∙ cond-true ((is_at d.stage stages.Body && d.open_node) && bound_fits d.packs d.key b) (Some (record d { bounds = d.bounds ++ b ∷ []; key = key_of b })) None (and_from _ _ (and_from _ _ (at_body d s) o) h)

bounds_run : (bs : List Bound) (d : Parts) → d.stage ≡ stages.Body → d.open_node ≡ true → length d.packs ≤ 32 → packs_fit d.cells d.packs ≡ true → bounds_fit d.packs d.key bs ≡ true
    → run d (map bound_entry bs) ≡ Some (record d { bounds = d.bounds ++ bs; key = last_key d.key bs })
bounds_run [] d s o few fit h = ap (λ (xs : List Bound). let e : Parts = record d { bounds = xs } in Some e) (sym (append-nil d.bounds))
bounds_run (b ∷ bs) d s o few fit h =
    let a = and_parts (bound_fits d.packs d.key b) (bounds_fit d.packs (key_of b) bs) h in
    let next : Parts = record d { bounds = d.bounds ++ b ∷ []; key = key_of b } in
    ap (λ r. r ▷ (λ y. run y (map bound_entry bs))) (bound_step d b s o few fit a.0)
    ∙ bounds_run bs next s o few fit a.1
    ∙ ap (λ (xs : List Bound). let e : Parts = record d { bounds = xs; key = last_key (key_of b) bs } in Some e) (append_assoc d.bounds (b ∷ []) bs)

-- ---- nodes

-- between two nodes, with all packs there
pub record Ready (c : Certificate) (d : Parts) (nodes : List Place) : Type 0 where
  pub stage : d.stage ≡ stages.Body
  pub cells : d.cells ≡ c.cells
  pub count : d.node_count ≡ length c.nodes
  pub kinds : d.pack_count ≡ length c.packs
  pub packs : d.packs ≡ c.packs
  pub nodes_are : closed d ≡ nodes

pub next_from : (d : Parts) (i : ℕ) → d.stage ≡ stages.Body → length d.packs ≡ d.pack_count → length (closed d) < d.node_count → i ≡ length (closed d) + 1 → is_next d i ≡ true
next_from d i s full room number = and_from _ _ (and_from _ _ (at_body d s) (eq-eqb _ _ full)) (and_from _ _ (lt-ltb _ _ room) (eq-eqb _ _ number))

next_again : (c : Certificate) (d : Parts) (nodes : List Place) → Ready c d nodes → length nodes < length c.nodes → is_next d (suc (length nodes)) ≡ true
next_again c d nodes r lt =
    let len : length (closed d) ≡ length nodes = ap length r.nodes_are in
    let full : length d.packs ≡ d.pack_count = ap length r.packs ∙ sym r.kinds in
    let count : d.node_count ≡ length c.nodes = r.count in
    next_from d (suc (length nodes)) r.stage full (omega arith) (omega arith)

pub never_step : (d : Parts) (i : ℕ) → i < 2 ^ 32 → is_next d i ≡ true → step d words.Never (pos i ∷ []) ≡ Some (record (node_closed d) { nodes = closed d ++ NotReached ∷ [] })
never_step d i lt h = one_again d words.Never i lt ∙ cond-true (is_next d i) (Some (record (node_closed d) { nodes = closed d ++ NotReached ∷ [] })) None h

node_step : (d : Parts) (i : ℕ) → i < 2 ^ 32 → is_next d i ≡ true → step d words.Node (pos i ∷ []) ≡ Some (record (node_closed d) { open_node = true; cell = 0; key = no_key })
node_step d i lt h = one_again d words.Node i lt ∙ cond-true (is_next d i) (Some (record (node_closed d) { open_node = true; cell = 0; key = no_key })) None h

-- what a run of lines leaves
pub record Ran (c : Certificate) (d : Parts) (ls : List Entry) (nodes : List Place) : Type 0 where
  pub after : Parts
  pub ran : run d ls ≡ Some after
  pub ready : Ready c after nodes

place_run : (c : Certificate) → IsAllowed c → (d : Parts) (nodes : List Place) (p : Place) → Ready c d nodes → length nodes < length c.nodes → place_fits c.cells c.packs p ≡ true → Ran c d (place_entries (suc (length nodes)) p) (nodes ++ p ∷ [])
place_run c w d nodes NotReached r lt h =
    let small : length c.nodes < 2 ^ 32 = w.nodes in
    let next : Parts = record (node_closed d) { nodes = closed d ++ NotReached ∷ [] } in
    record {
      after = next;
      ran = ap (λ x. x ▷ (λ y. run y [])) (never_step d (suc (length nodes)) (omega arith) (next_again c d nodes r lt));
      ready = record { stage = r.stage; cells = r.cells; count = r.count; kinds = r.kinds; packs = r.packs; nodes_are = ap (λ ns. ns ++ NotReached ∷ []) r.nodes_are };
    }
place_run c w d nodes (Holds claims bounds) r lt h =
    let small : length c.nodes < 2 ^ 32 = w.nodes in
    let a = and_parts (claims_fit c.cells 0 claims) (bounds_fit c.packs no_key bounds) h in
    let d1 : Parts = record (node_closed d) { open_node = true; cell = 0; key = no_key } in
    let d2 : Parts = record d1 { claims = claims; cell = last_cell 0 claims } in
    let d3 : Parts = record d2 { bounds = bounds; key = last_key no_key bounds } in
    let cl : d.cells < 2 ^ 32 = let e : d.cells ≡ c.cells = r.cells in let k : c.cells < 2 ^ 32 = w.cells in omega arith in
    let few : length d.packs ≤ 32 = let e : length d.packs ≡ length c.packs = ap length r.packs in let k : length c.packs ≤ 32 = w.packs in omega arith in
    let fit : packs_fit d.cells d.packs ≡ true = ap (λ (n : ℕ). packs_fit n d.packs) r.cells ∙ ap (packs_fit c.cells) r.packs ∙ w.each_pack in
    let claims_ok : claims_fit d.cells 0 claims ≡ true = ap (λ (n : ℕ). claims_fit n 0 claims) r.cells ∙ a.0 in
    let bounds_ok : bounds_fit d.packs no_key bounds ≡ true = ap (λ ps. bounds_fit ps no_key bounds) r.packs ∙ a.1 in
    let first : step d words.Node (pos (suc (length nodes)) ∷ []) ≡ Some d1 = node_step d (suc (length nodes)) (omega arith) (next_again c d nodes r lt) in
    let both : run d1 (map claim_entry claims ++ map bound_entry bounds) ≡ Some d3 =
    run_append d1 (map claim_entry claims) (map bound_entry bounds) d2 d3 (claims_run claims d1 r.stage refl refl cl claims_ok) (bounds_run bounds d2 r.stage refl few fit bounds_ok) in
    record {
      after = d3;
      ran = ap (λ x. x ▷ (λ y. run y (map claim_entry claims ++ map bound_entry bounds))) first ∙ both;
      ready = record { stage = r.stage; cells = r.cells; count = r.count; kinds = r.kinds; packs = r.packs; nodes_are = ap (λ ns. ns ++ Holds claims bounds ∷ []) r.nodes_are };
    }

nodes_run : (c : Certificate) → IsAllowed c → (ns : List Place) (d : Parts) (nodes : List Place) → Ready c d nodes → length nodes + length ns ≤ length c.nodes → places_all_fit c.cells c.packs ns ≡ true → Ran c d (nodes_entries (suc (length nodes)) ns) (nodes ++ ns)
nodes_run c w [] d nodes r le h = record { after = d; ran = refl; ready = subst (Ready c d) (sym (append-nil nodes)) r }
nodes_run c w (n ∷ ns) d nodes r le h =
    let a = and_parts (place_fits c.cells c.packs n) (places_all_fit c.cells c.packs ns) h in
    let one = place_run c w d nodes n r (omega arith) a.0 in
    let len : length (nodes ++ n ∷ []) ≡ suc (length nodes) = omega (arith, length-append nodes (n ∷ [])) in
    let others = nodes_run c w ns one.after (nodes ++ n ∷ []) one.ready (omega arith) a.1 in
    let ran : run one.after (nodes_entries (suc (suc (length nodes))) ns) ≡ Some others.after = ap (λ (k : ℕ). run one.after (nodes_entries (suc k) ns)) (sym len) ∙ others.ran in
    record {
      after = others.after;
      ran = run_append d (place_entries (suc (length nodes)) n) (nodes_entries (suc (suc (length nodes))) ns) one.after others.after one.ran ran;
      ready = subst (Ready c others.after) (append_assoc nodes (n ∷ []) ns) others.ready;
    }

-- ---- the whole

two_cells : (cells : ℕ) (p : List ℕ) → pack_fits cells p ≡ true → leb 2 cells ≡ true
two_cells cells [] h = let a = and_parts (leb 2 0 && leb 0 8) (cells_rise cells 0 []) h in let b = and_parts (leb 2 0) (leb 0 8) a.0 in let le : 2 ≤ 0 = leb-true _ _ b.0 in absurd (omega arith)
two_cells cells (x ∷ []) h = let a = and_parts (leb 2 1 && leb 1 8) (cells_rise cells 0 (x ∷ [])) h in let b = and_parts (leb 2 1) (leb 1 8) a.0 in let le : 2 ≤ 1 = leb-true _ _ b.0 in absurd (omega arith)
two_cells cells (x ∷ y ∷ ys) h =
    let a = and_parts (leb 2 (length (x ∷ y ∷ ys)) && leb (length (x ∷ y ∷ ys)) 8) (cells_rise cells 0 (x ∷ y ∷ ys)) h in
    let b = and_parts (ltb 0 x && leb x cells) (cells_rise cells x (y ∷ ys)) a.1 in
    let c = and_parts (ltb x y && leb y cells) (cells_rise cells y ys) b.1 in
    let d = and_parts (ltb 0 x) (leb x cells) b.0 in
    let e = and_parts (ltb x y) (leb y cells) c.0 in
    let p : 0 < x = ltb-true _ _ d.0 in
    let q : x < y = ltb-true _ _ e.0 in
    let r : y ≤ cells = leb-true _ _ e.1 in
    le-leb _ _ (omega arith)

room_for : (cells : ℕ) (ps : List (List ℕ)) → packs_fit cells ps ≡ true → (eqb (length ps) 0 || leb 2 cells) ≡ true
room_for cells [] h = refl
room_for cells (p ∷ ps) h = let a = and_parts (pack_fits cells p) (packs_fit cells ps) h in or_right _ _ (two_cells cells p a.0)

pub end_step : (d : Parts) → d.stage ≡ stages.Body → length d.packs ≡ d.pack_count → length (closed d) ≡ d.node_count → step d words.End [] ≡ Some (record (node_closed d) { stage = stages.Ended })
end_step d s full all =
    cond-true ((is_at d.stage stages.Body && eqb (length d.packs) d.pack_count) && (eqb (length (closed d)) d.node_count && eqb (length {A = ℤ} []) 0)) (Some (record (node_closed d) { stage = stages.Ended })) None
    (and_from _ _ (and_from _ _ (at_body d s) (eq-eqb _ _ full)) (and_from _ _ (eq-eqb _ _ all) refl))

-- what the lines of a certificate leave
pub record Whole (c : Certificate) : Type 0 where
  pub after : Parts
  pub ran : run nothing_read (entries c) ≡ Some after
  pub stage : after.stage ≡ stages.Ended
  pub same : certificate_of after ≡ c

pub whole_run : (c : Certificate) → IsAllowed c → Whole c
whole_run c w =
    let d0 : Parts = begun c.cells (length c.nodes) (length c.packs) in
    let d1 : Parts = record d0 { packs = c.packs } in
    let head = heading_run c.cells (length c.nodes) (length c.packs) w.cells w.nodes w.packs (room_for c.cells c.packs w.each_pack) in
    let packs : run d0 (map pack_entry c.packs) ≡ Some d1 = packs_run c.packs d0 refl (omega arith) w.each_pack in
    let ready : Ready c d1 [] = record { stage = refl; cells = refl; count = refl; kinds = refl; packs = refl; nodes_are = refl } in
    let nodes = nodes_run c w c.nodes d1 [] ready (omega arith) w.each_node in
    let d2 = nodes.after in
    let r = nodes.ready in
    let d3 : Parts = record (node_closed d2) { stage = stages.Ended } in
    let last : run d2 (entry words.End [] ∷ []) ≡ Some d3 = ap (λ x. x ▷ (λ y. run y [])) (end_step d2 r.stage (ap length r.packs ∙ sym r.kinds) (ap length r.nodes_are ∙ sym r.count)) in
    let body = run_append d1 (nodes_entries 1 c.nodes) (entry words.End [] ∷ []) d2 d3 nodes.ran last in
    let most = run_append d0 (map pack_entry c.packs) (nodes_entries 1 c.nodes ++ entry words.End [] ∷ []) d1 d3 packs body in
    record {
      after = d3;
      ran = run_append nothing_read (heading c.cells (length c.nodes) (length c.packs)) (map pack_entry c.packs ++ (nodes_entries 1 c.nodes ++ entry words.End [] ∷ [])) d0 d3 head most;
      stage = refl;
      same = ap (λ (n : ℕ). let y : Certificate = record { cells = n; packs = d2.packs; nodes = closed d2 } in y) r.cells ∙ ap (λ ps. let y : Certificate = record { cells = c.cells; packs = ps; nodes = closed d2 } in y) r.packs ∙ ap (λ ns. let y : Certificate = record { cells = c.cells; packs = c.packs; nodes = ns } in y) r.nodes_are;
    }
