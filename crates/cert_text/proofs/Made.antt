-- What the lines so far make.
use Rattle.std.proofs.Common.{◌≡◌, ℕ, zero, suc, ◌+◌, ◌^◌, ◌<◌, ◌≤◌, Bool, true, false, ◌&&◌, ◌||◌, cond, eqb, ltb, leb, List, [], ◌∷◌, ◌++◌, map, length, Some, ℤ, pos, refl, sym, ap, subst, ◌∙◌, append_assoc, arith}
use Rattle.std.proofs.lemmas.Bool.{and_parts, and_from, ltb-true, leb-true, eqb-true, false≢true}
use Rattle.std.proofs.lemmas.List.{append-nil, map_push, length-append, nil_from_length}
use Rattle.std.proofs.lemmas.Option.{same_Some}
use Rattle.cert_text.specs.declared.cert.Claim.{Claim}
use Rattle.cert_text.specs.declared.cert.Bound.{Bound}
use Rattle.cert_text.specs.declared.draft.Stage.{Stage}
use Rattle.cert_text.specs.declared.draft.Stage.TheVariants as stages
use Rattle.cert_text.specs.declared.word.Word.{Word}
use Rattle.cert_text.specs.declared.word.Word.TheVariants as words
use Rattle.cert_text.specs.View.{Place, NotReached, Holds}
use Rattle.cert_text.specs.Text.{Entry, entry, pack_entry, claim_entry, bound_entry, place_entries, nodes_entries, heading, entries}
use Rattle.cert_text.specs.Reading.{◌▷◌}
use Rattle.cert_text.specs.Allowed.{pack_fits, packs_fit, claim_fits, claims_fit, key_of, no_key, bound_fits, bounds_fit, places_all_fit, IsAllowed}
use Rattle.cert_text.specs.Draft.{Parts, nothing_read, ordinal, is_at, closed, node_closed, is_next, one_number, pack_among, claim_among, bound_among, title_read, cells_read, nodes_read, packs_read, pack_read, never_read, node_read, claim_read, bound_read, end_read, one_step, step, certificate_of}
use Rattle.cert_text.proofs.Numbers.{guard_some}
use Rattle.cert_text.proofs.Words.{bind_some}
use Rattle.cert_text.proofs.Printed.{nodes_entries-append}
use Rattle.cert_text.proofs.Taken.{one_takes, pack_takes, claim_takes, bound_takes, packs_fit_push, places_fit_push, last_cell, last_cell_push, claims_fit_push, last_key, last_key_push, bounds_fit_push}

stage_of : ℕ → Stage
stage_of zero = stages.Title
stage_of (suc zero) = stages.Cells
stage_of (suc (suc zero)) = stages.Nodes
stage_of (suc (suc (suc zero))) = stages.Packs
stage_of (suc (suc (suc (suc zero)))) = stages.Body
stage_of (suc (suc (suc (suc (suc n))))) = stages.Ended

stage_back : (s : Stage) → stage_of (ordinal s) ≡ s
unfolding stage_of
stage_back stages.Title = refl
stage_back stages.Cells = refl
stage_back stages.Nodes = refl
stage_back stages.Packs = refl
stage_back stages.Body = refl
stage_back stages.Ended = refl

pub stage_is : (s t : Stage) → is_at s t ≡ true → s ≡ t
stage_is s t h = sym (stage_back s) ∙ ap stage_of (eqb-true _ _ h) ∙ stage_back t

-- ---- lines

abbrev pub one_entry : Word → ℕ → Entry
one_entry w n = entry w (pos n ∷ [])

abbrev pub open_entries : Bool → List Place → List Claim → List Bound → List Entry
open_entries o nodes claims bounds = cond o (place_entries (suc (length nodes)) (Holds claims bounds)) []

abbrev pub body_of : List Entry → List (List ℕ) → List Entry → List Entry
body_of head packs nodes = head ++ (map pack_entry packs ++ nodes)

abbrev pub body_entries : Parts → List Entry
body_entries d = body_of (heading d.cells d.node_count d.pack_count) d.packs (nodes_entries 1 d.nodes ++ open_entries d.open_node d.nodes d.claims d.bounds)

closed_entries_of : (o : Bool) (nodes : List Place) (claims : List Claim) (bounds : List Bound) → nodes_entries 1 (cond o (nodes ++ Holds claims bounds ∷ []) nodes) ≡ nodes_entries 1 nodes ++ open_entries o nodes claims bounds
closed_entries_of false nodes claims bounds = sym (append-nil (nodes_entries 1 nodes))
closed_entries_of true nodes claims bounds =
    let k : 1 + length nodes ≡ suc (length nodes) = omega arith in
    nodes_entries-append 1 nodes (Holds claims bounds ∷ []) ∙ ap (λ (n : ℕ). nodes_entries 1 nodes ++ (place_entries n (Holds claims bounds) ++ [])) k ∙ ap (λ (ls : List Entry). nodes_entries 1 nodes ++ ls) (append-nil (place_entries (suc (length nodes)) (Holds claims bounds)))

closed_entries : (d : Parts) → nodes_entries 1 (closed d) ≡ nodes_entries 1 d.nodes ++ open_entries d.open_node d.nodes d.claims d.bounds
closed_entries d = closed_entries_of d.open_node d.nodes d.claims d.bounds

closed_fit_of : (cells : ℕ) (packs : List (List ℕ)) (o : Bool) (nodes : List Place) (claims : List Claim) (bounds : List Bound) → places_all_fit cells packs nodes ≡ true → claims_fit cells 0 claims ≡ true → bounds_fit packs no_key bounds ≡ true
    → places_all_fit cells packs (cond o (nodes ++ Holds claims bounds ∷ []) nodes) ≡ true
closed_fit_of cells packs false nodes claims bounds n c b = n
closed_fit_of cells packs true nodes claims bounds n c b = places_fit_push cells packs nodes (Holds claims bounds) n (and_from _ _ c b)

-- ---- what holds between the lines of the body

pub record IsBody (d : Parts) : Type 0 where
  pub cells : d.cells < 2 ^ 32
  pub count : d.node_count < 2 ^ 32
  pub kinds : d.pack_count ≤ 32
  pub room : (eqb d.pack_count 0 || leb 2 d.cells) ≡ true
  pub packs_in : length d.packs ≤ d.pack_count
  pub packs : packs_fit d.cells d.packs ≡ true
  pub nodes_in : length (closed d) ≤ d.node_count
  pub nodes : places_all_fit d.cells d.packs d.nodes ≡ true
  pub claims : claims_fit d.cells 0 d.claims ≡ true
  pub bounds : bounds_fit d.packs no_key d.bounds ≡ true
  pub cell : d.open_node ≡ true → d.cell ≡ last_cell 0 d.claims
  pub key : d.open_node ≡ true → d.key ≡ last_key no_key d.bounds
  pub waiting : length d.packs < d.pack_count → (d.nodes ≡ []) × (d.open_node ≡ false) × (d.bounds ≡ [])

pub closed_fit : (d : Parts) → IsBody d → places_all_fit d.cells d.packs (closed d) ≡ true
closed_fit d b = closed_fit_of d.cells d.packs d.open_node d.nodes d.claims d.bounds b.nodes b.claims b.bounds

-- The parts that these lines make, at each stage.
abbrev pub MadeAt : Stage → Parts → List Entry → Type 0
MadeAt stages.Title d ls = (d ≡ nothing_read) × (ls ≡ [])
MadeAt stages.Cells d ls = (d ≡ record nothing_read { stage = stages.Cells }) × (ls ≡ one_entry words.Title 1 ∷ [])
MadeAt stages.Nodes d ls = (c : ℕ) × (c < 2 ^ 32) × (d ≡ record nothing_read { stage = stages.Nodes; cells = c }) × (ls ≡ one_entry words.Title 1 ∷ one_entry words.Cells c ∷ [])
MadeAt stages.Packs d ls = (c : ℕ) × (n : ℕ) × (c < 2 ^ 32) × (n < 2 ^ 32) × (d ≡ record nothing_read { stage = stages.Packs; cells = c; node_count = n }) × (ls ≡ one_entry words.Title 1 ∷ one_entry words.Cells c ∷ one_entry words.Nodes n ∷ [])
MadeAt stages.Body d ls = IsBody d × (ls ≡ body_entries d)
MadeAt stages.Ended d ls = IsAllowed (certificate_of d) × (ls ≡ entries (certificate_of d))

abbrev pub Made : Parts → List Entry → Type 0
Made d ls = MadeAt d.stage d ls

-- the parts are made, and with this line more the new parts are
abbrev pub Keeps : Parts → Word → List ℤ → Parts → Type 0
Keeps d w zs e = (ls : List Entry) → Made d ls → Made e (ls ++ entry w zs ∷ [])

at_stage : (d : Parts) (s : Stage) (ls : List Entry) → is_at d.stage s ≡ true → Made d ls → MadeAt s d ls
at_stage d s ls h m = subst (λ (t : Stage). MadeAt t d ls) (stage_is d.stage s h) m

title_made : (d e : Parts) (n : ℕ) → title_read d n ≡ Some e → Keeps d words.Title (pos n ∷ []) e
title_made d e n h ls m =
    let g = guard_some (is_at d.stage stages.Title && eqb n 1) (Some (record d { stage = stages.Cells })) e h in
    let a = and_parts _ _ g.0 in
    let k = at_stage d stages.Title ls a.0 m in
    subst (λ (y : Parts). Made y (ls ++ one_entry words.Title n ∷ [])) (same_Some _ e g.1)
    (ap (λ (y : Parts). let z : Parts = record y { stage = stages.Cells } in z) k.0, ap (λ (xs : List Entry). xs ++ one_entry words.Title n ∷ []) k.1 ∙ ap (λ (i : ℕ). one_entry words.Title i ∷ []) (eqb-true n 1 a.1))

cells_made : (d e : Parts) (n : ℕ) → n < 2 ^ 32 → cells_read d n ≡ Some e → Keeps d words.Cells (pos n ∷ []) e
cells_made d e n lt h ls m =
    let g = guard_some (is_at d.stage stages.Cells) (Some (record d { stage = stages.Nodes; cells = n })) e h in
    let k = at_stage d stages.Cells ls g.0 m in
    subst (λ (y : Parts). Made y (ls ++ one_entry words.Cells n ∷ [])) (same_Some _ e g.1)
    (n, lt, ap (λ (y : Parts). let z : Parts = record y { stage = stages.Nodes; cells = n } in z) k.0, ap (λ (xs : List Entry). xs ++ one_entry words.Cells n ∷ []) k.1)

nodes_made : (d e : Parts) (n : ℕ) → n < 2 ^ 32 → nodes_read d n ≡ Some e → Keeps d words.Nodes (pos n ∷ []) e
nodes_made d e n lt h ls m =
    let g = guard_some (is_at d.stage stages.Nodes) (Some (record d { stage = stages.Packs; node_count = n })) e h in
    let k = at_stage d stages.Nodes ls g.0 m in
    subst (λ (y : Parts). Made y (ls ++ one_entry words.Nodes n ∷ [])) (same_Some _ e g.1)
    (k.0, n, k.1, lt, ap (λ (y : Parts). let z : Parts = record y { stage = stages.Packs; node_count = n } in z) k.2, ap (λ (xs : List Entry). xs ++ one_entry words.Nodes n ∷ []) k.3)

abbrev pub begun : ℕ → ℕ → ℕ → Parts
begun c n k = record nothing_read { stage = stages.Body; cells = c; node_count = n; pack_count = k }

pub begun_body : (c n k : ℕ) → c < 2 ^ 32 → n < 2 ^ 32 → k ≤ 32 → (eqb k 0 || leb 2 c) ≡ true → IsBody (begun c n k)
begun_body c n k cells count kinds room = record {
  cells = cells;
  count = count;
  kinds = kinds;
  room = room;
  packs_in = omega arith;
  packs = refl;
  nodes_in = omega arith;
  nodes = refl;
  claims = refl;
  bounds = refl;
  cell = λ h. absurd (false≢true h);
  key = λ h. absurd (false≢true h);
  waiting = λ h. (refl, refl, refl);
}

packs_made : (d e : Parts) (n : ℕ) → packs_read d n ≡ Some e → Keeps d words.Packs (pos n ∷ []) e
packs_made d e n h ls m =
    let g = guard_some (is_at d.stage stages.Packs && (leb n 32 && (eqb n 0 || leb 2 d.cells))) (Some (record d { stage = stages.Body; pack_count = n })) e h in
    let a = and_parts _ _ g.0 in
    let b = and_parts _ _ a.1 in
    let k = at_stage d stages.Packs ls a.0 m in
    let was : record d { stage = stages.Body; pack_count = n } ≡ begun k.0 k.1 n = ap (λ (y : Parts). let z : Parts = record y { stage = stages.Body; pack_count = n } in z) k.4 in
    let room : (eqb n 0 || leb 2 k.0) ≡ true = ap (λ (y : Parts). eqb n 0 || leb 2 y.cells) (sym k.4) ∙ b.1 in
    let made : Made (begun k.0 k.1 n) (ls ++ one_entry words.Packs n ∷ []) = (begun_body k.0 k.1 n k.2 k.3 (leb-true n 32 b.0) room, ap (λ (xs : List Entry). xs ++ one_entry words.Packs n ∷ []) k.5) in
    subst (λ (y : Parts). Made y (ls ++ one_entry words.Packs n ∷ [])) (sym was ∙ same_Some _ e g.1) made

-- ---- the body

-- the same, one more line at the end of the nodes
nodes_push : (head : List Entry) (packs : List (List ℕ)) (old new more : List Entry) → new ≡ old ++ more → body_of head packs new ≡ body_of head packs old ++ more
nodes_push head packs old new more e =
    ap (λ (ns : List Entry). head ++ (map pack_entry packs ++ ns)) e ∙ ap (λ (ns : List Entry). head ++ ns) (sym (append_assoc (map pack_entry packs) old more)) ∙ sym (append_assoc head (map pack_entry packs ++ old) more)

packs_push : (head : List Entry) (packs : List (List ℕ)) (p : List ℕ) → body_of head (packs ++ p ∷ []) [] ≡ body_of head packs [] ++ pack_entry p ∷ []
packs_push head packs p = rw (append-nil (map pack_entry (packs ++ p ∷ [])), append-nil (map pack_entry packs), map_push pack_entry packs p) (sym (append_assoc head (map pack_entry packs) (pack_entry p ∷ [])))

no_nodes : (head : List Entry) (packs : List (List ℕ)) (o : Bool) (nodes : List Place) (claims : List Claim) (bounds : List Bound) → nodes ≡ [] → o ≡ false → body_of head packs (nodes_entries 1 nodes ++ open_entries o nodes claims bounds) ≡ body_of head packs []
no_nodes head packs o nodes claims bounds e f = rw (e, f) refl

pack_body : (d : Parts) (p : List ℕ) → IsBody d → length d.packs < d.pack_count → pack_fits d.cells p ≡ true → IsBody (record d { packs = d.packs ++ p ∷ [] })
pack_body d p b room fits =
    let w = b.waiting room in
    record {
      cells = b.cells;
      count = b.count;
      kinds = b.kinds;
      room = b.room;
      packs_in = omega (arith, length-append d.packs (p ∷ []));
      packs = packs_fit_push d.cells d.packs p b.packs fits;
      nodes_in = b.nodes_in;
      nodes = ap (places_all_fit d.cells (d.packs ++ p ∷ [])) w.0;
      claims = b.claims;
      bounds = ap (bounds_fit (d.packs ++ p ∷ []) no_key) w.2;
      cell = b.cell;
      key = b.key;
      waiting = λ h. w;
    }

pack_made : (d e : Parts) (zs : List ℤ) → pack_read d zs ≡ Some e → Keeps d words.Pack zs e
pack_made d e zs h ls m =
    let g = guard_some (is_at d.stage stages.Body && ltb (length d.packs) d.pack_count) (pack_among d.cells zs ▷ (λ p. Some (record d { packs = d.packs ++ p ∷ [] }))) e h in
    let a = and_parts _ _ g.0 in
    let k = at_stage d stages.Body ls a.0 m in
    let room : length d.packs < d.pack_count = ltb-true _ _ a.1 in
    let r = bind_some (pack_among d.cells zs) (λ p. Some (record d { packs = d.packs ++ p ∷ [] })) e g.1 in
    let t = pack_takes d.cells zs r.0 r.1 in
    let w = k.0.waiting room in
    let head = heading d.cells d.node_count d.pack_count in
    let new : Parts = record d { packs = d.packs ++ r.0 ∷ [] } in
    let text : ls ++ entry words.Pack zs ∷ [] ≡ body_entries new =
    ap (λ (xs : List Entry). xs ++ entry words.Pack zs ∷ []) (k.1 ∙ no_nodes head d.packs d.open_node d.nodes d.claims d.bounds w.0 w.1)
    ∙ ap (λ (ys : List ℤ). body_of head d.packs [] ++ entry words.Pack ys ∷ []) t.0
    ∙ sym (packs_push head d.packs r.0)
    ∙ sym (no_nodes head (d.packs ++ r.0 ∷ []) d.open_node d.nodes d.claims d.bounds w.0 w.1) in
    let made : MadeAt stages.Body new (ls ++ entry words.Pack zs ∷ []) = (pack_body d r.0 k.0 room t.1, text) in
    subst (λ (y : Parts). Made y (ls ++ entry words.Pack zs ∷ [])) (same_Some new e r.2) (subst (λ (s : Stage). MadeAt s new (ls ++ entry words.Pack zs ∷ [])) (sym (stage_is d.stage stages.Body a.0)) made)

-- what is_next says
pub record Next (d : Parts) (i : ℕ) : Type 0 where
  pub stage : is_at d.stage stages.Body ≡ true
  pub full : length d.packs ≡ d.pack_count
  pub room : length (closed d) < d.node_count
  pub number : i ≡ length (closed d) + 1

pub next_is : (d : Parts) (i : ℕ) → is_next d i ≡ true → Next d i
next_is d i h =
    let a = and_parts (is_at d.stage stages.Body && eqb (length d.packs) d.pack_count) (ltb (length (closed d)) d.node_count && eqb i (length (closed d) + 1)) h in
    let b = and_parts _ _ a.0 in
    let c = and_parts _ _ a.1 in
    record { stage = b.0; full = eqb-true _ _ b.1; room = ltb-true _ _ c.0; number = eqb-true _ _ c.1 }

never_made : (d e : Parts) (i : ℕ) → never_read d i ≡ Some e → Keeps d words.Never (pos i ∷ []) e
never_made d e i h ls m =
    let new : Parts = record (node_closed d) { nodes = closed d ++ NotReached ∷ [] } in
    let g = guard_some (is_next d i) (Some new) e h in
    let n = next_is d i g.0 in
    let k = at_stage d stages.Body ls n.stage m in
    let b = k.0 in
    let body : IsBody new = record {
      cells = b.cells;
      count = b.count;
      kinds = b.kinds;
      room = b.room;
      packs_in = b.packs_in;
      packs = b.packs;
      nodes_in = let r = n.room in omega (arith, length-append (closed d) (NotReached ∷ []), r);
      nodes = places_fit_push d.cells d.packs (closed d) NotReached (closed_fit d b) refl;
      claims = refl;
      bounds = refl;
      cell = λ x. absurd (false≢true x);
      key = λ x. absurd (false≢true x);
      waiting = λ x. let f = n.full in absurd (omega arith);
    } in
    let old_entries = nodes_entries 1 d.nodes ++ open_entries d.open_node d.nodes d.claims d.bounds in
    let k1 : 1 + length (closed d) ≡ i = let f = n.number in omega arith in
    let more : nodes_entries 1 (closed d ++ NotReached ∷ []) ++ [] ≡ old_entries ++ one_entry words.Never i ∷ [] =
    append-nil (nodes_entries 1 (closed d ++ NotReached ∷ [])) ∙ nodes_entries-append 1 (closed d) (NotReached ∷ []) ∙ ap (λ (j : ℕ). nodes_entries 1 (closed d) ++ one_entry words.Never j ∷ []) k1 ∙ ap (λ (xs : List Entry). xs ++ one_entry words.Never i ∷ []) (closed_entries d) in
    let text : ls ++ one_entry words.Never i ∷ [] ≡ body_entries new =
    ap (λ (xs : List Entry). xs ++ one_entry words.Never i ∷ []) k.1 ∙ sym (nodes_push (heading d.cells d.node_count d.pack_count) d.packs old_entries _ (one_entry words.Never i ∷ []) more) in
    let made : MadeAt stages.Body new (ls ++ one_entry words.Never i ∷ []) = (body, text) in
    subst (λ (y : Parts). Made y (ls ++ one_entry words.Never i ∷ [])) (same_Some new e g.1) (subst (λ (s : Stage). MadeAt s new (ls ++ one_entry words.Never i ∷ [])) (sym (stage_is d.stage stages.Body n.stage)) made)

node_made : (d e : Parts) (i : ℕ) → node_read d i ≡ Some e → Keeps d words.Node (pos i ∷ []) e
node_made d e i h ls m =
    let new : Parts = record (node_closed d) { open_node = true; cell = 0; key = no_key } in
    let g = guard_some (is_next d i) (Some new) e h in
    let n = next_is d i g.0 in
    let k = at_stage d stages.Body ls n.stage m in
    let b = k.0 in
    let body : IsBody new = record {
      cells = b.cells;
      count = b.count;
      kinds = b.kinds;
      room = b.room;
      packs_in = b.packs_in;
      packs = b.packs;
      nodes_in = let r = n.room in omega (arith, length-append (closed d) (Holds [] [] ∷ []), r);
      nodes = closed_fit d b;
      claims = refl;
      bounds = refl;
      cell = λ x. refl;
      key = λ x. refl;
      waiting = λ x. let f = n.full in absurd (omega arith);
    } in
    let old_entries = nodes_entries 1 d.nodes ++ open_entries d.open_node d.nodes d.claims d.bounds in
    let k1 : suc (length (closed d)) ≡ i = let f = n.number in omega arith in
    let more : nodes_entries 1 (closed d) ++ one_entry words.Node (suc (length (closed d))) ∷ [] ≡ old_entries ++ one_entry words.Node i ∷ [] =
    ap (λ (j : ℕ). nodes_entries 1 (closed d) ++ one_entry words.Node j ∷ []) k1 ∙ ap (λ (xs : List Entry). xs ++ one_entry words.Node i ∷ []) (closed_entries d) in
    let text : ls ++ one_entry words.Node i ∷ [] ≡ body_entries new =
    ap (λ (xs : List Entry). xs ++ one_entry words.Node i ∷ []) k.1 ∙ sym (nodes_push (heading d.cells d.node_count d.pack_count) d.packs old_entries _ (one_entry words.Node i ∷ []) more) in
    let made : MadeAt stages.Body new (ls ++ one_entry words.Node i ∷ []) = (body, text) in
    subst (λ (y : Parts). Made y (ls ++ one_entry words.Node i ∷ [])) (same_Some new e g.1) (subst (λ (s : Stage). MadeAt s new (ls ++ one_entry words.Node i ∷ [])) (sym (stage_is d.stage stages.Body n.stage)) made)

closed_length : (o : Bool) (nodes : List Place) (p q : Place) → length (cond o (nodes ++ p ∷ []) nodes) ≡ length (cond o (nodes ++ q ∷ []) nodes)
closed_length false nodes p q = refl
closed_length true nodes p q = length-append nodes (p ∷ []) ∙ sym (length-append nodes (q ∷ []))

open_claim : (xs : List Entry) (o : Bool) (nodes : List Place) (claims : List Claim) (bounds : List Bound) (c : Claim) → o ≡ true → bounds ≡ []
    → xs ++ open_entries o nodes (claims ++ c ∷ []) bounds ≡ (xs ++ open_entries o nodes claims bounds) ++ claim_entry c ∷ []
open_claim xs o nodes claims bounds c e f =
    let head = one_entry words.Node (suc (length nodes)) in
    rw (e, f, append-nil (map claim_entry (claims ++ c ∷ [])), append-nil (map claim_entry claims), map_push claim_entry claims c) (sym (append_assoc xs (head ∷ map claim_entry claims) (claim_entry c ∷ [])))

open_bound : (xs : List Entry) (o : Bool) (nodes : List Place) (claims : List Claim) (bounds : List Bound) (b : Bound) → o ≡ true
    → xs ++ open_entries o nodes claims (bounds ++ b ∷ []) ≡ (xs ++ open_entries o nodes claims bounds) ++ bound_entry b ∷ []
open_bound xs o nodes claims bounds b e =
    let head = one_entry words.Node (suc (length nodes)) in
    rw (e, map_push bound_entry bounds b) (ap (λ (ys : List Entry). xs ++ (head ∷ ys)) (sym (append_assoc (map claim_entry claims) (map bound_entry bounds) (bound_entry b ∷ []))) ∙ sym (append_assoc xs (head ∷ (map claim_entry claims ++ map bound_entry bounds)) (bound_entry b ∷ [])))

claim_made : (d e : Parts) (c : Claim) → claim_read d c ≡ Some e → Keeps d words.Claim (pos c.cell ∷ c.low ∷ c.high ∷ []) e
claim_made d e c h ls m =
    let new : Parts = record d { claims = d.claims ++ c ∷ []; cell = c.cell } in
    let g = guard_some ((is_at d.stage stages.Body && d.open_node) && (eqb (length d.bounds) 0 && claim_fits d.cells d.cell c)) (Some new) e h in
    let a = and_parts _ _ g.0 in
    let s = and_parts _ _ a.0 in
    let f = and_parts _ _ a.1 in
    let k = at_stage d stages.Body ls s.0 m in
    let b = k.0 in
    let none : d.bounds ≡ [] = nil_from_length d.bounds (eqb-true _ _ f.0) in
    let fits : claim_fits d.cells (last_cell 0 d.claims) c ≡ true = subst (λ (n : ℕ). claim_fits d.cells n c ≡ true) (b.cell s.1) f.1 in
    let body : IsBody new = record {
      cells = b.cells;
      count = b.count;
      kinds = b.kinds;
      room = b.room;
      packs_in = b.packs_in;
      packs = b.packs;
      nodes_in = let r = b.nodes_in in omega (arith, r, closed_length d.open_node d.nodes (Holds (d.claims ++ c ∷ []) d.bounds) (Holds d.claims d.bounds));
      nodes = b.nodes;
      claims = claims_fit_push d.cells 0 d.claims c b.claims fits;
      bounds = b.bounds;
      cell = λ x. sym (last_cell_push 0 d.claims c);
      key = b.key;
      waiting = b.waiting;
    } in
    let old_entries = nodes_entries 1 d.nodes ++ open_entries d.open_node d.nodes d.claims d.bounds in
    let text : ls ++ claim_entry c ∷ [] ≡ body_entries new =
    ap (λ (xs : List Entry). xs ++ claim_entry c ∷ []) k.1 ∙ sym (nodes_push (heading d.cells d.node_count d.pack_count) d.packs old_entries _ (claim_entry c ∷ []) (open_claim (nodes_entries 1 d.nodes) d.open_node d.nodes d.claims d.bounds c s.1 none)) in
    let made : MadeAt stages.Body new (ls ++ claim_entry c ∷ []) = (body, text) in
    subst (λ (y : Parts). Made y (ls ++ claim_entry c ∷ [])) (same_Some new e g.1) (subst (λ (t : Stage). MadeAt t new (ls ++ claim_entry c ∷ [])) (sym (stage_is d.stage stages.Body s.0)) made)

bound_made : (d e : Parts) (c : Bound) → bound_read d c ≡ Some e → Keeps d words.Bound (pos c.pack ∷ pos c.row ∷ pos c.column ∷ c.most ∷ []) e
bound_made d e c h ls m =
    let new : Parts = record d { bounds = d.bounds ++ c ∷ []; key = key_of c } in
    let g = guard_some ((is_at d.stage stages.Body && d.open_node) && bound_fits d.packs d.key c) (Some new) e h in
    let a = and_parts _ _ g.0 in
    let s = and_parts _ _ a.0 in
    let k = at_stage d stages.Body ls s.0 m in
    let b = k.0 in
    let fits : bound_fits d.packs (last_key no_key d.bounds) c ≡ true = subst (λ n. bound_fits d.packs n c ≡ true) (b.key s.1) a.1 in
    let body : IsBody new = record {
      cells = b.cells;
      count = b.count;
      kinds = b.kinds;
      room = b.room;
      packs_in = b.packs_in;
      packs = b.packs;
      nodes_in = let r = b.nodes_in in omega (arith, r, closed_length d.open_node d.nodes (Holds d.claims (d.bounds ++ c ∷ [])) (Holds d.claims d.bounds));
      nodes = b.nodes;
      claims = b.claims;
      bounds = bounds_fit_push d.packs no_key d.bounds c b.bounds fits;
      cell = b.cell;
      key = λ x. sym (last_key_push no_key d.bounds c);
      waiting = λ x. absurd (false≢true (sym (b.waiting x).1 ∙ s.1));
    } in
    let old_entries = nodes_entries 1 d.nodes ++ open_entries d.open_node d.nodes d.claims d.bounds in
    let text : ls ++ bound_entry c ∷ [] ≡ body_entries new =
    ap (λ (xs : List Entry). xs ++ bound_entry c ∷ []) k.1 ∙ sym (nodes_push (heading d.cells d.node_count d.pack_count) d.packs old_entries _ (bound_entry c ∷ []) (open_bound (nodes_entries 1 d.nodes) d.open_node d.nodes d.claims d.bounds c s.1)) in
    let made : MadeAt stages.Body new (ls ++ bound_entry c ∷ []) = (body, text) in
    subst (λ (y : Parts). Made y (ls ++ bound_entry c ∷ [])) (same_Some new e g.1) (subst (λ (t : Stage). MadeAt t new (ls ++ bound_entry c ∷ [])) (sym (stage_is d.stage stages.Body s.0)) made)

-- the whole text, from the body
ended_entries : (cells n k : ℕ) (packs : List (List ℕ)) (nodes : List Place) (old : List Entry) → length packs ≡ k → length nodes ≡ n → nodes_entries 1 nodes ≡ old
    → body_of (heading cells n k) packs old ++ entry words.End [] ∷ [] ≡ heading cells (length nodes) (length packs) ++ (map pack_entry packs ++ (nodes_entries 1 nodes ++ entry words.End [] ∷ []))
ended_entries cells n k packs nodes old e f g =
    rw (← e, ← f, ← g) (append_assoc (heading cells (length nodes) (length packs)) (map pack_entry packs ++ nodes_entries 1 nodes) (entry words.End [] ∷ []) ∙ ap (λ (xs : List Entry). heading cells (length nodes) (length packs) ++ xs) (append_assoc (map pack_entry packs) (nodes_entries 1 nodes) (entry words.End [] ∷ [])))

end_made : (d e : Parts) (zs : List ℤ) → end_read d zs ≡ Some e → Keeps d words.End zs e
end_made d e zs h ls m =
    let new : Parts = record (node_closed d) { stage = stages.Ended } in
    let g = guard_some ((is_at d.stage stages.Body && eqb (length d.packs) d.pack_count) && (eqb (length (closed d)) d.node_count && eqb (length zs) 0)) (Some new) e h in
    let a = and_parts _ _ g.0 in
    let s = and_parts _ _ a.0 in
    let f = and_parts _ _ a.1 in
    let k = at_stage d stages.Body ls s.0 m in
    let b = k.0 in
    let none : zs ≡ [] = nil_from_length zs (eqb-true _ _ f.1) in
    let all_packs : length d.packs ≡ d.pack_count = eqb-true _ _ s.1 in
    let all_nodes : length (closed d) ≡ d.node_count = eqb-true _ _ f.0 in
    let allowed : IsAllowed (certificate_of new) = record {
      cells = b.cells;
      nodes = let c = b.count in omega arith;
      packs = let c = b.kinds in omega arith;
      each_pack = b.packs;
      each_node = closed_fit d b;
    } in
    let text : ls ++ entry words.End zs ∷ [] ≡ entries (certificate_of new) =
    ap (λ (ys : List ℤ). ls ++ entry words.End ys ∷ []) none ∙ ap (λ (xs : List Entry). xs ++ entry words.End [] ∷ []) k.1
    ∙ ended_entries d.cells d.node_count d.pack_count d.packs (closed d) (nodes_entries 1 d.nodes ++ open_entries d.open_node d.nodes d.claims d.bounds) all_packs all_nodes (closed_entries d) in
    let made : MadeAt stages.Ended new (ls ++ entry words.End zs ∷ []) = (allowed, text) in
    subst (λ (y : Parts). Made y (ls ++ entry words.End zs ∷ [])) (same_Some new e g.1) made

-- ---- every line

by_one : (d e : Parts) (w : Word) (zs : List ℤ) → (one_number zs ▷ one_step d w) ≡ Some e → ((n : ℕ) → n < 2 ^ 32 → one_step d w n ≡ Some e → Keeps d w (pos n ∷ []) e) → Keeps d w zs e
by_one d e w zs h each ls m =
    let b = bind_some (one_number zs) (one_step d w) e h in
    let t = one_takes zs b.0 b.1 in
    subst (λ (ys : List ℤ). Made e (ls ++ entry w ys ∷ [])) (sym t.0) (each b.0 t.1 b.2 ls m)

pub step_made : (d e : Parts) (w : Word) (zs : List ℤ) → step d w zs ≡ Some e → Keeps d w zs e
step_made d e words.Title zs h = by_one d e words.Title zs h (λ n lt k. title_made d e n k)
step_made d e words.Cells zs h = by_one d e words.Cells zs h (λ n lt k. cells_made d e n lt k)
step_made d e words.Nodes zs h = by_one d e words.Nodes zs h (λ n lt k. nodes_made d e n lt k)
step_made d e words.Packs zs h = by_one d e words.Packs zs h (λ n lt k. packs_made d e n k)
step_made d e words.Never zs h = by_one d e words.Never zs h (λ n lt k. never_made d e n k)
step_made d e words.Node zs h = by_one d e words.Node zs h (λ n lt k. node_made d e n k)
step_made d e words.Pack zs h = pack_made d e zs h
step_made d e words.End zs h = end_made d e zs h
step_made d e words.Claim zs h = λ ls m.
    let b = bind_some (claim_among zs) (claim_read d) e h in
    let t = claim_takes zs b.0 b.1 in
    subst (λ (ys : List ℤ). Made e (ls ++ entry words.Claim ys ∷ [])) (sym t.numbers) (claim_made d e b.0 b.2 ls m)
step_made d e words.Bound zs h = λ ls m.
    let b = bind_some (bound_among zs) (bound_read d) e h in
    let t = bound_takes zs b.0 b.1 in
    subst (λ (ys : List ℤ). Made e (ls ++ entry words.Bound ys ∷ [])) (sym t.numbers) (bound_made d e b.0 b.2 ls m)

made_cells_at : (s : Stage) (d : Parts) (ls : List Entry) → MadeAt s d ls → d.cells < 2 ^ 32
made_cells_at stages.Title d ls m = let e : d.cells ≡ 0 = ap (λ (y : Parts). y.cells) m.0 in omega arith
made_cells_at stages.Cells d ls m = let e : d.cells ≡ 0 = ap (λ (y : Parts). y.cells) m.0 in omega arith
made_cells_at stages.Nodes d ls m = let e : d.cells ≡ m.0 = ap (λ (y : Parts). y.cells) m.2 in let lt = m.1 in omega (arith, lt)
made_cells_at stages.Packs d ls m = let e : d.cells ≡ m.0 = ap (λ (y : Parts). y.cells) m.4 in let lt = m.2 in omega (arith, lt)
made_cells_at stages.Body d ls m = m.0.cells
made_cells_at stages.Ended d ls m = m.0.cells

pub made_cells : (d : Parts) (ls : List Entry) → Made d ls → d.cells < 2 ^ 32
made_cells d ls m = made_cells_at d.stage d ls m
