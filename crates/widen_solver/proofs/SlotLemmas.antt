-- Slots of ids before and after one of them, or its block, changes.
use Rattle.std.proofs.Common.{◌≡◌, ◌≢◌, ℕ, zero, suc, ◌+◌, ◌<◌, ◌≤◌, List, [], ◌∷◌, ℤ, length, drop, get_or, slice_set, replicate, inl, inr, refl, ap, sym, ◌∙◌, subst, arith, length-set, get_or-set_same, get_or-set_other}
use Rattle.std.specs.Prelude.{Option, Some, None, IsSome}
use Rattle.std.specs.List.{refill}
use Rattle.std.proofs.lemmas.Bool.{cases_eq, cases_lt}
use Rattle.std.proofs.lemmas.List.{same_lists, length-map, get_or-map, get_or_past, take_at}
use Rattle.block_store.specs.Held.{Held, block_at, Takes, Gives}
use Rattle.block_store.specs.BlocksLends.{words_at, with_block}
use Rattle.widen_solver.specs.RowsHeld.{RowsHeld, shown, row_shown, with_own, with_transfer, with_bottom}
use Rattle.widen_solver.specs.Slots.{content, slot_content, contents, empty_count, AreSlots, id_shown}
use Rattle.widen_solver.specs.NodeRows.{held_of, slots_of}
use Rattle.widen_solver.proofs.Lists.{set_same}

-- ---- options

some_is : (b : Option (List ℤ)) → IsSome b → b ≡ Some (words_at b)
some_is None h = absurd (cc)
some_is (Some row) h = refl

pub content_is : (h : Held) (id : ℕ) → IsSome (block_at h id) → block_at h id ≡ Some (content h id)
content_is h id live = some_is (block_at h id) live

pub seen_is : (h : Held) (id : ℕ) (row : List ℤ) → block_at h id ≡ Some row → row ≡ content h id
seen_is h id row is = sym (ap words_at is)

pub is_some : (b : Option (List ℤ)) (row : List ℤ) → b ≡ Some row → IsSome b
is_some None row e = absurd (cc)
is_some (Some r) row e = search

not_none : (b : Option (List ℤ)) → b ≡ None → IsSome b → ⊥
not_none None e h = absurd (cc)
not_none (Some row) e h = absurd (cc)

same_id : (i j : ℕ) → Some i ≡ Some j → i ≡ j
same_id i j e = cc

not_empty : (id : ℕ) (slot : Option ℕ) → slot ≡ None → slot ≡ Some id → ⊥
not_empty id None e h = cc
not_empty id (Some i) e h = cc

-- ---- the other blocks

pub others_stay : (h new : Held) (id : ℕ) (v : Option (List ℤ)) → new.blocks ≡ slice_set h.blocks id v → (j : ℕ) → j ≢ id → block_at new j ≡ block_at h j
others_stay h new id v is j off = ap (λ blocks. get_or blocks j None) is ∙ get_or-set_other h.blocks id j v None off

-- what stands in another slot is another block
pub record Apart (h new : Held) (slots : List (Option ℕ)) (k : ℕ) : Type 0 where
  pub stay : (j id : ℕ) → j ≢ k → get_or slots j None ≡ Some id → block_at new id ≡ block_at h id

pub apart_held : (h new : Held) (slots : List (Option ℕ)) (k id : ℕ) → AreSlots h slots → get_or slots k None ≡ Some id → ((j : ℕ) → j ≢ id → block_at new j ≡ block_at h j) → Apart h new slots k
apart_held h new slots k id are here others = record {
  stay = λ j i off there. others i (λ same. off (are.differ j k id (there ∙ ap Some same) here));
}

pub apart_fresh : (h new : Held) (slots : List (Option ℕ)) (k id : ℕ) → AreSlots h slots → block_at h id ≡ None → ((j : ℕ) → j ≢ id → block_at new j ≡ block_at h j) → Apart h new slots k
apart_fresh h new slots k id are fresh others = record {
  stay = λ j i off there. others i (λ same. not_none (block_at h i) (ap (block_at h) same ∙ fresh) (are.live j i there));
}

-- ---- how many are empty

pub empty_set : (slots : List (Option ℕ)) (k id : ℕ) → k < length slots → get_or slots k None ≡ None → empty_count slots ≡ empty_count (slice_set slots k (Some id)) + 1
empty_set [] k id less e = absurd (omega arith)
empty_set (None ∷ slots) zero id less e = omega arith
empty_set (Some i ∷ slots) zero id less e = absurd (cc)
empty_set (None ∷ slots) (suc k) id less e = let rest = empty_set slots k id (omega arith) e in omega (arith, rest)
empty_set (Some i ∷ slots) (suc k) id less e = let rest = empty_set slots k id (omega arith) e in omega (arith, rest)

pub filled_set : (slots : List (Option ℕ)) (k id : ℕ) → get_or slots k None ≡ Some id → empty_count (slice_set slots k None) ≡ empty_count slots + 1
filled_set [] k id e = absurd (cc)
filled_set (None ∷ slots) zero id e = absurd (cc)
filled_set (Some i ∷ slots) zero id e = omega arith
filled_set (None ∷ slots) (suc k) id e = let rest = filled_set slots k id e in omega (arith, rest)
filled_set (Some i ∷ slots) (suc k) id e = let rest = filled_set slots k id e in omega (arith, rest)

pub filled_within : (slots : List (Option ℕ)) (k id : ℕ) → get_or slots k None ≡ Some id → k < length slots
filled_within slots k id e = elim (cases_lt k (length slots)) [
  | inl less ↦ less
  | inr past ↦ absurd (not_empty id (get_or slots k None) (get_or_past slots k None past) e)
]

pub room_left : (h : Held) (slots : List (Option ℕ)) (k : ℕ) → AreSlots h slots → k < length slots → get_or slots k None ≡ None → 1 ≤ h.spare
room_left h slots k are less e = omega (arith, are.room, empty_set slots k 0 less e)

-- ---- the slots after a change

pub put_slots : (h new : Held) (slots : List (Option ℕ)) (k id : ℕ) → AreSlots h slots → k < length slots → get_or slots k None ≡ None → IsSome (block_at new id) → block_at h id ≡ None → Apart h new slots k → h.spare ≡ new.spare + 1 → AreSlots new (slice_set slots k (Some id))
put_slots h new slots k id are less e live fresh apart spare = record {
  live = λ j i there. elim (cases_eq j k) [
    | inl at ↦ subst (λ n. IsSome (block_at new n)) (same_id id i (sym (ap (λ n. get_or (slice_set slots k (Some id)) n None) at ∙ get_or-set_same slots k (Some id) None less) ∙ there)) live
    | inr off ↦ let old = sym (get_or-set_other slots k j (Some id) None off) ∙ there in subst (λ b. IsSome b) (sym (apart.stay j i off old)) (are.live j i old)
  ];
  differ = λ j l i first second. elim (cases_eq j k) [
    | inl at ↦ elim (cases_eq l k) [
      | inl also ↦ at ∙ sym also
      | inr off ↦
          let is : id ≡ i = same_id id i (sym (ap (λ n. get_or (slice_set slots k (Some id)) n None) at ∙ get_or-set_same slots k (Some id) None less) ∙ first) in
          let old = sym (get_or-set_other slots k l (Some id) None off) ∙ second in
          absurd (not_none (block_at h i) (ap (block_at h) (sym is) ∙ fresh) (are.live l i old))
    ]
    | inr off ↦ elim (cases_eq l k) [
      | inl also ↦
          let is : id ≡ i = same_id id i (sym (ap (λ n. get_or (slice_set slots k (Some id)) n None) also ∙ get_or-set_same slots k (Some id) None less) ∙ second) in
          let old = sym (get_or-set_other slots k j (Some id) None off) ∙ first in
          absurd (not_none (block_at h i) (ap (block_at h) (sym is) ∙ fresh) (are.live j i old))
      | inr other ↦ are.differ j l i (sym (get_or-set_other slots k j (Some id) None off) ∙ first) (sym (get_or-set_other slots k l (Some id) None other) ∙ second)
    ]
  ];
  room = omega (arith, are.room, spare, empty_set slots k id less e);
}

cleared_elsewhere : (slots : List (Option ℕ)) (k j i : ℕ) → k < length slots → get_or (slice_set slots k None) j None ≡ Some i → j ≢ k
cleared_elsewhere slots k j i less there at = not_empty i _ (ap (λ n. get_or (slice_set slots k None) n None) at ∙ get_or-set_same slots k None None less) there

pub clear_slots : (h new : Held) (slots : List (Option ℕ)) (k id : ℕ) → AreSlots h slots → get_or slots k None ≡ Some id → Apart h new slots k → new.spare ≡ h.spare + 1 → AreSlots new (slice_set slots k None)
clear_slots h new slots k id are here apart spare =
    let less = filled_within slots k id here in
    record {
      live = λ j i there.
          let off = cleared_elsewhere slots k j i less there in
          let old = sym (get_or-set_other slots k j None None off) ∙ there in
          subst (λ b. IsSome b) (sym (apart.stay j i off old)) (are.live j i old);
      differ = λ j l i first second.
          let off = cleared_elsewhere slots k j i less first in
          let other = cleared_elsewhere slots k l i less second in
          are.differ j l i (sym (get_or-set_other slots k j None None off) ∙ first) (sym (get_or-set_other slots k l None None other) ∙ second);
      room = omega (arith, are.room, spare, filled_set slots k id here);
    }

pub write_slots : (h new : Held) (slots : List (Option ℕ)) (k id : ℕ) → AreSlots h slots → get_or slots k None ≡ Some id → IsSome (block_at new id) → Apart h new slots k → new.spare ≡ h.spare → AreSlots new slots
write_slots h new slots k id are here live apart spare = record {
  live = λ j i there. elim (cases_eq j k) [
    | inl at ↦ subst (λ n. IsSome (block_at new n)) (same_id id i (sym here ∙ sym (ap (λ n. get_or slots n None) at) ∙ there)) live
    | inr off ↦ subst (λ b. IsSome b) (sym (apart.stay j i off there)) (are.live j i there)
  ];
  differ = are.differ;
  room = omega (arith, are.room, spare);
}

-- ---- what they hold

same_content : (h new : Held) (slot : Option ℕ) → ((id : ℕ) → slot ≡ Some id → block_at new id ≡ block_at h id) → slot_content new slot ≡ slot_content h slot
same_content h new None same = refl
same_content h new (Some id) same = ap (λ b. Some (words_at b)) (same id refl)

pub content_at : (h : Held) (slots : List (Option ℕ)) (j : ℕ) (d : Option (List ℤ)) → j < length slots → get_or (contents h slots) j d ≡ slot_content h (get_or slots j None)
content_at h slots j d less = get_or-map (slot_content h) slots j None d less

pub changes : (h new : Held) (slots now : List (Option ℕ)) (k : ℕ) (v : Option (List ℤ)) → length now ≡ length slots → k < length slots → ((j : ℕ) → j ≢ k → get_or now j None ≡ get_or slots j None) → slot_content new (get_or now k None) ≡ v → Apart h new slots k → contents new now ≡ slice_set (contents h slots) k v
changes h new slots now k v size less others here apart =
    same_lists _ _ (omega (arith, size, length-map now (slot_content new), length-map slots (slot_content h), length-set (contents h slots) k v))
    (λ j d at. let within : j < length slots = omega (arith, at, size, length-map now (slot_content new)) in
    content_at new now j d (omega (arith, within, size)) ∙ elim (cases_eq j k) [
      | inl is ↦ ap (λ n. slot_content new (get_or now n None)) is ∙ here ∙ sym (ap (λ n. get_or (slice_set (contents h slots) k v) n d) is ∙ get_or-set_same (contents h slots) k v d (omega (arith, less, length-map slots (slot_content h))))
      | inr off ↦ ap (slot_content new) (others j off) ∙ same_content h new (get_or slots j None) (λ id there. apart.stay j id off there)
          ∙ sym (get_or-set_other (contents h slots) k j v d off ∙ content_at h slots j d within)
    ])

pub put_contents : (h new : Held) (slots : List (Option ℕ)) (k : ℕ) (slot : Option ℕ) → k < length slots → Apart h new slots k → contents new (slice_set slots k slot) ≡ slice_set (contents h slots) k (slot_content new slot)
put_contents h new slots k slot less apart =
    changes h new slots (slice_set slots k slot) k (slot_content new slot) (length-set slots k slot) less (λ j off. get_or-set_other slots k j slot None off) (ap (slot_content new) (get_or-set_same slots k slot None less)) apart

pub write_contents : (h new : Held) (slots : List (Option ℕ)) (k id : ℕ) → get_or slots k None ≡ Some id → Apart h new slots k → contents new slots ≡ slice_set (contents h slots) k (Some (content new id))
write_contents h new slots k id here apart =
    changes h new slots slots k (Some (content new id)) refl (filled_within slots k id here) (λ j off. refl) (ap (slot_content new) here) apart

-- ---- the rows, the transfer and the bottom

pub own_changes : (h new : Held) (bottom : ℕ) (transfer : Option ℕ) (ids now : List (Option ℕ)) (index : ℕ) (v : Option (List ℤ)) → new.words ≡ h.words → contents new (slots_of bottom transfer now) ≡ slice_set (contents h (slots_of bottom transfer ids)) (suc (suc index)) v → held_of new bottom transfer now ≡ with_own (held_of h bottom transfer ids) index v
own_changes h new bottom transfer ids now index v words is = λ i. record {
  words = words i;
  bottom = (ap (λ l. words_at (get_or l zero None)) is) i;
  transfer = (ap (λ l. get_or l (suc zero) None) is) i;
  rows = (ap (λ l. drop (suc (suc zero)) l) is) i;
}

pub transfer_changes : (h new : Held) (bottom : ℕ) (transfer now : Option ℕ) (ids : List (Option ℕ)) (v : Option (List ℤ)) → new.words ≡ h.words → contents new (slots_of bottom now ids) ≡ slice_set (contents h (slots_of bottom transfer ids)) (suc zero) v → held_of new bottom now ids ≡ with_transfer (held_of h bottom transfer ids) v
transfer_changes h new bottom transfer now ids v words is = λ i. record {
  words = words i;
  bottom = (ap (λ l. words_at (get_or l zero None)) is) i;
  transfer = (ap (λ l. get_or l (suc zero) None) is) i;
  rows = (ap (λ l. drop (suc (suc zero)) l) is) i;
}

pub bottom_changes : (h new : Held) (bottom : ℕ) (transfer : Option ℕ) (ids : List (Option ℕ)) (row : List ℤ) → new.words ≡ h.words → contents new (slots_of bottom transfer ids) ≡ slice_set (contents h (slots_of bottom transfer ids)) zero (Some row) → held_of new bottom transfer ids ≡ with_bottom (held_of h bottom transfer ids) row
bottom_changes h new bottom transfer ids row words is = λ i. record {
  words = words i;
  bottom = (ap (λ l. words_at (get_or l zero None)) is) i;
  transfer = (ap (λ l. get_or l (suc zero) None) is) i;
  rows = (ap (λ l. drop (suc (suc zero)) l) is) i;
}

-- ---- a block that is written

block_within : (h : Held) (id : ℕ) → IsSome (block_at h id) → id < length h.blocks
block_within h id live = elim (cases_lt id (length h.blocks)) [
  | inl less ↦ less
  | inr past ↦ absurd (not_none (block_at h id) (get_or_past h.blocks id None past) live)
]

pub written_words : (h : Held) (id : ℕ) (ws : List ℤ) → IsSome (block_at h id) → block_at (with_block h id ws) id ≡ Some (refill h.words (content h id) ws)
written_words h id ws live = get_or-set_same h.blocks id (Some (refill h.words (content h id) ws)) None (block_within h id live)

-- ---- empty slots

pub none_slots : (h : Held) (slots : List (Option ℕ)) → ((k : ℕ) → get_or slots k None ≡ None) → empty_count slots ≤ h.spare → AreSlots h slots
none_slots h slots none room = record {
  live = λ k id there. absurd (not_empty id _ (none k) there);
  differ = λ j k id first second. absurd (not_empty id _ (none j) first);
  room = room;
}

pub nones : (n k : ℕ) → get_or (replicate {A = Option ℕ} n None) k None ≡ None
nones zero k = refl
nones (suc n) zero = refl
nones (suc n) (suc k) = nones n k

pub none_count : (n : ℕ) → empty_count (replicate n None) ≡ n
none_count zero = refl
none_count (suc n) = ap suc (none_count n)

-- ---- slots by their uses

some_slot : (h : Held) (slot : Option ℕ) → IsSome (slot_content h slot) → IsSome slot
some_slot h None some = absurd (cc)
some_slot h (Some id) some = search

pub own_some : (h : Held) (ids : List (Option ℕ)) (index : ℕ) → index < length ids → IsSome (get_or (contents h ids) index None) → IsSome (get_or ids index None)
own_some h ids index less some = some_slot h (get_or ids index None) (subst (λ b. IsSome b) (content_at h ids index None less) some)

pub transfer_some : (h : Held) (transfer : Option ℕ) → IsSome (slot_content h transfer) → IsSome transfer
transfer_some h transfer some = some_slot h transfer some

pub transfer_none : (h : Held) (transfer : Option ℕ) → slot_content h transfer ≡ None → transfer ≡ None
transfer_none h None e = refl
transfer_none h (Some id) e = absurd (cc)

shown_live_by : (h : Held) (bottom : ℕ) (slot : Option ℕ) → IsSome (block_at h bottom) → ((id : ℕ) → slot ≡ Some id → IsSome (block_at h id)) → IsSome (block_at h (id_shown bottom slot))
shown_live_by h bottom None live all = live
shown_live_by h bottom (Some id) live all = all id refl

pub shown_live : (h : Held) (bottom : ℕ) (transfer : Option ℕ) (ids : List (Option ℕ)) (index : ℕ) → AreSlots h (slots_of bottom transfer ids) → IsSome (block_at h (id_shown bottom (get_or ids index None)))
shown_live h bottom transfer ids index are = shown_live_by h bottom (get_or ids index None) (are.live zero bottom refl) (λ id e. are.live (suc (suc index)) id e)

shown_content : (h : Held) (bottom : ℕ) (slot : Option ℕ) → shown (content h bottom) (slot_content h slot) ≡ content h (id_shown bottom slot)
shown_content h bottom None = refl
shown_content h bottom (Some id) = refl

-- what a node shows
pub shown_is : (h : Held) (bottom : ℕ) (transfer : Option ℕ) (ids : List (Option ℕ)) (index : ℕ) → index < length ids → row_shown (held_of h bottom transfer ids) index ≡ content h (id_shown bottom (get_or ids index None))
shown_is h bottom transfer ids index less = ap (shown (content h bottom)) (content_at h ids index None less) ∙ shown_content h bottom (get_or ids index None)

-- the transfer's block is not the bottom's, nor a node's
pub transfer_not_bottom : (h : Held) (bottom : ℕ) (transfer : Option ℕ) (ids : List (Option ℕ)) (id : ℕ) → AreSlots h (slots_of bottom transfer ids) → transfer ≡ Some id → id ≢ bottom
transfer_not_bottom h bottom transfer ids id are here same = let e : suc zero ≡ zero = are.differ (suc zero) zero id here (ap Some (sym same)) in absurd (omega (arith, e))

pub own_not_transfer : (h : Held) (bottom : ℕ) (transfer : Option ℕ) (ids : List (Option ℕ)) (index id other : ℕ) → AreSlots h (slots_of bottom transfer ids) → get_or ids index None ≡ Some id → transfer ≡ Some other → id ≢ other
own_not_transfer h bottom transfer ids index id other are here there same =
    let e : suc (suc index) ≡ suc zero = are.differ (suc (suc index)) (suc zero) id here (there ∙ ap Some (sym same)) in absurd (omega (arith, e))

-- a block that was just taken is not the bottom's
pub fresh_not_bottom : (h : Held) (bottom : ℕ) (transfer : Option ℕ) (ids : List (Option ℕ)) (id : ℕ) → AreSlots h (slots_of bottom transfer ids) → block_at h id ≡ None → id ≢ bottom
fresh_not_bottom h bottom transfer ids id are fresh same = not_none (block_at h id) fresh (subst (λ j. IsSome (block_at h j)) (sym same) (are.live zero bottom refl))

-- ---- the block of a slot is written

pub record Writes (h : Held) (slots : List (Option ℕ)) (k id : ℕ) (ws : List ℤ) : Type 0 where
  pub slots_are : AreSlots (with_block h id ws) slots
  pub contents_are : contents (with_block h id ws) slots ≡ slice_set (contents h slots) k (Some (refill h.words (content h id) ws))

pub writes : (h : Held) (slots : List (Option ℕ)) (k id : ℕ) (ws : List ℤ) → AreSlots h slots → get_or slots k None ≡ Some id → Writes h slots k id ws
writes h slots k id ws are here =
    let new = with_block h id ws in
    let live = are.live k id here in
    let now = written_words h id ws live in
    let apart = apart_held h new slots k id are here (others_stay h new id (Some (refill h.words (content h id) ws)) refl) in
    record {
      slots_are = write_slots h new slots k id are here (is_some (block_at new id) (refill h.words (content h id) ws) now) apart refl;
      contents_are = write_contents h new slots k id here apart ∙ ap (λ row. slice_set (contents h slots) k (Some row)) (ap words_at now);
    }

pub refill_whole : (n : ℕ) (xs ws : List ℤ) → length ws ≡ n → refill n xs ws ≡ ws
refill_whole n xs ws wide = take_at ws (drop (length ws) xs) n wide

-- ---- a block is taken, for a slot that is empty

pub take_slots : (h new : Held) (slots : List (Option ℕ)) (k id : ℕ) → AreSlots h slots → k < length slots → get_or slots k None ≡ None → Takes h new id → AreSlots new (slice_set slots k (Some id))
take_slots h new slots k id are less empty takes =
    put_slots h new slots k id are less empty (is_some (block_at new id) takes.row takes.is) takes.fresh (apart_fresh h new slots k id are takes.fresh (others_stay h new id (Some takes.row) takes.blocks)) takes.spare

pub take_contents : (h new : Held) (slots : List (Option ℕ)) (k id : ℕ) → AreSlots h slots → k < length slots → Takes h new id → contents new (slice_set slots k (Some id)) ≡ slice_set (contents h slots) k (Some (content new id))
take_contents h new slots k id are less takes =
    put_contents h new slots k (Some id) less (apart_fresh h new slots k id are takes.fresh (others_stay h new id (Some takes.row) takes.blocks))

-- and given back
pub give_slots : (h new : Held) (slots : List (Option ℕ)) (k id : ℕ) → AreSlots h slots → get_or slots k None ≡ Some id → Gives h new id → AreSlots new (slice_set slots k None)
give_slots h new slots k id are here gives = clear_slots h new slots k id are here (apart_held h new slots k id are here (others_stay h new id None gives.blocks)) gives.spare

pub give_contents : (h new : Held) (slots : List (Option ℕ)) (k id : ℕ) → AreSlots h slots → get_or slots k None ≡ Some id → Gives h new id → contents new (slice_set slots k None) ≡ slice_set (contents h slots) k None
give_contents h new slots k id are here gives = put_contents h new slots k None (filled_within slots k id here) (apart_held h new slots k id are here (others_stay h new id None gives.blocks))

-- a node's first block, with the bottom's words
pub record Reaches (h new : Held) (bottom : ℕ) (transfer : Option ℕ) (ids : List (Option ℕ)) (index id : ℕ) : Type 0 where
  pub slots_are : AreSlots new (slots_of bottom transfer (slice_set ids index (Some id)))
  pub held : held_of new bottom transfer (slice_set ids index (Some id)) ≡ with_own (held_of h bottom transfer ids) index (Some (row_shown (held_of h bottom transfer ids) index))

pub bottom_stays : (h mid : Held) (bottom : ℕ) (transfer : Option ℕ) (ids : List (Option ℕ)) (id : ℕ) → AreSlots h (slots_of bottom transfer ids) → Takes h mid id → block_at mid bottom ≡ block_at h bottom
bottom_stays h mid bottom transfer ids id are takes = others_stay h mid id (Some takes.row) takes.blocks bottom (λ same. fresh_not_bottom h bottom transfer ids id are takes.fresh (sym same))

pub reaches : (h mid : Held) (bottom : ℕ) (transfer : Option ℕ) (ids : List (Option ℕ)) (index id : ℕ) (ws : List ℤ) → AreSlots h (slots_of bottom transfer ids) → index < length ids → get_or ids index None ≡ None → Takes h mid id → block_at mid bottom ≡ Some ws → length ws ≡ mid.words → Reaches h (with_block mid id ws) bottom transfer ids index id
reaches h mid bottom transfer ids index id ws are less empty takes copied wide =
    let new = with_block mid id ws in
    let slots = slots_of bottom transfer ids in
    let k : ℕ = suc (suc index) in
    let live = is_some (block_at mid id) takes.row takes.is in
    let whole : refill mid.words (content mid id) ws ≡ ws = refill_whole mid.words (content mid id) ws wide in
    let now : block_at new id ≡ Some ws = written_words mid id ws live ∙ ap Some whole in
    let others = λ (j : ℕ) (off : j ≢ id). others_stay mid new id (Some (refill mid.words (content mid id) ws)) refl j off ∙ others_stay h mid id (Some takes.row) takes.blocks j off in
    let apart = apart_fresh h new slots k id are takes.fresh others in
    let within : k < length slots = omega (arith, less) in
    let row : content new id ≡ row_shown (held_of h bottom transfer ids) index =
    ap words_at now ∙ sym (ap words_at (sym (bottom_stays h mid bottom transfer ids id are takes) ∙ copied))
    ∙ sym (shown_is h bottom transfer ids index less ∙ ap (λ slot. content h (id_shown bottom slot)) empty) in
    record {
      slots_are = put_slots h new slots k id are within empty (is_some (block_at new id) ws now) takes.fresh apart takes.spare;
      held = own_changes h new bottom transfer ids (slice_set ids index (Some id)) index (Some (content new id)) takes.words (put_contents h new slots k (Some id) within apart)
          ∙ ap (λ r. with_own (held_of h bottom transfer ids) index (Some r)) row;
    }

-- a node that has a row of its own keeps it
pub own_same : (held : RowsHeld) (index : ℕ) (row : Option (List ℤ)) → get_or held.rows index None ≡ row → held ≡ with_own held index row
own_same held index row e = ap (λ rows. record { words = held.words; bottom = held.bottom; transfer = held.transfer; rows = rows }) (sym (set_same held.rows index row None e))

shown_some : (bottom : List ℤ) (row : Option (List ℤ)) → IsSome row → row ≡ Some (shown bottom row)
shown_some bottom None some = absurd (cc)
shown_some bottom (Some r) some = refl

pub own_kept : (held : RowsHeld) (index : ℕ) → IsSome (get_or held.rows index None) → held ≡ with_own held index (Some (row_shown held index))
own_kept held index some = own_same held index (Some (row_shown held index)) (shown_some held.bottom (get_or held.rows index None) some)

some_content : (h : Held) (slot : Option ℕ) → IsSome slot → IsSome (slot_content h slot)
some_content h None some = absurd (cc)
some_content h (Some id) some = search

pub own_there : (h : Held) (ids : List (Option ℕ)) (index : ℕ) → index < length ids → IsSome (get_or ids index None) → IsSome (get_or (contents h ids) index None)
own_there h ids index less some = subst (λ b. IsSome b) (sym (content_at h ids index None less)) (some_content h (get_or ids index None) some)

pub count_is : (h : Held) (ids : List (Option ℕ)) → length (contents h ids) ≡ length ids
count_is h ids = length-map ids (slot_content h)

pub none_contents : (h : Held) (n : ℕ) → contents h (replicate n None) ≡ replicate n None
none_contents h zero = refl
none_contents h (suc n) = ap (λ l. None ∷ l) (none_contents h n)

pub shown_none : (held : RowsHeld) (index : ℕ) → get_or held.rows index None ≡ None → row_shown held index ≡ held.bottom
shown_none held index e = ap (shown held.bottom) e

pub shown_own : (held : RowsHeld) (index : ℕ) (row : List ℤ) → get_or held.rows index None ≡ Some row → row ≡ row_shown held index
shown_own held index row e = sym (ap (shown held.bottom) e)
