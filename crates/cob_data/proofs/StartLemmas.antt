-- Where parts of groups start, from the forest of the items.
use Rattle.std.proofs.Common.{◌≡◌, ℕ, ◌+◌, ◌<◌, ◌≤◌, zero, suc, Bool, true, false, not, cond, eqb, leb, ◌||◌, ◌&&◌, List, [], ◌∷◌, ◌++◌, append_assoc, append-nil, length, length-append, slice_get, inl, inr, Option, Some, None, is_some, IfSome, refl, sym, ap, ◌∙◌, subst, arith}
use Rattle.std.proofs.lemmas.Bool.Decides.{nat_tests}
use Rattle.rule_order.specs.Order.{line_if}
use Rattle.cob_data.specs.declared.description.Description.{Description}
use Rattle.cob_data.specs.declared.description.Spot.{Spot}
use Rattle.cob_data.specs.declared.description.Above.{Above}
use Rattle.cob_data.specs.declared.end.Rule.TheVariants.{L6}
use Rattle.cob_data.specs.Lengths.{Forest, bare, item, forest, size, item_bytes, unless_redefining}
use Rattle.cob_data.specs.Spots.{Neighbour, room_behind, lies_on, spot, spots, above_parts, end_behind, lies_on_last, start_at, nothing_above, all_spots}
use Rattle.cob_data.specs.ItemRules.{has_room, breaks_redefinitions}
use Rattle.cob_data.specs.Rules.{item_lines}
use Rattle.cob_data.specs.Parts.{is_at, is_part, part_bytes, last_start, start_in, AreBehind, MayRedefine}
use Rattle.cob_data.proofs.PartLemmas.{flat, flat_length, flat_forest, bytes_append, inner, outer, same_length, AreApart, apart_append, no_bytes, same_start, differ, before, behind_it, IsAbove, parts_above, same_place}

-- ---- a redefinition has something before it

line_kept : (x : Bool) (line : ℕ) (others : List ℕ) → line_if x line others ≡ [] → (x ≡ false) × (others ≡ [])
line_kept true line others e = absurd (cc)
line_kept false line others e = (refl, e)

room_is : (d : Description) (bytes : ℕ) (top : Bool) (room : Option ℕ) → (is_some d.redefines && not (not top && has_room d bytes room)) ≡ false → is_some d.redefines ≡ true → is_some room ≡ true
room_is d bytes top (Some n) kept e = refl
room_is d bytes top None kept e = absurd (no_room (is_some d.redefines) top kept e) where
  no_room : (x top : Bool) → (x && not (not top && false)) ≡ false → x ≡ true → ⊥
  no_room true true kept e = cc
  no_room true false kept e = cc
  no_room false top kept e = cc

-- so it has one before it
has_last : (d : Description) (last : Option Neighbour) → is_some (room_behind d last) ≡ true → is_some last ≡ true
has_last d None e = absurd (cc)
has_last d (Some n) e = refl

abbrev HaveLast : List Description → List Spot → Type 0
HaveLast [] ss = Unit {0}
HaveLast (d ∷ ds) [] = Unit {0}
HaveLast (d ∷ ds) (s ∷ ss) = (is_some d.redefines ≡ true → is_some s.room ≡ true) × HaveLast ds ss

have_last : (ds : List Description) (ss : List Spot) → MayRedefine ds ss → HaveLast ds ss
have_last [] ss kept = tt
have_last (d ∷ ds) [] kept = tt
have_last (d ∷ ds) (s ∷ ss) kept =
    let both = line_kept (breaks_redefinitions d s) d.line (item_lines L6 ds ss) kept in
    (room_is d s.length _ s.room both.0, have_last ds ss both.1)

last_left : (ds es : List Description) (ss ts : List Spot) → length ds ≡ length ss → HaveLast (ds ++ es) (ss ++ ts) → HaveLast ds ss
last_left [] es ss ts e have = tt
last_left (d ∷ ds) es [] ts e have = tt
last_left (d ∷ ds) es (s ∷ ss) ts e have = (have.0, last_left ds es ss ts (omega (arith, e)) have.1)

last_right : (ds es : List Description) (ss ts : List Spot) → length ds ≡ length ss → HaveLast (ds ++ es) (ss ++ ts) → HaveLast es ts
last_right [] es [] ts e have = have
last_right [] es (s ∷ ss) ts e have = absurd (omega (arith, e))
last_right (d ∷ ds) es [] ts e have = absurd (omega (arith, e))
last_right (d ∷ ds) es (s ∷ ss) ts e have = last_right ds es ss ts (omega (arith, e)) have.1

-- ---- lists one behind the other

behind_append : (ds : List Description) (ss : List Spot) (xs ys : List Description) (us vs : List Spot) →
    AreBehind ds ss xs us → AreBehind (ds ++ xs) (ss ++ us) ys vs → AreBehind ds ss (xs ++ ys) (us ++ vs)
behind_append ds ss [] ys [] vs first second = rw (← append-nil ds, ← append-nil ss) second
behind_append ds ss [] ys (u ∷ us) vs first second = absurd first
behind_append ds ss (x ∷ xs) ys [] vs first second = absurd first
behind_append ds ss (x ∷ xs) ys (u ∷ us) vs first second =
    (first.0, behind_append (ds ++ x ∷ []) (ss ++ u ∷ []) xs ys us vs first.1 (rw (append_assoc ds (x ∷ []) xs, append_assoc ss (u ∷ []) us) second))

start_append : (p none : ℕ) (ss ts : List Spot) → last_start p none (ss ++ ts) ≡ last_start p (last_start p none ss) ts
start_append p none [] ts = refl
start_append p none (s ∷ ss) ts = start_append p (cond (is_part p s) s.start none) ss ts

get_front : (ss ts : List Spot) (p : ℕ) (g : Spot) → slice_get ss p ≡ Some g → slice_get (ss ++ ts) p ≡ Some g
get_front [] ts p g e = absurd (cc)
get_front (s ∷ ss) ts zero g e = e
get_front (s ∷ ss) ts (suc p) g e = get_front ss ts p g e

pub get_last : (ss : List Spot) (s : Spot) (n : ℕ) → length ss ≡ n → slice_get (ss ++ s ∷ []) n ≡ Some s
get_last [] s zero e = refl
get_last [] s (suc n) e = absurd (omega (arith, e))
get_last (x ∷ xs) s zero e = absurd (omega (arith, e))
get_last (x ∷ xs) s (suc n) e = get_last xs s n (omega (arith, e))

-- ---- one item

or_nothing : (x : Bool) → (x || false) ≡ x
or_nothing true = refl
or_nothing false = refl

-- in a group an item lies on the one before only where it redefines
lies_is : (above : Above) (d : Description) (n : Neighbour) (p : ℕ) → above.parent ≡ Some p → lies_on above d n ≡ is_some d.redefines
lies_is above d n p e = rw e (or_nothing (is_some d.redefines))

abbrev start_of : ℕ → Option Neighbour → ℕ
start_of next None = next
start_of next (Some n) = n.spot.start

one_of_same : (x : Bool) (n : ℕ) → n ≡ cond x n n
one_of_same true n = refl
one_of_same false n = refl

start_is : (above : Above) (next : ℕ) (d : Description) (last : Option Neighbour) (p : ℕ) → above.parent ≡ Some p → start_at above next d last ≡ cond (is_some d.redefines) (start_of next last) next
start_is above next d None p e = one_of_same (is_some d.redefines) next
start_is above next d (Some n) p e = ap (λ x. cond x n.spot.start next) (lies_is above d n p e)

end_at : (above : Above) (next : ℕ) (d : Description) (b : Forest) (last : Option Neighbour) (p : ℕ) (x : Bool) → above.parent ≡ Some p → is_some d.redefines ≡ x → (x ≡ true → is_some last ≡ true) →
    end_behind above next (lies_on_last above d last) (spot above next last d b) ≡ next + cond x 0 (item_bytes d b)
end_at above next d b None p true e is has = let no : false ≡ true = has refl in absurd (cc)
end_at above next d b (Some n) p true e is has =
    let lies : lies_on above d n ≡ true = lies_is above d n p e ∙ is in
    rw (lies, e) (omega arith)
end_at above next d b None p false e is has = refl
end_at above next d b (Some n) p false e is has =
    let lies : lies_on above d n ≡ false = lies_is above d n p e ∙ is in
    rw lies refl

-- what is known of the group above, with the items so far
abbrev Level : Above → ℕ → Option Neighbour → List Description → List Spot → Type 0
Level above next last ds ss = (p : ℕ) → above.parent ≡ Some p → (group : Spot) × (slice_get ss p ≡ Some group) × (next ≡ group.start + part_bytes p ds ss) × (start_of next last ≡ last_start p group.start ss)

head_at : (above : Above) (next : ℕ) (last : Option Neighbour) (d : Description) (ds : List Description) (ss : List Spot) (start : ℕ) (o : Option ℕ) → above.parent ≡ o → start ≡ start_at above next d last → Level above next last ds ss →
    IfSome o (λ place. (group : Spot) × (slice_get ss place ≡ Some group) × (start ≡ start_in group place ds ss d))
head_at above next last d ds ss start None e is level = tt
head_at above next last d ds ss start (Some p) e is level =
    let at = level p e in
    let group = at.0 in
    (group, at.1, is ∙ start_is above next d last p e ∙ ap (λ n. cond (is_some d.redefines) (start_of next last) n) at.2 ∙ ap (λ n. cond (is_some d.redefines) n (group.start + part_bytes p ds ss)) at.3)

-- ---- a level further

abbrev NoneYet : ℕ → List Spot → Type 0
NoneYet place ss = (p : ℕ) → place ≤ p → AreApart p ss

some_same : (a b : ℕ) → Some a ≡ Some b → a ≡ b
some_same a b e = cc

below_place : (above : Above) (place p : ℕ) → IsAbove above place → above.parent ≡ Some p → p < place
below_place above place p high e = by (leb place p) refl where
  is_low : (h : place ≤ p) → ⊥
  is_low h = let no : eqb p p ≡ false = rw e at (high p h) in let yes = same_place p in absurd (cc)

  by : (x : Bool) → leb place p ≡ x → p < place
  by true t = absurd (is_low (grind (arith, nat_tests)))
  by false t = grind (arith, nat_tests)

module _ (above : Above) (place next : ℕ) (last : Option Neighbour) (d : Description) (b : Forest) (ds : List Description) (ss : List Spot)
    (items : length ds ≡ place) (seats : length ss ≡ place) (high : IsAbove above place) (none : NoneYet place ss) where
  abbrev here : Spot
  here = spot above next last d b

  with_this : (p : ℕ) → place ≤ p → AreApart p (ss ++ here ∷ [])
  with_this p h = apart_append p ss (here ∷ []) (none p h) (high p h, tt)

  -- below the item
  level_below : Level (above_parts place here) here.start None (ds ++ d ∷ []) (ss ++ here ∷ [])
  level_below p e =
      let same : place ≡ p = some_same place p e in
      let apart = with_this p (omega (arith, same)) in
      let bytes = no_bytes p (ds ++ d ∷ []) (ss ++ here ∷ []) apart in
      (here, get_last ss here p (seats ∙ same), omega (arith, bytes), sym (same_start p here.start (ss ++ here ∷ []) apart))

  -- beside it
  level_beside : (is_some d.redefines ≡ true → is_some last ≡ true) → Level above next last ds ss →
      Level above (end_behind above next (lies_on_last above d last) here) (Some (record { item = d; spot = here })) ((ds ++ d ∷ []) ++ flat b) ((ss ++ here ∷ []) ++ inner above place next last d b)
  level_beside has level p e =
      let at = level p e in
      let group = at.0 in
      let I = inner above place next last d b in
      let low = below_place above place p high e in
      let part : is_at p above.parent ≡ true = rw e (same_place p) in
      let apart : AreApart p I = before p (above_parts place here) (place + 1) here.start None b (omega (arith, low)) (differ p place (inl low)) in
      let same_lengths : length (ds ++ d ∷ []) ≡ length (ss ++ here ∷ []) = omega (arith, length-append ds (d ∷ []), length-append ss (here ∷ []), items, seats) in
      let this : part_bytes p (d ∷ []) (here ∷ []) ≡ unless_redefining d (item_bytes d b) + 0 = rw part refl in
      let bytes : part_bytes p ((ds ++ d ∷ []) ++ flat b) ((ss ++ here ∷ []) ++ I) ≡ part_bytes p ds ss + unless_redefining d (item_bytes d b) =
      omega (arith, bytes_append p (ds ++ d ∷ []) (flat b) (ss ++ here ∷ []) I same_lengths, bytes_append p ds (d ∷ []) ss (here ∷ []) (items ∙ sym seats), this, no_bytes p (flat b) I apart) in
      let end = end_at above next d b last p (is_some d.redefines) e refl has in
      let start : last_start p group.start ((ss ++ here ∷ []) ++ I) ≡ here.start =
      start_append p group.start (ss ++ here ∷ []) I ∙ same_start p (last_start p group.start (ss ++ here ∷ [])) I apart ∙ start_append p group.start ss (here ∷ []) ∙ rw part refl in
      (group, get_front (ss ++ here ∷ []) I p group (get_front ss (here ∷ []) p group at.1), omega (arith, end, bytes, at.2), sym start)

  none_beside : NoneYet (place + 1 + size b) ((ss ++ here ∷ []) ++ inner above place next last d b)
  none_beside p h =
      apart_append p (ss ++ here ∷ []) (inner above place next last d b) (with_this p (omega (arith, h))) (behind_it p (above_parts place here) (place + 1) here.start None b h (differ p place (inr (omega (arith, h)))))

behind_at : (above : Above) (place next : ℕ) (last : Option Neighbour) (f : Forest) (ds : List Description) (ss : List Spot) → length ds ≡ place → length ss ≡ place → IsAbove above place → NoneYet place ss →
    Level above next last ds ss → HaveLast (flat f) (spots above place next last f) → AreBehind ds ss (flat f) (spots above place next last f)
behind_at above place next last bare ds ss items seats high none level have = tt
behind_at above place next last (item d b r) ds ss items seats high none level have =
    let s = spot above next last d b in
    let I = inner above place next last d b in
    let O = outer above place next last d b r in
    let same = same_length (above_parts place s) (place + 1) s.start None b in
    let inside = last_left (flat b) (flat r) I O same have.1 in
    let outside = last_right (flat b) (flat r) I O same have.1 in
    let items_here : length (ds ++ d ∷ []) ≡ place + 1 = omega (arith, length-append ds (d ∷ []), items) in
    let seats_here : length (ss ++ s ∷ []) ≡ place + 1 = omega (arith, length-append ss (s ∷ []), seats) in
    let items_beside : length ((ds ++ d ∷ []) ++ flat b) ≡ place + 1 + size b = omega (arith, length-append (ds ++ d ∷ []) (flat b), items_here, flat_length b) in
    let seats_beside : length ((ss ++ s ∷ []) ++ I) ≡ place + 1 + size b = omega (arith, length-append (ss ++ s ∷ []) I, seats_here, flat_length b, same) in
    let below = behind_at (above_parts place s) (place + 1) s.start None b (ds ++ d ∷ []) (ss ++ s ∷ []) items_here seats_here (parts_above place s)
    (λ p h. with_this above place next last d b ds ss items seats high none p (omega (arith, h))) (level_below above place next last d b ds ss items seats high none) inside in
    let beside = behind_at above (place + 1 + size b) (end_behind above next (lies_on_last above d last) s) (Some (record { item = d; spot = s })) r ((ds ++ d ∷ []) ++ flat b) ((ss ++ s ∷ []) ++ I) items_beside seats_beside
    (λ p h. high p (omega (arith, h))) (none_beside above place next last d b ds ss items seats high none)
    (level_beside above place next last d b ds ss items seats high none (λ e. has_last d last (have.0 e)) level) outside in (
      head_at above next last d ds ss s.start above.parent refl refl level,
      behind_append (ds ++ d ∷ []) (ss ++ s ∷ []) (flat b) (flat r) I O below beside,
    )

no_parent : (p : ℕ) → ◌≡◌ {A = Option ℕ} None (Some p) → ⊥
no_parent p e = cc

pub are_behind : (ds : List Description) → MayRedefine ds (all_spots ds) → AreBehind [] [] ds (all_spots ds)
are_behind ds kept =
    let items = flat_forest ds in
    let have : HaveLast (flat (forest ds)) (all_spots ds) = subst (λ xs. HaveLast xs (all_spots ds)) (sym items) (have_last ds (all_spots ds) kept) in
    let whole = behind_at nothing_above 0 0 None (forest ds) [] [] refl refl (λ p h. refl) (λ p h. tt) (λ p e. absurd (no_parent p e)) have in
    subst (λ xs. AreBehind [] [] xs (all_spots ds)) items whole
