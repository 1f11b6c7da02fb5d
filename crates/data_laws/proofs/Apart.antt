-- Items that stand in no redefinition and in no file follow each other.
use Rattle.std.proofs.Common.{◌≡◌, ℕ, ◌+◌, ◌≤◌, max, Bool, true, false, not, cond, ◌&&◌, ◌||◌, List, [], ◌∷◌, ◌++◌, length, Option, Some, None, is_some, is_none, refl, ◌∙◌, sym, subst, arith}
use Rattle.cob_data.specs.declared.description.Area.{Area}
use Rattle.cob_data.specs.declared.description.Area.TheVariants as area
use Rattle.cob_data.specs.declared.description.Description.{Description}
use Rattle.cob_data.specs.declared.description.Spot.{Spot}
use Rattle.cob_data.specs.declared.description.Above.{Above}
use Rattle.cob_data.specs.declared.end.Rule.TheVariants.{L6}
use Rattle.cob_data.specs.Entries.{same_area}
use Rattle.cob_data.specs.Lengths.{Forest, bare, item, forest, size, extent, item_bytes}
use Rattle.cob_data.specs.Spots.{Neighbour, is_file, is_record, room_behind, lies_on, lies_on_last, start_at, end_behind, is_bare, spot, spots, above_parts, nothing_above, all_spots}
use Rattle.cob_data.specs.ItemRules.{is_under_01, has_room}
use Rattle.cob_data.specs.Rules.{item_breaks}
use Rattle.cob_data.proofs.PartLemmas.{flat, flat_forest, inner, outer, same_length}
use Rattle.data_laws.proofs.Pairs.{AllPairs, pairs_map, pairs_append, pairs_left, pairs_right}
use Rattle.data_laws.proofs.Deep.{IsUnderOwn}

-- ---- what follows what

-- an elementary item of working storage that stands in no redefinition
pub record IsSettled (d : Description) (s : Spot) : Type 0 where
  pub unshared : s.shared ≡ false
  pub stored : is_file d.area ≡ false
  pub alone : s.group ≡ false
  pub under : IsUnderOwn d s

abbrev IsUnsettled : Description → Spot → Type 0
IsUnsettled d s = IsSettled d s → ⊥

abbrev pub StartsFrom : ℕ → Description → Spot → Type 0
StartsFrom from d s = IsSettled d s → from ≤ s.start

abbrev EndsBy : ℕ → Description → Spot → Type 0
EndsBy to d s = IsSettled d s → s.start + s.length ≤ to

-- each settled item ends where those behind it start, or before
abbrev pub FollowEachOther : List Description → List Spot → Type 0
FollowEachOther [] ss = Unit {0}
FollowEachOther (d ∷ ds) [] = Unit {0}
FollowEachOther (d ∷ ds) (s ∷ ss) = (IsSettled d s → AllPairs (StartsFrom (s.start + s.length)) ds ss) × FollowEachOther ds ss

from_lower : (k m : ℕ) → k ≤ m → (ds : List Description) (ss : List Spot) → AllPairs (StartsFrom m) ds ss → AllPairs (StartsFrom k) ds ss
from_lower k m low ds ss = pairs_map (StartsFrom m) (StartsFrom k) (λ d s from settled. omega (arith, low, from settled)) ds ss

to_higher : (k m : ℕ) → k ≤ m → (ds : List Description) (ss : List Spot) → AllPairs (EndsBy k) ds ss → AllPairs (EndsBy m) ds ss
to_higher k m low ds ss = pairs_map (EndsBy k) (EndsBy m) (λ d s to settled. omega (arith, low, to settled)) ds ss

follow_append : (m : ℕ) (ds es : List Description) (ss ts : List Spot) → length ds ≡ length ss → FollowEachOther ds ss → FollowEachOther es ts →
    AllPairs (EndsBy m) ds ss → AllPairs (StartsFrom m) es ts → FollowEachOther (ds ++ es) (ss ++ ts)
follow_append m [] es [] ts e first second ends starts = second
follow_append m [] es (s ∷ ss) ts e first second ends starts = absurd (omega (arith, e))
follow_append m (d ∷ ds) es [] ts e first second ends starts = absurd (omega (arith, e))
follow_append m (d ∷ ds) es (s ∷ ss) ts e first second ends starts = (
  λ settled. pairs_append (StartsFrom (s.start + s.length)) ds es ss ts (omega (arith, e)) (first.0 settled) (from_lower (s.start + s.length) m (ends.0 settled) es ts starts),
  follow_append m ds es ss ts (omega (arith, e)) first.1 second ends.1 starts,
)

-- ---- where settled items may stand: in no redefinition, and below an 01 in one of working storage

abbrev is_stored : Option Area → Bool
is_stored (Some area.Storage) = true
is_stored _ = false

abbrev is_open_in : Bool → Option ℕ → Option Area → Bool
is_open_in shared parent under = not shared && (is_none parent || is_stored under)

abbrev is_open : Above → Bool
is_open above = is_open_in above.shared above.parent above.under

closed_below : (shared redefines : Bool) (parent : Option ℕ) (place : ℕ) (under top : Option Area) → is_open_in shared parent under ≡ false →
    is_open_in (shared || redefines) (Some place) (cond (not (is_none parent)) under top) ≡ false
closed_below true redefines parent place under top closed = refl
closed_below false redefines None place under top closed = absurd (cc)
closed_below false true (Some p) place under top closed = refl
closed_below false false (Some p) place under top closed = closed

none_under : (a : Area) (under : Option Area) → is_stored under ≡ false → is_file a ≡ false → is_under_01 a under ≡ true → ⊥
none_under a None closed stored own = cc
none_under (area.File n) (Some (area.File m)) closed stored own = cc
none_under area.Storage (Some (area.File m)) closed stored own = cc
none_under a (Some area.Storage) closed stored own = cc

none_here : (shared redefines : Bool) (parent : Option ℕ) (under top : Option Area) (a : Area) → is_open_in shared parent under ≡ false →
    (shared || redefines) ≡ false → is_file a ≡ false →
    (is_some parent ≡ true → is_under_01 a (cond (not (is_none parent)) under top) ≡ true) → ⊥
none_here true redefines parent under top a closed unshared stored own = cc
none_here false redefines None under top a closed unshared stored own = cc
none_here false redefines (Some p) under top a closed unshared stored own = none_under a under closed stored (own refl)

-- so elsewhere none is settled
none_settled : (above : Above) (place next : ℕ) (last : Option Neighbour) (f : Forest) → is_open above ≡ false →
    AllPairs IsUnsettled (flat f) (spots above place next last f)
none_settled above place next last bare closed = tt
none_settled above place next last (item d b r) closed =
    let s = spot above next last d b in (
      λ settled. none_here above.shared (is_some d.redefines) above.parent above.under _ d.area closed settled.unshared settled.stored settled.under,
      pairs_append IsUnsettled (flat b) (flat r) (inner above place next last d b) (outer above place next last d b r)
          (same_length (above_parts place s) (place + 1) s.start None b)
          (none_settled (above_parts place s) (place + 1) s.start None b (closed_below above.shared (is_some d.redefines) above.parent place above.under _ closed))
          (none_settled above (place + 1 + size b) (end_behind above next (lies_on_last above d last) s) (Some (record { item = d; spot = s })) r closed),
    )

-- ---- where a settled item, or a group of such, starts: not on the one before

lies_not : (redefines record_ file same : Bool) → redefines ≡ false → (record_ ≡ true → file ≡ false) → (redefines || (record_ && file && same)) ≡ false
lies_not true record_ file same e stored = absurd (cc)
lies_not false false file same e stored = refl
lies_not false true true same e stored = let no : true ≡ false = stored refl in absurd (cc)
lies_not false true false same e stored = refl

not_on_last : (above : Above) (d : Description) (last : Option Neighbour) → is_some d.redefines ≡ false → (is_record above ≡ true → is_file d.area ≡ false) →
    lies_on_last above d last ≡ false
not_on_last above d None e stored = refl
not_on_last above d (Some n) e stored = lies_not (is_some d.redefines) (is_record above) (is_file d.area) (same_area d.area n.item.area) e stored

starts_next : (above : Above) (next : ℕ) (d : Description) (last : Option Neighbour) → lies_on_last above d last ≡ false → start_at above next d last ≡ next
starts_next above next d None e = refl
starts_next above next d (Some n) e = rw e refl

right_false : (x y : Bool) → (x || y) ≡ false → y ≡ false
right_false true y e = absurd (cc)
right_false false y e = e

open_area : (parent : Option ℕ) (under : Option Area) (one : Bool) (a : Area) → is_stored (cond (not (is_none parent)) under (cond one (Some a) None)) ≡ true →
    is_none parent ≡ true → is_file a ≡ false
open_area (Some p) under one a held top = absurd (cc)
open_area None under false a held top = absurd (cc)
open_area None under true (area.File n) held top = absurd (cc)
open_area None under true area.Storage held top = refl

both_true : (x y : Bool) → (not x && y) ≡ true → (x ≡ false) × (y ≡ true)
both_true true y e = absurd (cc)
both_true false y e = (refl, e)

module _ (above : Above) (place next : ℕ) (last : Option Neighbour) (d : Description) (b : Forest) where
  abbrev here : Spot
  here = spot above next last d b

  settled_off : IsSettled d here → lies_on_last above d last ≡ false
  settled_off settled = not_on_last above d last (right_false above.shared (is_some d.redefines) settled.unshared) (λ top. settled.stored)

  open_off : is_open (above_parts place here) ≡ true → lies_on_last above d last ≡ false
  open_off held =
      let parts = both_true here.shared (is_stored here.under) held in
      not_on_last above d last (right_false above.shared (is_some d.redefines) parts.0) (open_area above.parent above.under _ d.area parts.1)

  -- the next item stands no further ahead
  end_no_less : next ≤ end_behind above next (lies_on_last above d last) here
  end_no_less = at (lies_on_last above d last) refl where
    at : (x : Bool) → lies_on_last above d last ≡ x → next ≤ end_behind above next x here
    at false e = omega (arith, starts_next above next d last e)
    at true e = among (is_record above) where
      among : (x : Bool) → next ≤ cond x (max next here.end) next
      among true = omega arith
      among false = omega arith

  end_here : lies_on_last above d last ≡ false → end_behind above next (lies_on_last above d last) here ≡ here.start + here.length
  end_here e = rw e refl

-- ---- settled items start behind what came before

starts_in : (above : Above) (place next : ℕ) (last : Option Neighbour) (f : Forest) → AllPairs (StartsFrom next) (flat f) (spots above place next last f)
starts_in above place next last bare = tt
starts_in above place next last (item d b r) =
    let s = spot above next last d b in
    let I = inner above place next last d b in
    let O = outer above place next last d b r in
    let further = end_behind above next (lies_on_last above d last) s in
    let below = starts_in (above_parts place s) (place + 1) s.start None b in
    let beside = starts_in above (place + 1 + size b) further (Some (record { item = d; spot = s })) r in (
      λ settled. omega (arith, starts_next above next d last (settled_off above place next last d b settled)),
      pairs_append (StartsFrom next) (flat b) (flat r) I O (same_length (above_parts place s) (place + 1) s.start None b)
          (at (is_open (above_parts place s)) refl below)
          (from_lower next further (end_no_less above place next last d b) (flat r) O beside),
    )
  where
    at : (x : Bool) → is_open (above_parts place (spot above next last d b)) ≡ x → AllPairs (StartsFrom (spot above next last d b).start) (flat b) (inner above place next last d b) →
        AllPairs (StartsFrom next) (flat b) (inner above place next last d b)
    at true held below =
        from_lower next (spot above next last d b).start (omega (arith, starts_next above next d last (open_off above place next last d b held))) (flat b) (inner above place next last d b) below
    at false closed below =
        pairs_map IsUnsettled (StartsFrom next) (λ e t none settled. absurd (none settled)) (flat b) (inner above place next last d b)
        (none_settled (above_parts place (spot above next last d b)) (place + 1) (spot above next last d b).start None b closed)

-- ---- and end before what comes behind

-- where the item behind a whole forest would start
abbrev far : Above → ℕ → Option Neighbour → Forest → ℕ
far above next last bare = next
far above next last (item d b r) =
    far above (end_behind above next (lies_on_last above d last) (spot above next last d b)) (Some (record { item = d; spot = spot above next last d b })) r

far_no_less : (above : Above) (next : ℕ) (last : Option Neighbour) (f : Forest) → next ≤ far above next last f
far_no_less above next last bare = omega arith
far_no_less above next last (item d b r) =
    omega (arith, end_no_less above 0 next last d b, far_no_less above (end_behind above next (lies_on_last above d last) (spot above next last d b)) (Some (record { item = d; spot = spot above next last d b })) r)

-- what redefines has something to lie on
abbrev pub HasRoom : Description → Spot → Type 0
HasRoom d s = is_some d.redefines ≡ true → is_some s.room ≡ true

has_last : (d : Description) (last : Option Neighbour) → is_some (room_behind d last) ≡ true → is_some last ≡ true
has_last d None e = absurd (cc)
has_last d (Some n) e = refl

or_nothing : (x : Bool) → (x || false) ≡ x
or_nothing true = refl
or_nothing false = refl

-- in a group an item lies on the one before only where it redefines
lies_is : (above : Above) (d : Description) (n : Neighbour) (p : ℕ) → above.parent ≡ Some p → lies_on above d n ≡ is_some d.redefines
lies_is above d n p e = rw e (or_nothing (is_some d.redefines))

end_in : (above : Above) (next : ℕ) (last : Option Neighbour) (d : Description) (b : Forest) (p : ℕ) → above.parent ≡ Some p →
    (x : Bool) → is_some d.redefines ≡ x → (x ≡ true → is_some last ≡ true) →
    end_behind above next (lies_on_last above d last) (spot above next last d b) ≡ next + cond x 0 (item_bytes d b)
end_in above next None d b p e true is has = let no : false ≡ true = has refl in absurd (cc)
end_in above next (Some n) d b p e true is has =
    let lies : lies_on above d n ≡ true = lies_is above d n p e ∙ is in
    rw (lies, e) (omega arith)
end_in above next None d b p e false is has = refl
end_in above next (Some n) d b p e false is has =
    let lies : lies_on above d n ≡ false = lies_is above d n p e ∙ is in
    rw lies refl

-- a group's parts end where it does
far_in : (above : Above) (place next : ℕ) (last : Option Neighbour) (f : Forest) (p : ℕ) → above.parent ≡ Some p →
    AllPairs HasRoom (flat f) (spots above place next last f) → far above next last f ≡ next + extent f
far_in above place next last bare p e room = omega arith
far_in above place next last (item d b r) p e room =
    let s = spot above next last d b in
    let further = end_behind above next (lies_on_last above d last) s in
    let same = same_length (above_parts place s) (place + 1) s.start None b in
    let end = end_in above next last d b p e (is_some d.redefines) refl (λ redefines. has_last d last (room.0 redefines)) in
    let rest = far_in above (place + 1 + size b) further (Some (record { item = d; spot = s })) r p e
    (pairs_right HasRoom (flat b) (flat r) (inner above place next last d b) (outer above place next last d b r) same room.1) in
    omega (arith, rest, end)

parts_end : (place start : ℕ) (above : Above) (d : Description) (b : Forest) (p : ℕ) → above.parent ≡ Some p →
    AllPairs HasRoom (flat b) (spots above place start None b) → far above start None b ≤ start + item_bytes d b
parts_end place start above d bare p e room = omega arith
parts_end place start above d (item x c r) p e room = omega (arith, far_in above place start None (item x c r) p e room)

-- what is below an item ends where what follows the item starts, or before
below_ends : (above : Above) (place next : ℕ) (last : Option Neighbour) (d : Description) (b : Forest) → AllPairs HasRoom (flat b) (inner above place next last d b) →
    AllPairs (EndsBy (far (above_parts place (spot above next last d b)) (spot above next last d b).start None b)) (flat b) (inner above place next last d b) →
    AllPairs (EndsBy (end_behind above next (lies_on_last above d last) (spot above next last d b))) (flat b) (inner above place next last d b)
below_ends above place next last d b room below = at (is_open (above_parts place (spot above next last d b))) refl where
  at : (x : Bool) → is_open (above_parts place (spot above next last d b)) ≡ x →
      AllPairs (EndsBy (end_behind above next (lies_on_last above d last) (spot above next last d b))) (flat b) (inner above place next last d b)
  at true held =
      let s = spot above next last d b in
      let whole = parts_end (place + 1) s.start (above_parts place s) d b place refl room in
      let end = end_here above place next last d b (open_off above place next last d b held) in
      to_higher (far (above_parts place s) s.start None b) (end_behind above next (lies_on_last above d last) s) (omega (arith, whole, end)) (flat b) (inner above place next last d b) below
  at false closed =
      pairs_map IsUnsettled (EndsBy (end_behind above next (lies_on_last above d last) (spot above next last d b))) (λ e t none settled. absurd (none settled))
      (flat b) (inner above place next last d b) (none_settled (above_parts place (spot above next last d b)) (place + 1) (spot above next last d b).start None b closed)

ends_in : (above : Above) (place next : ℕ) (last : Option Neighbour) (f : Forest) → AllPairs HasRoom (flat f) (spots above place next last f) →
    AllPairs (EndsBy (far above next last f)) (flat f) (spots above place next last f)
ends_in above place next last bare room = tt
ends_in above place next last (item d b r) room =
    let s = spot above next last d b in
    let I = inner above place next last d b in
    let O = outer above place next last d b r in
    let further = end_behind above next (lies_on_last above d last) s in
    let all = far above next last (item d b r) in
    let same = same_length (above_parts place s) (place + 1) s.start None b in
    let room_below = pairs_left HasRoom (flat b) (flat r) I O same room.1 in
    let rest : further ≤ all = far_no_less above further (Some (record { item = d; spot = s })) r in
    let below = ends_in (above_parts place s) (place + 1) s.start None b room_below in
    let beside = ends_in above (place + 1 + size b) further (Some (record { item = d; spot = s })) r (pairs_right HasRoom (flat b) (flat r) I O same room.1) in (
      λ settled. omega (arith, end_here above place next last d b (settled_off above place next last d b settled), rest),
      pairs_append (EndsBy all) (flat b) (flat r) I O same
          (to_higher further all rest (flat b) I (below_ends above place next last d b room_below below)) beside,
    )

-- ---- so they follow each other

behind_alone : (above : Above) (place next : ℕ) (last : Option Neighbour) (d : Description) (b r : Forest) (from : ℕ) → not (is_bare b) ≡ false →
    AllPairs (StartsFrom from) (flat r) (outer above place next last d b r) →
    AllPairs (StartsFrom from) (flat b ++ flat r) (inner above place next last d b ++ outer above place next last d b r)
behind_alone above place next last d bare r from alone beside = beside
behind_alone above place next last d (item x c e) r from alone beside = absurd (cc)

follow_in : (above : Above) (place next : ℕ) (last : Option Neighbour) (f : Forest) → AllPairs HasRoom (flat f) (spots above place next last f) →
    FollowEachOther (flat f) (spots above place next last f)
follow_in above place next last bare room = tt
follow_in above place next last (item d b r) room =
    let s = spot above next last d b in
    let I = inner above place next last d b in
    let O = outer above place next last d b r in
    let further = end_behind above next (lies_on_last above d last) s in
    let same = same_length (above_parts place s) (place + 1) s.start None b in
    let room_below = pairs_left HasRoom (flat b) (flat r) I O same room.1 in
    let starts = starts_in above (place + 1 + size b) further (Some (record { item = d; spot = s })) r in
    let ends = below_ends above place next last d b room_below (ends_in (above_parts place s) (place + 1) s.start None b room_below) in
    let below = follow_in (above_parts place s) (place + 1) s.start None b room_below in
    let beside = follow_in above (place + 1 + size b) further (Some (record { item = d; spot = s })) r (pairs_right HasRoom (flat b) (flat r) I O same room.1) in (
      λ settled.
          let end = end_here above place next last d b (settled_off above place next last d b settled) in
          behind_alone above place next last d b r (s.start + s.length) settled.alone (from_lower (s.start + s.length) further (omega (arith, end)) (flat r) O starts),
      follow_append further (flat b) (flat r) I O same below beside ends starts,
    )

pub all_follow : (ds : List Description) → AllPairs HasRoom ds (all_spots ds) → FollowEachOther ds (all_spots ds)
all_follow ds room =
    let items = flat_forest ds in
    let whole : AllPairs HasRoom (flat (forest ds)) (all_spots ds) = subst (λ xs. AllPairs HasRoom xs (all_spots ds)) (sym items) room in
    subst (λ xs. FollowEachOther xs (all_spots ds)) items (follow_in nothing_above 0 0 None (forest ds) whole)

-- ---- the rule on redefinitions

room_of : (redefines refused : Bool) (d : Description) (bytes : ℕ) (room : Option ℕ) → (redefines && not (not refused && has_room d bytes room)) ≡ false →
    redefines ≡ true → is_some room ≡ true
room_of redefines refused d bytes (Some n) kept e = refl
room_of true true d bytes None kept e = absurd (cc)
room_of true false d bytes None kept e = absurd (cc)
room_of false refused d bytes None kept e = absurd (cc)

pub rooms_kept : (ds : List Description) (ss : List Spot) → AllPairs (λ d s. item_breaks L6 d s ≡ false) ds ss → AllPairs HasRoom ds ss
rooms_kept ds ss kept = pairs_map (λ d s. item_breaks L6 d s ≡ false) HasRoom (λ d s held. room_of (is_some d.redefines) _ d s.length s.room held) ds ss kept
