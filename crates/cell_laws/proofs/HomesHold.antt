-- Numbers of a storage lie in the ranges of what is known of it.
use Rattle.std.proofs.Common.{◌≡◌, ◌<◌, ℕ, suc, Bool, true, false, if◌then◌else◌, List, [], ◌∷◌, Option, Some, None, is_some, ℤ, pos, ◌≤ℤ◌, refl, sym, subst, arith}
use Rattle.std.specs.Prelude.{neg_ℤ, ◌-◌, ◌^◌, unsigned_abs}
use Rattle.std.specs.List.{Contains}
use Rattle.std.specs.Option.{option_map, option_map_or}
use Rattle.std.proofs.lemmas.Int.{ints}
use Rattle.dec_num.specs.declared.types.Scaled.{Scaled}
use Rattle.interval_domain.specs.declared.bounds.Interval.{Interval}
use Rattle.interval_domain.specs.Bounds.{Holds}
use Rattle.cob_data.specs.declared.layout.Item.{Item}
use Rattle.cob_data.specs.declared.layout.Layout.{Layout}
use Rattle.cob_program.specs.Act.{Program}
use Rattle.num_bytes.specs.Reading.{contents_value}
use Rattle.cob_runs.specs.Contents.{item_at, form_at, times_at, occurrence_bytes, occurrence_number, scale_of, scaled_by, number_at}
use Rattle.cob_edge_parts.specs.Meaning.{count_in}
use Rattle.sum_ranges.specs.Ranged.{IsIn, IsOrdered}
use Rattle.dom_laws.specs.Meaning.{Storage}
use Rattle.cob_edge_parts.specs.Counters.{IsCount, HoldsCount}
use Rattle.transfer_ranges.specs.Meaning.{ItemsHold}
use Rattle.interval_domain.specs.Known.{Known}
use Rattle.cob_graph.specs.declared.homes.Home.{Home}
use Rattle.cob_graph.specs.declared.homes.Home.TheVariants.{Item as of_item, Count as of_count}
use Rattle.cob_graph.specs.Homes.{is_home, homes_of}
use Rattle.cell_steps.specs.OwnRanges.{home_range, picture_range}
use Rattle.cell_steps.specs.Storages.{known_of, value_at, KnownStands, HomeStands, StandsIn}
use Rattle.cell_steps.specs.Premises.{HasSoundItems}
use Rattle.cell_steps.specs.Cells.{is_table, known_or, units_of, is_numeric, with_known}
use Rattle.cell_steps.specs.Stores.{range_at}
use Rattle.cell_steps.specs.Agreeing.{IsTimesAt}
use Rattle.cell_laws.proofs.ItemRanges.{home_ordered}
use Rattle.cell_laws.proofs.CellLists.{home_is}
use Rattle.cell_laws.proofs.HomesStand.{known_after}

-- ---- homes of a program

-- What is known of a home that no cell is of is nothing.
pub if_home : (P : Known → Type 0) → P None → (hs : List Home) (cs : List Known) (h : Home) → (Contains hs h → P (known_of hs cs h)) → P (known_of hs cs h)
if_home P none [] cs h there = none
if_home P none (k ∷ hs) [] h there = none
if_home P none (k ∷ hs) (d ∷ cs) h there = go (is_home k h) refl there (λ t. if_home P none hs cs h t)
  where
    behind : Contains hs h → Contains (k ∷ hs) h
    behind c = (suc c.0, omega (arith, c.1), c.2)

    first : k ≡ h → Contains (k ∷ hs) h
    first e = (0, omega (arith), e)

    go : (v : Bool) → is_home k h ≡ v → (Contains (k ∷ hs) h → P (if v then d else known_of hs cs h)) → ((Contains hs h → P (known_of hs cs h)) → P (known_of hs cs h)) → P (if v then d else known_of hs cs h)
    go true e t rest = t (first (home_is k h e))
    go false e t rest = rest (λ c. t (behind c))

-- one home is known otherwise, and others are true of the storage
pub home_set : (p : Program) (cells : List Known) (s : Storage) (h : Home) (c : Known)
    → (Contains (homes_of p) h → HomeStands p.layout s c h)
    → ((g : Home) → Contains (homes_of p) g → ¬ g ≡ h → HomeStands p.layout s (known_of (homes_of p) cells g) g)
    → (g : Home) → HomeStands p.layout s (known_of (homes_of p) (with_known h c (homes_of p) cells) g) g
home_set p cells s h c new old g =
    if_home (λ k. HomeStands p.layout s k g) (λ n less. tt) (homes_of p) (with_known h c (homes_of p) cells) g
    (λ there. known_after (λ k. HomeStands p.layout s k g) (λ n less. tt) (homes_of p) cells h g c
    (λ e. subst (λ (k : Home). HomeStands p.layout s c k) (sym e) (new (subst (λ (k : Home). Contains (homes_of p) k) e there)))
    (λ n. old g there n))

-- ---- values

known_holds : (own : Interval) (k : Known) (v : Option ℤ) (z : ℤ) → v ≡ Some z → KnownStands k v → Holds own z → Holds (known_or own k) z
known_holds own None v z e h o = o
known_holds own (Some i) v z e h o = subst (λ w. KnownStands (Some i) w) e h

known_ordered : (own : Interval) (k : Known) (v : Option ℤ) → own.low ≤ℤ own.high → KnownStands k v → (known_or own k).low ≤ℤ (known_or own k).high
known_ordered own None v o h = o
known_ordered own (Some i) None o h = absurd h
known_ordered own (Some i) (Some z) o (a, b) = omega (arith, ints, a, b)

known_there : (k : Known) (v : Option ℤ) → KnownStands k v → is_some k ≡ true → is_some v ≡ true
known_there None v h e = absurd cc
known_there (Some i) None h e = absurd h
known_there (Some i) (Some z) h e = refl

count_in_picture : (v : ℤ) → IsCount v → Holds (picture_range 18 true) v
count_in_picture v h = go (10 ^ 18) h
  where
    go : (n : ℕ) → unsigned_abs v < n → (neg_ℤ (pos (n - 1)) ≤ℤ v) × (v ≤ℤ pos (n - 1))
    go n k = (omega (arith, ints, k), omega (arith, ints, k))

-- ---- occurrences

-- each item has some
pub some_times : (l : Layout) → HasSoundItems l → (place : ℕ) → 0 < times_at l place
some_times l sound place = go (item_at l place) refl
  where
    go : (o : Option Item) → item_at l place ≡ o → 0 < option_map_or (λ i. i.times) o 1
    go None e = omega arith
    go (Some i) e = (sound.extent place i e).some

-- What is no table's has one: what holds of the first holds of each.
pub each_of_one : (l : Layout) → HasSoundItems l → (place : ℕ) → is_table l place ≡ false → (P : ℕ → Type 0) → P 0 → (n : ℕ) → n < times_at l place → P n
each_of_one l sound place plain P first n less =
    let one = sound.one place plain in
    let same : 0 ≡ n = omega (arith, less, one) in
    subst P same first

module _ (p : Program) (sound : HasSoundItems p.layout) (cells : List Known) (s : Storage) (stands : StandsIn p cells s) where
  pub units_hold : (place n : ℕ) (z : ℤ) → n < times_at p.layout place → contents_value (form_at p.layout place) (occurrence_bytes p.layout s.bytes place n) ≡ Some z
      → Holds (units_of p.layout (homes_of p) cells (of_item place)) z
  units_hold place n z less e =
      known_holds (home_range p.layout (of_item place)) (known_of (homes_of p) cells (of_item place)) (value_at p.layout s (of_item place) n) z e (stands.known (of_item place) n less)
      (sound.own place n s.bytes z stands.whole less e)

  -- the number of an item's occurrence lies in the item's range
  pub occurrence_holds : (place n : ℕ) (v : Scaled) → n < times_at p.layout place → occurrence_number p.layout s.bytes place n ≡ Some v → IsIn v (range_at p cells place)
  occurrence_holds place n v less e = go (contents_value (form_at p.layout place) (occurrence_bytes p.layout s.bytes place n)) refl e
    where
      go : (o : Option ℤ) → contents_value (form_at p.layout place) (occurrence_bytes p.layout s.bytes place n) ≡ o → option_map (scaled_by (scale_of (form_at p.layout place))) o ≡ Some v → IsIn v (range_at p cells place)
      go None f g = absurd cc
      go (Some z) f g =
          let same : scaled_by (scale_of (form_at p.layout place)) z ≡ v = cc in
          subst (λ (w : Scaled). IsIn w (range_at p cells place)) same (record { held = units_hold place n z less f; scale = refl })

  pub number_holds : (place : ℕ) (v : Scaled) → number_at p.layout s.bytes place ≡ Some v → IsIn v (range_at p cells place)
  number_holds place v e = occurrence_holds place 0 v (some_times p.layout sound place) e

  pub range_is_ordered : (place : ℕ) → IsOrdered (range_at p cells place)
  range_is_ordered place =
      known_ordered (home_range p.layout (of_item place)) (known_of (homes_of p) cells (of_item place)) (value_at p.layout s (of_item place) 0) (home_ordered p.layout (of_item place))
      (stands.known (of_item place) 0 (some_times p.layout sound place))

  -- each occurrence of what is known to be numeric has a number
  pub occurrence_there : (place n : ℕ) → n < times_at p.layout place → is_numeric p.layout (homes_of p) cells place ≡ true → is_some (occurrence_number p.layout s.bytes place n) ≡ true
  occurrence_there place n less e =
      mapped (contents_value (form_at p.layout place) (occurrence_bytes p.layout s.bytes place n)) (known_there (known_of (homes_of p) cells (of_item place)) (value_at p.layout s (of_item place) n) (stands.known (of_item place) n less) e)
    where
      mapped : (o : Option ℤ) → is_some o ≡ true → is_some (option_map (scaled_by (scale_of (form_at p.layout place))) o) ≡ true
      mapped None f = f
      mapped (Some z) f = refl

  pub numeric_there : (place : ℕ) → is_numeric p.layout (homes_of p) cells place ≡ true → is_some (number_at p.layout s.bytes place) ≡ true
  numeric_there place e = occurrence_there place 0 (some_times p.layout sound place) e

  pub items_hold : ItemsHold p.layout (range_at p cells) (is_numeric p.layout (homes_of p) cells) s.bytes
  items_hold = record { ordered = range_is_ordered; numbers = number_holds; numeric = numeric_there }

  -- a counter's number lies in its range
  pub count_holds : (n : ℕ) (v : ℤ) → count_in s.counters n ≡ Some v → IsCount v → Holds (units_of p.layout (homes_of p) cells (of_count n)) v
  count_holds n v e small =
      known_holds (home_range p.layout (of_count n)) (known_of (homes_of p) cells (of_count n)) (value_at p.layout s (of_count n) 0) v e (stands.known (of_count n) 0 (omega arith)) (count_in_picture v small)

  -- the counter of a TIMES holds a number that fits
  pub times_count : (n : ℕ) → IsTimesAt p n → HoldsCount s.counters n
  times_count n t = stands.counted n t.act t.at t.times
