-- Parts that write nothing: what is seen stays true.
use Rattle.std.proofs.Common.{◌≡◌, ℕ, Bool, true, false, ◌||◌, inl, inr, List, [], ◌∷◌, ◌++◌, Option, Some, None, ℤ, refl, sym, ap, subst, ◌∙◌}
use Rattle.std.specs.Prelude.{IfSome, IsSomeAnd}
use Rattle.std.specs.List.{Contains}
use Rattle.std.specs.Option.{option_map}
use Rattle.dec_num.specs.declared.types.Scaled.{Scaled}
use Rattle.cob_data.specs.declared.layout.Layout.{Layout}
use Rattle.interval_domain.specs.declared.bounds.Interval.{Interval}
use Rattle.interval_domain.specs.Bounds.{Holds}
use Rattle.num_bytes.specs.Reading.{contents_value}
use Rattle.cob_program.specs.Values.{whole_number}
use Rattle.cob_program.specs.Logic.{Test}
use Rattle.cob_program.specs.Act.{Act, Program}
use Rattle.cob_runs.specs.declared.action.Action.{Action}
use Rattle.cob_runs.specs.Contents.{form_at, bytes_at, scale_of, scaled_by, number_at}
use Rattle.cob_edge_parts.specs.Parts.{Part, read, guard, read_count, guard_count}
use Rattle.cob_edge_parts.specs.Meaning as run
use Rattle.cob_edge_parts.specs.Meaning.{Moment, with_own, count_in, ReadsAt}
use Rattle.dom_laws.specs.Walking.{IsSeen}
use Rattle.sum_ranges.specs.declared.ranged.Ranged.{Ranged}
use Rattle.transfer_ranges.specs.declared.amounts.Taken.{Taken}
use Rattle.cob_edge_parts.specs.Counters.{IsCount, PassesPart, PassesParts}
use Rattle.transfer_ranges.specs.declared.cuts.Cut.{Cut}
use Rattle.transfer_ranges.specs.declared.cuts.Cuts.{Cuts}
use Rattle.transfer_ranges.specs.Guards.{guarded}
use Rattle.transfer_ranges.specs.Counts.{count_kept}
use Rattle.transfer_ranges.specs.Meaning.{CutHolds, CutsHold}
use Rattle.interval_domain.specs.Known.{Known}
use Rattle.cob_graph.specs.declared.homes.Home.{Home}
use Rattle.cob_graph.specs.declared.homes.Home.TheVariants.{Item as of_item, Count as of_count}
use Rattle.cob_graph.specs.Homes.{homes_of}
use Rattle.cell_steps.specs.Premises.{HasSoundItems}
use Rattle.cell_steps.specs.Storages.{storage, known_of, value_at, KnownStands, HomeStands, StandsIn}
use Rattle.cell_steps.specs.Cells.{is_table, units_of, is_numeric}
use Rattle.cell_steps.specs.Seen.{Seen, with_cells}
use Rattle.cell_steps.specs.Stores.{handled, range_at}
use Rattle.cell_steps.specs.Steps.{known_as, read_cells, cut_cells, all_cut, guarded_cells, counted_cells, with_cells_if, after_read}
use Rattle.cell_steps.specs.Agreeing.{IsTimesAt, OperandsHold, writes, is_store, Agrees, walking}
use Rattle.cell_laws.proofs.CellLists.{chosen}
use Rattle.cell_laws.proofs.WalkLaws.{Given}
use Rattle.cell_laws.proofs.HomesHold.{home_set, some_times, each_of_one, units_hold, items_hold, count_holds}
use Rattle.cell_laws.proofs.PartsDone.{any_front, any_last, passes_snoc}

-- ---- moments

-- storage, counters and flags are as they were
pub record SameMoment (m n : Moment) : Type 0 where
  pub storage_ : n.storage ≡ m.storage
  pub counts : n.counts ≡ m.counts
  pub first : n.first ≡ m.first
  pub zero : n.by_zero ≡ m.by_zero
  pub failed : n.failed ≡ m.failed

pub same_moment : (m n : Moment) → n ≡ m → SameMoment m n
same_moment m n e = record {
  storage_ = ap (λ (k : Moment). k.storage) e;
  counts = ap (λ (k : Moment). k.counts) e;
  first = ap (λ (k : Moment). k.first) e;
  zero = ap (λ (k : Moment). k.by_zero) e;
  failed = ap (λ (k : Moment). k.failed) e;
}

pub own_moment : (m n : Moment) (v : Scaled) → n ≡ with_own m v → SameMoment m n
own_moment m n v e = record {
  storage_ = ap (λ (k : Moment). k.storage) e;
  counts = ap (λ (k : Moment). k.counts) e;
  first = ap (λ (k : Moment). k.first) e;
  zero = ap (λ (k : Moment). k.by_zero) e;
  failed = ap (λ (k : Moment). k.failed) e;
}

pub read_moment : (l : Layout) (b : Bool) (place : ℕ) (m n : Moment) → ReadsAt l b place m n → SameMoment m n
read_moment l true place m n e = same_moment m n e
read_moment l false place m n (v, f, e) = own_moment m n v e

-- ---- numbers

pub value_of_number : (scale : ℕ) (o : Option ℤ) (v : Scaled) → option_map (scaled_by scale) o ≡ Some v → o ≡ Some v.units
value_of_number scale None v e = absurd cc
value_of_number scale (Some z) v e =
    let same : scaled_by scale z ≡ v = cc in
    ap (λ (w : Scaled). Some w.units) same

-- ---- what is seen

-- cells aside, nothing less has happened
pub record SeenOn (s t : Seen) : Type 0 where
  pub written : t.written ≡ s.written
  pub common : t.common ≡ s.common
  pub zero : s.may_zero ≡ true → t.may_zero ≡ true
  pub fails : s.any_fail ≡ true → t.any_fail ≡ true

pub seen_on : (s : Seen) → SeenOn s s
seen_on s = record { written = refl; common = refl; zero = λ e. e; fails = λ e. e }

pub cells_on : (s : Seen) (cells : List Known) → SeenOn s (with_cells s cells)
cells_on s cells = record { written = refl; common = refl; zero = λ e. e; fails = λ e. e }

module _ (p : Program) (statement : ℕ) (a : Act) (x : Action) where
  -- what is known of homes is true of a moment
  abbrev pub AllKnown : List Known → Moment → Type 0
  AllKnown cells m = (h : Home) → HomeStands p.layout (storage m.storage m.counts) (known_of (homes_of p) cells h) h

  same_stands : (cells : List Known) (m n : Moment) → SameMoment m n → StandsIn p cells (storage m.storage m.counts) → StandsIn p cells (storage n.storage n.counts)
  same_stands cells m n same h =
      subst (λ (bytes : List ℕ). StandsIn p cells (storage bytes n.counts)) (sym same.storage_)
      (subst (λ (counts : List (Option ℤ)). StandsIn p cells (storage m.storage counts)) (sym same.counts) h)

  -- a part that writes nothing
  pub quiet_at : (done : List Part) (y : Part) (s t : Seen) (m n : Moment) → Agrees p statement a x done s m → PassesPart p.layout (handled p a x) y m n
      → writes y ≡ false → is_store y ≡ false → n.storage ≡ m.storage → n.first ≡ m.first → n.by_zero ≡ m.by_zero → n.failed ≡ m.failed
      → SeenOn s t → StandsIn p t.cells (storage n.storage n.counts) → Agrees p statement a x (done ++ y ∷ []) t n
  quiet_at done y s t m n g passes quiet_ no_store bytes first divided failed on stands = record {
    sound = g.sound;
    counts = g.counts;
    passed = subst (λ (before : List ℕ). PassesParts p.layout (handled p a x) (done ++ y ∷ []) (run.beginning before g.counts) n) (sym first)
        (passes_snoc p.layout (handled p a x) done y (run.beginning m.first g.counts) m n g.passed passes);
    stands = stands;
    fresh = λ e. bytes ∙ (g.fresh (sym on.written ∙ e) ∙ sym first);
    unwritten = λ e. on.written ∙ g.unwritten (any_front writes done (y ∷ []) e);
    took = λ e. subst (λ (before : List ℕ). OperandsHold p statement a x before t.common) (sym first)
        (subst (λ (c : Option Taken). OperandsHold p statement a x m.first c) (sym on.common) (g.took (sym on.written ∙ e)));
    taken = λ e. let k = g.taken (sym on.written ∙ e) in (k.0, on.common ∙ k.1);
    zero = λ e. on.zero (g.zero (sym divided ∙ e));
    fails = λ e f. on.fails (g.fails (sym failed ∙ e) (sym divided ∙ f));
    all_fail = λ e f. elim (any_last is_store done y f) [
      | inl h ↦ on.fails (g.all_fail (sym divided ∙ e) h)
      | inr h ↦ absurd cc
    ];
  }

  pub quiet : (done : List Part) (y : Part) (s t : Seen) (m n : Moment) → Agrees p statement a x done s m → PassesPart p.layout (handled p a x) y m n
      → writes y ≡ false → is_store y ≡ false → SameMoment m n → SeenOn s t → AllKnown t.cells m → Agrees p statement a x (done ++ y ∷ []) t n
  quiet done y s t m n g passes quiet_ no_store same on known =
      quiet_at done y s t m n g passes quiet_ no_store same.storage_ same.first same.zero same.failed on
      (same_stands t.cells m n same (record { whole = g.stands.whole; counted = g.stands.counted; known = known }))

  -- ---- reads

  -- what is read is known
  pub item_known : HasSoundItems p.layout → (cells : List Known) (m : Moment) (place : ℕ) (v : Scaled) (i : Interval) → is_table p.layout place ≡ false → AllKnown cells m
      → number_at p.layout m.storage place ≡ Some v → Holds i v.units → AllKnown (known_as p (of_item place) cells i) m
  item_known sound cells m place v i plain known e h =
      home_set p cells (storage m.storage m.counts) (of_item place) (Some i)
      (λ there. each_of_one p.layout sound place plain (λ n. KnownStands (Some i) (value_at p.layout (storage m.storage m.counts) (of_item place) n))
      (subst (λ (w : Option ℤ). KnownStands (Some i) w)
      (sym (value_of_number (scale_of (form_at p.layout place)) (contents_value (form_at p.layout place) (bytes_at p.layout m.storage place)) v e)) h))
      (λ g there d. known g)

  read_known : (done : List Part) (place : ℕ) (s : Seen) (m n : Moment) → Agrees p statement a x done s m → is_table p.layout place ≡ false → ReadsAt p.layout false place m n → AllKnown (read_cells p (of_item place) s.cells) m
  read_known done place s m n g plain (v, e, same) =
      item_known g.sound.items s.cells m place v (units_of p.layout (homes_of p) s.cells (of_item place)) plain g.stands.known e
      (units_hold p g.sound.items s.cells (storage m.storage m.counts) g.stands place 0 v.units (some_times p.layout g.sound.items place)
      (value_of_number (scale_of (form_at p.layout place)) (contents_value (form_at p.layout place) (bytes_at p.layout m.storage place)) v e))

  pub read_keeps : (done : List Part) (place : ℕ) (s : Seen) (m n : Moment) → Agrees p statement a x done s m → PassesPart p.layout (handled p a x) (read place) m n
      → Agrees p statement a x (done ++ read place ∷ []) (after_read p place s) n
  read_keeps done place s m n g h =
      let same = read_moment p.layout m.by_zero place m n h.0 in
      chosen (λ (t : Seen). Agrees p statement a x (done ++ read place ∷ []) t n) (s.may_zero || is_table p.layout place) s (with_cells s (read_cells p (of_item place) s.cells))
      (λ e. quiet done (read place) s s m n g h refl refl same (seen_on s) g.stands.known)
      (λ e. quiet done (read place) s (with_cells s (read_cells p (of_item place) s.cells)) m n g h refl refl same (cells_on s (read_cells p (of_item place) s.cells))
      (let neither = or_false s.may_zero (is_table p.layout place) e in
      read_known done place s m n g neither.1 (subst (λ (b : Bool). ReadsAt p.layout b place m n) (not_zero neither.0 m.by_zero refl) h.0)))
    where
      or_false : (b c : Bool) → (b || c) ≡ false → (b ≡ false) × (c ≡ false)
      or_false true c f = absurd cc
      or_false false c f = (refl, f)

      not_zero : s.may_zero ≡ false → (b : Bool) → m.by_zero ≡ b → m.by_zero ≡ false
      not_zero e true f = absurd (let one = g.zero f in cc)
      not_zero e false f = f

  -- ---- tests

  cut_known : HasSoundItems p.layout → (cells : List Known) (m : Moment) (range : ℕ → Ranged) (o : Option Cut) → AllKnown cells m → IfSome o (CutHolds p.layout range m.storage) → AllKnown (cut_cells p cells o) m
  cut_known sound cells m range None known h = known
  cut_known sound cells m range (Some c) known h =
      chosen (λ (cs : List Known). AllKnown cs m) (is_table p.layout c.item) cells (known_as p (of_item c.item) cells c.units)
      (λ e. known) (λ e. item_known sound cells m c.item h.0 c.units e known h.1 h.2.held)

  pub seen_cells : (done : List Part) (y : Part) (s : Seen) (m n : Moment) (o : Option (List Known)) → Agrees p statement a x done s m → PassesPart p.layout (handled p a x) y m n
      → writes y ≡ false → is_store y ≡ false → SameMoment m n → IsSomeAnd o (λ cells. AllKnown cells m)
      → IsSeen (walking p statement a x) (with_cells_if s o) (λ t. Agrees p statement a x (done ++ y ∷ []) t n)
  seen_cells done y s m n None g h q r same known = absurd known
  seen_cells done y s m n (Some cells) g h q r same known = quiet done y s (with_cells s cells) m n g h q r same (cells_on s cells) known

  pub guard_keeps : Given → (done : List Part) (v : Test) (wanted : Bool) (s : Seen) (m n : Moment) → Agrees p statement a x done s m → PassesPart p.layout (handled p a x) (guard v wanted) m n
      → IsSeen (walking p statement a x) (with_cells_if s (guarded_cells p v wanted s.cells)) (λ t. Agrees p statement a x (done ++ guard v wanted ∷ []) t n)
  guard_keeps given done v wanted s m n g h =
      seen_cells done (guard v wanted) s m n (guarded_cells p v wanted s.cells) g h refl refl (same_moment m n h.0.1)
      (cuts (guarded p.layout (range_at p s.cells) (is_numeric p.layout (homes_of p) s.cells) v wanted)
      (given.guards_ p.layout (range_at p s.cells) (is_numeric p.layout (homes_of p) s.cells) m.storage (items_hold p g.sound.items s.cells (storage m.storage m.counts) g.stands) v wanted h.0.0))
    where
      cuts : (o : Option Cuts) → IsSomeAnd o (CutsHold p.layout (range_at p s.cells) m.storage) → IsSomeAnd (option_map (all_cut p s.cells) o) (λ cells. AllKnown cells m)
      cuts None k = absurd k
      cuts (Some c) k = cut_known g.sound.items (cut_cells p s.cells c.left) m (range_at p s.cells) c.right (cut_known g.sound.items s.cells m (range_at p s.cells) c.left g.stands.known k.0) k.1

  -- ---- counters

  -- the number of a TIMES's counter
  pub times_small : (s : Seen) (m : Moment) (n : ℕ) (v : ℤ) → StandsIn p s.cells (storage m.storage m.counts) → IsTimesAt p n → count_in m.counts n ≡ Some v → IsCount v
  times_small s m n v stands is e =
      let h = stands.counted n is.act is.at is.times in
      let held = h.held in
      let same : h.count ≡ v = cc in
      subst (λ (w : ℤ). IsCount w) same h.small

  pub count_known : (cells : List Known) (m : Moment) (n : ℕ) (v : ℤ) (i : Interval) → AllKnown cells m → count_in m.counts n ≡ Some v → (Contains (homes_of p) (of_count n) → Holds i v) → AllKnown (known_as p (of_count n) cells i) m
  count_known cells m n v i known e h =
      home_set p cells (storage m.storage m.counts) (of_count n) (Some i)
      (λ there k less. subst (λ (w : Option ℤ). KnownStands (Some i) w) (sym e) (h there))
      (λ g there d. known g)

  pub read_count_keeps : (done : List Part) (k : ℕ) (s : Seen) (m n : Moment) → Agrees p statement a x done s m → PassesPart p.layout (handled p a x) (read_count k) m n
      → Agrees p statement a x (done ++ read_count k ∷ []) (with_cells s (read_cells p (of_count k) s.cells)) n
  read_count_keeps done k s m n g h =
      let v = h.0.0 in
      let e = h.0.1 in
      quiet done (read_count k) s (with_cells s (read_cells p (of_count k) s.cells)) m n g h refl refl (own_moment m n (whole_number v) h.0.2) (cells_on s (read_cells p (of_count k) s.cells))
      (count_known s.cells m k v (units_of p.layout (homes_of p) s.cells (of_count k)) g.stands.known e
      (λ there. count_holds p g.sound.items s.cells (storage m.storage m.counts) g.stands k v e (times_small s m k v g.stands (g.sound.counts k there) e)))

  pub guard_count_keeps : Given → (done : List Part) (k : ℕ) (wanted : Bool) (s : Seen) (m n : Moment) → IsTimesAt p k → Agrees p statement a x done s m → PassesPart p.layout (handled p a x) (guard_count k wanted) m n
      → IsSeen (walking p statement a x) (with_cells_if s (counted_cells p k wanted s.cells)) (λ t. Agrees p statement a x (done ++ guard_count k wanted ∷ []) t n)
  guard_count_keeps given done k wanted s m n is g h =
      seen_cells done (guard_count k wanted) s m n (counted_cells p k wanted s.cells) g h refl refl (same_moment m n h.0.3)
      (kept (count_kept wanted (units_of p.layout (homes_of p) s.cells (of_count k)))
      (given.counts_ wanted (units_of p.layout (homes_of p) s.cells (of_count k)) h.0.0
      (count_holds p g.sound.items s.cells (storage m.storage m.counts) g.stands k h.0.0 h.0.1 (times_small s m k h.0.0 g.stands is h.0.1)) h.0.2))
    where
      kept : (o : Option Interval) → IsSomeAnd o (λ i. Holds i h.0.0) → IsSomeAnd (option_map (known_as p (of_count k) s.cells) o) (λ cells. AllKnown cells m)
      kept None f = absurd f
      kept (Some i) f = count_known s.cells m k h.0.0 i g.stands.known h.0.1 (λ there. f)
