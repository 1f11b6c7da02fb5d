-- What is seen behind a part is true where what is seen before it is.
use Rattle.std.proofs.Common.{◌≡◌, ◌<◌, ◌≤◌, ℕ, ◌+◌, ◌==◌, Bool, true, false, ◌&&◌, ◌||◌, not, if◌then◌else◌, inl, inr, List, [], ◌∷◌, ◌++◌, length, Option, Some, None, is_some, ℤ, pos, ◌-ℤ◌, refl, sym, ap, subst, ◌∙◌, arith}
use Rattle.std.specs.Prelude.{IfSome, IsSomeAnd, int_le, nat_lt, ◌^◌, unsigned_abs, unwrap_or, slice_set, ◌-◌}
use Rattle.std.specs.List.{list_any, Contains}
use Rattle.std.specs.Option.{option_map, option_map_or}
use Rattle.std.proofs.lemmas.Int.{ints}
use Rattle.std.proofs.lemmas.Bool.{eqb-true, eq-eqb}
use Rattle.std.proofs.lemmas.Bool.Decides.{nat_tests}
use Rattle.dec_num.specs.declared.types.Mode.{Mode}
use Rattle.dec_num.specs.declared.types.Scaled.{Scaled}
use Rattle.dec_num.specs.Exact.{Fraction}
use Rattle.dec_num.specs.Scaled.{value_of}
use Rattle.cob_data.specs.declared.layout.Sender.{Sender}
use Rattle.interval_domain.specs.declared.bounds.Interval.{Interval}
use Rattle.interval_domain.specs.Bounds.{Holds}
use Rattle.cob_program.specs.Sum.{Atom, item, number, group}
use Rattle.cob_program.specs.Values.{whole_number, atom_value, ◌>>=◌}
use Rattle.cob_program.specs.Act.{Act, Program}
use Rattle.cob_runs.specs.declared.action.Action.{Action}
use Rattle.cob_runs.specs.Contents.{form_at, bytes_of, number_at, filled_at}
use Rattle.cob_runs.specs.Moves.{takes_number, number_of}
use Rattle.cob_runs.specs.Computing.{items_in_atom, are_numeric, worth}
use Rattle.cob_edge_parts.specs.Parts.{Amount, moved, Part, read, unread, subscript, index, divide, store, bytes_in, guard, read_count, set_count, count_down, guard_count, divides, parts_of}
use Rattle.cob_runs.specs.Effects.{is_times}
use Rattle.cob_edge_parts.specs.Meaning as run
use Rattle.cob_edge_parts.specs.Meaning.{Moment, with_storage, with_count, with_failure, divided_by_zero, count_in, divides_by, skipped, changed_in, Divides}
use Rattle.cob_edge_parts.specs.Ranges.{ChangesWithin}
use Rattle.dom_laws.specs.Walking.{IsSeen}
use Rattle.sum_ranges.specs.declared.ranged.Ranged.{Ranged}
use Rattle.sum_ranges.specs.Ranged.{decimal, point, IsIn}
use Rattle.sum_ranges.specs.SumRanges.{atom_range}
use Rattle.sum_ranges.specs.Vanishing.{may_be_zero}
use Rattle.sum_ranges.proofs.Sound.{atom_in}
use Rattle.sum_ranges.proofs.Vanish.{divisor_zero, divisor_missing}
use Rattle.transfer_ranges.specs.declared.amounts.Taken.{Taken}
use Rattle.transfer_ranges.specs.declared.amounts.AmountRange.{AmountRange}
use Rattle.transfer_ranges.specs.Receivers.{receiver_of, counter}
use Rattle.transfer_ranges.specs.Amounts.{IsAmount}
use Rattle.transfer_ranges.specs.Results.{IsLeastIfAny, IsKept}
use Rattle.transfer_ranges.specs.ResultRanges.{fitted, result_range, count_range, lowered}
use Rattle.cob_edge_parts.specs.Counters.{IsCount, PassesPart, PassesParts}
use Rattle.cell_laws.specs.Places.{IsDivided, Counts, IsStored}
use Rattle.interval_domain.specs.Known.{Known, KnownFits}
use Rattle.interval_domain.specs.Elements.{CellsBelow, joined}
use Rattle.cob_graph.specs.declared.homes.Home.{Home}
use Rattle.cob_graph.specs.declared.homes.Home.TheVariants.{Item as of_item, Count as of_count}
use Rattle.cob_graph.specs.Homes.{homes_of}
use Rattle.cell_steps.specs.OwnRanges.{picture_range, form_range}
use Rattle.cell_steps.specs.Storages.{storage, known_of, value_at, KnownStands, HomeStands, StandsIn}
use Rattle.cell_steps.specs.Cells.{known_or, units_of, forgotten, is_in_extent, bytes_from, is_beside}
use Rattle.transfer_ranges.specs.EdgeOperands.{edge_amount, amount_of}
use Rattle.cell_steps.specs.Seen.{Seen, with_cells, with_zero}
use Rattle.cell_steps.specs.Stores.{stored_cells, stored_element, behind_store, range_at, handled, keeps_receiver, with_taken, amount_at, result_at, may_fail, stored}
use Rattle.cell_steps.specs.Steps.{is_zero_alone, can_divide, known_as, with_cells_if, after_bytes, after_count, after_down, after_divide, step}
use Rattle.cell_steps.specs.Agreeing.{IsTimesAt, IsSoundEdge, writes, is_store, FailsAt, Agrees, walking}
use Rattle.cell_laws.proofs.CellLists.{with_known_length, forgotten_length, joined_left, joined_right}
use Rattle.cell_laws.proofs.OperandsRise.{or_left, or_right}
use Rattle.cell_laws.proofs.ResultsFit.{result_fits}
use Rattle.cell_laws.proofs.WalkLaws.{Given}
use Rattle.cell_laws.proofs.HomesStand.{known_left, homes_stand_above}
use Rattle.cell_laws.proofs.Frames.{value_stays, range_changes}
use Rattle.cell_laws.proofs.Counters.{count_set, count_elsewhere, differs, counted_set}
use Rattle.cell_laws.proofs.HomesHold.{if_home, home_set, some_times, number_holds, range_is_ordered, count_holds}
use Rattle.cell_laws.proofs.PartsDone.{any_last, none_written, read_first, read_zero, store_zero, all_contained, contained_all}
use Rattle.cob_edge_parts.proofs.Subscripts.{subscript_leaves, index_leaves}
use Rattle.cell_laws.proofs.Subscripts.{subscript_keeps, index_keeps}
use Rattle.cell_laws.proofs.QuietParts.{same_moment, SeenOn, quiet, quiet_at, read_keeps, guard_keeps, read_count_keeps, guard_count_keeps, times_small}
use Rattle.cell_laws.proofs.StoreOutcomes.{result_meant, each_outcome}
use Rattle.cell_laws.proofs.StoresKeep.{then_holds, TakenAt, taken_at, written_agrees, counts_amount, stored_stands}
use Rattle.cell_laws.proofs.PartsRise.{le_test}

-- ---- numbers

pub less_by_test : (n k : ℕ) → nat_lt n k ≡ true → n < k
less_by_test n k f = grind (arith, nat_tests)

pub not_less_by_test : (n k : ℕ) → nat_lt n k ≡ false → n < k → ⊥
not_less_by_test n k f g = grind (arith, nat_tests)

count_of : (z : ℤ) → ¬ ¬ IsCount z → IsCount z
count_of z h = go (nat_lt (unsigned_abs z) (10 ^ 18)) refl
  where
    go : (b : Bool) → nat_lt (unsigned_abs z) (10 ^ 18) ≡ b → IsCount z
    go true e = less_by_test (unsigned_abs z) (10 ^ 18) e
    go false e = absurd (h (λ k. not_less_by_test (unsigned_abs z) (10 ^ 18) e k))

some_of_least : (R : ℤ → Type 0) (o : Option Interval) (z : ℤ) → IsLeastIfAny R o → R z → IsSomeAnd o (λ i. Holds i z)
some_of_least R None z h r = h z r
some_of_least R (Some i) z h r = h.holds z r

module _ (given : Given) (p : Program) (statement : ℕ) (a : Act) (x : Action) where
  abbrev Now : List Part → Seen → Moment → Type 0
  Now done s m = Agrees p statement a x done s m

  abbrev SeenNow : List Part → Option Seen → Moment → Type 0
  SeenNow done o n = IsSeen (walking p statement a x) o (λ t. Now done t n)

  -- ---- divisors

  module _ (done : List Part) (d : Atom) (s : Seen) (m : Moment) (q : IsDivided done d) (g : Now done s m) where
    nothing : (list_any writes done ≡ false) × (list_any is_store done ≡ false)
    nothing = subst (λ (xs : List Part). (list_any writes xs ≡ false) × (list_any is_store xs ≡ false)) (sym q.split) (none_written q.places q.atoms)

    fresh : m.storage ≡ m.first
    fresh = g.fresh (g.unwritten nothing.0)

    first_stands : StandsIn p s.cells (storage m.first m.counts)
    first_stands = subst (λ (bytes : List ℕ). StandsIn p s.cells (storage bytes m.counts)) fresh g.stands

    pub numeric : are_numeric p.layout m.first (items_in_atom d) ≡ true
    numeric =
        let r = read_first p.layout (handled p a x) q.places (divides q.atoms) (run.beginning m.first g.counts) m refl
        (subst (λ (xs : List Part). PassesParts p.layout (handled p a x) xs (run.beginning m.first g.counts) m) q.split g.passed) in
        contained_all p.layout m.first (items_in_atom d) (λ place c. all_contained p.layout m.first q.places place r.numeric (q.items place c))

    -- a number of the range for each item: its own, where it has one
    abbrev pub other : ℕ → Scaled
    other place = decimal (range_at p s.cells place).units.low (range_at p s.cells place).scale

    abbrev pub amount_or_other : ℕ → Scaled
    amount_or_other place = unwrap_or (number_at p.layout m.first place) (other place)

    pub all_in : (place : ℕ) → IsIn (amount_or_other place) (range_at p s.cells place)
    all_in place = go (number_at p.layout m.first place) refl
      where
        go : (o : Option Scaled) → number_at p.layout m.first place ≡ o → IsIn (unwrap_or o (other place)) (range_at p s.cells place)
        go None e = record { held = (omega (arith, ints), range_is_ordered p g.sound.items s.cells (storage m.first m.counts) first_stands place); scale = refl }
        go (Some v) e = number_holds p g.sound.items s.cells (storage m.first m.counts) first_stands place v e

    pub same_value : (d : Atom) → are_numeric p.layout m.first (items_in_atom d) ≡ true → atom_value (worth p.layout m.first) d ≡ atom_value amount_or_other d
    same_value (item place) e = ap Some (go (number_at p.layout m.first place) (one (is_some (number_at p.layout m.first place)) e))
      where
        one : (b : Bool) → (b && true) ≡ true → b ≡ true
        one true f = refl
        one false f = absurd cc

        go : (o : Option Scaled) → is_some o ≡ true → unwrap_or o (whole_number (pos 0)) ≡ unwrap_or o (other place)
        go None f = absurd cc
        go (Some v) f = refl
    same_value (number n) e = refl
    same_value (group u) e = given.numeric_sum_ p.layout m.first other u e

    -- a divisor that is 0, or has no value, may be 0
    zero_told : divides_by (worth p.layout m.first) d ≡ false → may_be_zero (range_at p s.cells) d ≡ true
    zero_told e = go (atom_value (worth p.layout m.first) d) refl e
      where
        zero_is : (n : ℕ) → not (n == 0) ≡ false → n ≡ 0
        zero_is n f = nat_zero (n == 0) refl f
          where
            nat_zero : (b : Bool) → (n == 0) ≡ b → not b ≡ false → n ≡ 0
            nat_zero true h k = eqb-true n 0 h
            nat_zero false h k = absurd cc

        go : (o : Option Scaled) → atom_value (worth p.layout m.first) d ≡ o → option_map_or (λ v. not (unsigned_abs v.units == 0)) o false ≡ false → may_be_zero (range_at p s.cells) d ≡ true
        go None f h = divisor_missing amount_or_other (range_at p s.cells) all_in d (sym (same_value d numeric) ∙ f)
        go (Some v) f h =
            divisor_zero amount_or_other (range_at p s.cells) all_in d v (sym (same_value d numeric) ∙ f)
            (let n = zero_is (unsigned_abs v.units) h in omega (arith, ints, n))

    -- one that isn't 0 has numbers other than 0
    can_told : divides_by (worth p.layout m.first) d ≡ true → can_divide (atom_range (range_at p s.cells) d) ≡ true
    can_told e = go (atom_value (worth p.layout m.first) d) refl e
      where
        isnt_alone : (v : Scaled) (r : Ranged) → IsIn v r → not (unsigned_abs v.units == 0) ≡ true → not (is_zero_alone r) ≡ true
        isnt_alone v r h k = both (int_le (pos 0) r.units.low) (int_le r.units.high (pos 0)) refl refl
          where
            isnt_zero : (n : ℕ) → not (n == 0) ≡ true → n ≡ 0 → ⊥
            isnt_zero n f e = test (n == 0) refl f
              where
                test : (b : Bool) → (n == 0) ≡ b → not b ≡ true → ⊥
                test true g f = absurd cc
                test false g f = let h : (n == 0) ≡ true = eq-eqb n 0 e in cc

            both : (b c : Bool) → int_le (pos 0) r.units.low ≡ b → int_le r.units.high (pos 0) ≡ c → not (b && c) ≡ true
            both true true f g =
                let low = le_test (pos 0) r.units.low f in let high = le_test r.units.high (pos 0) g in let held = h.held in
                absurd (isnt_zero (unsigned_abs v.units) k (let l = held.0 in let u = held.1 in omega (arith, ints, low, high, l, u)))
            both true false f g = refl
            both false c f g = refl

        range_can : (v : Scaled) (o : Option Ranged) → IsSomeAnd o (IsIn v) → not (unsigned_abs v.units == 0) ≡ true → can_divide o ≡ true
        range_can v None h k = absurd h
        range_can v (Some r) h k = isnt_alone v r h k

        go : (o : Option Scaled) → atom_value (worth p.layout m.first) d ≡ o → option_map_or (λ v. not (unsigned_abs v.units == 0)) o false ≡ true → can_divide (atom_range (range_at p s.cells) d) ≡ true
        go None f h = absurd cc
        go (Some v) f h = range_can v (atom_range (range_at p s.cells) d) (atom_in amount_or_other (range_at p s.cells) all_in d v (sym (same_value d numeric) ∙ f)) h

    -- a divisor is 0 on an edge of size errors
    zero_agrees : (z : Bool) → PassesPart p.layout (handled p a x) (divide d) m (divided_by_zero m) → z ≡ true → Now (done ++ divide d ∷ []) (with_zero s (s.may_zero || z)) (divided_by_zero m)
    zero_agrees z h e = record {
      sound = g.sound;
      counts = g.counts;
      passed = (moved_on done (run.beginning m.first g.counts) g.passed);
      stands = g.stands;
      fresh = g.fresh;
      unwritten = λ f. g.unwritten nothing.0;
      took = g.took;
      taken = g.taken;
      zero = λ f. or_right s.may_zero z e;
      fails = λ f k. absurd cc;
      all_fail = λ f k. elim (any_last is_store done (divide d) k) [
        | inl w ↦ absurd (let none = nothing.1 in cc)
        | inr w ↦ absurd cc
      ];
    }
      where
        moved_on : (xs : List Part) (k : Moment) → PassesParts p.layout (handled p a x) xs k m → PassesParts p.layout (handled p a x) (xs ++ divide d ∷ []) k (divided_by_zero m)
        moved_on [] k same = (divided_by_zero m, subst (λ (j : Moment). PassesPart p.layout (handled p a x) (divide d) j (divided_by_zero m)) same h, refl)
        moved_on (y ∷ ys) k (next, one, others) = (next, one, moved_on ys next others)

    zero_on : (z : Bool) → SeenOn s (with_zero s (s.may_zero || z))
    zero_on z = record { written = refl; common = refl; zero = λ e. or_left s.may_zero z e; fails = λ e. e }

    divide_keeps : (n : Moment) → PassesPart p.layout (handled p a x) (divide d) m n → SeenNow (done ++ divide d ∷ []) (after_divide p a x d s) n
    divide_keeps n h = go (handled p a x) refl h.0
      where
        go : (b : Bool) → handled p a x ≡ b → Divides p.layout b d m n
            → SeenNow (done ++ divide d ∷ []) (if b then Some (with_zero s (s.may_zero || may_be_zero (range_at p s.cells) d)) else (if can_divide (atom_range (range_at p s.cells) d) then Some s else None)) n
        go true on e = by_value (divides_by (worth p.layout m.first) d) refl e
          where
            by_value : (ok : Bool) → divides_by (worth p.layout m.first) d ≡ ok → n ≡ (if ok then m else divided_by_zero m) → Now (done ++ divide d ∷ []) (with_zero s (s.may_zero || may_be_zero (range_at p s.cells) d)) n
            by_value true f k = quiet p statement a x done (divide d) s (with_zero s (s.may_zero || may_be_zero (range_at p s.cells) d)) m n g h refl refl (same_moment m n k) (zero_on (may_be_zero (range_at p s.cells) d)) g.stands.known
            by_value false f k =
                subst (λ (j : Moment). Now (done ++ divide d ∷ []) (with_zero s (s.may_zero || may_be_zero (range_at p s.cells) d)) j) (sym k)
                (zero_agrees (may_be_zero (range_at p s.cells) d) (subst (λ (j : Moment). PassesPart p.layout (handled p a x) (divide d) m j) k h) (zero_told f))
        go false off (ok, e) =
            subst (λ (b : Bool). SeenNow (done ++ divide d ∷ []) (if b then Some s else None) n) (sym (can_told ok))
            (quiet p statement a x done (divide d) s s m n g h refl refl (same_moment m n e) (record { written = refl; common = refl; zero = λ f. f; fails = λ f. f }) g.stands.known)

  -- ---- bytes

  bytes_keeps : (done : List Part) (offset count : ℕ) (t : Seen) (m n : Moment) → TakenAt p statement a x done t m → offset + count ≤ p.layout.storage → PassesPart p.layout (handled p a x) (bytes_in offset count) m n
      → Now (done ++ bytes_in offset count ∷ []) (after_bytes p offset count t) n
  bytes_keeps done offset count t m n g within ((change, e), no_misfit) =
      subst (λ (j : Moment). Now (done ++ bytes_in offset count ∷ []) (after_bytes p offset count t) j) (sym e)
      (written_agrees p statement a x done (bytes_in offset count) t (after_bytes p offset count t) m (with_storage m (changed_in change offset count m.storage)) g ((change, refl), no_misfit) refl refl refl
      (record {
        whole = changes.same_length ∙ g.stands.whole;
        counted = g.stands.counted;
        known = λ h k less. known_left (λ c. KnownStands c (value_at p.layout (storage (changed_in change offset count m.storage) m.counts) h k)) tt (is_in_extent p.layout (bytes_from offset count)) (homes_of p) t.cells h
            (λ apart. subst (λ (v : Option ℤ). KnownStands (known_of (homes_of p) t.cells h) v) (sym (value_stays p.layout offset count m.storage (changed_in change offset count m.storage) m.counts changes h apart k less)) (g.stands.known h k less));
      })
      g.written refl (λ f. f) g.fails
      (λ f k. elim (any_last is_store done (bytes_in offset count) k) [
        | inl w ↦ g.all_fail f w
        | inr w ↦ absurd cc
      ]))
    where
      changes : ChangesWithin offset count m.storage (changed_in change offset count m.storage)
      changes = range_changes change offset count m.storage (subst (λ (k : ℕ). offset + count ≤ k) (sym g.stands.whole) within)

  -- ---- counters

  -- a counter holds a new number
  counted_stands : (cells : List Known) (m : Moment) (k : ℕ) (v : ℤ) (i : Interval) → IsSoundEdge p statement a x → 1 ≤ k → IsCount v → StandsIn p cells (storage m.storage m.counts) → (Contains (homes_of p) (of_count k) → Holds i v)
      → StandsIn p (known_as p (of_count k) cells i) (storage m.storage (slice_set m.counts (k - 1) (Some v)))
  counted_stands cells m k v i sound first small stands holds = record {
    whole = stands.whole;
    counted = counted_set p m.counts k v small stands.counted;
    known = home_set p cells (storage m.storage (slice_set m.counts (k - 1) (Some v))) (of_count k) (Some i) (λ there j less. new there) others;
  }
    where
      new : Contains (homes_of p) (of_count k) → KnownStands (Some i) (count_in (slice_set m.counts (k - 1) (Some v)) k)
      new there =
          let is = sound.counts k there in
          let held = stands.counted k is.act is.at is.times in
          subst (λ (w : Option ℤ). KnownStands (Some i) w) (sym (count_set m.counts k v held.count held.held)) (holds there)

      others : (h : Home) → Contains (homes_of p) h → ¬ h ≡ of_count k → HomeStands p.layout (storage m.storage (slice_set m.counts (k - 1) (Some v))) (known_of (homes_of p) cells h) h
      others (of_item place) there d = stands.known (of_item place)
      others (of_count j) there d = λ n less.
          subst (λ (w : Option ℤ). KnownStands (known_of (homes_of p) cells (of_count j)) w) (sym (count_elsewhere m.counts j k v (differs j k (sound.counts j there).first first (λ e. d (ap of_count e))))) (stands.known (of_count j) n less)

  -- what a counter holds lies in what is fitted
  count_fitted : (i : Interval) (v : ℤ) → Holds i v → IsCount v → IsSomeAnd (count_range i) (λ j. Holds j v)
  count_fitted i v h small = some_of_least (IsKept counter i) (fitted counter i) v (given.kept_ counter i) (v, (h, small), refl)

  point_in_itself : (v : Scaled) → IsIn v (point v)
  point_in_itself v = record { held = (omega (arith, ints), omega (arith, ints)); scale = refl }

  -- the number that is sent lies in what was taken
  pub sent_holds : (done : List Part) (t : Seen) (m : Moment) (y : Sender) (v : Scaled) → TakenAt p statement a x done t m → edge_amount a x ≡ Some (moved y) → number_of p.layout m.first y ≡ Some v → IsSomeAnd t.common (λ c. Holds c.top.units v.units)
  sent_holds done t m y v g e f = go t.common (g.took m (moved y) (point m.own) (value_of v) refl e (point_in_itself m.own) (ap (option_map value_of) f))
    where
      go : (o : Option Taken) → IsSomeAnd o (λ c. IsSomeAnd (amount_of (moved y) (point m.own) c) (λ r. IsAmount r (value_of v))) → IsSomeAnd o (λ c. Holds c.top.units v.units)
      go None h = h
      go (Some c) (w, inside, same) = subst (λ (z : ℤ). Holds c.top.units z) (sym (ap (λ (k : Fraction). k.top) same)) inside.held

  set_count_keeps : (done : List Part) (k : ℕ) (y : Sender) (t : Seen) (m n : Moment) → k ≡ statement → Counts a x y → TakenAt p statement a x done t m → PassesPart p.layout (handled p a x) (set_count k y) m n
      → SeenNow (done ++ set_count k y ∷ []) (after_count p k t) n
  set_count_keeps done k y t m n is counts g ((v, sent, e), fits) =
      subst (λ (j : Moment). SeenNow (done ++ set_count k y ∷ []) (after_count p k t) j) (sym e)
      (go (t.common >>= λ c. count_range c.top.units) (then_holds (λ (c : Taken). Holds c.top.units v.units) (λ i. Holds i v.units) t.common (λ c. count_range c.top.units) (sent_holds done t m y v g (counts_amount p statement a x a x y counts) sent) (λ c h. count_fitted c.top.units v.units h small)))
    where
      small : IsCount v.units
      small = count_of v.units (λ d. fits (record { number = v; sent = sent; misfits = d }))

      first : 1 ≤ k
      first = subst (λ (j : ℕ). 1 ≤ j) (sym is) g.sound.first

      go : (o : Option Interval) → IsSomeAnd o (λ i. Holds i v.units) → SeenNow (done ++ set_count k y ∷ []) (with_cells_if t (option_map (known_as p (of_count k) t.cells) o)) (with_count m k v.units)
      go None h = absurd h
      go (Some i) h =
          written_agrees p statement a x done (set_count k y) t (with_cells t (known_as p (of_count k) t.cells i)) m (with_count m k v.units) g ((v, sent, refl), fits) refl refl refl
          (counted_stands t.cells m k v.units i g.sound first small g.stands (λ there. h)) g.written refl (λ f. f) g.fails
          (λ f w. elim (any_last is_store done (set_count k y) w) [
            | inl u ↦ g.all_fail f u
            | inr u ↦ absurd cc
          ])

  -- the number that was read goes down
  pub counted_down : (done : List Part) (k : ℕ) (s : Seen) (m : Moment) → done ≡ read_count k ∷ [] → Now done s m → count_in m.counts k ≡ Some m.own.units
  counted_down done k s m e g = go (subst (λ (xs : List Part). PassesParts p.layout (handled p a x) xs (run.beginning m.first g.counts) m) e g.passed)
    where
      go : PassesParts p.layout (handled p a x) (read_count k ∷ []) (run.beginning m.first g.counts) m → count_in m.counts k ≡ Some m.own.units
      go (next, ((v, held, same), fits), last) =
          subst (λ (j : Moment). count_in j.counts k ≡ Some j.own.units) (sym (last ∙ same)) held

  pub lower_holds : (i : Interval) (v : ℤ) → Holds i v → Holds (lowered i) (v -ℤ pos 1)
  lower_holds i v (b, c) = (omega (arith, ints, b), omega (arith, ints, c))

  count_down_keeps : (done : List Part) (k : ℕ) (s : Seen) (m n : Moment) → k ≡ statement → done ≡ read_count k ∷ [] → Now done s m → PassesPart p.layout (handled p a x) (count_down k) m n → SeenNow (done ++ count_down k ∷ []) (after_down p k s) n
  count_down_keeps done k s m n is split g (e, fits) =
      subst (λ (j : Moment). SeenNow (done ++ count_down k ∷ []) (after_down p k s) j) (sym e)
      (go (count_range (lowered (units_of p.layout (homes_of p) s.cells (of_count k)))) there_is held)
    where
      v : ℤ
      v = m.own.units -ℤ pos 1

      small : IsCount (m.own.units -ℤ pos 1)
      small = count_of (m.own.units -ℤ pos 1) fits

      first : 1 ≤ k
      first = subst (λ (j : ℕ). 1 ≤ j) (sym is) g.sound.first

      held : Contains (homes_of p) (of_count k) → IsSomeAnd (count_range (lowered (units_of p.layout (homes_of p) s.cells (of_count k)))) (λ i. Holds i (m.own.units -ℤ pos 1))
      held there =
          let read_ = counted_down done k s m split g in
          let now = count_holds p g.sound.items s.cells (storage m.storage m.counts) g.stands k m.own.units read_ (times_small p statement a x s m k m.own.units g.stands (g.sound.counts k there) read_) in
          count_fitted (lowered (units_of p.layout (homes_of p) s.cells (of_count k))) (m.own.units -ℤ pos 1) (lower_holds (units_of p.layout (homes_of p) s.cells (of_count k)) m.own.units now) small

      some_there : (o : Option Interval) → IsSomeAnd o (λ i. Holds i (m.own.units -ℤ pos 1)) → IsSomeAnd o (λ i. Unit {0})
      some_there None h = h
      some_there (Some i) h = tt

      there_is : IsSomeAnd (count_range (lowered (units_of p.layout (homes_of p) s.cells (of_count k)))) (λ i. Unit {0})
      there_is = if_home (λ c. IsSomeAnd (count_range (lowered (known_or (picture_range 18 true) c))) (λ i. Unit {0})) tt (homes_of p) s.cells (of_count k)
          (λ there. some_there (count_range (lowered (units_of p.layout (homes_of p) s.cells (of_count k)))) (held there))

      go : (o : Option Interval) → IsSomeAnd o (λ i. Unit {0}) → (Contains (homes_of p) (of_count k) → IsSomeAnd o (λ i. Holds i (m.own.units -ℤ pos 1))) → SeenNow (done ++ count_down k ∷ []) (with_cells_if s (option_map (known_as p (of_count k) s.cells) o)) (with_count m k (m.own.units -ℤ pos 1))
      go None h w = absurd h
      go (Some i) h w =
          quiet_at p statement a x done (count_down k) s (with_cells s (known_as p (of_count k) s.cells i)) m (with_count m k (m.own.units -ℤ pos 1)) g (refl, fits) refl refl refl refl refl refl
          (record { written = refl; common = refl; zero = λ f. f; fails = λ f. f })
          (counted_stands s.cells m k (m.own.units -ℤ pos 1) i g.sound first small g.stands w)

  -- ---- stores

  module _ (done : List Part) (place : ℕ) (mode : Mode) (y : Amount) (t : Seen) (m : Moment) (g : TakenAt p statement a x done t m) (takes : takes_number (form_at p.layout place) ≡ true) where
    abbrev kept_or_stored : Bool → Option Interval → Option (List Known)
    kept_or_stored f o = stored_element f t.cells (option_map (stored_cells p place t.cells) o)

    same_length : (i : Interval) → length t.cells ≡ length (stored_cells p place t.cells i)
    same_length i = sym (with_known_length (homes_of p) (forgotten (is_beside p.layout place) (homes_of p) t.cells) (of_item place) _ ∙ forgotten_length (is_beside p.layout place) (homes_of p) t.cells)

    -- less is known of the same storage
    stands_in_more : (cells known : List Known) (bytes : List ℕ) (counts : List (Option ℤ)) → CellsBelow cells known → StandsIn p cells (storage bytes counts) → StandsIn p known (storage bytes counts)
    stands_in_more cells known bytes counts below s = record {
      whole = s.whole;
      counted = s.counted;
      known = λ h. homes_stand_above p.layout (storage bytes counts) (homes_of p) cells known h below (s.known h);
    }

    behind_agrees : (f : Bool) (known : List Known) (n : Moment) → PassesPart p.layout (handled p a x) (store place mode y) m n → n.first ≡ m.first → n.by_zero ≡ m.by_zero → StandsIn p known (storage n.storage n.counts)
        → (n.failed ≡ true → n.by_zero ≡ false → (t.any_fail || f) ≡ true) → (n.by_zero ≡ true → (t.any_fail || f) ≡ true)
        → SeenNow (done ++ store place mode y ∷ []) (behind_store t f (Some known)) n
    behind_agrees f known n h first z stands fails all_fail =
        written_agrees p statement a x done (store place mode y) t (record { cells = known; written = t.written; common = t.common; may_zero = t.may_zero; any_fail = t.any_fail || f }) m n g h refl first z stands g.written refl (λ e. e) fails
        (λ e k. all_fail e)

    -- the receiver gets its bytes
    fit_keeps : (f : Bool) (o : Option Interval) (held : List ℕ) → m.by_zero ≡ false → IfSome o (λ i. KnownFits (form_range (form_at p.layout place)) (Some i)) → IsSomeAnd o (λ i. (z : ℤ) × Holds i z × (held ≡ bytes_of (form_at p.layout place) z))
        → PassesPart p.layout (handled p a x) (store place mode y) m (with_storage m (filled_at p.layout m.storage place held))
        → SeenNow (done ++ store place mode y ∷ []) (behind_store t f (kept_or_stored f o)) (with_storage m (filled_at p.layout m.storage place held))
    fit_keeps f None held unzero fits h passes = absurd h
    fit_keeps f (Some i) held unzero fits (z, holds, is) passes = go f
      where
        stands : StandsIn p (stored_cells p place t.cells i) (storage (filled_at p.layout m.storage place held) m.counts)
        stands = stored_stands p g.sound.items place 0 (some_times p.layout g.sound.items place) takes t.cells m.storage m.counts i z held fits holds is g.stands

        not_zero : {B : Type 0} → m.by_zero ≡ true → B
        not_zero e = absurd cc

        go : (f : Bool) → SeenNow (done ++ store place mode y ∷ []) (behind_store t f (kept_or_stored f (Some i))) (with_storage m (filled_at p.layout m.storage place held))
        go true = behind_agrees true (joined t.cells (stored_cells p place t.cells i)) (with_storage m (filled_at p.layout m.storage place held)) passes refl refl
            (stands_in_more (stored_cells p place t.cells i) (joined t.cells (stored_cells p place t.cells i)) (filled_at p.layout m.storage place held) m.counts
            (joined_right t.cells (stored_cells p place t.cells i) (same_length i)) stands)
            (λ e k. or_right t.any_fail true refl) (λ e. or_right t.any_fail true refl)
        go false = behind_agrees false (stored_cells p place t.cells i) (with_storage m (filled_at p.layout m.storage place held)) passes refl refl stands
            (λ e k. or_left t.any_fail false (g.fails e k)) (λ e. not_zero e)

    -- it keeps its value
    kept_keeps : (f : Bool) (o : Option Interval) (n : Moment) → f ≡ true → PassesPart p.layout (handled p a x) (store place mode y) m n → n.first ≡ m.first → n.by_zero ≡ m.by_zero → StandsIn p t.cells (storage n.storage n.counts)
        → SeenNow (done ++ store place mode y ∷ []) (behind_store t f (kept_or_stored f o)) n
    kept_keeps false o n e passes first z stands = absurd cc
    kept_keeps true None n e passes first z stands = behind_agrees true t.cells n passes first z stands (λ e k. or_right t.any_fail true refl) (λ e. or_right t.any_fail true refl)
    kept_keeps true (Some i) n e passes first z stands =
        behind_agrees true (joined t.cells (stored_cells p place t.cells i)) n passes first z
        (stands_in_more t.cells (joined t.cells (stored_cells p place t.cells i)) n.storage n.counts (joined_left t.cells (stored_cells p place t.cells i) (same_length i)) stands)
        (λ e k. or_right t.any_fail true refl) (λ e. or_right t.any_fail true refl)

    amounts_fit : (o : Option AmountRange) → IfSome (o >>= result_range mode (receiver_of (form_at p.layout place))) (λ i. KnownFits (form_range (form_at p.layout place)) (Some i))
    amounts_fit None = tt
    amounts_fit (Some r) = result_fits given.rising mode (form_at p.layout place) r

    results_fit : (b : Bool) (o : Option AmountRange) → IfSome (if b then None else (o >>= result_range mode (receiver_of (form_at p.layout place)))) (λ i. KnownFits (form_range (form_at p.layout place)) (Some i))
    results_fit true o = tt
    results_fit false o = amounts_fit o

    store_keeps : IsStored a x done place y → (n : Moment) → (handled p a x ≡ false → m.by_zero ≡ false) → (keeps_receiver a x ≡ true → FailsAt p.layout (store place mode y) m) → PassesPart p.layout (handled p a x) (store place mode y) m n
        → SeenNow (done ++ store place mode y ∷ []) (stored p a x t place mode y) n
    store_keeps q n off_zero fails_there h =
        each_outcome given p statement a x done place mode y t m g q
        (λ (j : Moment). PassesPart p.layout (handled p a x) (store place mode y) m j → SeenNow (done ++ store place mode y ∷ []) (stored p a x t place mode y) j)
        (λ fails passes. kept_keeps (may_fail p a x t place mode y) (result_at p a x t place mode y) m fails passes refl refl g.stands)
        (λ fails passes. kept_keeps (may_fail p a x t place mode y) (result_at p a x t place mode y) (with_failure m) fails passes refl refl g.stands)
        (λ off held unzero e passes. fit_keeps (may_fail p a x t place mode y) (result_at p a x t place mode y) held unzero (results_fit (keeps_receiver a x) (amount_at p a x t place y)) (result_meant given p statement a x done place mode y t m g q off held unzero e) passes)
        n off_zero fails_there h.0 h

  -- ---- off edges of size errors no divisor was 0

  same_zero : (y : Part) (m n : Moment) → handled p a x ≡ false → PassesPart p.layout (handled p a x) y m n → n.by_zero ≡ m.by_zero
  same_zero (read place) m n off (h, fits) = read_zero p.layout (handled p a x) m.by_zero place m n h
  same_zero unread m n off (h, fits) = absurd h
  same_zero (subscript last k) m n off (h, fits) = ap (λ (j : Moment). j.by_zero) (subscript_leaves p.layout (skipped last m) k m n h)
  same_zero (index last k count) m n off (h, fits) = ap (λ (j : Moment). j.by_zero) (index_leaves p.layout (skipped last m) k count m n h)
  same_zero (divide d) m n off (h, fits) = let w = subst (λ (b : Bool). Divides p.layout b d m n) off h in ap (λ (k : Moment). k.by_zero) w.1
  same_zero (store place mode y) m n off (h, fits) = store_zero p.layout (handled p a x) (handled p a x) place mode y m n h
  same_zero (bytes_in offset count) m n off (h, fits) = ap (λ (k : Moment). k.by_zero) h.1
  same_zero (guard v wanted) m n off (h, fits) = ap (λ (k : Moment). k.by_zero) h.1
  same_zero (read_count k) m n off (h, fits) = ap (λ (k : Moment). k.by_zero) h.2
  same_zero (set_count k y) m n off (h, fits) = ap (λ (k : Moment). k.by_zero) h.2
  same_zero (count_down k) m n off (h, fits) = ap (λ (k : Moment). k.by_zero) h
  same_zero (guard_count k wanted) m n off (h, fits) = ap (λ (k : Moment). k.by_zero) h.3

  never_zero : (ys : List Part) (m n : Moment) → handled p a x ≡ false → PassesParts p.layout (handled p a x) ys m n → m.by_zero ≡ false → n.by_zero ≡ false
  never_zero [] m n off e z = ap (λ (k : Moment). k.by_zero) e ∙ z
  never_zero (y ∷ ys) m n off (next, h, hs) z = never_zero ys next n off hs (same_zero y m next off h ∙ z)

  pub off_zero : (done : List Part) (s : Seen) (m : Moment) → Now done s m → handled p a x ≡ false → m.by_zero ≡ false
  off_zero done s m g off = never_zero done (run.beginning m.first g.counts) m off g.passed refl

  -- ---- all parts

  its_times : IsSoundEdge p statement a x → (k : ℕ) → k ≡ statement → is_times a ≡ true → IsTimesAt p k
  its_times sound k e is = subst (λ (j : ℕ). IsTimesAt p j) (sym e) (record { first = sound.first; act = a; at = sound.act; times = is })

  pub keeps : (done rest : List Part) (y : Part) (s : Seen) (m n : Moment) → done ++ y ∷ rest ≡ parts_of p statement a x → Now done s m → PassesPart p.layout (handled p a x) y m n → (keeps_receiver a x ≡ true → FailsAt p.layout y m) → SeenNow (done ++ y ∷ []) (step p a x y s) n
  keeps done rest (read place) s m n e g h fails = read_keeps p statement a x done place s m n g h
  keeps done rest unread s m n e g h fails = absurd h.0
  keeps done rest (subscript last k) s m n e g h fails = subscript_keeps p statement a x done last k s m n g h
  keeps done rest (index last k count) s m n e g h fails = index_keeps p statement a x done last k count s m n g h
  keeps done rest (divide d) s m n e g h fails = divide_keeps done d s m (given.places_ p statement a x done rest (divide d) e) g n h
  keeps done rest (store place mode y) s m n e g h fails =
      store_keeps done place mode y (with_taken p a x s) m (taken_at p statement a x given done (store place mode y) s m refl (given.places_ p statement a x done rest (store place mode y) e) g)
      (g.sound.receivers done rest place mode y e) (given.places_ p statement a x done rest (store place mode y) e) n (off_zero done s m g) fails h
  keeps done rest (bytes_in offset count) s m n e g h fails =
      bytes_keeps done offset count (with_taken p a x s) m n (taken_at p statement a x given done (bytes_in offset count) s m refl (given.places_ p statement a x done rest (bytes_in offset count) e) g)
      (g.sound.areas done rest offset count e) h
  keeps done rest (guard v wanted) s m n e g h fails = guard_keeps p statement a x given done v wanted s m n g h
  keeps done rest (read_count k) s m n e g h fails = read_count_keeps p statement a x done k s m n g h
  keeps done rest (set_count k y) s m n e g h fails =
      let q = given.places_ p statement a x done rest (set_count k y) e in
      set_count_keeps done k y (with_taken p a x s) m n q.0 q.1 (taken_at p statement a x given done (set_count k y) s m refl q g) h
  keeps done rest (count_down k) s m n e g h fails =
      let q = given.places_ p statement a x done rest (count_down k) e in
      count_down_keeps done k s m n q.0 q.1 g h
  keeps done rest (guard_count k wanted) s m n e g h fails =
      let q = given.places_ p statement a x done rest (guard_count k wanted) e in
      guard_count_keeps p statement a x given done k wanted s m n (its_times g.sound k q.0 q.1) g h
