-- What is cleared before a part isn't met there.
use Rattle.std.proofs.Common.{◌≡◌, ◌≤◌, ℕ, ◌==◌, Bool, true, false, not, if◌then◌else◌, ◌⊎◌, inl, inr, List, [], ◌∷◌, ◌++◌, Option, Some, None, is_some, ℤ, pos, ◌-ℤ◌, refl, sym, ap, subst, ◌∙◌, arith}
use Rattle.std.specs.Prelude.{IsSomeAnd, int_le, ◌^◌, unsigned_abs}
use Rattle.std.specs.List.{list_all}
use Rattle.std.specs.Option.{option_map_or}
use Rattle.std.proofs.lemmas.Int.{ints}
use Rattle.std.proofs.lemmas.Bool.{eqb-true}
use Rattle.std.proofs.lemmas.List.{append-nil}
use Rattle.dec_num.specs.declared.types.Mode.{Mode}
use Rattle.dec_num.specs.declared.types.Scaled.{Scaled}
use Rattle.dec_num.specs.Exact.{Fraction}
use Rattle.cob_tree.specs.declared.fault.Kind.{Kind}
use Rattle.cob_data.specs.declared.layout.Sender.{Sender}
use Rattle.interval_domain.specs.declared.bounds.Interval.{Interval}
use Rattle.interval_domain.specs.Bounds.{Holds}
use Rattle.cob_program.specs.Sum.{Atom}
use Rattle.cob_program.specs.Values.{atom_value, ◌>>=◌}
use Rattle.cob_program.specs.Act.{Act, move, arith as arithmetic, if_, evaluate, perform, go as go_to, nothing, stop, open_files, close_files, read as reading, write, show, Program}
use Rattle.cob_runs.specs.declared.action.Action.{Action}
use Rattle.cob_runs.specs.declared.action.Action.TheVariants as action
use Rattle.cob_runs.specs.Contents.{form_at, number_at, stored as stored_units}
use Rattle.cob_runs.specs.Computing.{worth}
use Rattle.cob_edge_parts.specs.Parts.{Amount, moved, computed, remaining, augmented, Part, read, unread, subscript, index, divide, store, bytes_in, guard, read_count, set_count, count_down, guard_count, divides, parts_of, has_phrase}
use Rattle.cob_edge_parts.specs.Meaning as run
use Rattle.cob_edge_parts.specs.Meaning.{Moment, divides_by, misfit_of, stored_bytes, amount, Faults}
use Rattle.cob_edge_parts.specs.Edges.{fault_edge}
use Rattle.sum_ranges.specs.declared.ranged.Ranged.{Ranged}
use Rattle.sum_ranges.specs.Ranged.{IsIn}
use Rattle.sum_ranges.specs.SumRanges.{atom_range}
use Rattle.sum_ranges.specs.Vanishing.{holds_zero}
use Rattle.sum_ranges.proofs.Sound.{atom_in}
use Rattle.transfer_ranges.specs.declared.amounts.Taken.{Taken}
use Rattle.transfer_ranges.specs.declared.amounts.AmountRange.{AmountRange}
use Rattle.transfer_ranges.specs.Receivers.{receiver_of}
use Rattle.transfer_ranges.specs.Amounts.{IsAmount}
use Rattle.transfer_ranges.specs.ResultRanges.{may_fail, lowered, count_may_fail}
use Rattle.cob_edge_parts.specs.Counters.{IsCount, IsTooGreat, PassesParts}
use Rattle.cell_laws.specs.Places.{IsDivided, Counts, IsStored, is_worked}
use Rattle.cob_graph.specs.declared.homes.Home.TheVariants.{Count as of_count}
use Rattle.cob_graph.specs.Homes.{homes_of}
use Rattle.cell_steps.specs.OwnRanges.{picture_range}
use Rattle.cell_steps.specs.Storages.{storage}
use Rattle.cell_steps.specs.Cells.{known_or, units_of, is_numeric}
use Rattle.transfer_ranges.specs.EdgeOperands.{amount_of}
use Rattle.cell_steps.specs.Seen.{Seen}
use Rattle.cell_steps.specs.Stores.{range_at, handled, with_taken}
use Rattle.cell_steps.specs.Clearing.{is_misfit, has_quotient, all_fit_of, all_fit, all_count, clears_part}
use Rattle.cell_steps.specs.Agreeing.{Agrees, FaultsOn}
use Rattle.cell_laws.proofs.OperandsRise.{or_either}
use Rattle.cell_laws.proofs.WalkLaws.{Given}
use Rattle.cell_laws.proofs.HomesHold.{if_home, numeric_there, count_holds}
use Rattle.cell_laws.proofs.PartsDone.{both_true, and_true, read_first, divisors_count}
use Rattle.cell_laws.proofs.QuietParts.{times_small}
use Rattle.cell_laws.proofs.Subscripts.{fault_is, index_cleared}
use Rattle.cell_laws.proofs.StoresKeep.{is_there, TakenAt, taken_at, HasRoot, amount_there, counts_amount, amount_meant}
use Rattle.cell_laws.proofs.PartsKeep.{numeric, amount_or_other, all_in, same_value, sent_holds, counted_down, lower_holds, off_zero}
use Rattle.cell_laws.proofs.PartsRise.{test_le}

-- ---- tests

pub not_both : (b : Bool) → b ≡ true → not b ≡ true → ⊥
not_both true e f = cc
not_both false e f = cc

exceeded_of : (z : ℤ) → ¬ IsCount z → 10 ^ 18 ≤ unsigned_abs z
exceeded_of z h = omega (arith, h)

module _ (given : Given) (p : Program) (statement : ℕ) (a : Act) (x : Action) where
  -- Where the statement has the phrase, no fault is met on an edge without size errors.
  phrase_off : (done rest : List Part) (y : Part) → is_worked y ≡ true → done ++ y ∷ rest ≡ parts_of p statement a x → handled p a x ≡ false → fault_edge a x ≡ x → has_phrase a ≡ true → ⊥
  phrase_off done rest y worked e off its has = by_act a e off its has
    where
      by_edge : (s : _) (ts : _) (r : _) (size : _) (fine : _) (x : Action) → (x ≡ action.Done) ⊎ (x ≡ action.Size) → handled p (arithmetic s ts r size fine) x ≡ false → fault_edge (arithmetic s ts r size fine) x ≡ x
          → has_phrase (arithmetic s ts r size fine) ≡ true → ⊥
      by_edge s ts r size fine x (inl f) off its has =
          let at_done : fault_edge (arithmetic s ts r size fine) action.Done ≡ action.Done = subst (λ (k : Action). fault_edge (arithmetic s ts r size fine) k ≡ k) f its in
          let size_is : action.Size ≡ action.Done = subst (λ (b : Bool). (if b then action.Size else action.Done) ≡ action.Done) has at_done in
          cc
      by_edge s ts r size fine x (inr f) off its has =
          let at_size : has_phrase (arithmetic s ts r size fine) ≡ false = subst (λ (k : Action). handled p (arithmetic s ts r size fine) k ≡ false) f off in
          cc

      by_act : (a : Act) → done ++ y ∷ rest ≡ parts_of p statement a x → handled p a x ≡ false → fault_edge a x ≡ x → has_phrase a ≡ true → ⊥
      by_act (arithmetic s ts r size fine) e off its has = by_edge s ts r size fine x (given.edges_ p statement s ts r size fine x done rest y e worked) off its has
      by_act (move z places) e off its has = cc
      by_act (if_ v held other) e off its has = cc
      by_act (evaluate ws other) e off its has = cc
      by_act (perform body turns) e off its has = cc
      by_act (go_to n) e off its has = cc
      by_act nothing e off its has = cc
      by_act stop e off its has = cc
      by_act (open_files os) e off its has = cc
      by_act (close_files fs) e off its has = cc
      by_act (reading f into end fine) e off its has = cc
      by_act (write r from) e off its has = cc
      by_act (show xs) e off its has = cc

  -- ---- reads

  read_cleared : (done : List Part) (place : ℕ) (s : Seen) (m : Moment) → Agrees p statement a x done s m → is_numeric p.layout (homes_of p) s.cells place ≡ true → number_at p.layout m.storage place ≡ None → ⊥
  read_cleared done place s m g e f =
      let there = numeric_there p g.sound.items s.cells (storage m.storage m.counts) g.stands place e in
      let gone : is_some (number_at p.layout m.storage place) ≡ false = ap is_some f in
      cc

  -- ---- divisors

  -- a divisor that doesn't divide is 0
  pub zero_divisor : (done : List Part) (d : Atom) (s : Seen) (m : Moment) → IsDivided done d → Agrees p statement a x done s m → m.by_zero ≡ false → divides_by (worth p.layout m.first) d ≡ false
      → (v : Scaled) × (atom_value (worth p.layout m.first) d ≡ Some v) × (v.units ≡ pos 0)
  zero_divisor done d s m q g unzero e = by_value (is_there (atom_value (worth p.layout m.first) d) (q.some (worth p.layout m.first) all_count_))
    where
      all_count_ : list_all (divides_by (worth p.layout m.first)) q.atoms ≡ true
      all_count_ =
          let r = read_first p.layout (handled p a x) q.places (divides q.atoms) (run.beginning m.first g.counts) m refl
          (subst (λ (xs : List Part). PassesParts p.layout (handled p a x) xs (run.beginning m.first g.counts) m) q.split g.passed) in
          subst (λ (bytes : List ℕ). list_all (divides_by (worth p.layout bytes)) q.atoms ≡ true) r.first
          (divisors_count p.layout (handled p a x) q.atoms [] r.next m (subst (λ (xs : List Part). PassesParts p.layout (handled p a x) xs r.next m) (sym (append-nil (divides q.atoms))) r.passes) unzero)

      zero_units : (v : Scaled) → not (unsigned_abs v.units == 0) ≡ false → v.units ≡ pos 0
      zero_units v f = go (unsigned_abs v.units == 0) refl f
        where
          is_zero : (n : ℕ) → (n == 0) ≡ true → n ≡ 0
          is_zero n h = eqb-true n 0 h

          go : (b : Bool) → (unsigned_abs v.units == 0) ≡ b → not b ≡ false → v.units ≡ pos 0
          go true h k = let n : unsigned_abs v.units ≡ 0 = is_zero (unsigned_abs v.units) h in omega (arith, ints, n)
          go false h k = absurd cc

      by_value : (v : Scaled) × (atom_value (worth p.layout m.first) d ≡ Some v) → (v : Scaled) × (atom_value (worth p.layout m.first) d ≡ Some v) × (v.units ≡ pos 0)
      by_value (v, f) = (v, f, zero_units v (subst (λ (o : Option Scaled). option_map_or (λ w. not (unsigned_abs w.units == 0)) o false ≡ false) f e))

  divide_cleared : (done : List Part) (d : Atom) (s : Seen) (m : Moment) → IsDivided done d → Agrees p statement a x done s m → m.by_zero ≡ false → not (holds_zero (atom_range (range_at p s.cells) d)) ≡ true → divides_by (worth p.layout m.first) d ≡ false → ⊥
  divide_cleared done d s m q g unzero clear e = by_value (zero_divisor done d s m q g unzero e)
    where
      zero_in : (o : Option Ranged) (v : Scaled) → v.units ≡ pos 0 → IsSomeAnd o (IsIn v) → holds_zero o ≡ true
      zero_in None v z h = absurd h
      zero_in (Some r) v z h =
          let held = h.held in
          and_true (int_le r.units.low (pos 0)) (int_le (pos 0) r.units.high)
          (test_le r.units.low (pos 0) (let l = held.0 in omega (arith, ints, l, z))) (test_le (pos 0) r.units.high (let u = held.1 in omega (arith, ints, u, z)))

      by_value : (v : Scaled) × (atom_value (worth p.layout m.first) d ≡ Some v) × (v.units ≡ pos 0) → ⊥
      by_value (v, f, zeros) =
          let inside = atom_in (amount_or_other given p statement a x done d s m q g) (range_at p s.cells) (all_in given p statement a x done d s m q g) d v
          (sym (same_value given p statement a x done d s m q g d (numeric given p statement a x done d s m q g)) ∙ f) in
          not_both (holds_zero (atom_range (range_at p s.cells) d)) (zero_in (atom_range (range_at p s.cells) d) v zeros inside) clear

  -- ---- stores

  pub root_of_amount : (y : Amount) → has_quotient y ≡ true → HasRoot p statement a x y
  root_of_amount (computed s h) e = tt
  root_of_amount (remaining s scale) e = e
  root_of_amount (moved y) e = tt
  root_of_amount (augmented y) e = tt

  store_cleared : (done : List Part) (place : ℕ) (mode : Mode) (y : Amount) (t : Seen) (m : Moment) → TakenAt p statement a x done t m → IsStored a x done place y → m.by_zero ≡ false → all_fit p a x t place mode y ≡ true → stored_bytes p.layout m place mode y ≡ None → ⊥
  store_cleared done place mode y t m g q unzero clear e =
      let two = both_true (has_quotient y) (option_map_or (all_fit_of p a x t place mode y) t.common true) clear in
      let v = is_there (amount p.layout m y) (amount_there p statement a x done place y t m g q unzero (root_of_amount y two.0)) in
      go v.0 t.common (amount_meant p statement a x done place y t m g q unzero v.0 v.1) two.1
      (subst (λ (o : Option Fraction). (o >>= stored_units mode (form_at p.layout place)) ≡ None) v.1 e)
    where
      amounts : (v : Fraction) (o : Option AmountRange) → IsSomeAnd o (λ r. IsAmount r v) → option_map_or (λ r. not (may_fail mode (receiver_of (form_at p.layout place)) r)) o true ≡ true → stored_units mode (form_at p.layout place) v ≡ None → ⊥
      amounts v None h k f = h
      amounts v (Some r) h k f = not_both (may_fail mode (receiver_of (form_at p.layout place)) r) (given.fails_ mode (form_at p.layout place) r v h f) k

      go : (v : Fraction) (o : Option Taken) → IsSomeAnd (o >>= amount_of y (range_at p t.cells place)) (λ r. IsAmount r v) → option_map_or (all_fit_of p a x t place mode y) o true ≡ true → stored_units mode (form_at p.layout place) v ≡ None → ⊥
      go v None h k f = h
      go v (Some c) h k f = amounts v (amount_of y (range_at p t.cells place) c) h k f

  misfit_is : (y : Amount) → is_misfit y (misfit_of y) ≡ true
  misfit_is (computed s h) = refl
  misfit_is (remaining s scale) = refl
  misfit_is (moved y) = refl
  misfit_is (augmented y) = refl

  -- ---- counters

  exceeds_told : (i : Interval) (v : ℤ) → Holds i v → ¬ IsCount v → not (count_may_fail i) ≡ true → ⊥
  exceeds_told i v (b, c) great clear =
      not_both (count_may_fail i) ((given.exceeded_ 18 i (omega (arith, ints, b, c))).1 (v, (b, c), exceeded_of v great)) clear

  set_cleared : (done : List Part) (k : ℕ) (y : Sender) (t : Seen) (m : Moment) → TakenAt p statement a x done t m → Counts a x y → IsTooGreat p.layout y m → all_count p a x t ≡ true → ⊥
  set_cleared done k y t m g counts great clear = go t.common (sent_holds given p statement a x done t m y great.number g (counts_amount p statement a x a x y counts) great.sent) clear
    where
      go : (o : Option Taken) → IsSomeAnd o (λ c. Holds c.top.units great.number.units) → option_map_or (λ c. not (count_may_fail c.top.units)) o true ≡ true → ⊥
      go None h e = h
      go (Some c) h e = exceeds_told c.top.units great.number.units h great.misfits e

  down_cleared : (done : List Part) (k : ℕ) (s : Seen) (m : Moment) → done ≡ read_count k ∷ [] → Agrees p statement a x done s m → ¬ IsCount (m.own.units -ℤ pos 1) → not (count_may_fail (lowered (units_of p.layout (homes_of p) s.cells (of_count k)))) ≡ true → ⊥
  down_cleared done k s m split g great clear =
      if_home (λ c. not (count_may_fail (lowered (known_or (picture_range 18 true) c))) ≡ true → ⊥) (λ e. cc) (homes_of p) s.cells (of_count k)
      (λ there e.
      let read_ = counted_down given p statement a x done k s m split g in
      let now = count_holds p g.sound.items s.cells (storage m.storage m.counts) g.stands k m.own.units read_ (times_small p statement a x s m k m.own.units g.stands (g.sound.counts k there) read_) in
      exceeds_told (lowered (units_of p.layout (homes_of p) s.cells (of_count k))) (m.own.units -ℤ pos 1) (lower_holds given p statement a x (units_of p.layout (homes_of p) s.cells (of_count k)) m.own.units now) great e) clear

  -- ---- all parts

  divide_part : (done rest : List Part) (d : Atom) (s : Seen) (m : Moment) (fault : Kind) → done ++ divide d ∷ rest ≡ parts_of p statement a x → Agrees p statement a x done s m → clears_part p a x (divide d) s fault ≡ true → fault_edge a x ≡ x
      → (b : Bool) → handled p a x ≡ b → Faults p.layout b (divide d) m fault → ⊥
  divide_part done rest d s m fault e g clear its true on f = f
  divide_part done rest d s m fault e g clear its false off (f, is) =
      elim (or_either (has_phrase a) (not (holds_zero (atom_range (range_at p s.cells) d))) (subst (λ (k : Kind). clears_part p a x (divide d) s k ≡ true) is clear)) [
        | inl has ↦ phrase_off done rest (divide d) refl e off its has
        | inr none ↦ divide_cleared done d s m (given.places_ p statement a x done rest (divide d) e) g (off_zero given p statement a x done s m g off) none f
      ]

  store_part : (done rest : List Part) (place : ℕ) (mode : Mode) (y : Amount) (s : Seen) (m : Moment) (fault : Kind) → done ++ store place mode y ∷ rest ≡ parts_of p statement a x → Agrees p statement a x done s m
      → clears_part p a x (store place mode y) s fault ≡ true → fault_edge a x ≡ x → (b : Bool) → handled p a x ≡ b → Faults p.layout b (store place mode y) m fault → ⊥
  store_part done rest place mode y s m fault e g clear its true on f = f
  store_part done rest place mode y s m fault e g clear its false off (f, is) =
      elim (or_either (has_phrase a) _ (subst (λ (k : Kind). clears_part p a x (store place mode y) s k ≡ true) is clear)) [
        | inl has ↦ phrase_off done rest (store place mode y) refl e off its has
        | inr some_ ↦ elim (or_either (not (is_misfit y (misfit_of y))) (all_fit p a x (with_taken p a x s) place mode y) some_) [
          | inl other ↦ not_both (is_misfit y (misfit_of y)) (misfit_is y) other
          | inr fits ↦ store_cleared done place mode y (with_taken p a x s) m (taken_at p statement a x given done (store place mode y) s m refl (given.places_ p statement a x done rest (store place mode y) e) g)
              (given.places_ p statement a x done rest (store place mode y) e) (off_zero given p statement a x done s m g off) fits f
        ]
      ]

  pub cleared : (done rest : List Part) (y : Part) (s : Seen) (m : Moment) (fault : Kind) → done ++ y ∷ rest ≡ parts_of p statement a x → Agrees p statement a x done s m → clears_part p a x y s fault ≡ true → ¬ FaultsOn p statement a x y m fault
  cleared done rest (read place) s m fault e g clear (its, inl (unzero, none, is)) = read_cleared done place s m g (subst (λ (k : Kind). clears_part p a x (read place) s k ≡ true) is clear) none
  cleared done rest (read place) s m fault e g clear (its, inr (is, f)) = f
  cleared done rest unread s m fault e g clear (its, inl is) = let f = subst (λ (k : Kind). clears_part p a x unread s k ≡ true) is clear in cc
  cleared done rest unread s m fault e g clear (its, inr (is, f)) = f
  cleared done rest (subscript last k) s m fault e g clear (its, inl (comes, none, is)) = read_cleared done k s m g (subst (λ (w : Kind). clears_part p a x (subscript last k) s w ≡ true) is clear) none
  cleared done rest (subscript last k) s m fault e g clear (its, inr (is, f)) = f
  cleared done rest (index last k count) s m fault e g clear (its, inl (comes, v, has, none)) =
      index_cleared p statement a x done k count s m v fault g (subst (λ (w : Kind). clears_part p a x (index last k count) s w ≡ true) (fault_is count v.units fault none) clear) has none
  cleared done rest (index last k count) s m fault e g clear (its, inr (is, f)) = f
  cleared done rest (divide d) s m fault e g clear (its, inl f) = divide_part done rest d s m fault e g clear its (handled p a x) refl f
  cleared done rest (divide d) s m fault e g clear (its, inr (is, f)) = f
  cleared done rest (store place mode y) s m fault e g clear (its, inl f) = store_part done rest place mode y s m fault e g clear its (handled p a x) refl f
  cleared done rest (store place mode y) s m fault e g clear (its, inr (is, f)) = f
  cleared done rest (bytes_in offset count) s m fault e g clear (its, inl f) = f
  cleared done rest (bytes_in offset count) s m fault e g clear (its, inr (is, f)) = f
  cleared done rest (guard v wanted) s m fault e g clear (its, inl f) = f
  cleared done rest (guard v wanted) s m fault e g clear (its, inr (is, f)) = f
  cleared done rest (read_count k) s m fault e g clear (its, inl f) = f
  cleared done rest (read_count k) s m fault e g clear (its, inr (is, f)) = f
  cleared done rest (set_count k y) s m fault e g clear (its, inl f) = f
  cleared done rest (set_count k y) s m fault e g clear (its, inr (is, f)) =
      let q = given.places_ p statement a x done rest (set_count k y) e in
      set_cleared done k y (with_taken p a x s) m (taken_at p statement a x given done (set_count k y) s m refl q g) q.1 f (subst (λ (w : Kind). clears_part p a x (set_count k y) s w ≡ true) is clear)
  cleared done rest (count_down k) s m fault e g clear (its, inl f) = f
  cleared done rest (count_down k) s m fault e g clear (its, inr (is, f)) =
      let q = given.places_ p statement a x done rest (count_down k) e in
      down_cleared done k s m q.1 g f (subst (λ (w : Kind). clears_part p a x (count_down k) s w ≡ true) is clear)
  cleared done rest (guard_count k wanted) s m fault e g clear (its, inl f) = f
  cleared done rest (guard_count k wanted) s m fault e g clear (its, inr (is, f)) = f
