-- What is cleared before a part, by cells and by differences of them, isn't met there.
use Rattle.std.proofs.Common.{◌≡◌, ◌<◌, ◌≤◌, ℕ, zero, suc, ◌-◌, ◌^◌, Bool, true, false, ◌||◌, not, if◌then◌else◌, ◌⊎◌, inl, inr, List, [], ◌∷◌, ◌++◌, Option, Some, None, ℤ, pos, neg_ℤ, ◌≤ℤ◌, ◌-ℤ◌, refl, sym, ap, subst, ◌∙◌, arith}
use Rattle.std.specs.Prelude.{IfSome, IsSomeAnd, nat_lt, unsigned_abs}
use Rattle.std.specs.List.{Contains}
use Rattle.std.specs.Option.{option_map_or}
use Rattle.std.proofs.lemmas.Int.{ints}
use Rattle.dec_num.specs.declared.types.Mode.{Mode}
use Rattle.dec_num.specs.declared.types.Mode.TheVariants.{Trunc}
use Rattle.dec_num.specs.declared.types.Scaled.{Scaled}
use Rattle.dec_num.specs.Exact.{Fraction, near}
use Rattle.dec_num.specs.Scaled.{value_of}
use Rattle.dec_num.proofs.Near.{near_own_scale}
use Rattle.dec_num.proofs.Powers.{ten_positive}
use Rattle.cob_tree.specs.declared.fault.Kind.{Kind}
use Rattle.cob_tree.specs.declared.fault.Kind.TheVariants as kind
use Rattle.cob_tree.specs.declared.form.Form.{Form}
use Rattle.cob_tree.specs.declared.form.Form.TheVariants as form
use Rattle.cob_data.specs.declared.layout.Sender.{Sender}
use Rattle.interval_domain.specs.declared.bounds.Interval.{Interval}
use Rattle.interval_domain.specs.Bounds.{Holds}
use Rattle.cob_program.specs.Sum.{Atom}
use Rattle.cob_program.specs.Values.{whole_number, ◌>>=◌}
use Rattle.cob_program.specs.Act.{Act, Program}
use Rattle.cob_runs.specs.declared.action.Action.{Action}
use Rattle.cob_runs.specs.Contents.{form_at, bytes_of, digits_of, scale_of, if_held, stored as stored_units}
use Rattle.cob_runs.specs.Computing.{worth}
use Rattle.cob_runs.specs.Moves.{number_of}
use Rattle.cob_edge_parts.specs.Parts.{Amount, Part, read, unread, subscript, index, divide, store, bytes_in, guard, read_count, set_count, count_down, guard_count, parts_of, has_phrase}
use Rattle.cob_edge_parts.specs.Meaning.{Moment, divides_by, stored_bytes, amount, Faults}
use Rattle.cob_edge_parts.specs.Edges.{fault_edge}
use Rattle.diff_bounds.specs.declared.form.lin.Lin.{Lin}
use Rattle.sum_forms.specs.SumForms.{atom_form}
use Rattle.transfer_ranges.specs.declared.amounts.Taken.{Taken}
use Rattle.transfer_ranges.specs.declared.amounts.AmountRange.{AmountRange}
use Rattle.transfer_ranges.specs.Receivers.{receiver_of, counter}
use Rattle.transfer_ranges.specs.Amounts.{IsAmount}
use Rattle.transfer_ranges.specs.ResultRanges.{amount_units, most, lowered}
use Rattle.transfer_ranges.proofs.Fitting.{units_hold}
use Rattle.cob_edge_parts.specs.Counters.{IsCount, IsTooGreat}
use Rattle.cell_laws.specs.Places.{IsStored}
use Rattle.interval_domain.specs.Known.{Known}
use Rattle.cob_graph.specs.declared.homes.Home.{Home}
use Rattle.cob_graph.specs.declared.homes.Home.TheVariants.{Count as of_count}
use Rattle.cob_graph.specs.Homes.{is_home, homes_of}
use Rattle.cell_steps.specs.OwnRanges.{picture_range}
use Rattle.cell_steps.specs.Storages.{storage, known_of}
use Rattle.cell_steps.specs.Cells.{known_or, units_of}
use Rattle.transfer_ranges.specs.EdgeOperands.{amount_of}
use Rattle.cell_steps.specs.Seen.{Seen}
use Rattle.cell_steps.specs.Stores.{range_at, handled, with_taken}
use Rattle.cell_steps.specs.Clearing.{is_misfit, has_quotient, all_fit, clears_part}
use Rattle.cell_steps.specs.Agreeing.{FaultsOn}
use Rattle.cell_laws.proofs.CellLists.{home_is}
use Rattle.cell_laws.proofs.HomesStand.{same_home}
use Rattle.cell_laws.proofs.OperandsRise.{or_left, or_right, or_either}
use Rattle.cell_laws.proofs.PartsDone.{both_true}
use Rattle.cell_laws.proofs.StoresKeep.{is_there, TakenAt, taken_at, amount_there, counts_amount, amount_meant}
use Rattle.cell_laws.proofs.PartsKeep.{not_less_by_test, sent_holds, counted_down, lower_holds, off_zero}
use Rattle.cell_laws.proofs.HomesHold.{if_home, count_holds}
use Rattle.cell_laws.proofs.QuietParts.{times_small}
use Rattle.cell_laws.proofs.PartsClear.{not_both, zero_divisor, root_of_amount, cleared}
use Rattle.diff_steps.specs.Packs.{Pack, pack_decimals}
use Rattle.diff_steps.specs.Moments.{Seen2}
use Rattle.diff_steps.specs.Forms.{cell_at, amount_form, sender_form, set_form, lowered_form, has_operands, is_whole_sender}
use Rattle.diff_steps.specs.Clearing.{some_pack, ends_fit, is_apart_in, amounts_fit, store_fits, clears_part2}
use Rattle.pack_laws.specs.Agreeing.{ArePacksOf, Agrees2}
use Rattle.pack_laws.specs.Showing.{ShowsAt, ShowsValueAt}
use Rattle.cell_laws.proofs.WalkLawsHold.{cell_laws}
use Rattle.pack_laws.proofs.FormsShowMoments.{shows, all_amounts_are_shown, all_operands_are_there, all_senders_are_shown, all_counters_are_shown, all_divisors_are_shown}
use Rattle.pack_laws.proofs.FormsShowCounters.{lowered_told}
use Rattle.pack_laws.proofs.PacksKeepCells.{found_cell}
use Rattle.pack_laws.proofs.PacksKeep.{whole_scale}
use Rattle.cell_laws.proofs.Subscripts.{fault_is}
use Rattle.pack_laws.proofs.Subscripts.{index_stands_clear}
use Rattle.pack_laws.proofs.PacksClearEnds.{ShowsNear, ends_hold, none_apart}

-- ---- what fits

size_within : (n : ℕ) (z : ℤ) → 1 ≤ n → neg_ℤ (pos (n - 1)) ≤ℤ z → z ≤ℤ pos (n - 1) → unsigned_abs z < n
size_within n z one l h = omega (arith, ints, one, l, h)

unheld : (f : Form) (z : ℤ) → if_held f z ≡ None → neg_ℤ (most (receiver_of f).digits) ≤ℤ z → z ≤ℤ most (receiver_of f).digits → ⊥
unheld f z e low high = go (nat_lt (unsigned_abs z) (10 ^ digits_of f)) refl e
  where
    digits_same : (f : Form) → (receiver_of f).digits ≡ digits_of f
    digits_same form.Group = refl
    digits_same (form.Text n) = refl
    digits_same (form.Number digits scale signed kept) = refl
    digits_same (form.Edited picture digits scale) = refl

    within : unsigned_abs z < 10 ^ digits_of f
    within = subst (λ (d : ℕ). unsigned_abs z < 10 ^ d) (digits_same f) (size_within (10 ^ (receiver_of f).digits) z (ten_positive (receiver_of f).digits) low high)

    go : (b : Bool) → nat_lt (unsigned_abs z) (10 ^ digits_of f) ≡ b → (if b then Some (bytes_of f z) else None) ≡ None → ⊥
    go true lt h = cc
    go false lt h = not_less_by_test (unsigned_abs z) (10 ^ digits_of f) lt within

counts : (z : ℤ) → neg_ℤ (most 18) ≤ℤ z → z ≤ℤ most 18 → IsCount z
counts z low high = size_within (10 ^ 18) z (ten_positive 18) low high

-- ---- homes

by_home : (hs : List Home) (h : Home) (C : Type 0) → (Contains hs h → C) → ((Contains hs h → ⊥) → C) → C
by_home [] h C there absent = absent (λ c. omega (arith, c.1))
by_home (g ∷ hs) h C there absent = go (is_home g h) refl (by_home hs h C)
  where
    behind : Contains hs h → Contains (g ∷ hs) h
    behind c = (suc c.0, omega (arith, c.1), c.2)

    nowhere : is_home g h ≡ false → (Contains hs h → ⊥) → Contains (g ∷ hs) h → ⊥
    nowhere e none (zero, lt, is) = let t = same_home h in let f : is_home h h ≡ false = subst (λ (j : Home). is_home j h ≡ false) is e in cc
    nowhere e none (suc k, lt, is) = none (k, omega (arith, lt), is)

    go : (b : Bool) → is_home g h ≡ b → ((Contains hs h → C) → ((Contains hs h → ⊥) → C) → C) → C
    go true e more = there (zero, omega arith, home_is g h e)
    go false e more = more (λ c. there (behind c)) (λ none. absent (nowhere e none))

module _ (p : Program) (packs : List Pack) (of : ArePacksOf p packs) (statement : ℕ) (a : Act) (x : Action) where
  abbrev Now : List Part → Seen → Seen2 → Moment → Type 0
  Now done s r m = Agrees2 p packs statement a x done s r m

  -- ---- divisors

  divide_cleared : (done rest : List Part) (d : Atom) (s : Seen) (r : Seen2) (m : Moment) → done ++ divide d ∷ rest ≡ parts_of p statement a x → Now done s r m → handled p a x ≡ false → divides_by (worth p.layout m.first) d ≡ false
      → some_pack (is_apart_in p s d) packs r.packs ≡ true → ⊥
  divide_cleared done rest d s r m e g off f apart =
      let v = zero_divisor cell_laws p statement a x done d s m (cell_laws.places_ p statement a x done rest (divide d) e) g.cells (off_zero cell_laws p statement a x done s m g.cells off) f in
      none_apart p packs r.packs (storage m.storage m.counts) of g.matrices g.stand (λ pack. atom_form (pack_decimals p.layout pack) (cell_at p pack s []) (range_at p s.cells) d) v.0 v.2
      (λ pack is few. all_divisors_are_shown p statement a x pack few done rest d e s m g.cells v.0 v.1) apart

  -- ---- stores

  value_shown : (pack : Pack) (m : Moment) (mode : Mode) (f : Form) (v : Fraction) (o : Option Lin) → IfSome o (ShowsValueAt p.layout pack m v)
      → IfSome o (ShowsNear p.layout (storage m.storage m.counts) mode (receiver_of f) (near mode v (pos (receiver_of f).scale)) pack)
  value_shown pack m mode f v None h = tt
  value_shown pack m mode f v (Some g) (d, same, is) = (d, ap (λ (q : Fraction). near mode q (pos (receiver_of f).scale)) same, is)

  store_cleared : (done rest : List Part) (place : ℕ) (mode : Mode) (y : Amount) (s : Seen) (r : Seen2) (m : Moment) → done ++ store place mode y ∷ rest ≡ parts_of p statement a x → Now done s r m → m.by_zero ≡ false
      → store_fits p packs a x (with_taken p a x s) r place mode y ≡ true → stored_bytes p.layout m place mode y ≡ None → ⊥
  store_cleared done rest place mode y s r m e g unzero clear none =
      let two = both_true (has_quotient y) (not (has_operands p (with_taken p a x s) r.wrote y) || option_map_or (amounts_fit p packs a x (with_taken p a x s) r place mode y) (with_taken p a x s).common true) clear in
      let v = is_there (amount p.layout m y) (amount_there p statement a x done place y (with_taken p a x s) m taken q unzero (root_of_amount cell_laws p statement a x y two.0)) in
      by_operands v.0 v.1 (or_either (not (has_operands p (with_taken p a x s) r.wrote y)) (option_map_or (amounts_fit p packs a x (with_taken p a x s) r place mode y) (with_taken p a x s).common true) two.1)
    where
      q : IsStored a x done place y
      q = cell_laws.places_ p statement a x done rest (store place mode y) e

      taken : TakenAt p statement a x done (with_taken p a x s) m
      taken = taken_at p statement a x cell_laws done (store place mode y) s m refl q g.cells

      by_units : (v : Fraction) → amount p.layout m y ≡ Some v → (o : Option Interval) → IsSomeAnd o (λ i. Holds i (near mode v (pos (receiver_of (form_at p.layout place)).scale)))
          → option_map_or (ends_fit p packs r.packs (λ pack. amount_form p pack (with_taken p a x s) r.wrote place y) mode (receiver_of (form_at p.layout place))) o true ≡ true → ⊥
      by_units v f None h k = h
      by_units v f (Some i) h k =
          let ends = ends_hold p packs r.packs (storage m.storage m.counts) of g.matrices g.stand (λ pack. amount_form p pack (with_taken p a x s) r.wrote place y) mode (receiver_of (form_at p.layout place))
          (near mode v (pos (receiver_of (form_at p.layout place)).scale))
          (λ pack is few. value_shown pack m mode (form_at p.layout place) v (amount_form p pack (with_taken p a x s) r.wrote place y) (all_amounts_are_shown p statement a x pack few done rest place mode y e s r.wrote m g.cells g.tracked unzero v f)) i h k in
          unheld (form_at p.layout place) (near mode v (pos (receiver_of (form_at p.layout place)).scale)) (not_held v f) ends.0 ends.1
        where
          scales : (f : Form) → scale_of f ≡ (receiver_of f).scale
          scales form.Group = refl
          scales (form.Text n) = refl
          scales (form.Number digits scale signed kept) = refl
          scales (form.Edited picture digits scale) = refl

          not_held : (v : Fraction) → amount p.layout m y ≡ Some v → if_held (form_at p.layout place) (near mode v (pos (receiver_of (form_at p.layout place)).scale)) ≡ None
          not_held v f =
              ap (λ (n : ℕ). if_held (form_at p.layout place) (near mode v (pos n))) (sym (scales (form_at p.layout place)))
              ∙ (sym (ap (λ (o : Option Fraction). o >>= stored_units mode (form_at p.layout place)) f) ∙ none)

      by_amounts : (v : Fraction) → amount p.layout m y ≡ Some v → (o : Option AmountRange) → IsSomeAnd o (λ k. IsAmount k v)
          → option_map_or (ends_fit p packs r.packs (λ pack. amount_form p pack (with_taken p a x s) r.wrote place y) mode (receiver_of (form_at p.layout place))) (o >>= amount_units mode (receiver_of (form_at p.layout place)).scale) true ≡ true → ⊥
      by_amounts v f None h k = h
      by_amounts v f (Some w) h k =
          by_units v f (amount_units mode (receiver_of (form_at p.layout place)).scale w)
          (units_hold mode (receiver_of (form_at p.layout place)).scale w (near mode v (pos (receiver_of (form_at p.layout place)).scale)) (v, h, refl)) k

      by_taken : (v : Fraction) → amount p.layout m y ≡ Some v → (o : Option Taken) → IsSomeAnd (o >>= amount_of y (range_at p (with_taken p a x s).cells place)) (λ k. IsAmount k v)
          → option_map_or (amounts_fit p packs a x (with_taken p a x s) r place mode y) o true ≡ true → ⊥
      by_taken v f None h k = h
      by_taken v f (Some c) h k = by_amounts v f (amount_of y (range_at p (with_taken p a x s).cells place) c) h k

      by_operands : (v : Fraction) → amount p.layout m y ≡ Some v
          → (not (has_operands p (with_taken p a x s) r.wrote y) ≡ true) ⊎ (option_map_or (amounts_fit p packs a x (with_taken p a x s) r place mode y) (with_taken p a x s).common true ≡ true) → ⊥
      by_operands v f (inl h) = not_both (has_operands p (with_taken p a x s) r.wrote y) (all_operands_are_there p statement a x done rest place mode y e s r.wrote m g.cells g.tracked unzero v f) h
      by_operands v f (inr h) = by_taken v f (with_taken p a x s).common (amount_meant p statement a x done place y (with_taken p a x s) m taken q unzero v f) h

  -- ---- counters

  set_shown : (pack : Pack) (t : Seen) (r : Seen2) (y : Sender) (m : Moment) (v : Scaled) → number_of p.layout m.first y ≡ Some v
      → IfSome (sender_form p pack t r.wrote y) (λ form. (d : Scaled) × (value_of v ≡ value_of d) × ShowsAt p.layout pack m d form)
      → IfSome (set_form p pack t r.wrote y) (ShowsNear p.layout (storage m.storage m.counts) Trunc counter v.units pack)
  set_shown pack t r y m v sent shown = by_scale (is_whole_sender p.layout y) refl
    where
      of_sender : (o : Option Lin) → v.scale ≡ 0 → IfSome o (λ form. (d : Scaled) × (value_of v ≡ value_of d) × ShowsAt p.layout pack m d form) → IfSome o (ShowsNear p.layout (storage m.storage m.counts) Trunc counter v.units pack)
      of_sender None is h = tt
      of_sender (Some f) is (d, same, h) =
          (d, sym (near_own_scale Trunc v) ∙ ap (λ (n : ℕ). near Trunc (value_of v) (pos n)) is ∙ ap (λ (q : Fraction). near Trunc q (pos 0)) same, h)

      by_scale : (b : Bool) → is_whole_sender p.layout y ≡ b → IfSome (if b then sender_form p pack t r.wrote y else None) (ShowsNear p.layout (storage m.storage m.counts) Trunc counter v.units pack)
      by_scale true e = of_sender (sender_form p pack t r.wrote y) (whole_scale p.layout m.first y v e sent) shown
      by_scale false e = tt

  set_cleared : (done rest : List Part) (k : ℕ) (y : Sender) (s : Seen) (r : Seen2) (m : Moment) → done ++ set_count k y ∷ rest ≡ parts_of p statement a x → Now done s r m → IsTooGreat p.layout y m
      → option_map_or (λ c. ends_fit p packs r.packs (λ pack. set_form p pack (with_taken p a x s) r.wrote y) Trunc counter c.top.units) (with_taken p a x s).common true ≡ true → ⊥
  set_cleared done rest k y s r m e g great clear =
      let q = cell_laws.places_ p statement a x done rest (set_count k y) e in
      by_taken (with_taken p a x s).common
      (sent_holds cell_laws p statement a x done (with_taken p a x s) m y great.number (taken_at p statement a x cell_laws done (set_count k y) s m refl q g.cells) (counts_amount p statement a x a x y q.1) great.sent) clear
    where
      by_taken : (o : Option Taken) → IsSomeAnd o (λ c. Holds c.top.units great.number.units)
          → option_map_or (λ c. ends_fit p packs r.packs (λ pack. set_form p pack (with_taken p a x s) r.wrote y) Trunc counter c.top.units) o true ≡ true → ⊥
      by_taken None h f = h
      by_taken (Some c) h f =
          let ends = ends_hold p packs r.packs (storage m.storage m.counts) of g.matrices g.stand (λ pack. set_form p pack (with_taken p a x s) r.wrote y) Trunc counter great.number.units
          (λ pack is few. set_shown pack (with_taken p a x s) r y m great.number great.sent (all_senders_are_shown p statement a x pack few done rest k y e s r.wrote m g.cells g.tracked great.number great.sent)) c.top.units h f in
          great.misfits (counts great.number.units ends.0 ends.1)

  whole_shown : (pack : Pack) (m : Moment) (z : ℤ) (o : Option Lin) → IfSome o (ShowsAt p.layout pack m (whole_number z)) → IfSome o (ShowsNear p.layout (storage m.storage m.counts) Trunc counter z pack)
  whole_shown pack m z None h = tt
  whole_shown pack m z (Some f) h = (whole_number z, sym (near_own_scale Trunc (whole_number z)), h)

  -- a counter of the program's goes down
  down_cleared : (done rest : List Part) (k : ℕ) (s : Seen) (r : Seen2) (m : Moment) → done ++ count_down k ∷ rest ≡ parts_of p statement a x → Now done s r m → ¬ IsCount (m.own.units -ℤ pos 1) → Contains (homes_of p) (of_count k)
      → ends_fit p packs r.packs (λ pack. lowered_form p pack s r.wrote k) Trunc counter (lowered (units_of p.layout (homes_of p) s.cells (of_count k))) ≡ true → ⊥
  down_cleared done rest k s r m e g great there clear =
      let q = cell_laws.places_ p statement a x done rest (count_down k) e in
      let held = counted_down cell_laws p statement a x done k s m q.1 g.cells in
      let small = times_small p statement a x s m k m.own.units g.cells.stands (g.cells.sound.counts k there) held in
      let now = count_holds p g.cells.sound.items s.cells (storage m.storage m.counts) g.cells.stands k m.own.units held small in
      let ends = ends_hold p packs r.packs (storage m.storage m.counts) of g.matrices g.stand (λ pack. lowered_form p pack s r.wrote k) Trunc counter (m.own.units -ℤ pos 1)
      (λ pack is few. whole_shown pack m (m.own.units -ℤ pos 1) (lowered_form p pack s r.wrote k) (all_counters_are_shown p statement a x pack few done rest k e s r.wrote m g.cells (λ none. small)))
      (lowered (units_of p.layout (homes_of p) s.cells (of_count k))) (lower_holds cell_laws p statement a x (units_of p.layout (homes_of p) s.cells (of_count k)) m.own.units now) clear in
      great (counts (m.own.units -ℤ pos 1) ends.0 ends.1)

  -- Another one has no cell in a pack, and may hold the least number of its range.
  other_down_cleared : (done : List Part) (k : ℕ) (s : Seen) (r : Seen2) (m : Moment) → Now done s r m → (Contains (homes_of p) (of_count k) → ⊥)
      → ends_fit p packs r.packs (λ pack. lowered_form p pack s r.wrote k) Trunc counter (lowered (units_of p.layout (homes_of p) s.cells (of_count k))) ≡ true → ⊥
  other_down_cleared done k s r m g absent clear =
      let ends = ends_hold p packs r.packs (storage m.storage m.counts) of g.matrices g.stand (λ pack. lowered_form p pack s r.wrote k) Trunc counter (neg_ℤ (most 18) -ℤ pos 1)
      (λ pack is few. whole_shown pack m (neg_ℤ (most 18) -ℤ pos 1) (lowered_form p pack s r.wrote k)
      (shows p statement a x pack few done s m g.cells (lowered_form p pack s r.wrote k) (whole_number (neg_ℤ (most 18) -ℤ pos 1))
      (lowered_told p g.cells.sound.items s m.storage m.counts g.cells.stands pack few r.wrote k (neg_ℤ (most 18))
      (λ at f. absurd (absent (is.homes at (of_count k) (found_cell pack (of_count k) at f)))) (λ none. least_held))))
      (lowered (units_of p.layout (homes_of p) s.cells (of_count k))) (lower_holds cell_laws p statement a x (units_of p.layout (homes_of p) s.cells (of_count k)) (neg_ℤ (most 18)) least_held) clear in
      below_itself (neg_ℤ (most 18)) ends.0
    where
      below_itself : (v : ℤ) → v ≤ℤ (v -ℤ pos 1) → ⊥
      below_itself v h = omega (arith, ints, h)

      own_least : (n : ℕ) → (neg_ℤ (pos n) ≤ℤ neg_ℤ (pos n)) × (neg_ℤ (pos n) ≤ℤ pos n)
      own_least n = (omega (arith, ints), omega (arith, ints))

      unknown : known_of (homes_of p) s.cells (of_count k) ≡ None
      unknown = if_home (λ c. c ≡ None) refl (homes_of p) s.cells (of_count k) (λ there. absurd (absent there))

      least_held : Holds (units_of p.layout (homes_of p) s.cells (of_count k)) (neg_ℤ (most 18))
      least_held = subst (λ (c : Known). Holds (known_or (picture_range 18 true) c) (neg_ℤ (most 18))) (sym unknown) (own_least (10 ^ 18 - 1))

  -- ---- all parts

  divide_part : (done rest : List Part) (d : Atom) (s : Seen) (r : Seen2) (m : Moment) (fault : Kind) → done ++ divide d ∷ rest ≡ parts_of p statement a x → Now done s r m → clears_part2 p packs a x (divide d) s r fault ≡ true → fault_edge a x ≡ x
      → (b : Bool) → handled p a x ≡ b → Faults p.layout b (divide d) m fault → ⊥
  divide_part done rest d s r m fault e g clear its true on f = f
  divide_part done rest d s r m fault e g clear its false off (f, is) =
      elim (or_either (clears_part p a x (divide d) s kind.Zero) (some_pack (is_apart_in p s d) packs r.packs) (subst (λ (k : Kind). clears_part2 p packs a x (divide d) s r k ≡ true) is clear)) [
        | inl by_cells ↦ cleared cell_laws p statement a x done rest (divide d) s m kind.Zero e g.cells by_cells (its, inl (subst (λ (b : Bool). Faults p.layout b (divide d) m kind.Zero) (sym off) (f, refl)))
        | inr apart ↦ divide_cleared done rest d s r m e g off f apart
      ]

  store_part : (done rest : List Part) (place : ℕ) (mode : Mode) (y : Amount) (s : Seen) (r : Seen2) (m : Moment) (fault : Kind) → done ++ store place mode y ∷ rest ≡ parts_of p statement a x → Now done s r m
      → clears_part2 p packs a x (store place mode y) s r fault ≡ true → fault_edge a x ≡ x → (b : Bool) → handled p a x ≡ b → Faults p.layout b (store place mode y) m fault → ⊥
  store_part done rest place mode y s r m fault e g clear its true on f = f
  store_part done rest place mode y s r m fault e g clear its false off (f, is) =
      elim (or_either (has_phrase a) (not (is_misfit y fault) || store_fits p packs a x (with_taken p a x s) r place mode y) clear) [
        | inl has ↦ by_cells (or_left (has_phrase a) (not (is_misfit y fault) || all_fit p a x (with_taken p a x s) place mode y) has)
        | inr some_ ↦ elim (or_either (not (is_misfit y fault)) (store_fits p packs a x (with_taken p a x s) r place mode y) some_) [
          | inl other ↦ by_cells (or_right (has_phrase a) (not (is_misfit y fault) || all_fit p a x (with_taken p a x s) place mode y) (or_left (not (is_misfit y fault)) (all_fit p a x (with_taken p a x s) place mode y) other))
          | inr fits ↦ store_cleared done rest place mode y s r m e g (off_zero cell_laws p statement a x done s m g.cells off) fits f
        ]
      ]
    where
      by_cells : clears_part p a x (store place mode y) s fault ≡ true → ⊥
      by_cells c = cleared cell_laws p statement a x done rest (store place mode y) s m fault e g.cells c (its, inl (subst (λ (b : Bool). Faults p.layout b (store place mode y) m fault) (sym off) (f, is)))

  pub part_cleared : (done rest : List Part) (y : Part) (s : Seen) (r : Seen2) (m : Moment) (fault : Kind) → done ++ y ∷ rest ≡ parts_of p statement a x → Now done s r m → clears_part2 p packs a x y s r fault ≡ true → ¬ FaultsOn p statement a x y m fault
  part_cleared done rest (divide d) s r m fault e g clear (its, inl f) = divide_part done rest d s r m fault e g clear its (handled p a x) refl f
  part_cleared done rest (divide d) s r m fault e g clear (its, inr (is, f)) = f
  part_cleared done rest (store place mode y) s r m fault e g clear (its, inl f) = store_part done rest place mode y s r m fault e g clear its (handled p a x) refl f
  part_cleared done rest (store place mode y) s r m fault e g clear (its, inr (is, f)) = f
  part_cleared done rest (set_count k y) s r m fault e g clear (its, inl f) = f
  part_cleared done rest (set_count k y) s r m fault e g clear (its, inr (is, f)) = set_cleared done rest k y s r m e g f (subst (λ (w : Kind). clears_part2 p packs a x (set_count k y) s r w ≡ true) is clear)
  part_cleared done rest (count_down k) s r m fault e g clear (its, inl f) = f
  part_cleared done rest (count_down k) s r m fault e g clear (its, inr (is, f)) =
      let c = subst (λ (w : Kind). clears_part2 p packs a x (count_down k) s r w ≡ true) is clear in
      by_home (homes_of p) (of_count k) ⊥ (λ there. down_cleared done rest k s r m e g f there c) (λ absent. other_down_cleared done k s r m g absent c)
  part_cleared done rest (read place) s r m fault e g clear h = cleared cell_laws p statement a x done rest (read place) s m fault e g.cells clear h
  part_cleared done rest (subscript last k) s r m fault e g clear h = cleared cell_laws p statement a x done rest (subscript last k) s m fault e g.cells clear h
  part_cleared done rest (index last k count) s r m fault e g clear (its, inl (comes, v, has, none)) =
      index_stands_clear p packs of statement a x done k count s r m v fault g
      (subst (λ (w : Kind). clears_part2 p packs a x (index last k count) s r w ≡ true) (fault_is count v.units fault none) clear) has none
  part_cleared done rest (index last k count) s r m fault e g clear (its, inr (is, f)) = f
  part_cleared done rest unread s r m fault e g clear h = cleared cell_laws p statement a x done rest unread s m fault e g.cells clear h
  part_cleared done rest (bytes_in offset count) s r m fault e g clear h = cleared cell_laws p statement a x done rest (bytes_in offset count) s m fault e g.cells clear h
  part_cleared done rest (guard v wanted) s r m fault e g clear h = cleared cell_laws p statement a x done rest (guard v wanted) s m fault e g.cells clear h
  part_cleared done rest (read_count k) s r m fault e g clear h = cleared cell_laws p statement a x done rest (read_count k) s m fault e g.cells clear h
  part_cleared done rest (guard_count k wanted) s r m fault e g clear h = cleared cell_laws p statement a x done rest (guard_count k wanted) s m fault e g.cells clear h
