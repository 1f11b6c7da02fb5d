-- What runs along an edge is shown by forms at each moment.
use Rattle.std.proofs.Common.{◌≡◌, ◌≤◌, ℕ, true, false, List, [], Option, Some, None, ℤ, pos, ◌-ℤ◌, refl, sym, subst, arith}
use Rattle.std.specs.Prelude.{IfSome}
use Rattle.std.specs.List.{list_any}
use Rattle.dec_num.specs.declared.types.Scaled.{Scaled}
use Rattle.dec_num.specs.Exact.{Fraction}
use Rattle.dec_num.specs.Scaled.{value_of}
use Rattle.cob_program.specs.Sum.{Atom}
use Rattle.cob_program.specs.Values.{whole_number, atom_value}
use Rattle.cob_program.specs.Act.{Act, Program}
use Rattle.cob_runs.specs.declared.action.Action.{Action}
use Rattle.cob_runs.specs.Computing.{items_in_atom, are_numeric, worth}
use Rattle.cob_edge_parts.specs.Parts.{Part, divide, store, set_count, count_down}
use Rattle.cob_edge_parts.specs.Meaning.{Moment}
use Rattle.diff_bounds.specs.declared.form.lin.Lin.{Lin}
use Rattle.sum_forms.specs.SumForms.{atom_form}
use Rattle.cell_laws.specs.Places.{IsDivided}
use Rattle.cell_laws.proofs.Parts.{parts_are_in_place}
use Rattle.cell_steps.specs.Storages.{storage}
use Rattle.cell_steps.specs.Seen.{Seen}
use Rattle.cell_steps.specs.Stores.{range_at, with_taken}
use Rattle.cell_steps.specs.Agreeing.{writes, Agrees}
use Rattle.cell_laws.proofs.HomesHold.{count_holds}
use Rattle.cell_laws.proofs.PartsDone.{none_written}
use Rattle.cell_laws.proofs.StoresKeep.{taken_at, counts_amount}
use Rattle.cell_laws.proofs.PartsKeep.{numeric, counted_down}
use Rattle.diff_steps.specs.Packs.{Pack, size_of, pack_decimals, cells_in}
use Rattle.diff_steps.specs.Forms.{cell_at, amount_form, sender_form, lowered_form}
use Rattle.pack_laws.specs.Showing.{ShowsAt, ShowsValueAt, AmountsAreShown, OperandsAreThere, SendersAreShown, CountersAreShown, DivisorsAreShown, GuardsKeep}
use Rattle.cell_laws.proofs.WalkLawsHold.{cell_laws}
use Rattle.pack_laws.proofs.FormsShowValues.{Told, shown, all_shown}
use Rattle.pack_laws.proofs.FormsShowSums.{none_after, atom_told}
use Rattle.pack_laws.proofs.FormsShowAmounts.{ValueTold, moved_told, amount_told, amount_operands}
use Rattle.pack_laws.proofs.FormsShowCounters.{lowered_told}
use Rattle.pack_laws.proofs.FormsShowGuards.{test_keeps}

module _ (p : Program) (statement : ℕ) (a : Act) (x : Action) (pack : Pack) (few : size_of pack ≤ 8) (done : List Part) (s : Seen) (m : Moment) (g : Agrees p statement a x done s m) where
  abbrev cells : ℕ → Option ℤ
  cells = cells_in p.layout pack (storage m.storage m.counts)

  abbrev f : ℕ
  f = pack_decimals p.layout pack

  pub shows : (o : Option Lin) (d : Scaled) → Told cells f o d → IfSome o (ShowsAt p.layout pack m d)
  shows o d h = all_shown cells f (size_of pack) few (none_after p g.sound.items s.cells m.storage m.counts g.stands pack few) o d h

  shows_value : (o : Option Lin) (v : Fraction) → ValueTold cells f o v → IfSome o (ShowsValueAt p.layout pack m v)
  shows_value None v h = tt
  shows_value (Some form) v (d, e, h) = (d, e, shown cells f (size_of pack) few (none_after p g.sound.items s.cells m.storage m.counts g.stands pack few) form d h)

  shows_same : (o : Option Lin) (v : Scaled) → Told cells f o v → IfSome o (λ form. (d : Scaled) × (value_of v ≡ value_of d) × ShowsAt p.layout pack m d form)
  shows_same None v h = tt
  shows_same (Some form) v h = (v, refl, shown cells f (size_of pack) few (none_after p g.sound.items s.cells m.storage m.counts g.stands pack few) form v h)

  -- nothing has been written where a divisor counts
  divisor_shown : (d : Atom) → IsDivided done d → (v : Scaled) → atom_value (worth p.layout m.first) d ≡ Some v
      → IfSome (atom_form f (cell_at p pack s []) (range_at p s.cells) d) (ShowsAt p.layout pack m v)
  divisor_shown d q v is =
      let nothing : list_any writes done ≡ false = subst (λ (xs : List Part). list_any writes xs ≡ false) (sym q.split) (none_written q.places q.atoms).0 in
      let fresh : m.storage ≡ m.first = g.fresh (g.unwritten nothing) in
      shows (atom_form f (cell_at p pack s []) (range_at p s.cells) d) v
      (atom_told p g.sound.items s.cells m.storage m.counts g.stands pack few d v
      (subst (λ (bytes : List ℕ). are_numeric p.layout bytes (items_in_atom d) ≡ true) (sym fresh) (numeric cell_laws p statement a x done d s m q g))
      (subst (λ (bytes : List ℕ). atom_value (worth p.layout bytes) d ≡ Some v) (sym fresh) is))

pub all_amounts_are_shown : AmountsAreShown
all_amounts_are_shown p statement a x pack few done rest place mode y e s wrote m g tracked z v is =
    let q = parts_are_in_place p statement a x done rest (store place mode y) e in
    let t = taken_at p statement a x cell_laws done (store place mode y) s m refl q g in
    shows_value p statement a x pack few done s m g (amount_form p pack (with_taken p a x s) wrote place y) v
    (amount_told p statement a x pack few done (with_taken p a x s) m t wrote tracked place z y v q is)

pub all_operands_are_there : OperandsAreThere
all_operands_are_there p statement a x done rest place mode y e s wrote m g tracked z v is =
    let q = parts_are_in_place p statement a x done rest (store place mode y) e in
    let t = taken_at p statement a x cell_laws done (store place mode y) s m refl q g in
    amount_operands p statement a x [] (omega arith) done (with_taken p a x s) m t wrote tracked place z y v q is

pub all_senders_are_shown : SendersAreShown
all_senders_are_shown p statement a x pack few done rest k y e s wrote m g tracked v is =
    let q = parts_are_in_place p statement a x done rest (set_count k y) e in
    let t = taken_at p statement a x cell_laws done (set_count k y) s m refl q g in
    shows_same p statement a x pack few done s m g (sender_form p pack (with_taken p a x s) wrote y) v
    (moved_told p statement a x pack few done (with_taken p a x s) m t wrote tracked y v (counts_amount p statement a x a x y q.1) is)

pub all_counters_are_shown : CountersAreShown
all_counters_are_shown p statement a x pack few done rest k e s wrote m g small =
    let q = parts_are_in_place p statement a x done rest (count_down k) e in
    let held = counted_down cell_laws p statement a x done k s m q.1 g in
    shows p statement a x pack few done s m g (lowered_form p pack s wrote k) (whole_number (m.own.units -ℤ pos 1))
    (lowered_told p g.sound.items s m.storage m.counts g.stands pack few wrote k m.own.units (λ at there. held)
    (λ none. count_holds p g.sound.items s.cells (storage m.storage m.counts) g.stands k m.own.units held (small none)))

pub all_divisors_are_shown : DivisorsAreShown
all_divisors_are_shown p statement a x pack few done rest d e s m g v is =
    divisor_shown p statement a x pack few done s m g d (parts_are_in_place p statement a x done rest (divide d) e) v is

pub all_guards_keep : GuardsKeep
all_guards_keep p statement a x pack few done rest t wanted e s m g h ms stand =
    test_keeps p g.sound.items s.cells m.storage m.counts g.stands pack few a x s refl t wanted h ms stand
