-- Numbers that run along an edge, and the forms over a pack's cells that show them.
use Rattle.std.specs.Prelude.{◌≡◌, ◌≤◌, ℕ, Bool, true, false, List, [], ◌∷◌, ◌++◌, ℤ, pos, ◌-ℤ◌, Some, None, Ok, IfSome}
use Rattle.dec_num.specs.declared.types.Mode.{Mode}
use Rattle.dec_num.specs.declared.types.Scaled.{Scaled}
use Rattle.dec_num.specs.Exact.{Fraction}
use Rattle.dec_num.specs.Scaled.{value_of}
use Rattle.cob_data.specs.declared.extent.Extent.{Extent}
use Rattle.cob_data.specs.declared.layout.Layout.{Layout}
use Rattle.cob_data.specs.declared.layout.Sender.{Sender}
use Rattle.cob_program.specs.Sum.{Atom}
use Rattle.cob_program.specs.Values.{whole_number, atom_value}
use Rattle.cob_program.specs.Logic.{Test}
use Rattle.cob_program.specs.Act.{Act, Program}
use Rattle.cob_runs.specs.declared.action.Action.{Action}
use Rattle.cob_runs.specs.Computing.{worth}
use Rattle.cob_runs.specs.Deciding.{test_holds}
use Rattle.cob_runs.specs.Moves.{number_of}
use Rattle.cob_edge_parts.specs.Parts.{Amount, Part, divide, store, guard, set_count, count_down, parts_of}
use Rattle.cob_edge_parts.specs.Meaning.{Moment, amount}
use Rattle.diff_bounds.specs.declared.form.lin.Lin.{Lin}
use Rattle.cob_edge_parts.specs.Counters.{IsCount}
use Rattle.sum_forms.specs.SumForms.{atom_form}
use Rattle.cob_graph.specs.declared.homes.Home.TheVariants.{Count as of_count}
use Rattle.cell_steps.specs.Storages.{storage}
use Rattle.cell_steps.specs.Seen.{Seen}
use Rattle.cell_steps.specs.Stores.{range_at, with_taken}
use Rattle.cell_steps.specs.Agreeing.{Agrees}
use Rattle.diff_steps.specs.Packs.{Pack, size_of, cell_of, pack_decimals, cells_in, PackStands}
use Rattle.diff_steps.specs.Forms.{has_operands, cell_at, amount_form, sender_form, lowered_form}
use Rattle.diff_steps.specs.Steps.{guarded_pack}
use Rattle.pack_laws.specs.Orders.{IsShown}
use Rattle.pack_laws.specs.Agreeing.{IsTracked}

-- the decimal is one of the numbers that the form can be, in the pack's unit, where cells have their values at a moment
abbrev pub ShowsAt : Layout → Pack → Moment → Scaled → Lin → Type 0
ShowsAt l pack m d form = IsShown (size_of pack) (cells_in l pack (storage m.storage m.counts)) form d (pack_decimals l pack)

-- the value is such a decimal
abbrev pub ShowsValueAt : Layout → Pack → Moment → Fraction → Lin → Type 0
ShowsValueAt l pack m v form = (d : Scaled) × (v ≡ value_of d) × ShowsAt l pack m d form

-- what an item gets, where no divisor was 0
abbrev pub AmountsAreShown : Type 0
AmountsAreShown = (p : Program) (statement : ℕ) (a : Act) (x : Action) (pack : Pack) → size_of pack ≤ 8
    → (done rest : List Part) (place : ℕ) (mode : Mode) (y : Amount) → done ++ store place mode y ∷ rest ≡ parts_of p statement a x
    → (s : Seen) (wrote : List Extent) (m : Moment) → Agrees p statement a x done s m → IsTracked p.layout wrote m → m.by_zero ≡ false
    → (v : Fraction) → amount p.layout m y ≡ Some v
    → IfSome (amount_form p pack (with_taken p a x s) wrote place y) (ShowsValueAt p.layout pack m v)

-- and its operands have a range, where they are read off their items
abbrev pub OperandsAreThere : Type 0
OperandsAreThere = (p : Program) (statement : ℕ) (a : Act) (x : Action) (done rest : List Part) (place : ℕ) (mode : Mode) (y : Amount)
    → done ++ store place mode y ∷ rest ≡ parts_of p statement a x → (s : Seen) (wrote : List Extent) (m : Moment)
    → Agrees p statement a x done s m → IsTracked p.layout wrote m → m.by_zero ≡ false
    → (v : Fraction) → amount p.layout m y ≡ Some v → has_operands p (with_taken p a x s) wrote y ≡ true

-- what a counter is set to
abbrev pub SendersAreShown : Type 0
SendersAreShown = (p : Program) (statement : ℕ) (a : Act) (x : Action) (pack : Pack) → size_of pack ≤ 8
    → (done rest : List Part) (k : ℕ) (y : Sender) → done ++ set_count k y ∷ rest ≡ parts_of p statement a x
    → (s : Seen) (wrote : List Extent) (m : Moment) → Agrees p statement a x done s m → IsTracked p.layout wrote m
    → (v : Scaled) → number_of p.layout m.first y ≡ Some v
    → IfSome (sender_form p pack (with_taken p a x s) wrote y) (λ form. (d : Scaled) × (value_of v ≡ value_of d) × ShowsAt p.layout pack m d form)

-- What a counter goes down to. A pack without its cell knows no more of it than that it is a number that counters hold.
abbrev pub CountersAreShown : Type 0
CountersAreShown = (p : Program) (statement : ℕ) (a : Act) (x : Action) (pack : Pack) → size_of pack ≤ 8
    → (done rest : List Part) (k : ℕ) → done ++ count_down k ∷ rest ≡ parts_of p statement a x
    → (s : Seen) (wrote : List Extent) (m : Moment) → Agrees p statement a x done s m → (cell_of pack (of_count k) ≡ None → IsCount m.own.units)
    → IfSome (lowered_form p pack s wrote k) (ShowsAt p.layout pack m (whole_number (m.own.units -ℤ pos 1)))

-- what divides
abbrev pub DivisorsAreShown : Type 0
DivisorsAreShown = (p : Program) (statement : ℕ) (a : Act) (x : Action) (pack : Pack) → size_of pack ≤ 8
    → (done rest : List Part) (d : Atom) → done ++ divide d ∷ rest ≡ parts_of p statement a x
    → (s : Seen) (m : Moment) → Agrees p statement a x done s m → (v : Scaled) → atom_value (worth p.layout m.first) d ≡ Some v
    → IfSome (atom_form (pack_decimals p.layout pack) (cell_at p pack s []) (range_at p s.cells) d) (ShowsAt p.layout pack m v)

-- what a test leaves
abbrev pub GuardsKeep : Type 0
GuardsKeep = (p : Program) (statement : ℕ) (a : Act) (x : Action) (pack : Pack) → size_of pack ≤ 8
    → (done rest : List Part) (t : Test) (wanted : Bool) → done ++ guard t wanted ∷ rest ≡ parts_of p statement a x
    → (s : Seen) (m : Moment) → Agrees p statement a x done s m → test_holds p.layout m.storage t ≡ Ok wanted
    → (ms : List ℤ) → PackStands p.layout pack ms (storage m.storage m.counts)
    → PackStands p.layout pack (guarded_pack p a x s t wanted pack ms) (storage m.storage m.counts)
