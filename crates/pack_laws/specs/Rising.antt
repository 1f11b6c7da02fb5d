-- Where less is seen, forms are narrower. Operands that have no range aren't asked for a form.
use Rattle.std.specs.Prelude.{◌≡◌, ℕ, ◌+◌, true, List, [], ℤ, Some}
use Rattle.cob_data.specs.declared.extent.Extent.{Extent}
use Rattle.cob_data.specs.declared.layout.Sender.{Sender}
use Rattle.cob_program.specs.Sum.{Sum, Atom}
use Rattle.cob_program.specs.Act.{Act, Program}
use Rattle.cob_runs.specs.declared.action.Action.{Action}
use Rattle.cob_edge_parts.specs.Parts.{Amount}
use Rattle.diff_bounds.specs.declared.form.lin.Lin.{Lin}
use Rattle.diff_bounds.specs.Results.{IsNarrower}
use Rattle.diff_bounds.specs.Values.{AreLower}
use Rattle.diff_bounds.specs.Matrix.{word}
use Rattle.diff_bounds.specs.Errors.{IsSurer}
use Rattle.sum_ranges.specs.declared.ranged.Ranged.{Ranged}
use Rattle.sum_ranges.specs.SumRanges.{sum_range, atom_range}
use Rattle.sum_forms.specs.SumForms.{atom_form}
use Rattle.sum_forms.specs.Values.{IsNarrowerIfAny}
use Rattle.transfer_ranges.specs.declared.amounts.AmountRange.{AmountRange}
use Rattle.transfer_ranges.specs.declared.amounts.Taken.{Taken}
use Rattle.transfer_ranges.specs.Amounts.{IsNarrowerAmount}
use Rattle.cell_steps.specs.Seen.{Seen}
use Rattle.cell_steps.specs.Stores.{range_at, amount_at}
use Rattle.cell_steps.specs.Order.{SeenBelow}
use Rattle.diff_steps.specs.Packs.{Pack, pack_decimals}
use Rattle.diff_steps.specs.Forms.{cell_at, amount_form, sender_form, lowered_form, has_operands}
use Rattle.diff_steps.specs.Guards.{difference_form}
use Rattle.diff_steps.specs.Stores.{known_of_amount}

-- what an item gets, where operands are taken
abbrev pub AmountsRise : Type 0
AmountsRise = (p : Program) (a : Act) (x : Action) (pack : Pack) (less more : Seen) → SeenBelow p a x less more
    → (wrote : List Extent) (place : ℕ) (y : Amount) (r : AmountRange) → amount_at p a x less place y ≡ Some r → has_operands p less wrote y ≡ true
    → IsNarrowerIfAny (amount_form p pack less wrote place y) (amount_form p pack more wrote place y)

-- what a counter is set to, where operands are taken and have a range
abbrev pub SendersRise : Type 0
SendersRise = (p : Program) (a : Act) (x : Action) (pack : Pack) (less more : Seen) → SeenBelow p a x less more
    → (wrote : List Extent) (y : Sender) (c : Taken) → less.common ≡ Some c
    → IsNarrowerIfAny (sender_form p pack less wrote y) (sender_form p pack more wrote y)

-- what a counter goes down to
abbrev pub LoweredFormsRise : Type 0
LoweredFormsRise = (p : Program) (a : Act) (x : Action) (pack : Pack) (less more : Seen) → SeenBelow p a x less more
    → (wrote : List Extent) (statement : ℕ) → IsNarrowerIfAny (lowered_form p pack less wrote statement) (lowered_form p pack more wrote statement)

abbrev pub DivisorsRise : Type 0
DivisorsRise = (p : Program) (a : Act) (x : Action) (pack : Pack) (less more : Seen) → SeenBelow p a x less more
    → (d : Atom) (r : Ranged) → atom_range (range_at p less.cells) d ≡ Some r
    → IsNarrowerIfAny (atom_form (pack_decimals p.layout pack) (cell_at p pack less []) (range_at p less.cells) d)
    (atom_form (pack_decimals p.layout pack) (cell_at p pack more []) (range_at p more.cells) d)

-- the left side of a relation less the right side
abbrev pub DifferencesRise : Type 0
DifferencesRise = (p : Program) (a : Act) (x : Action) (pack : Pack) (less more : Seen) → SeenBelow p a x less more
    → (s t : Sum) (r q : Ranged) → sum_range (range_at p less.cells) s ≡ Some r → sum_range (range_at p less.cells) t ≡ Some q
    → IsNarrowerIfAny (difference_form (pack_decimals p.layout pack) (cell_at p pack less []) (range_at p less.cells) s t)
    (difference_form (pack_decimals p.layout pack) (cell_at p pack more []) (range_at p more.cells) s t)

-- Of a lower matrix, a narrower form and a narrower amount more is sure of the sign.
abbrev pub SignsRise : Type 0
SignsRise = (size : ℕ) (a b : List ℤ) → AreLower (size + 1) (word (size + 1) a) (word (size + 1) b)
    → (f g : Lin) → IsNarrower f g → (to : ℕ) (r q : AmountRange) → IsNarrowerAmount r q
    → IsSurer (known_of_amount size a f to (Some r)) (known_of_amount size b g to (Some q))
