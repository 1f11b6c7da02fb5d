-- What single parts do, what they meet, and which edge meets a fault, worked out.
use Rattle.std.specs.Prelude.{◌≡◌, ℕ, Bool, true, false, List, [], ◌∷◌, Some, None, Ok, Err, pos, neg_ℤ}
use Rattle.std.proofs.Common.{refl}
use Rattle.dec_num.specs.declared.types.Mode.TheVariants.{Trunc}
use Rattle.cob_tree.specs.declared.fault.Kind.TheVariants as kind
use Rattle.cob_data.specs.declared.layout.Sender.TheVariants as sender
use Rattle.cob_program.specs.declared.act.How.TheVariants as how
use Rattle.cob_program.specs.Sum.{item}
use Rattle.cob_program.specs.Values.{whole_number}
use Rattle.cob_program.specs.Act.{times, no_stmts, Phrase, left_out, given, Act, arith, perform, range}
use Rattle.cob_runs.specs.declared.action.Action.TheVariants as action
use Rattle.cob_runs.specs.Subscripts.{in_table}
use Rattle.cob_edge_parts.specs.Parts.{moved, computed, remaining, augmented, read, index, reads_count}
use Rattle.cob_edge_parts.specs.Meaning.{Moment, moment, misfit_of, is_left_alone, skipped, amount, Passes}
use Rattle.cob_edge_parts.specs.Edges.{StandsForCount, fault_edge}
use Rattle.cob_edge_parts.proofs.Examples.{program, alone, target}

-- along an edge: no counters, no number read
abbrev along : List ℕ → List ℕ → Bool → Bool → Moment
along now first by_zero failed = moment now [] first (whole_number (pos 0)) by_zero failed

-- what doesn't fit is lost by a MOVE, and is a size error elsewhere
moves_are_cut : misfit_of (moved (sender.Item 1)) ≡ kind.Truncation
moves_are_cut = refl

sums_overflow : misfit_of (computed (alone (item 1)) how.Whole) ≡ kind.Size
sums_overflow = refl

augmented_overflow : misfit_of (augmented (sender.Item 1)) ≡ kind.Size
augmented_overflow = refl

-- operands are worth what they were where the edge begins, whatever storage is now
operands_stay : (now first : List ℕ) →
    amount program.layout (along now first false false) (computed (alone (item 1)) how.Whole)
    ≡ amount program.layout (along first first false false) (computed (alone (item 1)) how.Whole)
operands_stay now first = refl

-- a remainder is left alone after a quotient that doesn't fit, other receivers only after a divisor that is 0
remainder_left : is_left_alone (along [] [] false true) (remaining (alone (item 1)) 0) ≡ true
remainder_left = refl

sum_stored : is_left_alone (along [] [] false true) (computed (alone (item 1)) how.Whole) ≡ false
sum_stored = refl

none_stored : is_left_alone (along [] [] true false) (computed (alone (item 1)) how.Whole) ≡ true
none_stored = refl

-- a receiver isn't read after a divisor that is 0
not_read : (storage : List ℕ) →
    Passes program.layout true (read 2) (along storage storage true false) (along storage storage true false)
not_read storage = refl

-- numbers from 1 to 3 name the occurrences of a table that has three
first_of_three : in_table 3 (pos 1) ≡ Ok 0
first_of_three = refl

last_of_three : in_table 3 (pos 3) ≡ Ok 2
last_of_three = refl

none_is_zeroth : in_table 3 (pos 0) ≡ Err kind.Subscript
none_is_zeroth = refl

none_is_beyond : in_table 3 (pos 4) ≡ Err kind.Subscript
none_is_beyond = refl

none_is_below : in_table 3 (neg_ℤ (pos 1)) ≡ Err kind.Subscript
none_is_below = refl

-- Where a quotient failed, its remainder's turn doesn't come, and others do; after a divisor that is 0 none does.
remainder_skipped : skipped true (along [] [] false true) ≡ true
remainder_skipped = refl

turn_comes : skipped false (along [] [] false true) ≡ false
turn_comes = refl

no_turn_comes : skipped false (along [] [] true false) ≡ true
no_turn_comes = refl

not_indexed : (storage : List ℕ) →
    Passes program.layout true (index true 1 3) (along storage storage false true) (along storage storage false true)
not_indexed storage = refl

-- 0 may stand for a count that isn't there
zero_for_none : StandsForCount None (Some (pos 0))
zero_for_none = (pos 0, refl, refl)

-- the counter is read where TIMES goes on, where it ends, and where it counts down
abbrev looping : Act
looping = perform (range 0 0) (times (sender.Item 1))

going_on : reads_count looping (action.True 0) ≡ true
going_on = refl

ending : reads_count looping (action.False 0) ≡ true
ending = refl

counting : reads_count looping action.Down ≡ true
counting = refl

beginning_to_count : reads_count looping action.SetCount ≡ false
beginning_to_count = refl

-- ADD A TO A: its fault is met on the edge to the list of ON SIZE ERROR, where it has one
abbrev adding : Phrase → Act
adding size = arith (alone (item 1)) (target 1 how.Plus Trunc ∷ []) None size no_stmts

with_phrase : fault_edge (adding (given no_stmts)) action.Done ≡ action.Size
with_phrase = refl

without_phrase : fault_edge (adding left_out) action.Done ≡ action.Done
without_phrase = refl
