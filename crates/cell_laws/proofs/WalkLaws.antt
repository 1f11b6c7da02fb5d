-- Laws of results, guards and operands, as the walk takes them.
use Rattle.std.specs.Prelude.{◌≡◌, ◌↔◌, ℕ, ◌≤ℤ◌, Bool, true, List, Option, Some, None, Ok, IsSomeAnd, unwrap_or, ℤ}
use Rattle.dec_num.specs.declared.types.Mode.{Mode}
use Rattle.dec_num.specs.declared.types.Scaled.{Scaled}
use Rattle.dec_num.specs.Exact.{Fraction}
use Rattle.interval_domain.specs.declared.bounds.Interval.{Interval}
use Rattle.interval_domain.specs.Bounds.{Holds}
use Rattle.cob_tree.specs.declared.form.Form.{Form}
use Rattle.cob_data.specs.declared.layout.Layout.{Layout}
use Rattle.cob_program.specs.declared.act.Target.{Target}
use Rattle.cob_program.specs.Sum.{Sum}
use Rattle.cob_program.specs.Values.{sum_value}
use Rattle.cob_program.specs.Logic.{Test}
use Rattle.cob_program.specs.Act.{Stmts, Phrase, Act, arith, Program}
use Rattle.cob_runs.specs.declared.action.Action.{Action}
use Rattle.cob_runs.specs.Contents.{bytes_of, number_at, stored}
use Rattle.cob_runs.specs.Computing.{items_in, are_numeric, worth}
use Rattle.cob_runs.specs.Deciding.{test_holds}
use Rattle.cob_edge_parts.specs.Meaning.{is_positive}
use Rattle.sum_ranges.specs.declared.ranged.Ranged.{Ranged}
use Rattle.transfer_ranges.specs.declared.amounts.AmountRange.{AmountRange}
use Rattle.transfer_ranges.specs.declared.amounts.Receiver.{Receiver}
use Rattle.transfer_ranges.specs.Receivers.{receiver_of}
use Rattle.transfer_ranges.specs.Amounts.{IsAmount}
use Rattle.transfer_ranges.specs.Results.{IsExceeded, IsLeastIfAny, IsKept}
use Rattle.transfer_ranges.specs.ResultRanges.{result_range, may_fail, exceeds, fitted}
use Rattle.transfer_ranges.specs.Guards.{guarded}
use Rattle.transfer_ranges.specs.Counts.{count_kept}
use Rattle.transfer_ranges.specs.Meaning.{ItemsHold, CutsHold}
use Rattle.cell_laws.proofs.ResultLaws as rises
use Rattle.cell_laws.specs.Places.{PartsAreInPlace, ArithmeticIsDone}
use Rattle.interval_domain.specs.Known.{Known}
use Rattle.cell_steps.specs.Storages.{storage, StandsIn}
use Rattle.cell_steps.specs.Premises.{HasSoundItems}
use Rattle.transfer_ranges.specs.EdgeOperands.{edge_operands}
use Rattle.cell_steps.specs.Stores.{range_at}
use Rattle.cell_steps.specs.Agreeing.{OperandsHold}

pub record Given : Type 0 where
  pub rising : rises.Given
  pub fits_ : (mode : Mode) (f : Form) (a : AmountRange) (v : Fraction) (bytes : List ℕ) → IsAmount a v → stored mode f v ≡ Some bytes
      → IsSomeAnd (result_range mode (receiver_of f) a) (λ i. (z : ℤ) × Holds i z × (bytes ≡ bytes_of f z))
  pub fails_ : (mode : Mode) (f : Form) (a : AmountRange) (v : Fraction) → IsAmount a v → stored mode f v ≡ None → may_fail mode (receiver_of f) a ≡ true
  pub kept_ : (r : Receiver) (i : Interval) → IsLeastIfAny (IsKept r i) (fitted r i)
  pub exceeded_ : (digits : ℕ) (i : Interval) → i.low ≤ℤ i.high → (exceeds digits i ≡ true) ↔ IsExceeded digits i
  pub guards_ : (l : Layout) (range : ℕ → Ranged) (is_numeric : ℕ → Bool) (bytes : List ℕ) → ItemsHold l range is_numeric bytes →
      (t : Test) (wanted : Bool) → test_holds l bytes t ≡ Ok wanted → IsSomeAnd (guarded l range is_numeric t wanted) (CutsHold l range bytes)
  pub counts_ : (wanted : Bool) (i : Interval) (v : ℤ) → Holds i v → is_positive v ≡ wanted → IsSomeAnd (count_kept wanted i) (λ j. Holds j v)
  pub operands_ : (p : Program) (statement : ℕ) (a : Act) (x : Action) (cells : List Known) (first : List ℕ) (counts : List (Option ℤ))
      → HasSoundItems p.layout → StandsIn p cells (storage first counts)
      → ((s : Sum) (ts : List Target) (r : Option ℕ) (size : Phrase) (fine : Stmts) → a ≡ arith s ts r size fine → are_numeric p.layout first (items_in s) ≡ true)
      → OperandsHold p statement a x first (edge_operands (range_at p cells) a x)
  pub places_ : PartsAreInPlace
  pub edges_ : ArithmeticIsDone
  pub numeric_sum_ : (l : Layout) (bytes : List ℕ) (other : ℕ → Scaled) (s : Sum) → are_numeric l bytes (items_in s) ≡ true
      → sum_value (worth l bytes) s ≡ sum_value (λ place. unwrap_or (number_at l bytes place) (other place)) s
