-- When what is seen is true of a moment of a run, and the parts of an edge as a walk.
use Rattle.std.specs.Prelude.{◌≡◌, ◌⊎◌, ◌≤◌, ℕ, ◌+◌, Bool, true, false, List, ◌∷◌, ◌++◌, Option, Some, None, IsSomeAnd, ℤ}
use Rattle.std.specs.List.{list_any, Contains}
use Rattle.dec_num.specs.declared.types.Mode.{Mode}
use Rattle.dec_num.specs.Exact.{Fraction}
use Rattle.cob_tree.specs.declared.fault.Kind.{Kind}
use Rattle.cob_data.specs.declared.layout.Layout.{Layout}
use Rattle.cob_program.specs.declared.act.How.TheVariants as how
use Rattle.cob_program.specs.Act.{Act, Program}
use Rattle.cob_runs.specs.declared.action.Action.{Action}
use Rattle.cob_runs.specs.Contents.{form_at}
use Rattle.cob_runs.specs.Moves.{takes_number}
use Rattle.cob_runs.specs.Effects.{act_at, is_times}
use Rattle.cob_edge_parts.specs.Parts.{Amount, computed, remaining, Part, store, bytes_in, set_count, parts_of}
use Rattle.cob_edge_parts.specs.Meaning as run
use Rattle.cob_edge_parts.specs.Meaning.{Moment, amount, is_left_alone, stored_bytes}
use Rattle.cob_edge_parts.specs.Edges.{fault_edge}
use Rattle.dom_laws.specs.Walking.{Walking}
use Rattle.sum_ranges.specs.declared.ranged.Ranged.{Ranged}
use Rattle.sum_ranges.specs.Ranged.{IsIn}
use Rattle.transfer_ranges.specs.declared.amounts.Taken.{Taken}
use Rattle.transfer_ranges.specs.Amounts.{IsAmount}
use Rattle.cob_edge_parts.specs.Counters.{PassesPart, FaultsAtPart, PassesParts}
use Rattle.cob_graph.specs.declared.homes.Home.TheVariants.{Count as of_count}
use Rattle.cob_graph.specs.Homes.{homes_of}
use Rattle.cell_steps.specs.Storages.{storage, StandsIn}
use Rattle.cell_steps.specs.Premises.{HasSoundItems}
use Rattle.interval_domain.specs.Known.{Known}
use Rattle.transfer_ranges.specs.EdgeOperands.{edge_amount, edge_operands, amount_of}
use Rattle.cell_steps.specs.Seen.{Seen}
use Rattle.cell_steps.specs.Stores.{range_at, handled, keeps_receiver}
use Rattle.cell_steps.specs.Steps.{step}
use Rattle.cell_steps.specs.Clearing.{clears_part}
use Rattle.cell_steps.specs.Order.{SeenBelow}

-- ---- what is needed of a program

-- the statement with the number is a PERFORM with TIMES
pub record IsTimesAt (p : Program) (statement : ℕ) : Type 0 where
  pub first : 1 ≤ statement
  pub act : Act
  pub at : act_at p statement ≡ Some act
  pub times : is_times act ≡ true

pub record IsSoundEdge (p : Program) (statement : ℕ) (a : Act) (x : Action) : Type 0 where
  pub items : HasSoundItems p.layout
  pub first : 1 ≤ statement
  pub act : act_at p statement ≡ Some a
  pub counts : (n : ℕ) → Contains (homes_of p) (of_count n) → IsTimesAt p n
  -- values are stored in numeric and edited items
  pub receivers : (done rest : List Part) (place : ℕ) (mode : Mode) (y : Amount)
      → done ++ store place mode y ∷ rest ≡ parts_of p statement a x → takes_number (form_at p.layout place) ≡ true
  -- bytes change within storage
  pub areas : (done rest : List Part) (offset count : ℕ)
      → done ++ bytes_in offset count ∷ rest ≡ parts_of p statement a x → offset + count ≤ p.layout.storage

-- ---- operands

-- the sum or the sender that an amount is of
abbrev pub of_operands : Amount → Amount
of_operands (computed s h) = computed s how.Whole
of_operands (remaining s scale) = computed s how.Whole
of_operands y = y

abbrev pub writes : Part → Bool
writes (store place mode y) = true
writes (bytes_in offset count) = true
writes (set_count statement y) = true
writes _ = false

abbrev pub is_store : Part → Bool
is_store (store place mode y) = true
is_store _ = false

-- ---- stores that fail

-- a store leaves its receiver alone, or what it is to get doesn't fit
abbrev pub FailsAt : Layout → Part → Moment → Type 0
FailsAt l (store place mode y) m = (is_left_alone m y ≡ true) ⊎ (stored_bytes l m place mode y ≡ None)
FailsAt l y m = Unit {0}

module _ (p : Program) (statement : ℕ) (a : Act) (x : Action) where
  -- What an amount of the edge is worth, with the operands of these bytes, is among what it can be with those that were
  -- taken, whatever the receiver's own number is.
  abbrev pub OperandsHold : List ℕ → Option Taken → Type 0
  OperandsHold first common =
      (m : Moment) (y : Amount) (own : Ranged) (v : Fraction) → m.first ≡ first → edge_amount a x ≡ Some (of_operands y)
      → IsIn m.own own → amount p.layout m y ≡ Some v
      → IsSomeAnd common (λ c. IsSomeAnd (amount_of y own c) (λ r. IsAmount r v))

  -- ---- what agrees, behind these parts

  -- Cells are true of the storage at each moment. So a caller may know more of them between two parts.
  pub record Agrees (done : List Part) (s : Seen) (m : Moment) : Type 0 where
    pub sound : IsSoundEdge p statement a x
    pub counts : List (Option ℤ)
    pub passed : PassesParts p.layout (handled p a x) done (run.beginning m.first counts) m
    pub stands : StandsIn p s.cells (storage m.storage m.counts)
    pub fresh : s.written ≡ false → m.storage ≡ m.first
    pub unwritten : list_any writes done ≡ false → s.written ≡ false
    pub took : s.written ≡ true → OperandsHold m.first s.common
    pub taken : s.written ≡ true → (cells : List Known) × (s.common ≡ edge_operands (range_at p cells) a x)
    pub zero : m.by_zero ≡ true → s.may_zero ≡ true
    -- A receiver that keeps its value may; behind a divisor that is 0 each does.
    pub fails : m.failed ≡ true → m.by_zero ≡ false → s.any_fail ≡ true
    pub all_fail : m.by_zero ≡ true → list_any is_store done ≡ true → s.any_fail ≡ true

  -- ---- the walk

  -- A part is passed on a way along the whole edge: where the edge keeps its receiver, its store fails.
  abbrev pub PassesOn : Part → Moment → Moment → Type 0
  PassesOn y m n = PassesPart p.layout (handled p a x) y m n × (keeps_receiver a x ≡ true → FailsAt p.layout y m)

  -- Where the statement has the phrase, faults are met on the edge to its list.
  abbrev pub FaultsOn : Part → Moment → Kind → Type 0
  FaultsOn y m fault = (fault_edge a x ≡ x) × FaultsAtPart p.layout (handled p a x) y m fault

  abbrev pub walking : Walking
  walking = record {
    Part = Part;
    Seen = Seen;
    Moment = Moment;
    Below = SeenBelow p a x;
    step = step p a x;
    Agrees = Agrees;
    Passes = PassesOn;
    Faults = FaultsOn;
    Clears = λ y s fault. clears_part p a x y s fault ≡ true;
  }
