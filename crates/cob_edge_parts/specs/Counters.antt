-- Counters of PERFORMs with TIMES: each holds a number of at most 18 digits, and a store of a greater one is a size
-- error of the PERFORM, as a store to an item is.
use Rattle.std.specs.Prelude.{◌≡◌, ◌<◌, ◌^◌, ◌⊎◌, ℕ, Bool, List, [], ◌∷◌, Option, true, Some, ℤ, pos, ◌-ℤ◌, unsigned_abs}
use Rattle.dec_num.specs.declared.types.Scaled.{Scaled}
use Rattle.cob_tree.specs.declared.fault.Kind.{Kind}
use Rattle.cob_tree.specs.declared.fault.Kind.TheVariants as kind
use Rattle.cob_data.specs.declared.layout.Layout.{Layout}
use Rattle.cob_data.specs.declared.layout.Sender.{Sender}
use Rattle.cob_program.specs.Act.{Act, Program}
use Rattle.cob_runs.specs.declared.action.Action.{Action}
use Rattle.cob_runs.specs.Effects.{act_at, is_times}
use Rattle.cob_runs.specs.Moves.{number_of}
use Rattle.cob_edge_parts.specs.Parts.{Part, set_count, count_down, is_handled, parts_of}
use Rattle.cob_edge_parts.specs.Meaning.{Moment, count_in, Passes, Faults}

-- ---- counters that hold their numbers

abbrev pub IsCount : ℤ → Type 0
IsCount n = unsigned_abs n < 10 ^ 18

-- the statement's counter holds such a number
pub record HoldsCount (counters : List (Option ℤ)) (statement : ℕ) : Type 0 where
  pub count : ℤ
  pub held : count_in counters statement ≡ Some count
  pub small : IsCount count

-- each TIMES of the program has one in its counter
abbrev pub IsCounted : Program → List (Option ℤ) → Type 0
IsCounted p counters =
    (statement : ℕ) (a : Act) → act_at p statement ≡ Some a → is_times a ≡ true → HoldsCount counters statement

-- ---- stores to them

-- the number of TIMES isn't one that a counter holds
pub record IsTooGreat (l : Layout) (x : Sender) (m : Moment) : Type 0 where
  pub number : Scaled
  pub sent : number_of l m.first x ≡ Some number
  pub misfits : ¬ IsCount number.units

module _ (l : Layout) where
  -- the part stores a number to a counter that this doesn't hold
  abbrev pub Misfits : Part → Moment → Type 0
  Misfits (set_count statement x) m = IsTooGreat l x m
  Misfits (count_down statement) m = ¬ IsCount (m.own.units -ℤ pos 1)
  Misfits part m = ⊥

  module _ (handled : Bool) where
    -- a part is passed where what it stores to a counter fits
    abbrev pub PassesPart : Part → Moment → Moment → Type 0
    PassesPart part m n = Passes l handled part m n × ¬ Misfits part m

    -- a part meets a size error, too, where what it stores to a counter doesn't fit
    abbrev pub FaultsAtPart : Part → Moment → Kind → Type 0
    FaultsAtPart part m fault = Faults l handled part m fault ⊎ ((fault ≡ kind.Size) × Misfits part m)

    -- ---- along an edge

    -- the parts are passed in turn
    abbrev pub PassesParts : List Part → Moment → Moment → Type 0
    PassesParts [] m n = n ≡ m
    PassesParts (x ∷ xs) m n = (next : Moment) × PassesPart x m next × PassesParts xs next n

    -- a part meets the fault, behind others that are passed
    abbrev pub MeetsAmong : List Part → Moment → Kind → Type 0
    MeetsAmong [] m fault = ⊥
    MeetsAmong (x ∷ xs) m fault =
        FaultsAtPart x m fault ⊎ ((next : Moment) × PassesPart x m next × MeetsAmong xs next fault)

-- ---- edges

-- The parts of an edge of the statement's node are passed, where the statement does this.
abbrev pub PassesEdge : Program → ℕ → Act → Action → Moment → Moment → Type 0
PassesEdge p statement a x m n = PassesParts p.layout (is_handled a x) (parts_of p statement a x) m n

-- one of them meets the fault
abbrev pub MeetsOnEdge : Program → ℕ → Act → Action → Moment → Kind → Type 0
MeetsOnEdge p statement a x m fault = MeetsAmong p.layout (is_handled a x) (parts_of p statement a x) m fault
