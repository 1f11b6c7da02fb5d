-- That the parts of an edge do what the edge does.
use Rattle.std.specs.Prelude.{◌≡◌, ◌<◌, ◌-◌, if◌then◌else◌, ℕ, true, false, List, [], ◌∷◌, length, Option, Some, None, is_some, Ok, Err, ℤ}
use Rattle.cob_tree.specs.declared.fault.Kind.{Kind}
use Rattle.cob_program.specs.Act.{Act, Program}
use Rattle.cob_runs.specs.declared.action.Action.{Action}
use Rattle.cob_runs.specs.declared.action.Action.TheVariants as action
use Rattle.cob_runs.specs.Files.{Choice}
use Rattle.cob_runs.specs.State.{World}
use Rattle.cob_runs.specs.Effects.{effect, act_at}
use Rattle.cob_edge_parts.specs.Parts.{parts_of, has_phrase, is_handled, reads_count}
use Rattle.cob_edge_parts.specs.Meaning.{Moment, beginning, count_in, is_positive, PassesAll, Meets}

-- The parts of an edge lead from storage and counters to others. On an edge to the list of ON SIZE ERROR some receiver
-- has kept its value.
pub record Leads (p : Program) (statement : ℕ) (a : Act) (x : Action) (before : List ℕ) (counts : List (Option ℤ))
    (behind : List ℕ) (later : List (Option ℤ)) : Type 0 where
  pub last : Moment
  pub way : PassesAll p.layout (is_handled a x) (parts_of p statement a x) (beginning before counts) last
  pub same_storage : last.storage ≡ behind
  pub same_counts : last.counts ≡ later
  pub fails : last.failed ≡ is_handled a x

-- ---- what is passed

-- the counter of TIMES is a number, where an edge reads it
abbrev pub IsCounted : ℕ → Act → Action → World → Type 0
IsCounted statement a x w = reads_count a x ≡ true → is_some (count_in w.counts statement) ≡ true

-- The parts of an edge that is taken are passed.
abbrev pub PartsArePassed : Type 0
PartsArePassed = (p : Program) (statement : ℕ) (c : Choice) (a : Act) (x : Action) (w v : World) →
    act_at p statement ≡ Some a → IsCounted statement a x w → effect p statement c w x ≡ Ok (Some v) →
    Leads p statement a x w.storage w.counts v.storage v.counts

-- ---- counters that a loop hasn't set

-- A count that isn't there lets no loop go on, and so does a number that isn't above 0, which may stand for it.
abbrev pub StandsForCount : Option ℤ → Option ℤ → Type 0
StandsForCount (Some n) c = c ≡ Some n
StandsForCount None c = (n : ℤ) × (c ≡ Some n) × (is_positive n ≡ false)

-- each counter for the count at its place
abbrev pub StandFor : List (Option ℤ) → List (Option ℤ) → Type 0
StandFor [] [] = Unit {0}
StandFor (a ∷ as_) (b ∷ bs) = StandsForCount a b × StandFor as_ bs
StandFor _ _ = ⊥

-- the statement has a count
abbrev pub HasCount : ℕ → Act → Action → World → Type 0
HasCount statement a x w = reads_count a x ≡ true → statement - 1 < length w.counts

pub record LeadsBeside (p : Program) (statement : ℕ) (a : Act) (x : Action) (counts : List (Option ℤ))
    (w v : World) : Type 0 where
  pub later : List (Option ℤ)
  pub leads : Leads p statement a x w.storage counts v.storage later
  pub stand : StandFor v.counts later

-- With counters that stand for the counts of a world the parts are passed too, and such counters come of it. So a way
-- that begins with a number in each counter passes the parts of all its edges.
abbrev pub PartsArePassedBeside : Type 0
PartsArePassedBeside = (p : Program) (statement : ℕ) (c : Choice) (a : Act) (x : Action) (w v : World)
    (counts : List (Option ℤ)) → act_at p statement ≡ Some a → HasCount statement a x w → StandFor w.counts counts →
    effect p statement c w x ≡ Ok (Some v) → LeadsBeside p statement a x counts w v

-- ---- what is met

-- The edge on whose parts a statement's fault is met: where it has ON SIZE ERROR, the one to its list, since a receiver
-- that isn't numeric may follow one that keeps its value.
abbrev pub fault_edge : Act → Action → Action
fault_edge a action.Done = if has_phrase a then action.Size else action.Done
fault_edge a x = x

-- One of the parts meets the fault that the statement meets, whatever the counters are.
abbrev pub FaultsAreMet : Type 0
FaultsAreMet = (p : Program) (statement : ℕ) (c : Choice) (a : Act) (x : Action) (w : World) (counts : List (Option ℤ))
    (fault : Kind) → act_at p statement ≡ Some a → effect p statement c w x ≡ Err fault →
    Meets p.layout (is_handled a (fault_edge a x)) (parts_of p statement a (fault_edge a x))
    (beginning w.storage counts) fault
