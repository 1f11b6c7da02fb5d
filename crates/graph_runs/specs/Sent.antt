-- The number of which a PERFORM with TIMES makes its counter.
use Rattle.std.specs.Prelude.{◌≡◌, ◌<◌, ◌^◌, ℕ, List, Some, unsigned_abs}
use Rattle.dec_num.specs.declared.types.Scaled.{Scaled}
use Rattle.cob_data.specs.declared.layout.Sender.{Sender}
use Rattle.cob_program.specs.Act.{times, perform, Body, Program}
use Rattle.cob_runs.specs.Effects.{act_at}
use Rattle.cob_runs.specs.Moves.{number_of}
use Rattle.cob_store.specs.WellFormed.{HasWellFormedItems}
use Rattle.cob_world.specs.Doing.{CanDoProgram}

-- It has at most 18 digits, whatever stands in storage.
abbrev pub SentCountsAreShort : Type 0
SentCountsAreShort =
    (p : Program) → HasWellFormedItems p.layout → CanDoProgram p → (statement : ℕ) (body : Body) (x : Sender) →
    act_at p statement ≡ Some (perform body (times x)) → (storage : List ℕ) (v : Scaled) →
    number_of p.layout storage x ≡ Some v → unsigned_abs v.units < 10 ^ 18
