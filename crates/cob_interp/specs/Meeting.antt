-- Which statements meet faults of the outside, and what becomes then of text that waits.
use Rattle.std.specs.Prelude.{◌≡◌, ◌⊎◌, not, Bool, true, false, List, Result, Ok, Err}
use Rattle.std.specs.List.{list_any}
use Rattle.batch_io.specs.SinkState.{SinkState}
use Rattle.cob_program.specs.declared.act.Opening.{Opening}
use Rattle.cob_program.specs.Act.{Act, open_files, close_files, read, write}
use Rattle.cob_runs.specs.State.{World}
use Rattle.cob_interp.specs.declared.ends.Ended.{Ended}
use Rattle.cob_interp.specs.declared.ends.RunEnd.{RunEnd}
use Rattle.cob_interp.specs.declared.ends.RunEnd.TheVariants as end
use Rattle.cob_interp.specs.declared.walk.Halt.{Halt}
use Rattle.cob_interp.specs.declared.walk.Halt.TheVariants as halt
use Rattle.cob_interp.specs.Walking.{Flushes, Refuses}

-- ---- statements

abbrev pub opens_input : List Opening → Bool
opens_input os = list_any (λ o. not o.output) os

abbrev pub opens_output : List Opening → Bool
opens_output os = list_any (λ o. o.output) os

-- the statement may meet a fault of a file that is read
abbrev pub reads_files : Act → Bool
reads_files (open_files os) = opens_input os
reads_files (close_files fs) = true
reads_files (read f into end fine) = true
reads_files _ = false

-- the statement may meet a fault of a file that is written
abbrev pub writes_files : Act → Bool
writes_files (open_files os) = opens_output os
writes_files (close_files fs) = true
writes_files (write r from) = true
writes_files _ = false

abbrev pub IsMetIn : Act → RunEnd → Type 0
IsMetIn a end.ReadFault = reads_files a ≡ true
IsMetIn a end.WriteFault = writes_files a ≡ true
IsMetIn a _ = Unit {0}

-- a fault of the outside's files is one that the statement may meet
abbrev pub IsMetBy : {A : Type 0} → Act → Result A RunEnd → Type 0
IsMetBy a (Ok x) = Unit {0}
IsMetBy a (Err e) = IsMetIn a e

-- ---- results

-- the outside's files failed, and not memory
abbrev pub is_failure : RunEnd → Bool
is_failure end.ReadFault = true
is_failure end.WriteFault = true
is_failure _ = false

abbrev pub IfFailure : RunEnd → Type 0 → Type 0
IfFailure end.ReadFault P = P
IfFailure end.WriteFault P = P
IfFailure _ P = Unit {0}

-- a fact where they failed
abbrev pub IfFailed : {A : Type 0} → Result A RunEnd → Type 0 → Type 0
IfFailed (Ok x) P = Unit {0}
IfFailed (Err e) P = IfFailure e P

abbrev pub IsFailureBy : Bool → RunEnd → Type 0
IsFailureBy writes end.ReadFault = writes ≡ false
IsFailureBy writes end.WriteFault = writes ≡ true
IsFailureBy writes _ = Unit {0}

-- where they failed, it was by a write, or by a read
abbrev pub FailsBy : {A : Type 0} → Bool → Result A RunEnd → Type 0
FailsBy writes (Ok x) = Unit {0}
FailsBy writes (Err e) = IsFailureBy writes e

-- ---- text that waits

-- all text is shown before the statement
abbrev pub shows_first : Act → Bool
shows_first (open_files os) = true
shows_first (close_files fs) = true
shows_first _ = false

-- Behind a refusal of a statement: nothing more is shown where all was before it, or where the files didn't fail; else
-- all that waits is, or the sink refuses it, and that is told then.
abbrev pub ShowsRest : Act → SinkState → SinkState → World → World → RunEnd → Halt → Type 0
ShowsRest a old new w v e (halt.End d) =
    (d ≡ e) × (((new ≡ old) × (v ≡ w) × ((shows_first a ≡ true) ⊎ (is_failure e ≡ false)))
    ⊎ (Flushes old new w v × (shows_first a ≡ false) × (is_failure e ≡ true)))
ShowsRest a old new w v e (halt.Sink why) =
    Refuses old new w v why × (shows_first a ≡ false) × (is_failure e ≡ true)

-- ---- closing behind the run

-- a refused close counts where the run came to its end
abbrev pub end_behind : Result Ended RunEnd → Result (Unit {0}) RunEnd → Result Ended RunEnd
end_behind (Err e) closed = Err e
end_behind (Ok ended) (Ok u) = Ok ended
end_behind (Ok ended) (Err refusal) = Err refusal
