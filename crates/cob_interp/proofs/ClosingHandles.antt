-- Behind a run's end: what is still open is closed.
use Rattle.std.proofs.Common.{◌≡◌, ℕ, ◌≤◌, Bool, true, false, List, inl, inr, Option, Result, Ok, Err, refl, sym, subst, ◌∙◌, arith}
use Rattle.std.specs.Prelude.{IfErr}
use Rattle.batch_io.specs.Faults.{Rose}
use Rattle.batch_io.specs.FilesState.{Contents, FilesState, known_bytes}
use Rattle.batch_io.specs.SinkState.{SinkState}
use Rattle.cob_program.specs.Act.{Program}
use Rattle.cob_runs.specs.Files.{File}
use Rattle.cob_interp.specs.declared.ends.Ended.{Ended}
use Rattle.cob_interp.specs.declared.ends.RunEnd.{RunEnd}
use Rattle.cob_interp.specs.declared.ends.RunEnd.TheVariants as end
use Rattle.cob_interp.specs.Readying.{AreWell, IsRefusal, ClosesAll, IsFirst, faults_by}
use Rattle.cob_interp.specs.Tracking.{Ids, IsHeldFor}
use Rattle.cob_interp.specs.Runs.{outside, Outside, CountsOn, EndsRunIf, EndsWell, HasEnded, IsOpenAt, ByClose, NoClose, IsBroken, IsBrokenBefore, Runs, RunsBefore}
use Rattle.cob_interp.specs.Meeting.{end_behind}
use Rattle.cob_interp.specs.Walking.{IsOwnEnd, IsRefused}
use Rattle.cob_interp.proofs.Breaking.{broken_more}
use Rattle.cob_interp.proofs.CloseLemmas.{rose_on}
use Rattle.cob_interp.proofs.HandleLemmas.{first_from}

rose_later : (a b c : ℕ) → b ≤ c → Rose a b → Rose a c
rose_later a b c later rose = omega (arith, later, rose)

module _ (p : Program) (paths : List (List ℕ)) (budget : ℕ) (start : Outside) (sink : SinkState)
    (old new : FilesState) (same : known_bytes new ≡ known_bytes old) where
  broken_on : (q : Result Ended RunEnd) → IsBrokenBefore p paths budget start (outside old sink) q
      → IsBroken p paths budget start (outside new sink) q
  broken_on q b =
      broken_more p paths budget NoClose (ByClose start.files new q) (λ own fs none. absurd none) start (outside old sink)
      (known_bytes start.files) (known_bytes new) q refl (sym same) b

  -- behind a refusal, whatever the closes answer
  pub refused_on : (e : Result Ended RunEnd) → IsRefused e → (r : Result (Unit {0}) RunEnd) → ClosesAll old new r
      → RunsBefore p paths budget start (outside old sink) e → Runs p paths budget start (outside new sink) e
  refused_on (Ok e) refused r closes runs = absurd refused
  refused_on (Err end.ReadFault) refused r closes runs =
      record { ends = rose_later _ _ _ closes.reading runs.ends; part = broken_on (Err end.ReadFault) runs.part }
  refused_on (Err end.WriteFault) refused r closes runs = record {
    ends = elim runs.ends [
      | inl rose ↦ inl (rose_later _ _ _ closes.writing rose)
      | inr rose ↦ inr rose
    ];
    part = broken_on (Err end.WriteFault) runs.part;
  }
  refused_on (Err end.Memory) refused r closes runs = record { ends = tt; part = broken_on (Err end.Memory) runs.part }
  refused_on (Err (end.Ragged file count)) refused r closes runs = cc
  refused_on (Err (end.StepsSpent count)) refused r closes runs = cc
  refused_on (Err (end.IoStop status statement)) refused r closes runs = cc
  refused_on (Err (end.Fault kind statement step)) refused r closes runs = cc

  counts_on : (e : Result Ended RunEnd) (a b c : ℕ) → CountsOn e a b → b ≤ c → ((x : Ended) → e ≡ Ok x → c ≡ b)
      → CountsOn e a c
  counts_on (Ok x) a b c is later same_ = same_ x refl ∙ is
  counts_on (Err e) a b c is later same_ = omega (arith, is, later)

  well_on : (e : Result Ended RunEnd) (r : Result (Unit {0}) RunEnd) → ClosesAll old new r
      → ((x : Ended) → e ≡ Ok x → AreWell old new)
      → EndsWell p paths budget start (outside old sink) e → EndsWell p paths budget start (outside new sink) e
  well_on e r closes stays well = record {
    reading = counts_on e start.files.reading old.reading new.reading well.reading closes.reading
        (λ x is. (stays x is).reading);
    writing = counts_on e start.files.writing old.writing new.writing well.writing closes.writing
        (λ x is. (stays x is).writing);
    faults = well.faults;
    run = subst (λ (c : Option Contents). EndsRunIf p paths budget (known_bytes start.files) c start.sink sink e)
        (sym same) well.run;
  }

  own_well : (e : Result Ended RunEnd) → IsOwnEnd e → Runs p paths budget start (outside old sink) e
      → EndsWell p paths budget start (outside old sink) e
  own_well (Ok e) own runs = runs.ends
  own_well (Err end.ReadFault) own runs = cc
  own_well (Err end.WriteFault) own runs = cc
  own_well (Err end.Memory) own runs = cc
  own_well (Err (end.Ragged file count)) own runs = runs.ends
  own_well (Err (end.StepsSpent count)) own runs = runs.ends
  own_well (Err (end.IoStop status statement)) own runs = runs.ends
  own_well (Err (end.Fault kind statement step)) own runs = runs.ends

  own_runs : (e : Result Ended RunEnd) → IsOwnEnd e → EndsWell p paths budget start (outside new sink) e
      → Runs p paths budget start (outside new sink) e
  own_runs (Ok e) own well = record { ends = well; part = tt }
  own_runs (Err end.ReadFault) own well = cc
  own_runs (Err end.WriteFault) own well = cc
  own_runs (Err end.Memory) own well = cc
  own_runs (Err (end.Ragged file count)) own well = record { ends = well; part = tt }
  own_runs (Err (end.StepsSpent count)) own well = record { ends = well; part = tt }
  own_runs (Err (end.IoStop status statement)) own well = record { ends = well; part = tt }
  own_runs (Err (end.Fault kind statement step)) own well = record { ends = well; part = tt }

  -- behind the run's end, where a close fails
  module _ (ids : Ids)
      (broken : (e : RunEnd) (now : FilesState) → known_bytes now ≡ known_bytes old
      → IsFirst (λ place writes. IsHeldFor ids place writes) start.files now e
      → IsBroken p paths budget start (outside now sink) (Err e)) where
    counts_same : (x : Ended) → EndsWell p paths budget start (outside old sink) (Ok x) → (writes : Bool)
        → faults_by writes old ≡ faults_by writes start.files
    counts_same x well true = well.writing
    counts_same x well false = well.reading

    part_of : (x : Ended) (refusal : RunEnd) → IsFirst (λ place writes. IsHeldFor ids place writes) old new refusal
        → EndsWell p paths budget start (outside old sink) (Ok x)
        → IsBroken p paths budget start (outside new sink) (Err refusal)
    part_of x refusal first well =
        broken refusal new same
        (first_from (λ place writes. IsHeldFor ids place writes) start.files old new (counts_same x well) refusal first)

    closed_ill : (x : Ended) (refusal : RunEnd) → IsRefusal old new refusal
        → IsFirst (λ place writes. IsHeldFor ids place writes) old new refusal
        → EndsWell p paths budget start (outside old sink) (Ok x)
        → Runs p paths budget start (outside new sink) (Err refusal)
    closed_ill x end.ReadFault rose first well = record {
      ends = rose_on start.files.reading old.reading new.reading well.reading rose;
      part = part_of x end.ReadFault first well;
    }
    closed_ill x end.WriteFault rose first well = record {
      ends = inl (rose_on start.files.writing old.writing new.writing well.writing rose);
      part = part_of x end.WriteFault first well;
    }
    closed_ill x end.Memory rose first well = record { ends = tt; part = part_of x end.Memory first well }
    closed_ill x (end.Ragged file count) rose first well = absurd rose
    closed_ill x (end.StepsSpent count) rose first well = absurd rose
    closed_ill x (end.IoStop status statement) rose first well = absurd rose
    closed_ill x (end.Fault kind statement step) rose first well = absurd rose

  -- behind the run's own end
  pub closed_behind : (ids : Ids) (e : Result Ended RunEnd) → IsOwnEnd e → (r : Result (Unit {0}) RunEnd)
      → ClosesAll old new r → IfErr r (λ f. IsFirst (λ place writes. IsHeldFor ids place writes) old new f)
      → Runs p paths budget start (outside old sink) e
      → (HasEnded e → (f : RunEnd) (now : FilesState) → known_bytes now ≡ known_bytes old
      → IsFirst (λ place writes. IsHeldFor ids place writes) start.files now f
      → IsBroken p paths budget start (outside now sink) (Err f))
      → Runs p paths budget start (outside new sink) (end_behind e r)
  closed_behind ids (Ok x) own (Ok u) closes first runs broken =
      own_runs (Ok x) own (well_on (Ok x) (Ok u) closes (λ y is. closes.counts) (own_well (Ok x) own runs))
  closed_behind ids (Ok x) own (Err refusal) closes first runs broken =
      closed_ill ids (broken (x, refl)) x refusal closes.counts first (own_well (Ok x) own runs)
  closed_behind ids (Err e) own r closes first runs broken =
      own_runs (Err e) own (well_on (Err e) r closes (λ y is. cc) (own_well (Err e) own runs))

-- ---- a run behind files that were only read

by_close_from : (a b c : FilesState) (r : Result Ended RunEnd) → ((writes : Bool) → faults_by writes b ≡ faults_by writes a)
    → (own : Result Ended RunEnd) (files : List File) → ByClose b c r own files → ByClose a c r own files
by_close_from a b c (Ok x) same own files closes = (closes.0, tt)
by_close_from a b c (Err e) same own files closes = (closes.0, first_from (IsOpenAt files) a b c same e closes.1)

pub broken_from : (p : Program) (paths : List (List ℕ)) (budget : ℕ) (before middle : FilesState) (sink : SinkState)
    (new : Outside) (r : Result Ended RunEnd) → known_bytes middle ≡ known_bytes before
    → middle.reading ≡ before.reading → middle.writing ≡ before.writing
    → IsBroken p paths budget (outside middle sink) new r → IsBroken p paths budget (outside before sink) new r
broken_from p paths budget before middle sink new r contents reading writing h =
    broken_more p paths budget (ByClose middle new.files r) (ByClose before new.files r)
    (by_close_from before middle new.files r same) (outside middle sink) new (known_bytes before) (known_bytes new.files) r
    contents refl h where
      same : (writes : Bool) → faults_by writes middle ≡ faults_by writes before
      same true = writing
      same false = reading
