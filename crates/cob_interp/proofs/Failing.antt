-- Faults of the outside, by which a statement is refused.
use Rattle.std.proofs.Common.{◌≡◌, ℕ, zero, suc, not, Bool, true, false, List, [], ◌∷◌, Some, Result, Ok, Err, refl, sym, ap, subst, ◌∙◌}
use Rattle.std.specs.Prelude.{slice_get, IfErr}
use Rattle.std.proofs.lemmas.Bool.{false≢true}
use Rattle.cob_data.specs.declared.layout.Layout.{Layout}
use Rattle.cob_plan.specs.declared.end.DoEnd.TheVariants as does
use Rattle.cob_plan.specs.declared.end.DoEnd.{DoEnd}
use Rattle.cob_program.specs.declared.act.Opening.{Opening}
use Rattle.cob_program.specs.Act.{Act, move, arith, if_, evaluate, perform, go, nothing, stop, open_files, close_files, read, write, show}
use Rattle.cob_runs.specs.State.{World, with_files}
use Rattle.cob_interp.specs.declared.ends.Ended.{Ended}
use Rattle.cob_interp.specs.declared.ends.RunEnd.{RunEnd}
use Rattle.cob_interp.specs.declared.ends.RunEnd.TheVariants as end
use Rattle.cob_interp.specs.declared.parts.Call.TheVariants as call
use Rattle.cob_interp.specs.declared.setting.Setting.{Setting}
use Rattle.cob_interp.specs.declared.setting.Standing.{Standing}
use Rattle.cob_interp.specs.Doing.{answered, halted, DoesPart}
use Rattle.cob_interp.specs.Meeting.{reads_files, writes_files, IsMetIn, IsMetBy, IfFailed, IsFailureBy, FailsBy, shows_first, end_behind}
use Rattle.cob_interp.specs.Reached.{last_opened, last_of}
use Rattle.cob_interp.specs.Rooms.{written_by}
use Rattle.cob_interp.specs.Setting.{IsCall, is_uncalled}
use Rattle.cob_interp.proofs.Touched.{any_at}

-- ---- results

pub if_failed : {A : Type 0} (r : Result A RunEnd) (P Q : Type 0) → (P → Q) → IfFailed r P → IfFailed r Q
if_failed (Ok x) P Q f h = tt
if_failed (Err end.ReadFault) P Q f h = f h
if_failed (Err end.WriteFault) P Q f h = f h
if_failed (Err end.Memory) P Q f h = tt
if_failed (Err (end.Ragged file count)) P Q f h = tt
if_failed (Err (end.StepsSpent count)) P Q f h = tt
if_failed (Err (end.IoStop status statement)) P Q f h = tt
if_failed (Err (end.Fault kind statement step)) P Q f h = tt

pub failed_any : {A : Type 0} (r : Result A RunEnd) (P : Type 0) → P → IfFailed r P
failed_any (Ok x) P h = tt
failed_any (Err end.ReadFault) P h = h
failed_any (Err end.WriteFault) P h = h
failed_any (Err end.Memory) P h = tt
failed_any (Err (end.Ragged file count)) P h = tt
failed_any (Err (end.StepsSpent count)) P h = tt
failed_any (Err (end.IoStop status statement)) P h = tt
failed_any (Err (end.Fault kind statement step)) P h = tt

pub never_fails : {A : Type 0} (writes : Bool) (r : Result A RunEnd) → IfFailed r ⊥ → FailsBy writes r
never_fails writes (Ok x) h = tt
never_fails writes (Err end.ReadFault) h = absurd h
never_fails writes (Err end.WriteFault) h = absurd h
never_fails writes (Err end.Memory) h = tt
never_fails writes (Err (end.Ragged file count)) h = tt
never_fails writes (Err (end.StepsSpent count)) h = tt
never_fails writes (Err (end.IoStop status statement)) h = tt
never_fails writes (Err (end.Fault kind statement step)) h = tt

pub never_met : {A : Type 0} (a : Act) (r : Result A RunEnd) → IfFailed r ⊥ → IsMetBy a r
never_met a (Ok x) h = tt
never_met a (Err end.ReadFault) h = absurd h
never_met a (Err end.WriteFault) h = absurd h
never_met a (Err end.Memory) h = tt
never_met a (Err (end.Ragged file count)) h = tt
never_met a (Err (end.StepsSpent count)) h = tt
never_met a (Err (end.IoStop status statement)) h = tt
never_met a (Err (end.Fault kind statement step)) h = tt

pub never_still : {A : Type 0} (r : Result A RunEnd) (P : Type 0) → IfFailed r ⊥ → IfFailed r P
never_still r P h = if_failed r ⊥ P (λ x. absurd x) h

-- where files failed the text that waits stays, though another file's bytes went out before
pub still_shown : {A : Type 0} (r : Result A RunEnd) (u v w : World) → IfFailed r (u ≡ v) → v ≡ with_files w v.files
    → IfFailed r (u.shown ≡ w.shown)
still_shown r u v w h is =
    if_failed r (u ≡ v) (u.shown ≡ w.shown)
    (λ same. ap (λ (x : World). x.shown) same ∙ ap (λ (x : World). x.shown) is) h

-- ---- what a node does

halted_fine : (statement step : ℕ) (e : DoEnd) → IfFailed {A = ℕ} (Err (halted statement step e)) ⊥
halted_fine statement step (does.Fault kind) = tt
halted_fine statement step (does.Stop status) = tt
halted_fine statement step does.Memory = tt

answered_fine : (statement step : ℕ) (r : Result ℕ DoEnd) → IfFailed (answered statement step r) ⊥
answered_fine statement step (Ok node) = tt
answered_fine statement step (Err e) = halted_fine statement step e

-- No fault of the outside is met there.
pub part_fine : (s : Setting) (x : Standing) (step : ℕ) (w v : World) (r : Result ℕ RunEnd) → DoesPart s x step w v r
    → IfFailed r ⊥
part_fine s x step w v r done =
    subst (λ (q : Result ℕ RunEnd). IfFailed q ⊥) (sym done.told)
    (answered_fine x.statement.now.number step done.outcome)

-- ---- statements

pub met_by_read : {A : Type 0} (a : Act) (r : Result A RunEnd) → reads_files a ≡ true → FailsBy false r → IsMetBy a r
met_by_read a (Ok x) reads h = tt
met_by_read a (Err end.ReadFault) reads h = reads
met_by_read a (Err end.WriteFault) reads h = absurd (false≢true h)
met_by_read a (Err end.Memory) reads h = tt
met_by_read a (Err (end.Ragged file count)) reads h = tt
met_by_read a (Err (end.StepsSpent count)) reads h = tt
met_by_read a (Err (end.IoStop status statement)) reads h = tt
met_by_read a (Err (end.Fault kind statement step)) reads h = tt

pub met_by_write : {A : Type 0} (a : Act) (r : Result A RunEnd) → writes_files a ≡ true → FailsBy true r → IsMetBy a r
met_by_write a (Ok x) writes h = tt
met_by_write a (Err end.ReadFault) writes h = absurd (false≢true (sym h))
met_by_write a (Err end.WriteFault) writes h = writes
met_by_write a (Err end.Memory) writes h = tt
met_by_write a (Err (end.Ragged file count)) writes h = tt
met_by_write a (Err (end.StepsSpent count)) writes h = tt
met_by_write a (Err (end.IoStop status statement)) writes h = tt
met_by_write a (Err (end.Fault kind statement step)) writes h = tt

is_read : (a : Act) (file : ℕ) → IsCall a (call.Read file) → reads_files a ≡ true
is_read (read f into end_ fine) file is = refl
is_read (open_files os) file is = absurd is
is_read (close_files fs) file is = absurd is
is_read (move x places) file is = absurd is
is_read (arith sum targets remainder size fine) file is = absurd is
is_read (if_ t held other) file is = absurd is
is_read (evaluate ws other) file is = absurd is
is_read (perform body turns) file is = absurd is
is_read (go para) file is = absurd is
is_read nothing file is = absurd is
is_read stop file is = absurd is
is_read (write r from) file is = absurd is
is_read (show xs) file is = absurd is

pub read_met : {A : Type 0} (a : Act) (file : ℕ) (r : Result A RunEnd) → IsCall a (call.Read file) → FailsBy false r
    → IsMetBy a r
read_met a file r is h = met_by_read a r (is_read a file is) h

pub close_met : {A : Type 0} (a : Act) (fs : List ℕ) (r : Result A RunEnd) → a ≡ close_files fs → IsMetBy a r
close_met {A} a fs r is = subst (λ (b : Act). IsMetBy b r) (sym is) (at r) where
  at : (q : Result A RunEnd) → IsMetBy (close_files fs) q
  at (Ok x) = tt
  at (Err end.ReadFault) = refl
  at (Err end.WriteFault) = refl
  at (Err end.Memory) = tt
  at (Err (end.Ragged file count)) = tt
  at (Err (end.StepsSpent count)) = tt
  at (Err (end.IoStop status statement)) = tt
  at (Err (end.Fault kind statement step)) = tt

is_write : (l : Layout) (a : Act) (place : ℕ) → written_by l a ≡ Some place → writes_files a ≡ true
is_write l (write r from) place is = refl
is_write l (open_files os) place is = cc
is_write l (close_files fs) place is = cc
is_write l (read f into end_ fine) place is = cc
is_write l (move x places) place is = cc
is_write l (arith sum targets remainder size fine) place is = cc
is_write l (if_ t held other) place is = cc
is_write l (evaluate ws other) place is = cc
is_write l (perform body turns) place is = cc
is_write l (go para) place is = cc
is_write l nothing place is = cc
is_write l stop place is = cc
is_write l (show xs) place is = cc

pub write_met : {A : Type 0} (l : Layout) (a : Act) (place : ℕ) (r : Result A RunEnd) → written_by l a ≡ Some place
    → FailsBy true r → IsMetBy a r
write_met l a place r is h = met_by_write a r (is_write l a place is) h

-- an OPEN meets the fault of one of its files
pub open_met : (os : List Opening) (k : ℕ) (o : Opening) (e : RunEnd) → slice_get os k ≡ Some o
    → IsFailureBy o.output e → IsMetIn (open_files os) e
open_met os k o end.ReadFault at h = any_at (λ x. not x.output) os k o at (ap not h)
open_met os k o end.WriteFault at h = any_at (λ x. x.output) os k o at h
open_met os k o end.Memory at h = tt
open_met os k o (end.Ragged file count) at h = tt
open_met os k o (end.StepsSpent count) at h = tt
open_met os k o (end.IoStop status statement) at h = tt
open_met os k o (end.Fault kind statement step) at h = tt

last_is : (os : List Opening) (k : ℕ) (o : Opening) → slice_get os k ≡ Some o → last_opened (suc k) os ≡ o ∷ []
last_is [] k o at = cc
last_is (x ∷ os) zero o at = let same : x ≡ o = cc in ap (λ (y : Opening). y ∷ []) same
last_is (x ∷ os) (suc k) o at = last_is os k o at

-- it meets the fault of the last file to which it came
pub last_met : (os : List Opening) (k place : ℕ) (o : Opening) (e : RunEnd) → place ≡ k → slice_get os place ≡ Some o
    → IsFailureBy o.output e → IsMetIn (open_files (last_opened (suc k) os)) e
last_met os k place o e same at h =
    let here = subst (λ (n : ℕ). slice_get os n ≡ Some o) same at in
    subst (λ (xs : List Opening). IsMetIn (open_files xs) e) (sym (last_is os k o here)) (open_met (o ∷ []) 0 o e refl h)

-- ---- statements that come to one file

pub last_uncalled : (a : Act) → is_uncalled a ≡ true → last_of 0 a ≡ a
last_uncalled (open_files os) is = absurd (false≢true is)
last_uncalled (close_files fs) is = refl
last_uncalled (read f into end_ fine) is = refl
last_uncalled (move x places) is = refl
last_uncalled (arith sum targets remainder size fine) is = refl
last_uncalled (if_ t held other) is = refl
last_uncalled (evaluate ws other) is = refl
last_uncalled (perform body turns) is = refl
last_uncalled (go para) is = refl
last_uncalled nothing is = refl
last_uncalled stop is = refl
last_uncalled (write r from) is = refl
last_uncalled (show xs) is = refl

last_written : (l : Layout) (a : Act) (place : ℕ) → written_by l a ≡ Some place → last_of 0 a ≡ a
last_written l (write r from) place is = refl
last_written l (open_files os) place is = cc
last_written l (close_files fs) place is = refl
last_written l (read f into end_ fine) place is = refl
last_written l (move x places) place is = refl
last_written l (arith sum targets remainder size fine) place is = refl
last_written l (if_ t held other) place is = refl
last_written l (evaluate ws other) place is = refl
last_written l (perform body turns) place is = refl
last_written l (go para) place is = refl
last_written l nothing place is = refl
last_written l stop place is = refl
last_written l (show xs) place is = refl

pub write_met_last : {A : Type 0} (l : Layout) (a : Act) (place : ℕ) (r : Result A RunEnd) → written_by l a ≡ Some place
    → FailsBy true r → IsMetBy (last_of 0 a) r
write_met_last l a place r is h =
    subst (λ (b : Act). IsMetBy b r) (sym (last_written l a place is)) (write_met l a place r is h)

-- behind an OPEN or a CLOSE nothing waits
pub open_first : (a : Act) (os : List Opening) (P : Type 0) → a ≡ open_files os → shows_first a ≡ false → P
open_first a os P is no_ = let e : true ≡ false = sym (ap shows_first is) ∙ no_ in cc

pub close_first : (a : Act) (fs : List ℕ) (P : Type 0) → a ≡ close_files fs → shows_first a ≡ false → P
close_first a fs P is no_ = let e : true ≡ false = sym (ap shows_first is) ∙ no_ in cc

-- ---- closing behind the run

pub own_stays : (e : Result Ended RunEnd) (closed : Result (Unit {0}) RunEnd) (r : Result Ended RunEnd)
    → r ≡ end_behind e closed → IfErr e (λ own. r ≡ Err own)
own_stays (Ok x) closed r is = tt
own_stays (Err own) closed r is = is
