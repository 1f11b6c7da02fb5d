-- Counts of faults, which tell a refusal of the outside from one that the code made up.
use Rattle.std.specs.Prelude.{◌≡◌, ℕ, ◌+◌, ◌-◌, ◌^◌, ◌≤◌, min, Bool, true, false, IsTrue, Result, Ok, Err}
use Rattle.batch_io.specs.declared.ends.OpenEnd.{OpenEnd}
use Rattle.batch_io.specs.declared.ends.MakeEnd.{MakeEnd}
use Rattle.batch_io.specs.declared.ends.ReadEnd.{ReadEnd}
use Rattle.batch_io.specs.declared.ends.FileEnd.{FileEnd}
use Rattle.batch_io.specs.declared.ends.OpenEnd.TheVariants as opening
use Rattle.batch_io.specs.declared.ends.MakeEnd.TheVariants as make
use Rattle.batch_io.specs.declared.ends.ReadEnd.TheVariants as reads
use Rattle.batch_io.specs.declared.ends.FileEnd.TheVariants as file

-- the count rose, or stands at u64's last value
abbrev pub Rose : ℕ → ℕ → Type 0
Rose before now = min (before + 1) (2 ^ 64 - 1) ≤ now

-- what a call does to the count of its faults: it never falls, rises where the call answers Failed, and else stays
pub record Counts (failed : Bool) (before now : ℕ) : Type 0 where
  pub later : before ≤ now
  pub rose : IsTrue failed → Rose before now
  pub kept : failed ≡ false → now ≡ before

-- whether a call of a file answers Failed
abbrev pub open_failed : {X : Type 0} → Result X OpenEnd → Bool
open_failed (Ok x) = false
open_failed (Err opening.Absent) = false
open_failed (Err opening.Failed) = true
open_failed (Err opening.Memory) = false

abbrev pub make_failed : {X : Type 0} → Result X MakeEnd → Bool
make_failed (Ok x) = false
make_failed (Err make.Failed) = true
make_failed (Err make.Memory) = false

abbrev pub read_failed : {X : Type 0} → Result X ReadEnd → Bool
read_failed (Ok x) = false
read_failed (Err reads.Failed) = true
read_failed (Err reads.Long) = false
read_failed (Err reads.Memory) = false

abbrev pub file_failed : {X : Type 0} → Result X FileEnd → Bool
file_failed (Ok x) = false
file_failed (Err file.Absent) = false
file_failed (Err file.Failed) = true
file_failed (Err file.Long) = false
file_failed (Err file.Memory) = false
