-- How far a statement has got that is refused: within an OPEN of several files, to one of them.
use Rattle.std.specs.Prelude.{ℕ, zero, suc, List, [], take, drop, Result}
use Rattle.batch_io.specs.FilesState.{FilesState}
use Rattle.cob_program.specs.declared.act.Opening.{Opening}
use Rattle.cob_program.specs.Act.{Act, open_files}
use Rattle.cob_runs.specs.State.{World}
use Rattle.cob_interp.specs.declared.ends.RunEnd.{RunEnd}
use Rattle.cob_interp.specs.Meeting.{IsMetBy}
use Rattle.cob_interp.specs.Touching.{Touches, makes_by}

-- the last of so many files
abbrev pub last_opened : ℕ → List Opening → List Opening
last_opened zero os = []
last_opened (suc k) os = take 1 (drop k os)

-- the statement with so many of its files alone
abbrev pub up_to : ℕ → Act → Act
up_to reached (open_files os) = open_files (take reached os)
up_to reached a = a

-- the statement with the last of these alone
abbrev pub last_of : ℕ → Act → Act
last_of reached (open_files os) = open_files (last_opened reached os)
last_of reached a = a

-- So far a statement has got: it has made no file anew that stands behind in its list, and the fault is that of the last
-- file to which it came.
pub record Reaches (paths : List (List ℕ)) (a : Act) (w : World) (old new : FilesState) (result : Result ℕ RunEnd) : Type 0 where
  pub reached : ℕ
  pub touches : Touches paths (makes_by (up_to reached a)) w old new
  pub met : IsMetBy (last_of reached a) result
