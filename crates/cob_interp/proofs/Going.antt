-- What waits of the file at a place goes out.
use Rattle.std.proofs.Common.{◌≡◌, ℕ, List, Some, Result, Ok, Err}
use Rattle.std.specs.Prelude.{slice_get, MatchResult}
use Rattle.batch_io.specs.FilesState.{FilesState}
use Rattle.cob_runs.specs.Files.{File}
use Rattle.cob_runs.specs.State.{World}
use Rattle.cob_interp.specs.declared.ends.RunEnd.{RunEnd}
use Rattle.cob_interp.specs.declared.setting.Setting.{Setting}
use Rattle.cob_interp.specs.Setting.{paths_of}
use Rattle.cob_interp.specs.Told.{IsOut}
use Rattle.cob_interp.specs.Tracking.{Ids, AreWritten}
use Rattle.cob_interp.specs.Readying.{IsRefusal, IsNamed, IsPath, Readies, GoesOut}

module _ (s : Setting) (w : World) (place : ℕ) (old new : FilesState) (ids : Ids) (path : List ℕ) (f : File)
    (is : IsPath s place path) (has : slice_get w.files place ≡ Some f)
    (written : AreWritten (paths_of s) old ids w.files) where
  pub named_at : IsNamed old ids place path f
  named_at id writes held mode_ = written.stand place id writes path f held is.path_ has mode_

  pub goes_by : (result : Result (Unit {0}) RunEnd)
      → MatchResult result
      (λ _. (q : List ℕ) → IsNamed old ids place q f → Readies old new q (λ told now. IsOut told now q f))
      (λ e. IsRefusal old new e)
      → MatchResult result (λ _. GoesOut s w place old new) (λ e. IsRefusal old new e)
  goes_by (Ok u) readies =
      record { path = path; file = f; is = is; has = has; ready = readies path named_at }
  goes_by (Err e) refusal = refusal
