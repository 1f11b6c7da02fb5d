use Rattle.std.proofs.Common.{◌≡◌, ℕ, ◌<◌, ◌≤◌, Bool, length}
use Rattle.std.specs.Prelude.{slice_get, IfErr}
use Rattle.batch_io.specs.FilesState.{known_bytes}
use Rattle.cob_interp.specs.Readying.{ClosesAll, IsFirst}
use Rattle.cob_interp.specs.Tracking.{IsHeld, AreOpen, Tracks}
use Rattle.cob_interp.proofs.HandleLemmas.{Before}
use Rattle.cob_interp.proofs.handles.Handles.close_all.Given as goal

-- those at the first places are closed
abbrev pub invariant-loop-place : goal.invariant-loop-place
invariant-loop-place g l = record {
  live : AreOpen (g.F.Files.state l.files) l.self;
  tracks : Tracks (g.F.Files.state l.fn.files) (g.F.Files.state l.files) l.fn.self l.self;
  below : (p id : ℕ) (writes : Bool) → p < l.place → IsHeld l.self p writes id → ⊥;
  size : length l.self ≡ length l.fn.self;
  same : known_bytes (g.F.Files.state l.files) ≡ known_bytes (g.F.Files.state l.fn.files);
  counts : ClosesAll (g.F.Files.state l.fn.files) (g.F.Files.state l.files) l.closed;
  rest : (p : ℕ) → l.place ≤ p → slice_get l.self p ≡ slice_get l.fn.self p;
  first : IfErr l.closed
      (λ e. IsFirst (Before l.fn.self l.place) (g.F.Files.state l.fn.files) (g.F.Files.state l.files) e);
}
