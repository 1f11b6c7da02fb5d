-- Something to do, in front of what stands behind it.
use Rattle.std.specs.Prelude.{◌≡◌, Bool, true, false, List, ◌∷◌}
use Rattle.cob_program.specs.Act.{Program}
use Rattle.cob_runs.specs.State.{Doing}
use Rattle.cob_runs.specs.Steps.{settled}

-- Either a settled list begins with the thing to do, and that list is now at hand, or there is nothing in it to do.
abbrev pub Begins : Program → Bool → Doing → List Doing → List Doing → Type 0
Begins p true d ds now = settled p (d ∷ ds) ≡ now
Begins p false d ds now = (settled p (d ∷ ds) ≡ settled p ds) × (now ≡ ds)
