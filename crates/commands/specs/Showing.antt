-- What a sink gains where text is shown.
use Rattle.std.specs.Prelude.{◌≡◌, ◌≤◌, ◌⊎◌, ℕ, List, take, length}
use Rattle.std.specs.Io.KnownBytes.{append_known}
use Rattle.batch_io.specs.Faults.{Rose}
use Rattle.batch_io.specs.SinkState.{SinkState}

abbrev pub Gains : SinkState → SinkState → List ℕ → Type 0
Gains old new text = new.told ≡ append_known old.told text

abbrev pub GainsFront : SinkState → SinkState → List ℕ → Type 0
GainsFront old new text = (n : ℕ) × (n ≤ length text) × Gains old new (take n text)

-- The text is shown whole with this status, or a write of it failed: then a front of it is shown, and the status
-- is the other.
abbrev pub Shows : SinkState → SinkState → List ℕ → ℕ → ℕ → ℕ → Type 0
Shows old new text whole failed status =
    ((status ≡ whole) × Gains old new text × (new.faults ≡ old.faults))
    ⊎ ((status ≡ failed) × GainsFront old new text × Rose old.faults new.faults)

-- the text is shown as above, or memory ran out behind a front of it, and no write failed
abbrev pub ShowsIfMemory : SinkState → SinkState → List ℕ → ℕ → ℕ → ℕ → Type 0
ShowsIfMemory old new text whole failed status =
    Shows old new text whole failed status ⊎ ((status ≡ 8) × GainsFront old new text × (new.faults ≡ old.faults))

-- a refusal's line: its status, or 8 where memory ran out
abbrev pub ShowsRefusal : SinkState → SinkState → List ℕ → ℕ → ℕ → Type 0
ShowsRefusal old new line own status = ShowsIfMemory old new line own own status
