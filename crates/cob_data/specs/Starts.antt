-- What the placing of items relies on.
use Rattle.std.specs.Prelude.{ℕ, ◌≤◌, Option, IfSome}
use Rattle.cob_data.specs.Spots.{Neighbour}

-- the item before starts no later
abbrev pub IsBefore : Option Neighbour → ℕ → Type 0
IsBefore last next = IfSome last (λ n. n.spot.start ≤ next)
