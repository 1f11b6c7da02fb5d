-- When fewer calls tell as much: each call has one like it among them, on no later line.
use Rattle.std.specs.Prelude.{◌≡◌, ◌≤◌, ◌⊎◌, List}
use Rattle.std.specs.List.{Contains}
use Rattle.cob_graph.specs.Nesting.{Call}

pub record IsLike (c d : Call) : Type 0 where
  pub para : d.para ≡ c.para
  pub span : d.span ≡ c.span
  pub line : d.line ≤ c.line

abbrev pub HasLike : List Call → Call → Type 0
HasLike ds c = (d : Call) × Contains ds d × IsLike c d

pub record Covers (cs ds : List Call) : Type 0 where
  pub stands : (d : Call) → Contains ds d → Contains cs d
  pub like : (c : Call) → Contains cs c → HasLike ds c

-- a call is added, unless there is one like it
pub record IsAdded (old : List Call) (c : Call) (new : List Call) : Type 0 where
  pub kept : (d : Call) → Contains old d → Contains new d
  pub added : (d : Call) → Contains new d → Contains old d ⊎ (c ≡ d)
  pub like : HasLike new c
