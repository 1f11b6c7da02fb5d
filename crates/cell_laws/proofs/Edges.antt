-- What an analysis of cells needs of an edge holds of each source's.
use Rattle.std.proofs.Common.{◌≡◌, ℕ, List, [], ◌∷◌, ◌++◌, refl, sym, subst}
use Rattle.std.specs.List.{AllByRecursion, Contains}
use Rattle.std.proofs.lemmas.List.Elements.{All-contains, All-from_recursion}
use Rattle.cob_program.specs.Act.{times, perform, Program}
use Rattle.cob_graph.specs.WellFormed.{IsWellFormed}
use Rattle.cob_edge_parts.specs.Parts.{Part, store, bytes_in, parts_of}
use Rattle.graph_runs.specs.Sources.{StatementsAreCounted}
use Rattle.cob_graph.specs.declared.homes.Home.{Home}
use Rattle.cob_graph.specs.declared.homes.Home.TheVariants.{Item as of_item, Count as of_count}
use Rattle.cob_graph.specs.Homes.{homes_of}
use Rattle.cell_laws.specs.Cells.{IsHomeOf}
use Rattle.cell_laws.proofs.Homes.{homes_are}
use Rattle.cell_laws.proofs.Sound.{items_are_sound}
use Rattle.cell_steps.specs.Agreeing.{IsTimesAt}
use Rattle.cell_laws.specs.Edges.{EdgesAreSoundOfSources}
use Rattle.cell_laws.proofs.Doing.{can_do_at}
use Rattle.cell_laws.proofs.PremiseParts.{IsSoundPart, AreSound, parts_are_sound}

-- ---- counters

module _ (p : Program) (counted : StatementsAreCounted p) where
  -- a counter is a TIMES'
  abbrev IsSoundHome : Home → Type 0
  IsSoundHome (of_item place) = Unit {0}
  IsSoundHome (of_count n) = IsTimesAt p n

  sound_home : (h : Home) → IsHomeOf p h → IsSoundHome h
  sound_home (of_item place) is = tt
  sound_home (of_count n) is =
      record { first = (counted n (perform is.body (times is.count)) is.act).0; act = perform is.body (times is.count); at = is.act; times = refl }

  sound_homes : (hs : List Home) → AllByRecursion (IsHomeOf p) hs → AllByRecursion IsSoundHome hs
  sound_homes [] all = tt
  sound_homes (h ∷ hs) all = (sound_home h all.0, sound_homes hs all.1)

  times_of : IsWellFormed p → (n : ℕ) → Contains (homes_of p) (of_count n) → IsTimesAt p n
  times_of whole n has =
      All-contains IsSoundHome (homes_of p) (of_count n) (All-from_recursion IsSoundHome (homes_of p) (sound_homes (homes_of p) (homes_are p whole))) has

-- ---- one part of several

one_of : (P : Part → Type 0) (done rest : List Part) (y : Part) → AllByRecursion P (done ++ y ∷ rest) → P y
one_of P [] rest y all = all.0
one_of P (x ∷ done) rest y all = one_of P done rest y all.1

pub edges_are_sound_of_sources : EdgesAreSoundOfSources
edges_are_sound_of_sources p g source statement a x at = record {
  items = items_are_sound p.layout source.items source.signs;
  first = (source.numbers statement a at).0;
  act = at;
  counts = times_of p source.numbers source.whole;
  receivers = λ done rest place mode y e. one_part done rest (store place mode y) e;
  areas = λ done rest offset count e. one_part done rest (bytes_in offset count) e;
} where
  sound : AreSound p.layout (parts_of p statement a x)
  sound = parts_are_sound p source.items statement a x (can_do_at p source.statements statement a at)

  one_part : (done rest : List Part) (y : Part) → done ++ y ∷ rest ≡ parts_of p statement a x → IsSoundPart p.layout y
  one_part done rest y e = one_of (IsSoundPart p.layout) done rest y (subst (AreSound p.layout) (sym e) sound)
