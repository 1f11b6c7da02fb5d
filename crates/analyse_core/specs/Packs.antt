-- The second layer of a program's analysis: its packs with their thresholds, beside rows of the first layer.
use Rattle.std.specs.Prelude.{◌≡◌, ◌≤◌, ℕ, List, length, map, ℤ, IsTrue, Vec}
use Rattle.std.specs.declared.alloc.Global.{Global}
use Rattle.std.specs.List.{AllByRecursion}
use Rattle.cob_program.specs.Act.{Program}
use Rattle.cob_graph.specs.declared.graph.Graph.{Graph}
use Rattle.cob_graph.specs.Graphs.{cells_of}
use Rattle.dom_laws.specs.Lattice.{Lattice}
use Rattle.dom_laws.specs.Flow.{Flow}
use Rattle.cob_graph.specs.Homes.{homes_of}
use Rattle.cert_text.specs.Allowed.{packs_fit}
use Rattle.diff_bounds.specs.declared.Pack as declared
use Rattle.diff_bounds.specs.Widening.{AreThresholds}
use Rattle.diff_steps.specs.Packs.{Pack}
use Rattle.pack_laws.specs.Packs.{pack_in}
use Rattle.pack_laws.specs.Layer.{Facts, diff_lattice, diff_flow}
use Rattle.diff_bounds.specs.PackRows.{lists_of}
use Rattle.cert_text.specs.MatrixClaims.{cells_in}
use Rattle.analyse_core.specs.Choice.{packs_of}
use Rattle.analyse_core.specs.PackThresholds.{thresholds_of_pack}
use Rattle.analyse_core.specs.Thresholds.{thresholds_of}

-- the packs, by what their cells are of
abbrev pub packs_for : Program → List Pack
packs_for p = map (pack_in (homes_of p)) (packs_of p)

-- a list of thresholds for each pack
abbrev pub pack_lists : Program → List (List ℤ)
pack_lists p = map (thresholds_of_pack (cells_of p) (thresholds_of p)) (packs_of p)

abbrev pub pack_lattice : Program → Lattice
pack_lattice p = diff_lattice (packs_for p) (pack_lists p)

abbrev pub pack_flow : Program → Graph → Facts → Flow
pack_flow p g facts = diff_flow p g (packs_for p) facts

-- The packs are such as a certificate may have, and their thresholds such as a word may be.
pub record ArePacksReady (p : Program) : Type 0 where
  pub few : length (packs_of p) ≤ 32
  pub fit : IsTrue (packs_fit (length (cells_of p)) (packs_of p))
  pub ends : AllByRecursion AreThresholds (pack_lists p)

-- the packs are the program's, with their lists of thresholds
pub record ArePacksGiven (p : Program) (packs : List declared.Pack) (thresholds : List (Vec ℤ Global)) : Type 0 where
  pub ready : ArePacksReady p
  pub packs_are : cells_in packs ≡ packs_of p
  pub lists_are : lists_of thresholds ≡ pack_lists p
  pub short : AllByRecursion (λ list. length list.items ≤ 2048) thresholds
