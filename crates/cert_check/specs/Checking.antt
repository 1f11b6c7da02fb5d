-- What the checker answers to a certificate for a program and its graph.
use Rattle.std.specs.Prelude.{◌≡◌, ℕ, List, [], length, slice_get, Some, Result, MatchResult, Vec}
use Rattle.std.specs.List.{Contains}
use Rattle.std.specs.declared.alloc.Global.{Global}
use Rattle.cob_tree.specs.declared.fault.Kind.{Kind}
use Rattle.cob_tree.specs.declared.fault.Open.{Open}
use Rattle.cob_program.specs.Act.{Program}
use Rattle.cob_runs.specs.declared.outcome.Outcome.TheVariants.{Fault}
use Rattle.cob_runs.specs.Files.{Choice}
use Rattle.cob_runs.specs.Runs.{Contents, run}
use Rattle.cob_graph.specs.declared.graph.Graph.{Graph}
use Rattle.cob_graph.specs.Graphs.{cells_of}
use Rattle.graph_runs.specs.Sources.{IsSourceGraph}
use Rattle.cert_text.specs.View.{Certificate}
use Rattle.cert_text.specs.Allowed.{IsAllowed}
use Rattle.cert_check.specs.declared.ends.CheckEnd.{CheckEnd}
use Rattle.cert_check.specs.declared.ends.CheckEnd.TheVariants as check
use Rattle.cert_check.specs.declared.ends.Shape.{Shape}
use Rattle.cert_check.specs.declared.ends.Shape.TheVariants as shape
use Rattle.cert_check.specs.Assignments.{leak}
use Rattle.cert_check.specs.Claims.{leaks, open_pairs}
use Rattle.cert_check.specs.OpenPairs.{open_at}

-- the certificate is of as many cells as the program, and of as many nodes as its graph
pub record HasShape (p : Program) (g : Graph) (c : Certificate) : Type 0 where
  pub cells : c.cells ≡ length (cells_of p)
  pub nodes : length c.nodes ≡ length g.nodes

-- how the certificate's shape differs; cells are looked at first
abbrev pub Misfits : Program → Graph → Certificate → Shape → ℕ → ℕ → Type 0
Misfits p g c shape.Cells found wanted =
    (found ≡ c.cells) × (wanted ≡ length (cells_of p)) × ¬ (found ≡ wanted)
Misfits p g c shape.Nodes found wanted =
    (c.cells ≡ length (cells_of p)) × (found ≡ length c.nodes) × (wanted ≡ length g.nodes) × ¬ (found ≡ wanted)

-- The certificate is inductive, and these pairs are all that it leaves open.
pub record Accepts (p : Program) (g : Graph) (c : Certificate) (pairs : List Open) : Type 0 where
  pub shape : HasShape p g c
  pub inductive : leaks p g c ≡ []
  pub pairs_are : pairs ≡ open_pairs p g c

-- why the certificate isn't accepted: another shape, or the first leak
abbrev pub Refuses : Program → Graph → Certificate → CheckEnd → Type 0
Refuses p g c (check.Shape what found wanted) = Misfits p g c what found wanted
Refuses p g c (check.NotInductive layer edge gap) =
    HasShape p g c × (slice_get (leaks p g c) 0 ≡ Some (leak layer edge gap))
Refuses p g c check.Memory = Unit {0}

abbrev pub Checks : Program → Graph → Certificate → Result (Vec Open Global) CheckEnd → Type 0
Checks p g c result = MatchResult result (λ pairs. Accepts p g c pairs.items) (Refuses p g c)

-- Each fault that any run meets, on all input files, for all contents that are left undefined and every number of
-- steps, is among the pairs.
abbrev pub CoversRuns : Program → List Open → Type 0
CoversRuns p pairs =
    (contents : Contents) (first : List ℕ) (choices : List Choice) (n : ℕ) (kind : Kind) (statement : ℕ) →
    (run p contents first choices n).outcome ≡ Fault kind statement → Contains pairs (open_at statement kind)

-- The open pairs of an inductive certificate that the format allows cover the runs of a source's program.
abbrev pub AcceptedClaimsCoverRuns : Type 0
AcceptedClaimsCoverRuns =
    (p : Program) (g : Graph) (c : Certificate) (pairs : List Open) → IsSourceGraph p g → IsAllowed c → Accepts p g c pairs
    → CoversRuns p pairs
