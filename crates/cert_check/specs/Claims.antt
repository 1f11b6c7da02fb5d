-- What a certificate claims of a program's graph, as an assignment: where it leaks, and which faults it leaves open.
use Rattle.std.specs.Prelude.{ℕ, List, Bool, Option, Some, ℤ}
use Rattle.cob_tree.specs.declared.fault.Kind.{Kind}
use Rattle.cob_tree.specs.declared.fault.Open.{Open}
use Rattle.cob_program.specs.Act.{Program}
use Rattle.cob_graph.specs.declared.graph.Graph.{Graph}
use Rattle.cert_text.specs.View.{Certificate, Place}
use Rattle.interval_domain.specs.Elements.{Element}
use Rattle.cert_text.specs.declared.gap.Gap.{Gap}
use Rattle.cert_text.specs.Claims.{claimed_element, claimed_row, place_at}
use Rattle.cert_text.specs.MatrixClaims as matrices
use Rattle.cell_steps.specs.OwnRanges.{owns}
use Rattle.diff_steps.specs.Packs.{Pack}
use Rattle.cert_check.specs.declared.ends.Leak.{Leak}
use Rattle.cert_check.specs.Assignments.{Assignment, packs_with}
use Rattle.cert_check.specs.Assignments as assignment

module _ (p : Program) (g : Graph) (c : Certificate) where
  -- ---- what nodes claim

  -- each claim met with its cell's own range
  abbrev pub claims_at : ℕ → Element
  claims_at node = claimed_element (owns p) (place_at c node)

  abbrev pub row_at : ℕ → List ℤ
  row_at node = claimed_row (owns p) (place_at c node)

  -- the packs, by what their cells are of
  abbrev pub packs_at : List Pack
  packs_at = packs_with p c.packs

  abbrev pub pack_sizes : List ℕ
  pack_sizes = matrices.sizes_of c.packs

  -- the matrix of each pack
  abbrev pub bounds_at : ℕ → List (List ℤ)
  bounds_at node = matrices.claimed_matrices pack_sizes (place_at c node)

  abbrev pub bounds_row : ℕ → List ℤ
  bounds_row node = matrices.claimed_row pack_sizes (place_at c node)

  abbrev pub assignment_of : Assignment
  assignment_of = record { cells = claims_at; matrices = bounds_at }

  -- claims are written at every node
  abbrev pub written : ℕ → Option Place
  written node = Some (place_at c node)

  -- ---- leaks

  abbrev pub edge_gaps : ℕ → List Gap
  edge_gaps e = assignment.edge_gaps p g c.packs assignment_of written e

  abbrev pub pack_gaps : ℕ → List Gap
  pack_gaps e = assignment.pack_gaps p g c.packs assignment_of written e

  abbrev pub cell_leaks : List Leak
  cell_leaks = assignment.cell_leaks p g c.packs assignment_of written

  abbrev pub pack_leaks : List Leak
  pack_leaks = assignment.pack_leaks p g c.packs assignment_of written

  -- All places at which the certificate isn't inductive.
  abbrev pub leaks : List Leak
  leaks = assignment.leaks p g c.packs assignment_of written

  -- ---- what is left open

  abbrev pub claims_clear : ℕ → Kind → Bool
  claims_clear node fault = assignment.clears p g c.packs assignment_of node fault

  -- the faults that some node of the statement doesn't clear, by statement, then by kind
  abbrev pub open_pairs : List Open
  open_pairs = assignment.open_pairs p g c.packs assignment_of
