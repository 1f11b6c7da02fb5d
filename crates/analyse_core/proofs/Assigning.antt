-- A certificate without leaks whose ends at heads are thresholds is an assignment that the analysis doesn't miss.
use Rattle.std.specs.Prelude.{length}
use Rattle.cell_steps.specs.OwnRanges.{owns}
use Rattle.cell_ranges.proofs.Claims.{claims_fit}
use Rattle.cert_text.specs.Claims.{place_at, written_element}
use Rattle.cert_check.proofs.LayerLaws.{layer_laws}
use Rattle.cert_check.proofs.Leaking.{kept_where_no_leaks}
use Rattle.analyse_core.specs.Thresholds.{thresholds_of}
use Rattle.analyse_core.specs.Assignments.{CertificatesAssign}
use Rattle.analyse_core.proofs.Fixed.{claimed_listed}
use Rattle.analyse_core.proofs.Owned.{thresholds_lie_in}

pub certificates_are_assignments : CertificatesAssign
certificates_are_assignments p g c source none heads = record {
  kept = record {
    fits = λ node is. claims_fit (owns p) (place_at c node);
    inductive = kept_where_no_leaks p g c (thresholds_of p) (layer_laws p g source) none;
  };
  heads = λ node is.
      claimed_listed (owns p) (thresholds_of p) (written_element (length (owns p)) (place_at c node)) (thresholds_lie_in p g source)
      (heads node is);
}
