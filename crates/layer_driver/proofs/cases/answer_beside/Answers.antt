use Rattle.std.proofs.Common.{ap, sym, subst, ◌∙◌}
use Rattle.std.specs.List.{AllByRecursion}
use Rattle.diff_bounds.specs.Widening.{AreThresholds}
use Rattle.diff_bounds.specs.PackRows.{lists_of}
use Rattle.cert_text.specs.MatrixClaims.{cells_in, sizes_of}
use Rattle.layer_driver.proofs.RowLemmas.{are_thresholds, are_short, listed}
use Rattle.layer_driver.proofs.cases.answer_beside.Goals as goal

pub new-requires-clause-listed : goal.new-requires-clause-listed
new-requires-clause-listed c = listed c.args.packs.now c.as_slice.result.now (ap lists_of c.as_slice.ensures.value ∙ c.in_ok-thresholds.ensures)

pub new-requires-clause-ends : goal.new-requires-clause-ends
new-requires-clause-ends c =
    subst (AllByRecursion AreThresholds) (sym (ap lists_of c.as_slice.ensures.value ∙ c.in_ok-thresholds.ensures))
    (are_thresholds (sizes_of (cells_in c.args.packs.now)))

pub new-requires-clause-lists : goal.new-requires-clause-lists
new-requires-clause-lists c =
    are_short (sizes_of (cells_in c.args.packs.now)) c.as_slice.result.now (ap lists_of c.as_slice.ensures.value ∙ c.in_ok-thresholds.ensures)

pub new-requires-clause-facts : goal.new-requires-clause-facts
new-requires-clause-facts c = λ node first last. c.requires.row
