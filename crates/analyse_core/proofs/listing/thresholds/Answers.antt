use Rattle.std.proofs.Common.{◌≡◌, ap, sym, ◌∙◌, subst}
use Rattle.std.specs.Prelude.{IfOk}
use Rattle.std.specs.List.{All, AllByRecursion}
use Rattle.std.proofs.lemmas.Result.{IfOk-weaker}
use Rattle.cob_program.specs.ActView.{plain_program}
use Rattle.interval_domain.specs.Rows.{lists_of}
use Rattle.cert_check.specs.Ranges.{IsShort}
use Rattle.cert_check.proofs.Sources.{graph_cells_short}
use Rattle.analyse_core.specs.Literals.{numbers_of, program_literals}
use Rattle.analyse_core.specs.Rising.{Rises}
use Rattle.analyse_core.specs.Thresholds.{IsSmallCell, thresholds_for}
use Rattle.analyse_core.proofs.CellLists.{lists_rise}
use Rattle.analyse_core.proofs.CellSizes.{graph_cells_small, cells_are}
use Rattle.analyse_core.proofs.listing.thresholds.Goals as goal

pub own_ranges-requires : goal.own_ranges-requires
own_ranges-requires c =
    subst (All IsShort) (sym c.get-cells.ensures) (graph_cells_short (plain_program c.args.program.now) c.args.graph.now c.requires)

pub all_thresholds-requires-clause-cells : goal.all_thresholds-requires-clause-cells
all_thresholds-requires-clause-cells c =
    subst (All IsSmallCell) (sym c.get-cells.ensures) (graph_cells_small (plain_program c.args.program.now) c.args.graph.now c.requires)

pub returns-clause-value : goal.returns-clause-value
returns-clause-value c =
    let p = plain_program c.args.program.now in
    let cells = c.get-cells.ensures ∙ cells_are p c.args.graph.now c.requires in
    let literals = ap numbers_of c.as_slice.ensures.value ∙ c.in_ok-literals.ensures in
    subst (λ ts. IfOk c.all_thresholds.result (λ lists. lists_of lists.items ≡ ts))
    (ap (λ ns. thresholds_for ns c.get-cells.result.now) literals ∙ ap (thresholds_for (program_literals p)) cells) c.all_thresholds.ensures

pub returns-clause-sorted : goal.returns-clause-sorted
returns-clause-sorted c =
    IfOk-weaker c.all_thresholds.result (λ lists. lists_of lists.items ≡ thresholds_for (numbers_of c.as_slice.result.now) c.get-cells.result.now)
    (λ lists. AllByRecursion Rises (lists_of lists.items))
    (λ lists is. subst (AllByRecursion Rises) (sym is) (lists_rise (numbers_of c.as_slice.result.now) c.get-cells.result.now))
    c.all_thresholds.ensures
