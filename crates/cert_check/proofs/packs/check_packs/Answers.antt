use Rattle.std.proofs.Common.{ap, subst, sym, ◌∙◌, [], length, arith}
use Rattle.std.specs.List.{AllByRecursion}
use Rattle.std.proofs.lemmas.List.{length-map}
use Rattle.cob_program.specs.ActView.{plain_program}
use Rattle.cert_text.specs.View.{view}
use Rattle.diff_bounds.specs.declared.Pack as declared
use Rattle.pack_laws.specs.Packs.{ArePacksOfCells}
use Rattle.cert_check.specs.Claims.{cell_leaks}
use Rattle.cert_check.proofs.Asking.{claimed_element}
use Rattle.cell_ranges.proofs.Sources.{cell_count, range_count}
use Rattle.cert_check.proofs.PackNumbers.{packs_rise, empty_are_thresholds, empty_are_short}
use Rattle.cert_check.proofs.packs.check_packs.Goals as goal

pub new-requires-clause-cells : goal.new-requires-clause-cells
new-requires-clause-cells c =
    let given = c.requires.given in
    let count = ap length given.own in
    let few = given.few_cells in
    let many = range_count (plain_program c.args.program.now) c.args.graph.now given.source in
    omega (arith, count, few, many)

pub new-requires-clause-few : goal.new-requires-clause-few
new-requires-clause-few c =
    let few = c.requires.given.allowed.packs in
    let same = ap length c.as_slice-packs.ensures.value in
    let many = length-map c.args.rows.now.cert.now.packs.items (λ (pack : declared.Pack). pack.cells.items) in
    omega (arith, few, same, many)

pub new-requires-clause-packs : goal.new-requires-clause-packs
new-requires-clause-packs c =
    let given = c.requires.given in
    let many = given.cells ∙ sym (cell_count (plain_program c.args.program.now) c.args.graph.now given.source) in
    let packs = c.args.rows.now.cert.now.packs.items in
    subst (ArePacksOfCells (length c.args.graph.now.cells)) (sym c.as_slice-packs.ensures.value)
    (subst (λ n. ArePacksOfCells n packs) many (packs_rise (view c.args.rows.now.cert.now).cells packs given.allowed.each_pack))

pub new-requires-clause-ends : goal.new-requires-clause-ends
new-requires-clause-ends c = empty_are_thresholds c.as_slice.result.now (subst (AllByRecursion _) (sym c.as_slice.ensures.value) c.in_ok-lists.ensures.empty)

pub new-requires-clause-lists : goal.new-requires-clause-lists
new-requires-clause-lists c = empty_are_short c.as_slice.result.now (subst (AllByRecursion _) (sym c.as_slice.ensures.value) c.in_ok-lists.ensures.empty)

pub new-requires-clause-facts : goal.new-requires-clause-facts
new-requires-clause-facts c = λ node first last.
    (claimed_element (plain_program c.args.program.now) c.args.graph.now (view c.args.rows.now.cert.now) c.args.rows.now.owns.now
    c.requires.given.own [] node).formed

pub check_layer-requires-clause-inductive : goal.check_layer-requires-clause-inductive
check_layer-requires-clause-inductive c =
    let made = c.in_ok-layer.ensures in
    (λ i. cell_leaks (plain_program (made.program i)) (made.graph i) (view (made.facts i).cert.now)) ∙ c.requires.inductive
