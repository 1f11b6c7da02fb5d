use Rattle.std.proofs.Common.{◌≡◌, ◌∙◌, Some, None, sym, ap}
use Rattle.std.specs.Prelude.{if◌then◌else◌}
use Rattle.std.proofs.lemmas.List.{length-map}
use Rattle.cell_laws.specs.Entry.{entry_cells}
use Rattle.diff_steps.specs.Steps.{all_closed}
use Rattle.diff_bounds.specs.PackRows.{lists_of}
use Rattle.diff_layer.specs.Plans.{plain_plans, matrices_for}
use Rattle.diff_layer.specs.Views.{program_of}
use Rattle.diff_layer.proofs.Beginning.{plans_are_few, is_row, closed_is, least_entry, wide_is, known_is, its_fit}
use Rattle.diff_layer.proofs.Sizes.{small_in}
use Rattle.diff_layer.proofs.layer.entry.set_entry.Goals as goal

pub set_free-requires-clause-small : goal.set_free-requires-clause-small
set_free-requires-clause-small c =
    let a = c.args in
    small_in a.sizes.now (plain_plans a.plans.now) c.requires.sizes (plans_are_few (program_of a.items.now) a.plans.now c.requires.plans)

pub close_all-requires-clause-fits : goal.close_all-requires-clause-fits
close_all-requires-clause-fits c = let a = c.args in its_fit (program_of a.items.now) a.items.now.row.now c.requires.row c.requires.fits

pub close_all-requires-clause-matrices : goal.close_all-requires-clause-matrices
close_all-requires-clause-matrices c =
    let a = c.args in
    is_row (program_of a.items.now) a.plans.now c.requires.plans a.sizes.now c.requires.sizes c.set_free.new.row c.set_free.ensures
    (c.set_free.auto.row ∙ c.requires.width)

pub set_least-requires-clause-small : goal.set_least-requires-clause-small
set_least-requires-clause-small c =
    let a = c.args in
    small_in a.sizes.now (plain_plans a.plans.now) c.requires.sizes (plans_are_few (program_of a.items.now) a.plans.now c.requires.plans)

pub set_least-requires-clause-width : goal.set_least-requires-clause-width
set_least-requires-clause-width c =
    let a = c.args in
    c.close_all.auto.out ∙ c.set_free.auto.row ∙ c.requires.width
    ∙ wide_is (program_of a.items.now) a.plans.now c.requires.plans a.sizes.now c.requires.sizes (lists_of a.thresholds.now)
    (length-map a.thresholds.now (λ list. list.items) ∙ c.requires.listed)

pub returns-then-not-close_all : goal.returns-then-not-close_all
returns-then-not-close_all c =
    let a = c.args in
    let p = program_of a.items.now in
    let closes : all_closed p (entry_cells p) (plain_plans a.plans.now) (matrices_for a.plans.now c.set_free.new.row) ≡ None =
    ap (λ known. all_closed p known (plain_plans a.plans.now) (matrices_for a.plans.now c.set_free.new.row)) (sym (known_is p a.items.now.row.now c.requires.row c.requires.fits))
    ∙ c.close_all.ensures.closed ∙ ap (λ b. if b then Some (matrices_for a.plans.now c.close_all.new.out) else None) c.if-not-close_all.true in
    c.set_least.ensures
    ∙ least_entry p a.plans.now c.requires.plans a.sizes.now c.requires.sizes c.set_free.new.row c.set_free.ensures (entry_cells p) (lists_of a.thresholds.now)
    (length-map a.thresholds.now (λ list. list.items) ∙ c.requires.listed) closes

pub returns-else-not-close_all : goal.returns-else-not-close_all
returns-else-not-close_all c =
    let a = c.args in
    let p = program_of a.items.now in
    let closes : all_closed p (entry_cells p) (plain_plans a.plans.now) (matrices_for a.plans.now c.set_free.new.row) ≡ Some (matrices_for a.plans.now c.close_all.new.out) =
    ap (λ known. all_closed p known (plain_plans a.plans.now) (matrices_for a.plans.now c.set_free.new.row)) (sym (known_is p a.items.now.row.now c.requires.row c.requires.fits))
    ∙ c.close_all.ensures.closed ∙ ap (λ b. if b then Some (matrices_for a.plans.now c.close_all.new.out) else None) c.if-not-close_all.false in
    closed_is p a.plans.now c.requires.plans a.sizes.now c.requires.sizes c.set_free.new.row c.set_free.ensures (entry_cells p) c.close_all.new.out
    (c.close_all.auto.out ∙ c.set_free.auto.row ∙ c.requires.width) closes
