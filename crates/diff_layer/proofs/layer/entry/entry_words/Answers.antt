use Rattle.std.proofs.Common.{◌∙◌, arith, rules}
use Rattle.cob_program.specs.ActView.{plain_program}
use Rattle.diff_layer.specs.Plans.{plain_plans}
use Rattle.diff_layer.proofs.Beginning.{plans_are_few, is_row_of}
use Rattle.diff_layer.proofs.Sizes.{small_in}
use Rattle.diff_layer.proofs.Steps.{written_back}
use Rattle.diff_layer.proofs.layer.entry.entry_words.Goals as goal

pub width_of-requires-clause-small : goal.width_of-requires-clause-small
width_of-requires-clause-small c =
    let a = c.args in
    small_in a.sizes.now (plain_plans a.plans.now) c.requires.sizes (plans_are_few (plain_program a.program.now) a.plans.now c.requires.plans)

pub invariant_of-items : goal.invariant_of-items
invariant_of-items c =
    let a = c.args in
    record { row_of = is_row_of (plain_program a.program.now) c.as_slice.result.now (search rules) c.requires.fits a.cells.now c.requires.cells }

pub returns : goal.returns
returns c =
    let kept = c.set_entry.auto.out in
    let len = c.as_mut_slice.ensures.len in
    written_back c.set_entry.new.out c.in_ok-words.words.items c.in_ok-words.words.len (omega (arith, kept, len)) ∙ c.set_entry.ensures
