use Rattle.std.proofs.Common.{◌∙◌, ap}
use Rattle.edge_parts.specs.PartView.{plain_part}
use Rattle.cell_steps.specs.Seen.{Seen}
use Rattle.cell_layer.specs.Kept.{seen}
use Rattle.diff_layer.specs.Clears.{count_shown}
use Rattle.diff_layer.specs.Moments.{act_at, packs_in, words_in}
use Rattle.diff_layer.specs.Views.{program_of, known_in}
use Rattle.diff_layer.proofs.KeptSmall.{kept_small}
use Rattle.diff_layer.proofs.Stepped.{set_can}
use Rattle.diff_layer.proofs.pack.faults.set_clears.Goals as goal

pub set_fits-requires-clause-can : goal.set_fits-requires-clause-can
set_fits-requires-clause-can c =
    let x = c.args in
    let p = program_of x.moment.now.items in
    set_can p (known_in x.moment.now.items) c.taken.result.common (plain_part x.part) c.requires.sets
    (kept_small p (act_at x.moment.now) x.moment.now.action (seen x.moment.now.items.row.now c.taken.result) c.taken.ensures.can c.taken.ensures.written c.requires.sum)

pub returns : goal.returns
returns c wrote written =
    let x = c.args in
    c.set_fits.ensures wrote written
    ∙ ap (λ (t : Seen). count_shown (program_of x.moment.now.items) t.cells t.common wrote (plain_part x.part) (packs_in x.matrices.now) (words_in x.matrices.now)) c.taken.ensures.same
