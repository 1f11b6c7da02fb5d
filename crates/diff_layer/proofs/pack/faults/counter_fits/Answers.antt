use Rattle.std.proofs.Common.{◌∙◌}
use Rattle.dec_num.specs.declared.types.Mode.TheVariants.{Trunc}
use Rattle.edge_parts.specs.PartView.{plain_part}
use Rattle.diff_layer.specs.Clears.{both_shown}
use Rattle.diff_layer.specs.Moments.{packs_in, words_in}
use Rattle.diff_layer.specs.Views.{program_of, known_in}
use Rattle.diff_layer.proofs.pack.faults.counter_fits.Goals as goal

pub returns : goal.returns
returns c wrote written =
    let x = c.args in
    c.ends_fit.ensures wrote written
    ∙ (λ i. both_shown (program_of x.moment.now.items) (known_in x.moment.now.items) x.moment.now.kept.common wrote (plain_part x.part) Trunc (c.counter.ensures i) (c.is_not_above-high.ensures i)
    (c.is_not_below-low.ensures i) (packs_in x.matrices.now) (words_in x.matrices.now))
