use Rattle.std.proofs.Common.{sym, subst, ◌∙◌}
use Rattle.cob_program.specs.Bounds.{IsSmall}
use Rattle.cob_calc.proofs.NumberLemmas.{scaled_is}
use Rattle.cob_world.proofs.NumberLemmas.{short_can_add, short_sum}
use Rattle.cob_world.proofs.counts.sum.Goals as goal

pub add-requires : goal.add-requires
add-requires c = short_can_add c.args.own c.args.step c.requires.own c.requires.step

pub returns-clause-value : goal.returns-clause-value
returns-clause-value c = scaled_is c.add.result _ _ c.add.ensures.scale c.add.ensures.units

pub returns-clause-small : goal.returns-clause-small
returns-clause-small c =
    subst IsSmall (sym (scaled_is c.add.result _ _ c.add.ensures.scale c.add.ensures.units))
    (short_sum c.args.own c.args.step c.requires.own c.requires.step)
