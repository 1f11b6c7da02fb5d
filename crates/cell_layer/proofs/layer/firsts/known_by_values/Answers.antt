use Rattle.std.proofs.Common.{sym, subst, arith}
use Rattle.interval_domain.specs.Known.{IsOrdered}
use Rattle.cell_layer.specs.Firsts.{number_of}
use Rattle.cell_layer.proofs.FirstCells.{number_ordered, least_next}
use Rattle.cell_layer.proofs.layer.firsts.known_by_values.Goals as goal

pub loop-number-init : goal.loop-number-init
loop-number-init c =
    let x = c.args in
    record {
      some = omega arith;
      value = c.known_at-known.ensures;
      ordered = subst IsOrdered (sym c.known_at-known.ensures) (number_ordered (number_of x.item.now x.zeros.now x.ones.now 0));
    }

pub joined_known-known-requires-clause-b : goal.joined_known-known-requires-clause-b
joined_known-known-requires-clause-b c =
    let x = c.args in
    subst IsOrdered (sym c.known_at-next.ensures) (number_ordered (number_of x.item.now x.zeros.now x.ones.now c.loop-number.number))

pub loop-number-preserved : goal.loop-number-preserved
loop-number-preserved c =
    let x = c.args in
    let inv = c.loop-number.invariant in
    record {
      some = omega (arith, inv.some);
      value = least_next (number_of x.item.now x.zeros.now x.ones.now) c.loop-number.number c.loop-number.known c.known_at-next.result c.joined_known-known.result inv.some inv.value
          c.known_at-next.ensures c.joined_known-known.ensures.value;
      ordered = c.joined_known-known.ensures.ordered;
    }
