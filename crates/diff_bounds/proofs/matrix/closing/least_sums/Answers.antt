use Rattle.std.proofs.Common.{refl}
use Rattle.diff_bounds.specs.Matrix.{word}
use Rattle.diff_bounds.proofs.Tightness.{tight_first, short_first}
use Rattle.diff_bounds.proofs.Steps.{negative_cycle, tight_again, short_after}
use Rattle.diff_bounds.proofs.Ends.{opened_of}
use Rattle.diff_bounds.proofs.matrix.closing.least_sums.Goals as goal

pub loop-via-init : goal.loop-via-init
loop-via-init c =
    let n = c.args.places in
    let opened = opened_of n c.args.m.now c.open_sums.new.m c.requires.width c.open_sums.ensures in
    record {
      tight = tight_first n (word n c.args.m.now) (word n c.open_sums.new.m) c.requires.diagonal opened;
      short = short_first n (word n c.args.m.now) (word n c.open_sums.new.m) (record { words = c.requires.words }) opened;
    }

pub returns-then-not-go_through-clause-negative : goal.returns-then-not-go_through-clause-negative
returns-then-not-go_through-clause-negative c e =
    let n = c.args.places in
    let trip = c.if-not-go_through.ensures.negative refl in
    negative_cycle n c.loop-via.via (word n c.args.m.now) (word n c.loop-via.m) c.loop-via-test.true c.loop-via.invariant.tight trip.0 trip.1 trip.2

pub loop-via-preserved : goal.loop-via-preserved
loop-via-preserved c =
    let n = c.args.places in
    let through = c.if-not-go_through.ensures.through refl in
    let tight = tight_again n c.loop-via.via (word n c.args.m.now) (word n c.loop-via.m) (word n c.go_through.new.m) c.loop-via-test.true c.loop-via.invariant.tight c.loop-via.invariant.short through (c.if-not-go_through.ensures.diagonal refl) in
    record {
      tight = tight;
      short = short_after n c.loop-via.via (word n c.args.m.now) (word n c.loop-via.m) (word n c.go_through.new.m) c.requires.few c.loop-via-test.true (record { words = c.requires.words }) c.loop-via.invariant.short through tight;
    }
