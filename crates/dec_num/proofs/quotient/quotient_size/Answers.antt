use Rattle.std.proofs.Common.{refl}
use Rattle.std.specs.Int.{w32}
use Rattle.dec_num.proofs.Quotients.{size_read, negative_read, natural_read, down_within, up_within, narrowed_size, widened_size}
use Rattle.dec_num.proofs.quotient.quotient_size.Goals as goal

pub narrowed-requires-clause-down : goal.narrowed-requires-clause-down
narrowed-requires-clause-down c =
    let up = c.args.up in
    down_within up _ (negative_read w32 up c.ranges.up c.if-up-lt0.true) (size_read w32 up _ c.ranges.up c.unsigned_abs.ensures.value) c.requires.up.0

pub widened-requires-clause-up : goal.widened-requires-clause-up
widened-requires-clause-up c =
    let up = c.args.up in
    up_within up _ (size_read w32 up _ c.ranges.up refl) c.requires.up.0 c.requires.up.1

pub returns-then-up-lt0 : goal.returns-then-up-lt0
returns-then-up-lt0 c =
    let up = c.args.up in
    narrowed_size c.args.mode c.args.n c.args.d up _ _ (negative_read w32 up c.ranges.up c.if-up-lt0.true)
    (size_read w32 up _ c.ranges.up c.unsigned_abs.ensures.value) c.narrowed.ensures.value c.narrowed.ensures.bound

pub returns-else-up-lt0 : goal.returns-else-up-lt0
returns-else-up-lt0 c =
    let up = c.args.up in
    widened_size c.args.mode c.args.n c.args.d up _ _ (natural_read w32 up c.ranges.up c.if-up-lt0.false) (size_read w32 up _ c.ranges.up refl) c.widened.ensures
