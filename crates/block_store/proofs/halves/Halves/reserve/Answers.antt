use Rattle.std.proofs.Common.{◌∙◌, ap, sym, length, arith}
use Rattle.std.specs.Borrow.{i128}
use Rattle.block_store.specs.Ownership.{place_on}
use Rattle.block_store.proofs.Border.{Zeroed, zeroed}
use Rattle.block_store.proofs.halves.Halves.reserve.Goals as goal

pub invariant_of-result : goal.invariant_of-result
invariant_of-result c =
    let made = c.in_ok-base.ensures in let part = c.part_at-low.result in let parted = c.part_at-low.ensures in
    let z : Zeroed part.1.slots part.2.slots c.args.len = zeroed c.fill.new.cells.slots c.none.result.slots part.1.slots part.2.slots c.args.len c.fill.ensures.1 c.none.ensures parted.2 parted.4 in
    record {
      base = parted.1;
      middle = parted.3 ∙ sym parted.0;
      beside = parted.3 ∙ ap (λ n. place_on i128 n c.in_ok-base.base.ptr) (sym (ap length z.none));
      low = z.low_full;
      high = z.high_full;
      count = z.count;
      fits = (omega (arith, c.requires), omega (arith, c.requires));
      deed = made.2;
      deed_len = made.3;
      deed_alloc = made.4;
    }

pub returns : goal.returns
returns c =
    let part = c.part_at-low.result in let parted = c.part_at-low.ensures in
    let z : Zeroed part.1.slots part.2.slots c.args.len = zeroed c.fill.new.cells.slots c.none.result.slots part.1.slots part.2.slots c.args.len c.fill.ensures.1 c.none.ensures parted.2 parted.4 in
    λ i. record { low = z.low_is i; high = z.high_is i }
