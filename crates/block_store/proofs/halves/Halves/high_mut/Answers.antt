use Rattle.std.proofs.Common.{sym, ap, refl, subst, ◌≤◌, ◌+◌, length, arith}
use Rattle.std.proofs.lemmas.List.{length-append}
use Rattle.block_store.specs.Places.{somes}
use Rattle.block_store.specs.Lends.{spliced}
use Rattle.block_store.specs.Parts.{Parts}
use Rattle.block_store.proofs.SlotsLemmas.{is_run, run_seen, lent_full, lent_words, length_lent, refilled}
use Rattle.block_store.proofs.halves.Halves.high_mut.Goals as goal

pub slice_mut-requires : goal.slice_mut-requires
slice_mut-requires c =
    let slots = c.self.inside.high.slots in
    let within = subst (λ (v : Parts). c.args.at + c.args.count ≤ length v.high) (sym c.self.view_is) c.requires in
    (sym c.self.invariant.middle, is_run slots (length (somes slots)) (somes slots) c.args.at c.args.count c.self.invariant.high within)

pub invariant_of-self-lent : goal.invariant_of-self-lent
invariant_of-self-lent c = λ ws.
    let h = c.self.inside in let slots = h.high.slots in
    let within = subst (λ (v : Parts). c.args.at + c.args.count ≤ length v.high) (sym c.self.view_is) c.requires in
    let new = spliced slots c.args.at c.args.count (refilled slots c.args.at c.args.count ws) in
    let same = length_lent slots (length (somes slots)) (somes slots) c.args.at c.args.count c.self.invariant.high within ws in
    let full = lent_full slots (length (somes slots)) (somes slots) c.args.at c.args.count c.self.invariant.high within ws in
    record {
      base = c.self.invariant.base;
      middle = c.self.invariant.middle;
      beside = c.self.invariant.beside;
      low = c.self.invariant.low;
      high = record { are = full.are; count = refl };
      count = omega (arith, same, c.self.invariant.count, length-append h.low.slots h.high.slots, length-append h.low.slots new);
      fits = c.self.invariant.fits;
      deed = c.self.invariant.deed;
      deed_len = c.self.invariant.deed_len;
      deed_alloc = c.self.invariant.deed_alloc;
    }

pub returns : goal.returns
returns c =
    let slots = c.self.inside.high.slots in let others = somes c.self.inside.low.slots in
    rw (← c.self.view_is) (
      (refl, λ ws. ap (λ l. record { low = others; high = l }) (lent_words slots (length (somes slots)) (somes slots) c.args.at c.args.count c.self.invariant.high ws)),
      record {
        writes_back = tt;
        value = run_seen slots (length (somes slots)) (somes slots) c.slice_mut.result.now c.args.at c.args.count c.self.invariant.high c.slice_mut.ensures.value;
      },
    )
