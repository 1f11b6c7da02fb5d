use Rattle.std.proofs.Common.{sym, ◌∙◌, ap, refl, subst, ◌≤◌, ◌+◌, length, arith}
use Rattle.std.proofs.lemmas.List.{length-append}
use Rattle.std.specs.Borrow.{i128}
use Rattle.block_store.specs.Ownership.{place_on}
use Rattle.block_store.specs.Places.{somes}
use Rattle.block_store.specs.Lends.{spliced}
use Rattle.block_store.specs.Parts.{Parts}
use Rattle.block_store.proofs.SlotsLemmas.{is_run, run_seen, lent_full, lent_words, length_lent, refilled}
use Rattle.block_store.proofs.halves.Halves.low_mut_beside.Goals as goal

pub slice_mut-requires : goal.slice_mut-requires
slice_mut-requires c =
    let slots = c.self.inside.low.slots in
    let within = subst (λ (v : Parts). c.args.at + c.args.count ≤ length v.low) (sym c.self.view_is) c.requires.at in
    (sym c.self.invariant.base, is_run slots (length (somes slots)) (somes slots) c.args.at c.args.count c.self.invariant.low within)

pub slice-requires : goal.slice-requires
slice-requires c =
    let slots = c.self.inside.high.slots in
    let within = subst (λ (v : Parts). c.args.beside + c.args.count ≤ length v.high) (sym c.self.view_is) c.requires.beside in
    (sym c.self.invariant.middle, is_run slots (length (somes slots)) (somes slots) c.args.beside c.args.count c.self.invariant.high within)

pub invariant_of-self-lent : goal.invariant_of-self-lent
invariant_of-self-lent c = λ ws.
    let h = c.self.inside in let slots = h.low.slots in
    let within = subst (λ (v : Parts). c.args.at + c.args.count ≤ length v.low) (sym c.self.view_is) c.requires.at in
    let new = spliced slots c.args.at c.args.count (refilled slots c.args.at c.args.count ws) in
    let same = length_lent slots (length (somes slots)) (somes slots) c.args.at c.args.count c.self.invariant.low within ws in
    let full = lent_full slots (length (somes slots)) (somes slots) c.args.at c.args.count c.self.invariant.low within ws in
    record {
      base = c.self.invariant.base;
      middle = c.self.invariant.middle;
      beside = c.self.invariant.beside ∙ ap (λ n. place_on i128 n h.base.ptr) (sym same);
      low = record { are = full.are; count = refl };
      high = c.self.invariant.high;
      count = omega (arith, same, c.self.invariant.count, length-append h.low.slots h.high.slots, length-append new h.high.slots);
      fits = c.self.invariant.fits;
      deed = c.self.invariant.deed;
      deed_len = c.self.invariant.deed_len;
      deed_alloc = c.self.invariant.deed_alloc;
    }

pub returns : goal.returns
returns c =
    let slots = c.self.inside.low.slots in let others = somes c.self.inside.high.slots in
    rw (← c.self.view_is) (
      (refl, λ ws. ap (λ l. record { low = l; high = others }) (lent_words slots (length (somes slots)) (somes slots) c.args.at c.args.count c.self.invariant.low ws)),
      record {
        writes_back = tt;
        value = run_seen slots (length (somes slots)) (somes slots) c.slice_mut.result.now c.args.at c.args.count c.self.invariant.low c.slice_mut.ensures.value;
        beside = run_seen c.self.inside.high.slots (length others) others c.slice.result.now c.args.beside c.args.count c.self.invariant.high c.slice.ensures;
      },
    )
