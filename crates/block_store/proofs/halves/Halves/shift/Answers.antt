use Rattle.std.proofs.Common.{◌≤◌, ◌++◌, length, ap, sym, ◌∙◌, subst, take, drop, arith}
use Rattle.std.specs.Borrow.{i128}
use Rattle.block_store.specs.Ownership.{place_on}
use Rattle.block_store.specs.Parts.{Parts}
use Rattle.block_store.proofs.Border.{Shifted, shifted}
use Rattle.block_store.proofs.halves.Halves.shift.Goals as goal

pub invariant_of-self : goal.invariant_of-self
invariant_of-self c =
    let h = c.self.inside in let inv = c.self.invariant in let made = c.part_at-low.ensures in let part = c.part_at-low.result in
    let low = c.replace-low.ensures.value in let high = c.replace-high.ensures.value in
    let s : Shifted h.low.slots h.high.slots part.1.slots part.2.slots c.args.at = shifted h.low.slots h.high.slots part.1.slots part.2.slots c.args.at inv.low.are inv.high.are
    (made.2 ∙ (λ i. take c.args.at ((low i).slots ++ (high i).slots))) (made.4 ∙ (λ i. drop c.args.at ((low i).slots ++ (high i).slots))) in
    let asked = subst (λ (v : Parts). c.args.at ≤ length (v.low ++ v.high)) (sym c.self.view_is) c.requires in
    rw (c.replace.ensures.after, c.replace-2.ensures.after) (record {
      base = made.1;
      middle = made.3 ∙ sym made.0;
      beside = made.3 ∙ ap (λ n. place_on i128 n h.base.ptr) (sym (s.border (omega (arith, asked, s.sizes))));
      low = s.low_full;
      high = s.high_full;
      count = s.count ∙ inv.count;
      fits = inv.fits;
      deed = inv.deed;
      deed_len = inv.deed_len;
      deed_alloc = inv.deed_alloc;
    })

pub returns-clause-low : goal.returns-clause-low
returns-clause-low c =
    let h = c.self.inside in let inv = c.self.invariant in let made = c.part_at-low.ensures in let part = c.part_at-low.result in
    let low = c.replace-low.ensures.value in let high = c.replace-high.ensures.value in
    let s : Shifted h.low.slots h.high.slots part.1.slots part.2.slots c.args.at = shifted h.low.slots h.high.slots part.1.slots part.2.slots c.args.at inv.low.are inv.high.are
    (made.2 ∙ (λ i. take c.args.at ((low i).slots ++ (high i).slots))) (made.4 ∙ (λ i. drop c.args.at ((low i).slots ++ (high i).slots))) in
    rw (c.replace.ensures.after) (rw (← c.self.view_is) s.low_is)

pub returns-clause-high : goal.returns-clause-high
returns-clause-high c =
    let h = c.self.inside in let inv = c.self.invariant in let made = c.part_at-low.ensures in let part = c.part_at-low.result in
    let low = c.replace-low.ensures.value in let high = c.replace-high.ensures.value in
    let s : Shifted h.low.slots h.high.slots part.1.slots part.2.slots c.args.at = shifted h.low.slots h.high.slots part.1.slots part.2.slots c.args.at inv.low.are inv.high.are
    (made.2 ∙ (λ i. take c.args.at ((low i).slots ++ (high i).slots))) (made.4 ∙ (λ i. drop c.args.at ((low i).slots ++ (high i).slots))) in
    rw (c.replace-2.ensures.after) (rw (← c.self.view_is) s.high_is)
