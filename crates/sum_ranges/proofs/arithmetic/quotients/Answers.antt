use Rattle.std.proofs.Common.{◌≡◌, ◌+◌, ◌-◌, ◌≤◌, ◌∙◌, ap, pos, arith}
use Rattle.std.specs.Int.{w32}
use Rattle.std.proofs.lemmas.Int.{to_z_pos}
use Rattle.sum_ranges.specs.SumRanges.{shift}
use Rattle.sum_ranges.proofs.Working.{found_gives}
use Rattle.sum_ranges.proofs.arithmetic.quotients.Goals as goal

pub returns : goal.returns
returns c =
    let up : c.args.scale + c.args.b.scale - c.args.a.scale ≡ shift c.args.a c.args.b = ap (λ s. s + c.args.b.scale - c.args.a.scale) c.requires.scale in
    let few : shift c.args.a c.args.b ≤ 55 = c.requires.can.digits (c.is_zero-2.ensures.other c.if-is_zero-2.false) in
    found_gives c.args.a c.args.b c.quot_i.result _ c.requires.can
    (to_z_pos w32 (c.args.scale + c.args.b.scale - c.args.a.scale) (omega (arith, up, few)) ∙ ap pos up)
    c.quot_i.ensures.none c.quot_i.ensures.least
