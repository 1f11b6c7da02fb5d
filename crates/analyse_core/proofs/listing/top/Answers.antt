use Rattle.std.proofs.Common.{rules, ◌^◌, ◌≤◌, ℤ, pos, ◌*ℤ◌, to_z, of_z, sym, subst, arith}
use Rattle.std.specs.Prelude.{unsigned_abs}
use Rattle.std.specs.Int.{w128}
use Rattle.std.proofs.lemmas.Int.{to_z-of_z}
use Rattle.dec_num.proofs.Bounds.{size_of_product}
use Rattle.dec_num.proofs.Powers.{ten_monotone}
use Rattle.analyse_core.proofs.listing.top.Goals as goal

pub times-requires : goal.times-requires
times-requires c =
    let small = c.requires.number.units in
    let most = ten_monotone c.args.scale 18 c.requires.scale in
    let size = size_of_product c.args.number.units (pos (10 ^ c.args.scale)) (10 ^ 18) (10 ^ 18) (omega (arith, small)) (omega (arith, most)) in
    subst (λ (x : ℤ). unsigned_abs (x *ℤ to_z w128 (of_z w128 c.pow10.result)) ≤ 10 ^ 36) (sym (to_z-of_z w128 c.args.number.units (search rules)))
    (subst (λ (y : ℤ). unsigned_abs (c.args.number.units *ℤ y) ≤ 10 ^ 36) (sym (to_z-of_z w128 c.pow10.result (search rules)))
    (subst (λ (z : ℤ). unsigned_abs (c.args.number.units *ℤ z) ≤ 10 ^ 36) (sym c.pow10.ensures) (omega (arith, size))))
