-- Remainders.
use Rattle.std.proofs.Common.{◌≡◌, ℕ, ◌+◌, ◌^◌, ◌≤◌, ℤ, pos, true, sym, ap, subst, ◌∙◌, arith}
use Rattle.std.specs.Prelude.{unsigned_abs, ◌-ℤ◌}
use Rattle.std.proofs.lemmas.Int.{ints}
use Rattle.dec_num.specs.declared.types.Mode.TheVariants.{Trunc}
use Rattle.dec_num.specs.declared.types.Scaled.{Scaled}
use Rattle.dec_num.specs.Exact.{near, ratio_of}
use Rattle.cob_program.specs.Values.{negated}
use Rattle.cob_program.specs.Bounds.{IsSmall}
use Rattle.cob_calc.specs.declared.exact.Exact.TheVariants as exact
use Rattle.cob_calc.specs.Exact.{fraction_of}
use Rattle.cob_calc.specs.Receiving.{cut_at, IsSmallRest}
use Rattle.dec_num.proofs.Shifting.{near_shift}

pub small_negated : (v : Scaled) → IsSmall v → IsSmall (negated true v)
small_negated v h = record { most = omega (arith, ints, h.most); scale = h.scale }

-- of units that are passed on as machine words
near_of : (scale : ℕ) (n d : Scaled) (up nu du v : ℤ) → up ≡ pos (scale + d.scale) -ℤ pos n.scale → nu ≡ n.units → du ≡ d.units → v ≡ up →
    near Trunc (ratio_of nu du) v ≡ near Trunc (fraction_of (exact.Quotient n d)) (pos scale)
near_of scale n d up nu du v eup en ed ev = rw (ev, en, ed) (sym (near_shift Trunc n.units d.units scale d.scale n.scale up eup))

pub cut_is : (scale : ℕ) (n d : Scaled) (up u nu du v p : ℤ) (r : Scaled) → up ≡ pos (scale + d.scale) -ℤ pos n.scale → nu ≡ n.units → du ≡ d.units → v ≡ up → p ≡ u →
    u ≡ near Trunc (ratio_of nu du) v → r ≡ record { units = p; scale = scale } → r ≡ cut_at scale n d
cut_is scale n d up u nu du v p r eup en ed ev ep eu er =
    er ∙ ap (λ x. record { units = x; scale = scale }) (ep ∙ eu ∙ near_of scale n d up nu du v eup en ed ev)

pub cut_is_small : (scale : ℕ) (n d : Scaled) (up nu du v : ℤ) (r : Scaled) → IsSmallRest scale n d → up ≡ pos (scale + d.scale) -ℤ pos n.scale → nu ≡ n.units → du ≡ d.units → v ≡ up →
    10 ^ 37 ≤ unsigned_abs (near Trunc (ratio_of nu du) v) → r ≡ cut_at scale n d
cut_is_small scale n d up nu du v r h eup en ed ev over =
    absurd (omega (arith, h.cut, subst (λ x. 10 ^ 37 ≤ unsigned_abs x) (near_of scale n d up nu du v eup en ed ev) over))
