-- When remainders stay small, by the rule of bounds.
use Rattle.std.specs.Prelude.{ℕ, ◌+◌, ◌-◌, ◌*◌, ◌/◌, ◌^◌, ◌&&◌, nat_le, if◌then◌else◌, Bool}
use Rattle.cob_program.specs.Bounds.{Bound, sum_bound, product_bound, is_small}

-- n / d cut at a scale, where a divisor has one unit at least
abbrev pub cut_bound : Bound → Bound → ℕ → Bound
cut_bound n d scale = record {
  most = if nat_le n.scale (scale + d.scale) then n.most * 10 ^ (scale + d.scale - n.scale) else n.most / 10 ^ (n.scale - (scale + d.scale));
  scale = scale;
}

-- the cut quotient, its product with the divisor, and the difference
abbrev pub is_small_rest_at : Bound → Bound → Bound → Bool
is_small_rest_at n d q = is_small q && (is_small (product_bound d q) && is_small (sum_bound n (product_bound d q)))
