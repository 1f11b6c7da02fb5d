-- Bounds of items, and bounds as the code holds them: what isn't below 10^37 counts as 10^37.
use Rattle.std.specs.Prelude.{ℕ, ◌+◌, ◌-◌, ◌*◌, ◌/◌, ◌^◌, nat_le, min, if◌then◌else◌, Bool, true, false, Option, Some, None}
use Rattle.cob_typed_exprs.specs.declared.bounds.Size as declared_size
use Rattle.cob_program.specs.Sum.{Sum, Parts, Part, Factors, Atom, item, number, group}
use Rattle.cob_typed_exprs.specs.Scope.{Scope, form_at}
use Rattle.cob_program.specs.Bounds.{Bound, form_bound, is_small, sum_most, sum_most_from, part_most, product_most_from, atom_most, is_small_sum, is_small_sum_from, is_small_part, is_small_product, is_small_atom}

-- the bound of what stands at a place
abbrev pub bound_at : Scope → ℕ → Bound
bound_at s place = form_bound (form_at s place)

-- n / d at a scale, rounded down
abbrev pub quotient_at : Bound → Bound → ℕ → Bound
quotient_at n d scale = record {
  most = if nat_le n.scale (scale + d.scale) then n.most * 10 ^ (scale + d.scale - n.scale) else n.most / 10 ^ (n.scale - (scale + d.scale));
  scale = scale;
}

abbrev pub plain_size : declared_size.Size → Bound
plain_size s = record { most = s.most; scale = s.scale }

abbrev pub capped : Bound → Bound
capped b = record { most = min b.most (10 ^ 37); scale = b.scale }

abbrev pub bound_if : Bool → Bound → Option Bound
bound_if small b = if small then Some b else None

abbrev pub if_small : Bound → Option Bound
if_small b = bound_if (is_small b) b

-- a bound, where each intermediate is small
module _ (bound : ℕ → Bound) where
  abbrev pub small_sum : Sum → Option Bound
  small_sum s = bound_if (is_small_sum bound s) (sum_most bound s)

  abbrev pub small_sum_from : Bound → Parts → Option Bound
  small_sum_from a ps = bound_if (is_small_sum_from bound a ps) (sum_most_from bound a ps)

  abbrev pub small_part : Part → Option Bound
  small_part p = bound_if (is_small_part bound p) (part_most bound p)

  abbrev pub small_product : Bound → Factors → Option Bound
  small_product a fs = bound_if (is_small_product bound a fs) (product_most_from bound a fs)

  abbrev pub small_atom : Atom → Option Bound
  small_atom a = bound_if (is_small_atom bound a) (atom_most bound a)

-- an item or a literal
abbrev pub is_plain : Atom → Bool
is_plain (item place) = true
is_plain (number n) = true
is_plain (group s) = false
