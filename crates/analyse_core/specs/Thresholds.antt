-- The thresholds of cells: the two ends of a cell's own range, 0, and what stands beside the program's literals.
use Rattle.std.specs.Prelude.{◌≤◌, ◌<◌, ℕ, suc, ◌^◌, ◌&&◌, nat_lt, nat_le, if◌then◌else◌, Bool, false, List, [], ◌∷◌, length, map, slice_get, Option, None, Some, ℤ, pos, neg_ℤ, ◌+ℤ◌, ◌-ℤ◌, ◌*ℤ◌, int_le, int_lt, unsigned_abs}
use Rattle.std.specs.Int.{int_div_euclid}
use Rattle.std.specs.List.{fold}
use Rattle.dec_num.specs.declared.types.Scaled.{Scaled}
use Rattle.cob_tree.specs.declared.token.Num.{Num}
use Rattle.cob_program.specs.Act.{Program}
use Rattle.cob_program.specs.Values.{literal}
use Rattle.cob_runs.specs.declared.action.Cell.{Cell}
use Rattle.cob_graph.specs.Graphs.{cells_of}
use Rattle.interval_domain.specs.declared.bounds.Interval.{Interval}
use Rattle.cell_steps.specs.OwnRanges.{own_range}
use Rattle.analyse_core.specs.Literals.{program_literals}
use Rattle.analyse_core.specs.Rising.{inserted}

-- ---- a literal in a cell's units

-- n / d, cut downwards
abbrev pub floor : ℤ → ℤ → ℤ
floor n d = int_div_euclid n d

abbrev pub top : ℕ → Scaled → ℤ
top scale v = v.units *ℤ pos (10 ^ scale)

abbrev pub rounded_down : ℕ → Scaled → ℤ
rounded_down scale v = floor (top scale v) (pos (10 ^ v.scale))

abbrev pub rounded_up : ℕ → Scaled → ℤ
rounded_up scale v = neg_ℤ (floor (neg_ℤ (top scale v)) (pos (10 ^ v.scale)))

-- both numbers, and each of them minus and plus one
abbrev pub beside : ℤ → ℤ → List ℤ
beside down up =
    down ∷ up ∷ (down -ℤ pos 1) ∷ (down +ℤ pos 1) ∷ (up -ℤ pos 1) ∷ (up +ℤ pos 1) ∷ []

abbrev pub beside_number : ℕ → Scaled → List ℤ
beside_number scale v = beside (rounded_down scale v) (rounded_up scale v)

-- a source's literals have at most 18 digits
abbrev pub is_short : Num → Bool
is_short n = nat_le (length n.digits) 18 && nat_le n.scale 18

abbrev pub beside_literal : ℕ → Num → List ℤ
beside_literal scale n = if is_short n then beside_number scale (literal n) else []

-- ---- a cell's list

abbrev pub most : ℕ
most = 128

abbrev pub lies_in : Interval → ℤ → Bool
lies_in own z = int_le own.low z && int_le z own.high

-- how many stand before the first that isn't below z
abbrev pub rank_in : ℤ → List ℤ → ℕ
rank_in z [] = 0
rank_in z (t ∷ ts) = if int_lt t z then suc (rank_in z ts) else 0

abbrev pub is_at_most : ℤ → Option ℤ → Bool
is_at_most z None = false
is_at_most z (Some t) = int_le t z

-- whether a number stands at its rank
abbrev pub holds_at : List ℤ → ℕ → ℤ → Bool
holds_at ts k z = is_at_most z (slice_get ts k)

-- a number is taken if it lies in the range, until the most thresholds stand there
abbrev pub can_take : Interval → List ℤ → ℤ → Bool
can_take own ts z = lies_in own z && nat_lt (length ts) most

unfoldable pub noted : Interval → List ℤ → ℤ → List ℤ
noted own ts z = if can_take own ts z then inserted z ts else ts

abbrev pub all_noted : Interval → List ℤ → List ℤ → List ℤ
all_noted own ts zs = fold (noted own) ts zs

-- the ends of the own range, and 0
abbrev pub firsts : Interval → List ℤ
firsts own = own.low ∷ own.high ∷ pos 0 ∷ []

abbrev pub noted_beside : Interval → ℕ → List ℤ → Num → List ℤ
noted_beside own scale ts n = all_noted own ts (beside_literal scale n)

-- the thresholds of a range: the first so many within it, in this order and without repetitions, and then sorted
abbrev pub range_thresholds : List Num → Interval → ℕ → List ℤ
range_thresholds literals own scale = fold (noted_beside own scale) (all_noted own [] (firsts own)) literals

abbrev pub cell_thresholds : List Num → Cell → List ℤ
cell_thresholds literals c = range_thresholds literals (own_range c) c.scale

abbrev pub thresholds_for : List Num → List Cell → List (List ℤ)
thresholds_for literals cells = map (cell_thresholds literals) cells

-- a list for each cell of a program
abbrev pub thresholds_of : Program → List (List ℤ)
thresholds_of p = thresholds_for (program_literals p) (cells_of p)

-- ---- sizes

-- digits and decimals of at most 18 places
pub record IsSmallCell (c : Cell) : Type 0 where
  pub digits : c.digits ≤ 18
  pub decimals : c.scale ≤ 18

pub record IsSmallNumber (v : Scaled) : Type 0 where
  pub units : unsigned_abs v.units < 10 ^ 18
  pub decimals : v.scale ≤ 18
