-- What a row says of the cells of a pack are numbers that words of its matrix can be.
use Rattle.std.proofs.Common.{◌≡◌, ◌≤◌, ◌<◌, ◌*◌, ◌-◌, ◌^◌, ℕ, zero, suc, List, [], ◌∷◌, length, map, ℤ, pos, neg_ℤ, ◌*ℤ◌, ◌≤ℤ◌, Some, None, arith}
use Rattle.std.specs.Prelude.{max, slice_get, slice_index_or, IfSome}
use Rattle.std.specs.List.{AllByRecursion}
use Rattle.std.proofs.lemmas.Int.{ints}
use Rattle.dec_num.proofs.Powers.{ten_positive, ten_monotone}
use Rattle.interval_domain.proofs.IntervalEnds.{times_grows}
use Rattle.cob_data.specs.declared.layout.Layout.{Layout}
use Rattle.cob_program.specs.Act.{Program}
use Rattle.diff_bounds.specs.Matrix.{largest}
use Rattle.interval_domain.specs.Known.{Known, KnownFits}
use Rattle.interval_domain.specs.Elements.{CellsFit}
use Rattle.cob_graph.specs.declared.homes.Home.{Home}
use Rattle.cob_graph.specs.Homes.{homes_of}
use Rattle.cell_steps.specs.OwnRanges.{home_range, owns}
use Rattle.cell_steps.specs.Storages.{known_of}
use Rattle.cell_laws.proofs.CellLists.{known_fits}
use Rattle.cell_layer.proofs.Stepping.{held_at}
use Rattle.diff_steps.specs.Packs.{Pack, decimals_of, pack_decimals, unit_of}
use Rattle.diff_layer.specs.declared.pack.matrix_closing.KnownCell.{KnownCell}
use Rattle.diff_layer.specs.KnownCells.{cell, known_cells, AreEnds, HasEnds, HaveEnds}
use Rattle.diff_layer.specs.PackEnds.{IsNumber}
use Rattle.diff_layer.specs.Plans.{IsShortHome}

-- what a row says of a cell, in a unit of so many decimals
abbrev pub known_by : Program → List Known → ℕ → Home → KnownCell
known_by p known decimals h = cell (known_of (homes_of p) known h) (10 ^ (decimals - decimals_of p.layout h))

abbrev pub all_known : Program → List Known → ℕ → Pack → List KnownCell
all_known p known decimals pack = map (known_by p known decimals) pack

-- ---- numbers of at most 18 digits, in at most 10^18 units

product_small : (n : ℕ) → n ≤ 10 ^ 18 → 10 ^ 18 * n ≤ 10 ^ 37
product_small n h = omega (arith, h)

below_product : (z : ℤ) (n : ℕ) → z ≤ℤ pos (10 ^ 18) → n ≤ 10 ^ 18 → (z *ℤ pos n) ≤ℤ largest
below_product z n h few =
    let grown = times_grows z (pos (10 ^ 18)) n h in
    let small = product_small n few in
    omega (arith, ints, grown, small)

above_product : (z : ℤ) (n : ℕ) → neg_ℤ (pos (10 ^ 18)) ≤ℤ z → n ≤ 10 ^ 18 → neg_ℤ largest ≤ℤ (z *ℤ pos n)
above_product z n h few =
    let grown = times_grows (neg_ℤ (pos (10 ^ 18))) z n h in
    let small = product_small n few in
    omega (arith, ints, grown, small)

number_of : (z : ℤ) (n : ℕ) → neg_ℤ (pos (10 ^ 18)) ≤ℤ z → z ≤ℤ pos (10 ^ 18) → n ≤ 10 ^ 18 → IsNumber (z *ℤ pos n)
number_of z n low high few = record { low = above_product z n low few; high = below_product z n high few }

-- ---- cells

module _ (l : Layout) where
  ends_of : (own : Home) (known : Known) (n : ℕ) → IsShortHome l own → KnownFits (home_range l own) known → n ≤ 10 ^ 18 → IfSome known (AreEnds (pos n))
  ends_of own None n short fits few = tt
  ends_of own (Some i) n short fits few =
      let low : neg_ℤ (pos (10 ^ 18)) ≤ℤ i.low = let a = short.low in let b = fits.0 in omega (arith, ints, a, b) in
      let high : i.high ≤ℤ pos (10 ^ 18) = let a = short.high in let b = fits.2 in omega (arith, ints, a, b) in
      let order = fits.1 in
      record {
        low = number_of i.low n low (omega (arith, ints, high, order)) few;
        high = number_of i.high n (omega (arith, ints, low, order)) high few;
      }

  module _ (homes : List Home) (known : List Known) (fits : CellsFit (map (home_range l) homes) known) (decimals : ℕ) (few : decimals ≤ 18) where
    cell_ends : (h : Home) → IsShortHome l h → HasEnds (cell (known_of homes known h) (10 ^ (decimals - decimals_of l h)))
    cell_ends h short =
        let some = ten_positive (decimals - decimals_of l h) in
        record {
          unit = omega (arith, ints, some);
          ends = ends_of h (known_of homes known h) (10 ^ (decimals - decimals_of l h)) short (known_fits l homes known h fits) (ten_monotone (decimals - decimals_of l h) 18 (omega (arith, few)));
        }

    each_ends : (hs : List Home) → AllByRecursion (IsShortHome l) hs →
        AllByRecursion HasEnds (map (λ h. cell (known_of homes known h) (10 ^ (decimals - decimals_of l h))) hs)
    each_ends [] short = tt
    each_ends (h ∷ hs) short = (cell_ends h short.0, each_ends hs short.1)

have_ends : (cells : List KnownCell) → AllByRecursion HasEnds cells → HaveEnds cells
have_ends cells all = record { each = λ k c h. go cells all k c h }
  where
    go : (cells : List KnownCell) → AllByRecursion HasEnds cells → (k : ℕ) (c : KnownCell) → k < length cells → HasEnds (slice_index_or cells k c)
    go [] all k c h = absurd (omega (arith, h))
    go (d ∷ cells) all zero c h = all.0
    go (d ∷ cells) all (suc k) c h = go cells all.1 k c (omega (arith, h))

-- ---- the pack's decimals

max_most : (a b n : ℕ) → a ≤ n → b ≤ n → max a b ≤ n
max_most a b n h k = omega (arith, h, k)

pub few_decimals : (l : Layout) (pack : Pack) → AllByRecursion (IsShortHome l) pack → pack_decimals l pack ≤ 18
few_decimals l [] short = omega arith
few_decimals l (h ∷ hs) short = max_most (decimals_of l h) (pack_decimals l hs) 18 short.0.decimals (few_decimals l hs short.1)

pub known_cells_end : (p : Program) (known : List Known) (pack : Pack) → CellsFit (owns p) known → AllByRecursion (IsShortHome p.layout) pack →
    HaveEnds (known_cells p.layout (homes_of p) known pack)
known_cells_end p known pack fits short =
    have_ends (known_cells p.layout (homes_of p) known pack)
    (each_ends p.layout (homes_of p) known fits (pack_decimals p.layout pack) (few_decimals p.layout pack short) pack short)

-- the ends of a cell of a pack
pub cell_ends_at : (p : Program) (known : List Known) (pack : Pack) → CellsFit (owns p) known → AllByRecursion (IsShortHome p.layout) pack →
    (k : ℕ) (h : Home) → slice_get pack k ≡ Some h → HasEnds (cell (known_of (homes_of p) known h) (unit_of p.layout pack h))
cell_ends_at p known pack fits short k h at =
    cell_ends p.layout (homes_of p) known fits (pack_decimals p.layout pack) (few_decimals p.layout pack short) h (held_at (IsShortHome p.layout) pack k h short at)
