-- What is known of a pack's cells, put into the words of its matrix.
use Rattle.std.specs.Prelude.{◌≡◌, ◌≢◌, ℕ, zero, suc, ◌+◌, ◌<◌, ◌≤◌, List, length, map, slice_get, slice_index_or, ℤ, pos, ◌*ℤ◌, ◌≤ℤ◌, ◌⊎◌, unsigned_abs, Option, Some, None, IfSome}
use Rattle.cob_data.specs.declared.layout.Layout.{Layout}
use Rattle.interval_domain.specs.declared.bounds.Interval.{Interval}
use Rattle.diff_bounds.specs.Matrix.{word}
use Rattle.diff_bounds.specs.Closed.{closed}
use Rattle.interval_domain.specs.Known.{Known}
use Rattle.cob_graph.specs.declared.homes.Home.{Home}
use Rattle.cell_steps.specs.Storages.{known_of}
use Rattle.diff_steps.specs.Packs.{Pack, unit_of}
use Rattle.diff_steps.specs.Matrices.{with_words, high_word, low_word}
use Rattle.diff_layer.specs.declared.pack.matrix_closing.KnownCell.{KnownCell}
use Rattle.diff_layer.specs.PackEnds.{IsNumber}

abbrev pub cell : Known → ℕ → KnownCell
cell known unit = record { known = known; unit = pos unit }

-- what a row says of each cell of a pack
abbrev pub known_cells : Layout → List Home → List Known → Pack → List KnownCell
known_cells l homes known pack = map (λ h. cell (known_of homes known h) (unit_of l pack h)) pack

-- ---- words

abbrev pub cell_high : KnownCell → ℤ → ℤ
cell_high c x = high_word (unsigned_abs c.unit) c.known x

abbrev pub cell_low : KnownCell → ℤ → ℤ
cell_low c x = low_word (unsigned_abs c.unit) c.known x

abbrev pub put_high : Option KnownCell → ℤ → ℤ
put_high None x = x
put_high (Some c) x = cell_high c x

abbrev pub put_low : Option KnownCell → ℤ → ℤ
put_low None x = x
put_low (Some c) x = cell_low c x

-- the words of the first column are lowered by the high ends of the cells, and those of the first row by the low ends
abbrev pub put_cells : List KnownCell → (ℕ → ℕ → ℤ) → ℕ → ℕ → ℤ
put_cells cells w zero zero = w zero zero
put_cells cells w zero (suc k) = put_low (slice_get cells k) (w zero (suc k))
put_cells cells w (suc k) zero = put_high (slice_get cells k) (w (suc k) zero)
put_cells cells w (suc j) (suc k) = w (suc j) (suc k)

-- the matrix with these words closed; nothing where a cycle is negative
abbrev pub closed_with : ℕ → List KnownCell → List ℤ → Option (List ℤ)
closed_with size cells m = closed size (with_words size (put_cells cells (word (size + 1) m)))

-- the words of one cell alone
pub record IsPutAt (size place : ℕ) (c : KnownCell) (w u : ℕ → ℕ → ℤ) : Type 0 where
  pub high : u place 0 ≡ cell_high c (w place 0)
  pub low : u 0 place ≡ cell_low c (w 0 place)
  pub others : (i j : ℕ) → i ≤ size → j ≤ size → (i ≢ place) ⊎ (j ≢ 0) → (i ≢ 0) ⊎ (j ≢ place) → u i j ≡ w i j

-- ---- sizes

-- the ends of an interval in so many units are numbers that a word can be
pub record AreEnds (unit : ℤ) (i : Interval) : Type 0 where
  pub low : IsNumber (i.low *ℤ unit)
  pub high : IsNumber (i.high *ℤ unit)

pub record HasEnds (c : KnownCell) : Type 0 where
  pub unit : pos 1 ≤ℤ c.unit
  pub ends : IfSome c.known (AreEnds c.unit)

pub record HaveEnds (cells : List KnownCell) : Type 0 where
  pub each : (k : ℕ) (c : KnownCell) → k < length cells → HasEnds (slice_index_or cells k c)
