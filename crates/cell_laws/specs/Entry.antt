-- What is known of cells where a run begins.
use Rattle.std.specs.Prelude.{◌≡◌, ℕ, zero, suc, List, if◌then◌else◌, Bool, map, replicate, Option, None, Some, ℤ, bytes_eq}
use Rattle.cob_data.specs.declared.layout.Layout.{Layout}
use Rattle.num_bytes.specs.Reading.{contents_value}
use Rattle.cob_program.specs.Act.{Program}
use Rattle.cob_program.specs.Values.{◌>>=◌}
use Rattle.cob_runs.specs.Contents.{area, form_at, times_at, occurrence_bytes}
use Rattle.cob_runs.specs.Runs.{with_values, first_storage}
use Rattle.interval_domain.specs.Corners.{interval}
use Rattle.interval_domain.specs.Known.{Known, joined_known}
use Rattle.cob_graph.specs.declared.homes.Home.{Home}
use Rattle.cob_graph.specs.declared.homes.Home.TheVariants.{Item as of_item, Count as of_count}
use Rattle.cob_graph.specs.Homes.{homes_of}

-- ---- bytes that VALUEs fill

-- storage with each VALUE over bytes that are all the same
abbrev pub values_over : Layout → ℕ → List ℕ
values_over l byte = with_values l l.items (replicate l.storage byte)

-- VALUEs fill all bytes of an occurrence, whatever items they stand with: over zeros and over ones it holds the same.
abbrev pub is_filled : Layout → ℕ → ℕ → Bool
is_filled l place n = bytes_eq (occurrence_bytes l (values_over l 0) place n) (occurrence_bytes l (values_over l 1) place n)

-- Bytes that are so are those of each first storage.
abbrev pub FilledBytesStand : Type 0
FilledBytesStand =
    (l : Layout) (first : List ℕ) (from many : ℕ) → area (values_over l 0) from many ≡ area (values_over l 1) from many →
    area (first_storage l first) from many ≡ area (values_over l 0) from many

-- ---- numbers that they are read as

-- the number of an occurrence where a run begins, if its bytes are filled and are a number
abbrev pub first_number : Layout → ℕ → ℕ → Option ℤ
first_number l place n =
    if is_filled l place n then contents_value (form_at l place) (occurrence_bytes l (values_over l 0) place n) else None

abbrev pub point : ℤ → Known
point z = Some (interval z z)

-- the least interval of the numbers of so many occurrences, if each has one
abbrev pub least_of : (ℕ → Option ℤ) → ℕ → Known
least_of number zero = None
least_of number (suc zero) = number 0 >>= point
least_of number (suc (suc n)) = joined_known (least_of number (suc n)) (number (suc n) >>= point)

-- ---- cells

-- A cell is known where each of its item's occurrences is. Every other cell is unknown.
abbrev pub entry_known : Layout → Home → Known
entry_known l (of_item place) = least_of (first_number l place) (times_at l place)
entry_known l (of_count statement) = None

abbrev pub entry_cells : Program → List Known
entry_cells p = map (entry_known p.layout) (homes_of p)
