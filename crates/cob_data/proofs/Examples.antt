-- A table of three occurrences, worked out: 05 R OCCURS 3. 07 A PIC 9. 07 B PIC X. 05 C PIC X.
use Rattle.std.specs.Prelude.{◌≡◌, ℕ, true, false}
use Rattle.std.proofs.Common.{refl}
use Rattle.cob_data.specs.declared.extent.Extent.{Extent}
use Rattle.cob_data.specs.Extents.{start_of, share_extents}

abbrev extent : ℕ → ℕ → ℕ → ℕ → Extent
extent offset length times stride = record { offset = offset; length = length; times = times; stride = stride }

abbrev row : Extent
row = extent 0 2 3 2

abbrev number : Extent
number = extent 0 1 3 2

abbrev letter : Extent
letter = extent 1 1 3 2

abbrev behind : Extent
behind = extent 6 1 1 0

first_start : start_of letter 0 ≡ 1
first_start = refl

third_start : start_of letter 2 ≡ 5
third_start = refl

-- columns have no byte in common, and a row has those of each
columns_apart : share_extents number letter ≡ false
columns_apart = refl

rows_have_both : share_extents row letter ≡ true
rows_have_both = refl

table_ends : share_extents row behind ≡ false
table_ends = refl

-- a redefinition that lies over the second occurrence of one column alone
over_one : share_extents (extent 3 1 1 0) letter ≡ true
over_one = refl

beside_others : share_extents number (extent 3 1 1 0) ≡ false
beside_others = refl
