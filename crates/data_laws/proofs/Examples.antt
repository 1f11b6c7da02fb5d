-- A record that begins with values, worked out, and why the laws ask what they ask.
use Rattle.std.specs.Prelude.{◌≡◌, ℕ, false, List, [], ◌∷◌, replicate, Option, Some, None, negsuc, pos}
use Rattle.std.proofs.Common.{refl}
use Rattle.cob_tree.specs.declared.form.Form.{Form}
use Rattle.cob_tree.specs.declared.form.Form.TheVariants as form
use Rattle.cob_tree.specs.declared.form.Usage.TheVariants as usage
use Rattle.cob_data.specs.declared.layout.Item.{Item}
use Rattle.cob_data.specs.declared.layout.Layout.{Layout}
use Rattle.cob_data.specs.declared.layout.Sender.{Sender}
use Rattle.cob_data.specs.declared.layout.Sender.TheVariants as sender
use Rattle.num_bytes.specs.Reading.{contents_value}
use Rattle.cob_runs.specs.Contents.{number_at, occurrence_filled, occurrence_number, scaled_by}
use Rattle.cob_runs.specs.Runs.{first_storage}

abbrev item_in : ℕ → ℕ → ℕ → ℕ → Form → Option Sender → Item
item_in times stride offset length f value =
    record { name = None; offset = offset; length = length; times = times; stride = stride; form = f; parent = None; line = 5; value = value }

abbrev item_of : ℕ → ℕ → Form → Option Sender → Item
item_of offset length f value = item_in 1 0 offset length f value

abbrev five : Sender
five = sender.Number (record { sign = 0; digits = 53 ∷ []; scale = 0 })

abbrev layout_of : ℕ → List Item → Layout
layout_of storage items = record { items = items; flags = []; files = []; storage = storage }

-- 01 G. 05 A PIC 9(3)V9 VALUE 5. 05 B PIC X. 05 C PIC X VALUE QUOTE.
abbrev apart : Layout
apart = layout_of 6 (
    item_of 0 6 form.Group None
    ∷ item_of 0 4 (form.Number 4 1 false usage.Display) (Some five)
    ∷ item_of 4 1 (form.Text 1) None
    ∷ item_of 5 1 (form.Text 1) (Some (sender.Fill 34))
    ∷ [])

-- what stood in B stays
first_bytes : first_storage apart (replicate 9 65) ≡ 48 ∷ 48 ∷ 53 ∷ 48 ∷ 65 ∷ 34 ∷ []
first_bytes = refl

first_number : number_at apart (first_storage apart (replicate 9 65)) 1 ≡ Some (scaled_by 1 (pos 50))
first_number = refl

-- where two items with a value share a byte, the first of them doesn't begin with its own
abbrev meeting : Layout
meeting = layout_of 6 (
    item_of 0 3 (form.Number 3 0 false usage.Display) (Some five)
    ∷ item_of 2 3 (form.Number 3 0 false usage.Display) (Some five)
    ∷ [])

overwritten : number_at meeting (first_storage meeting []) 0 ≡ Some (scaled_by 0 (pos 0))
overwritten = refl

-- ---- 01 G. 05 R OCCURS 3. 07 A PIC 9 VALUE 5. 07 B PIC X. 05 C PIC X VALUE QUOTE.

abbrev row : Item
row = item_in 3 2 0 2 form.Group None

abbrev number : Item
number = item_in 3 2 0 1 (form.Number 1 0 false usage.Display) (Some five)

abbrev letter : Item
letter = item_in 3 2 1 1 (form.Text 1) None

abbrev table : Layout
table = layout_of 7 (item_of 0 7 form.Group None ∷ row ∷ number ∷ letter ∷ item_of 6 1 (form.Text 1) (Some (sender.Fill 34)) ∷ [])

-- the value stands in each occurrence
table_bytes : first_storage table (replicate 9 65) ≡ 53 ∷ 65 ∷ 53 ∷ 65 ∷ 53 ∷ 65 ∷ 34 ∷ []
table_bytes = refl

third_number : occurrence_number table (first_storage table []) 2 2 ≡ Some (scaled_by 0 (pos 5))
third_number = refl

-- what is written into one leaves the others
second_filled : occurrence_filled table (48 ∷ 49 ∷ 50 ∷ 51 ∷ 52 ∷ 53 ∷ 54 ∷ []) 2 1 (57 ∷ []) ≡ 48 ∷ 49 ∷ 57 ∷ 51 ∷ 52 ∷ 53 ∷ 54 ∷ []
second_filled = refl

-- ---- signs

-- a separate sign is read whether or not the picture has one
below_zero : contents_value (form.Number 1 0 false usage.Leading) (45 ∷ 53 ∷ []) ≡ Some (negsuc 4)
below_zero = refl
