-- The file of a record: the first whose records have it.
use Rattle.std.proofs.Common.{ℕ, ◌+◌, ◌≡◌, ◌<◌, ◌==◌, true, false, List, length, drop, get_or, sym, ap, ◌∙◌, if◌then◌else◌, Option, Some}
use Rattle.std.specs.Option.{option_map_or}
use Rattle.std.specs.List.{list_any}
use Rattle.cob_data.specs.declared.layout.Layout.{Layout}
use Rattle.cob_data.specs.declared.layout.FileDecl.{FileDecl}
use Rattle.cob_runs.specs.Acts.{file_from}
use Rattle.cob_program.proofs.Loops.{item_step}

abbrev or_zero : Option ℕ → ℕ
or_zero o = option_map_or (λ f. f) o 0

module _ (l : Layout) (fs : List FileDecl) (i place record_place : ℕ) (f : FileDecl)
    (within : i < length fs) (is : f ≡ get_or fs i f) where
  abbrev later : Option ℕ
  later = file_from l (place + 1) (drop (i + 1) fs) record_place

  cut : file_from l place (drop i fs) record_place
      ≡ (if list_any (λ r. r == record_place) f.records then Some place else later)
  cut = ap (λ gs. file_from l place gs record_place) (item_step fs i f within is)

  pub file_here : (whole : ℕ) → list_any (λ r. r == record_place) f.records ≡ true →
      option_map_or (λ f. f) (file_from l place (drop i fs) record_place) 0 ≡ whole → place ≡ whole
  file_here whole yes_ same = sym (ap or_zero (cut ∙ ap (λ b. if b then Some place else later) yes_)) ∙ same

  pub file_later : (whole next : ℕ) → list_any (λ r. r == record_place) f.records ≡ false → next ≡ place + 1 →
      option_map_or (λ f. f) (file_from l place (drop i fs) record_place) 0 ≡ whole →
      option_map_or (λ f. f) (file_from l next (drop (i + 1) fs) record_place) 0 ≡ whole
  file_later whole next no_ is_next same =
      ap (λ n. or_zero (file_from l n (drop (i + 1) fs) record_place)) is_next
      ∙ sym (ap or_zero (cut ∙ ap (λ b. if b then Some place else later) no_)) ∙ same
