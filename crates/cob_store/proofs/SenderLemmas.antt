-- What sound layouts say of a sender.
use Rattle.std.proofs.Common.{◌≡◌, ℕ, ◌^◌, ◌-◌, ◌<◌, Bool, ap, zero, suc, List, [], ◌∷◌, Option, Some, None, arith, unsigned_abs}
use Rattle.std.specs.Prelude.{IfSome, slice_get}
use Rattle.std.specs.List.{All}
use Rattle.std.specs.Option.{option_map_or}
use Rattle.std.proofs.lemmas.List.Elements.{All-head, All-tail}
use Rattle.dec_num.proofs.Powers.{ten_monotone, ten_positive}
use Rattle.dec_num.specs.declared.types.Scaled.{Scaled}
use Rattle.cob_tree.specs.declared.form.Form.{Form}
use Rattle.cob_tree.specs.declared.form.Form.TheVariants.{Group, Text, Number, Edited}
use Rattle.cob_tree.specs.declared.form.Usage.{Usage}
use Rattle.cob_data.specs.declared.layout.Item.{Item}
use Rattle.cob_data.specs.declared.layout.Layout.{Layout}
use Rattle.cob_program.specs.Bounds.{IsWithin, IsSmall, form_bound}
use Rattle.cob_runs.specs.Contents.{item_at, form_at, length_at}
use Rattle.cob_store.specs.WellFormed.{HasWellFormedItems, IsWellFormedItem, IsWellFormedForm, IsShort}

pub found_at : {X : Type 0} (P : X → Type 0) (xs : List X) (place : ℕ) → All P xs → IfSome (slice_get xs place) P
found_at P [] place all = tt
found_at P (x ∷ xs) zero all = All-head P x xs all
found_at P (x ∷ xs) (suc place) all = found_at P xs place (All-tail P x xs all)

form_found : (l : Layout) (o : Option Item) → IfSome o (IsWellFormedItem l) →
    IsWellFormedForm (option_map_or (λ (i : Item). i.form) o Group) (option_map_or (λ (i : Item). i.length) o 0)
form_found l None sound = tt
form_found l (Some i) sound = sound.form

pub sound_at : (l : Layout) (place : ℕ) → HasWellFormedItems l → IsWellFormedForm (form_at l place) (length_at l place)
sound_at l place sound = form_found l (item_at l place) (found_at (IsWellFormedItem l) l.items place sound.items)

-- what 18 digits write is small
pub small_within : (f : Form) (bytes : ℕ) (v : Scaled) → IsWellFormedForm f bytes → IsShort f → IsWithin v (form_bound f) → IsSmall v
small_within Group bytes v sound short within = record { most = omega (arith, within.most); scale = omega (arith, within.scale) }
small_within (Text n) bytes v sound short within = record {
  most = omega (arith, within.most, ten_monotone n 37 (omega arith));
  scale = omega (arith, within.scale);
}
small_within (Number digits scale signed usage) bytes v sound short within = record {
  most = omega (arith, within.most, ten_monotone digits 37 (omega (arith, sound.number.at_most_18)));
  scale = omega (arith, within.scale, sound.decimals, sound.number.at_most_18);
}
small_within (Edited picture digits scale) bytes v sound short within = record {
  most = omega (arith, within.most, ten_monotone digits 37 (omega (arith, sound.at_most_18)));
  scale = omega (arith, within.scale, sound.decimals, sound.at_most_18);
}

pub all_small_within : (f : Form) (bytes : ℕ) (o : Option Scaled) → IsWellFormedForm f bytes → IsShort f →
    IfSome o (λ v. IsWithin v (form_bound f)) → IfSome o IsSmall
all_small_within f bytes None sound short within = tt
all_small_within f bytes (Some v) sound short within = small_within f bytes v sound short within

-- a numeric item's digits hold its number
pub held_within : (f : Form) (digits scale : ℕ) (signed : Bool) (usage : Usage) (v : Scaled) → f ≡ Number digits scale signed usage →
    IsWithin v (form_bound f) → unsigned_abs v.units < 10 ^ digits
held_within f digits scale signed usage v same within =
    let most : (form_bound f).most ≡ 10 ^ digits - 1 = ap (λ g. (form_bound g).most) same in
    omega (arith, within.most, most, ten_positive digits)
