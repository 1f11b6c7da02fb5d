-- Forms of items that are found.
use Rattle.std.proofs.Common.{◌≡◌, ℕ, Option, Some, ap, sym, ◌∙◌}
use Rattle.std.specs.Borrow.{Bor}
use Rattle.std.specs.Option.{option_copied, option_map_or}
use Rattle.cob_tree.specs.declared.form.Form.TheVariants as form
use Rattle.cob_data.specs.declared.layout.Item.{Item}
use Rattle.cob_data.specs.declared.layout.Layout.{Layout}
use Rattle.cob_runs.specs.Contents.{item_at, form_at}

pub form_found : (l : Layout) (place : ℕ) (r : Option (Bor Item)) (x : Bor Item) → option_copied r ≡ item_at l place →
    r ≡ Some x → x.now.form ≡ form_at l place
form_found l place r x found is =
    ap (λ o. option_map_or (λ (i : Item). i.form) o form.Group) (sym (ap option_copied is) ∙ found)
