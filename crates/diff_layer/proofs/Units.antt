-- The decimals of cells' units.
use Rattle.std.proofs.Common.{◌≡◌, ◌∙◌, ap, refl}
use Rattle.cob_tree.specs.declared.form.Form.{Form}
use Rattle.cob_tree.specs.declared.form.Form.TheVariants as form
use Rattle.cob_runs.specs.Contents.{scale_of}
use Rattle.transfer_ranges.specs.declared.amounts.Receiver.{Receiver}
use Rattle.transfer_ranges.specs.Receivers.{receiver_of}

receiver_decimals : (f : Form) → (receiver_of f).scale ≡ scale_of f
receiver_decimals form.Group = refl
receiver_decimals (form.Text n) = refl
receiver_decimals (form.Number digits scale signed kept) = refl
receiver_decimals (form.Edited picture digits scale) = refl

pub receiver_scale : (f : Form) (r : Receiver) → r ≡ receiver_of f → r.scale ≡ scale_of f
receiver_scale f r e = ap (λ (s : Receiver). s.scale) e ∙ receiver_decimals f
