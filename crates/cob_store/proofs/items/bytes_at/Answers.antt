use Rattle.std.proofs.Common.{ap, length, subst, sym, Option}
use Rattle.std.specs.Option.{option_map_or}
use Rattle.cob_tree.specs.declared.form.Form.TheVariants.{Group}
use Rattle.cob_data.specs.declared.layout.Item.{Item}
use Rattle.cob_store.specs.WellFormed.{IsWellFormedForm}
use Rattle.cob_store.proofs.Parts.{first_formed}
use Rattle.cob_store.proofs.items.bytes_at.Goals as goal

pub returns-in-Some-clause-form : goal.returns-in-Some-clause-form
returns-in-Some-clause-form c =
    let item = c.in-Some.item.now in
    let formed = first_formed c.args.layout.now item c.args.storage.now c.in-Some.ensures.sound c.requires.whole in
    let form = ap (λ (o : Option Item). option_map_or (λ i. i.form) o Group) c.in-Some.ensures.value in
    subst (λ f. IsWellFormedForm f (length c.area.result.now)) form
    (subst (λ bytes. IsWellFormedForm item.form (length bytes)) (sym c.area.ensures) formed)
