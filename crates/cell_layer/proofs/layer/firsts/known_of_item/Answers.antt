use Rattle.std.proofs.Common.{ap, sym, subst, ◌∙◌}
use Rattle.std.specs.Option.{option_copied}
use Rattle.cob_data.specs.Extents.{LiesWithin}
use Rattle.cob_data.specs.Occurrences.{extent_of}
use Rattle.cell_layer.proofs.FirstCells.{no_entry, item_entry, short_form}
use Rattle.cell_layer.proofs.layer.firsts.known_of_item.Goals as goal

pub returns-in-None : goal.returns-in-None
returns-in-None c =
    no_entry c.args.layout.now c.args.place (option_copied c.item_at.result) c.item_at.ensures.value (ap option_copied c.in-None.is)

pub returns-in-Some : goal.returns-in-Some
returns-in-Some c =
    let x = c.args in
    c.known_by_values.ensures
    ∙ item_entry x.layout.now x.zeros.now x.ones.now x.place (option_copied c.item_at.result) c.in-Some.item.now c.requires.over c.item_at.ensures.value
    (ap option_copied c.in-Some.is)

pub known_by_values-requires-clause-short : goal.known_by_values-requires-clause-short
known_by_values-requires-clause-short c =
    let x = c.args in
    short_form x.layout.now x.place (option_copied c.item_at.result) c.in-Some.item.now c.item_at.ensures.value (ap option_copied c.in-Some.is) c.requires.short

pub known_by_values-requires-clause-zeros : goal.known_by_values-requires-clause-zeros
known_by_values-requires-clause-zeros c =
    subst (LiesWithin (extent_of c.in-Some.item.now)) (sym c.requires.over.zeros_whole) c.in-Some.ensures.sound.within

pub known_by_values-requires-clause-ones : goal.known_by_values-requires-clause-ones
known_by_values-requires-clause-ones c =
    subst (LiesWithin (extent_of c.in-Some.item.now)) (sym c.requires.over.ones_whole) c.in-Some.ensures.sound.within
