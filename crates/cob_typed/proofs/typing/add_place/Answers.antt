use Rattle.std.proofs.Common.{◌∙◌, ap, Some}
use Rattle.std.proofs.lemmas.Map.Text.{hash_map_updates_str}
use Rattle.cob_typed_exprs.specs.Search.{found_and}
use Rattle.cob_typed.proofs.ParaLemmas.{place_added}
use Rattle.cob_typed.proofs.typing.add_place.Goals as goal

pub returns : goal.returns
returns c = λ text.
    place_added c.args.places.now c.insert.new.self c.args.name.now text c.and-found.result c.args.place
    (hash_map_updates_str c.args.name.now c.args.places.now c.insert.new.self (Some c.and-found.result) c.in_ok-insert.ensures.updates text)
    (c.and-found.ensures ∙ ap (λ f. found_and f c.args.place) c.found_at.ensures)
