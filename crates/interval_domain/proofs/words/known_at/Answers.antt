use Rattle.std.proofs.Common.{rules, ◌∙◌}
use Rattle.std.specs.Int.{w128}
use Rattle.std.proofs.lemmas.Int.{to_z-of_z}
use Rattle.interval_domain.proofs.Places.{cell_is}
use Rattle.interval_domain.proofs.words.known_at.Goals as goal

pub returns-clause-value : goal.returns-clause-value
returns-clause-value c =
    c.known_of.ensures
    ∙ cell_is c.args.row.now c.args.k c.place_of-place.result _ _ c.place_of-place.ensures.value
    (to_z-of_z w128 _ (search rules)) (to_z-of_z w128 _ (search rules)) c.requires.reached c.requires.k
