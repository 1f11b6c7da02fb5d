use Rattle.std.proofs.Common.{◌+◌, neg_ℤ, sym, ap, subst, ◌∙◌, rules}
use Rattle.std.specs.Prelude.{IfSome}
use Rattle.std.specs.Int.{w128}
use Rattle.std.proofs.lemmas.Int.{to_z-of_z}
use Rattle.diff_bounds.specs.Matrix.{word}
use Rattle.diff_layer.specs.PackEnds.{IsNumber}
use Rattle.diff_layer.specs.KnownCells.{AreEnds}
use Rattle.diff_layer.proofs.KnownWords.{same_product, put_at}
use Rattle.diff_layer.proofs.pack.matrix_closing.put_known.Goals as goal

pub returns-in-Some-clause-words : goal.returns-in-Some-clause-words
returns-in-Some-clause-words c =
    let n = c.args.size + 1 in
    put_at c.args.size c.args.place c.args.cell c.in-Some.known (word n c.args.m.now) (word n c.add_bound.new.m) (word n c.add_bound-in-Some.new.m) _ _
    c.requires.first c.requires.last c.in-Some.is c.requires.cell.unit
    (to_z-of_z w128 _ (search rules) ∙ c.in_units-high.ensures.value
    ∙ same_product _ _ c.in-Some.known.high c.args.cell.unit (to_z-of_z w128 _ (search rules)) (to_z-of_z w128 _ (search rules)))
    (to_z-of_z w128 _ (search rules) ∙ c.opposite-low.ensures.value
    ∙ ap neg_ℤ (to_z-of_z w128 _ (search rules) ∙ c.in_units.ensures.value
    ∙ same_product _ _ c.in-Some.known.low c.args.cell.unit (to_z-of_z w128 _ (search rules)) (to_z-of_z w128 _ (search rules))))
    c.add_bound.ensures.lowered c.add_bound.ensures.others c.add_bound-in-Some.ensures.lowered c.add_bound-in-Some.ensures.others

pub in_units-high-requires : goal.in_units-high-requires
in_units-high-requires c =
    let unit = c.args.cell.unit in
    let ends = subst (λ known. IfSome known (AreEnds unit)) c.in-Some.is c.requires.cell.ends in
    subst IsNumber (sym (same_product _ _ c.in-Some.known.high unit (to_z-of_z w128 _ (search rules)) (to_z-of_z w128 _ (search rules)))) ends.high

pub in_units-requires : goal.in_units-requires
in_units-requires c =
    let unit = c.args.cell.unit in
    let ends = subst (λ known. IfSome known (AreEnds unit)) c.in-Some.is c.requires.cell.ends in
    subst IsNumber (sym (same_product _ _ c.in-Some.known.low unit (to_z-of_z w128 _ (search rules)) (to_z-of_z w128 _ (search rules)))) ends.low
