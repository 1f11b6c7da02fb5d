use Rattle.std.proofs.Common.{◌≡◌, take, map}
use Rattle.cob_typed_exprs.specs.Paras.{HasParas}
use Rattle.cob_typed.proofs.typing.places_of.Given as goal

abbrev pub invariant-loop-paragraph : goal.invariant-loop-paragraph
invariant-loop-paragraph l = record {
  place : l.place ≡ l.paragraph-index;
  has : HasParas l.places (map (λ p. p.name) (take l.paragraph-index l.paragraphs));
}
