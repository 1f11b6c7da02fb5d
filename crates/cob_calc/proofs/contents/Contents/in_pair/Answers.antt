use Rattle.std.proofs.Common.{◌∙◌, refl, sym}
use Rattle.cob_calc.proofs.CompareLemmas.{in_one}
use Rattle.cob_calc.proofs.contents.Contents.in_pair.Goals as goal

pub returns-then-is_one_text : goal.returns-then-is_one_text
returns-then-is_one_text c =
    c.compare.ensures
    ∙ in_one c.args.self.now.layout c.args.self.now.storage c.args.side.now c.args.pair.now.low c.args.pair.now refl (sym (c.is_one_text.ensures c.if-is_one_text.true))
