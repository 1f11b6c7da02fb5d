use Rattle.std.proofs.Common.{length, ap, arith}
use Rattle.cob_program.specs.ActView.{plain_program}
use Rattle.diff_layer.proofs.Layers.{few_words_in}
use Rattle.diff_layer.proofs.layer.diff_layer.DiffLayer.lent.Goals as goal

pub overflow_add-result : goal.overflow_add-result
overflow_add-result g c =
    let s = c.args.self.now in
    let most = few_words_in (plain_program s.program.now) s.graph.now s.works s.held s.packs.now s.cells s.thresholds.now s.listed s.few in
    let cells = ap length c.get.ensures in
    record { fits = omega (arith, most, c.words.ensures, cells, s.words) }

pub returns-clause-few : goal.returns-clause-few
returns-clause-few g c =
    let s = c.args.self.now in
    let most = few_words_in (plain_program s.program.now) s.graph.now s.works s.held s.packs.now s.cells s.thresholds.now s.listed s.few in
    let cells = ap length c.get.ensures in
    omega (arith, most, c.words.ensures, cells, s.words)
