use Rattle.cob_data.proofs.LineLemmas.{first_line_is}
use Rattle.cob_data.proofs.rules.Known.first_line.Goals as goal

pub returns : goal.returns
returns c = first_line_is c.args.self.now c.args.rule _ _ _ _ _ _ _ _ _ c.item_line-items.ensures c.condition_line.ensures c.select_line.ensures c.fd_line.ensures c.end_line.ensures c.lesser-data.ensures c.lesser-selects.ensures c.lesser-files.ensures c.lesser.ensures
