use Rattle.cob_data.proofs.NameLemmas.{select_match_is, externals_is}
use Rattle.cob_data.proofs.rules.Known.select_breaks.Goals as goal

pub returns-in-L8 : goal.returns-in-L8
returns-in-L8 c = rw c.in-L8.is (select_match_is c.args.names.now c.args.self.now c.args.place c.breaks_select_match.result c.requires.named c.requires.within c.breaks_select_match.ensures)

pub returns-in-L10 : goal.returns-in-L10
returns-in-L10 c = rw c.in-L10.is (externals_is c.args.names.now c.args.self.now c.args.place c.breaks_externals.result c.requires.named c.requires.within c.breaks_externals.ensures)
