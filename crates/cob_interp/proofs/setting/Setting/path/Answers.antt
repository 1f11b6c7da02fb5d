use Rattle.cob_interp.proofs.Declared.{no_path}
use Rattle.cob_interp.proofs.setting.Setting.path.Goals as goal

pub unreachable-requires : goal.unreachable-requires
unreachable-requires c =
    no_path c.args.self.now c.requires.ready.count c.args.place c.requires.declared c.in-None.ensures.lookup.3
