use Rattle.cob_step.proofs.Whens.{tests_can}
use Rattle.cob_step.proofs.selecting.when_holds.Goals as goal

pub some_holds-requires : goal.some_holds-requires
some_holds-requires c =
    record { can = tests_can c.args.world.now.program.layout c.args.when.now c.get.result.now c.get.ensures c.requires.able }
