use Rattle.cob_step.proofs.run.Run.do_front.Goals as goal

pub returns-in-Augmenting-clause-done : goal.returns-in-Augmenting-clause-done
returns-in-Augmenting-clause-done c = rw c.in-Augmenting.is (c.augment_loop.ensures.done c.args.choice.now)
