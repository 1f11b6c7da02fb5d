use Rattle.std.proofs.Common.{refl, arith}
use Rattle.cob_parse_expr.proofs.LexemeSteps.{fails_first, fails_second}
use Rattle.cob_parse_proc.proofs.tree.before.Goals as goal

pub returns-in-Err-clause-gives : goal.returns-in-Err-clause-gives
returns-in-Err-clause-gives c = fails_first _ _ _ c.in-Err.ensures.gives

pub returns-in-Err-expect-clause-gives : goal.returns-in-Err-expect-clause-gives
returns-in-Err-expect-clause-gives c = fails_second _ _ _ _ c.in-Ok.ensures.gives (fails_first _ _ _ (fails_first _ _ _ (fails_first _ _ _ c.in-Err-expect.ensures.gives)))

pub returns-in-Err-expect-2-clause-gives : goal.returns-in-Err-expect-2-clause-gives
returns-in-Err-expect-2-clause-gives c = fails_second _ _ _ _ c.in-Ok.ensures.gives (fails_first _ _ _ (fails_first _ _ _ (fails_second _ _ _ _ c.in-Ok-expect.ensures.gives (fails_first _ _ _ (fails_first _ _ _ (fails_first _ _ _ c.in-Err-expect-2.ensures.gives))))))

pub returns-in-Err-stop-clause-gives : goal.returns-in-Err-stop-clause-gives
returns-in-Err-stop-clause-gives c = fails_second _ _ _ _ c.in-Ok.ensures.gives (fails_first _ _ _ (fails_first _ _ _ (fails_second _ _ _ _ c.in-Ok-expect.ensures.gives (fails_first _ _ _ (fails_first _ _ _ (fails_second _ _ _ _ c.in-Ok-expect-2.ensures.gives (fails_first _ _ _ c.in-Err-stop.ensures.gives)))))))

pub returns-clause-gives : goal.returns-clause-gives
returns-clause-gives c = rw (c.in-Ok.ensures.gives, c.in-Ok-expect.ensures.gives, c.in-Ok-expect-2.ensures.gives, c.in-Ok-stop.ensures.gives) refl

pub returns-clause-rest : goal.returns-clause-rest
returns-clause-rest c = omega (arith, c.in-Ok.ensures.rest, c.in-Ok-expect.ensures.rest, c.in-Ok-expect-2.ensures.rest, c.in-Ok-stop.ensures.rest)
