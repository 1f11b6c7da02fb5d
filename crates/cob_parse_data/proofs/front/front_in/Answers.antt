use Rattle.std.proofs.Common.{refl, arith}
use Rattle.cob_parse_expr.proofs.LexemeSteps.{fails_first, fails_second}
use Rattle.cob_parse_data.proofs.front.front_in.Goals as goal

pub returns-in-Err-clause-gives : goal.returns-in-Err-clause-gives
returns-in-Err-clause-gives c = fails_first _ _ _ (fails_first _ _ _ c.in-Err.ensures.gives)

pub returns-in-Err-title-clause-gives : goal.returns-in-Err-title-clause-gives
returns-in-Err-title-clause-gives c = fails_first _ _ _ (fails_second _ _ _ _ c.in-Ok.ensures.gives (fails_first _ _ _ (fails_first _ _ _ (fails_first _ _ _ c.in-Err-title.ensures.gives))))

pub returns-in-Err-named-clause-gives : goal.returns-in-Err-named-clause-gives
returns-in-Err-named-clause-gives c = fails_first _ _ _ (fails_second _ _ _ _ c.in-Ok.ensures.gives (fails_first _ _ _ (fails_first _ _ _ (fails_second _ _ _ _ c.in-Ok-title.ensures.gives (fails_first _ _ _ (fails_first _ _ _ (fails_first _ _ _ c.in-Err-named.ensures.gives)))))))

pub returns-in-Err-env_part-clause-gives : goal.returns-in-Err-env_part-clause-gives
returns-in-Err-env_part-clause-gives c = fails_first _ _ _ (fails_second _ _ _ _ c.in-Ok.ensures.gives (fails_first _ _ _ (fails_first _ _ _ (fails_second _ _ _ _ c.in-Ok-title.ensures.gives (fails_first _ _ _ (fails_first _ _ _ (fails_second _ _ _ _ c.in-Ok-named.ensures.gives (fails_first _ _ _ (fails_first _ _ _ c.in-Err-env_part.ensures.gives)))))))))

pub returns-in-Err-data_part-clause-gives : goal.returns-in-Err-data_part-clause-gives
returns-in-Err-data_part-clause-gives c = fails_first _ _ _ (fails_second _ _ _ _ c.in-Ok.ensures.gives (fails_first _ _ _ (fails_first _ _ _ (fails_second _ _ _ _ c.in-Ok-title.ensures.gives (fails_first _ _ _ (fails_first _ _ _ (fails_second _ _ _ _ c.in-Ok-named.ensures.gives (fails_first _ _ _ (fails_second _ _ _ _ c.in-Ok-env_part.ensures.gives (fails_first _ _ _ c.in-Err-data_part.ensures.gives))))))))))

pub returns-clause-gives : goal.returns-clause-gives
returns-clause-gives c = rw (c.in-Ok.ensures.gives, c.in-Ok-title.ensures.gives, c.in-Ok-named.ensures.gives, c.in-Ok-env_part.ensures.gives, c.in-Ok-data_part.ensures.gives) refl

pub returns-clause-rest : goal.returns-clause-rest
returns-clause-rest c = omega (arith, c.in-Ok.ensures.rest, c.in-Ok-title.ensures.rest, c.in-Ok-named.ensures.rest, c.in-Ok-env_part.ensures.rest, c.in-Ok-data_part.ensures.rest)
