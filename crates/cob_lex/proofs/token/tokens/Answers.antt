use Rattle.std.proofs.Common.{◌≡◌, ◌<◌, length, arith}
use Rattle.std.proofs.lemmas.Bool.Decides.{nat_tests}
use Rattle.cob_lex.proofs.TokenLemmas.{tokens_step, tokens_end}
use Rattle.cob_lex.proofs.KnownLemmas.{head_known, rest_known}
use Rattle.cob_lex.proofs.token.tokens.Goals as goal

pub token_of-requires : goal.token_of-requires
token_of-requires c =
    let some : 0 < length c.loop-rest.rest.now = grind (arith, nat_tests) in
    head_known c.args.text.now c.loop-rest.rest.now c.head.result some c.head.ensures c.loop-rest.invariant.1

pub loop-rest-preserved : goal.loop-rest-preserved
loop-rest-preserved c =
    let some : 0 < length c.loop-rest.rest.now = grind (arith, nat_tests) in (
      tokens_step c.args.text.now c.loop-rest.tokens.items _ _ c.loop-rest.rest.now _ c.head.result _ some c.head.ensures c.behind-rest.ensures.value c.in_ok-token.ensures c.in_ok-push_token.ensures c.loop-rest.invariant.0,
      rest_known c.args.text.now c.loop-rest.rest.now _ c.behind-rest.ensures.value c.loop-rest.invariant.1,
    )

pub returns : goal.returns
returns c =
    let none : length c.loop-rest.rest.now ≡ 0 = grind (arith, nat_tests) in
    tokens_end c.args.text.now c.loop-rest.tokens.items _ c.loop-rest.rest.now none c.loop-rest.invariant.0
