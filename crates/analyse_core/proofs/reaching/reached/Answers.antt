use Rattle.std.proofs.Common.{◌≡◌, length, ap, sym, ◌∙◌, subst, ◌<◌, arith}
use Rattle.std.proofs.lemmas.List.{length-map}
use Rattle.analyse_core.specs.Mentions.{lists_of}
use Rattle.analyse_core.specs.Reaching.{reached_through}
use Rattle.analyse_core.proofs.Marks.{wide, turned, same_width, ended_at}
use Rattle.analyse_core.proofs.reaching.reached.Goals as goal

pub next_marks-requires : goal.next_marks-requires
next_marks-requires c =
    let l = c.loop-round in
    let texts = lists_of c.args.texts.now in
    ap length c.as_slice.ensures.value ∙ ap length l.invariant ∙ wide texts c.args.own.now l.round ∙ length-map c.args.texts.now _

pub same_marks-requires : goal.same_marks-requires
same_marks-requires c =
    let l = c.loop-round in
    same_width (lists_of c.args.texts.now) c.args.own.now l.round _ _ l.invariant _ _ _ c.as_slice.ensures.value c.as_slice-in-loop-round.ensures.value
    c.as_slice-in-loop-round-2.ensures.value c.in_ok-next.ensures

pub returns-then-same_marks-clause-value : goal.returns-then-same_marks-clause-value
returns-then-same_marks-clause-value c =
    let l = c.loop-round in
    let texts = lists_of c.args.texts.now in
    ended_at texts c.args.own.now l.round _ _ l.invariant _ _ _ c.as_slice.ensures.value c.as_slice-in-loop-round.ensures.value
    c.as_slice-in-loop-round-2.ensures.value c.in_ok-next.ensures
    (subst (λ n. l.round < n) (sym (length-map c.args.texts.now _)) c.loop-round-test.true) (sym c.same_marks.ensures ∙ c.if-same_marks.true)

pub loop-round-preserved : goal.loop-round-preserved
loop-round-preserved c =
    let l = c.loop-round in
    turned (lists_of c.args.texts.now) c.args.own.now l.round _ _ l.invariant _ c.as_slice.ensures.value c.in_ok-next.ensures

pub returns-then-same_marks-clause-wide : goal.returns-then-same_marks-clause-wide
returns-then-same_marks-clause-wide c =
    let l = c.loop-round in
    ap length l.invariant ∙ wide (lists_of c.args.texts.now) c.args.own.now l.round ∙ length-map c.args.texts.now _

pub returns-clause-wide : goal.returns-clause-wide
returns-clause-wide c =
    let l = c.loop-round in
    ap length l.invariant ∙ wide (lists_of c.args.texts.now) c.args.own.now l.round ∙ length-map c.args.texts.now _

pub returns-clause-value : goal.returns-clause-value
returns-clause-value c =
    let texts = lists_of c.args.texts.now in
    let long : length texts ≡ length c.args.texts.now = length-map c.args.texts.now _ in
    let whole : c.loop-round.round ≡ length texts = omega (arith, long) in
    c.loop-round.invariant ∙ ap (reached_through texts c.args.own.now) whole
