use Rattle.std.proofs.Common.{◌≡◌, ◌+◌, ◌-◌, ◌∙◌, ap, refl, sym, map, min, rules}
use Rattle.std.specs.Option.{option_copied}
use Rattle.cob_program.specs.ActView.{plain_stmt, plain_body, plain_when, plain_turns, plain_stmts, plain_phrase, plain_whens}
use Rattle.cob_program.specs.Logic.{logics_of}
use Rattle.cob_program.specs.LogicView.{plain_logic, plain_logics}
use Rattle.cob_graph.specs.Laid.{tests_in, tests_among, list_size}
use Rattle.cob_graph.specs.Places as places
use Rattle.cob_graph.specs.Places.{first_of_list, first_of_paras, first_of_body, body_next}
use Rattle.cob_graph.specs.Nodes.{list_nodes}
use Rattle.cob_graph.specs.Limits.{most_told}
use Rattle.cob_graph_build.specs.Tables.{IsTable, lay_list, lay_phrase, lay_whens, lay_body, lay_paras, copy_in}
use Rattle.cob_graph_build.specs.Growing.{grown, plan, copies_of, copied_of}
use Rattle.cob_graph_build.proofs.Cuts.{whole}
use Rattle.cob_graph_build.proofs.Heads.{others, stmts_cut, whens_cut}
use Rattle.cob_graph_build.proofs.WhenLemmas.{when_is}
use Rattle.cob_graph_build.proofs.SizeLemmas.{rest_is_table}
use Rattle.cob_graph_build.proofs.ListLemmas.{copy_none, copy_some, enter_at, list_ok, arith_ok, test_ok, evaluate_ok, whens_ok, read_ok, perform_ok, nothing_copied, copy_ok, paras_on}
use Rattle.cob_graph_build.proofs.laying.Laying.+lists.Goals as goal

pub lay_list-returns-in_ok-lay_stmt-in-len1-up : goal.lay_list-returns-in_ok-lay_stmt-in-len1-up
lay_list-returns-in_ok-lay_stmt-in-len1-up t c =
    let w = c.args.within.now in
    let list = c.args.list.now in
    list_ok (copied_of w) (plan w) (copies_of w) c.lay_list.result c.args.self.now c.lay_stmt.new.self
    c.lay_list.new.self
    (plain_stmts list) (plain_stmt c.stmt-item.result) (plain_stmts (others list)) c.args.at
    c.in_ok-nodes-in-len1-up.nodes c.in_ok-behind-in-len1-up.behind c.first_of_list-to.result c.args.next
    c.lay_list.ensures (stmts_cut list c.stmt-item.result c.in-len1-up.len_at_least c.stmt-item.is)
    c.in_ok-nodes-in-len1-up.ensures c.in_ok-behind-in-len1-up.ensures
    (c.first_of_list-to.ensures (plan w) (copies_of w))
    c.in_ok-lay_stmt-in-len1-up.ensures

pub lay_arith-returns : goal.lay_arith-returns
lay_arith-returns t c =
    let w = c.args.within.now in
    let p = plan w in
    let k = copies_of w in
    arith_ok (copied_of w) p k c.lay_list.result c.args.self.now c.lay_sum.new.self c.lay_phrase.new.self
    c.lay_list.new.self c.args.number
    (lay_phrase p k (plain_phrase c.args.size.now)) (lay_list p k (plain_stmts c.args.fine.now))
    c.args.at c.in_ok-size_at.size_at c.in_ok-nodes.nodes c.in_ok-fine_at.fine_at c.first_of_list-to.result
    c.args.next
    c.lay_list.ensures c.in_ok-size_at.ensures c.in_ok-nodes.ensures c.in_ok-fine_at.ensures
    (c.first_of_list-to.ensures p k)
    c.in_ok-lay_sum.ensures c.in_ok-lay_phrase.ensures

pub lay_if-returns : goal.lay_if-returns
lay_if-returns t c =
    let w = c.args.within.now in
    let p = plan w in
    let k = copies_of w in
    let x = plain_logic c.args.test.now in
    test_ok (copied_of w) p k c.lay_list-2.result c.args.self.now c.lay_logic.new.self c.lay_list.new.self
    c.lay_list-2.new.self c.args.number
    x (lay_list p k (plain_stmts c.args.held.now)) (lay_list p k (plain_stmts c.args.other.now))
    c.args.at c.in_ok-tests.tests c.in_ok-held_at.held_at c.in_ok-nodes.nodes c.in_ok-other_at.other_at
    c.first_of_list-yes.result c.first_of_list-no.result c.args.next
    c.lay_list-2.ensures
    (whole most_told c.in_ok-tests.tests c.tests_in.result (tests_in x) c.in_ok-tests.ensures.told c.tests_in.ensures
    c.in_ok-tests.ensures.below)
    c.in_ok-held_at.ensures c.in_ok-nodes.ensures c.in_ok-other_at.ensures (c.first_of_list-yes.ensures p k)
    (c.first_of_list-no.ensures p k)
    c.in_ok-lay_logic.ensures c.in_ok-lay_list.ensures

pub lay_evaluate-returns : goal.lay_evaluate-returns
lay_evaluate-returns t c =
    let w = c.args.within.now in
    let p = plan w in
    let k = copies_of w in
    evaluate_ok (copied_of w) p k c.lay_list.result c.args.self.now c.lay_one.new.self c.lay_whens.new.self
    c.lay_list.new.self c.args.number
    (lay_whens p k (plain_whens c.args.whens.now)) (lay_list p k (plain_stmts c.args.other.now))
    c.args.at c.in_ok-whens_at.whens_at c.in_ok-nodes.nodes c.in_ok-other_at.other_at c.first_of_list-to_other.result
    c.in_ok-to.to c.args.next
    c.lay_list.ensures c.in_ok-whens_at.ensures c.in_ok-nodes.ensures c.in_ok-other_at.ensures
    (c.first_of_list-to_other.ensures p k)
    c.in_ok-to.ensures c.in_ok-lay_one.ensures c.in_ok-lay_whens.ensures

pub lay_whens-returns-in_ok-lay_list-in-len1-up : goal.lay_whens-returns-in_ok-lay_list-in-len1-up
lay_whens-returns-in_ok-lay_list-in-len1-up t c =
    let w = c.args.within.now in
    let p = plan w in
    let k = copies_of w in
    let whens = c.args.whens.now in
    let tests = c.get-in-len1-up.result.now in
    let list = c.deref.result.now in
    let n = c.in_ok-tests-in-len1-up in
    let list_at = c.in_ok-list_at-in-len1-up.list_at in
    whens_ok (copied_of w) p k c.lay_whens.result c.args.self.now c.lay_some.new.self c.lay_list.new.self
    c.lay_whens.new.self
    (plain_whens whens) (plain_whens (others whens)) (plain_when c.when-item.result) (map plain_logic tests)
    (plain_stmts list)
    c.args.number c.args.k c.args.at n.tests c.in_ok-nodes-in-len1-up.nodes c.in_ok-more-in-len1-up.more list_at
    c.in_ok-rest_at-in-len1-up.rest_at
    c.first_of_list-yes.result c.in_ok-no-in-len1-up.no c.args.other c.args.next
    c.lay_whens.ensures (whens_cut whens c.when-item.result c.in-len1-up.len_at_least c.when-item.is)
    (when_is c.when-item.result tests list c.get-in-len1-up.ensures c.deref.ensures.value)
    (whole most_told n.tests c.tests_among.result (tests_among (logics_of (map plain_logic tests))) n.ensures.told
    (c.tests_among.ensures ∙ ap (λ ts. min (tests_among (plain_logics ts)) most_told)
    (c.get.ensures ∙ sym c.get-in-len1-up.ensures)) n.ensures.below)
    c.in_ok-list_at-in-len1-up.ensures c.in_ok-nodes-in-len1-up.ensures c.in_ok-rest_at-in-len1-up.ensures
    c.in_ok-more-in-len1-up.ensures
    (c.first_of_list-yes.ensures p k
    ∙ ap (λ xs. first_of_list (lay_list p k (plain_stmts xs)) list_at c.args.next)
    (c.deref-in-len1-up.ensures.value ∙ sym c.deref.ensures.value))
    c.in_ok-no-in-len1-up.ensures c.in_ok-lay_some-in-len1-up.ensures
    (c.in_ok-lay_list-in-len1-up.ensures
    ∙ ap (λ xs. grown c.lay_some.new.self
    (list_nodes (copied_of w) (lay_list p k (plain_stmts xs)) list_at c.args.next))
    (c.deref-in-len1-up-2.ensures.value ∙ sym c.deref.ensures.value))

pub lay_read-returns : goal.lay_read-returns
lay_read-returns t c =
    let w = c.args.within.now in
    let p = plan w in
    let k = copies_of w in
    read_ok (copied_of w) p k c.lay_list.result c.args.self.now c.lay_take.new.self c.lay_phrase.new.self
    c.lay_list.new.self c.args.number c.args.file c.args.into
    (lay_phrase p k (plain_phrase c.args.end.now)) (lay_list p k (plain_stmts c.args.fine.now))
    c.args.at c.in_ok-behind.behind c.one_if.result c.in_ok-end_at.end_at c.in_ok-nodes.nodes c.in_ok-fine_at.fine_at
    c.end_to-to_end.result c.first_of_list-to_fine.result c.args.next
    c.lay_list.ensures c.in_ok-behind.ensures c.one_if.ensures c.in_ok-end_at.ensures c.in_ok-nodes.ensures
    c.in_ok-fine_at.ensures
    c.end_to-to_end.ensures (c.first_of_list-to_fine.ensures p k) c.in_ok-lay_take.ensures c.in_ok-lay_phrase.ensures

pub lay_perform-returns : goal.lay_perform-returns
lay_perform-returns t c =
    let w = c.args.within.now in
    let p = plan w in
    let k = copies_of w in
    let body = lay_body p k (plain_body c.args.body.now) in
    let turns = plain_turns c.args.turns.now in
    let begin = c.in_ok-begin.begin in
    let behind = c.in_ok-behind.behind in
    let at_ = places.body_at turns c.args.at in
    let on = body_next turns c.args.at body c.args.next in
    let behind_is : behind ≡ on = c.in_ok-behind.ensures body c.in_ok-size.ensures in
    let enter_is : c.first_of_body-enter.result ≡ first_of_body body at_ on =
    enter_at body c.first_of_body-enter.result begin behind at_ on c.first_of_body-enter.ensures c.in_ok-begin.ensures
    behind_is in
    perform_ok (copied_of w) p k c.lay_behind.result c.args.self.now c.lay_before.new.self c.lay_body.new.self
    c.lay_behind.new.self c.args.number
    turns body c.args.at begin behind c.args.next
    (c.lay_behind.ensures body c.in_ok-size.ensures enter_is) c.in_ok-begin.ensures behind_is
    (c.in_ok-lay_before.ensures body enter_is) c.in_ok-lay_body.ensures

pub lay_copy-invariant_of-inner : goal.lay_copy-invariant_of-inner
lay_copy-invariant_of-inner t c =
    let w = c.args.within.now in
    let known : IsTable (plan w) w.table.now = search rules in
    record {
      known = rest_is_table (plan w) w.table.now c.in-Some.table.now c.args.first c.args.last known
          (sym c.rest_in.ensures ∙ ap option_copied c.in-Some.is);
    }

pub lay_copy-returns-in-None : goal.lay_copy-returns-in-None
lay_copy-returns-in-None t c =
    let w = c.args.within.now in
    nothing_copied (copied_of w) (plan w) (copies_of w) c.args.self.now c.args.number c.args.first c.args.at c.args.next
    (copies_of w c.args.first c.args.last)
    (copy_none (plan w) w.table.now c.args.first c.args.last
    (sym (ap option_copied c.in-None.is) ∙ c.rest_in.ensures))

pub lay_copy-returns-in_ok-sites-in-Some : goal.lay_copy-returns-in_ok-sites-in-Some
lay_copy-returns-in_ok-sites-in-Some t c =
    let end = c.args.last + 1 in
    let w = c.args.within.now in
    let p = plan w in
    let rest = c.in-Some.table.now in
    copy_ok (copied_of w) p (copies_of w) c.lay_paras.result c.args.self.now c.lay_paras.new.self c.args.number
    (copies_of w c.args.first c.args.last)
    (lay_paras p (copy_in p rest) c.args.first (end - c.args.first)) c.as_slice.result.now
    c.args.first c.args.at c.args.next
    c.lay_paras.ensures (c.as_slice.ensures.value ∙ c.in_ok-sites-in-Some.ensures)
    (copy_some p w.table.now rest c.args.first c.args.last end
    (sym (ap option_copied c.in-Some.is) ∙ c.rest_in.ensures) refl)

pub lay_paras-loop-place-preserved : goal.lay_paras-loop-place-preserved
lay_paras-loop-place-preserved t c =
    let w = c.args.within.now in
    let p = plan w in
    let k = copies_of w in
    let l = c.loop-place in
    let to =
    first_of_paras (lay_paras p k (l.place + 1) (w.end - (l.place + 1))) c.in_ok-behind.behind w.next in
    paras_on (copied_of w) p k l.self c.lay_list.new.self l.place w.end l.at c.in_ok-nodes.nodes c.in_ok-behind.behind
    to w.next c.loop-place-test.true
    (c.in_ok-nodes.ensures ∙ ap (λ ss. list_size (lay_list p k ss)) c.body_at-list.ensures) c.in_ok-behind.ensures
    refl
    (c.in_ok-lay_list.ensures ∙ ap (grown l.self) (c.node_behind-to.ensures (copied_of w) k l.at)
    ∙ ap (λ ss. grown l.self (list_nodes (copied_of w) (lay_list p k ss) l.at to)) c.body_at-list.ensures)
    ∙ l.invariant
