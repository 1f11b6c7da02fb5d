use Rattle.std.proofs.Common.{◌+◌, ap, ◌∙◌}
use Rattle.cob_program.specs.ActView.{plain_when, plain_whens, plain_stmts}
use Rattle.cob_graph.specs.Laid.{tests_among}
use Rattle.cob_graph_build.specs.Growing.{plan, copies_of}
use Rattle.cob_graph_build.specs.Ways.{way_of_any}
use Rattle.cob_graph_build.proofs.Heads.{others, whens_cut}
use Rattle.cob_graph_build.proofs.WhenLemmas.{at_test, at_body, at_rest}
use Rattle.cob_graph_build.proofs.within.Within.+first_of_whens.Goals as goal

pub returns-in-At : goal.returns-in-At
returns-in-At t c =
    let a = c.args in
    let whens = a.whens.now in
    at_test (plan a.self.now) (copies_of a.self.now) (plain_whens whens) (plain_whens (others whens)) (plain_when c.when-item.result)
    a.at a.other a.next c.in_ok-first-in-len1-up.field-0
    (whens_cut whens c.when-item.result c.in-len1-up.len_at_least c.when-item.is)
    (c.in_ok-first-in-len1-up.ensures ∙ ap (λ ts. way_of_any ts a.at) c.tests_of-tests.ensures)
    c.in-At.first c.in-At.is

pub returns-in_ok-list_at-in-Held : goal.returns-in_ok-list_at-in-Held
returns-in_ok-list_at-in-Held t c =
    let a = c.args in
    let whens = a.whens.now in
    let p = plan a.self.now in
    let k = copies_of a.self.now in
    at_body p k (plain_whens whens) (plain_whens (others whens)) (plain_when c.when-item.result)
    a.at a.other a.next c.in_ok-first-in-len1-up.field-0
    (whens_cut whens c.when-item.result c.in-len1-up.len_at_least c.when-item.is)
    (c.in_ok-first-in-len1-up.ensures ∙ ap (λ ts. way_of_any ts a.at) c.tests_of-tests.ensures)
    c.in_ok-list_at-in-Held.list_at c.first_of_list.result (plain_stmts c.body_of.result.now) c.in-Held.is
    (c.in_ok-list_at-in-Held.ensures ∙ ap (λ ts. a.at + tests_among ts) c.tests_of-tests.ensures)
    c.body_of.ensures (c.first_of_list.ensures p k)

pub returns-in_ok-rest_at-in-Failed : goal.returns-in_ok-rest_at-in-Failed
returns-in_ok-rest_at-in-Failed t c =
    let a = c.args in
    let whens = a.whens.now in
    at_rest (plan a.self.now) (copies_of a.self.now) (plain_whens whens) (plain_whens (others whens)) (plain_when c.when-item.result)
    a.at a.other a.next c.in_ok-first-in-len1-up.field-0
    (whens_cut whens c.when-item.result c.in-len1-up.len_at_least c.when-item.is)
    (c.in_ok-first-in-len1-up.ensures ∙ ap (λ ts. way_of_any ts a.at) c.tests_of-tests.ensures)
    c.first_of_whens.result c.in_ok-list_at-in-Failed.list_at c.in_ok-list_nodes-in-Failed.field-0 c.in_ok-rest_at-in-Failed.rest_at
    (plain_stmts c.body_of-in-Failed.result.now) c.in-Failed.is
    (c.in_ok-list_at-in-Failed.ensures ∙ ap (λ ts. a.at + tests_among ts) c.tests_of-tests.ensures)
    c.body_of-in-Failed.ensures c.in_ok-list_nodes-in-Failed.ensures c.in_ok-rest_at-in-Failed.ensures c.first_of_whens.ensures
