-- Where an EVALUATE's WHENs begin.
use Rattle.std.specs.Prelude.{Result, IfOk}
use Rattle.std.proofs.Common.{ℕ, ◌+◌, ◌≡◌, List, map, sym, ap, subst, ◌∙◌}
use Rattle.cob_program.specs.declared.act.Stmt as declared_stmt
use Rattle.cob_program.specs.declared.act.When as declared_when
use Rattle.cob_program.specs.declared.act.Act.TheViews.{out-When}
use Rattle.cob_program.specs.declared.act.Act.TheFolds.{fold_out-When}
use Rattle.cob_program.specs.declared.logic.Logic as declared_logic
use Rattle.cob_program.specs.LogicView.{plain_logic, plain_logics}
use Rattle.cob_program.specs.ActView.{plain_when, plain_stmts}
use Rattle.cob_program.specs.Act.{Program, Stmts, When, MkWhen, Whens, more_whens}
use Rattle.cob_graph.specs.Laid.{LaidParas, tests_among, list_size}
use Rattle.cob_graph.specs.Places.{first_of_list, first_of_any, first_of_whens}
use Rattle.cob_graph_build.specs.declared.ways.Way.{Way}
use Rattle.cob_graph_build.specs.declared.ways.Way.TheVariants.{At, Held, Failed}
use Rattle.cob_graph_build.specs.Tables.{lay_list, lay_whens}
use Rattle.cob_graph_build.specs.Ways.{led, way_of_any, when_tests, when_body}
use Rattle.cob_graph_build.proofs.WayLemmas.{any_way}

when_view : (w : declared_when.When) → plain_when w ≡ MkWhen (map plain_logic (out-When w).tests)
    (plain_stmts (out-When w).body.items)
when_view w = fold_out-When _ _ _ _ _ _ _ _ w

-- a WHEN by its parts
pub when_is : (w : declared_when.When) (ts : List declared_logic.Logic) (xs : List declared_stmt.Stmt) →
    ts ≡ (out-When w).tests → xs ≡ (out-When w).body.items → plain_when w ≡ MkWhen (map plain_logic ts) (plain_stmts xs)
when_is w ts xs tests body =
    when_view w ∙ ap (λ us. MkWhen (map plain_logic us) (plain_stmts (out-When w).body.items)) (sym tests)
    ∙ ap (λ ys. MkWhen (map plain_logic ts) (plain_stmts ys)) (sym body)

pub tests_are : (w : declared_when.When) (ts : List declared_logic.Logic) → ts ≡ (out-When w).tests →
    plain_logics ts ≡ when_tests (plain_when w)
tests_are w ts is = ap plain_logics is ∙ sym (ap when_tests (when_view w))

pub body_is : (w : declared_when.When) (xs : List declared_stmt.Stmt) → xs ≡ (out-When w).body.items →
    plain_stmts xs ≡ when_body (plain_when w)
body_is w xs is = ap plain_stmts is ∙ sym (ap when_body (when_view w))

-- where they begin, by the first one and those behind it
module _ (p : Program) (k : ℕ → ℕ → LaidParas) where
  pub whens_first : (whens rest : Whens) (w : When) (at other next : ℕ) → whens ≡ more_whens w rest →
      let list_at = at + tests_among (when_tests w) in
      let list = lay_list p k (when_body w) in
      first_of_whens (lay_whens p k whens) at other next
      ≡ first_of_any (when_tests w) at (first_of_list list list_at next)
      (first_of_whens (lay_whens p k rest) (list_at + list_size list) other next)
  whens_first whens rest (MkWhen ts ss) at other next cut = ap (λ ws. first_of_whens (lay_whens p k ws) at other next) cut

  module _ (whens rest : Whens) (w : When) (at other next : ℕ) (way : Way) (cut : whens ≡ more_whens w rest) (is : way ≡ way_of_any (when_tests w) at) where
    whens_led : let list_at = at + tests_among (when_tests w) in
        let list = lay_list p k (when_body w) in
        led way (first_of_list list list_at next) (first_of_whens (lay_whens p k rest) (list_at + list_size list) other next)
        ≡ first_of_whens (lay_whens p k whens) at other next
    whens_led =
        let list_at = at + tests_among (when_tests w) in
        let list = lay_list p k (when_body w) in
        let yes_ = first_of_list list list_at next in
        let no_ = first_of_whens (lay_whens p k rest) (list_at + list_size list) other next in
        ap (λ v. led v yes_ no_) is ∙ any_way (when_tests w) at yes_ no_ ∙ sym (whens_first whens rest w at other next cut)

    pub at_test : (first : ℕ) → way ≡ At first → first ≡ first_of_whens (lay_whens p k whens) at other next
    at_test first e =
        let list_at = at + tests_among (when_tests w) in
        let list = lay_list p k (when_body w) in
        ap (λ v. led v (first_of_list list list_at next) (first_of_whens (lay_whens p k rest) (list_at + list_size list) other next)) (sym e)
        ∙ whens_led

    pub at_body : (list_at n : ℕ) (ss : Stmts) → way ≡ Held → list_at ≡ at + tests_among (when_tests w) → ss ≡ when_body w →
        n ≡ first_of_list (lay_list p k ss) list_at next → n ≡ first_of_whens (lay_whens p k whens) at other next
    at_body list_at n ss e on body is-n =
        let list = lay_list p k (when_body w) in
        let rest_first : ℕ → ℕ = λ m. first_of_whens (lay_whens p k rest) (m + list_size list) other next in
        is-n ∙ ap (λ ys. first_of_list (lay_list p k ys) list_at next) body ∙ ap (λ m. first_of_list list m next) on
        ∙ ap (λ v. led v (first_of_list list (at + tests_among (when_tests w)) next) (rest_first (at + tests_among (when_tests w)))) (sym e)
        ∙ whens_led

    pub at_rest : {E : Type 0} (r : Result ℕ E) (list_at nodes rest_at : ℕ) (ss : Stmts) → way ≡ Failed →
        list_at ≡ at + tests_among (when_tests w) → ss ≡ when_body w → nodes ≡ list_size (lay_list p k ss) → rest_at ≡ list_at + nodes →
        IfOk r (λ n. n ≡ first_of_whens (lay_whens p k rest) rest_at other next) →
        IfOk r (λ n. n ≡ first_of_whens (lay_whens p k whens) at other next)
    at_rest r list_at nodes rest_at ss e on body counted behind told =
        let list = lay_list p k (when_body w) in
        let all_at = at + tests_among (when_tests w) in
        let place : rest_at ≡ all_at + list_size list = behind ∙ ap (λ m. m + nodes) on
        ∙ ap (λ m. all_at + m) (counted ∙ ap (λ ys. list_size (lay_list p k ys)) body) in
        let whole = ap (λ m. first_of_whens (lay_whens p k rest) m other next) place
        ∙ ap (λ v. led v (first_of_list list all_at next) (first_of_whens (lay_whens p k rest) (all_at + list_size list) other next)) (sym e)
        ∙ whens_led in
        subst (λ v. IfOk r (λ n. n ≡ v)) whole told
