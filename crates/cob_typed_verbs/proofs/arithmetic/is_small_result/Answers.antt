use Rattle.std.proofs.Common.{◌∙◌, sym, ap}
use Rattle.std.specs.Prelude.{option_map}
use Rattle.cob_program.specs.Bounds.{is_small_sum, sum_most}
use Rattle.cob_typed_exprs.specs.Sizes.{bound_at, plain_size}
use Rattle.cob_typed_verbs.specs.Arithmetic.{is_small_result}
use Rattle.cob_typed_exprs.proofs.SizeLemmas.{some_if, none_if}
use Rattle.cob_typed_verbs.proofs.WorkLemmas.{grown, multiplied_, no_result}
use Rattle.cob_typed_verbs.proofs.arithmetic.is_small_result.Goals as goal

pub returns-in-Whole : goal.returns-in-Whole
returns-in-Whole c = λ common small stored. stored ∙ sym (ap (is_small_result c.args.scope.now common c.args.target.now) c.in-Whole.is)

pub returns-in_default : goal.returns-in_default
returns-in_default c = λ common small stored.
    let b = bound_at c.args.scope.now in
    no_result c.args.scope.now common c.args.target.now c.args.target.now.how c.in_default.not-Whole (none_if (is_small_sum b common) (sum_most b common) (sym (ap (option_map plain_size) (sym c.in-None.is) ∙ small)))

pub returns-in-Whole-how : goal.returns-in-Whole-how
returns-in-Whole-how c = λ common small stored. stored ∙ sym (ap (is_small_result c.args.scope.now common c.args.target.now) c.in-Whole-how.is)

pub returns-in-Plus : goal.returns-in-Plus
returns-in-Plus c = λ common small stored.
    let b = bound_at c.args.scope.now in
    c.is_some.ensures ∙ grown c.plus.result _ _ (b c.args.target.now.item) (sum_most b common) (is_small_sum b common) c.plus.ensures c.item_size.ensures (ap (option_map plain_size) (sym c.in-Some.is) ∙ small)
    ∙ sym (ap (is_small_result c.args.scope.now common c.args.target.now) c.in-Plus.is)

pub returns-in-Minus : goal.returns-in-Minus
returns-in-Minus c = λ common small stored.
    let b = bound_at c.args.scope.now in
    c.is_some-in-Minus.ensures ∙ grown c.plus-in-Minus.result _ _ (b c.args.target.now.item) (sum_most b common) (is_small_sum b common) c.plus-in-Minus.ensures c.item_size-in-Minus.ensures (ap (option_map plain_size) (sym c.in-Some.is) ∙ small)
    ∙ sym (ap (is_small_result c.args.scope.now common c.args.target.now) c.in-Minus.is)

pub returns-in-Times : goal.returns-in-Times
returns-in-Times c = λ common small stored.
    let b = bound_at c.args.scope.now in
    c.is_some-in-Times.ensures ∙ multiplied_ c.by.result _ _ (b c.args.target.now.item) (sum_most b common) (is_small_sum b common) c.by.ensures c.item_size-in-Times.ensures (ap (option_map plain_size) (sym c.in-Some.is) ∙ small)
    ∙ sym (ap (is_small_result c.args.scope.now common c.args.target.now) c.in-Times.is)

pub returns-in-Under : goal.returns-in-Under
returns-in-Under c = λ common small stored.
    let b = bound_at c.args.scope.now in
    sym (some_if (is_small_sum b common) (sum_most b common) (plain_size c.in-Some.size) (sym (ap (option_map plain_size) (sym c.in-Some.is) ∙ small))).0
    ∙ sym (ap (is_small_result c.args.scope.now common c.args.target.now) c.in-Under.is)
