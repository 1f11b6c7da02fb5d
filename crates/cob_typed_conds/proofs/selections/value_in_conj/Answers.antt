use Rattle.std.proofs.Common.{◌∙◌, sym}
use Rattle.cob_typed_conds.proofs.ValueLemmas.{value_of_conj, no_value_of_conj}
use Rattle.cob_typed_conds.proofs.selections.value_in_conj.Goals as goal

pub returns-then-is_empty : goal.returns-then-is_empty
returns-then-is_empty c = c.value_in_neg.ensures ∙ value_of_conj c.args.conj.now _ c.as_slice.ensures.value (sym c.is_empty.ensures ∙ c.if-is_empty.true)

pub returns-else-is_empty : goal.returns-else-is_empty
returns-else-is_empty c = no_value_of_conj c.args.conj.now _ c.as_slice.ensures.value (sym c.is_empty.ensures ∙ c.if-is_empty.false)
