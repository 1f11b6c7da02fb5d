use Rattle.std.proofs.Common.{rules, sym, ◌∙◌}
use Rattle.cob_store.proofs.ReadBound.{read_within}
use Rattle.cob_store.proofs.numbers.number_in.Goals as goal

pub returns-in-Some-clause-bound : goal.returns-in-Some-clause-bound
returns-in-Some-clause-bound c =
    read_within c.args.form.now c.args.bytes.now c.in-Some.units _ c.requires.sound (sym c.value.ensures ∙ c.in-Some.is) (search rules)
