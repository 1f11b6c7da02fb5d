use Rattle.std.proofs.Common.{[], refl}
use Rattle.command_words.specs.Words.{lent_texts}
use Rattle.commands.specs.Paths.{clash}
use Rattle.commands.proofs.Clashes.{are_distinct}
use Rattle.commands.proofs.running.paths.paths_of.Goals as goal

pub returns-clause-distinct : goal.returns-clause-distinct
returns-clause-distinct c =
    are_distinct (lent_texts c.args.names.now) c.args.files.now
    (clash (lent_texts c.args.names.now) [] c.args.files.now) c.distinct_paths.result refl c.distinct_paths.ensures
