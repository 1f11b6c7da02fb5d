use Rattle.std.proofs.Common.{◌≡◌, drop}
use Rattle.cob_data.specs.Names.{stands_in}
use Rattle.command_words.specs.Words.{texts}
use Rattle.commands.proofs.running.paths.stands_in.Given as goal

abbrev pub invariant-loop-earlier : goal.invariant-loop-earlier
invariant-loop-earlier l = stands_in (texts (drop l.earlier-index l.paths)) l.path ≡ stands_in (texts l.paths) l.path
