use Rattle.commands.proofs.analysing.findings.found_for.Given as goal

abbrev pub ghosts-found_counted : goal.ghosts-found_counted
ghosts-found_counted a = record { name = a.blank.name; parts = a.blank.parts }
