use Rattle.bench.proofs.layer.time_over_ranges.Given as goal

abbrev pub ghosts-time_first_edge : goal.ghosts-time_first_edge
ghosts-time_first_edge a = record { name = a.blank.name; parts = a.blank.parts }
