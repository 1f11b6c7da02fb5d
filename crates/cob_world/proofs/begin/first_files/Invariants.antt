use Rattle.std.proofs.Common.{◌≡◌, ◌++◌, drop, map}
use Rattle.std.specs.Option.{option_map}
use Rattle.cob_runs.specs.Runs.{first_files}
use Rattle.cob_world.proofs.begin.first_files.Given as goal

abbrev pub invariant-loop-at : goal.invariant-loop-at
invariant-loop-at l =
    (l.files.items ++ first_files (map (option_map (λ v. v.items)) l.fn.contents) l.at (drop l.at l.decls)
    ≡ first_files (map (option_map (λ v. v.items)) l.fn.contents) 0 l.decls)
    × (drop l.at l.contents ≡ drop l.at l.fn.contents)
