-- The statements of a paragraph have what the grammar gives them.
use Rattle.std.proofs.Common.{ℕ, zero, suc, List, [], ◌∷◌}
use Rattle.std.specs.Prelude.{slice_get}
use Rattle.std.specs.Option.{option_map_or}
use Rattle.cob_program.specs.Act.{no_stmts, Para, Program}
use Rattle.cob_graph.specs.WellFormed.{AreWellFormed, AreWellFormedParas}

pub para_whole : (p : Program) (ps : List Para) (n : ℕ) → AreWellFormedParas p ps →
    AreWellFormed p (option_map_or (λ x. x.body) (slice_get ps n) no_stmts)
para_whole p [] n w = tt
para_whole p (x ∷ xs) zero w = w.0
para_whole p (x ∷ xs) (suc n) w = para_whole p xs n w.1
