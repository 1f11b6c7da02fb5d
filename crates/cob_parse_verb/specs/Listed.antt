-- What a list of one or more goes on with: with what its last one does, or with another.
use Rattle.std.specs.Prelude.{◌||◌, Bool, List, [], ◌∷◌}
use Rattle.cob_tree.specs.Cues.{Cue}

abbrev pub takes_listed : {A : Type 0} → (A → Cue → Bool) → (Cue → Bool) → List A → Cue → Bool
takes_listed takes set [] m = set m
takes_listed takes set (x ∷ []) m = takes x m || set m
takes_listed takes set (x ∷ y ∷ xs) m = takes_listed takes set (y ∷ xs) m
