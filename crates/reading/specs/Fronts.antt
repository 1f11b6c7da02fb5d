-- How far what stands at the beginning of a list goes.
use Rattle.std.specs.Prelude.{◌≡◌, List, [], ◌∷◌, ◌++◌}

-- Pieces of a list that stand one behind the other, where each piece has letters of its own; what stands may hang on
-- what is left behind the pieces.
module _ {X T : Type 0} (letters : X → List T) (Stand : List X → List T → Type 0) where
  -- none of what the rest begins with stands behind these pieces
  abbrev pub NoFurther : List X → List T → Type 0
  NoFurther pieces left = (x : X) (rest : List T) → left ≡ letters x ++ rest → Stand (pieces ++ x ∷ []) rest → ⊥

-- a letter alone
abbrev pub one : {T : Type 0} → T → List T
one t = t ∷ []
