-- Lists of numbers that rise.
use Rattle.std.specs.Prelude.{if◌then◌else◌, List, [], ◌∷◌, ℤ, int_lt, ◌<ℤ◌}
use Rattle.std.specs.List.{fold}

abbrev pub RisesFrom : ℤ → List ℤ → Type 0
RisesFrom z [] = Unit {0}
RisesFrom z (t ∷ ts) = (z <ℤ t) × RisesFrom t ts

abbrev pub Rises : List ℤ → Type 0
Rises [] = Unit {0}
Rises (t ∷ ts) = RisesFrom t ts

-- a number put into a list that rises, unless it stands there
abbrev pub inserted : ℤ → List ℤ → List ℤ
inserted z [] = z ∷ []
inserted z (t ∷ ts) = if int_lt t z then t ∷ inserted z ts else if int_lt z t then z ∷ t ∷ ts else t ∷ ts

-- the numbers of a list, each once, so that they rise
abbrev pub sorted : List ℤ → List ℤ
sorted zs = fold (λ ts z. inserted z ts) [] zs
