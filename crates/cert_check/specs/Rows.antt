-- Vectors of words as lists.
use Rattle.std.specs.Prelude.{List, map, Vec, ℤ}
use Rattle.std.specs.declared.alloc.Global.{Global}

abbrev pub words_of : List (Vec ℤ Global) → List (List ℤ)
words_of rows = map (λ row. row.items) rows
