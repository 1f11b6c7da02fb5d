-- What comes along the edges of a system to which rows are given. Edge 0 is the entry, which leads to node 1.
use Rattle.std.specs.Prelude.{ℕ, zero, suc, List, ℤ}
use Rattle.dom_laws.specs.Flow.{Flow}

abbrev pub led_to : Flow → ℕ → ℕ
led_to f zero = 1
led_to f (suc e) = f.target (suc e)

-- what the edge makes of the row at its source
abbrev pub arrives : Flow → (ℕ → List ℤ) → ℕ → List ℤ
arrives f rows zero = f.entry
arrives f rows (suc e) = f.post (suc e) (rows (f.source (suc e)))
