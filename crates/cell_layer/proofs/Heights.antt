-- How often rows can grow, list by list.
use Rattle.std.proofs.Common.{◌≡◌, ◌+◌, ◌*◌, List, [], ◌∷◌, ◌++◌, length, ℤ, Vec, refl, ap, ◌∙◌, arith}
use Rattle.std.specs.declared.alloc.Global.{Global}
use Rattle.interval_domain.specs.Elements.{cells_height}
use Rattle.interval_domain.specs.Rows.{lists_of}

height_more : (lists : List (List ℤ)) (ts : List ℤ) → cells_height (lists ++ ts ∷ []) ≡ cells_height lists + (2 * length ts + 1)
height_more [] ts = omega arith
height_more (us ∷ lists) ts = let more = height_more lists ts in omega (arith, more)

pub lists_more : (lists : List (Vec ℤ Global)) (list : Vec ℤ Global) → cells_height (lists_of (lists ++ list ∷ [])) ≡ cells_height (lists_of lists) + (2 * length list.items + 1)
lists_more lists list = ap cells_height (each lists list) ∙ height_more (lists_of lists) list.items
  where
    each : (lists : List (Vec ℤ Global)) (list : Vec ℤ Global) → lists_of (lists ++ list ∷ []) ≡ lists_of lists ++ list.items ∷ []
    each [] list = refl
    each (other ∷ lists) list = ap (λ ls. other.items ∷ ls) (each lists list)
