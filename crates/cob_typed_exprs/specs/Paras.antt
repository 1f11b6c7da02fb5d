-- The paragraphs as a map of their names.
use Rattle.std.specs.Prelude.{◌≡◌, ℕ, List, Option, Some, None}
use Rattle.std.specs.Borrow.{Bor}
use Rattle.std.specs.Str.{bytes_eq}
use Rattle.indexmap.specs.IndexMap.{IndexMap, get_by}
use Rattle.cob_typed_exprs.specs.declared.found.Found.{Found}
use Rattle.cob_typed_exprs.specs.declared.found.Found.TheVariants as found
use Rattle.cob_typed_exprs.specs.Scope.{found_in, paras_from}

abbrev pub found_or_nothing : Option Found → Found
found_or_nothing None = found.Nothing
found_or_nothing (Some f) = f

-- what a map of names has at a name
abbrev pub para_in : {S : Type 0} → IndexMap (Bor (List ℕ)) Found S → List ℕ → Found
para_in m text = found_or_nothing (get_by (λ k. bytes_eq text k.now) m)

-- the map has what each name means among these
abbrev pub HasParas : {S : Type 0} → IndexMap (Bor (List ℕ)) Found S → List (List ℕ) → Type 0
HasParas m names = (text : List ℕ) → para_in m text ≡ found_in (paras_from 1 text names)
