-- What is handed over in order, to a list or to a search for one place.
use Rattle.std.specs.Prelude.{◌≡◌, ℕ, ◌-◌, ◌==◌, if◌then◌else◌, Bool, true, false, List, [], ◌∷◌, ◌++◌, map, Option, Some, None}
use Rattle.std.specs.Option.{option_map}
use Rattle.std.specs.declared.ops.ControlFlow.{ControlFlow}
use Rattle.std.specs.declared.ops.ControlFlow.TheVariants.{Continue, Break}
use Rattle.edge_parts.specs.declared.taker.Search.{Search}
use Rattle.edge_parts.specs.declared.taker.Taker as declared
use Rattle.edge_parts.specs.declared.taker.Taker.TheVariants as taker

-- what stands at a place of a list, or by how much the place lies behind the list
abbrev pub sought : {A : Type 0} → List A → ℕ → ControlFlow A ℕ
sought [] k = Continue k
sought (x ∷ xs) k = if k == 0 then Break x else sought xs (k - 1)

-- whether more can be handed over
abbrev pub goes_on : ControlFlow (Unit {0}) (Unit {0}) → Bool
goes_on (Continue x) = true
goes_on (Break x) = false

module _ {X P : Type 0} (view : X → P) where
  -- Behind a stop nothing is known of the list.
  abbrev pub ListTakes : List X → List P → Bool → List X → Type 0
  ListTakes old ps on new = on ≡ true → map view new ≡ map view old ++ ps

  -- what a search has come to
  abbrev pub come_to : Search X → Bool → Option (ControlFlow P ℕ)
  come_to s true = Some (Continue s.left)
  come_to s false = option_map (λ x. Break (view x)) s.found

  abbrev pub SearchTakes : Search X → List P → Bool → Search X → Type 0
  SearchTakes old ps on new = come_to new on ≡ Some (sought ps old.left)

  -- What some were made of, whose views these are: where more can be handed over they stand behind the list, and the
  -- place that is sought isn't among them.
  unfoldable pub Takes : declared.Taker X → List P → Bool → declared.Taker X → Type 0
  Takes (taker.List old) ps on (taker.List new) = ListTakes old.items ps on new.items
  Takes (taker.Search old) ps on (taker.Search new) = SearchTakes old ps on new
  Takes _ ps on _ = ⊥

-- ---- one of them

module _ {X : Type 0} where
  abbrev pub ListGets : List X → X → Bool → List X → Type 0
  ListGets old x on new = on ≡ true → new ≡ old ++ x ∷ []

  abbrev pub SearchGets : Search X → X → Bool → Search X → Type 0
  SearchGets old x on new = come_to (λ y. y) new on ≡ Some (sought (x ∷ []) old.left)

  abbrev pub Gets : declared.Taker X → X → Bool → declared.Taker X → Type 0
  Gets (taker.List old) x on (taker.List new) = ListGets old.items x on new.items
  Gets (taker.Search old) x on (taker.Search new) = SearchGets old x on new
  Gets _ x on _ = ⊥

-- ---- what comes of it

module _ {X : Type 0} where
  abbrev pub items_in : declared.Taker X → List X
  items_in (taker.List list) = list.items
  items_in (taker.Search s) = []

  abbrev pub found_in : declared.Taker X → Option X
  found_in (taker.List list) = None
  found_in (taker.Search s) = s.found

  abbrev pub left_in : declared.Taker X → ℕ
  left_in (taker.List list) = 0
  left_in (taker.Search s) = s.left
