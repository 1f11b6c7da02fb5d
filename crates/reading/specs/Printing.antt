-- What a tree is printed as, and how far a reader looks ahead.
use Rattle.std.specs.Prelude.{◌≡◌, ℕ, ◌<◌, Bool, false, List, [], ◌∷◌, Option, Some, None, ◌||◌}

-- The mark of a token for what stands open before it: its own, or one that the token behind it decides.
pub data Front (T M : Type 0) : Type 0 where
  Here : Option M → Front T M
  Ahead : (T → Option M) → Front T M

-- Tokens, the items that a printing asks for, and marks. An item's depth says how many constructs are open at it.
pub record Alphabet (T I M : Type 0) : Type 1 where
  pub Fits : I → T → Type 0
  pub depth : I → ℕ
  pub front : T → Front T M

module _ {T I M : Type 0} (G : Alphabet T I M) where
  -- the tokens are those that the items ask for
  abbrev pub Matches : List I → List T → Type 0
  Matches [] [] = Unit {0}
  Matches (i ∷ is) (t ∷ ts) = G.Fits i t × Matches is ts
  Matches _ _ = ⊥

  -- Fewer than that are open at each item.
  abbrev pub Below : ℕ → List I → Type 0
  Below top [] = Unit {0}
  Below top (i ∷ is) = (G.depth i < top) × Below top is

  -- the next item opens one too many
  abbrev pub Opens : ℕ → List T → List I → Type 0
  Opens top (t ∷ ts) (i ∷ is) = G.Fits i t × (G.depth i ≡ top)
  Opens top _ _ = ⊥

  abbrev pub ahead : (T → Option M) → List T → Option M
  ahead mark [] = None
  ahead mark (t ∷ ts) = mark t

  abbrev pub peek_on : Front T M → List T → Option M
  peek_on (Here mark) ts = mark
  peek_on (Ahead mark) ts = ahead mark ts

  -- the mark of the first token
  abbrev pub peek : List T → Option M
  peek [] = None
  peek (t ∷ ts) = peek_on (G.front t) ts

  abbrev pub on_mark : (M → Bool) → Option M → Bool
  on_mark set None = false
  on_mark set (Some m) = set m

  -- one of the marks stands here
  abbrev pub begins : (M → Bool) → List T → Bool
  begins set ts = on_mark set (peek ts)

  -- what takes so doesn't go on here
  abbrev pub Next : (M → Bool) → List T → Type 0
  Next takes ts = begins takes ts ≡ false

  abbrev pub any_of : (M → Bool) → List M → Bool
  any_of takes [] = false
  any_of takes (m ∷ ms) = takes m || any_of takes ms

  abbrev pub goes_by : List M → (M → Bool) → Front T M → Bool
  goes_by marks takes (Here mark) = false
  goes_by marks takes (Ahead mark) = any_of takes marks

  -- whether what takes so may go on with a token, whatever stands behind it: by marks that hang on a second token
  abbrev pub goes_on : List M → (M → Bool) → T → Bool
  goes_on marks takes t = goes_by marks takes (G.front t)
