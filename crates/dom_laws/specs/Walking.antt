-- Walks over the parts of an edge: what is seen of a run between two parts, and what each part makes of it.
use Rattle.std.specs.Prelude.{◌≡◌, ◌⊎◌, ℕ, List, [], ◌∷◌, ◌++◌, Option, Some, None}
use Rattle.cob_tree.specs.declared.fault.Kind.{Kind}

pub record Walking : Type 1 where
  pub Part : Type 0
  -- a moment as it is seen: a row, and what is kept along the edge
  pub Seen : Type 0
  -- a moment of a run
  pub Moment : Type 0
  -- the order of what is seen
  pub Below : Seen → Seen → Type 0
  -- what a part makes of it, or nothing where no run passes
  pub step : Part → Seen → Option Seen
  -- what is seen behind these parts is true of the moment
  pub Agrees : List Part → Seen → Moment → Type 0
  pub Passes : Part → Moment → Moment → Type 0
  pub Faults : Part → Moment → Kind → Type 0
  pub Clears : Part → Seen → Kind → Type 0

module _ (w : Walking) where
  -- nothing lies below all
  abbrev pub BelowIf : Option w.Seen → Option w.Seen → Type 0
  BelowIf None b = Unit {0}
  BelowIf (Some a) None = ⊥
  BelowIf (Some a) (Some b) = w.Below a b

  abbrev pub IsSeen : Option w.Seen → (w.Seen → Type 0) → Type 0
  IsSeen None P = ⊥
  IsSeen (Some a) P = P a

  abbrev pub IfSeen : Option w.Seen → (w.Seen → Type 0) → Type 0
  IfSeen None P = Unit {0}
  IfSeen (Some a) P = P a

  infixl 10 ◌>>=◌
  abbrev pub ◌>>=◌ : Option w.Seen → (w.Seen → Option w.Seen) → Option w.Seen
  None >>= next = None
  (Some a) >>= next = next a

  -- the parts one after another
  abbrev pub walk : List w.Part → w.Seen → Option w.Seen
  walk [] a = Some a
  walk (x ∷ xs) a = w.step x a >>= λ b. walk xs b

  abbrev pub PassesAll : List w.Part → w.Moment → w.Moment → Type 0
  PassesAll [] m n = n ≡ m
  PassesAll (x ∷ xs) m n = (next : w.Moment) × w.Passes x m next × PassesAll xs next n

  abbrev pub Meets : List w.Part → w.Moment → Kind → Type 0
  Meets [] m kind = ⊥
  Meets (x ∷ xs) m kind = w.Faults x m kind ⊎ ((next : w.Moment) × w.Passes x m next × Meets xs next kind)

  -- each part at its moment; a moment that isn't reached demands nothing
  abbrev pub ClearsAll : List w.Part → w.Seen → Kind → Type 0
  ClearsAll [] a kind = Unit {0}
  ClearsAll (x ∷ xs) a kind = w.Clears x a kind × IfSeen (w.step x a) (λ b. ClearsAll xs b kind)

  -- what is asked of single parts, each at its place in an edge
  pub record IsWalking (ps : List w.Part) : Type 0 where
    pub rises : (x : w.Part) (a b : w.Seen) → w.Below a b → BelowIf (w.step x a) (w.step x b)
    pub clears_below : (x : w.Part) (a b : w.Seen) (kind : Kind) → w.Below a b
        → w.Clears x b kind → w.Clears x a kind
    pub keeps : (done rest : List w.Part) (x : w.Part) (a : w.Seen) (m n : w.Moment) → done ++ x ∷ rest ≡ ps
        → w.Agrees done a m → w.Passes x m n → IsSeen (w.step x a) (λ b. w.Agrees (done ++ x ∷ []) b n)
    pub cleared : (done rest : List w.Part) (x : w.Part) (a : w.Seen) (m : w.Moment) (kind : Kind)
        → done ++ x ∷ rest ≡ ps → w.Agrees done a m → w.Clears x a kind → ¬ w.Faults x m kind

  -- what follows for the edge
  pub record IsSound (ps : List w.Part) : Type 0 where
    pub monotone : (a b : w.Seen) → w.Below a b → BelowIf (walk ps a) (walk ps b)
    pub clears_below : (a b : w.Seen) (kind : Kind) → w.Below a b → ClearsAll ps b kind → ClearsAll ps a kind
    pub kept : (a : w.Seen) (m n : w.Moment) → w.Agrees [] a m → PassesAll ps m n
        → IsSeen (walk ps a) (λ b. w.Agrees ps b n)
    pub cleared : (a : w.Seen) (m : w.Moment) (kind : Kind) → w.Agrees [] a m → ClearsAll ps a kind
        → ¬ Meets ps m kind

abbrev pub EdgesAreSound : Type 1
EdgesAreSound = (w : Walking) (ps : List w.Part) → IsWalking w ps → IsSound w ps
