-- What a reader of some trees does, whatever the trees.
use Rattle.std.specs.Prelude.{◌≡◌, ℕ, suc, Bool, true, false, ◌||◌, List, ◌∷◌, ◌++◌, length, Result, Ok, Err, ◌⊎◌}
use Rattle.reading.specs.Readers.{Fault, Stop, Deep, Reader}
use Rattle.reading.specs.Printing.{Alphabet, Matches, Below, Opens, Next}

-- The trees that a grammar allows, how each is printed, and with which marks each can still go on.
pub record Syntax (I M A : Type 0) : Type 1 where
  pub Good : A → Type 0
  pub print : A → List I
  pub takes : A → M → Bool

-- Whether a tree and what may stand behind it go on: where that stands, it alone can; where it is left out, what
-- stands before can too.
abbrev pub onward : Bool → Bool → Bool → Bool
onward false before own = before || own
onward true before own = own

module _ {T I M : Type 0} (G : Alphabet T I M) (top : ℕ) where
  -- The place of a fault: so many tokens are left there; at Deep the next of them opens one too many.
  abbrev pub At : Fault → List T → List I → Type 0
  At (Stop n) left after = length left ≡ n
  At (Deep n) left after = (length left ≡ n) × Opens G top left after

module _ {T I M : Type 0} (G : Alphabet T I M) (top : ℕ) where
  -- what is printed so opens one too many at this place, and none before
  pub record OpensAt (printed : List I) (place : ℕ) : Type 0 where
    pub before : List I
    pub item : I
    pub after : List I
    pub parts : printed ≡ before ++ item ∷ after
    pub count : length before ≡ place
    pub below : Below G top before
    pub depth : G.depth item ≡ top

module _ {T I M A : Type 0} (G : Alphabet T I M) (s : Syntax I M A) (top : ℕ) where
  -- what was read and is the tree's text, with fewer than top open at each token
  pub record Read (ts : List T) (a : A) (rest : List T) : Type 0 where
    pub text : List T
    pub parts : ts ≡ text ++ rest
    pub spells : Matches G (s.print a) text
    pub good : s.Good a
    pub below : Below G top (s.print a)
    pub next : Next G (s.takes a) rest

  -- Where reading ends, some tree goes on: its text begins with what was read, where no token opens one too many.
  -- And at Deep it goes on with the next token, which does.
  pub record Fails (ts : List T) (fault : Fault) : Type 0 where
    pub read : List T
    pub left : List T
    pub parts : ts ≡ read ++ left
    pub tree : A
    pub good : s.Good tree
    pub before : List I
    pub after : List I
    pub text : s.print tree ≡ before ++ after
    pub spells : Matches G before read
    pub below : Below G top before
    pub at : At G top fault left after

module _ {T I M A : Type 0} where
  -- The law of a reader, within the room that it has.
  pub record Law (G : Alphabet T I M) (r : Reader T A) (s : Syntax I M A) (top : ℕ) : Type 0 where
    -- what is read is spelled so
    pub sound : (ts : List T) (x : A × List T) → r ts ≡ Ok x → Read G s top ts x.0 x.1
    -- what is spelled so is read
    pub complete : (a : A) (text rest : List T) → Matches G (s.print a) text → s.Good a → Below G top (s.print a) → Next G (s.takes a) rest → r (text ++ rest) ≡ Ok (a, rest)
    -- reading ends no sooner than it must
    pub fails : (ts : List T) (fault : Fault) → r ts ≡ Err fault → Fails G s top ts fault
    -- reading ends no later than it must: where it stops before a token, no tree's text goes on with that token
    pub firm : (q r' z text rest : List T) (t : T) (a : A) → r (q ++ t ∷ r') ≡ Err (Stop (suc (length r'))) → Matches G (s.print a) text → s.Good a → Below G top (s.print a) → Next G (s.takes a) rest → text ++ rest ≡ q ++ t ∷ z → ⊥

-- Where there is too little room before a token, each tree whose text goes on with that token opens one too many there.
pub record Deepens {T I M A : Type 0} (G : Alphabet T I M) (r : Reader T A) (s : Syntax I M A) (top wide : ℕ) : Type 0 where
  pub there : (q r' z text rest : List T) (t : T) (a : A) → r (q ++ t ∷ r') ≡ Err (Deep (suc (length r'))) → Matches G (s.print a) text → s.Good a → Below G wide (s.print a) → Next G (s.takes a) rest → text ++ rest ≡ q ++ t ∷ z → OpensAt G top (s.print a) (length q)

-- With less room the answer is the same, unless it is that there is too little.
abbrev pub Agree : {B : Type 0} → Result B Fault → Result B Fault → Type 0
Agree less more = ((n : ℕ) × (less ≡ Err (Deep n))) ⊎ (less ≡ more)

abbrev pub Agrees : {T A : Type 0} → Reader T A → Reader T A → Type 0
Agrees {T} less more = (ts : List T) → Agree (less ts) (more ts)
