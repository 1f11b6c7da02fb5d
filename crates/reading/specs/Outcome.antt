-- What a parser answers, in the terms of trees and their printings alone.
use Rattle.std.specs.Prelude.{◌≡◌, ℕ, ◌≤◌, List, [], ◌∷◌, ◌++◌, length}
use Rattle.reading.specs.Printing.{Alphabet, Matches, Below, Next}
use Rattle.reading.specs.Law.{Syntax}
use Rattle.reading.specs.Fronts.{NoFurther, one}

module _ {T I M A : Type 0} (G : Alphabet T I M) (s : Syntax I M A) where
  -- some tree's text begins with the tokens
  pub record GoesOn (front : List T) : Type 0 where
    pub tree : A
    pub good : s.Good tree
    pub before : List I
    pub after : List I
    pub text : s.print tree ≡ before ++ after
    pub spells : Matches G before front

  module _ (limit : ℕ) where
    -- the tokens begin with no tree's text behind which nothing stands that the tree could go on with
    abbrev pub NoneReads : List T → Type 0
    NoneReads ts = (tree : A) (text rest : List T) → ts ≡ text ++ rest → Matches G (s.print tree) text → s.Good tree → Below G limit (s.print tree) → Next G (s.takes tree) rest → ⊥

    -- The tokens are the tree's text, with fewer than the limit open at each, and what is left behind it; the tree
    -- doesn't go on there, and no other tree's text is longer.
    pub record IsRead (ts : List T) (tree : A) (rest : List T) : Type 0 where
      pub text : List T
      pub parts : ts ≡ text ++ rest
      pub spells : Matches G (s.print tree) text
      pub good : s.Good tree
      pub below : Below G limit (s.print tree)
      pub next : Next G (s.takes tree) rest
      pub longest : (tree' : A) (text' rest' : List T) → ts ≡ text' ++ rest' → Matches G (s.print tree') text' → s.Good tree' → Below G limit (s.print tree') → length rest ≤ length rest'

    -- No tree is read, and what is left is where none goes on, however deep: some tree goes on behind the tokens
    -- before, with fewer than the limit open at each, and none goes on with the next.
    pub record Stops (ts left : List T) : Type 0 where
      pub none : NoneReads ts
      pub read : List T
      pub parts : ts ≡ read ++ left
      pub goes_on : GoesOn read
      pub below : Below G limit goes_on.before
      pub no_further : NoFurther one (λ front rest. GoesOn front) read left

    -- No tree is read, and before any token at which none goes on stands one that opens one too many.
    pub record OpensTooDeep (ts : List T) : Type 0 where
      pub none : NoneReads ts
      pub read : List T
      pub next : T
      pub rest : List T
      pub parts : ts ≡ read ++ next ∷ rest
      pub tree : A
      pub good : s.Good tree
      pub before : List I
      pub item : I
      pub after : List I
      pub text : s.print tree ≡ before ++ item ∷ after
      pub spells : Matches G before read
      pub below : Below G limit before
      pub fits : G.Fits item next
      pub depth : G.depth item ≡ limit
