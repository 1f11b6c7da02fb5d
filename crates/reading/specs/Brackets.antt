-- A small grammar, to show that the laws compose: Tree = ( {Tree} ).
use Rattle.std.specs.Prelude.{◌≡◌, ℕ, zero, suc, Bool, true, false, List, [], ◌∷◌, ◌++◌, Option, Some, None}
use Rattle.reading.specs.Readers.{Reader, lead, seq, seen, many, closed, stands, full}
use Rattle.reading.specs.Printing.{Here, Alphabet, begins}
use Rattle.reading.specs.Law.{Syntax}

pub data Bracket : Type 0 where
  Open : Bracket
  Close : Bracket

mutual
  pub data Tree : Type 0 where
    Node : Trees → Tree

  pub data Trees : Type 0 where
    none : Trees
    and_more : Tree → Trees → Trees

-- the one mark is that of a tree's beginning
abbrev pub mark_of : Bracket → Option (Unit {0})
mark_of Open = Some tt
mark_of Close = None

abbrev pub brackets : Alphabet Bracket (Bracket × ℕ) (Unit {0})
brackets = record { Fits = λ i t. t ≡ i.0; depth = λ i. i.1; front = λ t. Here (mark_of t) }

abbrev mutual
  -- A tree as it is printed where so many brackets are open around.
  pub print : ℕ → Tree → List (Bracket × ℕ)
  print depth (Node ts) = (Open, suc depth) ∷ (print_all (suc depth) ts ++ (Close, suc depth) ∷ [])

  pub print_all : ℕ → Trees → List (Bracket × ℕ)
  print_all depth none = []
  print_all depth (and_more t ts) = print depth t ++ print_all depth ts

abbrev pub tree_syntax : ℕ → Syntax (Bracket × ℕ) (Unit {0}) Tree
tree_syntax depth = record { Good = λ t. Unit {0}; print = print depth; takes = λ t p. false }

abbrev pub close_of : Bracket → Option (Unit {0})
close_of Close = Some tt
close_of Open = None

abbrev pub trees_of : List Tree → Trees
trees_of [] = none
trees_of (t ∷ ts) = and_more t (trees_of ts)

abbrev pub node : Unit {0} × (List Tree × Unit {0}) → Tree
node x = Node (trees_of x.1.0)

abbrev pub goes_no_further : List Tree → Bracket → Bool
goes_no_further ts t = false

-- a tree, where so many may open in one another
unfoldable pub tree_in : ℕ → Reader Bracket Tree
tree_in zero ts = full (stands mark_of) ts
tree_in (suc room) ts = seen node (seq (lead mark_of) (closed (many (begins brackets (λ p. true)) (tree_in room)) close_of goes_no_further)) ts
