-- The tokens that a tree asks for: each a symbol, with the line where the tree holds it, and with how many
-- statements and parentheses are open at it.
use Rattle.std.specs.Prelude.{◌≡◌, ℕ, List, [], ◌∷◌, ◌++◌, Bool, false, true, Option, Some, None}
use Rattle.cob_tree.specs.declared.keyword.Keyword.{Keyword}
use Rattle.cob_tree.specs.Symbols.{Symbol, Key, Name, Stop, Sign}

pub record Item : Type 0 where
  pub symbol : Symbol
  pub line : Option ℕ
  pub depth : ℕ

abbrev pub IsLine : Option ℕ → ℕ → Type 0
IsLine None line = Unit {0}
IsLine (Some l) line = line ≡ l

-- the token is what the tree asks for
pub record Fits (item : Item) (sign : Sign) : Type 0 where
  pub symbol : sign.symbol ≡ item.symbol
  pub line : IsLine item.line sign.line

-- ---- items

abbrev pub item : ℕ → Symbol → Item
item d symbol = record { symbol = symbol; line = None; depth = d }

-- one whose line the tree holds
abbrev pub item_on : ℕ → ℕ → Symbol → Item
item_on d line symbol = record { symbol = symbol; line = Some line; depth = d }

abbrev pub key : ℕ → Keyword → Item
key d k = item d (Key k)

abbrev pub name : ℕ → List ℕ → Item
name d text = item d (Name text)

abbrev pub keys : ℕ → List Keyword → List Item
keys d [] = []
keys d (k ∷ ks) = key d k ∷ keys d ks

abbrev pub stop : ℕ → Item
stop d = item d Stop

-- a reserved word, where it stands
abbrev pub word_if : ℕ → Bool → Keyword → List Item
word_if d false k = []
word_if d true k = key d k ∷ []

-- something behind words of its own, where these stand
abbrev pub behind : {A : Type 0} → ℕ → List Keyword → (A → List Item) → Option A → List Item
behind d words print None = []
behind d words print (Some a) = keys d words ++ print a

-- some of them, one behind the other
abbrev pub each : {A : Type 0} → (A → List Item) → List A → List Item
each print [] = []
each print (a ∷ as_) = print a ++ each print as_
