-- All kinds of faults, sets of them, and the words that name them. What speaks of each kind goes by these.
use Rattle.std.specs.Prelude.{ℕ, ◌&&◌, if◌then◌else◌, Bool, true, false, List, [], ◌∷◌, codes}
use Rattle.cob_tree.specs.declared.fault.Kind.{Kind}
use Rattle.cob_tree.specs.declared.fault.Kind.TheVariants.{Size, Truncation, Zero, Class, Subscript}
use Rattle.cob_tree.specs.declared.kinds.Kinds.{Kinds}

-- in the order in which a report tells them
abbrev pub all_kinds : List Kind
all_kinds = Size ∷ Truncation ∷ Zero ∷ Class ∷ Subscript ∷ []

abbrev pub is_kind : Kind → Kind → Bool
is_kind Size Size = true
is_kind Truncation Truncation = true
is_kind Zero Zero = true
is_kind Class Class = true
is_kind Subscript Subscript = true
is_kind _ _ = false

-- the word by which reports and refusals name a kind
abbrev pub kind_text : Kind → List ℕ
kind_text Size = codes "SIZE"
kind_text Truncation = codes "TRUNCATION"
kind_text Zero = codes "ZERO"
kind_text Class = codes "CLASS"
kind_text Subscript = codes "SUBSCRIPT"

-- ---- sets

abbrev pub has : Kinds → Kind → Bool
has s Size = s.size
has s Truncation = s.truncation
has s Zero = s.zero
has s Class = s.class
has s Subscript = s.subscript

-- the kinds of which a test is true
abbrev pub kinds_of : (Kind → Bool) → Kinds
kinds_of test = record {
  size = test Size;
  truncation = test Truncation;
  zero = test Zero;
  class = test Class;
  subscript = test Subscript;
}

abbrev pub every_kind : Kinds
every_kind = kinds_of (λ kind. true)

-- the kinds that both have
abbrev pub both : Kinds → Kinds → Kinds
both a b = kinds_of (λ kind. has a kind && has b kind)

-- the set with a kind in it or not
abbrev pub put : Kinds → Kind → Bool → Kinds
put s kind held = kinds_of (λ k. if is_kind kind k then held else has s k)

-- the set behind the tests of a list of kinds
abbrev pub tested : (Kind → Bool) → Kinds → List Kind → Kinds
tested test s [] = s
tested test s (kind ∷ kinds) = tested test (put s kind (test kind)) kinds
