-- Sets of kinds by what they have.
use Rattle.std.proofs.Common.{◌≡◌, Bool, refl, ap, ◌∙◌}
use Rattle.cob_tree.specs.declared.fault.Kind.{Kind}
use Rattle.cob_tree.specs.declared.fault.Kind.TheVariants.{Size, Truncation, Zero, Class, Subscript}
use Rattle.cob_tree.specs.declared.kinds.Kinds.{Kinds}
use Rattle.cob_tree.specs.Kinds.{all_kinds, has, kinds_of, tested}

pub has_kinds_of : (test : Kind → Bool) (kind : Kind) → has (kinds_of test) kind ≡ test kind
has_kinds_of test Size = refl
has_kinds_of test Truncation = refl
has_kinds_of test Zero = refl
has_kinds_of test Class = refl
has_kinds_of test Subscript = refl

abbrev made : Bool → Bool → Bool → Bool → Bool → Kinds
made a b c d e = record { size = a; truncation = b; zero = c; class = d; subscript = e }

-- sets that have the same kinds are one
pub same_kinds : (a b : Kinds) → ((kind : Kind) → has a kind ≡ has b kind) → a ≡ b
same_kinds a b same =
    ap (λ x. made x a.truncation a.zero a.class a.subscript) (same Size)
    ∙ (ap (λ x. made b.size x a.zero a.class a.subscript) (same Truncation)
    ∙ (ap (λ x. made b.size b.truncation x a.class a.subscript) (same Zero)
    ∙ (ap (λ x. made b.size b.truncation b.zero x a.subscript) (same Class)
    ∙ ap (made b.size b.truncation b.zero b.class) (same Subscript))))

-- the tests of all kinds are the set of those of which the test is true
pub tested_all : (test : Kind → Bool) (s : Kinds) → tested test s all_kinds ≡ kinds_of test
tested_all test s = refl
