-- Sets of kinds by their tests.
use Rattle.std.proofs.Common.{◌≡◌, Bool, true, false, ◌&&◌, refl, sym, ap, ◌∙◌}
use Rattle.std.proofs.Math.Bool.{and_assoc}
use Rattle.cob_tree.specs.declared.fault.Kind.{Kind}
use Rattle.cob_tree.specs.declared.fault.Kind.TheVariants.{Size, Truncation, Zero, Class, Subscript}
use Rattle.cob_tree.specs.declared.kinds.Kinds.{Kinds}
use Rattle.cob_tree.specs.Kinds.{has, kinds_of, every_kind, both}
use Rattle.cob_tree.proofs.KindLaws.{has_kinds_of, same_kinds}

pub same_tests : (f g : Kind → Bool) → ((kind : Kind) → f kind ≡ g kind) → kinds_of f ≡ kinds_of g
same_tests f g same =
    same_kinds (kinds_of f) (kinds_of g) (λ kind. has_kinds_of f kind ∙ same kind ∙ sym (has_kinds_of g kind))

-- ---- kinds that pass one test after another

one_more : (a b c all : Bool) → (b && c) ≡ all → (a && b && c) ≡ (a && all)
one_more a b c all e = and_assoc a b c ∙ ap (λ r. a && r) e

and_true : (b : Bool) → (b && true) ≡ b
and_true true = refl
and_true false = refl

module _ (s : Kinds) where
  -- one test, and then the others
  pub both_then : (f rest all : Kind → Bool) → ((kind : Kind) → (f kind && rest kind) ≡ all kind) →
      both (both s (kinds_of f)) (kinds_of rest) ≡ both s (kinds_of all)
  both_then f rest all e = same_kinds (both (both s (kinds_of f)) (kinds_of rest)) (both s (kinds_of all)) go
    where
      go : (kind : Kind) → has (both (both s (kinds_of f)) (kinds_of rest)) kind ≡ has (both s (kinds_of all)) kind
      go Size = one_more s.size (f Size) (rest Size) (all Size) (e Size)
      go Truncation = one_more s.truncation (f Truncation) (rest Truncation) (all Truncation) (e Truncation)
      go Zero = one_more s.zero (f Zero) (rest Zero) (all Zero) (e Zero)
      go Class = one_more s.class (f Class) (rest Class) (all Class) (e Class)
      go Subscript = one_more s.subscript (f Subscript) (rest Subscript) (all Subscript) (e Subscript)

  pub both_last : (f all : Kind → Bool) → ((kind : Kind) → f kind ≡ all kind) → both s (kinds_of f) ≡ both s (kinds_of all)
  both_last f all e = ap (both s) (same_tests f all e)

  pub both_all : both s every_kind ≡ s
  both_all = same_kinds (both s every_kind) s go
    where
      go : (kind : Kind) → has (both s every_kind) kind ≡ has s kind
      go Size = and_true s.size
      go Truncation = and_true s.truncation
      go Zero = and_true s.zero
      go Class = and_true s.class
      go Subscript = and_true s.subscript
