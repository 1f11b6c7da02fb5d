-- One reader after another, where what is read first may go on, but not with what stands behind it.
use Rattle.std.proofs.Common.{ℕ, List, [], ◌∷◌, ◌++◌, ◌∙◌}
use Rattle.reading.specs.Readers.{Reader, follow}
use Rattle.reading.specs.Printing.{Alphabet, Matches, Next}
use Rattle.reading.specs.Law.{Syntax, Law}
use Rattle.reading.proofs.Consequences.{some_tree}
use Rattle.reading.proofs.Follow.{Joint, behind_of, follow_law, reads_of}
use Rattle.reading.proofs.Dependent.{dependent_syntax}
use Rattle.reading.proofs.Starts.{OneToken, one_decides}

module _ {T I M A B : Type 0} {G : Alphabet T I M} {R : Reader T A} {a : Syntax I M A} {top : ℕ} (LA : Law G R a top) (one : (x : A) → OneToken G (a.takes x)) (S : A → Reader T B) (b : A → Syntax I M B) (LB : (x : A) → a.Good x → Law G (S x) (b x) top)
    (apart : (x : A) (y : B) (text rest : List T) → a.Good x → (b x).Good y → Matches G ((b x).print y) text → Next G (a.takes x) (text ++ rest)) where
  moved : (x : A) (c r z : List T) (t : T) → Next G (a.takes x) (c ++ t ∷ r) → Next G (a.takes x) (c ++ t ∷ z)
  moved x [] r z t next = one_decides G (a.takes x) (one x) t z r ∙ next
  moved x (u ∷ c) r z t next = one_decides G (a.takes x) (one x) u (c ++ t ∷ z) (c ++ t ∷ r) ∙ next

  pub apart_joint : Joint G top a S b (λ x y. a.Good x × (b x).Good y) (λ x y. (b x).takes y)
  apart_joint = record {
    first = λ x y good. good.0;
    second = λ x y good. good.1;
    ends = λ x y text rest good spells next. (apart x y text rest good.0 good.1 spells, next);
    joins = λ x y text rest good good' spells next next'. ((good, good'), next');
    some = λ x good. let y = some_tree (LB x good) in (y.0, (good, y.1));
    reads = λ x good. reads_of (LB x good);
    fails = λ x ts fault good below next e. let h = (LB x good).fails ts fault e in behind_of G top a S b (λ x y. a.Good x × (b x).Good y) (λ x y. (b x).takes y) x ts fault h (good, h.good);
    steady = λ x c r z t d good next e at. moved x c r z t next;
  }

  pub apart_law : Law G (follow R S) (dependent_syntax a b) top
  apart_law = follow_law G top a S b (λ x y. a.Good x × (b x).Good y) (λ x y. (b x).takes y) LA apart_joint
