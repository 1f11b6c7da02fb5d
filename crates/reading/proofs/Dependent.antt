-- One reader after another, where what is read first never goes on. It may say what is read behind it.
use Rattle.std.proofs.Common.{◌≡◌, ℕ, false, List, ◌∷◌, ◌++◌, sym}
use Rattle.reading.specs.Readers.{Reader, follow, seq}
use Rattle.reading.specs.Printing.{Alphabet, Next}
use Rattle.reading.specs.Law.{Syntax, Law}
use Rattle.reading.proofs.Texts.{takes_nothing, next_same, next_none}
use Rattle.reading.proofs.Consequences.{some_tree}
use Rattle.reading.proofs.Follow.{Joint, behind_of, follow_law, reads_of}

module _ {I M A B : Type 0} (a : Syntax I M A) (b : A → Syntax I M B) where
  abbrev pub dependent_syntax : Syntax I M (A × B)
  dependent_syntax = record { Good = λ x. a.Good x.0 × (b x.0).Good x.1; print = λ x. a.print x.0 ++ (b x.0).print x.1; takes = λ x. (b x.0).takes x.1 }

abbrev pub seq_syntax : {I M A B : Type 0} → Syntax I M A → Syntax I M B → Syntax I M (A × B)
seq_syntax a b = dependent_syntax a (λ x. b)

module _ {T I M A : Type 0} {G : Alphabet T I M} {R : Reader T A} {a : Syntax I M A} {top : ℕ} (LA : Law G R a top) (ends : (x : A) (p : M) → a.Good x → a.takes x p ≡ false) where
  ended : (x : A) (ts : List T) → a.Good x → Next G (a.takes x) ts
  ended x ts good = next_same G (takes_nothing x) (a.takes x) ts (λ p. sym (ends x p good)) (next_none G ts)

  pub dependent_joint : {B : Type 0} (S : A → Reader T B) (b : A → Syntax I M B) → ((x : A) → a.Good x → Law G (S x) (b x) top) → Joint G top a S b (λ x y. a.Good x × (b x).Good y) (λ x y. (b x).takes y)
  dependent_joint S b LB = record {
    first = λ x y good. good.0;
    second = λ x y good. good.1;
    ends = λ x y text rest good s next. (ended x (text ++ rest) good.0, next);
    joins = λ x y text rest good good' s next next'. ((good, good'), next');
    some = λ x good. let y = some_tree (LB x good) in (y.0, (good, y.1));
    reads = λ x good. reads_of (LB x good);
    fails = λ x ts fault good below next e. let h = (LB x good).fails ts fault e in behind_of G top a S b (λ x y. a.Good x × (b x).Good y) (λ x y. (b x).takes y) x ts fault h (good, h.good);
    steady = λ x c r z t d good next e at. ended x (c ++ t ∷ z) good;
  }

  pub dependent_law : {B : Type 0} (S : A → Reader T B) (b : A → Syntax I M B) → ((x : A) → a.Good x → Law G (S x) (b x) top) → Law G (follow R S) (dependent_syntax a b) top
  dependent_law S b LB = follow_law G top a S b (λ x y. a.Good x × (b x).Good y) (λ x y. (b x).takes y) LA (dependent_joint S b LB)

  pub seq_law : {B : Type 0} {S : Reader T B} {b : Syntax I M B} → Law G S b top → Law G (seq R S) (seq_syntax a b) top
  seq_law {S} {b} LB = dependent_law (λ x. S) (λ x. b) (λ x good. LB)
