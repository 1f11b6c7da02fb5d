-- At least one, and one with others behind tokens of a class.
use Rattle.std.proofs.Common.{◌≡◌, ℕ, ◌<◌, Bool, true, List, [], ◌∷◌, ◌++◌, Option, refl}
use Rattle.reading.specs.Readers.{Reader, branch, plus, chain}
use Rattle.reading.specs.Printing.{Alphabet, begins}
use Rattle.reading.specs.Law.{Syntax, Law}
use Rattle.reading.proofs.Texts.{Always}
use Rattle.reading.proofs.Dependent.{seq_syntax}
use Rattle.reading.proofs.Lead.{Class, lead_syntax, branch_law}
use Rattle.reading.proofs.Starts.{Begins, Starts, OneToken, starts_by_one, begins_first}
use Rattle.reading.proofs.Tail.{tail_syntax, tail_law}
use Rattle.reading.proofs.Many.{is_given, many_syntax, many_tail}

abbrev pub plus_syntax : {I M A : Type 0} → (M → Bool) → M → Syntax I M A → Syntax I M (A × List A)
plus_syntax set m s = tail_syntax s (λ x. many_syntax set s m) is_given m

module _ {I M K A : Type 0} (set : M → Bool) (m : M) (item : K → I) (s : Syntax I M A) where
  abbrev pub link_syntax : Syntax I M (K × A)
  link_syntax = seq_syntax (lead_syntax Always item) s

  abbrev pub chain_syntax : Syntax I M (A × List (K × A))
  chain_syntax = tail_syntax s (λ x. many_syntax set link_syntax m) is_given m

module _ {T I M A : Type 0} {G : Alphabet T I M} {r : Reader T A} {s : Syntax I M A} {top : ℕ} (L : Law G r s top) (set : M → Bool) (m : M) (alike : (x : A) (p : M) → s.Good x → set p ≡ true → s.takes x p ≡ s.takes x m) where
  pub plus_law : Starts G set r s → Law G (plus (begins G set) r) (plus_syntax set m s) top
  plus_law St = tail_law L m alike (λ x. many_tail L set m alike St)

  pub begins_plus : Begins G set s → Begins G set (plus_syntax set m s)
  begins_plus all = begins_first G set s (λ x. many_syntax set s m) (plus_syntax set m s) (λ x good. good.0) (λ x. refl) all

  module _ {K : Type 0} {class : T → Option K} {item : K → I} (C : Class G class Always item) (low : (x : K) → G.depth (item x) < top) (some : K) where
    pub link_law : Law G (branch class (λ x. r)) (link_syntax set m item s) top
    link_law = branch_law C top (λ x allowed. low x) some tt (λ x. r) (λ x. s) (λ x allowed. L)

    -- the tokens of the class begin with one of the marks
    module _ (one : OneToken G set) (tells : (x : K) (t : T) (ts : List T) → G.Fits (item x) t → begins G set (t ∷ ts) ≡ true) where
      pub link_starts : Starts G set (branch class (λ x. r)) (link_syntax set m item s)
      link_starts = starts_by_one G set all one
        where
          all : Begins G set (link_syntax set m item s)
          all x [] rest good spells = absurd spells
          all x (t ∷ text) rest good spells = tells x.0 t (text ++ rest) spells.0

      pub link_alike : (y : K × A) (p : M) → (link_syntax set m item s).Good y → set p ≡ true → (link_syntax set m item s).takes y p ≡ (link_syntax set m item s).takes y m
      link_alike y p good e = alike y.1 p good.1 e

      pub chain_law : Law G (chain (begins G set) class r) (chain_syntax set m item s) top
      chain_law = tail_law L m alike (λ x. many_tail link_law set m link_alike link_starts)
