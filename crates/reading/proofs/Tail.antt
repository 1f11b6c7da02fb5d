-- What may stand behind something that may go on: it is left out, or begins with one of some marks.
use Rattle.std.proofs.Common.{◌≡◌, ℕ, suc, Bool, true, false, ◌||◌, List, [], ◌∷◌, ◌++◌, length, Err, refl, sym, subst}
use Rattle.reading.specs.Readers.{left_of, Fault, Reader, follow}
use Rattle.reading.specs.Printing.{Alphabet, Matches, begins, Next}
use Rattle.reading.specs.Law.{Syntax, Law, onward}
use Rattle.reading.proofs.Texts.{matches_nothing, next_both, next_left, next_right, next_at, at_next}
use Rattle.reading.proofs.Follow.{Joint, behind_of, follow_law, reads_of}

-- what is given behind something must not be taken by it
abbrev pub Apart : Bool → Bool → Type 0
Apart false before = Unit {0}
Apart true before = before ≡ false

pub apart : (given before : Bool) → before ≡ false → Apart given before
apart false before e = tt
apart true before e = e

module _ {I M A B : Type 0} (a : Syntax I M A) (b : A → Syntax I M B) (given : B → Bool) (m : M) where
  abbrev pub tail_good : A → B → Type 0
  tail_good x y = a.Good x × (b x).Good y × Apart (given y) (a.takes x m)

  abbrev pub tail_takes : A → B → M → Bool
  tail_takes x y p = onward (given y) (a.takes x p) ((b x).takes y p)

  abbrev pub tail_syntax : Syntax I M (A × B)
  tail_syntax = record { Good = λ x. tail_good x.0 x.1; print = λ x. a.print x.0 ++ (b x.0).print x.1; takes = λ x. tail_takes x.0 x.1 }

pub record Tail {T I M B : Type 0} (G : Alphabet T I M) (set : M → Bool) (given : B → Bool) (S : Reader T B) (b : Syntax I M B) (top : ℕ) : Type 0 where
  pub law : Law G S b top
  pub bare : (y : B) → given y ≡ false → b.print y ≡ []
  pub starts : (y : B) (text rest : List T) → b.Good y → given y ≡ true → Matches G (b.print y) text → begins G set (text ++ rest) ≡ true
  -- where reading ends, it was begun, and the tokens before and the next have decided that
  pub begun : (ts : List T) (d : Fault) → S ts ≡ Err d → begins G set ts ≡ true
  pub decided : (q r z : List T) (t : T) (d : Fault) → S (q ++ t ∷ r) ≡ Err d → left_of d ≡ suc (length r) → begins G set (q ++ t ∷ z) ≡ true
  pub left_out : (y : B) × b.Good y × (given y ≡ false)

module _ {T I M A B : Type 0} {G : Alphabet T I M} {R : Reader T A} {a : Syntax I M A} {top : ℕ} {S : A → Reader T B} {b : A → Syntax I M B} {set : A → M → Bool} {given : B → Bool}
    (LA : Law G R a top) (m : M) (alike : (x : A) (p : M) → a.Good x → set x p ≡ true → a.takes x p ≡ a.takes x m) (tails : (x : A) → Tail G (set x) given (S x) (b x) top) where
  ends : (x : A) (y : B) (text rest : List T) → tail_good a b given m x y → Matches G ((b x).print y) text → Next G (tail_takes a b given m x y) rest → Next G (a.takes x) (text ++ rest) × Next G ((b x).takes y) rest
  ends x y text rest good s next = go (given y) refl good.2 next
    where
      go : (c : Bool) → given y ≡ c → Apart c (a.takes x m) → Next G (λ p. onward c (a.takes x p) ((b x).takes y p)) rest → Next G (a.takes x) (text ++ rest) × Next G ((b x).takes y) rest
      go false eg fit n =
          let bare : text ≡ [] = matches_nothing G text (rw⁻¹ ((tails x).bare y eg) s) in
          (rw bare (next_left G (a.takes x) ((b x).takes y) rest n), next_right G (a.takes x) ((b x).takes y) rest n)
      go true eg fit n = (next_at G (a.takes x) (set x) m (λ p. alike x p good.0) (text ++ rest) ((tails x).starts y text rest good.1 eg s) fit, n)

  joins : (x : A) (y : B) (text rest : List T) → a.Good x → (b x).Good y → Matches G ((b x).print y) text → Next G (a.takes x) (text ++ rest) → Next G ((b x).takes y) rest → tail_good a b given m x y × Next G (tail_takes a b given m x y) rest
  joins x y text rest good good' s next next' = let w = go (given y) refl in ((good, good', w.0), w.1)
    where
      go : (c : Bool) → given y ≡ c → Apart c (a.takes x m) × Next G (λ p. onward c (a.takes x p) ((b x).takes y p)) rest
      go false eg =
          let bare : text ≡ [] = matches_nothing G text (rw⁻¹ ((tails x).bare y eg) s) in
          (tt, next_both G (a.takes x) ((b x).takes y) rest (subst (λ (z : List T). Next G (a.takes x) (z ++ rest)) bare next) next')
      go true eg = (at_next G (a.takes x) (set x) m (λ p. alike x p good) (text ++ rest) ((tails x).starts y text rest good' eg s) next, next')

  pub tail_joint : Joint G top a S b (tail_good a b given m) (tail_takes a b given m)
  tail_joint = record {
    first = λ x y good. good.0;
    second = λ x y good. good.1;
    ends = ends;
    joins = joins;
    some = λ x good. let y = (tails x).left_out in (y.0, (good, y.1, subst (λ (c : Bool). Apart c (a.takes x m)) (sym y.2) tt));
    reads = λ x good. reads_of (tails x).law;
    fails = λ x ts d good below next e.
        let h = (tails x).law.fails ts d e in
        let free = at_next G (a.takes x) (set x) m (λ p. alike x p good) ts ((tails x).begun ts d e) next in
        behind_of G top a S b (tail_good a b given m) (tail_takes a b given m) x ts d h (good, h.good, apart (given h.tree) (a.takes x m) free);
    steady = λ x c r z t d good next e at.
        let free = at_next G (a.takes x) (set x) m (λ p. alike x p good) (c ++ t ∷ r) ((tails x).begun (c ++ t ∷ r) d e) next in
        next_at G (a.takes x) (set x) m (λ p. alike x p good) (c ++ t ∷ z) ((tails x).decided c r z t d e at) free;
  }

  pub tail_law : Law G (follow R S) (tail_syntax a b given m) top
  tail_law = follow_law G top a S b (tail_good a b given m) (tail_takes a b given m) LA tail_joint
