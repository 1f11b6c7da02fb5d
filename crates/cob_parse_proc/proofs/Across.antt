-- A law of what takes nothing more holds with other marks too.
use Rattle.std.proofs.Common.{◌≡◌, ℕ, suc, ◌<◌, false, List, [], ◌∷◌, ◌++◌, length, Ok, Err, sym, subst, ◌∙◌}
use Rattle.reading.specs.Readers.{Fault, Stop, Deep, Reader}
use Rattle.reading.specs.Printing.{Alphabet, Matches, Below, Opens, Next}
use Rattle.reading.specs.Law.{Syntax, Law, Read, Fails, At}
use Rattle.reading.proofs.Texts.{takes_nothing, next_none, next_same}

-- tokens fit items alike, and items are as deep
pub record Alike {T I M N : Type 0} (G : Alphabet T I M) (H : Alphabet T I N) : Type 0 where
  pub to : (i : I) (t : T) → G.Fits i t → H.Fits i t
  pub back : (i : I) (t : T) → H.Fits i t → G.Fits i t
  pub depth : (i : I) → G.depth i ≡ H.depth i

module _ {T I M N : Type 0} {G : Alphabet T I M} {H : Alphabet T I N} (A : Alike G H) where
  pub matches_to : (is : List I) (ts : List T) → Matches G is ts → Matches H is ts
  matches_to [] [] m = tt
  matches_to [] (t ∷ ts) m = absurd m
  matches_to (i ∷ is) [] m = absurd m
  matches_to (i ∷ is) (t ∷ ts) m = (A.to i t m.0, matches_to is ts m.1)

  pub matches_back : (is : List I) (ts : List T) → Matches H is ts → Matches G is ts
  matches_back [] [] m = tt
  matches_back [] (t ∷ ts) m = absurd m
  matches_back (i ∷ is) [] m = absurd m
  matches_back (i ∷ is) (t ∷ ts) m = (A.back i t m.0, matches_back is ts m.1)

  pub low_to : (top : ℕ) (is : List I) → Below G top is → Below H top is
  low_to top [] b = tt
  low_to top (i ∷ is) b = (subst (λ (n : ℕ). n < top) (A.depth i) b.0, low_to top is b.1)

  pub low_back : (top : ℕ) (is : List I) → Below H top is → Below G top is
  low_back top [] b = tt
  low_back top (i ∷ is) b = (subst (λ (n : ℕ). n < top) (sym (A.depth i)) b.0, low_back top is b.1)

  opens_to : (top : ℕ) (left : List T) (after : List I) → Opens G top left after → Opens H top left after
  opens_to top [] after o = absurd o
  opens_to top (t ∷ left) [] o = absurd o
  opens_to top (t ∷ left) (i ∷ after) o = (A.to i t o.0, sym (A.depth i) ∙ o.1)

  at_to : (top : ℕ) (d : Fault) (left : List T) (after : List I) → At G top d left after → At H top d left after
  at_to top (Stop n) left after a = a
  at_to top (Deep n) left after a = (a.0, opens_to top left after a.1)

  abbrev pub other_marks : {A : Type 0} → Syntax I M A → Syntax I N A
  other_marks s = record { Good = s.Good; print = s.print; takes = takes_nothing }

  module _ {B : Type 0} {R : Reader T B} {s : Syntax I M B} {top : ℕ} (L : Law G R s top) (ended : (x : B) (p : M) → s.takes x p ≡ false) where
    next_here : (x : B) (rest : List T) → Next G (s.takes x) rest
    next_here x rest = next_same G (takes_nothing x) (s.takes x) rest (λ p. sym (ended x p)) (next_none G rest)

    pub law_across : Law H R (other_marks s) top
    law_across = record { sound = sound; complete = complete; fails = fails; firm = firm }
      where
        sound : (ts : List T) (x : B × List T) → R ts ≡ Ok x → Read H (other_marks s) top ts x.0 x.1
        sound ts x e = let r = L.sound ts x e in record { text = r.text; parts = r.parts; spells = matches_to (s.print x.0) r.text r.spells; good = r.good; below = low_to top (s.print x.0) r.below; next = next_none H x.1 }

        complete : (a : B) (text rest : List T) → Matches H (s.print a) text → s.Good a → Below H top (s.print a) → Next H (takes_nothing a) rest → R (text ++ rest) ≡ Ok (a, rest)
        complete a text rest spells good below next = L.complete a text rest (matches_back (s.print a) text spells) good (low_back top (s.print a) below) (next_here a rest)

        fails : (ts : List T) (d : Fault) → R ts ≡ Err d → Fails H (other_marks s) top ts d
        fails ts d e = let h = L.fails ts d e in record { read = h.read; left = h.left; parts = h.parts; tree = h.tree; good = h.good; before = h.before; after = h.after; text = h.text; spells = matches_to h.before h.read h.spells; below = low_to top h.before h.below; at = at_to top d h.left h.after h.at }

        firm : (q r z text rest : List T) (t : T) (a : B) → R (q ++ t ∷ r) ≡ Err (Stop (suc (length r))) → Matches H (s.print a) text → s.Good a → Below H top (s.print a) → Next H (takes_nothing a) rest → text ++ rest ≡ q ++ t ∷ z → ⊥
        firm q r z text rest t a e spells good below next same = L.firm q r z text rest t a e (matches_back (s.print a) text spells) good (low_back top (s.print a) below) (next_here a rest) same
