-- What follows from the law of any reader.
use Rattle.std.proofs.Common.{◌≡◌, ℕ, suc, ◌≤◌, ⊎_elim, Bool, false, List, [], ◌∷◌, ◌++◌, length, length-append, Result, Ok, Err, refl, sym, ap, subst, ◌∙◌, arith}
use Rattle.std.proofs.lemmas.List.{append-nil}
use Rattle.std.proofs.lemmas.Bool.{cases_lt}
use Rattle.reading.specs.Readers.{left_of, Fault, Stop, Deep, Reader}
use Rattle.reading.specs.Printing.{Front, Here, Ahead, Alphabet, Matches, Below, on_mark, peek_on, Next}
use Rattle.reading.specs.Law.{Syntax, Read, At, Law}
use Rattle.reading.proofs.Results.{ok_is, cut_at}
use Rattle.reading.proofs.Texts.{opens_more}

pub at_more : {T I M : Type 0} (G : Alphabet T I M) (top : ℕ) (d : Fault) (left : List T) (after js : List I) → At G top d left after → At G top d left (after ++ js)
at_more G top (Stop n) left after js a = a
at_more G top (Deep n) left after js a = (a.0, opens_more G top left after js a.1)

pub at_left : {T I M : Type 0} (G : Alphabet T I M) (top : ℕ) (d : Fault) (left : List T) (after : List I) → At G top d left after → length left ≡ left_of d
at_left G top (Stop n) left after a = a
at_left G top (Deep n) left after a = a.0

module _ {T I M A : Type 0} {G : Alphabet T I M} {R : Reader T A} {s : Syntax I M A} {top : ℕ} (L : Law G R s top) where
  -- where reading ends, it is within the tokens
  pub within : (ts : List T) (d : Fault) → R ts ≡ Err d → left_of d ≤ length ts
  within ts d e = let h = L.fails ts d e in omega (arith, ap length h.parts, length-append h.read h.left, at_left G top d h.left h.after h.at)

  -- some tree is allowed
  pub some_tree : (a : A) × s.Good a
  some_tree = go (R []) refl
    where
      go : (x : Result (A × List T) Fault) → R [] ≡ x → (a : A) × s.Good a
      go (Ok x) e = (x.0, (L.sound [] x e).good)
      go (Err d) e = let h = L.fails [] d e in (h.tree, h.good)

  -- two trees that begin the same tokens, where neither goes on, are one
  pub first_is : (text0 rest0 text rest : List T) (a0 a : A) → Matches G (s.print a0) text0 → s.Good a0 → Below G top (s.print a0) → Next G (s.takes a0) rest0 → Matches G (s.print a) text → s.Good a → Below G top (s.print a) → Next G (s.takes a) rest
      → text ++ rest ≡ text0 ++ rest0 → (a0 ≡ a) × (rest ≡ rest0)
  first_is text0 rest0 text rest a0 a spells0 good0 below0 next0 spells good below next same =
      let read0 = L.complete a0 text0 rest0 spells0 good0 below0 next0 in
      let read = L.complete a text rest spells good below next in
      let both : (a0, rest0) ≡ (a, rest) = ok_is (a0, rest0) (a, rest) (sym read0 ∙ ap R (sym same) ∙ read) in
      (ap (λ (x : A × List T). x.0) both, sym (ap (λ (x : A × List T). x.1) both))

  -- a text has one tree
  pub one_tree : (text : List T) (a a' : A) → Matches G (s.print a) text → s.Good a → Below G top (s.print a) → Matches G (s.print a') text → s.Good a' → Below G top (s.print a') → a ≡ a'
  one_tree text a a' spells good below spells' good' below' = (first_is text [] text [] a a' spells good below refl spells' good' below' refl refl).0

  -- where reading stops before a token, no tree's text goes on with that token
  pub none_goes_on : (q r' more : List T) (t : T) (a : A) → R (q ++ t ∷ r') ≡ Err (Stop (suc (length r'))) → Matches G (s.print a) (q ++ t ∷ more) → s.Good a → Below G top (s.print a) → ⊥
  none_goes_on q r' more t a e spells good below = L.firm q r' more (q ++ t ∷ more) [] t a e spells good below refl (append-nil (q ++ t ∷ more))

  -- no tree within the tokens is longer than the one that is read
  pub longest : (ts text' rest' : List T) (x : A × List T) (a' : A) → R ts ≡ Ok x → Matches G (s.print a') text' → s.Good a' → Below G top (s.print a') → ts ≡ text' ++ rest' → length x.1 ≤ length rest'
  longest ts text' rest' x a' e spells good below same = ⊎_elim (λ lt. longer (omega arith)) (λ le. le) (cases_lt (length rest') (length x.1))
    where
      read : Read G s top ts x.0 x.1
      read = L.sound ts x e

      -- fewer tokens have the same mark in front, or none
      fewer : (takes : M → Bool) (m rest : List T) → Next G takes (m ++ rest) → Next G takes m
      fewer takes [] rest n = refl
      fewer takes (t ∷ u ∷ m) rest n = go (G.front t) n
        where
          go : (o : Front T M) → on_mark G takes (peek_on G o (u ∷ (m ++ rest))) ≡ false → on_mark G takes (peek_on G o (u ∷ m)) ≡ false
          go (Here mark) n0 = n0
          go (Ahead mark) n0 = n0
      fewer takes (t ∷ []) rest n = go (G.front t) n
        where
          go : (o : Front T M) → on_mark G takes (peek_on G o rest) ≡ false → on_mark G takes (peek_on G o []) ≡ false
          go (Here mark) n0 = n0
          go (Ahead mark) n0 = refl

      longer : length rest' ≤ length x.1 → length x.1 ≤ length rest'
      longer le =
          let cut = cut_at text' rest' read.text x.1 (sym same ∙ read.parts) le in
          let next = fewer (s.takes x.0) cut.0 rest' (subst (Next G (s.takes x.0)) cut.1 read.next) in
          let one = first_is read.text cut.0 text' [] x.0 a' read.spells read.good read.below next spells good below refl (append-nil text' ∙ cut.2) in
          omega (arith, ap length cut.1, length-append cut.0 rest', ap length one.1)
