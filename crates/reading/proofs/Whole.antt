-- All tokens of a text: it is a tree's, or the place where reading ends is exact, however deep trees may be.
use Rattle.std.proofs.Common.{◌≡◌, ℕ, suc, ◌+◌, ◌≤◌, ⊎_elim, List, [], ◌∷◌, ◌++◌, length, length-append, Ok, Err, refl, sym, ap, subst, ◌∙◌, arith}
use Rattle.std.proofs.lemmas.List.{append-nil}
use Rattle.reading.specs.Readers.{Fault, Stop, Deep, left_of, Reader, ended, whole}
use Rattle.reading.specs.Printing.{Alphabet, Matches, Below, Next}
use Rattle.reading.specs.Law.{Syntax, Law, Fails, OpensAt, Deepens, Agrees}
use Rattle.reading.proofs.Results.{bind_ok, bind_err, behind_front, fault_is}
use Rattle.reading.proofs.Consequences.{first_is}
use Rattle.reading.proofs.Starts.{OneToken, one_decides}
use Rattle.reading.proofs.Opens.{below_wider}
use Rattle.reading.proofs.Exact.{enough, none_of_any, deep_there}

-- the two cases of what is left
ended_ok : {T A : Type 0} (a b : A) (ts : List T) → ended a ts ≡ Ok b → (ts ≡ []) × (a ≡ b)
ended_ok a b [] e = (refl, cc)
ended_ok a b (t ∷ ts) e = absurd cc

ended_err : {T A : Type 0} (a : A) (ts : List T) (d : Fault) → ended a ts ≡ Err d → d ≡ Stop (length ts)
ended_err a [] d e = absurd cc
ended_err {T} {A} a (t ∷ ts) d e = sym (fault_is {A = A} (Stop (length (t ∷ ts))) d e)

module _ {T I M A : Type 0} {G : Alphabet T I M} {r : Reader T A} {s : Syntax I M A} {top : ℕ} (L : Law G r s top) where
  pub whole_sound : (ts : List T) (a : A) → whole r ts ≡ Ok a → Matches G (s.print a) ts × s.Good a × Below G top (s.print a)
  whole_sound ts a e =
      let p = bind_ok (r ts) (λ x. ended x.0 x.1) a e in
      let f = L.sound ts p.0 p.1 in
      let w = ended_ok p.0.0 a p.0.1 p.2 in
      let text : f.text ≡ ts = sym (f.parts ∙ ap (λ (z : List T). f.text ++ z) w.0 ∙ append-nil f.text) in
      subst (λ (b : A). Matches G (s.print b) ts × s.Good b × Below G top (s.print b)) w.1 (subst (Matches G (s.print p.0.0)) text f.spells, f.good, f.below)

  pub whole_complete : (ts : List T) (a : A) → Matches G (s.print a) ts → s.Good a → Below G top (s.print a) → whole r ts ≡ Ok a
  whole_complete ts a spells good below =
      let read : r ts ≡ Ok (a, []) = ap r (sym (append-nil ts)) ∙ L.complete a ts [] spells good below refl in
      rw read refl

  pub whole_fails : (ts : List T) (d : Fault) → whole r ts ≡ Err d → Fails G s top ts d
  whole_fails ts d e = ⊎_elim (L.fails ts d) left (bind_err (r ts) (λ x. ended x.0 x.1) d e)
    where
      left : (p : A × List T) × (r ts ≡ Ok p) × (ended p.0 p.1 ≡ Err d) → Fails G s top ts d
      left p =
          let f = L.sound ts p.0 p.1 in
          subst (Fails G s top ts) (sym (ended_err p.0.0 p.0.1 d p.2)) (record { read = f.text; left = p.0.1; parts = f.parts; tree = p.0.0; good = f.good; before = s.print p.0.0; after = []; text = sym (append-nil (s.print p.0.0)); spells = f.spells; below = f.below; at = refl })

  module _ (wides : ℕ → Reader T A) (laws : (more : ℕ) → Law G (wides more) s (top + more)) (agree : (more : ℕ) → Agrees r (wides more)) (one : (a : A) → OneToken G (s.takes a)) where
    -- behind a tree that was read, no other goes on with the next token
    left_over : (x b : A) (front after more text : List T) (t : T) → Matches G (s.print x) front → s.Good x → Below G top (s.print x) → Next G (s.takes x) (t ∷ after) → Matches G (s.print b) text → s.Good b → text ≡ front ++ t ∷ more → ⊥
    left_over x b front after more text t fits good_x low_x next_x spells good parts =
        let w = enough G (s.print b) in
        let low : Below G (top + w.0) (s.print b) = below_wider G w.0 (top + w.0) (s.print b) (omega arith) w.1 in
        let next : Next G (s.takes x) (t ∷ more) = one_decides G (s.takes x) (one x) t more after ∙ next_x in
        let same = first_is (laws w.0) front (t ∷ more) text [] x b fits good_x (below_wider G top (top + w.0) (s.print x) (omega arith) low_x) next spells good low refl (append-nil text ∙ parts) in
        let never : [] ≡ t ∷ more = same.1 in
        cc

    -- where it stops before a token, no tree's text goes on with it, however deep
    pub whole_none : (q r' more : List T) (t : T) (b : A) → whole r (q ++ t ∷ r') ≡ Err (Stop (suc (length r'))) → Matches G (s.print b) (q ++ t ∷ more) → s.Good b → ⊥
    whole_none q r' more t b e spells good = ⊎_elim (λ er. none_of_any top wides laws L agree q r' more t b er spells good) left (bind_err (r (q ++ t ∷ r')) (λ x. ended x.0 x.1) (Stop (suc (length r'))) e)
      where
        left : (p : A × List T) × (r (q ++ t ∷ r') ≡ Ok p) × (ended p.0 p.1 ≡ Err (Stop (suc (length r')))) → ⊥
        left p =
            let f = L.sound (q ++ t ∷ r') p.0 p.1 in
            let count : suc (length r') ≡ length p.0.1 = ap left_of (ended_err p.0.0 p.0.1 (Stop (suc (length r'))) p.2) in
            let w = behind_front q r' more f.text p.0.1 t f.parts (omega (arith, count, ap length f.parts, length-append q (t ∷ r'), length-append f.text p.0.1)) in
            left_over p.0.0 b f.text w.1 w.2 (q ++ t ∷ more) w.0 f.spells f.good f.below (subst (Next G (s.takes p.0.0)) w.3 f.next) spells good w.4

    -- where a tree opens one too many, reading tokens that begin so ends there
    pub whole_deep : ((more : ℕ) → Deepens G r s top (top + more)) → ((i : I) → (t : T) × G.Fits i t) → (u v more : List T) (t : T) (a : A) → s.Good a → Matches G (s.print a) (u ++ t ∷ more) → OpensAt G top (s.print a) (length u) → whole r (u ++ t ∷ v) ≡ Err (Deep (suc (length v)))
    whole_deep deep token_of u v more t a good spells o = ⊎_elim (λ e. rw e refl) shorter (deep_there top wides laws L agree deep token_of u more t a good spells o v)
      where
        shorter : (x : A × List T) × (r (u ++ t ∷ v) ≡ Ok x) × (suc (length v) ≤ length x.1) → whole r (u ++ t ∷ v) ≡ Err (Deep (suc (length v)))
        shorter p =
            let f = L.sound (u ++ t ∷ v) p.0 p.1 in
            let w = behind_front u v more f.text p.0.1 t f.parts (omega (arith, p.2, ap length f.parts, length-append u (t ∷ v), length-append f.text p.0.1)) in
            absurd (left_over p.0.0 a f.text w.1 w.2 (u ++ t ∷ more) w.0 f.spells f.good f.below (subst (Next G (s.takes p.0.0)) w.3 f.next) spells good w.4)
