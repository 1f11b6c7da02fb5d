-- A reader's trees seen as others.
use Rattle.std.proofs.Common.{◌≡◌, ℕ, suc, List, ◌∷◌, ◌++◌, length, Ok, Err, sym, ap, subst, ◌∙◌}
use Rattle.reading.specs.Readers.{Fault, Stop, Reader, seen}
use Rattle.reading.specs.Printing.{Alphabet, Matches, Below, Next}
use Rattle.reading.specs.Law.{Syntax, Read, Fails, Law}
use Rattle.reading.proofs.Results.{bind_ok, ok_is, fault_before}
use Rattle.reading.proofs.Texts.{next_same}

-- The trees of b are those of a, seen by view and taken back by parts.
pub record View {I M A B : Type 0} (a : Syntax I M A) (b : Syntax I M B) (view : A → B) (parts : B → A) : Type 0 where
  pub back : (y : B) → b.Good y → view (parts y) ≡ y
  pub print : (x : A) → a.Good x → b.print (view x) ≡ a.print x
  pub takes : (x : A) (p : M) → a.Good x → b.takes (view x) p ≡ a.takes x p
  pub good : (x : A) → a.Good x → b.Good (view x)
  pub good_back : (y : B) → b.Good y → a.Good (parts y)

module _ {T I M A B : Type 0} {G : Alphabet T I M} {R : Reader T A} {a : Syntax I M A} {b : Syntax I M B} {top : ℕ} {view : A → B} {parts : B → A} (L : Law G R a top) (V : View a b view parts) where
  next_back : (y : B) (rest : List T) → b.Good y → Next G (b.takes y) rest → Next G (a.takes (parts y)) rest
  next_back y rest good n = next_same G (b.takes y) (a.takes (parts y)) rest (λ p. ap (λ (z : B). b.takes z p) (sym (V.back y good)) ∙ V.takes (parts y) p (V.good_back y good)) n

  print_back : (y : B) → b.Good y → b.print y ≡ a.print (parts y)
  print_back y good = ap b.print (sym (V.back y good)) ∙ V.print (parts y) (V.good_back y good)

  sound : (ts : List T) (y : B × List T) → seen view R ts ≡ Ok y → Read G b top ts y.0 y.1
  sound ts y e =
      let p = bind_ok (R ts) (λ x. Ok (view x.0, x.1)) y e in
      let f = L.sound ts p.0 p.1 in
      subst (λ (z : B × List T). Read G b top ts z.0 z.1) (ok_is (view p.0.0, p.0.1) y p.2) (record {
        text = f.text;
        parts = f.parts;
        spells = subst (λ (is : List I). Matches G is f.text) (sym (V.print p.0.0 f.good)) f.spells;
        good = V.good p.0.0 f.good;
        below = subst (Below G top) (sym (V.print p.0.0 f.good)) f.below;
        next = next_same G (a.takes p.0.0) (b.takes (view p.0.0)) p.0.1 (λ q. sym (V.takes p.0.0 q f.good)) f.next;
      })

  complete : (y : B) (text rest : List T) → Matches G (b.print y) text → b.Good y → Below G top (b.print y) → Next G (b.takes y) rest → seen view R (text ++ rest) ≡ Ok (y, rest)
  complete y text rest s good below next =
      let read = L.complete (parts y) text rest (subst (λ (is : List I). Matches G is text) (print_back y good) s) (V.good_back y good) (subst (Below G top) (print_back y good) below) (next_back y rest good next) in
      rw read (ap (λ (z : B). Ok (z, rest)) (V.back y good))

  fails : (ts : List T) (d : Fault) → seen view R ts ≡ Err d → Fails G b top ts d
  fails ts d e =
      let h = L.fails ts d (fault_before (R ts) (λ x. (view x.0, x.1)) d e) in
      record {
        read = h.read;
        left = h.left;
        parts = h.parts;
        tree = view h.tree;
        good = V.good h.tree h.good;
        before = h.before;
        after = h.after;
        text = V.print h.tree h.good ∙ h.text;
        spells = h.spells;
        below = h.below;
        at = h.at;
      }

  firm : (q r z text rest : List T) (t : T) (y : B) → seen view R (q ++ t ∷ r) ≡ Err (Stop (suc (length r))) → Matches G (b.print y) text → b.Good y → Below G top (b.print y) → Next G (b.takes y) rest → text ++ rest ≡ q ++ t ∷ z → ⊥
  firm q r z text rest t y e s good below next same =
      L.firm q r z text rest t (parts y) (fault_before (R (q ++ t ∷ r)) (λ x. (view x.0, x.1)) (Stop (suc (length r))) e)
      (subst (λ (is : List I). Matches G is text) (print_back y good) s) (V.good_back y good) (subst (Below G top) (print_back y good) below) (next_back y rest good next) same

  pub seen_law : Law G (seen view R) b top
  seen_law = record { sound = sound; complete = complete; fails = fails; firm = firm }
