-- One reader after another, in general: what each pair of the two must keep so that the law of the whole follows.
use Rattle.std.proofs.Common.{◌≡◌, ℕ, suc, ◌≤◌, ⊎_elim, Bool, List, ◌∷◌, ◌++◌, length, Result, Ok, Err, refl, sym, ap, subst, ◌∙◌, append_assoc}
use Rattle.reading.specs.Readers.{left_of, Fault, Stop, Reader, ◌>>=◌, follow}
use Rattle.reading.specs.Printing.{Alphabet, Matches, Below, Next}
use Rattle.reading.specs.Law.{Syntax, Read, At, Fails, Law}
use Rattle.reading.proofs.Results.{bind_ok, bind_err, ok_is, fault_before, cut_at}
use Rattle.reading.proofs.Texts.{matches_join, matches_split, below_join, below_left, below_right}
use Rattle.reading.proofs.Consequences.{within, first_is, at_more}

-- the law but for where reading ends
pub record Reads {T I M A : Type 0} (G : Alphabet T I M) (r : Reader T A) (s : Syntax I M A) (top : ℕ) : Type 0 where
  pub sound : (ts : List T) (x : A × List T) → r ts ≡ Ok x → Read G s top ts x.0 x.1
  pub complete : (a : A) (text rest : List T) → Matches G (s.print a) text → s.Good a → Below G top (s.print a) → Next G (s.takes a) rest → r (text ++ rest) ≡ Ok (a, rest)
  pub within : (ts : List T) (d : Fault) → r ts ≡ Err d → left_of d ≤ length ts
  pub firm : (q r' z text rest : List T) (t : T) (a : A) → r (q ++ t ∷ r') ≡ Err (Stop (suc (length r'))) → Matches G (s.print a) text → s.Good a → Below G top (s.print a) → Next G (s.takes a) rest → text ++ rest ≡ q ++ t ∷ z → ⊥

pub reads_of : {T I M A : Type 0} {G : Alphabet T I M} {r : Reader T A} {s : Syntax I M A} {top : ℕ} → Law G r s top → Reads G r s top
reads_of L = record { sound = L.sound; complete = L.complete; within = within L; firm = L.firm }

module _ {T I M A B : Type 0} (G : Alphabet T I M) (top : ℕ) (a : Syntax I M A) (S : A → Reader T B) (b : A → Syntax I M B) (Good : A → B → Type 0) (takes : A → B → M → Bool) where
  abbrev pub pair : Syntax I M (A × B)
  pair = record { Good = λ x. Good x.0 x.1; print = λ x. a.print x.0 ++ (b x.0).print x.1; takes = λ x p. takes x.0 x.1 p }

  -- Where reading ends behind x, some pair goes on: its text begins with that of x.
  pub record FailsBehind (x : A) (ts : List T) (fault : Fault) : Type 0 where
    pub read : List T
    pub left : List T
    pub parts : ts ≡ read ++ left
    pub tree : A × B
    pub good : Good tree.0 tree.1
    pub before : List I
    pub after : List I
    pub text : pair.print tree ≡ a.print x ++ (before ++ after)
    pub spells : Matches G before read
    pub below : Below G top before
    pub at : At G top fault left after

  pub behind_of : (x : A) (ts : List T) (fault : Fault) (h : Fails G (b x) top ts fault) → Good x h.tree → FailsBehind x ts fault
  behind_of x ts fault h good = record {
    read = h.read;
    left = h.left;
    parts = h.parts;
    tree = (x, h.tree);
    good = good;
    before = h.before;
    after = h.after;
    text = ap (λ (z : List I). a.print x ++ z) h.text;
    spells = h.spells;
    below = h.below;
    at = h.at;
  }

  pub record Joint : Type 0 where
    pub first : (x : A) (y : B) → Good x y → a.Good x
    pub second : (x : A) (y : B) → Good x y → (b x).Good y
    -- the first ends where the second begins, and this where the pair does
    pub ends : (x : A) (y : B) (text rest : List T) → Good x y → Matches G ((b x).print y) text → Next G (takes x y) rest → Next G (a.takes x) (text ++ rest) × Next G ((b x).takes y) rest
    pub joins : (x : A) (y : B) (text rest : List T) → a.Good x → (b x).Good y → Matches G ((b x).print y) text → Next G (a.takes x) (text ++ rest) → Next G ((b x).takes y) rest → Good x y × Next G (takes x y) rest
    -- something may always stand behind the first
    pub some : (x : A) → a.Good x → (y : B) × Good x y
    pub reads : (x : A) → a.Good x → Reads G (S x) (b x) top
    pub fails : (x : A) (ts : List T) (fault : Fault) → a.Good x → Below G top (a.print x) → Next G (a.takes x) ts → S x ts ≡ Err fault → FailsBehind x ts fault
    -- where reading the second ends, the tokens before and the next have decided that the first ended
    pub steady : (x : A) (c r z : List T) (t : T) (d : Fault) → a.Good x → Next G (a.takes x) (c ++ t ∷ r) → S x (c ++ t ∷ r) ≡ Err d → left_of d ≡ suc (length r) → Next G (a.takes x) (c ++ t ∷ z)

  module _ {R : Reader T A} (LA : Law G R a top) (J : Joint) where
    abbrev then_b : A × List T → Result ((A × B) × List T) Fault
    then_b p = S p.0 p.1 >>= λ y. Ok ((p.0, y.0), y.1)

    sound : (ts : List T) (x : (A × B) × List T) → follow R S ts ≡ Ok x → Read G pair top ts x.0 x.1
    sound ts x e =
        let p = bind_ok (R ts) then_b x e in
        let q = bind_ok (S p.0.0 p.0.1) (λ y. Ok ((p.0.0, y.0), y.1)) x p.2 in
        let f = LA.sound ts p.0 p.1 in
        let g = (J.reads p.0.0 f.good).sound p.0.1 q.0 q.1 in
        let j = J.joins p.0.0 q.0.0 g.text q.0.1 f.good g.good g.spells (subst (Next G (a.takes p.0.0)) g.parts f.next) g.next in
        subst (λ (z : (A × B) × List T). Read G pair top ts z.0 z.1) (ok_is ((p.0.0, q.0.0), q.0.1) x q.2) (record {
          text = f.text ++ g.text;
          parts = f.parts ∙ ap (λ (z : List T). f.text ++ z) g.parts ∙ sym (append_assoc f.text g.text q.0.1);
          spells = matches_join G (a.print p.0.0) ((b p.0.0).print q.0.0) f.text g.text f.spells g.spells;
          good = j.0;
          below = below_join G top (a.print p.0.0) ((b p.0.0).print q.0.0) f.below g.below;
          next = j.1;
        })

    -- a pair's text is that of its parts
    record Parts (x : A) (y : B) (text rest : List T) : Type 0 where
      front : List T
      back : List T
      parts : text ++ rest ≡ front ++ (back ++ rest)
      spells : Matches G (a.print x) front
      spells_back : Matches G ((b x).print y) back
      good : a.Good x
      good_back : (b x).Good y
      below : Below G top (a.print x)
      below_back : Below G top ((b x).print y)
      next : Next G (a.takes x) (back ++ rest)
      next_back : Next G ((b x).takes y) rest

    parts_of : (x : A) (y : B) (text rest : List T) → Matches G (pair.print (x, y)) text → Good x y → Below G top (pair.print (x, y)) → Next G (takes x y) rest → Parts x y text rest
    parts_of x y text rest s good below next =
        let w = matches_split G (a.print x) ((b x).print y) text s in
        let n = J.ends x y w.1 rest good w.4 next in
        record {
          front = w.0;
          back = w.1;
          parts = ap (λ (z : List T). z ++ rest) w.2 ∙ append_assoc w.0 w.1 rest;
          spells = w.3;
          spells_back = w.4;
          good = J.first x y good;
          good_back = J.second x y good;
          below = below_left G top (a.print x) ((b x).print y) below;
          below_back = below_right G top (a.print x) ((b x).print y) below;
          next = n.0;
          next_back = n.1;
        }

    complete : (x : A × B) (text rest : List T) → Matches G (pair.print x) text → pair.Good x → Below G top (pair.print x) → Next G (pair.takes x) rest → follow R S (text ++ rest) ≡ Ok (x, rest)
    complete x text rest s good below next =
        let w = parts_of x.0 x.1 text rest s good below next in
        let f = LA.complete x.0 w.front (w.back ++ rest) w.spells w.good w.below w.next in
        let g = (J.reads x.0 w.good).complete x.1 w.back rest w.spells_back w.good_back w.below_back w.next_back in
        rw (w.parts, f, g) refl

    fails : (ts : List T) (fault : Fault) → follow R S ts ≡ Err fault → Fails G pair top ts fault
    fails ts fault e = ⊎_elim at_first at_second (bind_err (R ts) then_b fault e)
      where
        at_first : R ts ≡ Err fault → Fails G pair top ts fault
        at_first ea =
            let s = LA.fails ts fault ea in
            let y = J.some s.tree s.good in
            record {
              read = s.read;
              left = s.left;
              parts = s.parts;
              tree = (s.tree, y.0);
              good = y.1;
              before = s.before;
              after = s.after ++ (b s.tree).print y.0;
              text = ap (λ (z : List I). z ++ (b s.tree).print y.0) s.text ∙ append_assoc s.before s.after ((b s.tree).print y.0);
              spells = s.spells;
              below = s.below;
              at = at_more G top fault s.left s.after ((b s.tree).print y.0) s.at;
            }

        at_second : (p : A × List T) × (R ts ≡ Ok p) × (then_b p ≡ Err fault) → Fails G pair top ts fault
        at_second w =
            let f = LA.sound ts w.0 w.1 in
            let s = J.fails w.0.0 w.0.1 fault f.good f.below f.next (fault_before (S w.0.0 w.0.1) (λ y. ((w.0.0, y.0), y.1)) fault w.2) in
            record {
              read = f.text ++ s.read;
              left = s.left;
              parts = f.parts ∙ ap (λ (z : List T). f.text ++ z) s.parts ∙ sym (append_assoc f.text s.read s.left);
              tree = s.tree;
              good = s.good;
              before = a.print w.0.0 ++ s.before;
              after = s.after;
              text = s.text ∙ sym (append_assoc (a.print w.0.0) s.before s.after);
              spells = matches_join G (a.print w.0.0) s.before f.text s.read f.spells s.spells;
              below = below_join G top (a.print w.0.0) s.before f.below s.below;
              at = s.at;
            }

    firm : (q r z text rest : List T) (t : T) (x : A × B) → follow R S (q ++ t ∷ r) ≡ Err (Stop (suc (length r))) → Matches G (pair.print x) text → pair.Good x → Below G top (pair.print x) → Next G (pair.takes x) rest → text ++ rest ≡ q ++ t ∷ z → ⊥
    firm q r z text rest t x e s good below next same = ⊎_elim at_first at_second (bind_err (R (q ++ t ∷ r)) then_b (Stop (suc (length r))) e)
      where
        w : Parts x.0 x.1 text rest
        w = parts_of x.0 x.1 text rest s good below next

        same' : w.front ++ (w.back ++ rest) ≡ q ++ t ∷ z
        same' = sym w.parts ∙ same

        at_first : R (q ++ t ∷ r) ≡ Err (Stop (suc (length r))) → ⊥
        at_first ea = LA.firm q r z w.front (w.back ++ rest) t x.0 ea w.spells w.good w.below w.next same'

        -- with the first part as it was read, the second is firm
        behind : (x' : A) → x' ≡ x.0 → (c : List T) → S x' (c ++ t ∷ r) ≡ Err (Stop (suc (length r))) → w.back ++ rest ≡ c ++ t ∷ z → ⊥
        behind x' ex c es same_back = (J.reads x.0 w.good).firm c r z w.back rest t x.1 (ap (λ (y : A). S y (c ++ t ∷ r)) (sym ex) ∙ es) w.spells_back w.good_back w.below_back w.next_back same_back

        at_second : (p : A × List T) × (R (q ++ t ∷ r) ≡ Ok p) × (then_b p ≡ Err (Stop (suc (length r)))) → ⊥
        at_second p =
            let es = fault_before (S p.0.0 p.0.1) (λ y. ((p.0.0, y.0), y.1)) (Stop (suc (length r))) p.2 in
            let f = LA.sound (q ++ t ∷ r) p.0 p.1 in
            let cut = cut_at q (t ∷ r) f.text p.0.1 f.parts ((J.reads p.0.0 f.good).within p.0.1 (Stop (suc (length r))) es) in
            let stop : S p.0.0 (cut.0 ++ t ∷ r) ≡ Err (Stop (suc (length r))) = sym (ap (S p.0.0) cut.1) ∙ es in
            let still = J.steady p.0.0 cut.0 r z t (Stop (suc (length r))) f.good (subst (Next G (a.takes p.0.0)) cut.1 f.next) stop refl in
            let goes : w.front ++ (w.back ++ rest) ≡ f.text ++ (cut.0 ++ t ∷ z) = same' ∙ ap (λ (y : List T). y ++ t ∷ z) cut.2 ∙ append_assoc f.text cut.0 (t ∷ z) in
            let one = first_is LA f.text (cut.0 ++ t ∷ z) w.front (w.back ++ rest) p.0.0 x.0 f.spells f.good f.below still w.spells w.good w.below w.next goes in
            behind p.0.0 one.0 cut.0 stop one.1

    pub follow_law : Law G (follow R S) pair top
    follow_law = record { sound = sound; complete = complete; fails = fails; firm = firm }
