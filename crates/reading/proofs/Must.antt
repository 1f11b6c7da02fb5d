-- What has to stand behind something that may go on, and a token that has to.
use Rattle.std.proofs.Common.{◌≡◌, ℕ, suc, ◌<◌, ◌≤◌, ⊎_elim, Bool, true, false, List, [], ◌∷◌, ◌++◌, length, Option, is_some, Ok, Err, refl, sym, ap, subst, ◌∙◌, append_assoc, arith}
use Rattle.reading.specs.Readers.{left_of, Fault, Stop, Reader, left_on, missing, need, must, stands, closed}
use Rattle.reading.specs.Printing.{Ahead, Alphabet, Matches, Below, on_mark, Next, Front, Here, any_of, goes_by, goes_on}
use Rattle.reading.specs.Law.{Syntax, Law}
use Rattle.reading.proofs.Results.{fault_is}
use Rattle.reading.proofs.Texts.{cases, peek_two, next_one}
use Rattle.reading.proofs.Consequences.{within, some_tree}
use Rattle.reading.proofs.Follow.{Joint, Reads, FailsBehind, behind_of, follow_law}
use Rattle.reading.proofs.Dependent.{seq_syntax}
use Rattle.reading.proofs.Grows.{GoesOn, Shows, Grows}
use Rattle.reading.proofs.Lead.{Class, lead_syntax, lead_law}

-- What ends what is open; and where goes says that x may go on with a token, some tree does, and otherwise that token
-- alone decides that x ends.
pub record Ends {T I M A : Type 0} (G : Alphabet T I M) (a : Syntax I M A) (top : ℕ) (goes : A → T → Bool) (test : List T → Bool) : Type 0 where
  pub ends : (x : A) (ts : List T) → a.Good x → test ts ≡ true → Next G (a.takes x) ts
  pub grows : (x : A) (t : T) → a.Good x → Below G top (a.print x) → goes x t ≡ true → GoesOn G a top (a.print x) t
  pub steady : (x : A) (t : T) → a.Good x → goes x t ≡ false → (mark : T → Option M) → G.front t ≡ Ahead mark → (u : T) → on_mark G (a.takes x) (mark u) ≡ false

-- All marks that hang on a second token, whatever the first.
pub record Seconds {T I M : Type 0} (G : Alphabet T I M) (marks : List M) : Type 0 where
  pub listed : (t : T) (mark : T → Option M) (takes : M → Bool) → G.front t ≡ Ahead mark → any_of G takes marks ≡ false → (u : T) → on_mark G takes (mark u) ≡ false
  pub shown : (t : T) (mark : T → Option M) (takes : M → Bool) → G.front t ≡ Ahead mark → any_of G takes marks ≡ true → (p : M) × (takes p ≡ true) × Shows G t p

-- where each tree that takes such a mark goes on with it
pub ends_by : {T I M A : Type 0} {G : Alphabet T I M} {a : Syntax I M A} {top : ℕ} {test : List T → Bool} (marks : List M) → Seconds G marks → Grows G a top → ((x : A) (ts : List T) → a.Good x → test ts ≡ true → Next G (a.takes x) ts) → Ends G a top (λ x t. goes_on G marks (a.takes x) t) test
ends_by {T} {I} {M} {A} {G} {a} {top} marks seconds grows ends = record { ends = ends; grows = grown; steady = steady }
  where
    grown : (x : A) (t : T) → a.Good x → Below G top (a.print x) → goes_on G marks (a.takes x) t ≡ true → GoesOn G a top (a.print x) t
    grown x t good below e = go (G.front t) refl e
      where
        go : (o : Front T M) → G.front t ≡ o → goes_by G marks (a.takes x) o ≡ true → GoesOn G a top (a.print x) t
        go (Here mark) eo e0 = absurd cc
        go (Ahead mark) eo e0 = let w = seconds.shown t mark (a.takes x) eo e0 in grows x t w.0 good below w.1 w.2

    steady : (x : A) (t : T) → a.Good x → goes_on G marks (a.takes x) t ≡ false → (mark : T → Option M) → G.front t ≡ Ahead mark → (u : T) → on_mark G (a.takes x) (mark u) ≡ false
    steady x t good e mark eo = seconds.listed t mark (a.takes x) eo (sym (ap (goes_by G marks (a.takes x)) eo) ∙ e)

module _ {T I M A B : Type 0} {G : Alphabet T I M} {R : Reader T A} {a : Syntax I M A} {S : Reader T B} {b : Syntax I M B} {top : ℕ} {goes : A → T → Bool} {test : List T → Bool}
    (LA : Law G R a top) (LB : Law G S b top) (E : Ends G a top goes test)
    (all : (y : B) (text rest : List T) → b.Good y → Matches G (b.print y) text → test (text ++ rest) ≡ true)
    (one : (t : T) (y z : List T) → test (t ∷ y) ≡ test (t ∷ z)) where
  there : (x : A) (ts : List T) → test ts ≡ true → need test S (goes x) ts ≡ S ts
  there x ts e = rw e refl

  absent : (x : A) (ts : List T) → test ts ≡ false → need test S (goes x) ts ≡ missing (goes x) ts
  absent x ts e = rw e refl

  missing_reads : (x : A) (ts : List T) (y : B × List T) → missing (goes x) ts ≡ Ok y → ⊥
  missing_reads x [] y e = cc
  missing_reads x (t ∷ ts) y e = cc

  left_within : (c : Bool) (ts : List T) → left_on c ts ≤ suc (length ts)
  left_within true ts = omega arith
  left_within false ts = omega arith

  missing_within : (x : A) (ts : List T) (d : Fault) → missing {B = B} (goes x) ts ≡ Err d → left_of d ≤ length ts
  missing_within x [] d e = omega (arith, ap left_of (fault_is {A = B × List T} (Stop 0) d e))
  missing_within x (t ∷ ts) d e = omega (arith, left_within (goes x t) ts, ap left_of (fault_is {A = B × List T} (Stop (left_on (goes x t) ts)) d e))

  -- the test looks at one token
  moved : (c r z : List T) (t : T) → test (c ++ t ∷ r) ≡ test (c ++ t ∷ z)
  moved [] r z t = one t r z
  moved (u ∷ c) r z t = one u (c ++ t ∷ r) (c ++ t ∷ z)

  reads : (x : A) → Reads G (need test S (goes x)) b top
  reads x = record {
    sound = λ ts y e. ⊎_elim (λ no. absurd (missing_reads x ts y (sym (absent x ts no) ∙ e))) (λ here. LB.sound ts y (sym (there x ts here) ∙ e)) (cases (test ts));
    complete = λ y text rest spells good below next. there x (text ++ rest) (all y text rest good spells) ∙ LB.complete y text rest spells good below next;
    within = λ ts d e. ⊎_elim (λ no. missing_within x ts d (sym (absent x ts no) ∙ e)) (λ here. within LB ts d (sym (there x ts here) ∙ e)) (cases (test ts));
    firm = λ q r z text rest t y e spells good below next same.
        let here : test (q ++ t ∷ r) ≡ true = moved q r z t ∙ (ap test (sym same) ∙ all y text rest good spells) in
        LB.firm q r z text rest t y (sym (there x (q ++ t ∷ r) here) ∙ e) spells good below next same;
  }

  abbrev good_pair : A → B → Type 0
  good_pair x y = a.Good x × b.Good y

  abbrev takes_pair : A → B → M → Bool
  takes_pair x y = b.takes y

  abbrev Behind : A → List T → Fault → Type 0
  Behind x ts d = FailsBehind G top a (λ x. need test S (goes x)) (λ x. b) good_pair takes_pair x ts d

  -- some value, for where any will do
  any : (y : B) × b.Good y
  any = some_tree LB

  at_once : (x : A) (ts : List T) (d : Fault) → a.Good x → d ≡ Stop (length ts) → Behind x ts d
  at_once x ts d good e = subst (Behind x ts) (sym e) (record { read = []; left = ts; parts = refl; tree = (x, any.0); good = (good, any.1); before = []; after = b.print any.0; text = refl; spells = tt; below = tt; at = refl })

  one_later : (x : A) (t : T) (ts : List T) (d : Fault) → a.Good x → Below G top (a.print x) → goes x t ≡ true → d ≡ Stop (length ts) → Behind x (t ∷ ts) d
  one_later x t ts d good below going e =
      let g = E.grows x t good below going in
      subst (Behind x (t ∷ ts)) (sym e) (record {
        read = t ∷ [];
        left = ts;
        parts = refl;
        tree = (g.tree, any.0);
        good = (g.good, any.1);
        before = g.item ∷ [];
        after = g.more ++ b.print any.0;
        text = ap (λ (z : List I). z ++ b.print any.0) g.text ∙ append_assoc (a.print x) (g.item ∷ g.more) (b.print any.0);
        spells = (g.fits, tt);
        below = (g.low, tt);
        at = refl;
      })

  missing_fails : (x : A) (ts : List T) (d : Fault) → a.Good x → Below G top (a.print x) → missing {B = B} (goes x) ts ≡ Err d → Behind x ts d
  missing_fails x [] d good below e = at_once x [] d good (fault_is {A = B × List T} d (Stop 0) (sym e))
  missing_fails x (t ∷ ts) d good below e = go (goes x t) refl (fault_is {A = B × List T} d (Stop (left_on (goes x t) ts)) (sym e))
    where
      go : (c : Bool) → goes x t ≡ c → d ≡ Stop (left_on c ts) → Behind x (t ∷ ts) d
      go true ec e0 = one_later x t ts d good below ec e0
      go false ec e0 = at_once x (t ∷ ts) d good e0

  fails : (x : A) (ts : List T) (d : Fault) → a.Good x → Below G top (a.print x) → Next G (a.takes x) ts → need test S (goes x) ts ≡ Err d → Behind x ts d
  fails x ts d good below next e = ⊎_elim (λ no. missing_fails x ts d good below (sym (absent x ts no) ∙ e))
      (λ here. let h = LB.fails ts d (sym (there x ts here) ∙ e) in behind_of G top a (λ x. need test S (goes x)) (λ x. b) good_pair takes_pair x ts d h (good, h.good)) (cases (test ts))

  -- where it isn't there, one token decides, or two
  missing_steady : (x : A) (c r z : List T) (t : T) (d : Fault) → a.Good x → Next G (a.takes x) (c ++ t ∷ r) → missing {B = B} (goes x) (c ++ t ∷ r) ≡ Err d → left_of d ≡ suc (length r) → Next G (a.takes x) (c ++ t ∷ z)
  missing_steady x (u ∷ []) r z t d good next e at = ap (on_mark G (a.takes x)) (peek_two G u t z r) ∙ next
  missing_steady x (u ∷ v ∷ c) r z t d good next e at = ap (on_mark G (a.takes x)) (peek_two G u v (c ++ t ∷ z) (c ++ t ∷ r)) ∙ next
  missing_steady x [] r z t d good next e at = go (goes x t) refl (ap left_of (fault_is {A = B × List T} (Stop (left_on (goes x t) r)) d e) ∙ at)
    where
      go : (c : Bool) → goes x t ≡ c → left_on c r ≡ suc (length r) → Next G (a.takes x) (t ∷ z)
      go true ec e0 = absurd (omega (arith, e0))
      go false ec e0 = next_one G (a.takes x) t r z (E.steady x t good ec) next

  steady : (x : A) (c r z : List T) (t : T) (d : Fault) → a.Good x → Next G (a.takes x) (c ++ t ∷ r) → need test S (goes x) (c ++ t ∷ r) ≡ Err d → left_of d ≡ suc (length r) → Next G (a.takes x) (c ++ t ∷ z)
  steady x c r z t d good next e at = ⊎_elim (λ no. missing_steady x c r z t d good next (sym (absent x (c ++ t ∷ r) no) ∙ e) at) (λ here. E.ends x (c ++ t ∷ z) good (moved c z r t ∙ here)) (cases (test (c ++ t ∷ r)))

  pub must_joint : Joint G top a (λ x. need test S (goes x)) (λ x. b) good_pair takes_pair
  must_joint = record {
    first = λ x y good. good.0;
    second = λ x y good. good.1;
    ends = λ x y text rest good spells next. (E.ends x (text ++ rest) good.0 (all y text rest good.1 spells), next);
    joins = λ x y text rest good good' spells next next'. ((good, good'), next');
    some = λ x good. (any.0, (good, any.1));
    reads = λ x good. reads x;
    fails = fails;
    steady = steady;
  }

  pub must_law : Law G (must R goes test S) (seq_syntax a b) top
  must_law = follow_law G top a (λ x. need test S (goes x)) (λ x. b) good_pair takes_pair LA must_joint

-- a token that has to stand behind what was read
pub closed_all : {T I M K : Type 0} {G : Alphabet T I M} {class : T → Option K} {Allowed : K → Type 0} {item : K → I} → Class G class Allowed item → (x : K) (text rest : List T) → Allowed x → Matches G (item x ∷ []) text → stands class (text ++ rest) ≡ true
closed_all C x [] rest good spells = absurd spells
closed_all C x (t ∷ text) rest good spells = ap is_some (C.reads x t good spells.0)

module _ {T I M A K : Type 0} {G : Alphabet T I M} {R : Reader T A} {a : Syntax I M A} {class : T → Option K} {Allowed : K → Type 0} {item : K → I} {top : ℕ} {goes : A → T → Bool} where
  pub closed_law : Law G R a top → (C : Class G class Allowed item) → ((x : K) → Allowed x → G.depth (item x) < top) → (some : K) → Allowed some → Ends G a top goes (stands class) → Law G (closed R class goes) (seq_syntax a (lead_syntax Allowed item)) top
  closed_law LA C low some allowed E = must_law LA (lead_law C top low some allowed) E (closed_all C) (λ t y z. refl)
