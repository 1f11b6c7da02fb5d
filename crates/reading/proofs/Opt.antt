-- What may stand behind what was read: what begins with a mark, or a phrase with the tokens that open it.
use Rattle.std.proofs.Common.{◌≡◌, ℕ, suc, Bool, true, false, ◌&&◌, List, [], ◌∷◌, ◌++◌, length, Option, Some, None, is_some, Err, refl, sym, ap, ◌∙◌, append_assoc}
use Rattle.reading.specs.Readers.{left_of, Fault, Reader, here_on, here_if, behind_on, behind, both_behind_on, both_behind, opt, optional, with_phrase}
use Rattle.reading.specs.Printing.{Alphabet, Matches, Below, begins}
use Rattle.reading.specs.Law.{Syntax, Law}
use Rattle.reading.proofs.Texts.{Always, matches_nothing, matches_split, next_none, both_true}
use Rattle.reading.proofs.Lead.{Class}
use Rattle.reading.proofs.Starts.{Starts}
use Rattle.reading.proofs.Optional.{optional_syntax, Opener, optional_law, optional_begun, optional_decided, print_option, good_option}
use Rattle.reading.proofs.Tail.{Tail, tail_syntax, tail_law}

-- only where a condition holds
abbrev pub when : {I M B : Type 0} → Type 0 → Syntax I M B → Syntax I M B
when Holds b = record { Good = λ y. b.Good y × Holds; print = b.print; takes = b.takes }

pub when_law : {T I M B : Type 0} {G : Alphabet T I M} {S : Reader T B} {b : Syntax I M B} {top : ℕ} {Holds : Type 0} → Law G S b top → Holds → Law G S (when Holds b) top
when_law {T} {I} {M} {B} {G} {S} {b} {top} {Holds} L holds = record {
  sound = λ ts x e. let f = L.sound ts x e in record { text = f.text; parts = f.parts; spells = f.spells; good = (f.good, holds); below = f.below; next = f.next };
  complete = λ y text rest spells good below next. L.complete y text rest spells good.0 below next;
  fails = λ ts d e. let h = L.fails ts d e in record { read = h.read; left = h.left; parts = h.parts; tree = h.tree; good = (h.good, holds); before = h.before; after = h.after; text = h.text; spells = h.spells; below = h.below; at = h.at };
  firm = λ q r z text rest t y e spells good below next same. L.firm q r z text rest t y e spells good.0 below next same;
}

-- what may be left out can stand behind something open
module _ {T I M B : Type 0} {G : Alphabet T I M} {set : M → Bool} {its : List I} {cut : List T → Option (List T)} {S : Reader T B} {b : Syntax I M B} {top : ℕ}
    (O : Opener G set its cut S b top) (LB : (ts rest : List T) → cut ts ≡ Some rest → Law G S b top) where
  pub optional_tail : Tail G set is_some (optional cut S) (optional_syntax set its b) top
  optional_tail = record {
    law = optional_law O LB;
    bare = bare;
    starts = starts;
    begun = optional_begun O LB;
    decided = optional_decided O LB;
    left_out = (None, tt, refl);
  }
    where
      bare : (x : Option B) → is_some x ≡ false → print_option set its b x ≡ []
      bare None e = refl
      bare (Some y) e = absurd cc

      starts : (x : Option B) (text rest : List T) → good_option set its b x → is_some x ≡ true → Matches G (print_option set its b x) text → begins G set (text ++ rest) ≡ true
      starts None text rest good given spells = absurd cc
      starts (Some y) text rest good given spells =
          let w = matches_split G its (b.print y) text spells in
          ap (begins G set) (ap (λ (z : List T). z ++ rest) w.2 ∙ append_assoc w.0 w.1 rest) ∙ O.stands (w.0 ++ (w.1 ++ rest)) (w.1 ++ rest) (O.reads y w.0 w.1 rest good w.3 w.4)

-- what begins with a mark, where it may: each tree holds that it may
module _ {T I M B : Type 0} {G : Alphabet T I M} {set : M → Bool} {S : Reader T B} {b : Syntax I M B} (St : Starts G set S b) (may : Bool) (holds : (y : B) → b.Good y → may ≡ true) (top : ℕ) where
  abbrev guarded : M → Bool
  guarded p = may && set p

  abbrev test : List T → Bool
  test ts = may && begins G set ts

  tests : (c : Bool) (ts : List T) → begins G (λ p. c && set p) ts ≡ (c && begins G set ts)
  tests true ts = refl
  tests false ts = next_none G ts

  here : (ts rest : List T) → here_if test ts ≡ Some rest → (test ts ≡ true) × (ts ≡ rest)
  here ts rest e = go (test ts) refl e
    where
      go : (c : Bool) → test ts ≡ c → here_on c ts ≡ Some rest → (test ts ≡ true) × (ts ≡ rest)
      go true ec e0 = (ec, cc)
      go false ec e0 = absurd cc

  there : (ts : List T) → may ≡ true → begins G set ts ≡ true → here_if test ts ≡ Some ts
  there ts e b = rw (e, b) refl

  pub opener_here : Opener G guarded [] (here_if test) S b top
  opener_here = record { found = found; stands = stands; none = none; reads = reads; decided = decided; low = tt }
    where
      found : (ts rest : List T) → here_if test ts ≡ Some rest → (o : List T) × (ts ≡ o ++ rest) × Matches G [] o
      found ts rest e = ([], (here ts rest e).1, tt)

      stands : (ts rest : List T) → here_if test ts ≡ Some rest → begins G guarded ts ≡ true
      stands ts rest e = tests may ts ∙ (here ts rest e).0

      none : (ts : List T) → here_if test ts ≡ None → begins G guarded ts ≡ false
      none ts e = tests may ts ∙ go (test ts) e
        where
          go : (c : Bool) → here_on c ts ≡ None → c ≡ false
          go false e0 = refl
          go true e0 = absurd cc

      reads : (y : B) (o text rest : List T) → b.Good y → Matches G [] o → Matches G (b.print y) text → here_if test (o ++ (text ++ rest)) ≡ Some (text ++ rest)
      reads y o text rest good m spells = rw (matches_nothing G o m) (there (text ++ rest) (holds y good) (St.starts y text rest good spells))

      decided : (o c r z : List T) (t : T) (d : Fault) → Matches G [] o → here_if test (o ++ (c ++ t ∷ r)) ≡ Some (c ++ t ∷ r) → S (c ++ t ∷ r) ≡ Err d → left_of d ≡ suc (length r) → here_if test (o ++ (c ++ t ∷ z)) ≡ Some (c ++ t ∷ z)
      decided o c r z t d m e stop at =
          let nothing : o ≡ [] = matches_nothing G o m in
          let w = here (c ++ t ∷ r) (c ++ t ∷ r) (ap (λ (y : List T). here_if test (y ++ (c ++ t ∷ r))) (sym nothing) ∙ e) in
          let b = both_true may (begins G set (c ++ t ∷ r)) w.0 in
          rw nothing (there (c ++ t ∷ z) b.0 (St.decided c r z t d b.1 stop at))

module _ {I M A B : Type 0} (a : Syntax I M A) (may : A → Bool) (set : M → Bool) (m : M) (b : Syntax I M B) where
  abbrev pub opt_syntax : Syntax I M (A × Option B)
  opt_syntax = tail_syntax a (λ x. optional_syntax (λ p. may x && set p) [] (when (may x ≡ true) b)) is_some m

module _ {T I M A B : Type 0} {G : Alphabet T I M} {S : Reader T B} {b : Syntax I M B} {top : ℕ} (LB : Law G S b top) (may : A → Bool) (set : M → Bool) (St : Starts G set S b) (x : A) where
  when_starts : Starts G set S (when (may x ≡ true) b)
  when_starts = record { starts = λ y text rest good spells. St.starts y text rest good.0 spells; decided = St.decided }

  pub opt_opener : Opener G (λ p. may x && set p) [] (here_if (λ us. may x && begins G set us)) S (when (may x ≡ true) b) top
  opt_opener = opener_here when_starts (may x) (λ y good. good.1) top

  pub opt_laws : (ts rest : List T) → here_if (λ us. may x && begins G set us) ts ≡ Some rest → Law G S (when (may x ≡ true) b) top
  opt_laws ts rest e = when_law LB (both_true (may x) (begins G set ts) (here when_starts (may x) (λ y good. good.1) top ts rest e).0).0

  pub opt_tail : Tail G (λ p. may x && set p) is_some (optional (here_if (λ us. may x && begins G set us)) S) (optional_syntax (λ p. may x && set p) [] (when (may x ≡ true) b)) top
  opt_tail = optional_tail opt_opener opt_laws

module _ {T I M A B : Type 0} {G : Alphabet T I M} {R : Reader T A} {a : Syntax I M A} {S : Reader T B} {b : Syntax I M B} {top : ℕ} where
  pub opt_law : Law G R a top → Law G S b top → (may : A → Bool) (set : M → Bool) (m : M) → ((x : A) (p : M) → a.Good x → set p ≡ true → a.takes x p ≡ a.takes x m) → Starts G set S b
      → Law G (opt R (λ x ts. may x && begins G set ts) S) (opt_syntax a may set m b) top
  opt_law LA LB may set m alike St = tail_law LA m (λ x p good e. alike x p good (both_true (may x) (set p) e).1) (λ x. opt_tail LB may set St x)

-- The tokens that open a phrase: they alone decide that it stands, and a mark tells it.
pub record Opening {T I M : Type 0} (G : Alphabet T I M) (set : M → Bool) (its : List I) (cut : List T → Option (List T)) : Type 0 where
  pub tells : (ts : List T) → begins G set ts ≡ is_some (cut ts)
  pub found : (ts rest : List T) → cut ts ≡ Some rest → (o : List T) × (ts ≡ o ++ rest) × Matches G its o
  pub reads : (o rest : List T) → Matches G its o → cut (o ++ rest) ≡ Some rest

module _ {T I M B : Type 0} {G : Alphabet T I M} {set : M → Bool} {its : List I} {cut : List T → Option (List T)} (O : Opening G set its cut) where
  pub opener_of : (S : Reader T B) (b : Syntax I M B) (top : ℕ) → Below G top its → Opener G set its cut S b top
  opener_of S b top low = record {
    found = O.found;
    stands = λ ts rest e. O.tells ts ∙ ap is_some e;
    none = λ ts e. O.tells ts ∙ ap is_some e;
    reads = λ y o text rest good m spells. O.reads o (text ++ rest) m;
    decided = λ o c r z t d m e stop at. O.reads o (c ++ t ∷ z) m;
    low = low;
  }

abbrev pub phrase_syntax : {I M A B : Type 0} → Syntax I M A → (M → Bool) → M → List I → Syntax I M B → Syntax I M (A × Option B)
phrase_syntax a set m its b = tail_syntax a (λ x. optional_syntax set its b) is_some m

module _ {T I M A B : Type 0} {G : Alphabet T I M} {R : Reader T A} {a : Syntax I M A} {S : Reader T B} {b : Syntax I M B} {top : ℕ} where
  pub phrase_law : {set : M → Bool} {its : List I} {cut : List T → Option (List T)} → Law G R a top → Law G S b top → Opening G set its cut → Below G top its → (m : M) → ((x : A) (p : M) → a.Good x → set p ≡ true → a.takes x p ≡ a.takes x m)
      → Law G (with_phrase R cut S) (phrase_syntax a set m its b) top
  phrase_law LA LB O low m alike = tail_law LA m alike (λ x. optional_tail (opener_of O S b top low) (λ ts rest e. LB))

-- what begins with a mark, wherever it does
module _ {T I M A B : Type 0} {G : Alphabet T I M} {R : Reader T A} {a : Syntax I M A} {S : Reader T B} {b : Syntax I M B} {top : ℕ} where
  pub plain_law : Law G R a top → Law G S b top → (set : M → Bool) (m : M) → ((x : A) (p : M) → a.Good x → set p ≡ true → a.takes x p ≡ a.takes x m) → Starts G set S b → Law G (with_phrase R (here_if (begins G set)) S) (phrase_syntax a set m [] b) top
  plain_law LA LB set m alike St = tail_law LA m alike (λ x. optional_tail (opener_here St true (λ y good. refl) top) (λ ts rest e. LB))

-- a phrase that one token opens
module _ {T I M K : Type 0} {G : Alphabet T I M} {class : T → Option K} {item : K → I} (C : Class G class Always item) (one : (x y : K) → x ≡ y) (some : K) (set : M → Bool) where
  pub one_opening : ((ts : List T) → begins G set ts ≡ is_some (behind class ts)) → Opening G set (item some ∷ []) (behind class)
  one_opening tells = record { tells = tells; found = found; reads = reads }
    where
      found : (ts rest : List T) → behind class ts ≡ Some rest → (o : List T) × (ts ≡ o ++ rest) × Matches G (item some ∷ []) o
      found [] rest e = absurd cc
      found (t ∷ ts) rest e = go (class t) refl e
        where
          go : (o : Option K) → class t ≡ o → behind_on o ts ≡ Some rest → (u : List T) × (t ∷ ts ≡ u ++ rest) × Matches G (item some ∷ []) u
          go None eo e0 = absurd cc
          go (Some x) eo e0 =
              let same : ts ≡ rest = cc in
              (t ∷ [], ap (λ (z : List T). t ∷ z) same, (rw (one some x) (C.only t x eo).1, tt))

      reads : (o rest : List T) → Matches G (item some ∷ []) o → behind class (o ++ rest) ≡ Some rest
      reads [] rest m = absurd m
      reads (t ∷ []) rest m = rw (C.reads some t tt m.0) refl
      reads (t ∷ u ∷ o) rest m = absurd m.1

-- and one that two open
module _ {T I M K J : Type 0} {G : Alphabet T I M} {first : T → Option K} {second : T → Option J} {item : K → I} {item' : J → I} (C : Class G first Always item) (D : Class G second Always item')
    (one : (x y : K) → x ≡ y) (one' : (x y : J) → x ≡ y) (some : K) (some' : J) (set : M → Bool) where
  pub two_opening : ((ts : List T) → begins G set ts ≡ is_some (both_behind first second ts)) → Opening G set (item some ∷ item' some' ∷ []) (both_behind first second)
  two_opening tells = record { tells = tells; found = found; reads = reads }
    where
      found_second : (ts rest : List T) → behind second ts ≡ Some rest → (u : T) × (ts ≡ u ∷ rest) × G.Fits (item' some') u
      found_second [] rest e = absurd cc
      found_second (t ∷ ts) rest e = go (second t) refl e
        where
          go : (o : Option J) → second t ≡ o → behind_on o ts ≡ Some rest → (u : T) × (t ∷ ts ≡ u ∷ rest) × G.Fits (item' some') u
          go None eo e0 = absurd cc
          go (Some x) eo e0 =
              let same : ts ≡ rest = cc in
              (t, ap (λ (z : List T). t ∷ z) same, rw (one' some' x) (D.only t x eo).1)

      found : (ts rest : List T) → both_behind first second ts ≡ Some rest → (o : List T) × (ts ≡ o ++ rest) × Matches G (item some ∷ item' some' ∷ []) o
      found [] rest e = absurd cc
      found (t ∷ ts) rest e = go (first t) refl e
        where
          go : (o : Option K) → first t ≡ o → both_behind_on o second ts ≡ Some rest → (u : List T) × (t ∷ ts ≡ u ++ rest) × Matches G (item some ∷ item' some' ∷ []) u
          go None eo e0 = absurd cc
          go (Some x) eo e0 =
              let w = found_second ts rest e0 in
              (t ∷ w.0 ∷ [], ap (λ (z : List T). t ∷ z) w.1, (rw (one some x) (C.only t x eo).1, (w.2, tt)))

      reads : (o rest : List T) → Matches G (item some ∷ item' some' ∷ []) o → both_behind first second (o ++ rest) ≡ Some rest
      reads [] rest m = absurd m
      reads (t ∷ []) rest m = absurd m.1
      reads (t ∷ u ∷ []) rest m = rw (C.reads some t tt m.0, D.reads some' u tt m.1.0) refl
      reads (t ∷ u ∷ v ∷ o) rest m = absurd m.1.1
