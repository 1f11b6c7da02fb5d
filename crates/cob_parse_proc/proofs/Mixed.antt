-- One reader behind another, where what was read first says in which way something stands behind it: nothing does, it
-- may, or it has to.
use Rattle.std.proofs.Common.{◌≡◌, ℕ, suc, ◌≤◌, ◌⊎◌, inl, inr, ⊎_elim, Bool, true, false, ◌||◌, List, [], ◌∷◌, ◌++◌, length, Option, Ok, Err, refl, sym, ap, subst, ◌∙◌, append_assoc, arith}
use Rattle.std.proofs.lemmas.List.{append-nil}
use Rattle.reading.specs.Readers.{left_of, Fault, Stop, Reader, left_on, missing, need, follow}
use Rattle.reading.specs.Printing.{Ahead, Alphabet, Matches, Below, on_mark, Next}
use Rattle.reading.specs.Law.{Syntax, Law, Read, Fails, onward}
use Rattle.reading.proofs.Results.{ok_is, ok_fails, fault_is}
use Rattle.reading.proofs.Texts.{cases, matches_nothing, peek_two, next_one, next_none, next_same, next_both, next_left, next_right, next_at, at_next, below_left, below_right}
use Rattle.reading.proofs.Consequences.{within, some_tree}
use Rattle.reading.proofs.Follow.{Joint, Reads, FailsBehind, behind_of, reads_of, follow_law}
use Rattle.reading.proofs.Tail.{Apart, apart, Tail}
use Rattle.reading.proofs.Grows.{GoesOn, Grows}

or_cases : (c d : Bool) → (c || d) ≡ true → (c ≡ true) ⊎ ((c ≡ false) × (d ≡ true))
or_cases true d e = inl refl
or_cases false d e = inr (refl, e)

-- how something stands behind
pub data Style (M : Type 0) : Type 0 where
  nothing : Style M
  -- it may be left out, and isn't where the mark is taken by what stands before
  phrase : M → Style M
  needed : Style M

abbrev pub Fit : {M : Type 0} → Style M → (M → Bool) → Bool → Type 0
Fit nothing before given = Unit {0}
Fit (phrase m) before given = Apart given (before m)
Fit needed before given = Unit {0}

abbrev pub on_style : {M : Type 0} → Style M → Bool → Bool → Bool → Bool
on_style nothing given before own = before
on_style (phrase m) given before own = onward given before own
on_style needed given before own = own

module _ {I M A B : Type 0} (a : Syntax I M A) (b : A → Syntax I M B) (given : B → Bool) (style : A → Style M) where
  abbrev pub mixed_good : A → B → Type 0
  mixed_good x y = a.Good x × (b x).Good y × Fit (style x) (a.takes x) (given y)

  abbrev pub mixed_takes : A → B → M → Bool
  mixed_takes x y p = on_style (style x) (given y) (a.takes x p) ((b x).takes y p)

  abbrev pub mixed_syntax : Syntax I M (A × B)
  mixed_syntax = record { Good = λ x. mixed_good x.0 x.1; print = λ x. a.print x.0 ++ (b x.0).print x.1; takes = λ x. mixed_takes x.0 x.1 }

module _ {T I M A B : Type 0} (G : Alphabet T I M) (top : ℕ) (a : Syntax I M A) (S : A → Reader T B) (b : A → Syntax I M B) (given : B → Bool) where
  pub record Bare (x : A) : Type 0 where
    pub value : B
    pub reads : (ts : List T) → S x ts ≡ Ok (value, ts)
    pub good : (b x).Good value
    pub only : (y : B) → (b x).Good y → y ≡ value
    pub bare : (b x).print value ≡ []
    pub free : (p : M) → (b x).takes value p ≡ false

  pub record Possible (m : M) (x : A) : Type 0 where
    pub set : M → Bool
    pub tail : Tail G set given (S x) (b x) top
    pub alike : (p : M) → set p ≡ true → a.takes x p ≡ a.takes x m
    pub own : (y : B) (p : M) → given y ≡ false → (b x).takes y p ≡ true → set p ≡ true

  pub record Needed (x : A) : Type 0 where
    pub reader : Reader T B
    pub test : List T → Bool
    pub goes : T → Bool
    pub reads : (ts : List T) → S x ts ≡ need test reader goes ts
    pub law : Law G reader (b x) top
    pub all : (y : B) (text rest : List T) → (b x).Good y → Matches G ((b x).print y) text → test (text ++ rest) ≡ true
    pub one : (t : T) (y z : List T) → test (t ∷ y) ≡ test (t ∷ z)
    pub ends : (ts : List T) → test ts ≡ true → Next G (a.takes x) ts
    pub grows : (t : T) → Below G top (a.print x) → goes t ≡ true → GoesOn G a top (a.print x) t
    pub steady : (t : T) → goes t ≡ false → (mark : T → Option M) → G.front t ≡ Ahead mark → (u : T) → on_mark G (a.takes x) (mark u) ≡ false

  abbrev pub Part : A → Style M → Type 0
  Part x nothing = Bare x
  Part x (phrase m) = Possible m x
  Part x needed = Needed x

  -- ---- what nothing stands behind
  module _ (x : A) (N : Bare x) where
    bare_is : (y : B) → (b x).Good y → (b x).print y ≡ []
    bare_is y good = ap (b x).print (N.only y good) ∙ N.bare

    none_next : (y : B) (ts : List T) → (b x).Good y → Next G ((b x).takes y) ts
    none_next y ts good = next_same G (λ p. false) ((b x).takes y) ts (λ p. sym (ap (λ (z : B). (b x).takes z p) (N.only y good) ∙ N.free p)) (next_none G ts)

    bare_fails : {P : Type 0} → (ts : List T) (d : Fault) → S x ts ≡ Err d → P
    bare_fails ts d e = ok_fails (N.value, ts) d (sym (N.reads ts) ∙ e)

    bare_reads : Reads G (S x) (b x) top
    bare_reads = record {
      sound = λ ts z e.
          let same : (N.value, ts) ≡ z = ok_is (N.value, ts) z (sym (N.reads ts) ∙ e) in
          subst (λ (y : B × List T). Read G (b x) top ts y.0 y.1) same (record { text = []; parts = refl; spells = subst (λ (is : List I). Matches G is []) (sym N.bare) tt; good = N.good; below = subst (Below G top) (sym N.bare) tt; next = none_next N.value ts N.good });
      complete = λ y text rest spells good below next.
          let none : text ≡ [] = matches_nothing G text (subst (λ (is : List I). Matches G is text) (bare_is y good) spells) in
          N.reads (text ++ rest) ∙ ap (λ (z : B × List T). Ok z) (ap (λ (u : List T). (N.value, u ++ rest)) none ∙ ap (λ (z : B). (z, rest)) (sym (N.only y good)));
      within = λ ts d e. bare_fails ts d e;
      firm = λ q r z text rest t y e spells good below next same. bare_fails (q ++ t ∷ r) (Stop (suc (length r))) e;
    }

  -- ---- what has to stand behind
  module _ (x : A) (N : Needed x) where
    there : (ts : List T) → N.test ts ≡ true → S x ts ≡ N.reader ts
    there ts e = N.reads ts ∙ rw e refl

    absent : (ts : List T) → N.test ts ≡ false → S x ts ≡ missing N.goes ts
    absent ts e = N.reads ts ∙ rw e refl

    missing_reads : (ts : List T) (y : B × List T) → missing N.goes ts ≡ Ok y → ⊥
    missing_reads [] y e = cc
    missing_reads (t ∷ ts) y e = cc

    left_within : (c : Bool) (ts : List T) → left_on c ts ≤ suc (length ts)
    left_within true ts = omega arith
    left_within false ts = omega arith

    missing_within : (ts : List T) (d : Fault) → missing {B = B} N.goes ts ≡ Err d → left_of d ≤ length ts
    missing_within [] d e = omega (arith, ap left_of (fault_is {A = B × List T} (Stop 0) d e))
    missing_within (t ∷ ts) d e = omega (arith, left_within (N.goes t) ts, ap left_of (fault_is {A = B × List T} (Stop (left_on (N.goes t) ts)) d e))

    -- the test looks at one token
    moved : (c r z : List T) (t : T) → N.test (c ++ t ∷ r) ≡ N.test (c ++ t ∷ z)
    moved [] r z t = N.one t r z
    moved (u ∷ c) r z t = N.one u (c ++ t ∷ r) (c ++ t ∷ z)

    needed_reads : Reads G (S x) (b x) top
    needed_reads = record {
      sound = λ ts y e. ⊎_elim (λ no. absurd (missing_reads ts y (sym (absent ts no) ∙ e))) (λ here. N.law.sound ts y (sym (there ts here) ∙ e)) (cases (N.test ts));
      complete = λ y text rest spells good below next. there (text ++ rest) (N.all y text rest good spells) ∙ N.law.complete y text rest spells good below next;
      within = λ ts d e. ⊎_elim (λ no. missing_within ts d (sym (absent ts no) ∙ e)) (λ here. within N.law ts d (sym (there ts here) ∙ e)) (cases (N.test ts));
      firm = λ q r z text rest t y e spells good below next same.
          let here : N.test (q ++ t ∷ r) ≡ true = moved q r z t ∙ (ap N.test (sym same) ∙ N.all y text rest good spells) in
          N.law.firm q r z text rest t y (sym (there (q ++ t ∷ r) here) ∙ e) spells good below next same;
    }

    -- where it isn't there, one token decides, or two
    missing_steady : (c r z : List T) (t : T) (d : Fault) → Next G (a.takes x) (c ++ t ∷ r) → missing {B = B} N.goes (c ++ t ∷ r) ≡ Err d → left_of d ≡ suc (length r) → Next G (a.takes x) (c ++ t ∷ z)
    missing_steady (u ∷ []) r z t d next e at = ap (on_mark G (a.takes x)) (peek_two G u t z r) ∙ next
    missing_steady (u ∷ v ∷ c) r z t d next e at = ap (on_mark G (a.takes x)) (peek_two G u v (c ++ t ∷ z) (c ++ t ∷ r)) ∙ next
    missing_steady [] r z t d next e at = go (N.goes t) refl (ap left_of (fault_is {A = B × List T} (Stop (left_on (N.goes t) r)) d e) ∙ at)
      where
        go : (c : Bool) → N.goes t ≡ c → left_on c r ≡ suc (length r) → Next G (a.takes x) (t ∷ z)
        go true ec e0 = absurd (omega (arith, e0))
        go false ec e0 = next_one G (a.takes x) t r z (N.steady t ec) next

    needed_steady : (c r z : List T) (t : T) (d : Fault) → Next G (a.takes x) (c ++ t ∷ r) → S x (c ++ t ∷ r) ≡ Err d → left_of d ≡ suc (length r) → Next G (a.takes x) (c ++ t ∷ z)
    needed_steady c r z t d next e at = ⊎_elim (λ no. missing_steady c r z t d next (sym (absent (c ++ t ∷ r) no) ∙ e) at) (λ here. N.ends (c ++ t ∷ z) (moved c z r t ∙ here)) (cases (N.test (c ++ t ∷ r)))

  -- ---- any of the three
  module _ (style : A → Style M) (parts : (x : A) → a.Good x → Part x (style x)) where
    abbrev good : A → B → Type 0
    good = mixed_good a b given style

    abbrev takes : A → B → M → Bool
    takes = mixed_takes a b given style

    ends_at : (x : A) (st : Style M) (P : Part x st) (y : B) (text rest : List T) → (b x).Good y → Fit st (a.takes x) (given y) → Matches G ((b x).print y) text → Next G (λ p. on_style st (given y) (a.takes x p) ((b x).takes y p)) rest → Next G (a.takes x) (text ++ rest) × Next G ((b x).takes y) rest
    ends_at x nothing N y text rest good fit spells next =
        let none : text ≡ [] = matches_nothing G text (subst (λ (is : List I). Matches G is text) (bare_is x N y good) spells) in
        (subst (λ (z : List T). Next G (a.takes x) (z ++ rest)) (sym none) next, none_next x N y rest good)
    ends_at x (phrase m) P y text rest good fit spells next = go (given y) refl fit next
      where
        go : (c : Bool) → given y ≡ c → Apart c (a.takes x m) → Next G (λ p. onward c (a.takes x p) ((b x).takes y p)) rest → Next G (a.takes x) (text ++ rest) × Next G ((b x).takes y) rest
        go false eg fit0 n =
            let none : text ≡ [] = matches_nothing G text (subst (λ (is : List I). Matches G is text) (P.tail.bare y eg) spells) in
            (rw none (next_left G (a.takes x) ((b x).takes y) rest n), next_right G (a.takes x) ((b x).takes y) rest n)
        go true eg fit0 n = (next_at G (a.takes x) P.set m P.alike (text ++ rest) (P.tail.starts y text rest good eg spells) fit0, n)
    ends_at x needed N y text rest good fit spells next = (N.ends (text ++ rest) (N.all y text rest good spells), next)

    joins_at : (x : A) (st : Style M) (P : Part x st) (y : B) (text rest : List T) → (b x).Good y → Matches G ((b x).print y) text → Next G (a.takes x) (text ++ rest) → Next G ((b x).takes y) rest → Fit st (a.takes x) (given y) × Next G (λ p. on_style st (given y) (a.takes x p) ((b x).takes y p)) rest
    joins_at x nothing N y text rest good spells next next' =
        let none : text ≡ [] = matches_nothing G text (subst (λ (is : List I). Matches G is text) (bare_is x N y good) spells) in
        (tt, subst (λ (z : List T). Next G (a.takes x) (z ++ rest)) none next)
    joins_at x (phrase m) P y text rest good spells next next' = go (given y) refl
      where
        go : (c : Bool) → given y ≡ c → Apart c (a.takes x m) × Next G (λ p. onward c (a.takes x p) ((b x).takes y p)) rest
        go false eg =
            let none : text ≡ [] = matches_nothing G text (subst (λ (is : List I). Matches G is text) (P.tail.bare y eg) spells) in
            (tt, next_both G (a.takes x) ((b x).takes y) rest (subst (λ (z : List T). Next G (a.takes x) (z ++ rest)) none next) next')
        go true eg = (at_next G (a.takes x) P.set m P.alike (text ++ rest) (P.tail.starts y text rest good eg spells) next, next')
    joins_at x needed N y text rest good spells next next' = (tt, next')

    some_at : (x : A) (st : Style M) (P : Part x st) → (y : B) × (b x).Good y × Fit st (a.takes x) (given y)
    some_at x nothing N = (N.value, N.good, tt)
    some_at x (phrase m) P = (P.tail.left_out.0, P.tail.left_out.1, subst (λ (c : Bool). Apart c (a.takes x m)) (sym P.tail.left_out.2) tt)
    some_at x needed N = let w = some_tree N.law in (w.0, w.1, tt)

    some : (x : A) → a.Good x → (y : B) × good x y
    some x g = let w = some_at x (style x) (parts x g) in (w.0, (g, w.1, w.2))

    reads_at : (x : A) (st : Style M) (P : Part x st) → Reads G (S x) (b x) top
    reads_at x nothing N = bare_reads x N
    reads_at x (phrase m) P = reads_of P.tail.law
    reads_at x needed N = needed_reads x N

    abbrev Behind : A → List T → Fault → Type 0
    Behind x ts d = FailsBehind G top a S b good takes x ts d

    -- nothing was read behind x; any tree that goes on will do
    at_once : (x : A) (ts : List T) (d : Fault) → a.Good x → d ≡ Stop (length ts) → Behind x ts d
    at_once x ts d g e =
        let y = some x g in
        subst (Behind x ts) (sym e) (record { read = []; left = ts; parts = refl; tree = (x, y.0); good = y.1; before = []; after = (b x).print y.0; text = refl; spells = tt; below = tt; at = refl })

    one_later : (x : A) (N : Needed x) (t : T) (ts : List T) (d : Fault) → Below G top (a.print x) → N.goes t ≡ true → d ≡ Stop (length ts) → Behind x (t ∷ ts) d
    one_later x N t ts d below going e =
        let g = N.grows t below going in
        let y = some g.tree g.good in
        subst (Behind x (t ∷ ts)) (sym e) (record {
          read = t ∷ [];
          left = ts;
          parts = refl;
          tree = (g.tree, y.0);
          good = y.1;
          before = g.item ∷ [];
          after = g.more ++ (b g.tree).print y.0;
          text = ap (λ (z : List I). z ++ (b g.tree).print y.0) g.text ∙ append_assoc (a.print x) (g.item ∷ g.more) ((b g.tree).print y.0);
          spells = (g.fits, tt);
          below = (g.low, tt);
          at = refl;
        })

    missing_fails : (x : A) (N : Needed x) (ts : List T) (d : Fault) → a.Good x → Below G top (a.print x) → missing {B = B} N.goes ts ≡ Err d → Behind x ts d
    missing_fails x N [] d g below e = at_once x [] d g (fault_is {A = B × List T} d (Stop 0) (sym e))
    missing_fails x N (t ∷ ts) d g below e = go (N.goes t) refl (fault_is {A = B × List T} d (Stop (left_on (N.goes t) ts)) (sym e))
      where
        go : (c : Bool) → N.goes t ≡ c → d ≡ Stop (left_on c ts) → Behind x (t ∷ ts) d
        go true ec e0 = one_later x N t ts d below ec e0
        go false ec e0 = at_once x (t ∷ ts) d g e0

    -- behind x, with what was begun there
    begun : (x : A) (ts : List T) (d : Fault) (h : Fails G (b x) top ts d) → a.Good x → Fit (style x) (a.takes x) (given h.tree) → Behind x ts d
    begun x ts d h g fit = behind_of G top a S b good takes x ts d h (g, h.good, fit)

    fails_at : (x : A) (st : Style M) (P : Part x st) (ts : List T) (d : Fault) → a.Good x → Below G top (a.print x) → Next G (a.takes x) ts → S x ts ≡ Err d → ((h : Fails G (b x) top ts d) → Fit st (a.takes x) (given h.tree) → Behind x ts d) → Behind x ts d
    fails_at x nothing N ts d g below next e ready = bare_fails x N ts d e
    fails_at x (phrase m) P ts d g below next e ready =
        let h = P.tail.law.fails ts d e in
        ready h (apart (given h.tree) (a.takes x m) (at_next G (a.takes x) P.set m P.alike ts (P.tail.begun ts d e) next))
    fails_at x needed N ts d g below next e ready = ⊎_elim
        (λ no. missing_fails x N ts d g below (sym (absent x N ts no) ∙ e))
        (λ here. ready (N.law.fails ts d (sym (there x N ts here) ∙ e)) tt)
        (cases (N.test ts))

    steady_at : (x : A) (st : Style M) (P : Part x st) (c r z : List T) (t : T) (d : Fault) → Next G (a.takes x) (c ++ t ∷ r) → S x (c ++ t ∷ r) ≡ Err d → left_of d ≡ suc (length r) → Next G (a.takes x) (c ++ t ∷ z)
    steady_at x nothing N c r z t d next e at = bare_fails x N (c ++ t ∷ r) d e
    steady_at x (phrase m) P c r z t d next e at =
        let free = at_next G (a.takes x) P.set m P.alike (c ++ t ∷ r) (P.tail.begun (c ++ t ∷ r) d e) next in
        next_at G (a.takes x) P.set m P.alike (c ++ t ∷ z) (P.tail.decided c r z t d e at) free
    steady_at x needed N c r z t d next e at = needed_steady x N c r z t d next e at

    pub mixed_joint : Joint G top a S b good takes
    mixed_joint = record {
      first = λ x y g. g.0;
      second = λ x y g. g.1;
      ends = λ x y text rest g spells next. ends_at x (style x) (parts x g.0) y text rest g.1 g.2 spells next;
      joins = λ x y text rest g g' spells next next'. let w = joins_at x (style x) (parts x g) y text rest g' spells next next' in ((g, g', w.0), w.1);
      some = some;
      reads = λ x g. reads_at x (style x) (parts x g);
      fails = λ x ts d g below next e. fails_at x (style x) (parts x g) ts d g below next e (λ h fit. begun x ts d h g fit);
      steady = λ x c r z t d g next e at. steady_at x (style x) (parts x g) c r z t d next e at;
    }

    pub mixed_law : {R : Reader T A} → Law G R a top → Law G (follow R S) (mixed_syntax a b given style) top
    mixed_law LA = follow_law G top a S b good takes LA mixed_joint

    -- ---- what goes on
    pub mixed_grows : Grows G a top → ((x : A) → a.Good x → Grows G (b x) top) → Grows G (mixed_syntax a b given style) top
    mixed_grows grows grows' x t p g below e s = by_style (style x.0) (parts x.0 g.0) g.2 e (λ h fit. second_on h fit)
      where
        first : Below G top (a.print x.0)
        first = below_left G top (a.print x.0) ((b x.0).print x.1) below

        back : Below G top ((b x.0).print x.1)
        back = below_right G top (a.print x.0) ((b x.0).print x.1) below

        -- the first goes on where nothing is printed behind it
        first_on : (b x.0).print x.1 ≡ [] → GoesOn G a top (a.print x.0) t → GoesOn G (mixed_syntax a b given style) top (a.print x.0 ++ (b x.0).print x.1) t
        first_on none h =
            let y = some h.tree h.good in
            record {
              tree = (h.tree, y.0);
              good = y.1;
              item = h.item;
              more = h.more ++ (b h.tree).print y.0;
              text = ap (λ (w : List I). w ++ (b h.tree).print y.0) (h.text ∙ ap (λ (w : List I). w ++ h.item ∷ h.more) (sym (append-nil (a.print x.0)) ∙ ap (λ (w : List I). a.print x.0 ++ w) (sym none))) ∙ append_assoc (a.print x.0 ++ (b x.0).print x.1) (h.item ∷ h.more) ((b h.tree).print y.0);
              fits = h.fits;
              low = h.low;
            }

        second_on : (h : GoesOn G (b x.0) top ((b x.0).print x.1) t) → Fit (style x.0) (a.takes x.0) (given h.tree) → GoesOn G (mixed_syntax a b given style) top (a.print x.0 ++ (b x.0).print x.1) t
        second_on h fit = record { tree = (x.0, h.tree); good = (g.0, h.good, fit); item = h.item; more = h.more; text = ap (λ (w : List I). a.print x.0 ++ w) h.text ∙ sym (append_assoc (a.print x.0) ((b x.0).print x.1) (h.item ∷ h.more)); fits = h.fits; low = h.low }

        own : (b x.0).takes x.1 p ≡ true → GoesOn G (b x.0) top ((b x.0).print x.1) t
        own e0 = grows' x.0 g.0 x.1 t p g.1 back e0 s

        by_style : (st : Style M) (P : Part x.0 st) → Fit st (a.takes x.0) (given x.1) → on_style st (given x.1) (a.takes x.0 p) ((b x.0).takes x.1 p) ≡ true
            → ((h : GoesOn G (b x.0) top ((b x.0).print x.1) t) → Fit st (a.takes x.0) (given h.tree) → GoesOn G (mixed_syntax a b given style) top (a.print x.0 ++ (b x.0).print x.1) t)
            → GoesOn G (mixed_syntax a b given style) top (a.print x.0 ++ (b x.0).print x.1) t
        by_style nothing N fit e0 on = first_on (bare_is x.0 N x.1 g.1) (grows x.0 t p g.0 first e0 s)
        by_style (phrase m) P fit e0 on = go (given x.1) refl fit e0
          where
            go : (c : Bool) → given x.1 ≡ c → Apart c (a.takes x.0 m) → onward c (a.takes x.0 p) ((b x.0).takes x.1 p) ≡ true → GoesOn G (mixed_syntax a b given style) top (a.print x.0 ++ (b x.0).print x.1) t
            go true eg fit0 e1 = let h = own e1 in on h (apart (given h.tree) (a.takes x.0 m) fit0)
            go false eg fit0 e1 = ⊎_elim
                (λ here. first_on (P.tail.bare x.1 eg) (grows x.0 t p g.0 first here s))
                (λ w. let h = own w.1 in on h (apart (given h.tree) (a.takes x.0 m) (sym (P.alike p (P.own x.1 p eg w.1)) ∙ w.0)))
                (or_cases (a.takes x.0 p) ((b x.0).takes x.1 p) e1)
        by_style needed N fit e0 on = on (own e0) tt
