-- Which trees go on with a token that alone doesn't say how, as NOT: wherever a tree takes a mark that such a token may
-- begin, some tree goes on with it.
use Rattle.std.proofs.Common.{◌≡◌, ℕ, ◌<◌, ◌⊎◌, inl, inr, ⊎_elim, Bool, true, false, ◌||◌, ◌&&◌, List, [], ◌∷◌, ◌++◌, Option, Some, None, is_some, refl, sym, ap, subst, ◌∙◌, append_assoc}
use Rattle.std.proofs.lemmas.List.{append-nil}
use Rattle.reading.specs.Readers.{no_step}
use Rattle.reading.specs.Printing.{Ahead, Alphabet, Below, on_mark}
use Rattle.reading.specs.Law.{Syntax, onward}
use Rattle.reading.proofs.Texts.{Always, both_true, below_left, below_right}
use Rattle.reading.proofs.Dependent.{dependent_syntax}
use Rattle.reading.proofs.Lead.{lead_syntax}
use Rattle.reading.proofs.Seen.{View}
use Rattle.reading.proofs.Starts.{OneToken}
use Rattle.reading.proofs.Optional.{optional_syntax}
use Rattle.reading.proofs.Tail.{Apart, apart, tail_syntax}
use Rattle.reading.proofs.Opt.{when, opt_syntax, phrase_syntax}
use Rattle.reading.proofs.Plus.{plus_syntax, link_syntax, chain_syntax}
use Rattle.reading.proofs.Choose.{choose_syntax}
use Rattle.reading.proofs.Many.{is_given, many_print, many_from_syntax, many_syntax}

or_cases : (c d : Bool) → (c || d) ≡ true → (c ≡ true) ⊎ ((c ≡ false) × (d ≡ true))
or_cases true d e = inl refl
or_cases false d e = inr (refl, e)

-- Some tree goes on behind what is printed with the token.
pub record GoesOn {T I M A : Type 0} (G : Alphabet T I M) (a : Syntax I M A) (top : ℕ) (printed : List I) (t : T) : Type 0 where
  pub tree : A
  pub good : a.Good tree
  pub item : I
  pub more : List I
  pub text : a.print tree ≡ printed ++ item ∷ more
  pub fits : G.Fits item t
  pub low : G.depth item < top

module _ {T I M : Type 0} (G : Alphabet T I M) where
  -- the token begins the mark, if another is behind it
  pub record Shows (t : T) (p : M) : Type 0 where
    pub mark : T → Option M
    pub next : T
    pub front : G.front t ≡ Ahead mark
    pub shown : mark next ≡ Some p

  abbrev pub Grows : {A : Type 0} → Syntax I M A → ℕ → Type 0
  Grows {A} a top = (x : A) (t : T) (p : M) → a.Good x → Below G top (a.print x) → a.takes x p ≡ true → Shows t p → GoesOn G a top (a.print x) t

  -- whatever begins with a mark of the set, some tree does
  abbrev pub Samples : {A : Type 0} → (M → Bool) → List I → Syntax I M A → ℕ → Type 0
  Samples {A} set its a top = (t : T) (p : M) → set p ≡ true → Shows t p → (x : A) × (i : I) × (more : List I) × a.Good x × (its ++ a.print x ≡ i ∷ more) × G.Fits i t × (G.depth i < top)

  pub no_shows : (set : M → Bool) (t : T) (p : M) → OneToken G set → set p ≡ true → Shows t p → ⊥
  no_shows set t p one e s = let never : true ≡ false = sym e ∙ (sym (ap (on_mark G set) s.shown) ∙ one t s.mark s.front s.next) in cc

  pub samples_one : {A : Type 0} (set : M → Bool) (its : List I) (a : Syntax I M A) (top : ℕ) → OneToken G set → Samples set its a top
  samples_one set its a top one t p e s = absurd (no_shows set t p one e s)

  -- what takes only marks that one token decides
  pub grows_one : {A : Type 0} (a : Syntax I M A) (top : ℕ) → ((x : A) → OneToken G (a.takes x)) → Grows a top
  grows_one a top one x t p good below e s = absurd (no_shows (a.takes x) t p (one x) e s)

  pub grows_nothing : {A : Type 0} (a : Syntax I M A) (top : ℕ) → ((x : A) (p : M) → a.takes x p ≡ false) → Grows a top
  grows_nothing a top none x t p good below e s = let never : true ≡ false = sym e ∙ none x p in absurd cc

module _ {T I M A B : Type 0} {G : Alphabet T I M} {top : ℕ} where
  pub grows_seen : {a : Syntax I M A} {b : Syntax I M B} {view : A → B} {parts : B → A} → View a b view parts → Grows G a top → Grows G b top
  grows_seen {a} {b} {view} {parts} V grows y t p good below e s =
      let same : b.print y ≡ a.print (parts y) = ap b.print (sym (V.back y good)) ∙ V.print (parts y) (V.good_back y good) in
      let takes : a.takes (parts y) p ≡ true = sym (V.takes (parts y) p (V.good_back y good)) ∙ (ap (λ (z : B). b.takes z p) (V.back y good) ∙ e) in
      let g = grows (parts y) t p (V.good_back y good) (subst (Below G top) same below) takes s in
      record { tree = view g.tree; good = V.good g.tree g.good; item = g.item; more = g.more; text = V.print g.tree g.good ∙ g.text ∙ ap (λ (z : List I). z ++ g.item ∷ g.more) (sym same); fits = g.fits; low = g.low }

  -- the second part goes on
  second : (a : Syntax I M A) (b : A → Syntax I M B) (x : A) (y : B) (t : T) (g : GoesOn G (b x) top ((b x).print y) t) → a.print x ++ (b x).print g.tree ≡ (a.print x ++ (b x).print y) ++ g.item ∷ g.more
  second a b x y t g = ap (λ (z : List I). a.print x ++ z) g.text ∙ sym (append_assoc (a.print x) ((b x).print y) (g.item ∷ g.more))

  pub grows_dependent : (a : Syntax I M A) (b : A → Syntax I M B) → ((x : A) → a.Good x → Grows G (b x) top) → Grows G (dependent_syntax a b) top
  grows_dependent a b grows x t p good below e s =
      let g = grows x.0 good.0 x.1 t p good.1 (below_right G top (a.print x.0) ((b x.0).print x.1) below) e s in
      record { tree = (x.0, g.tree); good = (good.0, g.good); item = g.item; more = g.more; text = second a b x.0 x.1 t g; fits = g.fits; low = g.low }

  pub grows_choose : {a : Syntax I M A} {b : Syntax I M B} → Grows G a top → Grows G b top → Grows G (choose_syntax a b) top
  grows_choose grows grows' (inl x) t p good below e s = let g = grows x t p good below e s in record { tree = inl g.tree; good = g.good; item = g.item; more = g.more; text = g.text; fits = g.fits; low = g.low }
  grows_choose grows grows' (inr y) t p good below e s = let g = grows' y t p good below e s in record { tree = inr g.tree; good = g.good; item = g.item; more = g.more; text = g.text; fits = g.fits; low = g.low }

  -- what may stand behind something open
  module _ (a : Syntax I M A) (b : A → Syntax I M B) (set : A → M → Bool) (given : B → Bool) (m : M) (alike : (x : A) (p : M) → a.Good x → set x p ≡ true → a.takes x p ≡ a.takes x m)
      (bare : (x : A) (y : B) → given y ≡ false → (b x).print y ≡ []) (own : (x : A) (y : B) (p : M) → given y ≡ false → (b x).takes y p ≡ true → set x p ≡ true) (left_out : (x : A) → (y : B) × (b x).Good y × (given y ≡ false)) where
    -- the first part goes on where nothing stands behind it
    first_on : (x : A) (y : B) (t : T) → given y ≡ false → GoesOn G a top (a.print x) t → GoesOn G (tail_syntax a b given m) top (a.print x ++ (b x).print y) t
    first_on x y t none g =
        let z = left_out g.tree in
        record {
          tree = (g.tree, z.0);
          good = (g.good, z.1, subst (λ (c : Bool). Apart c (a.takes g.tree m)) (sym z.2) tt);
          item = g.item;
          more = g.more;
          text = ap (λ (w : List I). a.print g.tree ++ w) (bare g.tree z.0 z.2) ∙ append-nil (a.print g.tree) ∙ g.text ∙ ap (λ (w : List I). w ++ g.item ∷ g.more) (sym (append-nil (a.print x)) ∙ ap (λ (w : List I). a.print x ++ w) (sym (bare x y none)));
          fits = g.fits;
          low = g.low;
        }

    second_on : (x : A) (y : B) (t : T) → a.Good x → a.takes x m ≡ false → GoesOn G (b x) top ((b x).print y) t → GoesOn G (tail_syntax a b given m) top (a.print x ++ (b x).print y) t
    second_on x y t good free g = record { tree = (x, g.tree); good = (good, g.good, apart (given g.tree) (a.takes x m) free); item = g.item; more = g.more; text = second a b x y t g; fits = g.fits; low = g.low }

    pub grows_tail : Grows G a top → ((x : A) → Grows G (b x) top) → Grows G (tail_syntax a b given m) top
    grows_tail grows grows' x t p good below e s = go (given x.1) refl good.2 e
      where
        first : Below G top (a.print x.0)
        first = below_left G top (a.print x.0) ((b x.0).print x.1) below

        back : Below G top ((b x.0).print x.1)
        back = below_right G top (a.print x.0) ((b x.0).print x.1) below

        go : (c : Bool) → given x.1 ≡ c → Apart c (a.takes x.0 m) → onward c (a.takes x.0 p) ((b x.0).takes x.1 p) ≡ true → GoesOn G (tail_syntax a b given m) top (a.print x.0 ++ (b x.0).print x.1) t
        go true eg fit e0 = second_on x.0 x.1 t good.0 fit (grows' x.0 x.1 t p good.1 back e0 s)
        go false eg fit e0 = ⊎_elim
            (λ here. first_on x.0 x.1 t eg (grows x.0 t p good.0 first here s))
            (λ w. second_on x.0 x.1 t good.0 (sym (alike x.0 p good.0 (own x.0 x.1 p eg w.1)) ∙ w.0) (grows' x.0 x.1 t p good.1 back w.1 s))
            (or_cases (a.takes x.0 p) ((b x.0).takes x.1 p) e0)

module _ {T I M B : Type 0} {G : Alphabet T I M} {top : ℕ} {b : Syntax I M B} where
  pub grows_optional : (set : M → Bool) (its : List I) → Samples G set its b top → Grows G b top → Grows G (optional_syntax set its b) top
  grows_optional set its samples grows None t p good below e s = let w = samples t p e s in record { tree = Some w.0; good = w.3; item = w.1; more = w.2; text = w.4; fits = w.5; low = w.6 }
  grows_optional set its samples grows (Some y) t p good below e s =
      let g = grows y t p good (below_right G top its (b.print y) below) e s in
      record { tree = Some g.tree; good = g.good; item = g.item; more = g.more; text = ap (λ (z : List I). its ++ z) g.text ∙ sym (append_assoc its (b.print y) (g.item ∷ g.more)); fits = g.fits; low = g.low }

module _ {T I M A State : Type 0} {G : Alphabet T I M} {top : ℕ} (set : State → M → Bool) (s : State → Syntax I M A) (step : State → A → State) (m : M)
    (alike : (state : State) (x : A) (p : M) → (s state).Good x → set (step state x) p ≡ true → (s state).takes x p ≡ (s state).takes x m)
    (samples : (state : State) → Samples G (set state) [] (s state) top) (grows : (state : State) → Grows G (s state) top) where
  abbrev lists : State → Syntax I M (List A)
  lists = many_from_syntax set s step m

  -- one more behind an empty list
  one_more : (state : State) (t : T) (p : M) → set state p ≡ true → Shows G t p → GoesOn G (lists state) top [] t
  one_more state t p e sh =
      let w = samples state t p e sh in
      record { tree = w.0 ∷ []; good = (w.3, tt, tt); item = w.1; more = w.2; text = append-nil ((s state).print w.0) ∙ w.4; fits = w.5; low = w.6 }

  behind_first : (state : State) (x : A) (xs : List A) (t : T) → (s state).Good x → (s state).takes x m ≡ false → GoesOn G (lists (step state x)) top ((lists (step state x)).print xs) t → GoesOn G (lists state) top ((lists state).print (x ∷ xs)) t
  behind_first state x xs t good free g = record {
    tree = x ∷ g.tree;
    good = (good, g.good, apart (is_given g.tree) ((s state).takes x m) free);
    item = g.item;
    more = g.more;
    text = ap (λ (z : List I). (s state).print x ++ z) g.text ∙ sym (append_assoc ((s state).print x) (many_print set s step m (step state x) xs) (g.item ∷ g.more));
    fits = g.fits;
    low = g.low;
  }

  last_on : (state : State) (x : A) (t : T) → GoesOn G (s state) top ((s state).print x) t → GoesOn G (lists state) top ((s state).print x ++ []) t
  last_on state x t g = record { tree = g.tree ∷ []; good = (g.good, tt, tt); item = g.item; more = g.more; text = append-nil ((s state).print g.tree) ∙ g.text ∙ ap (λ (z : List I). z ++ g.item ∷ g.more) (sym (append-nil ((s state).print x))); fits = g.fits; low = g.low }

  pub grows_many_from : (xs : List A) (state : State) (t : T) (p : M) → (lists state).Good xs → Below G top ((lists state).print xs) → (lists state).takes xs p ≡ true → Shows G t p → GoesOn G (lists state) top ((lists state).print xs) t
  grows_many_from [] state t p good below e sh = one_more state t p e sh
  grows_many_from (x ∷ []) state t p good below e sh = ⊎_elim
      (λ here. last_on state x t (grows state x t p good.0 (below_left G top ((s state).print x) [] below) here sh))
      (λ w. behind_first state x [] t good.0 (sym (alike state x p good.0 w.1) ∙ w.0) (one_more (step state x) t p w.1 sh))
      (or_cases ((s state).takes x p) (set (step state x) p) e)
  grows_many_from (x ∷ y ∷ ys) state t p good below e sh =
      behind_first state x (y ∷ ys) t good.0 good.2 (grows_many_from (y ∷ ys) (step state x) t p good.1 (below_right G top ((s state).print x) (many_print set s step m (step state x) (y ∷ ys)) below) e sh)

module _ {I M B : Type 0} (set : M → Bool) (its : List I) (b : Syntax I M B) where
  own_option : (y : Option B) (p : M) → is_some y ≡ false → (optional_syntax set its b).takes y p ≡ true → set p ≡ true
  own_option None p none e = e
  own_option (Some y) p none e = absurd cc

  bare_option : (y : Option B) → is_some y ≡ false → (optional_syntax set its b).print y ≡ []
  bare_option None none = refl
  bare_option (Some y) none = absurd cc

-- the same for what is put together from these
module _ {T I M B : Type 0} {G : Alphabet T I M} {top : ℕ} where
  -- the tokens that open a phrase show which it is
  pub samples_opening : (set : M → Bool) (i : I) (is : List I) (b : Syntax I M B) → ((t : T) (p : M) → set p ≡ true → Shows G t p → G.Fits i t) → G.depth i < top → (y : B) → b.Good y → Samples G set (i ∷ is) b top
  samples_opening set i is b fits low y good t p e s = (y, i, is ++ b.print y, good, refl, fits t p e s, low)

  pub grows_phrase : {A : Type 0} (a : Syntax I M A) (b : Syntax I M B) (set : M → Bool) (m : M) (its : List I) → ((x : A) (p : M) → a.Good x → set p ≡ true → a.takes x p ≡ a.takes x m) → Samples G set its b top → Grows G a top → Grows G b top → Grows G (phrase_syntax a set m its b) top
  grows_phrase a b set m its alike samples grows grows' = grows_tail a (λ x. optional_syntax set its b) (λ x. set) is_some m alike (λ x. bare_option set its b) (λ x. own_option set its b) (λ x. (None, tt, refl)) grows (λ x. grows_optional set its samples grows')

  when_samples : (may : Bool) (set : M → Bool) (b : Syntax I M B) → Samples G set [] b top → Samples G (λ p. may && set p) [] (when (may ≡ true) b) top
  when_samples may set b samples t p e s =
      let w = both_true may (set p) e in
      let v = samples t p w.1 s in
      (v.0, v.1, v.2, (v.3, w.0), v.4, v.5, v.6)

  when_grows : (Holds : Type 0) (b : Syntax I M B) → Grows G b top → Grows G (when Holds b) top
  when_grows Holds b grows y t p good below e s = let g = grows y t p good.0 below e s in record { tree = g.tree; good = (g.good, good.1); item = g.item; more = g.more; text = g.text; fits = g.fits; low = g.low }

  pub grows_opt : {A : Type 0} (a : Syntax I M A) (b : Syntax I M B) (may : A → Bool) (set : M → Bool) (m : M) → ((x : A) (p : M) → a.Good x → set p ≡ true → a.takes x p ≡ a.takes x m) → Samples G set [] b top → Grows G a top → Grows G b top → Grows G (opt_syntax a may set m b) top
  grows_opt a b may set m alike samples grows grows' = grows_tail a (λ x. optional_syntax (λ p. may x && set p) [] (when (may x ≡ true) b)) (λ x p. may x && set p) is_some m (λ x p good e. alike x p good (both_true (may x) (set p) e).1)
      (λ x. bare_option (λ p. may x && set p) [] (when (may x ≡ true) b)) (λ x. own_option (λ q. may x && set q) [] (when (may x ≡ true) b)) (λ x. (None, tt, refl)) grows
      (λ x. grows_optional (λ p. may x && set p) [] (when_samples (may x) set b samples) (when_grows (may x ≡ true) b grows'))

module _ {I M A : Type 0} (set : M → Bool) (s : Syntax I M A) (m : M) where
  own_list : (xs : List A) (p : M) → is_given xs ≡ false → (many_syntax set s m).takes xs p ≡ true → set p ≡ true
  own_list [] p none e = e
  own_list (x ∷ xs) p none e = absurd cc

  bare_list : (xs : List A) → is_given xs ≡ false → (many_syntax set s m).print xs ≡ []
  bare_list [] none = refl
  bare_list (x ∷ xs) none = absurd cc

module _ {T I M A : Type 0} {G : Alphabet T I M} {top : ℕ} (s : Syntax I M A) (set : M → Bool) (m : M) (alike : (x : A) (p : M) → s.Good x → set p ≡ true → s.takes x p ≡ s.takes x m) (samples : Samples G set [] s top) (grows : Grows G s top) where
  pub grows_many : Grows G (many_syntax set s m) top
  grows_many xs t p good below e sh = grows_many_from (λ (state : Unit {0}). set) (λ state. s) no_step m (λ state. alike) (λ state. samples) (λ state. grows) xs tt t p good below e sh

  pub grows_plus : Grows G (plus_syntax set m s) top
  grows_plus = grows_tail s (λ x. many_syntax set s m) (λ x. set) is_given m alike (λ x. bare_list set s m) (λ x. own_list set s m) (λ x. ([], tt, refl)) grows (λ x. grows_many)

-- a chain, whose links one token begins
pub grows_chain : {T I M A K : Type 0} {G : Alphabet T I M} {top : ℕ} (s : Syntax I M A) (set : M → Bool) (m : M) → ((x : A) (p : M) → s.Good x → set p ≡ true → s.takes x p ≡ s.takes x m) → Grows G s top → (item : K → I) → OneToken G set → Grows G (chain_syntax set m item s) top
grows_chain {T} {I} {M} {A} {K} {G} {top} s set m alike grows item one = grows_tail s (λ x. many_syntax set (link_syntax set m item s) m) (λ x. set) is_given m alike (λ x. bare_list set (link_syntax set m item s) m) (λ x. own_list set (link_syntax set m item s) m) (λ x. ([], tt, refl)) grows
    (λ x. grows_many (link_syntax set m item s) set m (λ y p good e. alike y.1 p good.1 e) (samples_one G set [] (link_syntax set m item s) top one) (grows_dependent (lead_syntax Always item) (λ k. s) (λ k good. grows)))
