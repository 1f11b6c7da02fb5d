-- Where there is too little room: each tree whose text goes on with the token opens one too many there, and none before.
use Rattle.std.proofs.Common.{◌≡◌, ℕ, suc, ◌≤◌, ◌<◌, ◌+◌, ⊎_elim, ◌⊎◌, inl, inr, Bool, true, false, ◌&&◌, List, [], ◌∷◌, ◌++◌, length, length-append, Option, Some, None, Result, Ok, Err, refl, sym, ap, subst, ◌∙◌, append_assoc, arith}
use Rattle.reading.specs.Readers.{left_of, Fault, Stop, Deep, Reader, ◌>>=◌, nothing, lead_as, lead, follow, seq, branch, seen, choose_on, choose, optional, opt, with_phrase, here_if, no_step, many, plus, chain, missing, need_on, need, must, closed, stands, full_on, full}
use Rattle.reading.specs.Printing.{Alphabet, Matches, Below, begins, Next}
use Rattle.reading.specs.Law.{Syntax, Law, OpensAt, Deepens}
use Rattle.reading.proofs.Results.{bind_err, ok_fails, fault_is, fault_before, cut_at}
use Rattle.reading.proofs.Texts.{Always, both_true, next_same, matches_nothing, matches_split, matches_length, below_left, below_right}
use Rattle.reading.proofs.Opens.{below_wider, opens_first, opens_left, opens_right}
use Rattle.reading.proofs.Consequences.{first_is}
use Rattle.reading.proofs.Follow.{Joint, pair}
use Rattle.reading.proofs.Dependent.{dependent_syntax, seq_syntax, dependent_joint}
use Rattle.reading.proofs.Lead.{Class, lead_syntax, lead_law}
use Rattle.reading.proofs.Seen.{View}
use Rattle.reading.proofs.Optional.{Opener, optional_syntax, optional_decided, still, some_is}
use Rattle.reading.proofs.Choose.{choose_syntax, Tells}
use Rattle.reading.proofs.Full.{NoRoom}
use Rattle.reading.proofs.Apart.{apart_joint}
use Rattle.reading.proofs.Starts.{OneToken, Starts}
use Rattle.reading.proofs.Tail.{Tail, tail_syntax, tail_joint}
use Rattle.reading.proofs.Many.{many_syntax, many_tail, many_from_deepens}
use Rattle.reading.proofs.Plus.{plus_syntax, link_syntax, chain_syntax, link_law, link_alike, link_starts}
use Rattle.reading.proofs.Opt.{when, optional_tail, opener_here, opt_opener, opt_tail, opt_laws, opt_syntax, Opening, opener_of, phrase_syntax}
use Rattle.reading.proofs.Must.{Ends, must_joint, closed_all}

module _ {T I M A : Type 0} {G : Alphabet T I M} {r : Reader T A} {s : Syntax I M A} {top wide : ℕ} where
  pub deepens_never : ((ts : List T) (n : ℕ) → r ts ≡ Err (Deep n) → ⊥) → Deepens G r s top wide
  deepens_never never = record { there = λ q r' z text rest t a e spells good below next same. absurd (never (q ++ t ∷ r') (suc (length r')) e) }

pub deepens_nothing : {T I M : Type 0} (G : Alphabet T I M) (s : Syntax I M (Unit {0})) (top wide : ℕ) → Deepens G nothing s top wide
deepens_nothing G s top wide = deepens_never (λ ts n e. ok_fails (tt, ts) (Deep n) e)

module _ {T K : Type 0} (class : T → Option K) where
  lead_never : (ts : List T) (n : ℕ) → lead class ts ≡ Err (Deep n) → ⊥
  lead_never [] n e = cc
  lead_never (t ∷ ts) n e = go (class t) e
    where
      go : (o : Option K) → lead_as o t ts ≡ Err (Deep n) → ⊥
      go None e0 = cc
      go (Some x) e0 = cc

  pub deepens_lead : {I M : Type 0} (G : Alphabet T I M) (s : Syntax I M K) (top wide : ℕ) → Deepens G (lead class) s top wide
  deepens_lead G s top wide = deepens_never lead_never

module _ {T I M A B : Type 0} {G : Alphabet T I M} {top wide : ℕ} where
  pub deepens_seen : {R : Reader T A} {a : Syntax I M A} {b : Syntax I M B} {view : A → B} {parts : B → A} → View a b view parts → Deepens G R a top wide → Deepens G (seen view R) b top wide
  deepens_seen {R} {a} {b} {view} {parts} V D = record { there = there }
    where
      there : (q r z text rest : List T) (t : T) (y : B) → seen view R (q ++ t ∷ r) ≡ Err (Deep (suc (length r))) → Matches G (b.print y) text → b.Good y → Below G wide (b.print y) → Next G (b.takes y) rest → text ++ rest ≡ q ++ t ∷ z → OpensAt G top (b.print y) (length q)
      there q r z text rest t y e spells good below next same =
          let back : b.print y ≡ a.print (parts y) = ap b.print (sym (V.back y good)) ∙ V.print (parts y) (V.good_back y good) in
          subst (λ (is : List I). OpensAt G top is (length q)) (sym back)
          (D.there q r z text rest t (parts y) (fault_before (R (q ++ t ∷ r)) (λ x. (view x.0, x.1)) (Deep (suc (length r))) e) (subst (λ (is : List I). Matches G is text) back spells) (V.good_back y good) (subst (Below G wide) back below)
          (next_same G (b.takes y) (a.takes (parts y)) rest (λ p. ap (λ (z' : B). b.takes z' p) (sym (V.back y good)) ∙ V.takes (parts y) p (V.good_back y good)) next) same)

  -- one after the other, in general
  module _ {R R' : Reader T A} {a : Syntax I M A} {S : A → Reader T B} {b : A → Syntax I M B} {Good : A → B → Type 0} {takes : A → B → M → Bool} (le : top ≤ wide) (LA : Law G R a top) (WA : Law G R' a wide) (J : Joint G top a S b Good takes) (DA : Deepens G R a top wide) (DB : (x : A) → a.Good x → Deepens G (S x) (b x) top wide) where
    abbrev then_b : A × List T → Result ((A × B) × List T) Fault
    then_b p = S p.0 p.1 >>= λ y. Ok ((p.0, y.0), y.1)

    follow_there : (q r z text rest : List T) (t : T) (x : A × B) → follow R S (q ++ t ∷ r) ≡ Err (Deep (suc (length r))) → Matches G (a.print x.0 ++ (b x.0).print x.1) text → Good x.0 x.1 → Below G wide (a.print x.0 ++ (b x.0).print x.1) → Next G (takes x.0 x.1) rest → text ++ rest ≡ q ++ t ∷ z → OpensAt G top (a.print x.0 ++ (b x.0).print x.1) (length q)
    follow_there q r z text rest t x e spells good below next same = ⊎_elim at_first at_second (bind_err (R (q ++ t ∷ r)) then_b (Deep (suc (length r))) e)
      where
        w : (u : List T) × (v : List T) × (text ≡ u ++ v) × Matches G (a.print x.0) u × Matches G ((b x.0).print x.1) v
        w = matches_split G (a.print x.0) ((b x.0).print x.1) text spells

        n : Next G (a.takes x.0) (w.1 ++ rest) × Next G ((b x.0).takes x.1) rest
        n = J.ends x.0 x.1 w.1 rest good w.4 next

        same' : w.0 ++ (w.1 ++ rest) ≡ q ++ t ∷ z
        same' = sym (append_assoc w.0 w.1 rest) ∙ ap (λ (y : List T). y ++ rest) (sym w.2) ∙ same

        first : Below G wide (a.print x.0)
        first = below_left G wide (a.print x.0) ((b x.0).print x.1) below

        at_first : R (q ++ t ∷ r) ≡ Err (Deep (suc (length r))) → OpensAt G top (a.print x.0 ++ (b x.0).print x.1) (length q)
        at_first ea = opens_left G top (a.print x.0) ((b x.0).print x.1) (length q) (DA.there q r z w.0 (w.1 ++ rest) t x.0 ea w.3 (J.first x.0 x.1 good) first n.0 same')

        -- with the first part as it was read
        behind : (x' : A) → x' ≡ x.0 → Below G top (a.print x') → (front c : List T) → Matches G (a.print x') front → q ≡ front ++ c → S x' (c ++ t ∷ r) ≡ Err (Deep (suc (length r))) → w.1 ++ rest ≡ c ++ t ∷ z → OpensAt G top (a.print x.0 ++ (b x.0).print x.1) (length q)
        behind x' ex low front c fits parts es back =
            let fits' : Matches G (a.print x.0) front = subst (λ (y : A). Matches G (a.print y) front) ex fits in
            opens_right G top (a.print x.0) ((b x.0).print x.1) (length c) (length q) (subst (λ (y : A). Below G top (a.print y)) ex low) (omega (arith, ap length parts, length-append front c, matches_length G (a.print x.0) front fits'))
            ((DB x.0 (J.first x.0 x.1 good)).there c r z w.1 rest t x.1 (ap (λ (y : A). S y (c ++ t ∷ r)) (sym ex) ∙ es) w.4 (J.second x.0 x.1 good) (below_right G wide (a.print x.0) ((b x.0).print x.1) below) n.1 back)

        at_second : (p : A × List T) × (R (q ++ t ∷ r) ≡ Ok p) × (then_b p ≡ Err (Deep (suc (length r)))) → OpensAt G top (a.print x.0 ++ (b x.0).print x.1) (length q)
        at_second p =
            let es = fault_before (S p.0.0 p.0.1) (λ y. ((p.0.0, y.0), y.1)) (Deep (suc (length r))) p.2 in
            let f = LA.sound (q ++ t ∷ r) p.0 p.1 in
            let cut = cut_at q (t ∷ r) f.text p.0.1 f.parts ((J.reads p.0.0 f.good).within p.0.1 (Deep (suc (length r))) es) in
            let stop : S p.0.0 (cut.0 ++ t ∷ r) ≡ Err (Deep (suc (length r))) = sym (ap (S p.0.0) cut.1) ∙ es in
            let still' = J.steady p.0.0 cut.0 r z t (Deep (suc (length r))) f.good (subst (Next G (a.takes p.0.0)) cut.1 f.next) stop refl in
            let goes : w.0 ++ (w.1 ++ rest) ≡ f.text ++ (cut.0 ++ t ∷ z) = same' ∙ ap (λ (y : List T). y ++ t ∷ z) cut.2 ∙ append_assoc f.text cut.0 (t ∷ z) in
            let one = first_is WA f.text (cut.0 ++ t ∷ z) w.0 (w.1 ++ rest) p.0.0 x.0 f.spells f.good (below_wider G top wide (a.print p.0.0) le f.below) still' w.3 (J.first x.0 x.1 good) first n.0 goes in
            behind p.0.0 one.0 f.below f.text cut.0 f.spells cut.2 stop one.1

    pub deepens_follow : Deepens G (follow R S) (pair G top a S b Good takes) top wide
    deepens_follow = record { there = follow_there }

  pub deepens_choose : {R : Reader T A} {S : Reader T B} {a : Syntax I M A} {b : Syntax I M B} {test : List T → Bool} → Tells G test R S a b → Deepens G R a top wide → Deepens G S b top wide → Deepens G (choose test R S) (choose_syntax a b) top wide
  deepens_choose {R} {S} {a} {b} {test} D DA DB = record { there = there }
    where
      there : (q r z text rest : List T) (t : T) (x : A ⊎ B) → choose test R S (q ++ t ∷ r) ≡ Err (Deep (suc (length r))) → Matches G ((choose_syntax a b).print x) text → (choose_syntax a b).Good x → Below G wide ((choose_syntax a b).print x) → Next G ((choose_syntax a b).takes x) rest → text ++ rest ≡ q ++ t ∷ z → OpensAt G top ((choose_syntax a b).print x) (length q)
      there q r z text rest t x e spells good below next same = go (test (q ++ t ∷ r)) refl e
        where
          at_first : R (q ++ t ∷ r) ≡ Err (Deep (suc (length r))) → test (q ++ t ∷ z) ≡ true → (y : A ⊎ B) → Matches G ((choose_syntax a b).print y) text → (choose_syntax a b).Good y → Below G wide ((choose_syntax a b).print y) → Next G ((choose_syntax a b).takes y) rest → OpensAt G top ((choose_syntax a b).print y) (length q)
          at_first er there (inl y) s0 g0 b0 n0 = DA.there q r z text rest t y er s0 g0 b0 n0 same
          at_first er there (inr y) s0 g0 b0 n0 = let never : true ≡ false = sym there ∙ (ap test (sym same) ∙ D.second y text rest g0 s0 n0) in absurd cc

          at_second : S (q ++ t ∷ r) ≡ Err (Deep (suc (length r))) → test (q ++ t ∷ z) ≡ false → (y : A ⊎ B) → Matches G ((choose_syntax a b).print y) text → (choose_syntax a b).Good y → Below G wide ((choose_syntax a b).print y) → Next G ((choose_syntax a b).takes y) rest → OpensAt G top ((choose_syntax a b).print y) (length q)
          at_second er there (inr y) s0 g0 b0 n0 = DB.there q r z text rest t y er s0 g0 b0 n0 same
          at_second er there (inl y) s0 g0 b0 n0 = let never : true ≡ false = sym (D.first y text rest g0 s0 n0) ∙ (ap test same ∙ there) in absurd cc

          go : (c : Bool) → test (q ++ t ∷ r) ≡ c → choose_on c R S (q ++ t ∷ r) ≡ Err (Deep (suc (length r))) → OpensAt G top ((choose_syntax a b).print x) (length q)
          go true ec e0 = let er = fault_before (R (q ++ t ∷ r)) (λ y. (inl y.0, y.1)) (Deep (suc (length r))) e0 in at_first er (D.decided q r z t (Deep (suc (length r))) ec er refl) x spells good below next
          go false ec e0 = let er = fault_before (S (q ++ t ∷ r)) (λ y. (inr y.0, y.1)) (Deep (suc (length r))) e0 in at_second er (D.excluded q r z t (Deep (suc (length r))) ec er refl) x spells good below next

module _ {T I M B : Type 0} {G : Alphabet T I M} {top wide : ℕ} where
  pub deepens_optional : {set : M → Bool} {its : List I} {cut : List T → Option (List T)} {S : Reader T B} {b : Syntax I M B} → (O : Opener G set its cut S b top) → ((ts rest : List T) → cut ts ≡ Some rest → Law G S b top) → Deepens G S b top wide → Deepens G (optional cut S) (optional_syntax set its b) top wide
  deepens_optional {set} {its} {cut} {S} {b} O LB DB = record { there = there }
    where
      there : (q r z text rest : List T) (t : T) (x : Option B) → optional cut S (q ++ t ∷ r) ≡ Err (Deep (suc (length r))) → Matches G ((optional_syntax set its b).print x) text → (optional_syntax set its b).Good x → Below G wide ((optional_syntax set its b).print x) → Next G ((optional_syntax set its b).takes x) rest → text ++ rest ≡ q ++ t ∷ z → OpensAt G top ((optional_syntax set its b).print x) (length q)
      there q r z text rest t None e spells good below next same =
          let here : rest ≡ q ++ t ∷ z = sym (ap (λ (y : List T). y ++ rest) (matches_nothing G text spells)) ∙ same in
          let never : true ≡ false = sym (optional_decided O LB q r z t (Deep (suc (length r))) e refl) ∙ (sym (ap (begins G set) here) ∙ next) in
          absurd cc
      there q r z text rest t (Some y) e spells good below next same =
          let w = matches_split G its (b.print y) text spells in
          let k = still O LB q r z t (Deep (suc (length r))) e refl in
          let parts : q ++ t ∷ z ≡ w.0 ++ (w.1 ++ rest) = sym same ∙ ap (λ (u : List T). u ++ rest) w.2 ∙ append_assoc w.0 w.1 rest in
          let back : w.1 ++ rest ≡ k.0 ++ t ∷ z = some_is O LB (w.1 ++ rest) (k.0 ++ t ∷ z) (cut (q ++ t ∷ z)) (ap cut parts ∙ O.reads y w.0 w.1 rest good w.3 w.4) k.2 in
          let sizes : length q + length (t ∷ z) ≡ length w.0 + (length w.1 + length rest) = omega (arith, ap length parts, length-append q (t ∷ z), length-append w.0 (w.1 ++ rest), length-append w.1 rest) in
          opens_right G top its (b.print y) (length k.0) (length q) O.low (omega (arith, sizes, ap length back, length-append w.1 rest, length-append k.0 (t ∷ z), matches_length G its w.0 w.3))
          (DB.there k.0 r z w.1 rest t y k.1 w.4 good (below_right G wide its (b.print y) below) next back)

  -- what has to stand
  pub deepens_need : {S : Reader T B} {b : Syntax I M B} (test : List T → Bool) (goes : T → Bool) → Deepens G S b top wide → Deepens G (need test S goes) b top wide
  deepens_need {S} {b} test goes DB = record { there = there }
    where
      there : (q r z text rest : List T) (t : T) (y : B) → need test S goes (q ++ t ∷ r) ≡ Err (Deep (suc (length r))) → Matches G (b.print y) text → b.Good y → Below G wide (b.print y) → Next G (b.takes y) rest → text ++ rest ≡ q ++ t ∷ z → OpensAt G top (b.print y) (length q)
      there q r z text rest t y e spells good below next same = go (test (q ++ t ∷ r)) e
        where
          not_deep : (ts : List T) → missing {B = B} goes ts ≡ Err (Deep (suc (length r))) → ⊥
          not_deep [] e0 = cc
          not_deep (u ∷ us) e0 = cc

          go : (c : Bool) → need_on c S goes (q ++ t ∷ r) ≡ Err (Deep (suc (length r))) → OpensAt G top (b.print y) (length q)
          go true e0 = DB.there q r z text rest t y e0 spells good below next same
          go false e0 = absurd (not_deep (q ++ t ∷ r) e0)

  -- where there is no room
  pub deepens_full : {b : Syntax I M B} {opens : List T → Bool} → NoRoom G b top opens → Deepens G (full opens) b top wide
  deepens_full {b} {opens} O = record { there = λ q r z text rest t y e spells good below next same. there q r t y e good }
    where
      there : (q r : List T) (t : T) (y : B) → full {A = B} opens (q ++ t ∷ r) ≡ Err (Deep (suc (length r))) → b.Good y → OpensAt G top (b.print y) (length q)
      there q r t y e good = go (opens (q ++ t ∷ r)) e
        where
          at_once : length q ≡ 0 → OpensAt G top (b.print y) (length q)
          at_once le =
              let w = O.first y good in
              subst (λ (is : List I). OpensAt G top is (length q)) (sym w.2) (subst (λ (n : ℕ). OpensAt G top (w.0 ∷ w.1) n) (sym le) (opens_first G top w.0 w.1 w.3))

          go : (c : Bool) → full_on {A = B} c (q ++ t ∷ r) ≡ Err (Deep (suc (length r))) → OpensAt G top (b.print y) (length q)
          go true e0 =
              let at : Deep (length (q ++ t ∷ r)) ≡ Deep (suc (length r)) = fault_is {A = B × List T} (Deep (length (q ++ t ∷ r))) (Deep (suc (length r))) e0 in
              at_once (omega (arith, ap left_of at, length-append q (t ∷ r)))
          go false e0 = let at : Stop (length (q ++ t ∷ r)) ≡ Deep (suc (length r)) = fault_is {A = B × List T} (Stop (length (q ++ t ∷ r))) (Deep (suc (length r))) e0 in absurd cc

-- only where a condition holds
deepens_when : {T I M B : Type 0} {G : Alphabet T I M} {S : Reader T B} {b : Syntax I M B} {top wide : ℕ} → Deepens G S b top wide → (Holds : Type 0) → Deepens G S (when Holds b) top wide
deepens_when D Holds = record { there = λ q r z text rest t y e spells good below next same. D.there q r z text rest t y e spells good.0 below next same }

-- the same for what is put together from these
module _ {T I M A : Type 0} {G : Alphabet T I M} {R R' : Reader T A} {a : Syntax I M A} {top wide : ℕ} (le : top ≤ wide) (LA : Law G R a top) (WA : Law G R' a wide) (DA : Deepens G R a top wide) where
  pub deepens_dependent : {B : Type 0} (ends : (x : A) (p : M) → a.Good x → a.takes x p ≡ false) (S : A → Reader T B) (b : A → Syntax I M B) → ((x : A) → a.Good x → Law G (S x) (b x) top) → ((x : A) → a.Good x → Deepens G (S x) (b x) top wide) → Deepens G (follow R S) (dependent_syntax a b) top wide
  deepens_dependent ends S b LB DB = deepens_follow le LA WA (dependent_joint LA ends S b LB) DA DB

  pub deepens_seq : {B : Type 0} (ends : (x : A) (p : M) → a.Good x → a.takes x p ≡ false) {S : Reader T B} {b : Syntax I M B} → Law G S b top → Deepens G S b top wide → Deepens G (seq R S) (seq_syntax a b) top wide
  deepens_seq ends {S} {b} LB DB = deepens_dependent ends (λ x. S) (λ x. b) (λ x good. LB) (λ x good. DB)

  pub deepens_apart : {B : Type 0} (one : (x : A) → OneToken G (a.takes x)) (S : A → Reader T B) (b : A → Syntax I M B) (LB : (x : A) → a.Good x → Law G (S x) (b x) top) (apart : (x : A) (y : B) (text rest : List T) → a.Good x → (b x).Good y → Matches G ((b x).print y) text → Next G (a.takes x) (text ++ rest)) → ((x : A) → a.Good x → Deepens G (S x) (b x) top wide) → Deepens G (follow R S) (dependent_syntax a b) top wide
  deepens_apart one S b LB apart DB = deepens_follow le LA WA (apart_joint LA one S b LB apart) DA DB

  pub deepens_tail : {B : Type 0} {S : A → Reader T B} {b : A → Syntax I M B} {set : A → M → Bool} {given : B → Bool} (m : M) (alike : (x : A) (p : M) → a.Good x → set x p ≡ true → a.takes x p ≡ a.takes x m) → ((x : A) → Tail G (set x) given (S x) (b x) top) → ((x : A) → a.Good x → Deepens G (S x) (b x) top wide) → Deepens G (follow R S) (tail_syntax a b given m) top wide
  deepens_tail m alike tails DB = deepens_follow le LA WA (tail_joint LA m alike tails) DA DB

  pub deepens_opt : {B : Type 0} {S : Reader T B} {b : Syntax I M B} (may : A → Bool) (set : M → Bool) (m : M) → ((x : A) (p : M) → a.Good x → set p ≡ true → a.takes x p ≡ a.takes x m) → Starts G set S b → Law G S b top → Deepens G S b top wide → Deepens G (opt R (λ x ts. may x && begins G set ts) S) (opt_syntax a may set m b) top wide
  deepens_opt {S} {b} may set m alike St LB DB = deepens_tail m (λ x p good e. alike x p good (both_true (may x) (set p) e).1) (λ x. opt_tail LB may set St x) (λ x good. deepens_optional (opt_opener LB may set St x) (opt_laws LB may set St x) (deepens_when DB (may x ≡ true)))

  pub deepens_phrase : {B : Type 0} {S : Reader T B} {b : Syntax I M B} {set : M → Bool} {its : List I} {cut : List T → Option (List T)} → Opening G set its cut → Below G top its → (m : M) → ((x : A) (p : M) → a.Good x → set p ≡ true → a.takes x p ≡ a.takes x m) → Law G S b top → Deepens G S b top wide → Deepens G (with_phrase R cut S) (phrase_syntax a set m its b) top wide
  deepens_phrase {S} {b} O low m alike LB DB = deepens_tail m alike (λ x. optional_tail (opener_of O S b top low) (λ ts rest e. LB)) (λ x good. deepens_optional (opener_of O S b top low) (λ ts rest e. LB) DB)

  pub deepens_plain : {B : Type 0} {S : Reader T B} {b : Syntax I M B} (set : M → Bool) (m : M) → ((x : A) (p : M) → a.Good x → set p ≡ true → a.takes x p ≡ a.takes x m) → Starts G set S b → Law G S b top → Deepens G S b top wide → Deepens G (with_phrase R (here_if (begins G set)) S) (phrase_syntax a set m [] b) top wide
  deepens_plain set m alike St LB DB = deepens_tail m alike (λ x. optional_tail (opener_here St true (λ y good. refl) top) (λ ts rest e. LB)) (λ x good. deepens_optional (opener_here St true (λ y g. refl) top) (λ ts rest e. LB) DB)

  pub deepens_must : {B : Type 0} {S : Reader T B} {b : Syntax I M B} {goes : A → T → Bool} {test : List T → Bool} → (LB : Law G S b top) (E : Ends G a top goes test) (all : (y : B) (text rest : List T) → b.Good y → Matches G (b.print y) text → test (text ++ rest) ≡ true) (one : (t : T) (y z : List T) → test (t ∷ y) ≡ test (t ∷ z)) → Deepens G S b top wide → Deepens G (must R goes test S) (seq_syntax a b) top wide
  deepens_must {S} {b} {goes} {test} LB E all one DB = deepens_follow le LA WA (must_joint LA LB E all one) DA (λ x good. deepens_need test (goes x) DB)

module _ {T I M K : Type 0} {G : Alphabet T I M} {class : T → Option K} {Allowed : K → Type 0} {item : K → I} (C : Class G class Allowed item) {top wide : ℕ} (le : top ≤ wide) (low : (x : K) → Allowed x → G.depth (item x) < top) (some : K) (allowed : Allowed some) where
  low_wide : (x : K) → Allowed x → G.depth (item x) < wide
  low_wide x good = omega (arith, low x good)

  pub deepens_branch : {B : Type 0} (S : K → Reader T B) (b : K → Syntax I M B) → ((x : K) → Allowed x → Law G (S x) (b x) top) → ((x : K) → Allowed x → Deepens G (S x) (b x) top wide) → Deepens G (branch class S) (dependent_syntax (lead_syntax Allowed item) b) top wide
  deepens_branch S b LB DB = deepens_dependent le (lead_law C top low some allowed) (lead_law C wide low_wide some allowed) (deepens_lead class G (lead_syntax Allowed item) top wide) (λ x p good. refl) S b LB DB

  pub deepens_closed : {A : Type 0} {R R' : Reader T A} {a : Syntax I M A} {goes : A → T → Bool} → Law G R a top → Law G R' a wide → Ends G a top goes (stands class) → Deepens G R a top wide → Deepens G (closed R class goes) (seq_syntax a (lead_syntax Allowed item)) top wide
  deepens_closed LA WA E DA = deepens_must le LA WA DA (lead_law C top low some allowed) E (closed_all C) (λ t y z. refl) (deepens_lead class G (lead_syntax Allowed item) top wide)

module _ {T I M A : Type 0} {G : Alphabet T I M} {r r' : Reader T A} {s : Syntax I M A} {top wide : ℕ} (le : top ≤ wide) (L : Law G r s top) (W : Law G r' s wide) (D : Deepens G r s top wide) (set : M → Bool) (m : M) (alike : (x : A) (p : M) → s.Good x → set p ≡ true → s.takes x p ≡ s.takes x m) where
  pub deepens_many : Starts G set r s → Deepens G (many (begins G set) r) (many_syntax set s m) top wide
  deepens_many St = many_from_deepens (λ (state : Unit {0}). set) no_step m (λ state. alike) (λ state. St) (λ state ts here. L) wide le (λ state ts here. W) (λ state ts here. D) tt

  pub deepens_plus : Starts G set r s → Deepens G (plus (begins G set) r) (plus_syntax set m s) top wide
  deepens_plus St = deepens_tail le L W D m alike (λ x. many_tail L set m alike St) (λ x good. deepens_many St)

module _ {T I M A : Type 0} {G : Alphabet T I M} {r r' : Reader T A} {s : Syntax I M A} {top wide : ℕ} (le : top ≤ wide) (L : Law G r s top) (W : Law G r' s wide) (D : Deepens G r s top wide) (set : M → Bool) (m : M) (alike : (x : A) (p : M) → s.Good x → set p ≡ true → s.takes x p ≡ s.takes x m)
    {K : Type 0} {class : T → Option K} {item : K → I} (C : Class G class Always item) (low : (x : K) → G.depth (item x) < top) (some : K) (one : OneToken G set) (tells : (x : K) (t : T) (ts : List T) → G.Fits (item x) t → begins G set (t ∷ ts) ≡ true) where
  links : Deepens G (branch class (λ x. r)) (link_syntax set m item s) top wide
  links = deepens_branch C le (λ x good. low x) some tt (λ x. r) (λ x. s) (λ x good. L) (λ x good. D)

  wide_links : Law G (branch class (λ x. r')) (link_syntax set m item s) wide
  wide_links = link_law W set m alike C (λ x. low_wide C le (λ y good. low y) some tt x tt) some

  pub deepens_chain : Deepens G (chain (begins G set) class r) (chain_syntax set m item s) top wide
  deepens_chain = deepens_tail le L W D m alike (λ x. many_tail (link_law L set m alike C low some) set m (link_alike L set m alike C low some one tells) (link_starts L set m alike C low some one tells))
      (λ x good. many_of_links)
    where
      many_of_links : Deepens G (many (begins G set) (branch class (λ x. r))) (many_syntax set (link_syntax set m item s) m) top wide
      many_of_links = deepens_many le (link_law L set m alike C low some) wide_links links set m (link_alike L set m alike C low some one tells) (link_starts L set m alike C low some one tells)
