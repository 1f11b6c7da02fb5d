-- Any number, as long as one begins. What was read before, a state, may say which begin and how they are read.
use Rattle.std.proofs.Common.{◌≡◌, ℕ, zero, suc, ◌≤◌, ⊎_elim, Bool, true, false, List, [], ◌∷◌, ◌++◌, length, length-append, Result, Ok, Err, refl, sym, ap, subst, ◌∙◌, append_assoc, arith}
use Rattle.reading.specs.Readers.{left_of, Fault, Stop, Deep, Reader, ◌>>=◌, many_at, many_from, no_step, many}
use Rattle.reading.specs.Printing.{Alphabet, Matches, Below, begins, Next}
use Rattle.reading.specs.Law.{Syntax, Read, Fails, Law, OpensAt, Deepens, onward}
use Rattle.reading.proofs.Results.{bind_ok, bind_err, ok_is, ok_fails, fault_before, cut_at}
use Rattle.reading.proofs.Texts.{cases, matches_length, matches_nothing, matches_join, matches_split, below_join, below_left, below_right, next_both, next_left, next_right, next_at, at_next}
use Rattle.reading.proofs.Consequences.{first_is, at_more, at_left}
use Rattle.reading.proofs.Opens.{below_wider, opens_left, opens_right}
use Rattle.reading.proofs.Starts.{Starts}
use Rattle.reading.proofs.Tail.{Apart, apart, Tail}

abbrev pub is_given : {A : Type 0} → List A → Bool
is_given [] = false
is_given (x ∷ xs) = true

module _ {I M A State : Type 0} (set : State → M → Bool) (s : State → Syntax I M A) (step : State → A → State) (m : M) where
  abbrev pub many_good : State → List A → Type 0
  many_good state [] = Unit {0}
  many_good state (x ∷ xs) = (s state).Good x × many_good (step state x) xs × Apart (is_given xs) ((s state).takes x m)

  abbrev pub many_print : State → List A → List I
  many_print state [] = []
  many_print state (x ∷ xs) = (s state).print x ++ many_print (step state x) xs

  abbrev pub many_takes : State → List A → M → Bool
  many_takes state [] p = set state p
  many_takes state (x ∷ xs) p = onward (is_given xs) ((s state).takes x p) (many_takes (step state x) xs p)

  abbrev pub many_from_syntax : State → Syntax I M (List A)
  many_from_syntax state = record { Good = many_good state; print = many_print state; takes = many_takes state }

module _ {T I M A State : Type 0} {G : Alphabet T I M} {r : State → Reader T A} {s : State → Syntax I M A} {top : ℕ} (set : State → M → Bool) (step : State → A → State) (m : M)
    (alike : (state : State) (x : A) (p : M) → (s state).Good x → set (step state x) p ≡ true → (s state).takes x p ≡ (s state).takes x m)
    (St : (state : State) → Starts G (set state) (r state) (s state))
    (laws : (state : State) (ts : List T) → begins G (set state) ts ≡ true → Law G (r state) (s state) top) where
  abbrev begun : State → List T → Bool
  begun state ts = begins G (set state) ts

  abbrev reader : ℕ → State → Reader T (List A)
  reader n state = many_at begun r step n state

  abbrev syntax : State → Syntax I M (List A)
  syntax = many_from_syntax set s step m

  abbrev more : ℕ → State → A × List T → Result (List A × List T) Fault
  more n state a = reader n (step state a.0) a.1 >>= λ xs. Ok (a.0 ∷ xs.0, xs.1)

  some_token : (state : State) (x : A) (text : List T) → (s state).Good x → Matches G ((s state).print x) text → suc zero ≤ length text
  some_token state x [] good spells = let never : false ≡ true = (St state).starts x [] [] good spells in absurd cc
  some_token state x (t ∷ text) good spells = omega arith

  -- a list begins with one of the marks, where it isn't empty
  pub many_starts : (state : State) (xs : List A) (text rest : List T) → many_good set s step m state xs → is_given xs ≡ true → Matches G (many_print set s step m state xs) text → begun state (text ++ rest) ≡ true
  many_starts state [] text rest good given spells = absurd cc
  many_starts state (x ∷ xs) text rest good given spells =
      let w = matches_split G ((s state).print x) (many_print set s step m (step state x) xs) text spells in
      ap (begun state) (ap (λ (z : List T). z ++ rest) w.2 ∙ append_assoc w.0 w.1 rest) ∙ (St state).starts x w.0 (w.1 ++ rest) good.0 w.3

  none_at : (n : ℕ) (state : State) (ts : List T) → begun state ts ≡ false → reader n state ts ≡ Ok ([], ts)
  none_at zero state ts e = refl
  none_at (suc n) state ts e = rw e refl

  one_at : (n : ℕ) (state : State) (ts : List T) → begun state ts ≡ true → reader (suc n) state ts ≡ (r state ts >>= more n state)
  one_at n state ts e = rw e refl

  -- the first of a list and what stands behind it
  record Parts (limit : ℕ) (state : State) (x : A) (xs : List A) (text rest : List T) : Type 0 where
    front : List T
    back : List T
    parts : text ++ rest ≡ front ++ (back ++ rest)
    here : begun state (text ++ rest) ≡ true
    spells : Matches G ((s state).print x) front
    spells_back : Matches G (many_print set s step m (step state x) xs) back
    below : Below G limit ((s state).print x)
    below_back : Below G limit (many_print set s step m (step state x) xs)
    next : Next G ((s state).takes x) (back ++ rest)
    next_back : Next G (many_takes set s step m (step state x) xs) rest

  parts_of : (limit : ℕ) (state : State) (x : A) (xs : List A) (text rest : List T) → Matches G ((syntax state).print (x ∷ xs)) text → (syntax state).Good (x ∷ xs) → Below G limit ((syntax state).print (x ∷ xs)) → Next G ((syntax state).takes (x ∷ xs)) rest → Parts limit state x xs text rest
  parts_of limit state x xs text rest spells good below next = record {
    front = w.0;
    back = w.1;
    parts = ap (λ (z : List T). z ++ rest) w.2 ∙ append_assoc w.0 w.1 rest;
    here = many_starts state (x ∷ xs) text rest good refl spells;
    spells = w.3;
    spells_back = w.4;
    below = below_left G limit ((s state).print x) (many_print set s step m (step state x) xs) below;
    below_back = below_right G limit ((s state).print x) (many_print set s step m (step state x) xs) below;
    next = (ends xs good.1 good.2 w.4 next).0;
    next_back = (ends xs good.1 good.2 w.4 next).1;
  }
    where
      w : (u : List T) × (v : List T) × (text ≡ u ++ v) × Matches G ((s state).print x) u × Matches G (many_print set s step m (step state x) xs) v
      w = matches_split G ((s state).print x) (many_print set s step m (step state x) xs) text spells

      ends : (ys : List A) → many_good set s step m (step state x) ys → Apart (is_given ys) ((s state).takes x m) → Matches G (many_print set s step m (step state x) ys) w.1 → Next G (λ p. onward (is_given ys) ((s state).takes x p) (many_takes set s step m (step state x) ys p)) rest
          → Next G ((s state).takes x) (w.1 ++ rest) × Next G (many_takes set s step m (step state x) ys) rest
      ends [] good' fit spells' n = (rw (matches_nothing G w.1 spells') (next_left G ((s state).takes x) (set (step state x)) rest n), next_right G ((s state).takes x) (set (step state x)) rest n)
      ends (y ∷ ys) good' fit spells' n = (next_at G ((s state).takes x) (set (step state x)) m (λ p. alike state x p good.0) (w.1 ++ rest) (many_starts (step state x) (y ∷ ys) w.1 rest good' refl spells') fit, n)

  -- what is read first and behind it is a list
  joined : (state : State) (x : A) (xs : List A) (text rest : List T) → (s state).Good x → many_good set s step m (step state x) xs → Matches G (many_print set s step m (step state x) xs) text → Next G ((s state).takes x) (text ++ rest) → Next G (many_takes set s step m (step state x) xs) rest
      → Apart (is_given xs) ((s state).takes x m) × Next G (many_takes set s step m state (x ∷ xs)) rest
  joined state x [] text rest good good' spells next next' =
      (tt, next_both G ((s state).takes x) (set (step state x)) rest (subst (λ (z : List T). Next G ((s state).takes x) (z ++ rest)) (matches_nothing G text spells) next) next')
  joined state x (y ∷ ys) text rest good good' spells next next' = (at_next G ((s state).takes x) (set (step state x)) m (λ p. alike state x p good) (text ++ rest) (many_starts (step state x) (y ∷ ys) text rest good' refl spells) next, next')

  abbrev SoundAt : ℕ → Type 0
  SoundAt n = (state : State) (ts : List T) (x : List A × List T) → length ts ≤ n → reader n state ts ≡ Ok x → Read G (syntax state) top ts x.0 x.1

  sound_none : (n : ℕ) (state : State) (ts : List T) (x : List A × List T) → begun state ts ≡ false → reader n state ts ≡ Ok x → Read G (syntax state) top ts x.0 x.1
  sound_none n state ts x none e =
      subst (λ (z : List A × List T). Read G (syntax state) top ts z.0 z.1) (ok_is ([], ts) x (sym (none_at n state ts none) ∙ e)) (record { text = []; parts = refl; spells = tt; good = tt; below = tt; next = none })

  -- reading one leaves fewer tokens
  shorter : (n : ℕ) (state : State) (ts : List T) (a : A × List T) → length ts ≤ suc n → Read G (s state) top ts a.0 a.1 → length a.1 ≤ n
  shorter n state ts a le f = omega (arith, some_token state a.0 f.text f.good f.spells, ap length f.parts, length-append f.text a.1)

  sound_step : (n : ℕ) → SoundAt n → SoundAt (suc n)
  sound_step n before state ts x le e = ⊎_elim (λ none. sound_none (suc n) state ts x none e) one (cases (begun state ts))
    where
      one : begun state ts ≡ true → Read G (syntax state) top ts x.0 x.1
      one here =
          let p = bind_ok (r state ts) (more n state) x (sym (one_at n state ts here) ∙ e) in
          let f = (laws state ts here).sound ts p.0 p.1 in
          let q = bind_ok (reader n (step state p.0.0) p.0.1) (λ xs. Ok (p.0.0 ∷ xs.0, xs.1)) x p.2 in
          let g = before (step state p.0.0) p.0.1 q.0 (shorter n state ts p.0 le f) q.1 in
          let j = joined state p.0.0 q.0.0 g.text q.0.1 f.good g.good g.spells (subst (Next G ((s state).takes p.0.0)) g.parts f.next) g.next in
          subst (λ (z : List A × List T). Read G (syntax state) top ts z.0 z.1) (ok_is (p.0.0 ∷ q.0.0, q.0.1) x q.2) (record {
            text = f.text ++ g.text;
            parts = f.parts ∙ ap (λ (z : List T). f.text ++ z) g.parts ∙ sym (append_assoc f.text g.text q.0.1);
            spells = matches_join G ((s state).print p.0.0) (many_print set s step m (step state p.0.0) q.0.0) f.text g.text f.spells g.spells;
            good = (f.good, g.good, j.0);
            below = below_join G top ((s state).print p.0.0) (many_print set s step m (step state p.0.0) q.0.0) f.below g.below;
            next = j.1;
          })

  -- without tokens nothing begins
  no_tokens : (state : State) (ts : List T) → length ts ≤ zero → begun state ts ≡ false
  no_tokens state [] le = refl
  no_tokens state (t ∷ ts) le = absurd (omega arith)

  sound_at : (n : ℕ) → SoundAt n
  sound_at zero state ts x le e = sound_none zero state ts x (no_tokens state ts le) e
  sound_at (suc n) state ts x le e = sound_step n (sound_at n) state ts x le e

  complete_at : (n : ℕ) (state : State) (xs : List A) (text rest : List T) → length (text ++ rest) ≤ n → Matches G ((syntax state).print xs) text → (syntax state).Good xs → Below G top ((syntax state).print xs) → Next G ((syntax state).takes xs) rest → reader n state (text ++ rest) ≡ Ok (xs, rest)
  complete_at n state [] text rest le spells good below next = rw (matches_nothing G text spells, none_at n state rest next) refl
  complete_at zero state (x ∷ xs) text rest le spells good below next =
      let never : true ≡ false = sym (many_starts state (x ∷ xs) text rest good refl spells) ∙ no_tokens state (text ++ rest) le in absurd cc
  complete_at (suc n) state (x ∷ xs) text rest le spells good below next =
      let w = parts_of top state x xs text rest spells good below next in
      let f = (laws state (text ++ rest) w.here).complete x w.front (w.back ++ rest) w.spells good.0 w.below w.next in
      let short : length (w.back ++ rest) ≤ n = omega (arith, some_token state x w.front good.0 w.spells, ap length w.parts, length-append w.front (w.back ++ rest)) in
      let g = complete_at n (step state x) xs w.back rest short w.spells_back good.1 w.below_back w.next_back in
      one_at n state (text ++ rest) w.here ∙ rw (w.parts, f, g) refl

  -- where reading ends, one was begun, and it or one behind it isn't read
  ended : (n : ℕ) (state : State) (ts : List T) (d : Fault) → reader (suc n) state ts ≡ Err d → (begun state ts ≡ true) × ((r state ts >>= more n state) ≡ Err d)
  ended n state ts d e = ⊎_elim (λ none. ok_fails ([], ts) d (sym (none_at (suc n) state ts none) ∙ e)) (λ here. (here, sym (one_at n state ts here) ∙ e)) (cases (begun state ts))

  later_fault : (n : ℕ) (state : State) (a : A × List T) (d : Fault) → more n state a ≡ Err d → reader n (step state a.0) a.1 ≡ Err d
  later_fault n state a d e = fault_before (reader n (step state a.0) a.1) (λ xs. (a.0 ∷ xs.0, xs.1)) d e

  pub many_begun : (n : ℕ) (state : State) (ts : List T) (d : Fault) → reader n state ts ≡ Err d → begun state ts ≡ true
  many_begun zero state ts d e = ok_fails ([], ts) d e
  many_begun (suc n) state ts d e = (ended n state ts d e).0

  abbrev FailsAt : ℕ → Type 0
  FailsAt n = (state : State) (ts : List T) (d : Fault) → length ts ≤ n → reader n state ts ≡ Err d → Fails G (syntax state) top ts d

  fails_step : (n : ℕ) → FailsAt n → FailsAt (suc n)
  fails_step n before state ts d le e = ⊎_elim first others (bind_err (r state ts) (more n state) d w.1)
    where
      w : (begun state ts ≡ true) × ((r state ts >>= more n state) ≡ Err d)
      w = ended n state ts d e

      first : r state ts ≡ Err d → Fails G (syntax state) top ts d
      first ea =
          let h = (laws state ts w.0).fails ts d ea in
          record { read = h.read; left = h.left; parts = h.parts; tree = h.tree ∷ []; good = (h.good, tt, tt); before = h.before; after = h.after ++ []; text = ap (λ (z : List I). z ++ []) h.text ∙ append_assoc h.before h.after []; spells = h.spells; below = h.below; at = at_more G top d h.left h.after [] h.at }

      others : (a : A × List T) × (r state ts ≡ Ok a) × (more n state a ≡ Err d) → Fails G (syntax state) top ts d
      others p =
          let e' = later_fault n state p.0 d p.2 in
          let f = (laws state ts w.0).sound ts p.0 p.1 in
          let h = before (step state p.0.0) p.0.1 d (shorter n state ts p.0 le f) e' in
          let free = at_next G ((s state).takes p.0.0) (set (step state p.0.0)) m (λ q. alike state p.0.0 q f.good) p.0.1 (many_begun n (step state p.0.0) p.0.1 d e') f.next in
          record {
            read = f.text ++ h.read;
            left = h.left;
            parts = f.parts ∙ ap (λ (z : List T). f.text ++ z) h.parts ∙ sym (append_assoc f.text h.read h.left);
            tree = p.0.0 ∷ h.tree;
            good = (f.good, h.good, apart (is_given h.tree) ((s state).takes p.0.0 m) free);
            before = (s state).print p.0.0 ++ h.before;
            after = h.after;
            text = ap (λ (z : List I). (s state).print p.0.0 ++ z) h.text ∙ sym (append_assoc ((s state).print p.0.0) h.before h.after);
            spells = matches_join G ((s state).print p.0.0) h.before f.text h.read f.spells h.spells;
            below = below_join G top ((s state).print p.0.0) h.before f.below h.below;
            at = h.at;
          }

  fails_at : (n : ℕ) → FailsAt n
  fails_at zero state ts d le e = ok_fails ([], ts) d e
  fails_at (suc n) state ts d le e = fails_step n (fails_at n) state ts d le e

  within_at : (n : ℕ) (state : State) (ts : List T) (d : Fault) → length ts ≤ n → reader n state ts ≡ Err d → left_of d ≤ length ts
  within_at n state ts d le e = let h = fails_at n state ts d le e in omega (arith, ap length h.parts, length-append h.read h.left, at_left G top d h.left h.after h.at)

  -- where reading ends behind the first: that one, and the tokens between
  record Later (n : ℕ) (state : State) (q r' : List T) (t : T) (d : Fault) : Type 0 where
    x : A
    text : List T
    c : List T
    good : (s state).Good x
    spells : Matches G ((s state).print x) text
    below : Below G top ((s state).print x)
    next : Next G ((s state).takes x) (c ++ t ∷ r')
    front : q ≡ text ++ c
    short : length (c ++ t ∷ r') ≤ n
    stop : reader n (step state x) (c ++ t ∷ r') ≡ Err d

  later : (n : ℕ) (state : State) (q r' : List T) (t : T) (d : Fault) → left_of d ≡ suc (length r') → length (q ++ t ∷ r') ≤ suc n → begun state (q ++ t ∷ r') ≡ true → (a : A × List T) → r state (q ++ t ∷ r') ≡ Ok a → more n state a ≡ Err d → Later n state q r' t d
  later n state q r' t d at le here a read e =
      let e' = later_fault n state a d e in
      let f = (laws state (q ++ t ∷ r') here).sound (q ++ t ∷ r') a read in
      let short = shorter n state (q ++ t ∷ r') a le f in
      let cut = cut_at q (t ∷ r') f.text a.1 f.parts (omega (arith, at, within_at n (step state a.0) a.1 d short e')) in
      record {
        x = a.0;
        text = f.text;
        c = cut.0;
        good = f.good;
        spells = f.spells;
        below = f.below;
        next = subst (Next G ((s state).takes a.0)) cut.1 f.next;
        front = cut.2;
        short = subst (λ (z : List T). length z ≤ n) cut.1 short;
        stop = sym (ap (reader n (step state a.0)) cut.1) ∙ e';
      }

  -- where reading ends, the tokens before and the next have decided that one begins
  decided_at : (n : ℕ) (state : State) (q r' z : List T) (t : T) (d : Fault) → length (q ++ t ∷ r') ≤ n → reader n state (q ++ t ∷ r') ≡ Err d → left_of d ≡ suc (length r') → begun state (q ++ t ∷ z) ≡ true
  decided_at zero state q r' z t d le e at = ok_fails ([], q ++ t ∷ r') d e
  decided_at (suc n) state q r' z t d le e at = ⊎_elim (λ ea. (St state).decided q r' z t d w.0 ea at) others (bind_err (r state (q ++ t ∷ r')) (more n state) d w.1)
    where
      w : (begun state (q ++ t ∷ r') ≡ true) × ((r state (q ++ t ∷ r') >>= more n state) ≡ Err d)
      w = ended n state (q ++ t ∷ r') d e

      others : (a : A × List T) × (r state (q ++ t ∷ r') ≡ Ok a) × (more n state a ≡ Err d) → begun state (q ++ t ∷ z) ≡ true
      others p =
          let l = later n state q r' t d at le w.0 p.0 p.1 p.2 in
          ap (begun state) (ap (λ (y : List T). y ++ t ∷ z) l.front ∙ append_assoc l.text l.c (t ∷ z)) ∙ (St state).starts l.x l.text (l.c ++ t ∷ z) l.good l.spells

  abbrev FirmAt : ℕ → Type 0
  FirmAt n = (state : State) (q r' z text rest : List T) (t : T) (xs : List A) → length (q ++ t ∷ r') ≤ n → reader n state (q ++ t ∷ r') ≡ Err (Stop (suc (length r'))) → Matches G ((syntax state).print xs) text → (syntax state).Good xs → Below G top ((syntax state).print xs) → Next G ((syntax state).takes xs) rest → text ++ rest ≡ q ++ t ∷ z → ⊥

  firm_step : (n : ℕ) → FirmAt n → FirmAt (suc n)
  firm_step n before state q r' z text rest t [] le e spells good below next same =
      let here : rest ≡ q ++ t ∷ z = sym (ap (λ (y : List T). y ++ rest) (matches_nothing G text spells)) ∙ same in
      let never : true ≡ false = sym (decided_at (suc n) state q r' z t (Stop (suc (length r'))) le e refl) ∙ (sym (ap (begun state) here) ∙ next) in
      cc
  firm_step n before state q r' z text rest t (x ∷ xs) le e spells good below next same = ⊎_elim first others (bind_err (r state (q ++ t ∷ r')) (more n state) (Stop (suc (length r'))) w.1)
    where
      w : (begun state (q ++ t ∷ r') ≡ true) × ((r state (q ++ t ∷ r') >>= more n state) ≡ Err (Stop (suc (length r'))))
      w = ended n state (q ++ t ∷ r') (Stop (suc (length r'))) e

      v : Parts top state x xs text rest
      v = parts_of top state x xs text rest spells good below next

      same' : v.front ++ (v.back ++ rest) ≡ q ++ t ∷ z
      same' = sym v.parts ∙ same

      first : r state (q ++ t ∷ r') ≡ Err (Stop (suc (length r'))) → ⊥
      first ea = (laws state (q ++ t ∷ r') w.0).firm q r' z v.front (v.back ++ rest) t x ea v.spells good.0 v.below v.next same'

      behind : (x' : A) → x' ≡ x → (c : List T) → length (c ++ t ∷ r') ≤ n → reader n (step state x') (c ++ t ∷ r') ≡ Err (Stop (suc (length r'))) → v.back ++ rest ≡ c ++ t ∷ z → ⊥
      behind x' ex c short stop back = before (step state x) c r' z v.back rest t xs short (ap (λ (y : A). reader n (step state y) (c ++ t ∷ r')) (sym ex) ∙ stop) v.spells_back good.1 v.below_back v.next_back back

      others : (a : A × List T) × (r state (q ++ t ∷ r') ≡ Ok a) × (more n state a ≡ Err (Stop (suc (length r')))) → ⊥
      others p =
          let l = later n state q r' t (Stop (suc (length r'))) refl le w.0 p.0 p.1 p.2 in
          let free = at_next G ((s state).takes l.x) (set (step state l.x)) m (λ k. alike state l.x k l.good) (l.c ++ t ∷ r') (many_begun n (step state l.x) (l.c ++ t ∷ r') (Stop (suc (length r'))) l.stop) l.next in
          let next' = next_at G ((s state).takes l.x) (set (step state l.x)) m (λ k. alike state l.x k l.good) (l.c ++ t ∷ z) (decided_at n (step state l.x) l.c r' z t (Stop (suc (length r'))) l.short l.stop refl) free in
          let goes : v.front ++ (v.back ++ rest) ≡ l.text ++ (l.c ++ t ∷ z) = same' ∙ ap (λ (y : List T). y ++ t ∷ z) l.front ∙ append_assoc l.text l.c (t ∷ z) in
          let one = first_is (laws state (q ++ t ∷ r') w.0) l.text (l.c ++ t ∷ z) v.front (v.back ++ rest) l.x x l.spells l.good l.below next' v.spells good.0 v.below v.next goes in
          behind l.x one.0 l.c l.short l.stop one.1

  firm_at : (n : ℕ) → FirmAt n
  firm_at zero state q r' z text rest t xs le e spells good below next same = ok_fails ([], q ++ t ∷ r') (Stop (suc (length r'))) e
  firm_at (suc n) state q r' z text rest t xs le e spells good below next same = firm_step n (firm_at n) state q r' z text rest t xs le e spells good below next same

  pub many_from_law : (state : State) → Law G (many_from begun r step state) (syntax state) top
  many_from_law state = record {
    sound = λ ts x e. sound_at (length ts) state ts x (omega arith) e;
    complete = λ xs text rest spells good below next. complete_at (length (text ++ rest)) state xs text rest (omega arith) spells good below next;
    fails = λ ts d e. fails_at (length ts) state ts d (omega arith) e;
    firm = λ q r' z text rest t xs e spells good below next same. firm_at (length (q ++ t ∷ r')) state q r' z text rest t xs (omega arith) e spells good below next same;
  }

  -- so that it may stand behind something open
  pub many_from_tail : (state : State) → Tail G (set state) is_given (many_from begun r step state) (syntax state) top
  many_from_tail state = record {
    law = many_from_law state;
    bare = bare;
    starts = λ xs text rest good given spells. many_starts state xs text rest good given spells;
    begun = λ ts d e. many_begun (length ts) state ts d e;
    decided = λ q r' z t d e at. decided_at (length (q ++ t ∷ r')) state q r' z t d (omega arith) e at;
    left_out = ([], tt, refl);
  }
    where
      bare : (xs : List A) → is_given xs ≡ false → many_print set s step m state xs ≡ []
      bare [] e = refl
      bare (x ∷ xs) e = absurd cc

  -- where there is too little room for one of them
  module _ {r' : State → Reader T A} (wide : ℕ) (le : top ≤ wide) (wide_laws : (state : State) (ts : List T) → begins G (set state) ts ≡ true → Law G (r' state) (s state) wide)
      (deep : (state : State) (ts : List T) → begins G (set state) ts ≡ true → Deepens G (r state) (s state) top wide) where
    -- behind the first, as it was read
    deep_behind : (state : State) (x : A) (xs : List A) (q text c : List T) → Below G top ((s state).print x) → Matches G ((s state).print x) text → q ≡ text ++ c → OpensAt G top (many_print set s step m (step state x) xs) (length c) → OpensAt G top ((syntax state).print (x ∷ xs)) (length q)
    deep_behind state x xs q text c below spells parts o =
        opens_right G top ((s state).print x) (many_print set s step m (step state x) xs) (length c) (length q) below (omega (arith, ap length parts, length-append text c, matches_length G ((s state).print x) text spells)) o

    abbrev DeepAt : ℕ → Type 0
    DeepAt n = (state : State) (q r0 z text rest : List T) (t : T) (xs : List A) → length (q ++ t ∷ r0) ≤ n → reader n state (q ++ t ∷ r0) ≡ Err (Deep (suc (length r0))) → Matches G ((syntax state).print xs) text → (syntax state).Good xs → Below G wide ((syntax state).print xs) → Next G ((syntax state).takes xs) rest → text ++ rest ≡ q ++ t ∷ z → OpensAt G top ((syntax state).print xs) (length q)

    deep_step : (n : ℕ) → DeepAt n → DeepAt (suc n)
    deep_step n before state q r0 z text rest t [] le0 e spells good below next same =
        let here : rest ≡ q ++ t ∷ z = sym (ap (λ (y : List T). y ++ rest) (matches_nothing G text spells)) ∙ same in
        let never : true ≡ false = sym (decided_at (suc n) state q r0 z t (Deep (suc (length r0))) le0 e refl) ∙ (sym (ap (begun state) here) ∙ next) in
        absurd cc
    deep_step n before state q r0 z text rest t (x ∷ xs) le0 e spells good below next same = ⊎_elim first others (bind_err (r state (q ++ t ∷ r0)) (more n state) (Deep (suc (length r0))) w.1)
      where
        w : (begun state (q ++ t ∷ r0) ≡ true) × ((r state (q ++ t ∷ r0) >>= more n state) ≡ Err (Deep (suc (length r0))))
        w = ended n state (q ++ t ∷ r0) (Deep (suc (length r0))) e

        v : Parts wide state x xs text rest
        v = parts_of wide state x xs text rest spells good below next

        same' : v.front ++ (v.back ++ rest) ≡ q ++ t ∷ z
        same' = sym v.parts ∙ same

        first : r state (q ++ t ∷ r0) ≡ Err (Deep (suc (length r0))) → OpensAt G top ((syntax state).print (x ∷ xs)) (length q)
        first ea = opens_left G top ((s state).print x) (many_print set s step m (step state x) xs) (length q) ((deep state (q ++ t ∷ r0) w.0).there q r0 z v.front (v.back ++ rest) t x ea v.spells good.0 v.below v.next same')

        behind : (x' : A) → x' ≡ x → Below G top ((s state).print x') → (front c : List T) → Matches G ((s state).print x') front → q ≡ front ++ c → length (c ++ t ∷ r0) ≤ n → reader n (step state x') (c ++ t ∷ r0) ≡ Err (Deep (suc (length r0))) → v.back ++ rest ≡ c ++ t ∷ z → OpensAt G top ((syntax state).print (x ∷ xs)) (length q)
        behind x' ex low front c fits parts short stop back = deep_behind state x xs q front c (subst (λ (y : A). Below G top ((s state).print y)) ex low) (subst (λ (y : A). Matches G ((s state).print y) front) ex fits) parts
            (before (step state x) c r0 z v.back rest t xs short (ap (λ (y : A). reader n (step state y) (c ++ t ∷ r0)) (sym ex) ∙ stop) v.spells_back good.1 v.below_back v.next_back back)

        others : (a : A × List T) × (r state (q ++ t ∷ r0) ≡ Ok a) × (more n state a ≡ Err (Deep (suc (length r0)))) → OpensAt G top ((syntax state).print (x ∷ xs)) (length q)
        others p =
            let l = later n state q r0 t (Deep (suc (length r0))) refl le0 w.0 p.0 p.1 p.2 in
            let free = at_next G ((s state).takes l.x) (set (step state l.x)) m (λ k. alike state l.x k l.good) (l.c ++ t ∷ r0) (many_begun n (step state l.x) (l.c ++ t ∷ r0) (Deep (suc (length r0))) l.stop) l.next in
            let next' = next_at G ((s state).takes l.x) (set (step state l.x)) m (λ k. alike state l.x k l.good) (l.c ++ t ∷ z) (decided_at n (step state l.x) l.c r0 z t (Deep (suc (length r0))) l.short l.stop refl) free in
            let goes : v.front ++ (v.back ++ rest) ≡ l.text ++ (l.c ++ t ∷ z) = same' ∙ ap (λ (y : List T). y ++ t ∷ z) l.front ∙ append_assoc l.text l.c (t ∷ z) in
            let one = first_is (wide_laws state (q ++ t ∷ r0) w.0) l.text (l.c ++ t ∷ z) v.front (v.back ++ rest) l.x x l.spells l.good (below_wider G top wide ((s state).print l.x) le l.below) next' v.spells good.0 v.below v.next goes in
            behind l.x one.0 l.below l.text l.c l.spells l.front l.short l.stop one.1

    deep_at : (n : ℕ) → DeepAt n
    deep_at zero state q r0 z text rest t xs le0 e spells good below next same = ok_fails ([], q ++ t ∷ r0) (Deep (suc (length r0))) e
    deep_at (suc n) state q r0 z text rest t xs le0 e spells good below next same = deep_step n (deep_at n) state q r0 z text rest t xs le0 e spells good below next same

    pub many_from_deepens : (state : State) → Deepens G (many_from begun r step state) (syntax state) top wide
    many_from_deepens state = record { there = λ q r0 z text rest t xs e spells good below next same. deep_at (length (q ++ t ∷ r0)) state q r0 z text rest t xs (omega arith) e spells good below next same }

-- plain lists
abbrev pub many_syntax : {I M A : Type 0} → (M → Bool) → Syntax I M A → M → Syntax I M (List A)
many_syntax set s m = many_from_syntax (λ state. set) (λ state. s) no_step m tt

module _ {T I M A : Type 0} {G : Alphabet T I M} {r : Reader T A} {s : Syntax I M A} {top : ℕ} (L : Law G r s top) (set : M → Bool) (m : M) (alike : (x : A) (p : M) → s.Good x → set p ≡ true → s.takes x p ≡ s.takes x m) (St : Starts G set r s) where
  pub many_law : Law G (many (begins G set) r) (many_syntax set s m) top
  many_law = many_from_law (λ (state : Unit {0}). set) no_step m (λ state. alike) (λ state. St) (λ state ts here. L) tt

  pub many_tail : Tail G set is_given (many (begins G set) r) (many_syntax set s m) top
  many_tail = many_from_tail (λ (state : Unit {0}). set) no_step m (λ state. alike) (λ state. St) (λ state ts here. L) tt
