-- One of two, by what stands first.
use Rattle.std.proofs.Common.{◌≡◌, ℕ, suc, ◌⊎◌, inl, inr, Bool, true, false, List, [], ◌∷◌, ◌++◌, length, Ok, Err, refl, sym, ap, subst, ◌∙◌}
use Rattle.reading.specs.Readers.{left_of, Fault, Stop, Reader, choose_on, choose}
use Rattle.reading.specs.Printing.{begins, Alphabet, Matches, Below, Next}
use Rattle.reading.specs.Law.{Syntax, Read, Fails, Law}
use Rattle.reading.proofs.Starts.{Begins, OneToken, one_decides}
use Rattle.reading.proofs.Results.{bind_ok, ok_is, fault_before}

module _ {I M A B : Type 0} (a : Syntax I M A) (b : Syntax I M B) where
  abbrev pub good_choice : A ⊎ B → Type 0
  good_choice (inl x) = a.Good x
  good_choice (inr y) = b.Good y

  abbrev pub print_choice : A ⊎ B → List I
  print_choice (inl x) = a.print x
  print_choice (inr y) = b.print y

  abbrev pub takes_choice : A ⊎ B → M → Bool
  takes_choice (inl x) p = a.takes x p
  takes_choice (inr y) p = b.takes y p

  abbrev pub choose_syntax : Syntax I M (A ⊎ B)
  choose_syntax = record { Good = good_choice; print = print_choice; takes = takes_choice }

-- The test tells the two apart, and where reading stops, the tokens before and the next have decided it.
pub record Tells {T I M A B : Type 0} (G : Alphabet T I M) (test : List T → Bool) (R : Reader T A) (S : Reader T B) (a : Syntax I M A) (b : Syntax I M B) : Type 0 where
  pub first : (x : A) (text rest : List T) → a.Good x → Matches G (a.print x) text → Next G (a.takes x) rest → test (text ++ rest) ≡ true
  pub second : (y : B) (text rest : List T) → b.Good y → Matches G (b.print y) text → Next G (b.takes y) rest → test (text ++ rest) ≡ false
  pub decided : (q r z : List T) (t : T) (d : Fault) → test (q ++ t ∷ r) ≡ true → R (q ++ t ∷ r) ≡ Err d → left_of d ≡ suc (length r) → test (q ++ t ∷ z) ≡ true
  pub excluded : (q r z : List T) (t : T) (d : Fault) → test (q ++ t ∷ r) ≡ false → S (q ++ t ∷ r) ≡ Err d → left_of d ≡ suc (length r) → test (q ++ t ∷ z) ≡ false

-- where a mark that one token decides tells them apart
pub tells_by_one : {T I M A B : Type 0} {G : Alphabet T I M} {R : Reader T A} {S : Reader T B} {a : Syntax I M A} {b : Syntax I M B} (set : M → Bool) → OneToken G set → Begins G set a
    → ((y : B) (text rest : List T) → b.Good y → Matches G (b.print y) text → Next G (b.takes y) rest → begins G set (text ++ rest) ≡ false) → Tells G (begins G set) R S a b
tells_by_one {T} {I} {M} {A} {B} {G} {R} {S} {a} {b} set one all none = record { first = λ x text rest good spells next. all x text rest good spells; second = none; decided = λ q r z t d e stop at. moved q r z t ∙ e; excluded = λ q r z t d e stop at. moved q r z t ∙ e }
  where
    moved : (q r z : List T) (t : T) → begins G set (q ++ t ∷ z) ≡ begins G set (q ++ t ∷ r)
    moved [] r z t = one_decides G set one t z r
    moved (u ∷ q) r z t = one_decides G set one u (q ++ t ∷ z) (q ++ t ∷ r)

module _ {T I M A B : Type 0} {G : Alphabet T I M} {R : Reader T A} {S : Reader T B} {a : Syntax I M A} {b : Syntax I M B} {top : ℕ} {test : List T → Bool} (LA : Law G R a top) (LB : Law G S b top) (D : Tells G test R S a b) where
  abbrev syntax : Syntax I M (A ⊎ B)
  syntax = choose_syntax a b

  sound : (ts : List T) (x : (A ⊎ B) × List T) → choose test R S ts ≡ Ok x → Read G syntax top ts x.0 x.1
  sound ts x e = go (test ts) e
    where
      go : (c : Bool) → choose_on c R S ts ≡ Ok x → Read G syntax top ts x.0 x.1
      go true e0 =
          let p = bind_ok (R ts) (λ y. Ok (inl y.0, y.1)) x e0 in
          let f = LA.sound ts p.0 p.1 in
          subst (λ (z : (A ⊎ B) × List T). Read G syntax top ts z.0 z.1) (ok_is (inl p.0.0, p.0.1) x p.2) (record { text = f.text; parts = f.parts; spells = f.spells; good = f.good; below = f.below; next = f.next })
      go false e0 =
          let p = bind_ok (S ts) (λ y. Ok (inr y.0, y.1)) x e0 in
          let f = LB.sound ts p.0 p.1 in
          subst (λ (z : (A ⊎ B) × List T). Read G syntax top ts z.0 z.1) (ok_is (inr p.0.0, p.0.1) x p.2) (record { text = f.text; parts = f.parts; spells = f.spells; good = f.good; below = f.below; next = f.next })

  complete : (x : A ⊎ B) (text rest : List T) → Matches G (print_choice a b x) text → good_choice a b x → Below G top (print_choice a b x) → Next G (takes_choice a b x) rest → choose test R S (text ++ rest) ≡ Ok (x, rest)
  complete (inl x) text rest spells good below next = rw (D.first x text rest good spells next, LA.complete x text rest spells good below next) refl
  complete (inr y) text rest spells good below next = rw (D.second y text rest good spells next, LB.complete y text rest spells good below next) refl

  fails : (ts : List T) (d : Fault) → choose test R S ts ≡ Err d → Fails G syntax top ts d
  fails ts d e = go (test ts) e
    where
      go : (c : Bool) → choose_on c R S ts ≡ Err d → Fails G syntax top ts d
      go true e0 =
          let h = LA.fails ts d (fault_before (R ts) (λ y. (inl y.0, y.1)) d e0) in
          record { read = h.read; left = h.left; parts = h.parts; tree = inl h.tree; good = h.good; before = h.before; after = h.after; text = h.text; spells = h.spells; below = h.below; at = h.at }
      go false e0 =
          let h = LB.fails ts d (fault_before (S ts) (λ y. (inr y.0, y.1)) d e0) in
          record { read = h.read; left = h.left; parts = h.parts; tree = inr h.tree; good = h.good; before = h.before; after = h.after; text = h.text; spells = h.spells; below = h.below; at = h.at }

  firm : (q r z text rest : List T) (t : T) (x : A ⊎ B) → choose test R S (q ++ t ∷ r) ≡ Err (Stop (suc (length r))) → Matches G (print_choice a b x) text → good_choice a b x → Below G top (print_choice a b x) → Next G (takes_choice a b x) rest → text ++ rest ≡ q ++ t ∷ z → ⊥
  firm q r z text rest t x e spells good below next same = go (test (q ++ t ∷ r)) refl e
    where
      at_first : R (q ++ t ∷ r) ≡ Err (Stop (suc (length r))) → test (q ++ t ∷ z) ≡ true → (y : A ⊎ B) → Matches G (print_choice a b y) text → good_choice a b y → Below G top (print_choice a b y) → Next G (takes_choice a b y) rest → ⊥
      at_first er still (inl y) s0 g0 b0 n0 = LA.firm q r z text rest t y er s0 g0 b0 n0 same
      at_first er still (inr y) s0 g0 b0 n0 = let never : true ≡ false = sym still ∙ (ap test (sym same) ∙ D.second y text rest g0 s0 n0) in cc

      at_second : S (q ++ t ∷ r) ≡ Err (Stop (suc (length r))) → test (q ++ t ∷ z) ≡ false → (y : A ⊎ B) → Matches G (print_choice a b y) text → good_choice a b y → Below G top (print_choice a b y) → Next G (takes_choice a b y) rest → ⊥
      at_second er still (inr y) s0 g0 b0 n0 = LB.firm q r z text rest t y er s0 g0 b0 n0 same
      at_second er still (inl y) s0 g0 b0 n0 = let never : true ≡ false = sym (D.first y text rest g0 s0 n0) ∙ (ap test same ∙ still) in cc

      go : (c : Bool) → test (q ++ t ∷ r) ≡ c → choose_on c R S (q ++ t ∷ r) ≡ Err (Stop (suc (length r))) → ⊥
      go true ec e0 = let er = fault_before (R (q ++ t ∷ r)) (λ y. (inl y.0, y.1)) (Stop (suc (length r))) e0 in at_first er (D.decided q r z t (Stop (suc (length r))) ec er refl) x spells good below next
      go false ec e0 = let er = fault_before (S (q ++ t ∷ r)) (λ y. (inr y.0, y.1)) (Stop (suc (length r))) e0 in at_second er (D.excluded q r z t (Stop (suc (length r))) ec er refl) x spells good below next

  pub choose_law : Law G (choose test R S) syntax top
  choose_law = record { sound = sound; complete = complete; fails = fails; firm = firm }
