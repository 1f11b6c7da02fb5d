-- What may be left out, where the tokens that open it tell whether it stands.
use Rattle.std.proofs.Common.{◌≡◌, ℕ, suc, Bool, true, false, List, [], ◌∷◌, ◌++◌, length, Option, Some, None, Result, Ok, Err, refl, sym, ap, subst, ◌∙◌, append_assoc, arith}
use Rattle.reading.specs.Readers.{left_of, Fault, Stop, Reader, optional_on, optional}
use Rattle.reading.specs.Printing.{Alphabet, Matches, Below, begins, Next}
use Rattle.reading.specs.Law.{Syntax, Read, Fails, Law}
use Rattle.reading.proofs.Results.{bind_ok, ok_is, ok_fails, fault_before, cut_at}
use Rattle.reading.proofs.Texts.{matches_nothing, matches_join, matches_split, below_join, below_right}
use Rattle.reading.proofs.Consequences.{within}

module _ {I M B : Type 0} (set : M → Bool) (its : List I) (b : Syntax I M B) where
  abbrev pub good_option : Option B → Type 0
  good_option None = Unit {0}
  good_option (Some y) = b.Good y

  abbrev pub print_option : Option B → List I
  print_option None = []
  print_option (Some y) = its ++ b.print y

  -- where it is left out, it may still follow
  abbrev pub takes_option : Option B → M → Bool
  takes_option None p = set p
  takes_option (Some y) p = b.takes y p

  abbrev pub optional_syntax : Syntax I M (Option B)
  optional_syntax = record { Good = good_option; print = print_option; takes = takes_option }

-- The tokens of its open what b allows, and cut tells them by one of the marks.
pub record Opener {T I M B : Type 0} (G : Alphabet T I M) (set : M → Bool) (its : List I) (cut : List T → Option (List T)) (S : Reader T B) (b : Syntax I M B) (top : ℕ) : Type 0 where
  pub found : (ts rest : List T) → cut ts ≡ Some rest → (o : List T) × (ts ≡ o ++ rest) × Matches G its o
  pub stands : (ts rest : List T) → cut ts ≡ Some rest → begins G set ts ≡ true
  pub none : (ts : List T) → cut ts ≡ None → begins G set ts ≡ false
  pub reads : (y : B) (o text rest : List T) → b.Good y → Matches G its o → Matches G (b.print y) text → cut (o ++ (text ++ rest)) ≡ Some (text ++ rest)
  -- the tokens before the place where reading stops have decided it
  pub decided : (o c r z : List T) (t : T) (d : Fault) → Matches G its o → cut (o ++ (c ++ t ∷ r)) ≡ Some (c ++ t ∷ r) → S (c ++ t ∷ r) ≡ Err d → left_of d ≡ suc (length r) → cut (o ++ (c ++ t ∷ z)) ≡ Some (c ++ t ∷ z)
  pub low : Below G top its

module _ {T I M B : Type 0} {G : Alphabet T I M} {set : M → Bool} {its : List I} {cut : List T → Option (List T)} {S : Reader T B} {b : Syntax I M B} {top : ℕ}
    (O : Opener G set its cut S b top) (LB : (ts rest : List T) → cut ts ≡ Some rest → Law G S b top) where
  abbrev syntax : Syntax I M (Option B)
  syntax = optional_syntax set its b

  abbrev given : B × List T → Result (Option B × List T) Fault
  given y = Ok (Some y.0, y.1)

  sound : (ts : List T) (x : Option B × List T) → optional cut S ts ≡ Ok x → Read G syntax top ts x.0 x.1
  sound ts x e = go (cut ts) refl e
    where
      go : (c : Option (List T)) → cut ts ≡ c → optional_on c S ts ≡ Ok x → Read G syntax top ts x.0 x.1
      go None ec e0 = subst (λ (z : Option B × List T). Read G syntax top ts z.0 z.1) (ok_is (None, ts) x e0) (record { text = []; parts = refl; spells = tt; good = tt; below = tt; next = O.none ts ec })
      go (Some u) ec e0 =
          let p = bind_ok (S u) given x e0 in
          let f = (LB ts u ec).sound u p.0 p.1 in
          let o = O.found ts u ec in
          subst (λ (z : Option B × List T). Read G syntax top ts z.0 z.1) (ok_is (Some p.0.0, p.0.1) x p.2) (record {
            text = o.0 ++ f.text;
            parts = o.1 ∙ ap (λ (z : List T). o.0 ++ z) f.parts ∙ sym (append_assoc o.0 f.text p.0.1);
            spells = matches_join G its (b.print p.0.0) o.0 f.text o.2 f.spells;
            good = f.good;
            below = below_join G top its (b.print p.0.0) O.low f.below;
            next = f.next;
          })

  no_cut : (ts : List T) → begins G set ts ≡ false → cut ts ≡ None
  no_cut ts e = go (cut ts) refl
    where
      go : (c : Option (List T)) → cut ts ≡ c → cut ts ≡ None
      go None ec = ec
      go (Some u) ec = let never : true ≡ false = sym (O.stands ts u ec) ∙ e in absurd cc

  complete : (x : Option B) (text rest : List T) → Matches G (syntax.print x) text → syntax.Good x → Below G top (syntax.print x) → Next G (syntax.takes x) rest → optional cut S (text ++ rest) ≡ Ok (x, rest)
  complete None text rest s good below next = rw (matches_nothing G text s, no_cut rest next) refl
  complete (Some y) text rest s good below next =
      let w = matches_split G its (b.print y) text s in
      let found = O.reads y w.0 w.1 rest good w.3 w.4 in
      let read = (LB (w.0 ++ (w.1 ++ rest)) (w.1 ++ rest) found).complete y w.1 rest w.4 good (below_right G top its (b.print y) below) next in
      let parts : text ++ rest ≡ w.0 ++ (w.1 ++ rest) = ap (λ (z : List T). z ++ rest) w.2 ∙ append_assoc w.0 w.1 rest in
      rw (parts, found, read) refl

  -- where reading ends, it was begun
  ended : (ts : List T) (d : Fault) → optional cut S ts ≡ Err d → (u : List T) × (cut ts ≡ Some u) × (S u ≡ Err d)
  ended ts d e = go (cut ts) refl e
    where
      go : (c : Option (List T)) → cut ts ≡ c → optional_on c S ts ≡ Err d → (u : List T) × (cut ts ≡ Some u) × (S u ≡ Err d)
      go None ec e0 = ok_fails (None, ts) d e0
      go (Some u) ec e0 = (u, ec, fault_before (S u) (λ y. (Some y.0, y.1)) d e0)

  fails : (ts : List T) (d : Fault) → optional cut S ts ≡ Err d → Fails G syntax top ts d
  fails ts d e =
      let w = ended ts d e in
      let o = O.found ts w.0 w.1 in
      let h = (LB ts w.0 w.1).fails w.0 d w.2 in
      record {
        read = o.0 ++ h.read;
        left = h.left;
        parts = o.1 ∙ ap (λ (z : List T). o.0 ++ z) h.parts ∙ sym (append_assoc o.0 h.read h.left);
        tree = Some h.tree;
        good = h.good;
        before = its ++ h.before;
        after = h.after;
        text = ap (λ (z : List I). its ++ z) h.text ∙ sym (append_assoc its h.before h.after);
        spells = matches_join G its h.before o.0 h.read o.2 h.spells;
        below = below_join G top its h.before O.low h.below;
        at = h.at;
      }

  pub optional_begun : (ts : List T) (d : Fault) → optional cut S ts ≡ Err d → begins G set ts ≡ true
  optional_begun ts d e = let w = ended ts d e in O.stands ts w.0 w.1

  -- where it stops, the tokens before and the next have decided what is cut
  pub still : (q r z : List T) (t : T) (d : Fault) → optional cut S (q ++ t ∷ r) ≡ Err d → left_of d ≡ suc (length r) → (c : List T) × (S (c ++ t ∷ r) ≡ Err d) × (cut (q ++ t ∷ z) ≡ Some (c ++ t ∷ z))
  still q r z t d e at =
      let w = ended (q ++ t ∷ r) d e in
      let o = O.found (q ++ t ∷ r) w.0 w.1 in
      let k = cut_at q (t ∷ r) o.0 w.0 o.1 (omega (arith, at, within (LB (q ++ t ∷ r) w.0 w.1) w.0 d w.2)) in
      let whole : q ++ t ∷ r ≡ o.0 ++ (k.0 ++ t ∷ r) = o.1 ∙ ap (λ (y : List T). o.0 ++ y) k.1 in
      let stop : S (k.0 ++ t ∷ r) ≡ Err d = sym (ap S k.1) ∙ w.2 in
      let here : cut (o.0 ++ (k.0 ++ t ∷ r)) ≡ Some (k.0 ++ t ∷ r) = sym (ap cut whole) ∙ w.1 ∙ ap (λ (y : List T). Some y) k.1 in
      let moved : q ++ t ∷ z ≡ o.0 ++ (k.0 ++ t ∷ z) = ap (λ (y : List T). y ++ t ∷ z) k.2 ∙ append_assoc o.0 k.0 (t ∷ z) in
      (k.0, stop, ap cut moved ∙ O.decided o.0 k.0 r z t d o.2 here stop at)

  pub optional_decided : (q r z : List T) (t : T) (d : Fault) → optional cut S (q ++ t ∷ r) ≡ Err d → left_of d ≡ suc (length r) → begins G set (q ++ t ∷ z) ≡ true
  optional_decided q r z t d e at = let w = still q r z t d e at in O.stands (q ++ t ∷ z) (w.0 ++ t ∷ z) w.2

  pub some_is : (u v : List T) (c : Option (List T)) → c ≡ Some u → c ≡ Some v → u ≡ v
  some_is u v c e f = let same : Some u ≡ Some v = sym e ∙ f in cc

  firm : (q r z text rest : List T) (t : T) (x : Option B) → optional cut S (q ++ t ∷ r) ≡ Err (Stop (suc (length r))) → Matches G (syntax.print x) text → syntax.Good x → Below G top (syntax.print x) → Next G (syntax.takes x) rest → text ++ rest ≡ q ++ t ∷ z → ⊥
  firm q r z text rest t None e s good below next same =
      let here : rest ≡ q ++ t ∷ z = sym (ap (λ (y : List T). y ++ rest) (matches_nothing G text s)) ∙ same in
      let never : true ≡ false = sym (optional_decided q r z t (Stop (suc (length r))) e refl) ∙ (sym (ap (begins G set) here) ∙ next) in
      cc
  firm q r z text rest t (Some y) e s good below next same =
      let w = matches_split G its (b.print y) text s in
      let k = still q r z t (Stop (suc (length r))) e refl in
      let parts : q ++ t ∷ z ≡ w.0 ++ (w.1 ++ rest) = sym same ∙ ap (λ (u : List T). u ++ rest) w.2 ∙ append_assoc w.0 w.1 rest in
      let back : w.1 ++ rest ≡ k.0 ++ t ∷ z = some_is (w.1 ++ rest) (k.0 ++ t ∷ z) (cut (q ++ t ∷ z)) (ap cut parts ∙ O.reads y w.0 w.1 rest good w.3 w.4) k.2 in
      (LB (q ++ t ∷ z) (k.0 ++ t ∷ z) k.2).firm k.0 r z w.1 rest t y k.1 w.4 good (below_right G top its (b.print y) below) next back

  pub optional_law : Law G (optional cut S) syntax top
  optional_law = record { sound = sound; complete = complete; fails = fails; firm = firm }
