-- With wider readers at hand: what a refusal says of trees of any depth.
use Rattle.std.proofs.Common.{◌≡◌, ℕ, zero, suc, ◌+◌, ◌≤◌, ◌⊎◌, inl, inr, ⊎_elim, List, [], ◌∷◌, ◌++◌, length, length-append, Result, Ok, Err, refl, sym, ap, subst, ◌∙◌, append_assoc, arith}
use Rattle.std.proofs.lemmas.List.{append-nil}
use Rattle.std.proofs.lemmas.Bool.{cases_lt}
use Rattle.reading.specs.Readers.{Fault, Stop, Deep, Reader}
use Rattle.reading.specs.Printing.{Alphabet, Matches, Below, Opens}
use Rattle.reading.specs.Law.{Syntax, Law, Read, OpensAt, Fails, Deepens, Agree, Agrees}
use Rattle.reading.proofs.Results.{behind_front, cut_at}
use Rattle.reading.proofs.Texts.{matches_join, matches_length}
use Rattle.reading.proofs.Opens.{below_wider, never_below, not_later, one_place}
use Rattle.reading.proofs.Consequences.{one_tree, none_goes_on}
use Rattle.reading.proofs.Wider.{stops_on}

-- some room is enough
pub enough : {T I M : Type 0} (G : Alphabet T I M) (is : List I) → (top : ℕ) × Below G top is
enough G [] = (zero, tt)
enough G (i ∷ is) =
    let w = enough G is in
    (suc (G.depth i + w.0), (omega arith, below_wider G w.0 (suc (G.depth i + w.0)) is (omega arith) w.1))

module _ {T I M A : Type 0} {G : Alphabet T I M} {s : Syntax I M A} (top : ℕ) (wides : ℕ → Reader T A) (laws : (more : ℕ) → Law G (wides more) s (top + more)) where
  -- enough room for a tree
  room : (a : A) → (more : ℕ) × Below G (top + more) (s.print a)
  room a = let w = enough G (s.print a) in (w.0, below_wider G w.0 (top + w.0) (s.print a) (omega arith) w.1)

  -- a text has one tree, however deep
  pub one_of_any : (text : List T) (a a' : A) → Matches G (s.print a) text → s.Good a → Matches G (s.print a') text → s.Good a' → a ≡ a'
  one_of_any text a a' spells good spells' good' =
      let w = room a in
      let w' = room a' in
      one_tree (laws (w.0 + w'.0)) text a a' spells good (below_wider G (top + w.0) (top + (w.0 + w'.0)) (s.print a) (omega arith) w.1) spells' good' (below_wider G (top + w'.0) (top + (w.0 + w'.0)) (s.print a') (omega arith) w'.1)

  module _ {r : Reader T A} (L : Law G r s top) (agree : (more : ℕ) → Agrees r (wides more)) where
    -- where reading stops before a token, no tree's text goes on with it, however deep
    pub none_of_any : (q r' more : List T) (t : T) (a : A) → r (q ++ t ∷ r') ≡ Err (Stop (suc (length r'))) → Matches G (s.print a) (q ++ t ∷ more) → s.Good a → ⊥
    none_of_any q r' more t a e spells good =
        let w = room a in
        none_goes_on (laws w.0) q r' more t a (stops_on r (wides w.0) (agree w.0) (q ++ t ∷ r') (suc (length r')) e) spells good w.1

    module _ (deep : (more : ℕ) → Deepens G r s top (top + more)) (token_of : (i : I) → (t : T) × G.Fits i t) where
      -- tokens for what is printed
      tokens_of : (is : List I) → (ts : List T) × Matches G is ts
      tokens_of [] = ([], tt)
      tokens_of (i ∷ is) =
          let t = token_of i in
          let w = tokens_of is in
          (t.0 ∷ w.0, (t.1, w.1))

      -- where something is left, what is
      record Left (ts : List T) (n : ℕ) : Type 0 where
        t : T
        after : List T
        is : ts ≡ t ∷ after
        count : n ≡ suc (length after)

      left_is : (left : List T) (after : List I) (n : ℕ) → length left ≡ n → Opens G top left after → Left left n
      left_is [] after n e o = absurd o
      left_is (t ∷ left) [] n e o = absurd o
      left_is (t ∷ left) (i ∷ is) n e o = record { t = t; after = left; is = refl; count = sym e }

      -- a tree that opens one too many somewhere in its own text: reading ends there
      module _ (u more : List T) (t : T) (a : A) (good : s.Good a) (spells : Matches G (s.print a) (u ++ t ∷ more)) (o : OpensAt G top (s.print a) (length u)) where
        wide : (more : ℕ) × Below G (top + more) (s.print a)
        wide = room a

        whole : wides wide.0 (u ++ t ∷ more) ≡ Ok (a, [])
        whole = ap (wides wide.0) (sym (append-nil (u ++ t ∷ more))) ∙ (laws wide.0).complete a (u ++ t ∷ more) [] spells good wide.1 refl

        -- the place where there is too little room is the tree's
        same_place : (ts read after z : List T) (t' : T) → r (read ++ t' ∷ after) ≡ Err (Deep (suc (length after))) → u ++ t ∷ more ≡ read ++ t' ∷ z → length read ≡ length u
        same_place ts read after z t' e parts = one_place G top (s.print a) (length read) (length u) ((deep wide.0).there read after z (u ++ t ∷ more) [] t' a e spells good wide.1 refl (append-nil (u ++ t ∷ more) ∙ parts)) o

        own : r (u ++ t ∷ more) ≡ Err (Deep (suc (length more)))
        own = go (agree wide.0 (u ++ t ∷ more))
          where
            go : Agree (r (u ++ t ∷ more)) (wides wide.0 (u ++ t ∷ more)) → r (u ++ t ∷ more) ≡ Err (Deep (suc (length more)))
            go (inr same) = absurd (never_below G top (s.print a) (length u) o (L.sound (u ++ t ∷ more) (a, []) (same ∙ whole)).below)
            go (inl w) =
                let h = L.fails (u ++ t ∷ more) (Deep w.0) w.1 in
                let l = left_is h.left h.after w.0 h.at.0 h.at.1 in
                let parts : u ++ t ∷ more ≡ h.read ++ l.t ∷ l.after = h.parts ∙ ap (λ (z : List T). h.read ++ z) l.is in
                let e : r (h.read ++ l.t ∷ l.after) ≡ Err (Deep (suc (length l.after))) = ap r (sym parts) ∙ w.1 ∙ ap (λ (n : ℕ). Err (Deep n)) l.count in
                let place = same_place (u ++ t ∷ more) h.read l.after l.after l.t e parts in
                let count : w.0 ≡ suc (length more) = omega (arith, place, l.count, ap length parts, length-append u (t ∷ more), length-append h.read (l.t ∷ l.after)) in
                w.1 ∙ ap (λ (n : ℕ). Err (Deep n)) count

        -- no tree goes on through that token with fewer open
        shallow : (v read left : List T) (b : A) (before after : List I) → u ++ t ∷ v ≡ read ++ left → suc (length u) ≤ length read → s.Good b → s.print b ≡ before ++ after → Matches G before read → Below G top before → ⊥
        shallow v read left b before after parts long good' printed fits below =
            let cut = cut_at read left (u ++ t ∷ []) v (sym parts ∙ sym (append_assoc u (t ∷ []) v)) (omega (arith, ap length parts, length-append u (t ∷ v), length-append read left)) in
            let rest = tokens_of after in
            let text : read ++ rest.0 ≡ u ++ t ∷ (cut.0 ++ rest.0) = ap (λ (z : List T). z ++ rest.0) cut.2 ∙ append_assoc (u ++ t ∷ []) cut.0 rest.0 ∙ append_assoc u (t ∷ []) (cut.0 ++ rest.0) in
            let spells' : Matches G (s.print b) (read ++ rest.0) = subst (λ (is : List I). Matches G is (read ++ rest.0)) (sym printed) (matches_join G before after read rest.0 fits rest.1) in
            let k = room b in
            let at = (deep k.0).there u more (cut.0 ++ rest.0) (read ++ rest.0) [] t b own spells' good' k.1 refl (append-nil (read ++ rest.0) ∙ text) in
            omega (arith, long, matches_length G before read fits, not_later G top (s.print b) before after (length u) at printed below)

        -- Reading tokens that begin so ends there too, unless a tree ends before.
        pub deep_there : (v : List T) → (r (u ++ t ∷ v) ≡ Err (Deep (suc (length v)))) ⊎ ((x : A × List T) × (r (u ++ t ∷ v) ≡ Ok x) × (suc (length v) ≤ length x.1))
        deep_there v = go (r (u ++ t ∷ v)) refl
          where
            go : (x : Result (A × List T) Fault) → r (u ++ t ∷ v) ≡ x → (r (u ++ t ∷ v) ≡ Err (Deep (suc (length v)))) ⊎ ((x : A × List T) × (r (u ++ t ∷ v) ≡ Ok x) × (suc (length v) ≤ length x.1))
            go (Ok x) e = ⊎_elim
                (λ long. absurd (shallow v f.text x.1 x.0 (s.print x.0) [] f.parts (omega (arith, long)) f.good (sym (append-nil (s.print x.0))) f.spells f.below))
                (λ short. inr (x, e, omega (arith, short, ap length f.parts, length-append u (t ∷ v), length-append f.text x.1)))
                (cases_lt (length u) (length f.text))
              where
                f : Read G s top (u ++ t ∷ v) x.0 x.1
                f = L.sound (u ++ t ∷ v) x e
            go (Err (Stop n)) e = ⊎_elim
                (λ long. absurd (shallow v h.read h.left h.tree h.before h.after h.parts (omega (arith, long)) h.good h.text h.spells h.below))
                (λ short.
                let w = behind_front u v more h.read h.left t h.parts (omega (arith, short)) in
                let at : n ≡ suc (length w.1) = sym h.at ∙ ap length w.3 in
                absurd (none_of_any h.read w.1 w.2 w.0 a (ap r (sym (h.parts ∙ ap (λ (z : List T). h.read ++ z) w.3)) ∙ e ∙ ap (λ (k : ℕ). Err (Stop k)) at) (subst (Matches G (s.print a)) w.4 spells) good))
                (cases_lt (length u) (length h.read))
              where
                h : Fails G s top (u ++ t ∷ v) (Stop n)
                h = L.fails (u ++ t ∷ v) (Stop n) e
            go (Err (Deep n)) e = ⊎_elim
                (λ long. absurd (shallow v h.read h.left h.tree h.before h.after h.parts (omega (arith, long)) h.good h.text h.spells h.below))
                (λ short.
                let w = behind_front u v more h.read h.left t h.parts (omega (arith, short)) in
                let at : n ≡ suc (length w.1) = sym h.at.0 ∙ ap length w.3 in
                let place = same_place (u ++ t ∷ v) h.read w.1 w.2 w.0 (ap r (sym (h.parts ∙ ap (λ (z : List T). h.read ++ z) w.3)) ∙ e ∙ ap (λ (k : ℕ). Err (Deep k)) at) w.4 in
                let count : n ≡ suc (length v) = omega (arith, at, place, ap length h.parts, ap length w.3, length-append u (t ∷ v), length-append h.read h.left) in
                inl (e ∙ ap (λ (k : ℕ). Err (Deep k)) count))
                (cases_lt (length u) (length h.read))
              where
                h : Fails G s top (u ++ t ∷ v) (Deep n)
                h = L.fails (u ++ t ∷ v) (Deep n) e
