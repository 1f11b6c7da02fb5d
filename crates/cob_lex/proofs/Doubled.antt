-- Texts with doubled marks: what the scanner counts is where the mark stands that closes them.
use Rattle.std.proofs.Common.{◌≡◌, ℕ, suc, ◌+◌, Bool, true, false, cond, eqb, List, [], ◌∷◌, ◌++◌, length, drop, take, refl, ap, ◌∙◌, sym, subst, arith, Option, Some, None}
use Rattle.std.specs.Option.{option_map}
use Rattle.std.proofs.lemmas.Bool.{eqb-true, eq-eqb}
use Rattle.cob_lex.specs.declared.text.Mark.{Mark}
use Rattle.cob_lex.specs.Marks.{literal_len}
use Rattle.cob_lex.specs.Characters.{ch_at, characters}
use Rattle.cob_lex.specs.Tokens.{doubled}

-- the first n characters are a content with its marks doubled, and the mark that closes it
pub record Closed (q n : ℕ) (text : List Mark) : Type 0 where
  pub content : List ℕ
  pub spells : characters (take n text) ≡ doubled q content ++ q ∷ []
  pub ends : eqb (ch_at (drop n text) 0) q ≡ false

abbrev more : Option ℕ → Option ℕ
more o = option_map (λ n. n + 1) o

-- ---- one character on
inner : (q : ℕ) (m : Mark) (ms : List Mark) → eqb m.ch q ≡ false → literal_len q false (m ∷ ms) ≡ more (literal_len q false ms)
unfolding literal_len
inner q m ms e = rw e refl

marked : (q : ℕ) (m : Mark) (ms : List Mark) → eqb m.ch q ≡ true → literal_len q false (m ∷ ms) ≡ more (literal_len q true ms)
unfolding literal_len
marked q m ms e = rw e refl

second : (q : ℕ) (m : Mark) (ms : List Mark) → eqb m.ch q ≡ true → literal_len q true (m ∷ ms) ≡ more (literal_len q false ms)
unfolding literal_len
second q m ms e = rw e refl

ended_here : (q : ℕ) (ms : List Mark) → eqb (ch_at ms 0) q ≡ false → literal_len q true ms ≡ Some 0
unfolding literal_len
ended_here q [] e = refl
ended_here q (m ∷ ms) e = rw e refl

open_end : (q : ℕ) → literal_len q false [] ≡ None
unfolding literal_len
open_end q = refl

half_end : (q : ℕ) → literal_len q true [] ≡ Some 0
unfolding literal_len
half_end q = refl

-- ---- from the table to the scanner
some_more : (o : Option ℕ) (n : ℕ) → o ≡ Some n → more o ≡ Some (suc n)
some_more o n e = ap more e ∙ ap Some (omega arith)

pub closes : (q : ℕ) (content : List ℕ) (front behind : List Mark) → characters front ≡ doubled q content ++ q ∷ [] → eqb (ch_at behind 0) q ≡ false → literal_len q false (front ++ behind) ≡ Some (length front)
closes q [] [] behind e f = absurd cc
closes q [] (m ∷ []) behind e f =
    let c : m.ch ≡ q = cc in
    marked q m behind (eq-eqb m.ch q c) ∙ some_more (literal_len q true behind) 0 (ended_here q behind f)
closes q [] (m ∷ n ∷ front) behind e f = absurd cc
closes q (c ∷ content) front behind e f = by_mark (eqb c q) refl front e (λ rest g. closes q content rest behind g f)
  where
    by_mark : (b : Bool) → eqb c q ≡ b → (front : List Mark) → characters front ≡ cond b (q ∷ q ∷ doubled q content) (c ∷ doubled q content) ++ q ∷ []
        → ((rest : List Mark) → characters rest ≡ doubled q content ++ q ∷ [] → literal_len q false (rest ++ behind) ≡ Some (length rest))
        → literal_len q false (front ++ behind) ≡ Some (length front)
    by_mark true d [] g next = absurd cc
    by_mark true d (m ∷ []) g next = absurd cc
    by_mark true d (m ∷ n ∷ rest) g next =
        let one : m.ch ≡ q = cc in
        let two : n.ch ≡ q = cc in
        marked q m (n ∷ rest ++ behind) (eq-eqb m.ch q one)
        ∙ some_more (literal_len q true (n ∷ rest ++ behind)) (suc (length rest))
        (second q n (rest ++ behind) (eq-eqb n.ch q two) ∙ some_more (literal_len q false (rest ++ behind)) (length rest) (next rest cc))
    by_mark false d [] g next = absurd cc
    by_mark false d (m ∷ rest) g next =
        let one : m.ch ≡ c = cc in
        inner q m (rest ++ behind) (ap (λ x. eqb x q) one ∙ d) ∙ some_more (literal_len q false (rest ++ behind)) (length rest) (next rest cc)

-- ---- and back
less : (o : Option ℕ) (n : ℕ) → more o ≡ Some n → (k : ℕ) × (o ≡ Some k) × (n ≡ suc k)
less None n e = absurd cc
less (Some k) n e = (k, refl, let f : k + 1 ≡ n = cc in omega (arith, f))

joined : (q c n k : ℕ) (m : Mark) (ms : List Mark) (content : List ℕ) → n ≡ suc k → m.ch ≡ c → eqb c q ≡ false → characters (take k ms) ≡ doubled q content ++ q ∷ [] → characters (take n (m ∷ ms)) ≡ doubled q (c ∷ content) ++ q ∷ []
joined q c n k m ms content e f g h = rw (e, g) (let r : m.ch ∷ characters (take k ms) ≡ c ∷ (doubled q content ++ q ∷ []) = cc in r)

twice : (q n k : ℕ) (m o : Mark) (ms : List Mark) (content : List ℕ) → n ≡ suc (suc k) → m.ch ≡ q → o.ch ≡ q → characters (take k ms) ≡ doubled q content ++ q ∷ [] → characters (take n (m ∷ o ∷ ms)) ≡ doubled q (q ∷ content) ++ q ∷ []
twice q n k m o ms content e f g h = rw (e, eq-eqb q q refl) (let r : m.ch ∷ o.ch ∷ characters (take k ms) ≡ q ∷ q ∷ (doubled q content ++ q ∷ []) = cc in r)

no_more : (q n k : ℕ) (ms : List Mark) → n ≡ suc k → literal_len q true ms ≡ Some k → eqb (ch_at ms 0) q ≡ false → n ≡ 1
no_more q n k ms e f g = let h = ended_here q ms g in let z : k ≡ 0 = cc in omega (arith, e, z)

closing : (q n : ℕ) (m : Mark) (ms : List Mark) → m.ch ≡ q → n ≡ 1 → eqb (ch_at ms 0) q ≡ false → Closed q n (m ∷ ms)
closing q n m ms e f g = record { content = []; spells = rw f (let r : m.ch ∷ [] ≡ q ∷ [] = cc in r); ends = rw f g }

pub closed : (q n : ℕ) (text : List Mark) → eqb 32 q ≡ false → literal_len q false text ≡ Some n → Closed q n text
closed q n [] b e = absurd (let f = open_end q in cc)
closed q n (m ∷ []) b e = by_mark (eqb m.ch q) refl
  where
    by_mark : (x : Bool) → eqb m.ch q ≡ x → Closed q n (m ∷ [])
    by_mark false f = absurd (let r = less (literal_len q false []) n (sym (inner q m [] f) ∙ e) in let g = open_end q in let h = r.1 in cc)
    by_mark true f =
        let r = less (literal_len q true []) n (sym (marked q m [] f) ∙ e) in
        closing q n m [] (eqb-true m.ch q f) (no_more q n r.0 [] r.2 r.1 b) b
closed q n (m ∷ o ∷ ms) b e = by_mark (eqb m.ch q) refl (λ k f. closed q k (o ∷ ms) b f) (λ k f. closed q k ms b f)
  where
    by_mark : (x : Bool) → eqb m.ch q ≡ x → ((k : ℕ) → literal_len q false (o ∷ ms) ≡ Some k → Closed q k (o ∷ ms)) → ((k : ℕ) → literal_len q false ms ≡ Some k → Closed q k ms) → Closed q n (m ∷ o ∷ ms)
    by_mark false f next later =
        let r = less (literal_len q false (o ∷ ms)) n (sym (inner q m (o ∷ ms) f) ∙ e) in
        let c = next r.0 r.1 in
        record { content = m.ch ∷ c.content; spells = joined q m.ch n r.0 m (o ∷ ms) c.content r.2 refl f c.spells; ends = subst (λ k. eqb (ch_at (drop k (m ∷ o ∷ ms)) 0) q ≡ false) (sym r.2) c.ends }
    by_mark true f next later =
        let r = less (literal_len q true (o ∷ ms)) n (sym (marked q m (o ∷ ms) f) ∙ e) in
        by_next r.0 r.1 r.2 (eqb o.ch q) refl later
      where
        by_next : (k : ℕ) → literal_len q true (o ∷ ms) ≡ Some k → n ≡ suc k → (y : Bool) → eqb o.ch q ≡ y → ((k : ℕ) → literal_len q false ms ≡ Some k → Closed q k ms) → Closed q n (m ∷ o ∷ ms)
        by_next k h len false g later = closing q n m (o ∷ ms) (eqb-true m.ch q f) (no_more q n k (o ∷ ms) len h g) g
        by_next k h len true g later =
            let t = less (literal_len q false ms) k (sym (second q o ms g) ∙ h) in
            let c = later t.0 t.1 in
            let whole : n ≡ suc (suc t.0) = len ∙ ap suc t.2 in
            record { content = q ∷ c.content; spells = twice q n t.0 m o ms c.content whole (eqb-true m.ch q f) (eqb-true o.ch q g) c.spells; ends = subst (λ k. eqb (ch_at (drop k (m ∷ o ∷ ms)) 0) q ≡ false) (sym whole) c.ends }
