-- Texts and what they begin with.
use Rattle.std.proofs.Common.{◌≡◌, ℕ, suc, ◌⊎◌, inl, inr, Bool, true, false, ◌||◌, ◌&&◌, List, [], ◌∷◌, ◌++◌, length, Option, Some, None, refl, sym, ap, ◌∙◌}
use Rattle.reading.specs.Printing.{Front, Here, Ahead, Alphabet, Matches, Below, Opens, ahead, peek_on, peek, on_mark, begins, Next}

-- for a reader that can't go on
abbrev pub takes_nothing : {A M : Type 0} → A → M → Bool
takes_nothing a p = false

abbrev pub Always : {A : Type 0} → A → Type 0
Always a = Unit {0}

pub or_false : (a b : Bool) → a ≡ false → b ≡ false → (a || b) ≡ false
or_false a b e f = rw (e, f) refl

pub left_false : (a b : Bool) → (a || b) ≡ false → a ≡ false
left_false true b e = e
left_false false b e = refl

pub right_false : (a b : Bool) → (a || b) ≡ false → b ≡ false
right_false true b e = absurd cc
right_false false b e = e

pub both_true : (a b : Bool) → (a && b) ≡ true → (a ≡ true) × (b ≡ true)
both_true true b e = (refl, e)
both_true false b e = absurd cc

pub cases : (b : Bool) → (b ≡ false) ⊎ (b ≡ true)
cases false = inl refl
cases true = inr refl

module _ {T I M : Type 0} (G : Alphabet T I M) where
  pub matches_join : (is js : List I) (u v : List T) → Matches G is u → Matches G js v → Matches G (is ++ js) (u ++ v)
  matches_join [] js [] v a b = b
  matches_join [] js (t ∷ u) v a b = absurd a
  matches_join (i ∷ is) js [] v a b = absurd a
  matches_join (i ∷ is) js (t ∷ u) v a b = (a.0, matches_join is js u v a.1 b)

  pub matches_split : (is js : List I) (ts : List T) → Matches G (is ++ js) ts → (u : List T) × (v : List T) × (ts ≡ u ++ v) × Matches G is u × Matches G js v
  matches_split [] js ts m = ([], ts, refl, tt, m)
  matches_split (i ∷ is) js [] m = absurd m
  matches_split (i ∷ is) js (t ∷ ts) m =
      let w = matches_split is js ts m.1 in
      (t ∷ w.0, w.1, ap (λ (z : List T). t ∷ z) w.2, (m.0, w.3), w.4)

  pub matches_nothing : (ts : List T) → Matches G [] ts → ts ≡ []
  matches_nothing [] m = refl
  matches_nothing (t ∷ ts) m = absurd m

  pub matches_length : (is : List I) (ts : List T) → Matches G is ts → length is ≡ length ts
  matches_length [] [] m = refl
  matches_length [] (t ∷ ts) m = absurd m
  matches_length (i ∷ is) [] m = absurd m
  matches_length (i ∷ is) (t ∷ ts) m = ap suc (matches_length is ts m.1)

  pub below_join : (top : ℕ) (is js : List I) → Below G top is → Below G top js → Below G top (is ++ js)
  below_join top [] js a b = b
  below_join top (i ∷ is) js a b = (a.0, below_join top is js a.1 b)

  pub below_left : (top : ℕ) (is js : List I) → Below G top (is ++ js) → Below G top is
  below_left top [] js b = tt
  below_left top (i ∷ is) js b = (b.0, below_left top is js b.1)

  pub below_right : (top : ℕ) (is js : List I) → Below G top (is ++ js) → Below G top js
  below_right top [] js b = b
  below_right top (i ∷ is) js b = below_right top is js b.1

  pub opens_more : (top : ℕ) (left : List T) (after js : List I) → Opens G top left after → Opens G top left (after ++ js)
  opens_more top [] after js o = absurd o
  opens_more top (t ∷ ts) [] js o = absurd o
  opens_more top (t ∷ ts) (i ∷ is) js o = o

  -- marks: what is taken by neither, by the one or the other
  module _ (f g : M → Bool) (ts : List T) where
    pub next_both : Next G f ts → Next G g ts → Next G (λ p. f p || g p) ts
    next_both a b = go (peek G ts) a b
      where
        go : (o : Option M) → on_mark G f o ≡ false → on_mark G g o ≡ false → on_mark G (λ p. f p || g p) o ≡ false
        go None x y = refl
        go (Some p) x y = or_false (f p) (g p) x y

    pub next_left : Next G (λ p. f p || g p) ts → Next G f ts
    next_left a = go (peek G ts) a
      where
        go : (o : Option M) → on_mark G (λ p. f p || g p) o ≡ false → on_mark G f o ≡ false
        go None x = refl
        go (Some p) x = left_false (f p) (g p) x

    pub next_right : Next G (λ p. f p || g p) ts → Next G g ts
    next_right a = go (peek G ts) a
      where
        go : (o : Option M) → on_mark G (λ p. f p || g p) o ≡ false → on_mark G g o ≡ false
        go None x = refl
        go (Some p) x = right_false (f p) (g p) x

    pub next_same : ((p : M) → f p ≡ g p) → Next G f ts → Next G g ts
    next_same same a = go (peek G ts) a
      where
        go : (o : Option M) → on_mark G f o ≡ false → on_mark G g o ≡ false
        go None x = refl
        go (Some p) x = sym (same p) ∙ x

  pub next_none : (ts : List T) → Next G (λ p. false) ts
  next_none ts = go (peek G ts)
    where
      go : (o : Option M) → on_mark G (λ p. false) o ≡ false
      go None = refl
      go (Some p) = refl

  -- where one of the marks of a set stands, and all of the set are taken alike
  module _ (takes set : M → Bool) (m : M) (alike : (p : M) → set p ≡ true → takes p ≡ takes m) (ts : List T) (there : begins G set ts ≡ true) where
    pub next_at : takes m ≡ false → Next G takes ts
    next_at e = go (peek G ts) there
      where
        go : (o : Option M) → on_mark G set o ≡ true → on_mark G takes o ≡ false
        go None s = absurd cc
        go (Some p) s = alike p s ∙ e

    pub at_next : Next G takes ts → takes m ≡ false
    at_next e = go (peek G ts) there e
      where
        go : (o : Option M) → on_mark G set o ≡ true → on_mark G takes o ≡ false → takes m ≡ false
        go None s n = absurd cc
        go (Some p) s n = sym (alike p s) ∙ n

  -- two tokens decide the mark
  pub peek_two : (t u : T) (y z : List T) → peek G (t ∷ u ∷ y) ≡ peek G (t ∷ u ∷ z)
  peek_two t u y z = go (G.front t)
    where
      go : (o : Front T M) → peek_on G o (u ∷ y) ≡ peek_on G o (u ∷ z)
      go (Here mark) = refl
      go (Ahead mark) = refl

  -- and the first alone, where what is taken doesn't hang on the second
  pub next_one : (takes : M → Bool) (t : T) (y z : List T) → ((mark : T → Option M) → G.front t ≡ Ahead mark → (u : T) → on_mark G takes (mark u) ≡ false) → Next G takes (t ∷ y) → Next G takes (t ∷ z)
  next_one takes t y z steady next = go (G.front t) steady next
    where
      second : (mark : T → Option M) (ts : List T) → ((u : T) → on_mark G takes (mark u) ≡ false) → on_mark G takes (ahead G mark ts) ≡ false
      second mark [] e = refl
      second mark (u ∷ us) e = e u

      go : (o : Front T M) → ((mark : T → Option M) → o ≡ Ahead mark → (u : T) → on_mark G takes (mark u) ≡ false) → on_mark G takes (peek_on G o y) ≡ false → on_mark G takes (peek_on G o z) ≡ false
      go (Here mark) e n = n
      go (Ahead mark) e n = second mark z (e mark refl)

  pub some_token : (set : M → Bool) (ts : List T) → begins G set ts ≡ true → ⊥ ⊎ ((t : T) × (us : List T) × (ts ≡ t ∷ us))
  some_token set [] e = absurd cc
  some_token set (t ∷ ts) e = inr (t, ts, refl)
