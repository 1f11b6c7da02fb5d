-- The first so many of a list, each once, as a loop notes them.
use Rattle.std.proofs.Common.{◌≡◌, ◌≤◌, ◌<◌, ℕ, zero, suc, Bool, true, false, ◌||◌, List, [], ◌∷◌, ◌++◌, length, take, cond, if◌then◌else◌, refl, sym, ap, ◌∙◌, arith}
use Rattle.std.specs.Prelude.{nat_le}
use Rattle.std.specs.List.{fold, filter}
use Rattle.std.proofs.lemmas.Bool.Decides.{nat_tests}
use Rattle.std.proofs.lemmas.List.{take-append-le, length-take-le, length-append}
use Rattle.analyse_core.specs.Firsts.{holds, added, first_distinct, noted}

pub whole_take : {A : Type 0} (xs : List A) (m : ℕ) → length xs ≤ m → take m xs ≡ xs
whole_take [] zero l = refl
whole_take [] (suc m) l = refl
whole_take (x ∷ xs) zero l = absurd (omega (arith, l))
whole_take (x ∷ xs) (suc m) l = ap (λ ys. x ∷ ys) (whole_take xs m (omega (arith, l)))

at_most : (n m : ℕ) → nat_le n m ≡ true → n ≤ m
at_most n m e = grind (arith, nat_tests)

less : (n m : ℕ) → nat_le n m ≡ false → m < n
less n m e = grind (arith, nat_tests)

is_at_most : (n m : ℕ) → n ≤ m → nat_le n m ≡ true
is_at_most n m l = grind (arith, nat_tests)

module _ {A : Type 0} (same : A → A → Bool) (n : ℕ) where
  -- a full list takes no more
  full : (h : Bool) (zs : List A) (x : A) → n ≤ length zs → take n (if h then zs else zs ++ x ∷ []) ≡ take n zs
  full true zs x l = refl
  full false zs x l = take-append-le n zs (x ∷ []) l

  stays_full : (h b : Bool) (ys : List A) (x : A) → b ≡ true → (if h || b then ys else ys ++ x ∷ []) ≡ ys
  stays_full true b ys x e = refl
  stays_full false b ys x e = ap (λ t. if t then ys else ys ++ x ∷ []) e

  -- a list with room takes an element as the whole list does
  fits : (h : Bool) (zs : List A) (x : A) → length zs < n → take n (if h then zs else zs ++ x ∷ []) ≡ (if h then zs else zs ++ x ∷ [])
  fits true zs x l = whole_take zs n (omega (arith, l))
  fits false zs x l =
      let long = length-append zs (x ∷ []) in
      whole_take (zs ++ x ∷ []) n (omega (arith, l, long))

  has_room : (h b : Bool) (ys : List A) (x : A) → b ≡ false → (if h || b then ys else ys ++ x ∷ []) ≡ (if h then ys else ys ++ x ∷ [])
  has_room true b ys x e = refl
  has_room false b ys x e = ap (λ t. if t then ys else ys ++ x ∷ []) e

  by_room : (b : Bool) (zs : List A) (x : A) → nat_le n (length zs) ≡ b → take n (added same zs x) ≡ noted same n (take n zs) x
  by_room true zs x e =
      let l = at_most n (length zs) e in
      let long = length-take-le n zs l in
      full (holds same zs x) zs x l
      ∙ sym (stays_full (holds same (take n zs) x) (nat_le n (length (take n zs))) (take n zs) x (ap (nat_le n) long ∙ is_at_most n n (omega arith)))
  by_room false zs x e =
      let l = less n (length zs) e in
      fits (holds same zs x) zs x l
      ∙ sym (has_room (holds same zs x) (nat_le n (length zs)) zs x e)
      ∙ ap (λ ys. noted same n ys x) (sym (whole_take zs n (omega (arith, l))))

  pub noting : (zs xs : List A) → take n (fold (added same) zs xs) ≡ fold (noted same n) (take n zs) xs
  noting zs [] = refl
  noting zs (x ∷ xs) =
      noting (added same zs x) xs
      ∙ ap (λ ys. fold (noted same n) ys xs) (by_room (nat_le n (length zs)) zs x refl)

  -- a loop notes the first so many elements, each once
  pub first_noted : (xs : List A) → first_distinct same n xs ≡ fold (noted same n) (take n []) xs
  first_noted xs = noting [] xs

-- ---- a loop that passes over some

module _ {A B : Type 0} (f : B → A → B) (test : A → Bool) where
  abbrev step : B → A → B
  step b x = if test x then f b x else b

  one : (t : Bool) (b : B) (x : A) (ys : List A) → fold f b (cond t (x ∷ ys) ys) ≡ fold f (if t then f b x else b) ys
  one true b x ys = refl
  one false b x ys = refl

  pub passing_over : (b : B) (xs : List A) → fold f b (filter test xs) ≡ fold step b xs
  passing_over b [] = refl
  passing_over b (x ∷ xs) = one (test x) b x (filter test xs) ∙ passing_over (step b x) xs

-- ---- steps of a fold that a loop makes

module _ {A B : Type 0} (f : B → A → B) where
  pub fold_step : (old new : B) (x : A) (left rest : List A) (all : B) → new ≡ f old x → left ≡ x ∷ rest →
      fold f old left ≡ all → fold f new rest ≡ all
  fold_step old new x left rest all e cut whole = ap (λ b. fold f b rest) e ∙ ap (fold f old) (sym cut) ∙ whole

  pub fold_done : (old : B) (left : List A) (all : B) → left ≡ [] → fold f old left ≡ all → old ≡ all
  fold_done old left all none whole = ap (fold f old) (sym none) ∙ whole
