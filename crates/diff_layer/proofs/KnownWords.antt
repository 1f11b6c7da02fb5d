-- Words lowered to what is known of cells, one after the other.
use Rattle.std.proofs.Common.{◌≡◌, ◌≢◌, ℕ, zero, suc, ◌+◌, ◌*◌, ◌/◌, ◌%◌, ◌<◌, ◌≤◌, List, [], ◌∷◌, length, map, ℤ, pos, negsuc, neg_ℤ, ◌*ℤ◌, ◌≤ℤ◌, Option, Some, None, ◌⊎◌, inl, inr, refl, sym, ap, subst, ◌∙◌, arith}
use Rattle.std.specs.Prelude.{slice_get, unsigned_abs}
use Rattle.std.specs.Int.{int_min}
use Rattle.std.specs.Option.{option_map}
use Rattle.std.specs.List.{range_with_len}
use Rattle.std.proofs.lemmas.Int.{ints}
use Rattle.std.proofs.lemmas.Bool.{cases_eq, cases_lt}
use Rattle.std.proofs.lemmas.List.{length-map}
use Rattle.std.proofs.lemmas.Option.{slice_get-map, slice_get_past}
use Rattle.dec_num.proofs.Signed.{neg_ℤ_times}
use Rattle.cob_data.specs.declared.layout.Layout.{Layout}
use Rattle.interval_domain.specs.declared.bounds.Interval.{Interval}
use Rattle.diff_bounds.specs.Matrix.{word}
use Rattle.diff_bounds.specs.Closed.{closed}
use Rattle.interval_domain.specs.Known.{Known}
use Rattle.cob_graph.specs.declared.homes.Home.{Home}
use Rattle.cell_steps.specs.Storages.{known_of}
use Rattle.diff_steps.specs.Packs.{Pack, unit_of}
use Rattle.diff_steps.specs.Matrices as pack
use Rattle.diff_steps.specs.Matrices.{with_words, high_word, low_word, put_word, put_closed}
use Rattle.diff_layer.specs.declared.pack.matrix_closing.KnownCell.{KnownCell}
use Rattle.diff_layer.specs.KnownCells.{cell, known_cells, cell_high, cell_low, put_high, put_low, put_cells, IsPutAt}
use Rattle.diff_layer.proofs.SameWords.{with_words_is}

-- ---- one cell

unit_is : (u : ℤ) → pos 1 ≤ℤ u → pos (unsigned_abs u) ≡ u
unit_is (pos n) h = refl
unit_is (negsuc n) h = absurd (omega (arith, ints, h))

high_is : (c : KnownCell) (i : Interval) (x : ℤ) → c.known ≡ Some i → pos 1 ≤ℤ c.unit → int_min x (i.high *ℤ c.unit) ≡ cell_high c x
high_is c i x e h =
    ap (λ (u : ℤ). int_min x (i.high *ℤ u)) (sym (unit_is c.unit h)) ∙ sym (ap (λ (k : Known). high_word (unsigned_abs c.unit) k x) e)

low_is : (c : KnownCell) (i : Interval) (x : ℤ) → c.known ≡ Some i → pos 1 ≤ℤ c.unit → int_min x (neg_ℤ (i.low *ℤ c.unit)) ≡ cell_low c x
low_is c i x e h =
    ap (λ (u : ℤ). int_min x (neg_ℤ (i.low *ℤ u))) (sym (unit_is c.unit h))
    ∙ ap (λ (z : ℤ). int_min x z) (sym (neg_ℤ_times i.low (unsigned_abs c.unit)))
    ∙ sym (ap (λ (k : Known). low_word (unsigned_abs c.unit) k x) e)

pub same_product : (x y a b : ℤ) → x ≡ a → y ≡ b → x *ℤ y ≡ a *ℤ b
same_product x y a b e f = ap (λ (z : ℤ). z *ℤ y) e ∙ ap (λ (z : ℤ). a *ℤ z) f

-- all words but one are the same in both matrices
abbrev Others : ℕ → ℕ → ℕ → (ℕ → ℕ → ℤ) → (ℕ → ℕ → ℤ) → Type 0
Others size row column w u = (i j : ℕ) → i ≤ size → j ≤ size → (i ≢ row) ⊎ (j ≢ column) → u i j ≡ w i j

pub put_at : (size place : ℕ) (c : KnownCell) (i : Interval) (w v u : ℕ → ℕ → ℤ) (high low : ℤ) → 1 ≤ place → place ≤ size → c.known ≡ Some i → pos 1 ≤ℤ c.unit
    → high ≡ i.high *ℤ c.unit → low ≡ neg_ℤ (i.low *ℤ c.unit)
    → v place 0 ≡ int_min (w place 0) high → Others size place 0 w v → u 0 place ≡ int_min (v 0 place) low → Others size 0 place v u
    → IsPutAt size place c w u
put_at size place c i w v u high low some within e h is_high is_low first first_others second second_others = record {
  high =
      second_others place 0 within (omega arith) (inl (λ z. omega arith)) ∙ first ∙ ap (λ (x : ℤ). int_min (w place 0) x) is_high
      ∙ high_is c i (w place 0) e h;
  low =
      second ∙ ap (λ (x : ℤ). int_min x low) (first_others 0 place (omega arith) within (inl (λ z. omega arith)))
      ∙ ap (λ (x : ℤ). int_min (w 0 place) x) is_low ∙ low_is c i (w 0 place) e h;
  others = λ a b p q ne apart. second_others a b p q apart ∙ first_others a b p q ne;
}

-- ---- the first cells

pub record IsPutTo (size count : ℕ) (cells : List KnownCell) (w u : ℕ → ℕ → ℤ) : Type 0 where
  pub high : (k : ℕ) → k < count → k < size → u (suc k) 0 ≡ put_high (slice_get cells k) (w (suc k) 0)
  pub low : (k : ℕ) → k < count → k < size → u 0 (suc k) ≡ put_low (slice_get cells k) (w 0 (suc k))
  pub high_left : (k : ℕ) → count ≤ k → k < size → u (suc k) 0 ≡ w (suc k) 0
  pub low_left : (k : ℕ) → count ≤ k → k < size → u 0 (suc k) ≡ w 0 (suc k)
  pub inner : (j k : ℕ) → j < size → k < size → u (suc j) (suc k) ≡ w (suc j) (suc k)
  pub corner : u 0 0 ≡ w 0 0

pub put_none : (size : ℕ) (cells : List KnownCell) (w : ℕ → ℕ → ℤ) → IsPutTo size 0 cells w w
put_none size cells w = record {
  high = λ k h l. absurd (omega arith);
  low = λ k h l. absurd (omega arith);
  high_left = λ k h l. refl;
  low_left = λ k h l. refl;
  inner = λ j k h l. refl;
  corner = refl;
}

pub put_next : (size count place : ℕ) (cells : List KnownCell) (c : KnownCell) (w u v : ℕ → ℕ → ℤ) → count < size → place ≡ suc count → slice_get cells count ≡ Some c
    → IsPutAt size place c u v → IsPutTo size count cells w u → IsPutTo size (count + 1) cells w v
put_next size count place cells c w u v within e got at to = record {
  high = λ k h l. elim (cases_eq k count) as (λ _. v (suc k) 0 ≡ put_high (slice_get cells k) (w (suc k) 0)) [
    | inl same ↦ subst (λ (n : ℕ). v (suc n) 0 ≡ put_high (slice_get cells n) (w (suc n) 0)) (sym same) here_high
    | inr ne ↦ at.others (suc k) 0 (omega arith) (omega arith) (inl (λ z. ne (omega (arith, e, z)))) (inl (λ z. omega arith)) ∙ to.high k (omega arith) l
  ];
  low = λ k h l. elim (cases_eq k count) as (λ _. v 0 (suc k) ≡ put_low (slice_get cells k) (w 0 (suc k))) [
    | inl same ↦ subst (λ (n : ℕ). v 0 (suc n) ≡ put_low (slice_get cells n) (w 0 (suc n))) (sym same) here_low
    | inr ne ↦ at.others 0 (suc k) (omega arith) (omega arith) (inl (λ z. omega (arith, e, z))) (inr (λ z. ne (omega (arith, e, z)))) ∙ to.low k (omega arith) l
  ];
  high_left = λ k h l. at.others (suc k) 0 (omega arith) (omega arith) (inl (λ z. omega (arith, e, z))) (inl (λ z. omega arith)) ∙ to.high_left k (omega arith) l;
  low_left = λ k h l. at.others 0 (suc k) (omega arith) (omega arith) (inl (λ z. omega (arith, e, z))) (inr (λ z. omega (arith, e, z))) ∙ to.low_left k (omega arith) l;
  inner = λ j k h l. at.others (suc j) (suc k) (omega arith) (omega arith) (inr (λ z. omega arith)) (inl (λ z. omega arith)) ∙ to.inner j k h l;
  corner = at.others 0 0 (omega arith) (omega arith) (inl (λ z. omega (arith, e, z))) (inr (λ z. omega (arith, e, z))) ∙ to.corner;
}
  where
    here_high : v (suc count) 0 ≡ put_high (slice_get cells count) (w (suc count) 0)
    here_high =
        subst (λ (n : ℕ). v n 0 ≡ cell_high c (u n 0)) e at.high ∙ ap (λ (x : ℤ). cell_high c x) (to.high_left count (omega arith) within)
        ∙ ap (λ (o : Option KnownCell). put_high o (w (suc count) 0)) (sym got)

    here_low : v 0 (suc count) ≡ put_low (slice_get cells count) (w 0 (suc count))
    here_low =
        subst (λ (n : ℕ). v 0 n ≡ cell_low c (u 0 n)) e at.low ∙ ap (λ (x : ℤ). cell_low c x) (to.low_left count (omega arith) within)
        ∙ ap (λ (o : Option KnownCell). put_low o (w 0 (suc count))) (sym got)

-- ---- all cells

word_put : (size count : ℕ) (cells : List KnownCell) (w u : ℕ → ℕ → ℤ) → length cells ≤ count → IsPutTo size count cells w u → (i j : ℕ) → i < size + 1 → j < size + 1 → u i j ≡ put_cells cells w i j
word_put size count cells w u all to zero zero h g = to.corner
word_put size count cells w u all to zero (suc k) h g =
    elim (cases_lt k count) as (λ _. u 0 (suc k) ≡ put_low (slice_get cells k) (w 0 (suc k))) [
      | inl lt ↦ to.low k lt (omega arith)
      | inr le ↦ to.low_left k le (omega arith) ∙ ap (λ (o : Option KnownCell). put_low o (w 0 (suc k))) (sym (slice_get_past cells k (omega arith)))
    ]
word_put size count cells w u all to (suc k) zero h g =
    elim (cases_lt k count) as (λ _. u (suc k) 0 ≡ put_high (slice_get cells k) (w (suc k) 0)) [
      | inl lt ↦ to.high k lt (omega arith)
      | inr le ↦ to.high_left k le (omega arith) ∙ ap (λ (o : Option KnownCell). put_high o (w (suc k) 0)) (sym (slice_get_past cells k (omega arith)))
    ]
word_put size count cells w u all to (suc j) (suc k) h g = to.inner j k (omega arith) (omega arith)

pub put_is : (size count : ℕ) (cells : List KnownCell) (old new : List ℤ) → length new ≡ (size + 1) * (size + 1) → length cells ≤ count → IsPutTo size count cells (word (size + 1) old) (word (size + 1) new) → new ≡ with_words size (put_cells cells (word (size + 1) old))
put_is size count cells old new width all to =
    with_words_is size new (put_cells cells (word (size + 1) old)) width (word_put size count cells (word (size + 1) old) (word (size + 1) new) all to)

-- ---- what a row says of the cells of a pack

same_map : (f g : ℕ → ℤ) (xs : List ℕ) → ((k : ℕ) → f k ≡ g k) → map f xs ≡ map g xs
same_map f g [] h = refl
same_map f g (x ∷ xs) h = ap (λ (y : ℤ). y ∷ map f xs) (h x) ∙ ap (λ (ys : List ℤ). g x ∷ ys) (same_map f g xs h)

same_words : (size : ℕ) (f g : ℕ → ℕ → ℤ) → ((i j : ℕ) → f i j ≡ g i j) → with_words size f ≡ with_words size g
same_words size f g h =
    same_map (λ k. f (k / (size + 1)) (k % (size + 1))) (λ k. g (k / (size + 1)) (k % (size + 1))) (range_with_len 0 ((size + 1) * (size + 1)))
    (λ k. h (k / (size + 1)) (k % (size + 1)))

module _ (l : Layout) (homes : List Home) (known : List Known) (pk : Pack) where
  abbrev cell_of : Home → KnownCell
  cell_of h = cell (known_of homes known h) (unit_of l pk h)

  high_same : (o : Option Home) (p : Option KnownCell) (x : ℤ) → p ≡ option_map cell_of o → put_high p x ≡ pack.put_high l homes known pk o x
  high_same None p x e = ap (λ (q : Option KnownCell). put_high q x) e
  high_same (Some h) p x e = ap (λ (q : Option KnownCell). put_high q x) e

  low_same : (o : Option Home) (p : Option KnownCell) (x : ℤ) → p ≡ option_map cell_of o → put_low p x ≡ pack.put_low l homes known pk o x
  low_same None p x e = ap (λ (q : Option KnownCell). put_low q x) e
  low_same (Some h) p x e = ap (λ (q : Option KnownCell). put_low q x) e

  words_same : (w : ℕ → ℕ → ℤ) (i j : ℕ) → put_cells (known_cells l homes known pk) w i j ≡ put_word l homes known pk w i j
  words_same w zero zero = refl
  words_same w zero (suc k) = low_same (slice_get pk k) (slice_get (known_cells l homes known pk) k) (w zero (suc k)) (slice_get-map cell_of pk k)
  words_same w (suc k) zero = high_same (slice_get pk k) (slice_get (known_cells l homes known pk) k) (w (suc k) zero) (slice_get-map cell_of pk k)
  words_same w (suc j) (suc k) = refl

  pub closing_is : (size : ℕ) (cells : List KnownCell) (m : List ℤ) (o : Option (List ℤ)) → length cells ≡ size → cells ≡ known_cells l homes known pk
      → closed size (with_words size (put_cells cells (word (size + 1) m))) ≡ o → put_closed l homes known pk m ≡ o
  closing_is size cells m o many are e =
      let count : length pk ≡ size = sym (length-map pk cell_of) ∙ sym (ap length are) ∙ many in
      ap (λ (n : ℕ). closed n (with_words n (put_word l homes known pk (word (n + 1) m)))) count
      ∙ ap (closed size) (sym (same_words size (put_cells (known_cells l homes known pk) (word (size + 1) m)) (put_word l homes known pk (word (size + 1) m)) (words_same (word (size + 1) m))))
      ∙ ap (λ (cs : List KnownCell). closed size (with_words size (put_cells cs (word (size + 1) m)))) (sym are)
      ∙ e
