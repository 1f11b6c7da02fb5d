-- Changes of one pack's matrix: what a lower matrix becomes is lower, and zeros on the diagonal stay.
use Rattle.std.proofs.Common.{◌≡◌, ◌≢◌, ℕ, zero, suc, ◌+◌, ◌<◌, ◌≤◌, Bool, true, false, List, [], ◌∷◌, length, ℤ, pos, negsuc, neg_ℤ, ◌≤ℤ◌, Option, Some, None, refl, ap, ◌∙◌, arith}
use Rattle.std.specs.Prelude.{nat_eq, ◌&&◌, ◌||◌, if◌then◌else◌}
use Rattle.std.specs.Option.{option_map}
use Rattle.std.specs.Int.{int_min}
use Rattle.std.proofs.lemmas.Int.{ints, clamps}
use Rattle.std.proofs.lemmas.Bool.{eq-eqb, ne_eqb, false≢true}
use Rattle.interval_domain.specs.Corners.{interval}
use Rattle.cob_program.specs.Values.{◌>>=◌}
use Rattle.diff_bounds.specs.declared.form.lin.Lin.{Lin}
use Rattle.diff_bounds.specs.Forms.{is_small}
use Rattle.diff_bounds.specs.Matrix.{word, none, largest, IsWord, IsMatrix}
use Rattle.diff_bounds.proofs.Ends.{words_of}
use Rattle.diff_bounds.specs.Numbers.{word_of}
use Rattle.diff_bounds.specs.Upper.{upper, coef_at}
use Rattle.diff_bounds.specs.Values.{AreLower}
use Rattle.diff_bounds.proofs.Bounded.{upper_is_word}
use Rattle.diff_bounds.specs.Assigned.{less_place, negated, upper_less, less_upper}
use Rattle.diff_bounds.specs.Demanded.{if_opposite, factor, demanded_by, lowered, AreDemanded}
use Rattle.diff_bounds.proofs.Demanded.{demanded_lower}
use Rattle.diff_bounds.proofs.Matrices.{none_is_word}
use Rattle.sum_forms.specs.Constants.{constant_form}
use Rattle.sum_forms.specs.SumForms.{turned_form}
use Rattle.sum_forms.specs.Values.{IsNarrowerIfAny}
use Rattle.sum_forms.proofs.Narrower.{sum_there, turns_narrower}
use Rattle.cob_graph.specs.declared.homes.Home.{Home}
use Rattle.cob_graph.specs.Homes.{is_home}
use Rattle.diff_steps.specs.Packs.{cell_of}
use Rattle.diff_steps.specs.Matrices.{with_words, bottom, lesser, forgotten, assigned, demanded}
use Rattle.diff_steps.specs.Stores.{assigned_or_forgotten, absolute_stored, value_stored, forgotten_cells}
use Rattle.diff_steps.specs.Guards.{demanded_if, at_most, ordered}
use Rattle.diff_bounds.specs.declared.form.known.Known as sure
use Rattle.pack_laws.specs.Orders.{AreLowerOff}
use Rattle.pack_laws.proofs.Words.{word_at, lesser_word, min_left, min_both}
use Rattle.pack_laws.proofs.PacksClosingRise.{order_along}
use Rattle.pack_laws.proofs.PacksPutRise.{IsFlat}
use Rattle.cell_laws.proofs.OperandsRise.{or_right}

-- ---- zeros on the diagonal
flat_words : (size : ℕ) (w : ℕ → ℕ → ℤ) → ((i : ℕ) → i < size + 1 → w i i ≡ pos 0) → IsFlat size (with_words size w)
flat_words size w e = record { zeros = λ i h. word_at size w i i h h ∙ e i h }

on_diagonal : (i : ℕ) (x y : ℤ) → (if nat_eq i i then x else y) ≡ x
on_diagonal i x y = rw (eq-eqb i i refl) refl

off_diagonal : (i j : ℕ) (x y : ℤ) → i ≢ j → (if nat_eq i j then x else y) ≡ y
off_diagonal i j x y ne = rw (ne_eqb i j ne) refl

module _ (size : ℕ) where
  abbrev forgotten_words : ℕ → List ℤ → ℕ → ℕ → ℤ
  forgotten_words to m i j = if nat_eq i j then word (size + 1) m i j else (if nat_eq i to || nat_eq j to then none else word (size + 1) m i j)

  abbrev row_of : Lin → List ℤ → ℕ → ℤ
  row_of form m j = word_of (upper_less (word (size + 1) m) j (coef_at form.coefs) form.constant.high size)

  abbrev column_of : Lin → List ℤ → ℕ → ℤ
  column_of form m i = word_of (less_upper (word (size + 1) m) i (coef_at form.coefs) form.constant.low size)

  abbrev placed : ℕ → Lin → List ℤ → ℕ → ℕ → ℤ
  placed to form m i j = if nat_eq i to then row_of form m j else (if nat_eq j to then column_of form m i else word (size + 1) m i j)

  abbrev assigned_words : ℕ → Lin → List ℤ → ℕ → ℕ → ℤ
  assigned_words to form m i j = if nat_eq i j then word (size + 1) m i j else placed to form m i j

  pub forgotten_flat : (to : ℕ) (m : List ℤ) → IsFlat size m → IsFlat size (forgotten size to m)
  forgotten_flat to m flat =
      flat_words size (forgotten_words to m) (λ i h. on_diagonal i (word (size + 1) m i i) (if nat_eq i to || nat_eq i to then none else word (size + 1) m i i) ∙ flat.zeros i h)

  assigned_flat : (to : ℕ) (form : Lin) (m : List ℤ) → IsFlat size m → IsFlat size (assigned size to form m)
  assigned_flat to form m flat = flat_words size (assigned_words to form m) (λ i h. on_diagonal i (word (size + 1) m i i) (placed to form m i i) ∙ flat.zeros i h)

  zero_of_both : (x y : ℤ) → x ≡ pos 0 → y ≡ pos 0 → int_min x y ≡ pos 0
  zero_of_both x y e f = omega (arith, ints, clamps, e, f)

  zero_below_none : (x y : ℤ) → x ≡ pos 0 → y ≡ none → int_min x y ≡ pos 0
  zero_below_none x y e f = omega (arith, ints, clamps, e, f)

  lesser_flat : (a b : List ℤ) → IsFlat size a → IsFlat size b → IsFlat size (lesser size a b)
  lesser_flat a b flat level = flat_words size (λ i j. int_min (word (size + 1) a i j) (word (size + 1) b i j)) (λ i h. zero_of_both (word (size + 1) a i i) (word (size + 1) b i i) (flat.zeros i h) (level.zeros i h))

  -- no form has a value less itself
  not_opposite_itself : (z : ℤ) → if_opposite z z ≡ None
  not_opposite_itself (pos zero) = refl
  not_opposite_itself (pos (suc k)) = refl
  not_opposite_itself (negsuc k) = refl

  no_factor : (c : ℕ → ℤ) (i : ℕ) → factor c i i ≡ None
  no_factor c zero = refl
  no_factor c (suc i) = not_opposite_itself (c (suc i))

  not_demanded : (w : ℕ → ℕ → ℤ) (c : ℕ → ℤ) (low : ℤ) (i j : ℕ) (o : Option ℕ) → o ≡ None → word_of (demanded_by w c low size i j o) ≡ none
  not_demanded w c low i j None e = refl
  not_demanded w c low i j (Some d) e = absurd cc

  demanded_flat : (form : Lin) (m : List ℤ) → IsFlat size m → IsFlat size (demanded size form m)
  demanded_flat form m flat =
      flat_words size (lowered (word (size + 1) m) (coef_at form.coefs) form.constant.low size)
      (λ i h. zero_below_none (word (size + 1) m i i) (word_of (demanded_by (word (size + 1) m) (coef_at form.coefs) form.constant.low size i i (factor (coef_at form.coefs) i i)))
      (flat.zeros i h) (not_demanded (word (size + 1) m) (coef_at form.coefs) form.constant.low i i (factor (coef_at form.coefs) i i) (no_factor (coef_at form.coefs) i)))

  demanded_if_flat : (o : Option Lin) (m : List ℤ) → IsFlat size m → IsFlat size (demanded_if size o m)
  demanded_if_flat None m flat = flat
  demanded_if_flat (Some form) m flat = demanded_flat form m flat

  pub ordered_flat : (fine : Bool) (o : Option Lin) (b e a : Bool) (m : List ℤ) → IsFlat size m → IsFlat size (ordered size fine o b e a m)
  ordered_flat fine o true e false m flat = demanded_if_flat (at_most fine e o) m flat
  ordered_flat fine o false e true m flat = demanded_if_flat (at_most fine e (o >>= turned_form true)) m flat
  ordered_flat fine o false true false m flat =
      lesser_flat (demanded_if size o m) (demanded_if size (o >>= turned_form true) m) (demanded_if_flat o m flat) (demanded_if_flat (o >>= turned_form true) m flat)
  ordered_flat fine o true e true m flat = flat
  ordered_flat fine o false false false m flat = flat

  pub put_flat : (to : ℕ) (o : Option Lin) (m : List ℤ) → IsFlat size m → IsFlat size (assigned_or_forgotten size to o m)
  put_flat to None m flat = forgotten_flat to m flat
  put_flat to (Some form) m flat = assigned_flat to form m flat

  absolute_flat : (to : ℕ) (o : Option Lin) (n p : Bool) (m : List ℤ) → IsFlat size m → IsFlat size (absolute_stored size to o n p m)
  absolute_flat to o true true m flat =
      lesser_flat (assigned_or_forgotten size to o m) (assigned_or_forgotten size to (o >>= turned_form true) m) (put_flat to o m flat) (put_flat to (o >>= turned_form true) m flat)
  absolute_flat to o true false m flat = put_flat to o m flat
  absolute_flat to o false true m flat = put_flat to (o >>= turned_form true) m flat
  absolute_flat to o false false m flat = forgotten_flat to m flat

  pub value_flat : (to : ℕ) (signed : Bool) (k : sure.Known) (o : Option Lin) (m : List ℤ) → IsFlat size m → IsFlat size (value_stored size to signed k o m)
  value_flat to true k o m flat = put_flat to o m flat
  value_flat to false k o m flat = absolute_flat to o k.not_negative k.not_positive m flat

  pub bottom_flat : IsFlat size (bottom size)
  bottom_flat = flat_words size (λ i j. if nat_eq i j then pos 0 else neg_ℤ largest) (λ i h. on_diagonal i (pos 0) (neg_ℤ largest))

  pub cells_flat : (is_gone : Home → Bool) (at : ℕ) (hs : List Home) (m : List ℤ) → IsFlat size m → IsFlat size (forgotten_cells size is_gone at hs m)
  cells_flat is_gone at [] m flat = flat
  cells_flat is_gone at (h ∷ hs) m flat = cells_flat is_gone (suc at) hs (if is_gone h then forgotten size at m else m) (by_test (is_gone h))
    where
      by_test : (b : Bool) → IsFlat size (if b then forgotten size at m else m)
      by_test true = forgotten_flat at m flat
      by_test false = flat

  -- ---- words that are no less than all words can be, or no greater

  pub record IsHigh (m : List ℤ) : Type 0 where
    pub least : (i j : ℕ) → i ≤ size → j ≤ size → i ≢ j → neg_ℤ largest ≤ℤ word (size + 1) m i j

  pub record HasTop (m : List ℤ) : Type 0 where
    pub most : (i j : ℕ) → i ≤ size → j ≤ size → i ≢ j → word (size + 1) m i j ≤ℤ none

  same_high : (x y : ℤ) → x ≡ y → neg_ℤ largest ≤ℤ y → neg_ℤ largest ≤ℤ x
  same_high x y e h = omega (arith, ints, e, h)

  none_high : neg_ℤ largest ≤ℤ none
  none_high = none_is_word.low

  pub matrix_is_high : (m : List ℤ) → IsMatrix size m → IsHigh m
  matrix_is_high m is = record { least = λ i j h g ne. ((words_of size m is).words i j (omega arith) (omega arith)).low }

  pub matrix_has_top : (m : List ℤ) → IsMatrix size m → HasTop m
  matrix_has_top m is = record { most = λ i j h g ne. ((words_of size m is).words i j (omega arith) (omega arith)).top }

  choice_high : (b : Bool) (x y : ℤ) → neg_ℤ largest ≤ℤ x → neg_ℤ largest ≤ℤ y → neg_ℤ largest ≤ℤ (if b then x else y)
  choice_high true x y h k = h
  choice_high false x y h k = k

  pub forgotten_high : (to : ℕ) (m : List ℤ) → IsHigh m → IsHigh (forgotten size to m)
  forgotten_high to m is = record {
    least = λ i j h g ne. same_high _ _ (word_at size (forgotten_words to m) i j (omega arith) (omega arith))
        (choice_high (nat_eq i j) (word (size + 1) m i j) (if nat_eq i to || nat_eq j to then none else word (size + 1) m i j) (is.least i j h g ne)
        (choice_high (nat_eq i to || nat_eq j to) none (word (size + 1) m i j) none_high (is.least i j h g ne)));
  }

  bound_high : (b : Bool) (o : Option ℤ) → IsWord (word_of o) → neg_ℤ largest ≤ℤ word_of (if b then o else None)
  bound_high true o is = is.low
  bound_high false o is = none_high

  row_high : (form : Lin) (m : List ℤ) (j : ℕ) → neg_ℤ largest ≤ℤ row_of form m j
  row_high form m j =
      bound_high (is_small (less_place j (coef_at form.coefs) j)) (upper (word (size + 1) m) (less_place j (coef_at form.coefs)) form.constant.high size)
      (upper_is_word (word (size + 1) m) (less_place j (coef_at form.coefs)) form.constant.high size)

  column_high : (form : Lin) (m : List ℤ) (i : ℕ) → neg_ℤ largest ≤ℤ column_of form m i
  column_high form m i =
      bound_high (is_small (less_place i (coef_at form.coefs) i)) (upper (word (size + 1) m) (negated (less_place i (coef_at form.coefs))) (neg_ℤ form.constant.low) size)
      (upper_is_word (word (size + 1) m) (negated (less_place i (coef_at form.coefs))) (neg_ℤ form.constant.low) size)

  assigned_high : (to : ℕ) (form : Lin) (m : List ℤ) → IsHigh m → IsHigh (assigned size to form m)
  assigned_high to form m is = record {
    least = λ i j h g ne. same_high _ _ (word_at size (assigned_words to form m) i j (omega arith) (omega arith))
        (choice_high (nat_eq i j) (word (size + 1) m i j) (placed to form m i j) (is.least i j h g ne)
        (choice_high (nat_eq i to) (row_of form m j) (if nat_eq j to then column_of form m i else word (size + 1) m i j) (row_high form m j)
        (choice_high (nat_eq j to) (column_of form m i) (word (size + 1) m i j) (column_high form m i) (is.least i j h g ne))));
  }

  min_is_high : (x y z : ℤ) → z ≡ int_min x y → neg_ℤ largest ≤ℤ x → neg_ℤ largest ≤ℤ y → neg_ℤ largest ≤ℤ z
  min_is_high x y z e h k = omega (arith, ints, clamps, e, h, k)

  lesser_high : (a b : List ℤ) → IsHigh a → IsHigh b → IsHigh (lesser size a b)
  lesser_high a b is are = record {
    least = λ i j h g ne. min_is_high (word (size + 1) a i j) (word (size + 1) b i j) (word (size + 1) (lesser size a b) i j) (lesser_word size a b i j h g) (is.least i j h g ne) (are.least i j h g ne);
  }

  put_high : (to : ℕ) (o : Option Lin) (m : List ℤ) → IsHigh m → IsHigh (assigned_or_forgotten size to o m)
  put_high to None m is = forgotten_high to m is
  put_high to (Some form) m is = assigned_high to form m is

  absolute_high : (to : ℕ) (o : Option Lin) (n p : Bool) (m : List ℤ) → IsHigh m → IsHigh (absolute_stored size to o n p m)
  absolute_high to o true true m is =
      lesser_high (assigned_or_forgotten size to o m) (assigned_or_forgotten size to (o >>= turned_form true) m) (put_high to o m is) (put_high to (o >>= turned_form true) m is)
  absolute_high to o true false m is = put_high to o m is
  absolute_high to o false true m is = put_high to (o >>= turned_form true) m is
  absolute_high to o false false m is = forgotten_high to m is

  pub value_high : (to : ℕ) (signed : Bool) (k : sure.Known) (o : Option Lin) (m : List ℤ) → IsHigh m → IsHigh (value_stored size to signed k o m)
  value_high to true k o m is = put_high to o m is
  value_high to false k o m is = absolute_high to o k.not_negative k.not_positive m is

  bottom_word_is : (i j : ℕ) → i ≤ size → j ≤ size → i ≢ j → word (size + 1) (bottom size) i j ≡ neg_ℤ largest
  bottom_word_is i j h g ne = word_at size (λ i j. if nat_eq i j then pos 0 else neg_ℤ largest) i j (omega arith) (omega arith) ∙ off_diagonal i j (pos 0) (neg_ℤ largest) ne

  pub bottom_high : IsHigh (bottom size)
  bottom_high = record { least = λ i j h g ne. same_high _ _ (bottom_word_is i j h g ne) (omega (arith, ints)) }

  along : (x y z : ℤ) → x ≡ y → y ≤ℤ z → x ≤ℤ z
  along x y z e h = omega (arith, ints, e, h)

  -- what no run comes to lies below all
  pub bottom_below : (m : List ℤ) → IsHigh m → AreLowerOff size (bottom size) m
  bottom_below m is = record { words = λ i j h g ne. along (word (size + 1) (bottom size) i j) (neg_ℤ largest) (word (size + 1) m i j) (bottom_word_is i j h g ne) (is.least i j h g ne) }

  -- ---- cells that are forgotten

  -- whether the cell at a place is one of those
  abbrev pub is_gone_at : (Home → Bool) → ℕ → List Home → ℕ → Bool
  is_gone_at is_gone at [] i = false
  is_gone_at is_gone at (h ∷ hs) i = (is_gone h && nat_eq i at) || is_gone_at is_gone (suc at) hs i

  regroup : (p q g k : Bool) (x : ℤ) → (if g || k then none else (if p || q then none else x)) ≡ (if (p || g) || (q || k) then none else x)
  regroup true q true k x = refl
  regroup true q false true x = refl
  regroup true q false false x = refl
  regroup false q true k x = refl
  regroup false true false true x = refl
  regroup false false false true x = refl
  regroup false true false false x = refl
  regroup false false false false x = refl

  cells_words : (is_gone : Home → Bool) (at : ℕ) (hs : List Home) (m : List ℤ) (i j : ℕ) → i ≤ size → j ≤ size → i ≢ j
      → word (size + 1) (forgotten_cells size is_gone at hs m) i j ≡ (if is_gone_at is_gone at hs i || is_gone_at is_gone at hs j then none else word (size + 1) m i j)
  cells_words is_gone at [] m i j l g ne = refl
  cells_words is_gone at (h ∷ hs) m i j l g ne =
      cells_words is_gone (suc at) hs (if is_gone h then forgotten size at m else m) i j l g ne
      ∙ (ap (λ (x : ℤ). if is_gone_at is_gone (suc at) hs i || is_gone_at is_gone (suc at) hs j then none else x) (by_test (is_gone h))
      ∙ regroup (is_gone h && nat_eq i at) (is_gone h && nat_eq j at) (is_gone_at is_gone (suc at) hs i) (is_gone_at is_gone (suc at) hs j) (word (size + 1) m i j))
    where
      by_test : (b : Bool) → word (size + 1) (if b then forgotten size at m else m) i j ≡ (if (b && nat_eq i at) || (b && nat_eq j at) then none else word (size + 1) m i j)
      by_test true = word_at size (forgotten_words at m) i j (omega arith) (omega arith) ∙ off_diagonal i j (word (size + 1) m i j) (if nat_eq i at || nat_eq j at then none else word (size + 1) m i j) ne
      by_test false = refl

  pub cells_high : (is_gone : Home → Bool) (at : ℕ) (hs : List Home) (m : List ℤ) → IsHigh m → IsHigh (forgotten_cells size is_gone at hs m)
  cells_high is_gone at hs m is = record {
    least = λ i j h g ne. same_high _ _ (cells_words is_gone at hs m i j h g ne) (choice_high (is_gone_at is_gone at hs i || is_gone_at is_gone at hs j) none (word (size + 1) m i j) none_high (is.least i j h g ne));
  }

  gone_rises : (one two : Home → Bool) → ((h : Home) → one h ≡ true → two h ≡ true) → (at : ℕ) (hs : List Home) (i : ℕ) → is_gone_at one at hs i ≡ true → is_gone_at two at hs i ≡ true
  gone_rises one two more at [] i e = absurd (false≢true e)
  gone_rises one two more at (h ∷ hs) i e =
      either (one h) (two h) (nat_eq i at) (is_gone_at one (suc at) hs i) (is_gone_at two (suc at) hs i) (more h) (gone_rises one two more (suc at) hs i) e
    where
      either : (b c d f g : Bool) → (b ≡ true → c ≡ true) → (f ≡ true → g ≡ true) → ((b && d) || f) ≡ true → ((c && d) || g) ≡ true
      either true true true f g k l e = refl
      either true true false f g k l e = l e
      either true false d f g k l e = absurd (false≢true (k refl))
      either false true true f g k l e = refl
      either false true false f g k l e = l e
      either false false d f g k l e = l e

  -- what is forgotten below is forgotten above, and words that neither forgets are lower
  pub cells_rise : (one two : Home → Bool) (at : ℕ) (hs : List Home) (a b : List ℤ) → ((h : Home) → one h ≡ true → two h ≡ true) → HasTop a
      → ((i j : ℕ) → i ≤ size → j ≤ size → i ≢ j → is_gone_at two at hs i ≡ false → is_gone_at two at hs j ≡ false → word (size + 1) a i j ≤ℤ word (size + 1) b i j)
      → AreLowerOff size (forgotten_cells size one at hs a) (forgotten_cells size two at hs b)
  cells_rise one two at hs a b more top lower = record {
    words = λ i j h g ne. order_along _ _ _ _ (cells_words one at hs a i j h g ne) (cells_words two at hs b i j h g ne)
        (by_tests (is_gone_at one at hs i) (is_gone_at one at hs j) (is_gone_at two at hs i) (is_gone_at two at hs j) (word (size + 1) a i j) (word (size + 1) b i j)
        (gone_rises one two more at hs i) (gone_rises one two more at hs j) (top.most i j h g ne) (lower i j h g ne));
  }
    where
      top_of : (c : Bool) (x : ℤ) → x ≤ℤ none → (if c then none else x) ≤ℤ none
      top_of true x h = omega (arith, ints)
      top_of false x h = h

      by_tests : (p q r u : Bool) (x y : ℤ) → (p ≡ true → r ≡ true) → (q ≡ true → u ≡ true) → x ≤ℤ none → (r ≡ false → u ≡ false → x ≤ℤ y)
          → (if p || q then none else x) ≤ℤ (if r || u then none else y)
      by_tests p q true u x y h k t l = top_of (p || q) x t
      by_tests p q false true x y h k t l = top_of (p || q) x t
      by_tests true q false false x y h k t l = absurd (false≢true (h refl))
      by_tests false true false false x y h k t l = absurd (false≢true (k refl))
      by_tests false false false false x y h k t l = l refl refl

  -- what is kept is below what is left where cells are forgotten
  pub kept_below : (is_gone : Home → Bool) (at : ℕ) (hs : List Home) (a b : List ℤ) → HasTop a → AreLowerOff size a b → AreLowerOff size a (forgotten_cells size is_gone at hs b)
  kept_below is_gone at hs a b top lower = record {
    words = λ i j h g ne. above _ _ _ (cells_words is_gone at hs b i j h g ne) (by_test (is_gone_at is_gone at hs i || is_gone_at is_gone at hs j) (word (size + 1) a i j) (word (size + 1) b i j) (top.most i j h g ne) (lower.words i j h g ne));
  }
    where
      above : (x y z : ℤ) → z ≡ y → x ≤ℤ y → x ≤ℤ z
      above x y z e h = omega (arith, ints, e, h)

      by_test : (c : Bool) (x y : ℤ) → x ≤ℤ none → x ≤ℤ y → x ≤ℤ (if c then none else y)
      by_test true x y t h = t
      by_test false x y t h = h

  -- ---- the cell of a home

  -- where the cell lies behind a place, it is one of those that are forgotten
  abbrev IfSought : (Home → Bool) → Home → ℕ → List Home → ℕ → Type 0
  IfSought is_gone home at hs i = (n : ℕ) → cell_of hs home ≡ Some n → i ≡ n + suc at → is_gone_at is_gone (suc at) hs i ≡ true

  pub gone_at_cell : (is_gone : Home → Bool) (home : Home) → ((h : Home) → is_home h home ≡ true → is_gone h ≡ true)
      → (at : ℕ) (hs : List Home) (k i : ℕ) → cell_of hs home ≡ Some k → i ≡ k + at → is_gone_at is_gone at hs i ≡ true
  gone_at_cell is_gone home goes at [] k i e f = absurd cc
  gone_at_cell is_gone home goes at (h ∷ hs) k i e f = by_test (λ n d g. gone_at_cell is_gone home goes (suc at) hs n i d g) (is_home h home) refl e
    where
      first : (c d g : Bool) → c ≡ true → d ≡ true → ((c && d) || g) ≡ true
      first true true g h k = refl
      first true false g h k = absurd (false≢true k)
      first false d g h k = absurd (false≢true h)

      further : IfSought is_gone home at hs i → (o : Option ℕ) → cell_of hs home ≡ o → option_map (λ n. suc n) o ≡ Some k → is_gone_at is_gone (suc at) hs i ≡ true
      further more None d g = absurd cc
      further more (Some n) d g = let same : suc n ≡ k = cc in more n d (omega (arith, f, same))

      by_test : IfSought is_gone home at hs i → (b : Bool) → is_home h home ≡ b → (if b then Some 0 else option_map (λ n. suc n) (cell_of hs home)) ≡ Some k → ((is_gone h && nat_eq i at) || is_gone_at is_gone (suc at) hs i) ≡ true
      by_test more true d g = let same : 0 ≡ k = cc in first (is_gone h) (nat_eq i at) (is_gone_at is_gone (suc at) hs i) (goes h d) (eq-eqb i at (omega (arith, f, same)))
      by_test more false d g = or_right (is_gone h && nat_eq i at) (is_gone_at is_gone (suc at) hs i) (further more (cell_of hs home) refl g)

  -- ---- demands

  demanded_is : (form : Lin) (m : List ℤ) → AreDemanded size (word (size + 1) m) form (word (size + 1) (demanded size form m))
  demanded_is form m = record { words = λ i j h g. word_at size (lowered (word (size + 1) m) (coef_at form.coefs) form.constant.low size) i j (omega arith) (omega arith) }

  module _ (a b : List ℤ) (lower : AreLower (size + 1) (word (size + 1) a) (word (size + 1) b)) where
    demanded_if_rises : (o q : Option Lin) → IsNarrowerIfAny o q → AreLowerOff size (demanded_if size o a) (demanded_if size q b)
    demanded_if_rises None None h = record { words = λ i j l g ne. lower.words i j (omega arith) (omega arith) }
    demanded_if_rises (Some f) None h = record {
      words = λ i j l g ne. min_left (word (size + 1) a i j) _ (word (size + 1) (demanded size f a) i j) (word (size + 1) b i j) ((demanded_is f a).words i j l g) (lower.words i j (omega arith) (omega arith));
    }
    demanded_if_rises None (Some g) h = absurd h
    demanded_if_rises (Some f) (Some g) h = record {
      words = λ i j l k ne. demanded_lower size (word (size + 1) a) (word (size + 1) b) (word (size + 1) (demanded size f a)) (word (size + 1) (demanded size g b)) f g lower h.coefs h.low (demanded_is f a) (demanded_is g b) i j l k;
    }

    at_most_rises : (fine even : Bool) (o q : Option Lin) → IsNarrowerIfAny o q → IsNarrowerIfAny (at_most fine even o) (at_most fine even q)
    at_most_rises fine even o None h = tt
    at_most_rises fine even None (Some g) h = absurd h
    at_most_rises fine true (Some f) (Some g) h = h
    at_most_rises false false (Some f) (Some g) h = h
    at_most_rises true false (Some f) (Some g) h =
        sum_there f (constant_form (interval (pos 1) (pos 1))) g (constant_form (interval (pos 1) (pos 1))) h
        (record { coefs = refl; low = omega (arith, ints); ordered = omega (arith, ints); high = omega (arith, ints) })

    pub ordered_rises : (fine : Bool) (o q : Option Lin) (l e g : Bool) → IsNarrowerIfAny o q → AreLowerOff size (ordered size fine o l e g a) (ordered size fine q l e g b)
    ordered_rises fine o q true e false h = demanded_if_rises (at_most fine e o) (at_most fine e q) (at_most_rises fine e o q h)
    ordered_rises fine o q false e true h =
        demanded_if_rises (at_most fine e (o >>= turned_form true)) (at_most fine e (q >>= turned_form true))
        (at_most_rises fine e (o >>= turned_form true) (q >>= turned_form true) (turns_narrower true o q h))
    ordered_rises fine o q false true false h =
        let first = demanded_if_rises o q h in
        let last = demanded_if_rises (o >>= turned_form true) (q >>= turned_form true) (turns_narrower true o q h) in
        record {
          words = λ i j l k ne. min_both _ _ _ _ _ _
              (lesser_word size (demanded_if size o a) (demanded_if size (o >>= turned_form true) a) i j l k) (lesser_word size (demanded_if size q b) (demanded_if size (q >>= turned_form true) b) i j l k)
              (first.words i j l k ne) (last.words i j l k ne);
        }
    ordered_rises fine o q true e true h = record { words = λ i j l k ne. lower.words i j (omega arith) (omega arith) }
    ordered_rises fine o q false false false h = record { words = λ i j l k ne. lower.words i j (omega arith) (omega arith) }

-- a cell has a place in its pack's matrix
pub cell_within : (hs : List Home) (home : Home) (k : ℕ) → cell_of hs home ≡ Some k → k < length hs
cell_within [] home k e = absurd cc
cell_within (h ∷ hs) home k e = by_test (λ n d. cell_within hs home n d) (is_home h home) e
  where
    further : ((n : ℕ) → cell_of hs home ≡ Some n → n < length hs) → (o : Option ℕ) → cell_of hs home ≡ o → option_map (λ n. suc n) o ≡ Some k → k < suc (length hs)
    further more None d g = absurd cc
    further more (Some n) d g = let less = more n d in let same : suc n ≡ k = cc in omega (arith, less, same)

    by_test : ((n : ℕ) → cell_of hs home ≡ Some n → n < length hs) → (b : Bool) → (if b then Some 0 else option_map (λ n. suc n) (cell_of hs home)) ≡ Some k → k < suc (length hs)
    by_test more true g = let same : 0 ≡ k = cc in omega (arith, same)
    by_test more false g = further more (cell_of hs home) refl g
