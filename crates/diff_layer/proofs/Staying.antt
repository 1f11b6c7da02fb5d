-- A matrix that is lowered to what is known of its cells, and closed, stays so.
use Rattle.std.proofs.Common.{◌≡◌, ℕ, zero, suc, ◌+◌, ◌*◌, ◌<◌, ◌≤◌, List, length, get_or, ℤ, pos, neg_ℤ, ◌*ℤ◌, ◌≤ℤ◌, Option, Some, None, inl, inr, refl, sym, ap, subst, ◌∙◌, arith}
use Rattle.std.specs.Prelude.{slice_get, IfSome}
use Rattle.std.specs.Int.{int_min}
use Rattle.std.specs.List.{AllByRecursion}
use Rattle.std.proofs.lemmas.Int.{ints, clamps}
use Rattle.std.proofs.lemmas.Bool.{cases_lt}
use Rattle.std.proofs.lemmas.List.{get_or_past}
use Rattle.dec_num.proofs.Signed.{neg_ℤ_times}
use Rattle.cob_program.specs.Act.{Program}
use Rattle.diff_bounds.specs.Matrix.{word, IsWord, IsMatrix}
use Rattle.diff_bounds.specs.Closed.{closed, IsClosed}
use Rattle.diff_bounds.proofs.Tight.{tight_of_closure}
use Rattle.interval_domain.specs.Known.{Known}
use Rattle.interval_domain.specs.Elements.{CellsFit}
use Rattle.cob_graph.specs.declared.homes.Home.{Home}
use Rattle.cob_graph.specs.Homes.{homes_of}
use Rattle.cell_steps.specs.OwnRanges.{owns}
use Rattle.cell_steps.specs.Storages.{known_of}
use Rattle.cell_layer.proofs.Stepping.{held_at}
use Rattle.diff_steps.specs.Packs.{Pack, size_of, unit_of}
use Rattle.diff_steps.specs.Matrices.{with_words, high_word, low_word, put_high, put_low, put_word, put_closed}
use Rattle.diff_layer.specs.KnownCells.{cell, AreEnds, HasEnds}
use Rattle.diff_layer.specs.PackEnds.{IsNumber}
use Rattle.diff_layer.specs.Tight.{IsTightIfSettled}
use Rattle.diff_layer.proofs.SameWords.{with_words_is}
use Rattle.pack_laws.proofs.PacksClosingRise.{words_are_matrix}
use Rattle.pack_laws.proofs.Words.{word_at}
use Rattle.diff_layer.specs.Closed.{IsClosedBy, IsKnownAlike}
use Rattle.diff_layer.specs.Plans.{IsShortHome}
use Rattle.diff_layer.proofs.Closures.{closing_is, closed_again, closed_below}
use Rattle.diff_layer.proofs.KnownEnds.{cell_ends_at}

-- ---- one word

word_anywhere : (size : ℕ) (m : List ℤ) → IsMatrix size m → (k : ℕ) → IsWord (get_or m k (pos 0))
word_anywhere size m is k =
    elim (cases_lt k (length m)) as (λ _. IsWord (get_or m k (pos 0))) [
      | inl lt ↦ is.words k lt
      | inr le ↦ subst (λ (z : ℤ). IsWord z) (sym (get_or_past m k (pos 0) le)) (record { low = omega (arith, ints); high = λ b. omega (arith, ints); top = omega (arith, ints) })
    ]

lesser_is_word : (x e : ℤ) → IsWord x → IsNumber e → IsWord (int_min x e)
lesser_is_word x e is number =
    let low = is.low in
    let top = is.top in
    let least = number.low in
    let most = number.high in
    record {
      low = omega (arith, ints, clamps, low, least);
      high = λ b. omega (arith, ints, clamps, most);
      top = omega (arith, ints, clamps, top);
    }

lesser_stays : (x y e : ℤ) → y ≤ℤ int_min x e → int_min y e ≡ y
lesser_stays x y e h = omega (arith, ints, clamps, h)

negated_number : (z : ℤ) (unit : ℕ) → IsNumber (z *ℤ pos unit) → IsNumber (neg_ℤ z *ℤ pos unit)
negated_number z unit is =
    let e = neg_ℤ_times z unit in
    let low = is.low in
    let high = is.high in
    record { low = omega (arith, ints, e, high); high = omega (arith, ints, e, low) }

high_is_word : (known : Known) (unit : ℕ) (x : ℤ) → IfSome known (AreEnds (pos unit)) → IsWord x → IsWord (high_word unit known x)
high_is_word None unit x ends is = is
high_is_word (Some i) unit x ends is = lesser_is_word x (i.high *ℤ pos unit) is ends.high

low_is_word : (known : Known) (unit : ℕ) (x : ℤ) → IfSome known (AreEnds (pos unit)) → IsWord x → IsWord (low_word unit known x)
low_is_word None unit x ends is = is
low_is_word (Some i) unit x ends is = lesser_is_word x (neg_ℤ i.low *ℤ pos unit) is (negated_number i.low unit ends.low)

high_stays : (known : Known) (unit : ℕ) (x y : ℤ) → y ≤ℤ high_word unit known x → high_word unit known y ≡ y
high_stays None unit x y h = refl
high_stays (Some i) unit x y h = lesser_stays x y (i.high *ℤ pos unit) h

low_stays : (known : Known) (unit : ℕ) (x y : ℤ) → y ≤ℤ low_word unit known x → low_word unit known y ≡ y
low_stays None unit x y h = refl
low_stays (Some i) unit x y h = lesser_stays x y (neg_ℤ i.low *ℤ pos unit) h

-- ---- the words of a pack

module _ (p : Program) (known : List Known) (pack : Pack) where
  abbrev put : List ℤ → ℕ → ℕ → ℤ
  put m = put_word p.layout (homes_of p) known pack (word (size_of pack + 1) m)

  abbrev put_matrix : List ℤ → List ℤ
  put_matrix m = with_words (size_of pack) (put m)

  abbrev AreAllEnds : Type 0
  AreAllEnds = (k : ℕ) (h : Home) → slice_get pack k ≡ Some h → HasEnds (cell (known_of (homes_of p) known h) (unit_of p.layout pack h))

  put_high_word : (o : Option Home) (x : ℤ) → ((h : Home) → o ≡ Some h → HasEnds (cell (known_of (homes_of p) known h) (unit_of p.layout pack h))) → IsWord x → IsWord (put_high p.layout (homes_of p) known pack o x)
  put_high_word None x ends is = is
  put_high_word (Some h) x ends is = high_is_word (known_of (homes_of p) known h) (unit_of p.layout pack h) x (ends h refl).ends is

  put_low_word : (o : Option Home) (x : ℤ) → ((h : Home) → o ≡ Some h → HasEnds (cell (known_of (homes_of p) known h) (unit_of p.layout pack h))) → IsWord x → IsWord (put_low p.layout (homes_of p) known pack o x)
  put_low_word None x ends is = is
  put_low_word (Some h) x ends is = low_is_word (known_of (homes_of p) known h) (unit_of p.layout pack h) x (ends h refl).ends is

  put_is_word : AreAllEnds → (w : ℕ → ℕ → ℤ) → ((i j : ℕ) → IsWord (w i j)) → (i j : ℕ) → IsWord (put_word p.layout (homes_of p) known pack w i j)
  put_is_word ends w are zero zero = are zero zero
  put_is_word ends w are zero (suc k) = put_low_word (slice_get pack k) (w zero (suc k)) (ends k) (are zero (suc k))
  put_is_word ends w are (suc k) zero = put_high_word (slice_get pack k) (w (suc k) zero) (ends k) (are (suc k) zero)
  put_is_word ends w are (suc j) (suc k) = are (suc j) (suc k)

  diagonal_is : (w : ℕ → ℕ → ℤ) (i : ℕ) → put_word p.layout (homes_of p) known pack w i i ≡ w i i
  diagonal_is w zero = refl
  diagonal_is w (suc k) = refl

  put_is_matrix : AreAllEnds → (m : List ℤ) → IsMatrix (size_of pack) m → IsMatrix (size_of pack) (put_matrix m)
  put_is_matrix ends m is =
      words_are_matrix (size_of pack) (put m)
      (put_is_word ends (word (size_of pack + 1) m) (λ i j. word_anywhere (size_of pack) m is (i * (size_of pack + 1) + j)))
      (λ i h. diagonal_is (word (size_of pack + 1) m) i ∙ is.diagonal i h)

  -- ---- lower words

  high_again : (o : Option Home) (x y : ℤ) → y ≤ℤ put_high p.layout (homes_of p) known pack o x → put_high p.layout (homes_of p) known pack o y ≡ y
  high_again None x y h = refl
  high_again (Some g) x y h = high_stays (known_of (homes_of p) known g) (unit_of p.layout pack g) x y h

  low_again : (o : Option Home) (x y : ℤ) → y ≤ℤ put_low p.layout (homes_of p) known pack o x → put_low p.layout (homes_of p) known pack o y ≡ y
  low_again None x y h = refl
  low_again (Some g) x y h = low_stays (known_of (homes_of p) known g) (unit_of p.layout pack g) x y h

  word_again : (w u : ℕ → ℕ → ℤ) (i j : ℕ) → u i j ≤ℤ put_word p.layout (homes_of p) known pack w i j → put_word p.layout (homes_of p) known pack u i j ≡ u i j
  word_again w u zero zero h = refl
  word_again w u zero (suc k) h = low_again (slice_get pack k) (w zero (suc k)) (u zero (suc k)) h
  word_again w u (suc k) zero h = high_again (slice_get pack k) (w (suc k) zero) (u (suc k) zero) h
  word_again w u (suc j) (suc k) h = refl

  put_again : (m c : List ℤ) → IsMatrix (size_of pack) c → ((i j : ℕ) → i < size_of pack + 1 → j < size_of pack + 1 → word (size_of pack + 1) c i j ≤ℤ word (size_of pack + 1) (put_matrix m) i j) → c ≡ put_matrix c
  put_again m c is lower =
      with_words_is (size_of pack) c (put c) is.width
      (λ i j h g. sym (word_again (word (size_of pack + 1) m) (word (size_of pack + 1) c) i j
      (subst (λ (z : ℤ). word (size_of pack + 1) c i j ≤ℤ z) (word_at (size_of pack) (put m) i j h g) (lower i j h g))))

  module _ (few : size_of pack ≤ 8) (fits : CellsFit (owns p) known) (short : AllByRecursion (IsShortHome p.layout) pack) (m : List ℤ) (is : IsMatrix (size_of pack) m) where
    matrix_is : IsMatrix (size_of pack) (put_matrix m)
    matrix_is = put_is_matrix (cell_ends_at p known pack fits short) m is

    closing : (c : List ℤ) → put_closed p.layout (homes_of p) known pack m ≡ Some c → IsClosed (size_of pack) (put_matrix m) c
    closing c e = closing_is (size_of pack) (put_matrix m) c few matrix_is e

    pub stays_closed : (c : List ℤ) → put_closed p.layout (homes_of p) known pack m ≡ Some c → IsClosedBy p known pack c
    stays_closed c e =
        let closes = closing c e in
        ap (closed (size_of pack)) (sym (put_again m c closes.matrix (closed_below (size_of pack) (put_matrix m) c matrix_is closes)))
        ∙ closed_again (size_of pack) (put_matrix m) c few closes

    pub closed_is_tight : IsClosedBy p known pack m → IsTightIfSettled (size_of pack) m
    closed_is_tight e = record { tight = λ settled at. tight_of_closure (size_of pack) (put_matrix m) m is (closing m e).closure settled at }

-- ---- where the same is known

module _ (p : Program) (before known : List Known) (pack : Pack) (alike : AllByRecursion (IsKnownAlike p before known) pack) where
  high_alike : (o : Option Home) (x : ℤ) → ((h : Home) → o ≡ Some h → IsKnownAlike p before known h) → put_high p.layout (homes_of p) before pack o x ≡ put_high p.layout (homes_of p) known pack o x
  high_alike None x each = refl
  high_alike (Some h) x each = ap (λ k. high_word (unit_of p.layout pack h) k x) (each h refl)

  low_alike : (o : Option Home) (x : ℤ) → ((h : Home) → o ≡ Some h → IsKnownAlike p before known h) → put_low p.layout (homes_of p) before pack o x ≡ put_low p.layout (homes_of p) known pack o x
  low_alike None x each = refl
  low_alike (Some h) x each = ap (λ k. low_word (unit_of p.layout pack h) k x) (each h refl)

  word_alike : (w : ℕ → ℕ → ℤ) (i j : ℕ) → put_word p.layout (homes_of p) before pack w i j ≡ put_word p.layout (homes_of p) known pack w i j
  word_alike w zero zero = refl
  word_alike w zero (suc k) = low_alike (slice_get pack k) (w zero (suc k)) (λ h at. held_at (IsKnownAlike p before known) pack k h alike at)
  word_alike w (suc k) zero = high_alike (slice_get pack k) (w (suc k) zero) (λ h at. held_at (IsKnownAlike p before known) pack k h alike at)
  word_alike w (suc j) (suc k) = refl

  closed_alike : (m : List ℤ) → put_closed p.layout (homes_of p) before pack m ≡ put_closed p.layout (homes_of p) known pack m
  closed_alike m = λ t. closed (size_of pack) (with_words (size_of pack) (λ i j. word_alike (word (size_of pack + 1) m) i j t))

  pub still_closed : (last m : List ℤ) → last ≡ m → IsClosedBy p before pack last → IsClosedBy p known pack m
  still_closed last m same is = subst (IsClosedBy p known pack) same (sym (closed_alike last) ∙ is)
