-- Packs that are lowered to what is known of their cells, and closed, where less is known.
use Rattle.std.proofs.Common.{◌≡◌, ℕ, zero, suc, ◌+◌, ◌<◌, ◌≤◌, List, [], ◌∷◌, ℤ, pos, neg_ℤ, ◌*ℤ◌, ◌≤ℤ◌, Option, Some, None, inl, inr, refl, subst, ◌∙◌, arith}
use Rattle.std.specs.Prelude.{IfSome, slice_get}
use Rattle.std.specs.Int.{int_min}
use Rattle.std.proofs.lemmas.Int.{ints, clamps}
use Rattle.std.proofs.lemmas.Bool.{cases_eq}
use Rattle.interval_domain.proofs.IntervalEnds.{times_grows}
use Rattle.cob_data.specs.declared.layout.Layout.{Layout}
use Rattle.cob_program.specs.Values.{◌>>=◌}
use Rattle.cob_program.specs.Act.{Program}
use Rattle.diff_bounds.specs.Matrix.{word, IsMatrix}
use Rattle.diff_bounds.specs.Values.{AreLower}
use Rattle.interval_domain.specs.Known.{Known, KnownBelow}
use Rattle.interval_domain.specs.Elements.{CellsBelow}
use Rattle.cob_graph.specs.declared.homes.Home.{Home}
use Rattle.cob_graph.specs.Homes.{homes_of}
use Rattle.cell_steps.specs.Storages.{known_of}
use Rattle.diff_steps.specs.Packs.{Pack, size_of, unit_of}
use Rattle.diff_steps.specs.Matrices.{with_words, high_word, low_word, put_high, put_low, put_word, put_closed}
use Rattle.diff_steps.specs.Steps.{each_pack, all_closed}
use Rattle.pack_laws.specs.Orders.{AreLowerOff}
use Rattle.pack_laws.proofs.Words.{word_at}
use Rattle.cell_laws.proofs.CellLists.{known_below}
use Rattle.pack_laws.specs.Agreeing.{AreMatrices}
use Rattle.pack_laws.specs.EdgeLaws.{AreLowerEach}
use Rattle.pack_laws.proofs.PacksClosingRise.{order_along, LowerIfAny, closed_rises, closed_fits}

-- ---- matrices with zeros on the diagonal
pub record IsFlat (size : ℕ) (m : List ℤ) : Type 0 where
  pub zeros : (i : ℕ) → i < size + 1 → word (size + 1) m i i ≡ pos 0

pub matrix_is_flat : (size : ℕ) (m : List ℤ) → IsMatrix size m → IsFlat size m
matrix_is_flat size m is = record { zeros = is.diagonal }

same_below : (x y z : ℤ) → x ≡ z → y ≡ z → x ≤ℤ y
same_below x y z e f = omega (arith, ints, e, f)

-- so that the whole matrix is lower where it is lower off the diagonal
pub lower_of : (size : ℕ) (a b : List ℤ) → IsFlat size a → IsFlat size b → AreLowerOff size a b → AreLower (size + 1) (word (size + 1) a) (word (size + 1) b)
lower_of size a b low high off = record { words = λ i j h g. each i j h g }
  where
    each : (i j : ℕ) → i < size + 1 → j < size + 1 → word (size + 1) a i j ≤ℤ word (size + 1) b i j
    each i j h g = elim (cases_eq i j) as (λ _. word (size + 1) a i j ≤ℤ word (size + 1) b i j) [
      | inl e ↦ subst (λ (k : ℕ). word (size + 1) a i k ≤ℤ word (size + 1) b i k) e (same_below (word (size + 1) a i i) (word (size + 1) b i i) (pos 0) (low.zeros i h) (high.zeros i h))
      | inr ne ↦ off.words i j (omega arith) (omega arith) ne
    ]

pub off_of : (size : ℕ) (a b : List ℤ) → AreLower (size + 1) (word (size + 1) a) (word (size + 1) b) → AreLowerOff size a b
off_of size a b lower = record { words = λ i j h g ne. lower.words i j (omega arith) (omega arith) }

-- ---- one word
min_rises : (x y p q : ℤ) → x ≤ℤ y → p ≤ℤ q → int_min x p ≤ℤ int_min y q
min_rises x y p q h k = omega (arith, ints, clamps, h, k)

min_below : (x y p : ℤ) → x ≤ℤ y → int_min x p ≤ℤ y
min_below x y p h = omega (arith, ints, clamps, h)

pub negated_falls : (x y : ℤ) → x ≤ℤ y → neg_ℤ y ≤ℤ neg_ℤ x
negated_falls x y h = omega (arith, ints, h)

high_rises : (unit : ℕ) (c d : Known) (x y : ℤ) → KnownBelow c d → x ≤ℤ y → high_word unit c x ≤ℤ high_word unit d y
high_rises unit None None x y k h = h
high_rises unit None (Some j) x y k h = absurd k
high_rises unit (Some i) None x y k h = min_below x y (i.high *ℤ pos unit) h
high_rises unit (Some i) (Some j) x y k h = min_rises x y (i.high *ℤ pos unit) (j.high *ℤ pos unit) h (times_grows i.high j.high unit k.1)

low_rises : (unit : ℕ) (c d : Known) (x y : ℤ) → KnownBelow c d → x ≤ℤ y → low_word unit c x ≤ℤ low_word unit d y
low_rises unit None None x y k h = h
low_rises unit None (Some j) x y k h = absurd k
low_rises unit (Some i) None x y k h = min_below x y (neg_ℤ i.low *ℤ pos unit) h
low_rises unit (Some i) (Some j) x y k h = min_rises x y (neg_ℤ i.low *ℤ pos unit) (neg_ℤ j.low *ℤ pos unit) h (times_grows (neg_ℤ i.low) (neg_ℤ j.low) unit (negated_falls j.low i.low k.0))

-- ---- one pack
module _ (l : Layout) (homes : List Home) (as_ bs : List Known) (below : CellsBelow as_ bs) (pack : Pack) where
  put_high_rises : (o : Option Home) (x y : ℤ) → x ≤ℤ y → put_high l homes as_ pack o x ≤ℤ put_high l homes bs pack o y
  put_high_rises None x y h = h
  put_high_rises (Some g) x y h = high_rises (unit_of l pack g) (known_of homes as_ g) (known_of homes bs g) x y (known_below homes as_ bs g below) h

  put_low_rises : (o : Option Home) (x y : ℤ) → x ≤ℤ y → put_low l homes as_ pack o x ≤ℤ put_low l homes bs pack o y
  put_low_rises None x y h = h
  put_low_rises (Some g) x y h = low_rises (unit_of l pack g) (known_of homes as_ g) (known_of homes bs g) x y (known_below homes as_ bs g below) h

  put_word_rises : (w u : ℕ → ℕ → ℤ) (i j : ℕ) → w i j ≤ℤ u i j → put_word l homes as_ pack w i j ≤ℤ put_word l homes bs pack u i j
  put_word_rises w u zero zero h = h
  put_word_rises w u zero (suc k) h = put_low_rises (slice_get pack k) (w zero (suc k)) (u zero (suc k)) h
  put_word_rises w u (suc k) zero h = put_high_rises (slice_get pack k) (w (suc k) zero) (u (suc k) zero) h
  put_word_rises w u (suc j) (suc k) h = h

  put_rises : (m t : List ℤ) → AreLower (size_of pack + 1) (word (size_of pack + 1) m) (word (size_of pack + 1) t) → LowerIfAny (size_of pack) (put_closed l homes as_ pack m) (put_closed l homes bs pack t)
  put_rises m t lower =
      closed_rises (size_of pack) (with_words (size_of pack) (put_word l homes as_ pack (word (size_of pack + 1) m))) (with_words (size_of pack) (put_word l homes bs pack (word (size_of pack + 1) t)))
      (record {
        words = λ i j h g. order_along _ _ _ _
            (word_at (size_of pack) (put_word l homes as_ pack (word (size_of pack + 1) m)) i j h g) (word_at (size_of pack) (put_word l homes bs pack (word (size_of pack + 1) t)) i j h g)
            (put_word_rises (word (size_of pack + 1) m) (word (size_of pack + 1) t) i j (lower.words i j h g));
      })

module _ (l : Layout) (homes : List Home) (known : List Known) (pack : Pack) where
  put_diagonal : (w : ℕ → ℕ → ℤ) (i : ℕ) → put_word l homes known pack w i i ≡ w i i
  put_diagonal w zero = refl
  put_diagonal w (suc k) = refl

  put_fits : (m : List ℤ) → IsFlat (size_of pack) m → IfSome (put_closed l homes known pack m) (IsMatrix (size_of pack))
  put_fits m flat =
      closed_fits (size_of pack) (with_words (size_of pack) (put_word l homes known pack (word (size_of pack + 1) m)))
      (λ i h. word_at (size_of pack) (put_word l homes known pack (word (size_of pack + 1) m)) i i h h ∙ (put_diagonal (word (size_of pack + 1) m) i ∙ flat.zeros i h))

-- ---- each pack
abbrev pub AreFlat : List Pack → List (List ℤ) → Type 0
AreFlat [] [] = Unit {0}
AreFlat (pack ∷ packs) (m ∷ ms) = ((size_of pack ≤ 8) × IsFlat (size_of pack) m) × AreFlat packs ms
AreFlat _ _ = ⊥

pub all_are_flat : (packs : List Pack) (ms : List (List ℤ)) → AreMatrices packs ms → AreFlat packs ms
all_are_flat [] [] are = tt
all_are_flat [] (m ∷ ms) are = absurd are
all_are_flat (pack ∷ packs) [] are = absurd are
all_are_flat (pack ∷ packs) (m ∷ ms) are = ((are.0.0, matrix_is_flat (size_of pack) m are.0.1), all_are_flat packs ms are.1)

-- nothing lies below all
abbrev pub LowerEachIf : List Pack → Option (List (List ℤ)) → Option (List (List ℤ)) → Type 0
LowerEachIf packs None q = Unit {0}
LowerEachIf packs (Some ms) None = ⊥
LowerEachIf packs (Some ms) (Some ts) = AreLowerEach packs ms ts

module _ (p : Program) where
  pub all_fit : (known : List Known) (packs : List Pack) (ms : List (List ℤ)) → AreFlat packs ms → IfSome (all_closed p known packs ms) (AreMatrices packs)
  all_fit known [] [] flat = tt
  all_fit known [] (m ∷ ms) flat = absurd flat
  all_fit known (pack ∷ packs) [] flat = absurd flat
  all_fit known (pack ∷ packs) (m ∷ ms) flat =
      first (put_closed p.layout (homes_of p) known pack m) (all_closed p known packs ms) (put_fits p.layout (homes_of p) known pack m flat.0.1) (all_fit known packs ms flat.1)
    where
      first : (o : Option (List ℤ)) (q : Option (List (List ℤ))) → IfSome o (IsMatrix (size_of pack)) → IfSome q (AreMatrices packs) → IfSome (o >>= λ c. q >>= λ cs. Some (c ∷ cs)) (AreMatrices (pack ∷ packs))
      first None q h k = tt
      first (Some c) None h k = tt
      first (Some c) (Some cs) h k = ((flat.0.0, h), k)

  module _ (as_ bs : List Known) (below : CellsBelow as_ bs) where
    pub all_rise : (packs : List Pack) (ms ts : List (List ℤ)) → AreFlat packs ms → AreFlat packs ts → AreLowerEach packs ms ts → LowerEachIf packs (all_closed p as_ packs ms) (all_closed p bs packs ts)
    all_rise [] [] [] flat level lower = tt
    all_rise [] (m ∷ ms) ts flat level lower = absurd flat
    all_rise [] [] (t ∷ ts) flat level lower = absurd level
    all_rise (pack ∷ packs) [] ts flat level lower = absurd flat
    all_rise (pack ∷ packs) (m ∷ ms) [] flat level lower = absurd level
    all_rise (pack ∷ packs) (m ∷ ms) (t ∷ ts) flat level lower =
        first (put_closed p.layout (homes_of p) as_ pack m) (put_closed p.layout (homes_of p) bs pack t) (all_closed p as_ packs ms) (all_closed p bs packs ts)
        (put_rises p.layout (homes_of p) as_ bs below pack m t (lower_of (size_of pack) m t flat.0.1 level.0.1 lower.0))
        (all_rise packs ms ts flat.1 level.1 lower.1)
      where
        first : (o q : Option (List ℤ)) (v u : Option (List (List ℤ))) → LowerIfAny (size_of pack) o q → LowerEachIf packs v u
            → LowerEachIf (pack ∷ packs) (o >>= λ c. v >>= λ cs. Some (c ∷ cs)) (q >>= λ c. u >>= λ cs. Some (c ∷ cs))
        first None q v u h k = tt
        first (Some c) None v u h k = absurd h
        first (Some c) (Some d) None u h k = tt
        first (Some c) (Some d) (Some cs) None h k = absurd k
        first (Some c) (Some d) (Some cs) (Some ds) h k = (off_of (size_of pack) c d h, k)

-- ---- changes of each pack
pub each_flat : (f : Pack → List ℤ → List ℤ) → ((pack : Pack) (m : List ℤ) → IsMatrix (size_of pack) m → IsFlat (size_of pack) (f pack m))
    → (packs : List Pack) (ms : List (List ℤ)) → AreMatrices packs ms → AreFlat packs (each_pack f packs ms)
each_flat f keeps [] [] are = tt
each_flat f keeps [] (m ∷ ms) are = absurd are
each_flat f keeps (pack ∷ packs) [] are = absurd are
each_flat f keeps (pack ∷ packs) (m ∷ ms) are = ((are.0.0, keeps pack m are.0.1), each_flat f keeps packs ms are.1)

pub each_rises : (f g : Pack → List ℤ → List ℤ)
    → ((pack : Pack) (m t : List ℤ) → IsMatrix (size_of pack) m → IsMatrix (size_of pack) t → AreLowerOff (size_of pack) m t → AreLowerOff (size_of pack) (f pack m) (g pack t))
    → (packs : List Pack) (ms ts : List (List ℤ)) → AreMatrices packs ms → AreMatrices packs ts → AreLowerEach packs ms ts → AreLowerEach packs (each_pack f packs ms) (each_pack g packs ts)
each_rises f g rise [] [] [] are is lower = tt
each_rises f g rise [] (m ∷ ms) ts are is lower = absurd are
each_rises f g rise [] [] (t ∷ ts) are is lower = absurd is
each_rises f g rise (pack ∷ packs) [] ts are is lower = absurd are
each_rises f g rise (pack ∷ packs) (m ∷ ms) [] are is lower = absurd is
each_rises f g rise (pack ∷ packs) (m ∷ ms) (t ∷ ts) are is lower = (rise pack m t are.0.1 is.0.1 lower.0, each_rises f g rise packs ms ts are.1 is.1 lower.1)
