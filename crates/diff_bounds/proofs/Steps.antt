-- One more place, and the end.
use Rattle.std.proofs.Common.{◌≡◌, ℕ, ◌+◌, ◌*◌, ◌^◌, ◌<◌, ◌≤◌, List, ◌∷◌, ◌++◌, ℤ, pos, ◌+ℤ◌, ◌≤ℤ◌, ◌<ℤ◌, ◌⊎◌, inl, inr, refl, sym, ap, subst, ◌∙◌, arith}
use Rattle.std.specs.Int.{int_min}
use Rattle.std.proofs.lemmas.Int.{ints, clamps, by_lt_z}
use Rattle.std.proofs.lemmas.Bool.{cases_eq}
use Rattle.diff_bounds.specs.Matrix.{largest, IsBound, IsWord}
use Rattle.diff_bounds.specs.Paths.{path_sum, IsPath, cut_of, HasNoNegativeCycle, IsLeastSum, IsClosure}
use Rattle.diff_bounds.specs.Sums.{no_path, IsSum, IsShort, IsLesser, IsThrough, IsTight, AreShort, NegativeCycle, IsNegativeTrip}
use Rattle.diff_bounds.proofs.Walks.{AreWords, sum_join, bounds_join, below_join, below_more}
use Rattle.diff_bounds.proofs.Tightness.{along, cycles_below, short_again}

pub lesser_of : (best first second x : ℤ) → IsSum first → IsSum second → x ≡ int_min best (first +ℤ second) → IsLesser best first second x
lesser_of best first second x h k e = record {
  kept = omega (arith, ints, clamps);
  lowered = λ s t. omega (arith, ints, clamps);
  one = by_lt_z (first +ℤ second) best
      (λ (lt : (first +ℤ second) <ℤ best). inr (h, k, omega (arith, ints, clamps)))
      (λ (le : best ≤ℤ (first +ℤ second)). inl (omega (arith, ints, clamps)));
}

-- ---- through the place itself nothing changes
pub same_first : (x y z : ℤ) → y ≡ pos 0 → IsLesser x x y z → z ≡ x
same_first x y z e l = by_one l.one
  where
    by_one : (z ≡ x) ⊎ (IsSum x × IsSum y × (z ≡ x +ℤ y)) → z ≡ x
    by_one (inl same) = same
    by_one (inr (h, k, sum)) = omega (arith, ints)

pub same_second : (x y z : ℤ) → y ≡ pos 0 → IsLesser x y x z → z ≡ x
same_second x y z e l = by_one l.one
  where
    by_one : (z ≡ x) ⊎ (IsSum y × IsSum x × (z ≡ y +ℤ x)) → z ≡ x
    by_one (inl same) = same
    by_one (inr (h, k, sum)) = omega (arith, ints)

-- ---- two sums joined at a place that was there before
abbrev Joined : (ℕ → ℕ → ℤ) → ℕ → ℕ → ℕ → Type 0
Joined b v i j = IsSum (b i v) → IsSum (b v j) → IsSum (b i j) × (b i j ≤ℤ (b i v +ℤ b v j))

before : (n k : ℕ) (old a b : ℕ → ℕ → ℤ) → k < n → IsTight n k old a → AreShort n a → IsThrough n k a b → (v i j : ℕ) → v < k → i < n → j < n → Joined b v i j
before n k old a b lt t short through v i j less h g near nearer =
    by_ones (through.words i v h inside).one (through.words v j inside g).one
  where
    inside : v < n
    inside = omega arith

    l : IsLesser (a i j) (a i k) (a k j) (b i j)
    l = through.words i j h g

    ij : IsShort (a i j)
    ij = short.short i j h g

    ik : IsShort (a i k)
    ik = short.short i k h lt

    kj : IsShort (a k j)
    kj = short.short k j lt g

    via : IsSum (a i k) → IsSum (a k j) → (b i v +ℤ b v j) ≡ (b i v +ℤ b v j) → (a i k +ℤ a k j) ≤ℤ (b i v +ℤ b v j) → IsSum (b i j) × (b i j ≤ℤ (b i v +ℤ b v j))
    via s r same less = let low : b i j ≤ℤ (a i k +ℤ a k j) = l.lowered s r in let x : a i k ≤ℤ pos (8 * 10 ^ 37) = ik.high s in let y : a k j ≤ℤ pos (8 * 10 ^ 37) = kj.high r in (omega (arith, ints), omega (arith, ints))

    by_ones : (b i v ≡ a i v) ⊎ (IsSum (a i k) × IsSum (a k v) × (b i v ≡ a i k +ℤ a k v)) → (b v j ≡ a v j) ⊎ (IsSum (a v k) × IsSum (a k j) × (b v j ≡ a v k +ℤ a k j)) → IsSum (b i j) × (b i j ≤ℤ (b i v +ℤ b v j))
    by_ones (inl e) (inl f) =
        let iv : IsSum (a i v) = omega (arith, ints) in
        let vj : IsSum (a v j) = omega (arith, ints) in
        let near_ij : IsSum (a i j) = t.joined v i j less h g iv vj in
        let sum : a i j ≤ℤ (a i v +ℤ a v j) = t.triangle v i j less h g iv vj in
        let kept : b i j ≤ℤ a i j = l.kept in
        (omega (arith, ints), omega (arith, ints))
    by_ones (inl e) (inr (vk, near_kj, f)) =
        let iv : IsSum (a i v) = omega (arith, ints) in
        let near_ik : IsSum (a i k) = t.joined v i k less h lt iv vk in
        let sum : a i k ≤ℤ (a i v +ℤ a v k) = t.triangle v i k less h lt iv vk in
        via near_ik near_kj refl (omega (arith, ints))
    by_ones (inr (near_ik, kv, e)) (inl f) =
        let vj : IsSum (a v j) = omega (arith, ints) in
        let near_kj : IsSum (a k j) = t.joined v k j less lt g kv vj in
        let sum : a k j ≤ℤ (a k v +ℤ a v j) = t.triangle v k j less lt g kv vj in
        via near_ik near_kj refl (omega (arith, ints))
    by_ones (inr (near_ik, kv, e)) (inr (vk, near_kj, f)) =
        let sum : a k k ≤ℤ (a k v +ℤ a v k) = t.triangle v k k less lt lt kv vk in
        let zero_sum : a k k ≡ pos 0 = t.diagonal k lt in
        via near_ik near_kj refl (omega (arith, ints))

-- at the new place
at_last : (n k : ℕ) (old a b : ℕ → ℕ → ℤ) → k < n → IsTight n k old a → AreShort n a → IsThrough n k a b → (i j : ℕ) → i < n → j < n → Joined b k i j
at_last n k old a b lt t short through i j h g near nearer =
    let zero_sum : a k k ≡ pos 0 = t.diagonal k lt in
    let e : b i k ≡ a i k = same_first (a i k) (a k k) (b i k) zero_sum (through.words i k h lt) in
    let f : b k j ≡ a k j = same_second (a k j) (a k k) (b k j) zero_sum (through.words k j lt g) in
    let s : IsSum (a i k) = omega (arith, ints) in
    let r : IsSum (a k j) = omega (arith, ints) in
    let low : b i j ≤ℤ (a i k +ℤ a k j) = (through.words i j h g).lowered s r in
    let x : a i k ≤ℤ pos (8 * 10 ^ 37) = (short.short i k h lt).high s in
    let y : a k j ≤ℤ pos (8 * 10 ^ 37) = (short.short k j lt g).high r in
    (omega (arith, ints), omega (arith, ints))

joined_again : (n k : ℕ) (old a b : ℕ → ℕ → ℤ) → k < n → IsTight n k old a → AreShort n a → IsThrough n k a b → (v i j : ℕ) → v < k + 1 → i < n → j < n → Joined b v i j
joined_again n k old a b lt t short through v i j less h g =
    elim (cases_eq v k) as (λ _. Joined b v i j) [
      | inl e ↦ subst (λ (x : ℕ). Joined b x i j) (sym e) (at_last n k old a b lt t short through i j h g)
      | inr ne ↦ before n k old a b lt t short through v i j (omega arith) h g
    ]

pub reached_again : (n k : ℕ) (old a b : ℕ → ℕ → ℤ) → k < n → IsTight n k old a → IsThrough n k a b → (i j : ℕ) → i < n → j < n → IsSum (b i j) → (p : List ℕ) × IsPath (k + 1) old i p j × (b i j ≡ path_sum old i p j)
reached_again n k old a b lt t through i j h g near = by_one (through.words i j h g).one
  where
    by_one : (b i j ≡ a i j) ⊎ (IsSum (a i k) × IsSum (a k j) × (b i j ≡ a i k +ℤ a k j)) → (p : List ℕ) × IsPath (k + 1) old i p j × (b i j ≡ path_sum old i p j)
    by_one (inl e) =
        let r = t.reached i j h g (omega (arith, ints)) in
        (r.0, record { places = below_more k (k + 1) r.0 (omega arith) r.1.places; bounds = r.1.bounds }, e ∙ r.2)
    by_one (inr (s, u, e)) =
        let r = t.reached i k h lt s in
        let q = t.reached k j lt g u in (
          r.0 ++ k ∷ q.0,
          record {
            places = below_join (k + 1) r.0 k q.0 (below_more k (k + 1) r.0 (omega arith) r.1.places) (omega arith) (below_more k (k + 1) q.0 (omega arith) q.1.places);
            bounds = bounds_join old i r.0 k q.0 j r.1.bounds q.1.bounds;
          },
          omega (arith, ints, e, r.2, q.2, sum_join old i r.0 k q.0 j),
        )

pub tight_again : (n k : ℕ) (old a b : ℕ → ℕ → ℤ) → k < n → IsTight n k old a → AreShort n a → IsThrough n k a b → ((i : ℕ) → i < n → b i i ≡ pos 0) → IsTight n (k + 1) old b
tight_again n k old a b lt t short through diagonal = record {
  diagonal = diagonal;
  below = λ i j h g bound. let kept : b i j ≤ℤ a i j = (through.words i j h g).kept in let low : a i j ≤ℤ old i j = t.below i j h g bound in omega (arith, ints);
  joined = λ v i j less h g s r. (joined_again n k old a b lt t short through v i j less h g s r).0;
  triangle = λ v i j less h g s r. (joined_again n k old a b lt t short through v i j less h g s r).1;
  reached = reached_again n k old a b lt t through;
}

pub short_after : (n k : ℕ) (old a b : ℕ → ℕ → ℤ) → n ≤ 9 → k < n → AreWords n old → AreShort n a → IsThrough n k a b → IsTight n (k + 1) old b → AreShort n b
short_after n k old a b small lt words short through t =
    short_again n (k + 1) old b small (omega arith) words t
    (λ i j h g. let kept : b i j ≤ℤ a i j = (through.words i j h g).kept in let top : a i j ≤ℤ no_path = (short.short i j h g).top in omega (arith, ints))

pub negative_cycle : (n k : ℕ) (old a : ℕ → ℕ → ℤ) → k < n → IsTight n k old a → (i : ℕ) → i < n → IsNegativeTrip a i k → NegativeCycle n old
negative_cycle n k old a lt t i h trip =
    let r = t.reached i k h lt trip.out in
    let q = t.reached k i lt h trip.back in
    record {
      at = i;
      between = r.0 ++ k ∷ q.0;
      within = h;
      path = record {
        places = below_join n r.0 k q.0 (below_more k n r.0 (omega arith) r.1.places) lt (below_more k n q.0 (omega arith) q.1.places);
        bounds = bounds_join old i r.0 k q.0 i r.1.bounds q.1.bounds;
      };
      negative = let sum : (a i k +ℤ a k i) <ℤ pos 0 = trip.negative in omega (arith, ints, r.2, q.2, sum_join old i r.0 k q.0 i);
    }

-- ---- the cut
pub cut_monotone : (x y : ℤ) → x ≤ℤ y → cut_of x ≤ℤ cut_of y
cut_monotone x y h = grind (arith, ints, clamps)

pub cut_is_word : (z : ℤ) → IsWord (cut_of z)
cut_is_word z = record { low = grind (arith, ints, clamps); high = λ b. grind (arith, ints, clamps); top = grind (arith, ints, clamps) }

pub cut_bound : (z : ℤ) → IsBound (cut_of z) → z ≤ℤ largest
cut_bound z h = grind (arith, ints, clamps)

pub cut_zero : (z : ℤ) → z ≡ pos 0 → cut_of z ≡ pos 0
cut_zero z e = rw e refl

pub no_cycle : (n : ℕ) (old a : ℕ → ℕ → ℤ) → AreWords n old → IsTight n n old a → HasNoNegativeCycle n old
no_cycle n old a words t = record { cycle = λ i p lt path. (cycles_below n n old a t words (omega arith)).cycle i p lt path.places path.bounds }

pub closure_of : (n : ℕ) (old a b : ℕ → ℕ → ℤ) → AreWords n old → IsTight n n old a → ((i j : ℕ) → i < n → j < n → b i j ≡ cut_of (a i j)) → IsClosure n old b
closure_of n old a b words t cuts = record { sums = λ i j h g. subst (λ (x : ℤ). IsLeastSum n old i j x) (sym (cuts i j h g)) (least i j h g) }
  where
    least : (i j : ℕ) → i < n → j < n → IsLeastSum n old i j (cut_of (a i j))
    least i j h g = record {
      least = λ p path. cut_monotone (a i j) (path_sum old i p j) (along n n old a t words (omega arith) i p j h g path.places path.bounds).1;
      reached = λ bound.
          let r = t.reached i j h g (let z : a i j ≤ℤ largest = cut_bound (a i j) bound in omega (arith, ints)) in
          (r.0, r.1, ap cut_of r.2);
    }
