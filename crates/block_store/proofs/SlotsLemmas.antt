-- Places that all hold words.
use Rattle.std.proofs.Common.{zero, suc, get_or, slice_set, ◌≡◌, ℕ, ◌+◌, ◌<◌, ◌≤◌, List, ◌∷◌, ◌++◌, ℤ, pos, length, take, drop, map, replicate, ap, sym, ◌∙◌, subst, refl, arith, inl, inr, length-set, get_or-set_same, get_or-set_other}
use Rattle.std.specs.Prelude.{Option, Some, None}
use Rattle.std.specs.List.{refill, length_refill}
use Rattle.std.proofs.lemmas.Bool.{cases_eq, cases_lt}
use Rattle.std.proofs.lemmas.List.{take-map, drop-map, map-append, length-map, length-take, length-drop, length-append, length-replicate, get_or-replicate, get_or_past, ext_get_or, get_or-map}
use Rattle.block_store.specs.Places.{somes, IsRun, IsFilled}
use Rattle.block_store.specs.Lends.{spliced}
use Rattle.block_store.proofs.Places.{somes-map, same_values}
use Rattle.block_store.specs.Slots.{IsFullOf, IsFull, IsZeros}
use Rattle.block_store.specs.Words.{run_at, with_run}

-- a run of the places
pub run_is : (slots : List (Option ℤ)) (len : ℕ) (words : List ℤ) (at count : ℕ) → IsFullOf slots len words → take count (drop at slots) ≡ map Some (run_at words at count)
run_is slots len words at count full =
    ap (λ s. take count (drop at s)) full.are ∙ ap (take count) (drop-map Some at words) ∙ take-map Some count (drop at words)

pub is_run : (slots : List (Option ℤ)) (len : ℕ) (words : List ℤ) (at count : ℕ) → IsFullOf slots len words → at + count ≤ length words → IsRun slots at count
is_run slots len words at count full within =
    (omega (arith, ap length full.are, length-map words Some), (run_at words at count, run_is slots len words at count full))

pub run_seen : (slots : List (Option ℤ)) (len : ℕ) (words run : List ℤ) (at count : ℕ) → IsFullOf slots len words → take count (drop at slots) ≡ map Some run → run ≡ run_at words at count
run_seen slots len words run at count full is = same_values run (run_at words at count) (sym is ∙ run_is slots len words at count full)

-- after a write to a run
pub written : (slots : List (Option ℤ)) (len : ℕ) (words ws : List ℤ) (at count : ℕ) → IsFullOf slots len words → spliced slots at count ws ≡ map Some (with_run words at count ws)
written slots len words ws at count full =
    ap (λ s. spliced s at count ws) full.are
    ∙ ap (λ front. front ++ (map Some ws ++ drop (at + count) (map Some words))) (take-map Some at words)
    ∙ ap (λ back. map Some (take at words) ++ (map Some ws ++ back)) (drop-map Some (at + count) words)
    ∙ ap (λ back. map Some (take at words) ++ back) (sym (map-append Some ws (drop (at + count) words)))
    ∙ sym (map-append Some (take at words) (ws ++ drop (at + count) words))

pub somes_run : (slots : List (Option ℤ)) (len : ℕ) (words : List ℤ) (at count : ℕ) → IsFullOf slots len words → somes (take count (drop at slots)) ≡ run_at words at count
somes_run slots len words at count full = ap somes (run_is slots len words at count full) ∙ somes-map (run_at words at count)

-- whatever is written there, cut or filled up to the run's length
abbrev pub refilled : List (Option ℤ) → ℕ → ℕ → List ℤ → List ℤ
refilled slots at count w = refill count (somes (take count (drop at slots))) w

length-refilled : (slots : List (Option ℤ)) (len : ℕ) (words : List ℤ) (at count : ℕ) → IsFullOf slots len words → at + count ≤ length words → (w : List ℤ) → count ≡ length (refilled slots at count w)
length-refilled slots len words at count full within w =
    let old = somes (take count (drop at slots)) in
    let wide : count ≡ length (run_at words at count) = omega (arith, length-take count (drop at words), length-drop at words) in
    length_refill count old w (wide ∙ ap length (sym (somes_run slots len words at count full)))

pub length-with_run : (words ws : List ℤ) (at count : ℕ) → at + count ≤ length words → length ws ≡ count → length (with_run words at count ws) ≡ length words
length-with_run words ws at count within wide =
    omega (arith, length-append (take at words) (ws ++ drop (at + count) words), length-append ws (drop (at + count) words), length-take at words, length-drop (at + count) words)

pub lent_words : (slots : List (Option ℤ)) (len : ℕ) (words : List ℤ) (at count : ℕ) → IsFullOf slots len words → (w : List ℤ) → somes (spliced slots at count (refilled slots at count w)) ≡ with_run words at count (refill count (run_at words at count) w)
lent_words slots len words at count full w =
    ap somes (written slots len words (refilled slots at count w) at count full)
    ∙ somes-map (with_run words at count (refilled slots at count w))
    ∙ ap (λ old. with_run words at count (refill count old w)) (somes_run slots len words at count full)

pub lent_full : (slots : List (Option ℤ)) (len : ℕ) (words : List ℤ) (at count : ℕ) → IsFullOf slots len words → at + count ≤ length words → (w : List ℤ) → IsFullOf (spliced slots at count (refilled slots at count w)) len (somes (spliced slots at count (refilled slots at count w)))
lent_full slots len words at count full within w =
    let run = refilled slots at count w in
    let is = written slots len words run at count full in
    let now = with_run words at count run in
    let same : somes (spliced slots at count run) ≡ now = ap somes is ∙ somes-map now in
    record {
      are = is ∙ ap (map Some) (sym same);
      count = ap length same ∙ length-with_run words run at count within (sym (length-refilled slots len words at count full within w)) ∙ full.count;
    }

pub length_lent : (slots : List (Option ℤ)) (len : ℕ) (words : List ℤ) (at count : ℕ) → IsFullOf slots len words → at + count ≤ length words → (w : List ℤ) → length (spliced slots at count (refilled slots at count w)) ≡ length slots
length_lent slots len words at count full within w =
    let run = refilled slots at count w in
    ap length (written slots len words run at count full) ∙ length-map (with_run words at count run) Some ∙ length-with_run words run at count within (sym (length-refilled slots len words at count full within w))
    ∙ sym (ap length full.are ∙ length-map words Some)

-- ---- loops over the places

-- the first places hold zero, and the others nothing
pub record Filling (slots : List (Option ℤ)) (len i : ℕ) : Type 0 where
  pub count : length slots ≡ len
  pub below : (k : ℕ) → k < i → get_or slots k None ≡ Some (pos 0)
  pub above : (k : ℕ) → i ≤ k → get_or slots k None ≡ None

nothing : (len k : ℕ) → get_or (replicate {A = Option ℤ} len None) k None ≡ None
nothing len k = elim (cases_lt k len) [
  | inl less ↦ get_or-replicate len k None None less
  | inr past ↦ get_or_past (replicate len None) k None (omega (arith, length-replicate {A = Option ℤ} len None))
]

pub fills_none : (len : ℕ) → Filling (replicate len None) len 0
fills_none len = record { count = length-replicate len None; below = λ k less. absurd (omega arith); above = λ k le. nothing len k }

pub fills_more : (slots : List (Option ℤ)) (len i : ℕ) → i < len → Filling slots len i → Filling (slice_set slots i (Some (pos 0))) len (i + 1)
fills_more slots len i less f = record {
  count = length-set slots i (Some (pos 0)) ∙ f.count;
  below = λ k below. elim (cases_eq k i) [
    | inl at ↦ subst (λ j. get_or (slice_set slots i (Some (pos 0))) j None ≡ Some (pos 0)) (sym at) (get_or-set_same slots i (Some (pos 0)) None (omega (arith, f.count)))
    | inr off ↦ get_or-set_other slots i k (Some (pos 0)) None off ∙ f.below k (omega arith)
  ];
  above = λ k le. get_or-set_other slots i k (Some (pos 0)) None (omega arith) ∙ f.above k (omega arith);
}

pub fills_all : (slots : List (Option ℤ)) (len : ℕ) → Filling slots len len → IsZeros slots len
fills_all slots len f = ext_get_or None slots (replicate len (Some (pos 0))) (f.count ∙ sym (length-replicate len (Some (pos 0)))) (λ k less. f.below k (omega (arith, f.count)) ∙ sym (get_or-replicate len k (Some (pos 0)) None (omega (arith, f.count))))

-- the first places hold nothing, and the others words
pub record Emptying (slots : List (Option ℤ)) (len i : ℕ) : Type 0 where
  pub count : length slots ≡ len
  pub below : (k : ℕ) → k < i → get_or slots k None ≡ None
  pub above : (k : ℕ) → i ≤ k → k < len → IsFilled slots k

pub empties_none : (slots : List (Option ℤ)) (len : ℕ) → IsFull slots len → Emptying slots len 0
empties_none slots len (words, full) = record {
  count = ap length full.are ∙ length-map words Some ∙ full.count;
  below = λ k less. absurd (omega arith);
  above = λ k le less. (get_or words k (pos 0), ap (λ s. get_or s k None) full.are ∙ get_or-map Some words k (pos 0) None (omega (arith, full.count)));
}

pub empties_more : (slots : List (Option ℤ)) (len i : ℕ) → i < len → Emptying slots len i → Emptying (slice_set slots i None) len (i + 1)
empties_more slots len i less f = record {
  count = length-set slots i None ∙ f.count;
  below = λ k below. elim (cases_eq k i) [
    | inl at ↦ subst (λ j. get_or (slice_set slots i None) j None ≡ None) (sym at) (get_or-set_same slots i None None (omega (arith, f.count)))
    | inr off ↦ get_or-set_other slots i k None None off ∙ f.below k (omega arith)
  ];
  above = λ k le within. let held = f.above k (omega arith) within in (held.0, get_or-set_other slots i k None None (omega arith) ∙ held.1);
}

pub empties_all : (slots : List (Option ℤ)) (len : ℕ) → Emptying slots len len → slots ≡ replicate len None
empties_all slots len f = ext_get_or None slots (replicate len None) (f.count ∙ sym (length-replicate len None)) (λ k less. f.below k (omega (arith, f.count)) ∙ sym (get_or-replicate len k None None (omega (arith, f.count))))

-- ---- a region of zeros

map_zeros : (n : ℕ) → map {A = ℤ} {B = Option ℤ} Some (replicate n (pos 0)) ≡ replicate n (Some (pos 0))
map_zeros zero = refl
map_zeros (suc n) = ap (λ l. Some (pos 0) ∷ l) (map_zeros n)

pub zero_words : (slots : List (Option ℤ)) (len : ℕ) → IsZeros slots len → somes slots ≡ replicate len (pos 0)
zero_words slots len is = ap somes (is ∙ sym (map_zeros len)) ∙ somes-map (replicate len (pos 0))

pub zero_full : (slots : List (Option ℤ)) (len : ℕ) → IsZeros slots len → IsFullOf slots len (somes slots)
zero_full slots len is = record {
  are = is ∙ sym (map_zeros len) ∙ ap (map Some) (sym (zero_words slots len is));
  count = ap length (zero_words slots len is) ∙ length-replicate len (pos 0);
}
