-- Counters along the parts of an edge: each store to one fits, or the first that doesn't is met.
use Rattle.std.proofs.Common.{◌≡◌, ℕ, ◌⊎◌, inl, inr, ◌-◌, Bool, true, false, List, [], ◌∷◌, length, Option, Some, None, ℤ, pos, refl, sym, ap, subst, ◌∙◌}
use Rattle.std.specs.Prelude.{if◌then◌else◌, slice_set, ◌-ℤ◌}
use Rattle.dec_num.specs.declared.types.Mode.{Mode}
use Rattle.dec_num.specs.declared.types.Scaled.{Scaled}
use Rattle.cob_tree.specs.declared.fault.Kind.{Kind}
use Rattle.cob_data.specs.declared.layout.Layout.{Layout}
use Rattle.cob_data.specs.declared.layout.Sender.{Sender}
use Rattle.cob_program.specs.Sum.{Atom}
use Rattle.cob_program.specs.Act.{Program}
use Rattle.cob_runs.specs.Moves.{number_of}
use Rattle.cob_edge_parts.specs.Parts.{Amount, Part, read, unread, subscript, index, divide, store, bytes_in, guard, read_count, set_count, count_down, guard_count}
use Rattle.cob_edge_parts.specs.Meaning.{Moment, with_storage, with_own, with_failure, divided_by_zero, divides_by, is_left_alone, skipped, stored_bytes, stored_or_kept, ReadsAt, Divides, Stores, Passes, PassesAll, Meets}
use Rattle.cob_edge_parts.specs.Meaning as meaning
use Rattle.cob_edge_parts.specs.Counters.{IsCount, IsCounted, IsTooGreat, Misfits, PassesPart, PassesParts, MeetsAmong}
use Rattle.cob_edge_parts.proofs.Subscripts.{subscript_leaves, index_leaves}
use Rattle.graph_runs.proofs.Counting.{AreSmall, is_count, holds_set, length_set, small_set}

module _ (l : Layout) where
  -- ---- whether a store fits

  sent_or_not : (x : Sender) (m : Moment) (o : Option Scaled) → number_of l m.first x ≡ o →
      IsTooGreat l x m ⊎ ¬ IsTooGreat l x m
  sent_or_not x m None e = inr (λ t. let f = t.sent in absurd (cc))
  sent_or_not x m (Some v) e = by_size (is_count v.units)
    where
      by_size : IsCount v.units ⊎ ¬ IsCount v.units → IsTooGreat l x m ⊎ ¬ IsTooGreat l x m
      by_size (inl small) = inr (λ t.
          let same : v ≡ t.number = let f = t.sent in cc in
          t.misfits (subst (λ (u : Scaled). IsCount u.units) same small))
      by_size (inr great) = inl (record { number = v; sent = e; misfits = great })

  down_or_not : (n : ℤ) → (¬ IsCount n) ⊎ ¬ ¬ IsCount n
  down_or_not n = by_size (is_count n)
    where
      by_size : IsCount n ⊎ ¬ IsCount n → (¬ IsCount n) ⊎ ¬ ¬ IsCount n
      by_size (inl small) = inr (λ f. f small)
      by_size (inr great) = inl great

  pub misfits_or_not : (x : Part) (m : Moment) → Misfits l x m ⊎ ¬ Misfits l x m
  misfits_or_not (set_count statement x) m = sent_or_not x m (number_of l m.first x) refl
  misfits_or_not (count_down statement) m = down_or_not (m.own.units -ℤ pos 1)
  misfits_or_not (read place) m = inr (λ f. f)
  misfits_or_not unread m = inr (λ f. f)
  misfits_or_not (subscript last item) m = inr (λ f. f)
  misfits_or_not (index last item count) m = inr (λ f. f)
  misfits_or_not (divide a) m = inr (λ f. f)
  misfits_or_not (store place mode a) m = inr (λ f. f)
  misfits_or_not (bytes_in offset count) m = inr (λ f. f)
  misfits_or_not (guard t wanted) m = inr (λ f. f)
  misfits_or_not (read_count statement) m = inr (λ f. f)
  misfits_or_not (guard_count statement wanted) m = inr (λ f. f)

  -- ---- what a part does to counters

  -- it sets one to a number which fits unless the part misfits
  record Sets (x : Part) (m n : Moment) : Type 0 where
    place : ℕ
    number : ℤ
    sets : n.counts ≡ slice_set m.counts place (Some number)
    fits : ¬ Misfits l x m → IsCount number

  abbrev CountsGo : Part → Moment → Moment → Type 0
  CountsGo x m n = (n.counts ≡ m.counts) ⊎ Sets x m n

  small_unless : (n : ℤ) → ¬ ¬ IsCount n → IsCount n
  small_unless n f = by_size (is_count n)
    where
      by_size : IsCount n ⊎ ¬ IsCount n → IsCount n
      by_size (inl small) = small
      by_size (inr great) = absurd (f great)

  same_counts : (m n : Moment) → n ≡ m → n.counts ≡ m.counts
  same_counts m n e = ap (λ (k : Moment). k.counts) e

  read_counts : (b : Bool) (place : ℕ) (m n : Moment) → ReadsAt l b place m n → n.counts ≡ m.counts
  read_counts true place m n e = same_counts m n e
  read_counts false place m n (v, f, e) = same_counts (with_own m v) n e

  if_zero : (b : Bool) (m n : Moment) → n ≡ (if b then m else divided_by_zero m) → n.counts ≡ m.counts
  if_zero true m n e = same_counts m n e
  if_zero false m n e = same_counts (divided_by_zero m) n e

  divide_counts : (b : Bool) (a : Atom) (m n : Moment) → Divides l b a m n → n.counts ≡ m.counts
  divide_counts true a m n e = if_zero _ m n e
  divide_counts false a m n (f, e) = same_counts m n e

  if_kept : (o : Option (List ℕ)) (place : ℕ) (m n : Moment) → n ≡ stored_or_kept l m place o → n.counts ≡ m.counts
  if_kept None place m n e = same_counts (with_failure m) n e
  if_kept (Some bytes) place m n e = same_counts (with_storage m _) n e

  if_alone : (b : Bool) (o : Option (List ℕ)) (place : ℕ) (m n : Moment) →
      n ≡ (if b then m else stored_or_kept l m place o) → n.counts ≡ m.counts
  if_alone true o place m n e = same_counts m n e
  if_alone false o place m n e = if_kept o place m n e

  store_counts : (b : Bool) (place : ℕ) (mode : Mode) (a : Amount) (m n : Moment) → Stores l b place mode a m n →
      n.counts ≡ m.counts
  store_counts true place mode a m n e = if_alone _ _ place m n e
  store_counts false place mode a m n (held, f, e) = same_counts (with_storage m _) n e

  module _ (handled : Bool) where
    counts_go : (x : Part) (m n : Moment) → Passes l handled x m n → CountsGo x m n
    counts_go (read place) m n h = inl (read_counts m.by_zero place m n h)
    counts_go unread m n h = absurd h
    counts_go (subscript last item) m n h = inl (same_counts m n (subscript_leaves l (skipped last m) item m n h))
    counts_go (index last item count) m n h = inl (same_counts m n (index_leaves l (skipped last m) item count m n h))
    counts_go (divide a) m n h = inl (divide_counts handled a m n h)
    counts_go (store place mode a) m n h = inl (store_counts handled place mode a m n h)
    counts_go (bytes_in offset count) m n (change, e) = inl (same_counts (with_storage m _) n e)
    counts_go (guard t wanted) m n (f, e) = inl (same_counts m n e)
    counts_go (read_count statement) m n (v, f, e) = inl (same_counts (with_own m _) n e)
    counts_go (guard_count statement wanted) m n (v, f, h, e) = inl (same_counts m n e)
    counts_go (set_count statement x) m n (v, f, e) = inr (record {
      place = statement - 1;
      number = v.units;
      sets = same_counts (meaning.with_count m statement v.units) n e;
      fits = λ not_. small_unless v.units (λ great. not_ (record { number = v; sent = f; misfits = great }));
    })
    counts_go (count_down statement) m n e = inr (record {
      place = statement - 1;
      number = m.own.units -ℤ pos 1;
      sets = same_counts (meaning.with_count m statement (m.own.units -ℤ pos 1)) n e;
      fits = λ not_. small_unless (m.own.units -ℤ pos 1) not_;
    })

    part_counted : (p : Program) (x : Part) (m n : Moment) → PassesPart l handled x m n → IsCounted p m.counts →
        IsCounted p n.counts
    part_counted p x m n (passes, not_) is = by_counts (counts_go x m n passes)
      where
        by_counts : CountsGo x m n → IsCounted p n.counts
        by_counts (inl e) = subst (IsCounted p) (sym e) is
        by_counts (inr s) =
            subst (IsCounted p) (sym s.sets)
            (λ statement a its times. holds_set m.counts s.place s.number statement (s.fits not_)
            (is statement a its times))

    part_length : (x : Part) (m n : Moment) → PassesPart l handled x m n → length n.counts ≡ length m.counts
    part_length x m n (passes, not_) = by_counts (counts_go x m n passes)
      where
        by_counts : CountsGo x m n → length n.counts ≡ length m.counts
        by_counts (inl e) = ap length e
        by_counts (inr s) = ap length s.sets ∙ length_set m.counts s.place s.number

    part_small : (x : Part) (m n : Moment) → PassesPart l handled x m n → AreSmall m.counts → AreSmall n.counts
    part_small x m n (passes, not_) is = by_counts (counts_go x m n passes)
      where
        by_counts : CountsGo x m n → AreSmall n.counts
        by_counts (inl e) = subst AreSmall (sym e) is
        by_counts (inr s) = subst AreSmall (sym s.sets) (small_set m.counts s.place s.number is (s.fits not_))

    -- ---- along an edge

    -- a store to a counter doesn't fit, behind parts that are passed
    abbrev pub MisfitsAmong : List Part → Moment → Type 0
    MisfitsAmong [] m = ⊥
    MisfitsAmong (x ∷ xs) m = Misfits l x m ⊎ ((next : Moment) × PassesPart l handled x m next × MisfitsAmong xs next)

    pub edge_small : (xs : List Part) (m n : Moment) → PassesParts l handled xs m n → AreSmall m.counts →
        AreSmall n.counts
    edge_small [] m n e is = subst (λ (k : Moment). AreSmall k.counts) (sym e) is
    edge_small (x ∷ xs) m n (next, pass, rest) is = edge_small xs next n rest (part_small x m next pass is)

    pub edge_counted : (p : Program) (xs : List Part) (m n : Moment) → PassesParts l handled xs m n →
        IsCounted p m.counts → IsCounted p n.counts
    edge_counted p [] m n e is = subst (λ (k : Moment). IsCounted p k.counts) (sym e) is
    edge_counted p (x ∷ xs) m n (next, pass, rest) is =
        edge_counted p xs next n rest (part_counted p x m next pass is)

    pub edge_length : (xs : List Part) (m n : Moment) → PassesParts l handled xs m n → length n.counts ≡ length m.counts
    edge_length [] m n e = ap (λ (k : Moment). length k.counts) e
    edge_length (x ∷ xs) m n (next, pass, rest) = edge_length xs next n rest ∙ part_length x m next pass

    -- parts that are passed fit, or one of them doesn't
    pub fits_or_not : (xs : List Part) (m n : Moment) → PassesAll l handled xs m n →
        PassesParts l handled xs m n ⊎ MisfitsAmong xs m
    fits_or_not [] m n e = inl e
    fits_or_not (x ∷ xs) m n (next, pass, rest) = by_front (misfits_or_not x m) (fits_or_not xs next n rest)
      where
        behind : ¬ Misfits l x m → PassesParts l handled xs next n ⊎ MisfitsAmong xs next →
            PassesParts l handled (x ∷ xs) m n ⊎ MisfitsAmong (x ∷ xs) m
        behind not_ (inl way) = inl (next, (pass, not_), way)
        behind not_ (inr misfits) = inr (inr (next, (pass, not_), misfits))

        by_front : Misfits l x m ⊎ ¬ Misfits l x m →
            PassesParts l handled xs next n ⊎ MisfitsAmong xs next →
            PassesParts l handled (x ∷ xs) m n ⊎ MisfitsAmong (x ∷ xs) m
        by_front (inl misfits) later = inr (inl misfits)
        by_front (inr not_) later = behind not_ later

    -- a fault is met behind parts that fit, or one of these doesn't
    pub meets_or_not : (xs : List Part) (m : Moment) (fault : Kind) → Meets l handled xs m fault →
        MeetsAmong l handled xs m fault ⊎ MisfitsAmong xs m
    meets_or_not [] m fault h = absurd h
    meets_or_not (x ∷ xs) m fault (inl f) = inl (inl (inl f))
    meets_or_not (x ∷ xs) m fault (inr (next, pass, rest)) =
        by_front (misfits_or_not x m) (meets_or_not xs next fault rest)
      where
        behind : ¬ Misfits l x m → MeetsAmong l handled xs next fault ⊎ MisfitsAmong xs next →
            MeetsAmong l handled (x ∷ xs) m fault ⊎ MisfitsAmong (x ∷ xs) m
        behind not_ (inl meets) = inl (inr (next, (pass, not_), meets))
        behind not_ (inr misfits) = inr (inr (next, (pass, not_), misfits))

        by_front : Misfits l x m ⊎ ¬ Misfits l x m →
            MeetsAmong l handled xs next fault ⊎ MisfitsAmong xs next →
            MeetsAmong l handled (x ∷ xs) m fault ⊎ MisfitsAmong (x ∷ xs) m
        by_front (inl misfits) later = inr (inl misfits)
        by_front (inr not_) later = behind not_ later
