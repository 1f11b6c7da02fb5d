-- Counters of TIMES, and counters that stand for counts.
use Rattle.std.proofs.Common.{◌≡◌, ℕ, zero, suc, ◌<◌, ◌-◌, Bool, true, false, not, List, [], ◌∷◌, ◌++◌, length, ◌⊎◌, inl, inr, Option, Some, None, Ok, Err, ℤ, pos, negsuc, refl, sym, ap, subst, ◌∙◌, arith}
use Rattle.std.specs.Prelude.{if◌then◌else◌, is_some, slice_get, slice_set, ◌-ℤ◌}
use Rattle.std.specs.Option.{option_map_or}
use Rattle.std.proofs.lemmas.Bool.{false≢true}
use Rattle.dec_num.specs.declared.types.Scaled.{Scaled}
use Rattle.cob_tree.specs.declared.fault.Kind.TheVariants as kind
use Rattle.cob_data.specs.declared.layout.Layout.{Layout}
use Rattle.cob_data.specs.declared.layout.Sender.{Sender}
use Rattle.cob_program.specs.Values.{whole_number}
use Rattle.cob_program.specs.Act.{Program}
use Rattle.cob_runs.specs.Faults.{◌>>=◌, or_fault}
use Rattle.cob_runs.specs.Files.{Choice}
use Rattle.cob_runs.specs.Moves.{number_of}
use Rattle.cob_runs.specs.State.{World}
use Rattle.cob_runs.specs.Acts.{count_of, set_count, count_down}
use Rattle.cob_runs.specs.Acts as act
use Rattle.cob_runs.specs.Steps.{is_left}
use Rattle.cob_runs.specs.Effects.{Effect, edge_taken, taken_if, met}
use Rattle.cob_edge_parts.specs.Parts as part
use Rattle.cob_edge_parts.specs.Parts.{Part, number_reads}
use Rattle.cob_edge_parts.specs.Meaning.{Moment, beginning, count_in, is_positive, PassesAll, Meets}
use Rattle.cob_edge_parts.specs.Edges.{StandsForCount, StandFor}
use Rattle.cob_edge_parts.proofs.Passing.{fine_moment, passes_on, meets_front, ReadsSo, sender_read}
use Rattle.cob_edge_parts.proofs.Filing.{EdgeSo}

-- How counters may stand for counts.
abbrev pub Standing : Type 1
Standing = List (Option ℤ) → List (Option ℤ) → Type 0

-- an edge passes its parts and leaves counters that stand for the counts, isn't taken, or one of its parts meets its fault
abbrev pub CountsSo : Standing → Layout → List (Option ℤ) → Bool → List Part → World → Effect → Type 0
CountsSo Stand l counts handled xs w (Ok (Some v)) =
    (last : Moment) × PassesAll l handled xs (beginning w.storage counts) last × (last.storage ≡ v.storage)
    × Stand v.counts last.counts × (last.failed ≡ handled)
CountsSo Stand l counts handled xs w (Ok None) = Unit {0}
CountsSo Stand l counts handled xs w (Err fault) = Meets l handled xs (beginning w.storage counts) fault

module _ (Stand : Standing) (l : Layout) (counts : List (Option ℤ)) (w : World) where
  abbrev at : Scaled → Moment
  at own = fine_moment w.storage counts w.storage own false

  abbrev start : Scaled
  start = whole_number (pos 0)

  -- an edge that leaves the counters
  pub counters_stay : (handled : Bool) (xs : List Part) (r : Effect) → Stand w.counts counts →
      EdgeSo l counts handled xs w r → CountsSo Stand l counts handled xs w r
  counters_stay handled xs (Ok (Some v)) s h = (
    h.0,
    h.1,
    h.2,
    subst (λ (a : List (Option ℤ)). Stand a h.0.counts) (sym h.4)
        (subst (λ (b : List (Option ℤ)). Stand w.counts b) (sym h.3) s),
    h.5,
  )
  counters_stay handled xs (Ok None) s h = tt
  counters_stay handled xs (Err fault) s h = h

  -- ---- a counter is set

  set_by : (statement : ℕ) (x : Sender) (o : Option Scaled) → number_of l w.storage x ≡ o →
      ((n : ℤ) → Stand (slice_set w.counts (statement - 1) (Some n)) (slice_set counts (statement - 1) (Some n))) →
      ReadsSo l false w.storage counts w.storage false (number_reads x) start (is_some o) →
      CountsSo Stand l counts false (number_reads x ++ part.set_count statement x ∷ []) w
      (met (or_fault kind.Class o >>= λ n. Ok (act.with_count l statement n.units w)))
  set_by statement x (Some v) e s h = (
    moment_set,
    passes_on l false (number_reads x) (part.set_count statement x ∷ []) (at start) (at h.0) moment_set h.1
        (moment_set, (v, e, refl), refl),
    refl,
    s v.units,
    refl,
  )
    where
      moment_set : Moment
      moment_set = fine_moment w.storage (slice_set counts (statement - 1) (Some v.units)) w.storage h.0 false
  set_by statement x None e s h =
      meets_front l false (number_reads x) (part.set_count statement x ∷ []) (at start) kind.Class h

  pub set_edge : (statement : ℕ) (x : Sender) →
      ((n : ℤ) → Stand (slice_set w.counts (statement - 1) (Some n)) (slice_set counts (statement - 1) (Some n))) →
      CountsSo Stand l counts false (number_reads x ++ part.set_count statement x ∷ []) w (met
      (set_count l statement x w))
  set_edge statement x s =
      set_by statement x (number_of l w.storage x) refl s (sender_read l false w.storage counts w.storage false x start)

  -- ---- it goes down

  -- what stands for a count that is read: its number, or one that isn't above 0 where there is none
  abbrev pub StandsAt : ℕ → Type 0
  StandsAt statement = (n : ℤ) × (count_in counts statement ≡ Some n)
      × ((count_in w.counts statement ≡ Some n) ⊎ ((count_in w.counts statement ≡ None) × (is_positive n ≡ false)
      × Stand w.counts (slice_set counts (statement - 1) (Some (n -ℤ pos 1)))))

  down_on : (statement : ℕ) (n : ℤ) (v : World) → count_in counts statement ≡ Some n → v.storage ≡ w.storage →
      Stand v.counts (slice_set counts (statement - 1) (Some (n -ℤ pos 1))) →
      CountsSo Stand l counts false (part.read_count statement ∷ part.count_down statement ∷ []) w (edge_taken v)
  down_on statement n v e f s =
      (last, (at (whole_number n), (n, e, refl), (last, refl, refl)), sym f, s, refl)
    where
      last : Moment
      last = fine_moment w.storage (slice_set counts (statement - 1) (Some (n -ℤ pos 1))) w.storage
          (whole_number n) false

  down_by : (statement : ℕ) →
      ((n : ℤ) → Stand (slice_set w.counts (statement - 1) (Some n)) (slice_set counts (statement - 1) (Some n))) →
      (h : StandsAt statement) → (o : Option ℤ) → count_in w.counts statement ≡ o →
      CountsSo Stand l counts false (part.read_count statement ∷ part.count_down statement ∷ []) w
      (edge_taken (option_map_or (λ n. act.with_count l statement (n -ℤ pos 1) w) o w))
  down_by statement s h (Some v) e = down_on statement h.0 (act.with_count l statement (v -ℤ pos 1) w) h.1 refl
      (same h.2)
    where
      same : (count_in w.counts statement ≡ Some h.0) ⊎ ((count_in w.counts statement ≡ None) ×
          (is_positive h.0 ≡ false)
          × Stand w.counts (slice_set counts (statement - 1) (Some (h.0 -ℤ pos 1)))) →
          Stand (slice_set w.counts (statement - 1) (Some (v -ℤ pos 1))) (slice_set counts (statement - 1) (Some
          (h.0 -ℤ pos 1)))
      same (inl f) =
          let g : v ≡ h.0 = cc in
          subst (λ (n : ℤ). Stand (slice_set w.counts (statement - 1) (Some (v -ℤ pos 1))) (slice_set counts
          (statement - 1) (Some (n -ℤ pos 1)))) g
          (s (v -ℤ pos 1))
      same (inr f) = let g = f.0 in absurd (cc)
  down_by statement s h None e = down_on statement h.0 w h.1 refl (less h.2)
    where
      less : (count_in w.counts statement ≡ Some h.0) ⊎ ((count_in w.counts statement ≡ None) ×
          (is_positive h.0 ≡ false)
          × Stand w.counts (slice_set counts (statement - 1) (Some (h.0 -ℤ pos 1)))) →
          Stand w.counts (slice_set counts (statement - 1) (Some (h.0 -ℤ pos 1)))
      less (inl f) = absurd (cc)
      less (inr f) = f.2

  pub down_edge : (statement : ℕ) →
      ((n : ℤ) → Stand (slice_set w.counts (statement - 1) (Some n)) (slice_set counts (statement - 1) (Some n))) →
      StandsAt statement →
      CountsSo Stand l counts false (part.read_count statement ∷ part.count_down statement ∷ []) w (edge_taken
      (count_down l statement w))
  down_edge statement s h = down_by statement s h (count_in w.counts statement) refl

  -- ---- the test of TIMES

  counted_by : (statement : ℕ) (n : ℤ) (wanted b : Bool) → Stand w.counts counts → count_in counts statement ≡ Some n →
      is_positive n ≡ b →
      CountsSo Stand l counts false (part.read_count statement ∷ part.guard_count statement wanted ∷ []) w
      (taken_if (if wanted then b else not b) w)
  counted_by statement n true true s e f = (
    at (whole_number n),
    (
      at (whole_number n),
      (n, e, refl),
      (
        at (whole_number n),
        (n, e, f, refl),
        refl,
      ),
    ),
    refl,
    s,
    refl,
  )
  counted_by statement n true false s e f = tt
  counted_by statement n false true s e f = tt
  counted_by statement n false false s e f = (
    at (whole_number n),
    (
      at (whole_number n),
      (n, e, refl),
      (
        at (whole_number n),
        (n, e, f, refl),
        refl,
      ),
    ),
    refl,
    s,
    refl,
  )

  left_is : (n : ℤ) → is_positive n ≡ is_left (Some n)
  left_is (pos zero) = refl
  left_is (pos (suc n)) = refl
  left_is (negsuc n) = refl

  positive_is : (p : Program) (c : Choice) (statement : ℕ) (h : StandsAt statement) →
      is_positive h.0 ≡ is_left (count_in w.counts statement)
  positive_is p c statement h = by_cases h.2
    where
      by_cases : (count_in w.counts statement ≡ Some h.0) ⊎ ((count_in w.counts statement ≡ None) ×
          (is_positive h.0 ≡ false)
          × Stand w.counts (slice_set counts (statement - 1) (Some (h.0 -ℤ pos 1)))) →
          is_positive h.0 ≡ is_left (count_in w.counts statement)
      by_cases (inl f) = left_is h.0 ∙ ap is_left (sym f)
      by_cases (inr f) = f.1 ∙ ap is_left (sym f.0)

  pub left_edge : (p : Program) (c : Choice) (statement : ℕ) (wanted : Bool) → Stand w.counts counts →
      StandsAt statement →
      CountsSo Stand l counts false (part.read_count statement ∷ part.guard_count statement wanted ∷ []) w
      (taken_if (if wanted then is_left (count_of statement w) else not (is_left (count_of statement w))) w)
  left_edge p c statement wanted s h =
      counted_by statement h.0 wanted (is_left (count_in w.counts statement)) s h.1 (positive_is p c statement h)

-- ---- counters that stand for counts

pub stand_set : (as_ bs : List (Option ℤ)) (i : ℕ) (n : ℤ) → StandFor as_ bs →
    StandFor (slice_set as_ i (Some n)) (slice_set bs i (Some n))
stand_set [] [] i n h = h
stand_set [] (b ∷ bs) i n h = absurd h
stand_set (a ∷ as_) [] i n h = absurd h
stand_set (a ∷ as_) (b ∷ bs) zero n h = (refl, h.1)
stand_set (a ∷ as_) (b ∷ bs) (suc i) n h = (h.0, stand_set as_ bs i n h.1)

not_more : (n : ℤ) → is_positive n ≡ false → is_positive (n -ℤ pos 1) ≡ false
not_more (pos zero) e = refl
not_more (pos (suc n)) e = absurd (false≢true (sym e))
not_more (negsuc n) e = refl

abbrev count_at : List (Option ℤ) → ℕ → Option ℤ
count_at counts i = option_map_or (λ c. c) (slice_get counts i) None

-- what stands at a place
abbrev StandsIn : List (Option ℤ) → List (Option ℤ) → ℕ → Type 0
StandsIn as_ bs i = (n : ℤ) × (count_at bs i ≡ Some n)
    × ((count_at as_ i ≡ Some n) ⊎ ((count_at as_ i ≡ None) × (is_positive n ≡ false)
    × StandFor as_ (slice_set bs i (Some (n -ℤ pos 1)))))

stand_first : (a b : Option ℤ) (as_ bs : List (Option ℤ)) → StandsForCount a b → StandFor as_ bs →
    StandsIn (a ∷ as_) (b ∷ bs) zero
stand_first (Some n) b as_ bs h g = (n, h, inl refl)
stand_first None b as_ bs h g = (h.0, h.1, inr (refl, h.2, ((h.0 -ℤ pos 1, refl, not_more h.0 h.2), g)))

stand_next : (a b : Option ℤ) (as_ bs : List (Option ℤ)) (i : ℕ) → StandsForCount a b → StandsIn as_ bs i →
    StandsIn (a ∷ as_) (b ∷ bs) (suc i)
stand_next a b as_ bs i h g = (g.0, g.1, by_cases g.2)
  where
    by_cases : (count_at as_ i ≡ Some g.0) ⊎ ((count_at as_ i ≡ None) × (is_positive g.0 ≡ false)
        × StandFor as_ (slice_set bs i (Some (g.0 -ℤ pos 1)))) →
        (count_at as_ i ≡ Some g.0) ⊎ ((count_at as_ i ≡ None) × (is_positive g.0 ≡ false)
        × (StandsForCount a b × StandFor as_ (slice_set bs i (Some (g.0 -ℤ pos 1)))))
    by_cases (inl f) = inl f
    by_cases (inr f) = inr (f.0, f.1, (h, f.2))

pub stand_at : (as_ bs : List (Option ℤ)) (i : ℕ) → StandFor as_ bs → i < length as_ → StandsIn as_ bs i
stand_at [] bs i h k = absurd (omega arith)
stand_at (a ∷ as_) [] i h k = absurd h
stand_at (a ∷ as_) (b ∷ bs) zero h k = stand_first a b as_ bs h.0 h.1
stand_at (a ∷ as_) (b ∷ bs) (suc i) h k = stand_next a b as_ bs i h.0 (stand_at as_ bs i h.1 (omega arith))
