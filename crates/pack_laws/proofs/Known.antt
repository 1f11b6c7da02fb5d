-- What is known of cells, put into a matrix.
use Rattle.std.proofs.Common.{◌≢◌, ℕ, zero, suc, ◌+◌, List, ℤ, pos, neg_ℤ, ◌*ℤ◌, Option, Some, None, refl, sym, subst, arith}
use Rattle.std.specs.Prelude.{slice_get}
use Rattle.std.specs.Option.{option_map}
use Rattle.std.proofs.lemmas.Int.{ints}
use Rattle.dec_num.proofs.Signed.{neg_ℤ_times}
use Rattle.interval_domain.proofs.IntervalEnds.{min_is_one, times_grows}
use Rattle.cob_data.specs.declared.layout.Layout.{Layout}
use Rattle.cob_program.specs.Values.{◌>>=◌}
use Rattle.dom_laws.specs.Meaning.{Storage}
use Rattle.diff_bounds.specs.Matrix.{word, IsBound}
use Rattle.diff_bounds.specs.Storages.{value_at, DifferBy, StandsIn}
use Rattle.interval_domain.specs.Known.{Known}
use Rattle.cob_graph.specs.declared.homes.Home.{Home}
use Rattle.cell_steps.specs.Storages as cells
use Rattle.cell_steps.specs.Storages.{known_of, KnownStands}
use Rattle.diff_steps.specs.Packs.{Pack, size_of, unit_of, cells_in, PackStands}
use Rattle.diff_steps.specs.Matrices.{with_words, high_word, low_word, put_high, put_low, put_word}
use Rattle.pack_laws.proofs.Words.{word_at}

-- a cell's value in the pack's unit
abbrev in_unit : ℕ → Option ℤ → Option ℤ
in_unit unit v = option_map (λ z. z *ℤ pos unit) v

high_differs : (unit : ℕ) (known : Known) (x : ℤ) (v : Option ℤ) → KnownStands known v → (IsBound x → DifferBy x (in_unit unit v) (Some (pos 0))) → IsBound (high_word unit known x) → DifferBy (high_word unit known x) (in_unit unit v) (Some (pos 0))
high_differs unit None x v is old = old
high_differs unit (Some i) x None is old = absurd is
high_differs unit (Some i) x (Some z) is old =
    min_is_one (λ (c : ℤ). IsBound c → DifferBy c (Some (z *ℤ pos unit)) (Some (pos 0))) x (i.high *ℤ pos unit) old
    (λ b. let more = times_grows z i.high unit is.1 in omega (arith, ints, more))

low_differs : (unit : ℕ) (known : Known) (x : ℤ) (v : Option ℤ) → KnownStands known v → (IsBound x → DifferBy x (Some (pos 0)) (in_unit unit v)) → IsBound (low_word unit known x) → DifferBy (low_word unit known x) (Some (pos 0)) (in_unit unit v)
low_differs unit None x v is old = old
low_differs unit (Some i) x None is old = absurd is
low_differs unit (Some i) x (Some z) is old =
    min_is_one (λ (c : ℤ). IsBound c → DifferBy c (Some (pos 0)) (Some (z *ℤ pos unit))) x (neg_ℤ i.low *ℤ pos unit) old
    (λ b. let more = times_grows i.low z unit is.0 in let e = neg_ℤ_times i.low unit in omega (arith, ints, more, e))

module _ (l : Layout) (homes : List Home) (known : List Known) (pack : Pack) (s : Storage) (is : (h : Home) → KnownStands (known_of homes known h) (cells.value_at l s h 0)) where
  high_put : (o : Option Home) (x : ℤ) → (IsBound x → DifferBy x (o >>= λ h. in_unit (unit_of l pack h) (cells.value_at l s h 0)) (Some (pos 0))) → IsBound (put_high l homes known pack o x) → DifferBy (put_high l homes known pack o x) (o >>= λ h. in_unit (unit_of l pack h) (cells.value_at l s h 0)) (Some (pos 0))
  high_put None x old = old
  high_put (Some h) x old = high_differs (unit_of l pack h) (known_of homes known h) x (cells.value_at l s h 0) (is h) old

  low_put : (o : Option Home) (x : ℤ) → (IsBound x → DifferBy x (Some (pos 0)) (o >>= λ h. in_unit (unit_of l pack h) (cells.value_at l s h 0))) → IsBound (put_low l homes known pack o x) → DifferBy (put_low l homes known pack o x) (Some (pos 0)) (o >>= λ h. in_unit (unit_of l pack h) (cells.value_at l s h 0))
  low_put None x old = old
  low_put (Some h) x old = low_differs (unit_of l pack h) (known_of homes known h) x (cells.value_at l s h 0) (is h) old

  word_differs : (w : ℕ → ℕ → ℤ) (i j : ℕ) → i ≢ j → (IsBound (w i j) → DifferBy (w i j) (value_at (cells_in l pack s) i) (value_at (cells_in l pack s) j)) → IsBound (put_word l homes known pack w i j) → DifferBy (put_word l homes known pack w i j) (value_at (cells_in l pack s) i) (value_at (cells_in l pack s) j)
  word_differs w zero zero ne old = absurd (ne refl)
  word_differs w zero (suc k) ne old = low_put (slice_get pack k) (w zero (suc k)) old
  word_differs w (suc k) zero ne old = high_put (slice_get pack k) (w (suc k) zero) old
  word_differs w (suc j) (suc k) ne old = old

  pub known_stands : (m : List ℤ) → PackStands l pack m s → StandsIn (size_of pack + 1) (word (size_of pack + 1) (with_words (size_of pack) (put_word l homes known pack (word (size_of pack + 1) m)))) (cells_in l pack s)
  known_stands m stands = record {
    bounded = λ i j h g ne.
        subst (λ (c : ℤ). IsBound c → DifferBy c (value_at (cells_in l pack s) i) (value_at (cells_in l pack s) j))
        (sym (word_at (size_of pack) (put_word l homes known pack (word (size_of pack + 1) m)) i j h g))
        (word_differs (word (size_of pack + 1) m) i j ne (stands.bounded i j h g ne));
  }
