-- Changes of a pack's matrix.
use Rattle.std.specs.Prelude.{ℕ, zero, suc, ◌+◌, ◌/◌, ◌%◌, nat_eq, ◌||◌, if◌then◌else◌, List, ℤ, pos, neg_ℤ, ◌*ℤ◌, slice_get, Option, Some, None}
use Rattle.std.specs.Int.{int_min}
use Rattle.cob_data.specs.declared.layout.Layout.{Layout}
use Rattle.diff_bounds.specs.declared.form.lin.Lin.{Lin}
use Rattle.diff_bounds.specs.Matrix.{word, none}
use Rattle.diff_bounds.specs.Lattice.{matrix_of, bottom_word}
use Rattle.diff_bounds.specs.Closed.{closed}
use Rattle.diff_bounds.specs.Numbers.{word_of}
use Rattle.diff_bounds.specs.Upper.{coef_at}
use Rattle.diff_bounds.specs.Assigned.{upper_less, less_upper}
use Rattle.diff_bounds.specs.Demanded.{lowered}
use Rattle.interval_domain.specs.Known.{Known}
use Rattle.cob_graph.specs.declared.homes.Home.{Home}
use Rattle.cell_steps.specs.Storages.{known_of}
use Rattle.diff_steps.specs.Packs.{Pack, size_of, unit_of}

-- the matrix with these words, by row and column
abbrev pub with_words : ℕ → (ℕ → ℕ → ℤ) → List ℤ
with_words size w = matrix_of size (λ k. w (k / (size + 1)) (k % (size + 1)))

-- no storage stands in it
abbrev pub bottom : ℕ → List ℤ
bottom size = matrix_of size (bottom_word size)

-- the lesser words
abbrev pub lesser : ℕ → List ℤ → List ℤ → List ℤ
lesser size a b = with_words size (λ i j. int_min (word (size + 1) a i j) (word (size + 1) b i j))

-- ---- what is known of the cells

-- a word lowered to what an interval says of a cell, in the pack's unit
abbrev pub high_word : ℕ → Known → ℤ → ℤ
high_word unit None x = x
high_word unit (Some i) x = int_min x (i.high *ℤ pos unit)

abbrev pub low_word : ℕ → Known → ℤ → ℤ
low_word unit None x = x
low_word unit (Some i) x = int_min x (neg_ℤ i.low *ℤ pos unit)

module _ (l : Layout) (homes : List Home) (known : List Known) (pack : Pack) where
  abbrev pub put_high : Option Home → ℤ → ℤ
  put_high None x = x
  put_high (Some h) x = high_word (unit_of l pack h) (known_of homes known h) x

  abbrev pub put_low : Option Home → ℤ → ℤ
  put_low None x = x
  put_low (Some h) x = low_word (unit_of l pack h) (known_of homes known h) x

  -- the words of the first column are lowered by the high ends of the cells, and those of the first row by the low ends
  abbrev pub put_word : (ℕ → ℕ → ℤ) → ℕ → ℕ → ℤ
  put_word w zero zero = w zero zero
  put_word w zero (suc k) = put_low (slice_get pack k) (w zero (suc k))
  put_word w (suc k) zero = put_high (slice_get pack k) (w (suc k) zero)
  put_word w (suc j) (suc k) = w (suc j) (suc k)

  -- Closed behind it; nothing where a cycle is negative.
  abbrev pub put_closed : List ℤ → Option (List ℤ)
  put_closed m = closed (size_of pack) (with_words (size_of pack) (put_word (word (size_of pack + 1) m)))

-- ---- what a part does

-- no word says anything of a place
abbrev pub forgotten : ℕ → ℕ → List ℤ → List ℤ
forgotten size to m = with_words size (λ i j.
    if nat_eq i j then word (size + 1) m i j
    else (if nat_eq i to || nat_eq j to then none else word (size + 1) m i j))

-- the words of the place are bounds of a form over the matrix as it was
abbrev pub assigned : ℕ → ℕ → Lin → List ℤ → List ℤ
assigned size to form m = with_words size (λ i j.
    if nat_eq i j then word (size + 1) m i j
    else (if nat_eq i to then word_of (upper_less (word (size + 1) m) j (coef_at form.coefs) form.constant.high size)
    else (if nat_eq j to then word_of (less_upper (word (size + 1) m) i (coef_at form.coefs) form.constant.low size)
    else word (size + 1) m i j)))

-- each word is lowered by what it is at most where the form is at most 0
abbrev pub demanded : ℕ → Lin → List ℤ → List ℤ
demanded size form m = with_words size (lowered (word (size + 1) m) (coef_at form.coefs) form.constant.low size)
