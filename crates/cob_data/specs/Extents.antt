-- The bytes of an item in all its occurrences (ISO 1989:1985, "OCCURS clause").
use Rattle.std.specs.Prelude.{◌≡◌, ◌<◌, ◌≤◌, ◌⊎◌, ℕ, zero, suc, ◌+◌, ◌*◌, nat_le, ◌||◌, not, Bool, false}
use Rattle.cob_data.specs.declared.extent.Extent.{Extent}

-- where an occurrence starts; they are numbered from 0
abbrev pub start_of : Extent → ℕ → ℕ
start_of e zero = e.offset
start_of e (suc n) = start_of e n + e.stride

-- Some number below a count passes the test.
abbrev pub any_below : ℕ → (ℕ → Bool) → Bool
any_below zero test = false
any_below (suc n) test = any_below n test || test n

-- ---- bytes in common

-- two ranges of bytes, each an offset and a length, have a byte in common; an empty one has, with what it lies within
abbrev pub share_bytes : ℕ → ℕ → ℕ → ℕ → Bool
share_bytes offset count from many = not (nat_le (from + many) offset || nat_le (offset + count) from)

-- two ranges have none in common
abbrev pub AreApart : ℕ → ℕ → ℕ → ℕ → Type 0
AreApart offset count from many = (from + many ≤ offset) ⊎ (offset + count ≤ from)

-- some occurrence has a byte of a range
abbrev pub meets_range : Extent → ℕ → ℕ → Bool
meets_range e offset count = any_below e.times (λ n. share_bytes offset count (start_of e n) e.length)

-- some occurrence of one has a byte of some occurrence of the other
abbrev pub share_extents : Extent → Extent → Bool
share_extents a b = any_below a.times (λ n. meets_range b (start_of a n) a.length)

-- no occurrence of one has a byte of an occurrence of the other
abbrev pub LieApart : Extent → Extent → Type 0
LieApart a b = (m n : ℕ) → m < a.times → n < b.times → AreApart (start_of a m) a.length (start_of b n) b.length

-- ---- what an extent is like

pub record IsExtent (e : Extent) : Type 0 where
  pub some : 1 ≤ e.times
  -- an occurrence ends before the next begins
  pub apart : (m n : ℕ) → m < n → n < e.times → start_of e m + e.length ≤ start_of e n

-- each occurrence lies within so many bytes
abbrev pub LiesWithin : Extent → ℕ → Type 0
LiesWithin e bytes = (n : ℕ) → n < e.times → start_of e n + e.length ≤ bytes

-- each occurrence lies between two places
abbrev pub LiesBetween : ℕ → ℕ → Extent → Type 0
LiesBetween from to e = (n : ℕ) → n < e.times → (from ≤ start_of e n) × (start_of e n + e.length ≤ to)

-- an item below a table: as many occurrences, as far apart, the first of them between two places
pub record IsColumn (times stride from to : ℕ) (e : Extent) : Type 0 where
  pub as_many : e.times ≡ times
  pub as_far : e.stride ≡ stride
  pub low : from ≤ e.offset
  pub high : e.offset + e.length ≤ to

-- ---- laws

-- Occurrences no longer than their stride lie apart.
abbrev pub StridesSetApart : Type 0
StridesSetApart = (e : Extent) → 1 ≤ e.times → (1 < e.times → e.length ≤ e.stride) → IsExtent e

-- A table's occurrences lie within what it takes.
abbrev pub TablesLieWithin : Type 0
TablesLieWithin =
    (e : Extent) (taken bytes : ℕ) → e.offset + taken ≤ bytes → e.times * e.stride ≤ taken → e.length ≤ e.stride →
    LiesWithin e bytes

-- Items below a table, one before the other within a stride, lie apart in all their occurrences.
abbrev pub ColumnsLieApart : Type 0
ColumnsLieApart =
    (times stride base middle to : ℕ) (e d : Extent) → to ≤ base + stride → IsColumn times stride base middle e →
    IsColumn times stride middle to d → LieApart e d

-- They lie in the block that the table takes,
abbrev pub ColumnsLieInBlocks : Type 0
ColumnsLieInBlocks =
    (times stride from : ℕ) (e : Extent) → IsColumn times stride from (from + stride) e →
    LiesBetween from (from + times * stride) e

-- and what lies in blocks behind each other lies apart.
abbrev pub BlocksLieApart : Type 0
BlocksLieApart = (from middle to : ℕ) (e d : Extent) → LiesBetween from middle e → LiesBetween middle to d → LieApart e d
