-- What the nodes show, after a row of their own was made or written.
use Rattle.std.proofs.Common.{◌≡◌, ℕ, ◌-◌, ◌<◌, ◌≤◌, List, [], ℤ, length, drop, get_or, slice_set, Some, None, ap, sym, ◌∙◌, arith, get_or-set_same}
use Rattle.std.specs.Prelude.{IsSome, Option}
use Rattle.std.proofs.lemmas.List.{length-map, get_or-map, take_at}
use Rattle.block_store.specs.BlocksLends.{words_at}
use Rattle.widen_solver.specs.Stored.{row_at}
use Rattle.widen_solver.specs.RowsHeld.{RowsHeld, shown, row_shown, shown_rows, with_own}
use Rattle.widen_solver.specs.RowLends.{own_rewritten, transfer_rewritten}
use Rattle.widen_solver.proofs.Lists.{map_set, set_same}

pub shown_count : (h : RowsHeld) → length (shown_rows h) ≡ length h.rows
shown_count h = length-map h.rows (shown h.bottom)

pub shown_get : (h : RowsHeld) (k : ℕ) → k < length h.rows → get_or (shown_rows h) k [] ≡ row_shown h k
shown_get h k less = get_or-map (shown h.bottom) h.rows k None [] less

-- a node's row, as it is read
pub shown_at : (h : RowsHeld) (node from : ℕ) → from ≡ node → 1 ≤ node → node ≤ length h.rows → row_shown h (from - 1) ≡ row_at (shown_rows h) node
shown_at h node from is first last = ap (λ n. row_shown h (n - 1)) is ∙ sym (shown_get h (node - 1) (omega (arith, first, last)))

pub own_set : (h : RowsHeld) (k : ℕ) (row : List ℤ) → shown_rows (with_own h k (Some row)) ≡ slice_set (shown_rows h) k row
own_set h k row = map_set (shown h.bottom) h.rows k (Some row)

-- a row of its own shows nothing else
pub reached_same : (h : RowsHeld) (k : ℕ) → k < length h.rows → shown_rows (with_own h k (Some (row_shown h k))) ≡ shown_rows h
reached_same h k less = own_set h k (row_shown h k) ∙ set_same (shown_rows h) k (row_shown h k) [] (shown_get h k less)

pub rewritten_own : (h : RowsHeld) (k : ℕ) (ws : List ℤ) → length ws ≡ h.words → own_rewritten h k ws ≡ ws
rewritten_own h k ws wide = take_at ws (drop (length ws) (words_at (get_or h.rows k None))) h.words wide

pub rewritten_transfer : (h : RowsHeld) (ws : List ℤ) → length ws ≡ h.words → transfer_rewritten h ws ≡ ws
rewritten_transfer h ws wide = take_at ws (drop (length ws) (words_at h.transfer)) h.words wide

pub own_is_some : (h new : RowsHeld) (k : ℕ) (row : List ℤ) → new ≡ with_own h k (Some row) → k < length h.rows → get_or new.rows k None ≡ Some row
own_is_some h new k row is less = ap (λ (x : RowsHeld). get_or x.rows k None) is ∙ get_or-set_same h.rows k (Some row) None less

pub some_of : (b : Option (List ℤ)) (row : List ℤ) → b ≡ Some row → IsSome b
some_of None row e = absurd (cc)
some_of (Some r) row e = search
