-- Rows of claims, cell by cell.
use Rattle.std.proofs.Common.{◌≡◌, ℕ, zero, suc, ◌+◌, ◌-◌, ◌*◌, ◌<◌, ◌≤◌, List, [], ◌∷◌, ◌++◌, length, take, drop, replicate, get_or, slice_get, slice_set, Some, None, ℤ, pos, ◌==◌, Bool, true, false, refl, sym, ap, ◌∙◌, subst, arith}
use Rattle.std.proofs.lemmas.List.{take_all, length-set}
use Rattle.std.proofs.lemmas.Option.{same_Some}
use Rattle.std.proofs.lemmas.Bool.{eqb-true, eq-eqb}
use Rattle.interval_domain.specs.declared.bounds.Interval.{Interval}
use Rattle.interval_domain.specs.Corners.{interval}
use Rattle.interval_domain.specs.Known.{Known}
use Rattle.interval_domain.specs.Elements.{Element}
use Rattle.interval_domain.specs.Rows.{IsReached, cells_in, cells_of, words_in}
use Rattle.cert_text.specs.declared.cert.Claim.{Claim}
use Rattle.cert_text.specs.Claims.{claim_at, claims_behind, written_from, met_known, with_cell, met_cells}

-- ---- zeros

zero_words : (n : ℕ) → (words_in (cells_in (replicate (2 * n) (pos 0))) ≡ replicate (2 * n) (pos 0)) × (length (cells_in (replicate (2 * n) (pos 0))) ≡ n)
zero_words zero = (refl, refl)
zero_words (suc n) =
    let e : 2 * suc n ≡ suc (suc (2 * n)) = omega arith in
    let more = zero_words n in
    rw e (ap (λ ws. pos 0 ∷ pos 0 ∷ ws) more.0, ap suc more.1)

first_set : (n : ℕ) (row : List ℤ) → row ≡ slice_set (replicate (2 * n + 1) (pos 0)) 0 (pos 1) → row ≡ pos 1 ∷ replicate (2 * n) (pos 0)
first_set n row e = let f : 2 * n + 1 ≡ suc (2 * n) = omega arith in rw f at e

pub reached_row : (n : ℕ) (row : List ℤ) → row ≡ slice_set (replicate (2 * n + 1) (pos 0)) 0 (pos 1) → IsReached row
reached_row n row e =
    let f = first_set n row e in
    subst IsReached (sym f) (ap (λ ws. pos 1 ∷ ws) (sym (zero_words n).0))

pub reached_cells : (n : ℕ) (row : List ℤ) → row ≡ slice_set (replicate (2 * n + 1) (pos 0)) 0 (pos 1) → length (cells_of row) ≡ n
reached_cells n row e = ap (λ r. length (cells_of r)) (first_set n row e) ∙ (zero_words n).1

-- ---- cells in front of others

abbrev pub in_front : List Known → Element → Element
in_front [] e = e
in_front (c ∷ cs) e = with_cell (Some c) (in_front cs e)

pub none_in_front : (cs : List Known) → in_front cs None ≡ None
none_in_front [] = refl
none_in_front (c ∷ cs) = ap (with_cell (Some c)) (none_in_front cs)

pub all_in_front : (cs : List Known) → in_front cs (Some []) ≡ Some cs
all_in_front [] = refl
all_in_front (c ∷ cs) = ap (with_cell (Some c)) (all_in_front cs)

one_more : (cs : List Known) (c : Known) (e : Element) → in_front (cs ++ c ∷ []) e ≡ in_front cs (with_cell (Some c) e)
one_more [] c e = refl
one_more (d ∷ cs) c e = ap (with_cell (Some d)) (one_more cs c e)

-- one more cell is set behind the first ones
take_set : (cs : List Known) (k : ℕ) (c : Known) → k < length cs → take (suc k) (slice_set cs k c) ≡ take k cs ++ c ∷ []
take_set [] k c l = absurd (omega (arith, l))
take_set (d ∷ cs) zero c l = refl
take_set (d ∷ cs) (suc k) c l = ap (λ xs. d ∷ xs) (take_set cs k c (omega (arith, l)))

-- ---- a loop over the cells

module _ (owns : List Interval) (claims : List Claim) where
  -- what is left to be done behind the first cells
  abbrev pub left : ℕ → List Claim → Element
  left k rest = met_cells (drop k owns) (written_from (suc k) (length owns - k) rest)

  -- The first cells are done, and the claims that are left are those behind them.
  pub record IsDoneTo (k : ℕ) (cells : List Known) (rest : List Claim) : Type 0 where
    pub count : length cells ≡ length owns
    pub same : met_cells owns (written_from 1 (length owns) claims) ≡ in_front (take k cells) (left k rest)

  pub begun : (cells : List Known) → length cells ≡ length owns → IsDoneTo 0 cells claims
  begun cells l = record { count = l; same = ap (λ n. met_cells owns (written_from 1 n claims)) whole }
    where
      whole : length owns ≡ length owns - 0
      whole = omega arith

  drop_one : (os : List Interval) (k : ℕ) (d own : Interval) → k < length os → own ≡ get_or os k d → drop k os ≡ own ∷ drop (suc k) os
  drop_one [] k d own l e = absurd (omega (arith, l))
  drop_one (o ∷ os) zero d own l e = ap (λ x. x ∷ os) (sym e)
  drop_one (o ∷ os) (suc k) d own l e = drop_one os k d own (omega (arith, l)) e

  -- what is left is one cell and what is left behind it
  left_one : (k : ℕ) (rest : List Claim) (d own : Interval) → k < length owns → own ≡ get_or owns k d
      → left k rest ≡ with_cell (met_known own (claim_at rest (suc k))) (left (suc k) (claims_behind rest (suc k)))
  left_one k rest d own l e =
      let m : length owns - k ≡ suc (length owns - suc k) = omega (arith, l) in
      ap (λ os. met_cells os (written_from (suc k) (length owns - k) rest)) (drop_one owns k d own l e)
      ∙ ap (λ n. met_cells (own ∷ drop (suc k) owns) (written_from (suc k) n rest)) m

  pub ends_there : (k : ℕ) (cells : List Known) (rest : List Claim) (d own : Interval) → IsDoneTo k cells rest
      → k < length owns → own ≡ get_or owns k d → met_known own (claim_at rest (suc k)) ≡ None
      → met_cells owns (written_from 1 (length owns) claims) ≡ None
  ends_there k cells rest d own done l e none =
      done.same ∙ ap (in_front (take k cells)) (left_one k rest d own l e ∙ ap (λ o. with_cell o (left (suc k) (claims_behind rest (suc k)))) none)
      ∙ none_in_front (take k cells)

  pub goes_on : (k : ℕ) (cells : List Known) (rest : List Claim) (d own : Interval) (known : Known) → IsDoneTo k cells rest
      → k < length owns → own ≡ get_or owns k d → met_known own (claim_at rest (suc k)) ≡ Some known
      → IsDoneTo (suc k) (slice_set cells k known) (claims_behind rest (suc k))
  goes_on k cells rest d own known done l e some = record {
    count = length-set cells k known ∙ done.count;
    same =
        done.same ∙ ap (in_front (take k cells)) (left_one k rest d own l e ∙ ap (λ o. with_cell o (left (suc k) (claims_behind rest (suc k)))) some)
        ∙ sym (one_more (take k cells) known (left (suc k) (claims_behind rest (suc k))))
        ∙ ap (λ cs. in_front cs (left (suc k) (claims_behind rest (suc k)))) (sym (take_set cells k known (omega (arith, l, done.count))));
  }

  -- the law of one cell more, with the next number as a variable
  pub cannot_go_on : (k j : ℕ) (cells : List Known) (rest : List Claim) (d own : Interval) → j ≡ suc k → IsDoneTo k cells rest
      → k < length owns → own ≡ get_or owns k d → None ≡ met_known own (claim_at rest j)
      → met_cells owns (written_from 1 (length owns) claims) ≡ None
  cannot_go_on k j cells rest d own f done l e none =
      ends_there k cells rest d own done l e (sym (subst (λ i. None ≡ met_known own (claim_at rest i)) f none))

  pub next_done : (k j : ℕ) (cells : List Known) (rest behind : List Claim) (d own : Interval) (known : Known) → j ≡ suc k → IsDoneTo k cells rest
      → k < length owns → own ≡ get_or owns k d → Some known ≡ met_known own (claim_at rest j) → behind ≡ claims_behind rest j
      → IsDoneTo j (slice_set cells k known) behind
  next_done k j cells rest behind d own known f done l e some left_is =
      let some_there = sym (subst (λ i. Some known ≡ met_known own (claim_at rest i)) f some) in
      let there = goes_on k cells rest d own known done l e some_there in
      subst (λ r. IsDoneTo j (slice_set cells k known) r) (sym left_is)
      (subst (λ i. IsDoneTo i (slice_set cells k known) (claims_behind rest i)) (sym f) there)

  drop_all : (os : List Interval) (k : ℕ) → length os ≤ k → drop k os ≡ []
  drop_all [] zero l = refl
  drop_all [] (suc k) l = refl
  drop_all (o ∷ os) zero l = absurd (omega (arith, l))
  drop_all (o ∷ os) (suc k) l = drop_all os k (omega (arith, l))

  pub is_done : (k : ℕ) (cells : List Known) (rest : List Claim) → IsDoneTo k cells rest → k ≡ length owns
      → met_cells owns (written_from 1 (length owns) claims) ≡ Some cells
  is_done k cells rest done e =
      done.same ∙ ap (λ os. in_front (take k cells) (met_cells os (written_from (suc k) (length owns - k) rest))) (drop_all owns k (omega (arith, e)))
      ∙ all_in_front (take k cells)
      ∙ ap Some (take_all k cells (omega (arith, e, done.count)))

-- ---- the next claim

-- a claim of the cell is taken as the next one
pub claim_taken : (claims : List Claim) (next cell : ℕ) (c : Claim) → slice_get claims next ≡ Some c → c.cell ≡ cell
    → (claim_at (drop next claims) cell ≡ Some (interval c.low c.high)) × (claims_behind (drop next claims) cell ≡ drop (next + 1) claims)
claim_taken [] zero cell c e f = absurd (cc e)
claim_taken [] (suc next) cell c e f = absurd (cc e)
claim_taken (d ∷ claims) zero cell c e f =
    let same : d ≡ c = same_Some d c e in
    let t : (d.cell == cell) ≡ true = eq-eqb d.cell cell (ap (λ (x : Claim). x.cell) same ∙ f) in
    rw t (ap (λ (x : Claim). Some (interval x.low x.high)) same, refl)
claim_taken (d ∷ claims) (suc next) cell c e f =
    let w = claim_taken claims next cell c e f in
    let g : suc next + 1 ≡ suc (next + 1) = omega arith in
    rw g w

pub claim_left : (claims : List Claim) (next cell : ℕ) → ((c : Claim) → slice_get claims next ≡ Some c → c.cell ≡ cell → ⊥)
    → (claim_at (drop next claims) cell ≡ None) × (claims_behind (drop next claims) cell ≡ drop next claims)
claim_left [] zero cell none = (refl, refl)
claim_left [] (suc next) cell none = (refl, refl)
claim_left (c ∷ claims) zero cell none = by_test (c.cell == cell) refl
  where
    by_test : (x : Bool) → (c.cell == cell) ≡ x → (claim_at (c ∷ claims) cell ≡ None) × (claims_behind (c ∷ claims) cell ≡ c ∷ claims)
    by_test true e = absurd (none c refl (eqb-true _ _ e))
    by_test false e = rw e (refl, refl)
claim_left (c ∷ claims) (suc next) cell none = claim_left claims next cell none
