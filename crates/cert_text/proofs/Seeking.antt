-- The first gap of cells, from one of them on.
use Rattle.std.proofs.Common.{◌≡◌, ℕ, zero, suc, ◌-◌, ◌<◌, ◌≤◌, List, [], ◌∷◌, ◌++◌, length, drop, slice_get, Option, Some, None, Bool, true, false, is_some, ◌==◌, refl, sym, ap, ◌∙◌, subst, arith}
use Rattle.interval_domain.specs.Known.{Known}
use Rattle.interval_domain.specs.Rows.{known_at}
use Rattle.cert_text.specs.declared.cert.Claim.{Claim}
use Rattle.cert_text.specs.declared.gap.Gap.{Gap}
use Rattle.cert_text.specs.Claims.{claim_at, claims_behind, written_from}
use Rattle.cert_text.specs.Gaps.{AreSmall, AreSmallClaims, IsSmall, cell_gaps, gaps_from}
use Rattle.std.specs.Prelude.{IfSome, if◌then◌else◌}
use Rattle.interval_domain.specs.Corners.{interval}

-- the first of a list of gaps
abbrev pub first : List Gap → Option Gap
first gaps = slice_get gaps 0

module _ (reached : List Known) (claims : List Claim) (cells : ℕ) where
  -- The first cells have no gap, and the claims that are left are those behind them.
  abbrev pub IsSoughtTo : ℕ → List Claim → Type 0
  IsSoughtTo k rest =
      first (gaps_from 1 reached (written_from 1 cells claims)) ≡ first (gaps_from (suc k) (drop k reached) (written_from (suc k) (cells - k) rest))

  drop_one : (cs : List Known) (k : ℕ) → k < length cs → drop k cs ≡ known_at cs k ∷ drop (suc k) cs
  drop_one [] k l = absurd (omega (arith, l))
  drop_one (c ∷ cs) zero l = refl
  drop_one (c ∷ cs) (suc k) l = drop_one cs k (omega (arith, l))

  one_cell : (k : ℕ) (rest : List Claim) → k < length reached → k < cells
      → gaps_from (suc k) (drop k reached) (written_from (suc k) (cells - k) rest)
      ≡ cell_gaps (suc k) (known_at reached k) (claim_at rest (suc k)) ++ gaps_from (suc (suc k)) (drop (suc k) reached) (written_from (suc (suc k)) (cells - suc k) (claims_behind rest (suc k)))
  one_cell k rest l m =
      let n : cells - k ≡ suc (cells - suc k) = omega (arith, m) in
      ap (λ cs. gaps_from (suc k) cs (written_from (suc k) (cells - k) rest)) (drop_one reached k l)
      ∙ ap (λ i. gaps_from (suc k) (known_at reached k ∷ drop (suc k) reached) (written_from (suc k) i rest)) n

  first_some : (a b : List Gap) (gap : Gap) → first a ≡ Some gap → first (a ++ b) ≡ Some gap
  first_some [] b gap e = absurd (cc e)
  first_some (x ∷ a) b gap e = e

  first_none : (a b : List Gap) → first a ≡ None → first (a ++ b) ≡ first b
  first_none [] b e = refl
  first_none (x ∷ a) b e = absurd (cc e)

  pub found : (k : ℕ) (rest : List Claim) (gap : Gap) → IsSoughtTo k rest → k < length reached → k < cells
      → Some gap ≡ first (cell_gaps (suc k) (known_at reached k) (claim_at rest (suc k)))
      → Some gap ≡ first (gaps_from 1 reached (written_from 1 cells claims))
  found k rest gap sought l m e =
      sym (sought ∙ ap first (one_cell k rest l m) ∙ first_some (cell_gaps (suc k) (known_at reached k) (claim_at rest (suc k))) _ gap (sym e))

  pub passed : (k : ℕ) (rest : List Claim) → IsSoughtTo k rest → k < length reached → k < cells
      → None ≡ first (cell_gaps (suc k) (known_at reached k) (claim_at rest (suc k)))
      → IsSoughtTo (suc k) (claims_behind rest (suc k))
  passed k rest sought l m e =
      sought ∙ ap first (one_cell k rest l m) ∙ first_none (cell_gaps (suc k) (known_at reached k) (claim_at rest (suc k))) _ (sym e)

  -- the law of a gap that is found, with the next number as a variable
  pub found_there : (k j : ℕ) (rest : List Claim) (gap : Option Gap) → j ≡ suc k → IsSoughtTo k rest → k < length reached → k < cells
      → gap ≡ first (cell_gaps j (known_at reached k) (claim_at rest j)) → is_some gap ≡ true
      → gap ≡ first (gaps_from 1 reached (written_from 1 cells claims))
  found_there k j rest None f sought l m e is = absurd (cc is)
  found_there k j rest (Some gap) f sought l m e is =
      found k rest gap sought l m (subst (λ i. Some gap ≡ first (cell_gaps i (known_at reached k) (claim_at rest i))) f e)

  pub passed_on : (k j : ℕ) (rest behind : List Claim) (gap : Option Gap) → j ≡ suc k → IsSoughtTo k rest → k < length reached → k < cells
      → gap ≡ first (cell_gaps j (known_at reached k) (claim_at rest j)) → is_some gap ≡ false → behind ≡ claims_behind rest j
      → IsSoughtTo j behind
  passed_on k j rest behind (Some gap) f sought l m e is left_is = absurd (cc is)
  passed_on k j rest behind None f sought l m e is left_is =
      let there = passed k rest sought l m (subst (λ i. None ≡ first (cell_gaps i (known_at reached k) (claim_at rest i))) f e) in
      subst (IsSoughtTo j) (sym left_is) (subst (λ i. IsSoughtTo i (claims_behind rest i)) (sym f) there)

  drop_all : (cs : List Known) (k : ℕ) → length cs ≤ k → drop k cs ≡ []
  drop_all [] zero l = refl
  drop_all [] (suc k) l = refl
  drop_all (c ∷ cs) zero l = absurd (omega (arith, l))
  drop_all (c ∷ cs) (suc k) l = drop_all cs k (omega (arith, l))

  pub none_found : (k : ℕ) (rest : List Claim) → IsSoughtTo k rest → length reached ≤ k
      → None ≡ first (gaps_from 1 reached (written_from 1 cells claims))
  none_found k rest sought l =
      sym (sought ∙ ap (λ cs. first (gaps_from (suc k) cs (written_from (suc k) (cells - k) rest))) (drop_all reached k l))

pub small_at : (cs : List Known) (k : ℕ) → AreSmall cs → k < length cs → IfSome (known_at cs k) IsSmall
small_at [] k h l = absurd (omega (arith, l))
small_at (c ∷ cs) zero h l = h.0
small_at (c ∷ cs) (suc k) h l = small_at cs k h.1 (omega (arith, l))

small_first : (claims : List Claim) (cell : ℕ) → AreSmallClaims claims → IfSome (claim_at claims cell) IsSmall
small_first [] cell h = tt
small_first (c ∷ claims) cell h = by_test (c.cell == cell)
  where
    by_test : (x : Bool) → IfSome (if x then Some (interval c.low c.high) else None) IsSmall
    by_test true = h.0
    by_test false = tt

pub small_claim : (claims : List Claim) (next cell : ℕ) → AreSmallClaims claims → IfSome (claim_at (drop next claims) cell) IsSmall
small_claim [] zero cell h = tt
small_claim [] (suc next) cell h = tt
small_claim (c ∷ claims) zero cell h = small_first (c ∷ claims) cell h
small_claim (c ∷ claims) (suc next) cell h = small_claim claims next cell h.1
