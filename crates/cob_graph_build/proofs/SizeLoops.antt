-- Sums that are cut at a bound, and steps of the loops over paragraphs.
use Rattle.std.proofs.Common.{ℕ, suc, ◌+◌, ◌-◌, ◌≡◌, ◌<◌, ◌&&◌, min, Bool, true, sym, ap, ◌∙◌, arith}
use Rattle.cob_program.specs.Act.{Program}
use Rattle.cob_program.specs.Statements.{list_statements}
use Rattle.cob_runs.specs.Steps.{body_at}
use Rattle.cob_graph_build.specs.Sizes.{stmts_size, range_size, all_fit, range_fits}

pub summed : (cap sum more n t left rest whole : ℕ) → more ≡ min (sum + n) cap → n ≡ min t cap → left ≡ t + rest →
    min (sum + left) cap ≡ whole → min (more + rest) cap ≡ whole
summed cap sum more n t left rest whole = λ a b c d. omega arith

module _ (g : ℕ → ℕ → ℕ) where
  range_size_at : (p : Program) (n from left : ℕ) → left ≡ suc n →
      range_size g p from left ≡ stmts_size g (body_at p from) + range_size g p (suc from) n
  range_size_at p n from left is = ap (range_size g p from) is

  pub range_size_step : (p : Program) (from end : ℕ) → from < end →
      range_size g p from (end - from) ≡ stmts_size g (body_at p from) + range_size g p (from + 1) (end - (from + 1))
  range_size_step p from end within = range_size_at p (end - (from + 1)) from (end - from) (omega arith)
      ∙ ap (λ n. stmts_size g (body_at p from) + range_size g p n (end - (from + 1))) (omega arith)

module _ (k : ℕ → ℕ → Bool) (lo hi : ℕ) where
  abbrev body_fits_at : Program → ℕ → Bool
  body_fits_at p place = all_fit k lo hi (list_statements (body_at p place))

  range_fits_at : (p : Program) (n from left : ℕ) → left ≡ suc n →
      range_fits k lo hi p from left ≡ (body_fits_at p from && range_fits k lo hi p (suc from) n)
  range_fits_at p n from left is = ap (range_fits k lo hi p from) is

  pub range_fits_step : (p : Program) (from end : ℕ) → from < end →
      range_fits k lo hi p from (end - from)
      ≡ (body_fits_at p from && range_fits k lo hi p (from + 1) (end - (from + 1)))
  range_fits_step p from end within = range_fits_at p (end - (from + 1)) from (end - from) (omega arith)
      ∙ ap (λ n. body_fits_at p from && range_fits k lo hi p n (end - (from + 1))) (omega arith)

-- a test of what stands first and what is left
pub accepted : (here : Bool) (left rest whole : Bool) → here ≡ true → left ≡ (here && rest) → left ≡ whole → rest ≡ whole
accepted here left rest whole yes_ cut same = sym (cut ∙ ap (λ b. b && rest) yes_) ∙ same
