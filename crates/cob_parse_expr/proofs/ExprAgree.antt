-- With more room the answer of reading an expression is the same, unless there was too little.
use Rattle.std.proofs.Common.{◌≡◌, ℕ, zero, suc, ◌+◌, false, List, [], ◌∷◌, length, Option, Some, None, is_some, Err, refl, sym, subst, zero-add, arith}
use Rattle.cob_tree.specs.Symbols.{Sign}
use Rattle.cob_tree.specs.Cues.{Scales, Signs}
use Rattle.cob_tree.specs.Expr.{Expr}
use Rattle.reading.specs.Readers.{Reader, stands}
use Rattle.reading.specs.Law.{Agree, Agrees}
use Rattle.reading.proofs.Wider.{agree_same, agree_seen, agree_follow, agree_branch, agree_choose, agree_many, agree_closed, agree_full}
use Rattle.cob_parse_expr.specs.Classes.{open_of, close_of, sign_of, scaling_of}
use Rattle.cob_parse_expr.specs.Reading.{here, make_primary, primary_with, make_fact, fact_with, factors_with, make_term, term_with, summands_with, make_expr, expr_with, inside, expr_goes, group_at, expr_at, opnd_at}
use Rattle.cob_parse_expr.specs.Steps.{Lacks}
use Rattle.cob_parse_expr.proofs.StepLemmas.{group_lacks}

module _ {i j : Reader Sign Expr} (same : Agrees i j) where
  pub agree_primary : Agrees (primary_with i) (primary_with j)
  agree_primary = agree_seen make_primary _ _ (agree_choose (stands open_of) i j opnd_at opnd_at same (agree_same opnd_at))

  pub agree_fact : Agrees (fact_with i) (fact_with j)
  agree_fact = agree_seen make_fact _ _ (agree_choose (stands sign_of) _ _ _ _ (agree_branch sign_of _ _ (λ s. agree_primary)) agree_primary)

  pub agree_factors : Agrees (factors_with i) (factors_with j)
  agree_factors = agree_many (here Scales) _ _ (agree_branch scaling_of _ _ (λ s. agree_fact))

  pub agree_term : Agrees (term_with i) (term_with j)
  agree_term = agree_seen make_term _ _ (agree_follow _ _ _ _ agree_fact (λ f. agree_factors))

  pub agree_summands : Agrees (summands_with i) (summands_with j)
  agree_summands = agree_many (here Signs) _ _ (agree_branch sign_of _ _ (λ s. agree_term))

  pub agree_expr : Agrees (expr_with i) (expr_with j)
  agree_expr = agree_seen make_expr _ _ (agree_follow _ _ _ _ agree_term (λ t. agree_summands))

pub lacks : {K : Type 0} (class : Sign → Option K) (ts : List Sign) → stands class ts ≡ false → Lacks class ts
lacks class [] e = record { reads = refl; stands = refl }
lacks class (t ∷ ts) e = go (class t) refl e
  where
    go : (o : Option _) → class t ≡ o → is_some o ≡ false → Lacks class (t ∷ ts)
    go None eo e0 = record { reads = rw eo refl; stands = e }
    go (Some x) eo e0 = absurd cc

pub group_wider : (room more : ℕ) → Agrees (group_at room) (group_at (room + more))
unfolding group_at
group_wider zero more = subst (λ (x : ℕ). Agrees (group_at zero) (group_at x)) (sym (zero-add more)) (agree_full (stands open_of) (group_at more) (λ ts none. group_lacks more ts (length ts) (lacks open_of ts none) refl))
group_wider (suc room) more =
    let k : suc (room + more) ≡ suc room + more = omega arith in
    subst (λ (x : ℕ). Agrees (group_at (suc room)) (group_at x)) k
    (agree_seen inside _ _ (agree_branch open_of _ _ (λ x. agree_closed (expr_at room) (expr_at (room + more)) close_of expr_goes (agree_expr (group_wider room more)))))

pub expr_wider : (room more : ℕ) → Agrees (expr_at room) (expr_at (room + more))
expr_wider room more = agree_expr (group_wider room more)
