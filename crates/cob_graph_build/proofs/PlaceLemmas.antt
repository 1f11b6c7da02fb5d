-- First nodes of paragraphs, one paragraph after another.
use Rattle.std.proofs.Common.{ℕ, zero, suc, ◌+◌, ◌-◌, ◌≡◌, ◌<◌, ◌≤◌, ◌==◌, Bool, true, false, List, [], ◌∷◌, length, refl, sym, ap, ◌∙◌, arith, add-zero, add-one, if◌then◌else◌, Option, Some, None, is_some}
use Rattle.std.proofs.lemmas.Bool.{eqb-true}
use Rattle.cob_program.specs.declared.act.Stmt as declared_stmt
use Rattle.cob_program.specs.Act.{Program, Stmts, no_stmts, more_stmts}
use Rattle.cob_runs.specs.Steps.{body_at}
use Rattle.cob_graph_build.specs.declared.counting.Entry.{Entry}
use Rattle.cob_program.specs.ActView.{plain_stmts}
use Rattle.cob_graph.specs.Laid.{LaidParas, no_laid_paras, more_laid_paras, list_size}
use Rattle.cob_graph.specs.Places.{first_of_list, first_of_paras, first_of_para}
use Rattle.cob_graph.specs.Nodes.{Copied, list_nodes}
use Rattle.cob_graph_build.specs.Tables.{lay_list, lay_paras, is_for, told_size, is_in, copy_in}

module _ (p : Program) (copies : ℕ → ℕ → LaidParas) where
  paras_at : (n from left : ℕ) → left ≡ suc n → lay_paras p copies from left ≡ more_laid_paras
      (lay_list p copies (body_at p from)) (lay_paras p copies (suc from) n)
  paras_at n from left is = ap (lay_paras p copies from) is

  pub paras_step : (from end : ℕ) → from < end → lay_paras p copies from (end - from) ≡ more_laid_paras
      (lay_list p copies (body_at p from)) (lay_paras p copies (from + 1) (end - (from + 1)))
  paras_step from end within =
      let left : end - from ≡ suc (end - (from + 1)) = omega arith in
      let next : suc from ≡ from + 1 = omega arith in
      paras_at (end - (from + 1)) from (end - from) left
      ∙ ap (λ n. more_laid_paras (lay_list p copies (body_at p from)) (lay_paras p copies n (end - (from + 1)))) next

  pub paras_end : (from end : ℕ) → end ≤ from → lay_paras p copies from (end - from) ≡ no_laid_paras
  paras_end from end past = let e : end - from ≡ 0 = omega arith in ap (lay_paras p copies from) e

  first_full : (xs : List declared_stmt.Stmt) (at next : ℕ) → (length xs == 0) ≡ false →
      first_of_list (lay_list p copies (plain_stmts xs)) at next ≡ at
  first_full [] at next full = absurd (cc)
  first_full (x ∷ xs) at next full = refl

  empty_is : (xs : List declared_stmt.Stmt) → (length xs == 0) ≡ true → plain_stmts xs ≡ no_stmts
  empty_is [] h = refl
  empty_is (x ∷ xs) h = absurd (omega (arith, eqb-true (length (x ∷ xs)) 0 h))

  -- what follows no statements changes no node
  pub nothing_follows : (c : Copied) (xs : List declared_stmt.Stmt) (at one two : ℕ) → (length xs == 0) ≡ true →
      list_nodes c (lay_list p copies (plain_stmts xs)) at one ≡ list_nodes c (lay_list p copies (plain_stmts xs)) at two
  nothing_follows c [] at one two none = refl
  nothing_follows c (x ∷ xs) at one two none = absurd (omega (arith, eqb-true (length (x ∷ xs)) 0 none))

  -- a paragraph that is not empty comes first
  pub range_full : (xs : List declared_stmt.Stmt) (from end at next : ℕ) → from < end →
      plain_stmts xs ≡ body_at p from → (length xs == 0) ≡ false →
      first_of_paras (lay_paras p copies from (end - from)) at next ≡ at
  range_full xs from end at next within its full =
      ap (λ ps. first_of_paras ps at next) (paras_step from end within)
      ∙ ap (λ ss. first_of_list (lay_list p copies ss) at
      (first_of_paras (lay_paras p copies (from + 1) (end - (from + 1))) (at + list_size (lay_list p copies ss))
      next)) (sym its)
      ∙ first_full xs at _ full

  -- an empty one is passed over
  pub range_empty : (xs : List declared_stmt.Stmt) (from end at next : ℕ) → from < end →
      plain_stmts xs ≡ body_at p from → (length xs == 0) ≡ true →
      first_of_paras (lay_paras p copies from (end - from)) at next ≡ first_of_paras
      (lay_paras p copies (from + 1) (end - (from + 1))) at next
  range_empty xs from end at next within its none =
      ap (λ ps. first_of_paras ps at next) (paras_step from end within)
      ∙ ap (λ ss. first_of_list (lay_list p copies ss) at
      (first_of_paras (lay_paras p copies (from + 1) (end - (from + 1))) (at + list_size (lay_list p copies ss))
      next)) (sym its ∙ empty_is xs none)
      ∙ ap (λ n. first_of_paras (lay_paras p copies (from + 1) (end - (from + 1))) n next) (add-zero at)

  -- ---- the paragraph with so many before it

  pub para_here : (skip from end at next : ℕ) → skip ≡ 0 →
      first_of_para skip (lay_paras p copies from (end - from)) at next ≡ first_of_paras
      (lay_paras p copies from (end - from)) at next
  para_here skip from end at next e = ap (λ n. first_of_para n (lay_paras p copies from (end - from)) at next) e

  pub para_later : (skip fewer from end at behind next : ℕ) → from < end → skip ≡ suc fewer →
      behind ≡ at + list_size (lay_list p copies (body_at p from)) →
      first_of_para skip (lay_paras p copies from (end - from)) at next ≡ first_of_para fewer
      (lay_paras p copies (from + 1) (end - (from + 1))) behind next
  para_later skip fewer from end at behind next within e f =
      ap (λ n. first_of_para n (lay_paras p copies from (end - from)) at next) e
      ∙ ap (λ ps. first_of_para (suc fewer) ps at next) (paras_step from end within)
      ∙ ap (λ n. first_of_para fewer (lay_paras p copies (from + 1) (end - (from + 1))) n next) (sym f)

  none_of : (skip at next : ℕ) → first_of_para skip no_laid_paras at next ≡ next
  none_of zero at next = refl
  none_of (suc n) at next = refl

  pub para_none : (skip from end at next : ℕ) → end ≤ from →
      first_of_para skip (lay_paras p copies from (end - from)) at next ≡ next
  para_none skip from end at next past = ap (λ ps. first_of_para skip ps at next) (paras_end from end past)
      ∙ none_of skip at next

-- ---- copies

tests : (b : Bool) (P : Bool → Type 0) → (b ≡ true → P true) → (b ≡ false → P false) → P b
tests true P yes_ no_ = yes_ refl
tests false P yes_ no_ = no_ refl

pub no_copy : (p : Program) (es : List Entry) (first last : ℕ) → is_in es first last ≡ false →
    copy_in p es first last ≡ no_laid_paras
no_copy p [] first last = λ h. refl
no_copy p (e ∷ es) first last =
    tests (is_for e first last)
    (λ b. is_some (if b then Some e.size else told_size es first last) ≡ false →
    (if b then lay_paras p (copy_in p es) first (suc last - first) else copy_in p es first last) ≡ no_laid_paras)
    (λ yes_ h. absurd (cc)) (λ no_ h. no_copy p es first last h)

pub copy_first : (p : Program) (es : List Entry) (first last end at next told : ℕ) → end ≡ last + 1 →
    ((copies : ℕ → ℕ → LaidParas) → told ≡ first_of_paras (lay_paras p copies first (end - first)) at next) →
    is_in es first last ≡ true →
    told ≡ first_of_paras (copy_in p es first last) at next
copy_first p [] first last end at next told is firsts = λ h. absurd (cc)
copy_first p (e ∷ es) first last end at next told is firsts =
    tests (is_for e first last)
    (λ b. is_some (if b then Some e.size else told_size es first last) ≡ true →
    told ≡ first_of_paras (if b then lay_paras p (copy_in p es) first (suc last - first) else copy_in p es first
    last) at next)
    (λ yes_ h. firsts (copy_in p es) ∙ ap (λ n. first_of_paras (lay_paras p (copy_in p es) first (n - first)) at next)
    (is ∙ add-one last))
    (λ no_ h. copy_first p es first last end at next told is firsts h)

pub list_full : (p : Program) (copies : ℕ → ℕ → LaidParas) (xs : List declared_stmt.Stmt) (at next : ℕ) →
    0 < length xs → at ≡ first_of_list (lay_list p copies (plain_stmts xs)) at next
list_full p copies [] at next h = absurd (omega arith)
list_full p copies (x ∷ xs) at next h = refl
