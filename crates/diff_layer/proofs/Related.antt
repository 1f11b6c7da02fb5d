-- What a relation of two sums leaves of a pack, by its form.
use Rattle.std.proofs.Common.{◌≡◌, ℕ, Bool, List, ℤ, Option, sym, ap, ◌∙◌}
use Rattle.cob_tree.specs.declared.token.Rel.{Rel}
use Rattle.cob_program.specs.Sum.{Sum}
use Rattle.cob_runs.specs.Deciding.{below, equal, above, holds}
use Rattle.diff_bounds.specs.declared.form.lin.Lin.{Lin}
use Rattle.sum_ranges.specs.declared.ranged.Ranged.{Ranged}
use Rattle.transfer_ranges.specs.Sides.{is_wanted}
use Rattle.diff_steps.specs.Guards.{ordered, difference_form, are_fine, related}

module _ (cell : ℕ → Option ℕ) (range : ℕ → Ranged) (size : ℕ) (a : Sum) (r : Rel) (b : Sum) (wanted : Bool) (m : List ℤ) where
  pub related_is : (decimals finest : ℕ) (fine : Bool) (form : Option Lin) → decimals ≡ finest → fine ≡ are_fine finest cell range a b →
      form ≡ difference_form finest cell range a b →
      ordered size fine form (is_wanted wanted (holds r below)) (is_wanted wanted (holds r equal)) (is_wanted wanted (holds r above)) m
      ≡ related decimals cell range size a r b wanted m
  related_is decimals finest fine form e f g =
      (λ i. ordered size (f i) (g i) (is_wanted wanted (holds r below)) (is_wanted wanted (holds r equal)) (is_wanted wanted (holds r above)) m)
      ∙ ap (λ n. related n cell range size a r b wanted m) (sym e)
