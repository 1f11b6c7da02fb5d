-- Differences of sums.
use Rattle.std.proofs.Common.{◌≡◌, ℕ, true, Option, Some, None, refl, ap, ◌∙◌}
use Rattle.cob_program.specs.Sum.{Sum}
use Rattle.cob_program.specs.Values.{◌>>=◌}
use Rattle.diff_bounds.specs.declared.form.lin.Lin.{Lin}
use Rattle.diff_bounds.specs.Forms.{if_small}
use Rattle.diff_bounds.specs.Results.{sum_of}
use Rattle.sum_ranges.specs.declared.ranged.Ranged.{Ranged}
use Rattle.sum_forms.specs.SumForms.{turned_form, sum_form}
use Rattle.diff_steps.specs.Forms.{added_forms, turned_if}
use Rattle.diff_steps.specs.Guards.{difference_form}

-- the second form is turned first, and then added
turned_first : (x y : Option Lin) → added_forms x (turned_if true y) ≡ (x >>= λ a. y >>= λ b. turned_form true b >>= λ c. if_small (sum_of a c))
turned_first None y = refl
turned_first (Some a) None = refl
turned_first (Some a) (Some b) = refl

module _ (cell : ℕ → Option ℕ) (range : ℕ → Ranged) (a b : Sum) where
  differs : (d : ℕ) (x y z w : Option Lin) → x ≡ sum_form d cell range a → y ≡ sum_form d cell range b → z ≡ turned_if true y → w ≡ added_forms x z →
      w ≡ difference_form d cell range a b
  differs d x y z w e f g h =
      h ∙ ap (added_forms x) g ∙ turned_first x y
      ∙ ap (λ (o : Option Lin). o >>= λ p. y >>= λ q. turned_form true q >>= λ r. if_small (sum_of p r)) e
      ∙ ap (λ (o : Option Lin). sum_form d cell range a >>= λ p. o >>= λ q. turned_form true q >>= λ r. if_small (sum_of p r)) f

  -- the difference of two sums has one form by both definitions, in the pack's unit
  pub difference_is : (d f : ℕ) (x y z w : Option Lin) → d ≡ f → x ≡ sum_form d cell range a → y ≡ sum_form d cell range b → z ≡ turned_if true y →
      w ≡ added_forms x z → w ≡ difference_form f cell range a b
  difference_is d f x y z w unit e g h k = differs d x y z w e g h k ∙ ap (λ n. difference_form n cell range a b) unit
