-- Steps of a fold that a loop makes.
use Rattle.std.proofs.Common.{◌≡◌, List, [], ◌∷◌, sym, ap, ◌∙◌}
use Rattle.std.specs.List.{fold}

module _ {A B : Type 0} (f : B → A → B) where
  pub fold_step : (old new : B) (x : A) (left rest : List A) (all : B) → new ≡ f old x → left ≡ x ∷ rest →
      fold f old left ≡ all → fold f new rest ≡ all
  fold_step old new x left rest all e cut whole = ap (λ b. fold f b rest) e ∙ ap (fold f old) (sym cut) ∙ whole

  pub fold_done : (old : B) (left : List A) (all : B) → left ≡ [] → fold f old left ≡ all → old ≡ all
  fold_done old left all none whole = ap (fold f old) (sym none) ∙ whole
