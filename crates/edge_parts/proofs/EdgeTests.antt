-- The simple condition that an edge goes by, where it is only known that there is such a proof.
use Rattle.std.proofs.Common.{◌≡◌, ℕ, List, Option, ◌∙◌, ap}
use Rattle.std.proofs.Math.Logic.{∥∥₁_elim, ∥∥₁_prop}
use Rattle.std.specs.Prelude.{slice_get}

pub at_place : {T : Type 0} (o : Option T) (ts us : List T) (k : ℕ) → o ≡ slice_get ts k → ∥ ts ≡ us ∥₁ → ∥ o ≡ slice_get us k ∥₁
at_place o ts us k at same = ∥∥₁_elim same ∥∥₁_prop (λ e. ∣ at ∙ ap (λ xs. slice_get xs k) e ∣₁)

pub listed_by : {T P : Type 0} (o found : Option T) (ps qs : List P) → ∥ o ≡ found ∥₁ → (o ≡ found → ps ≡ qs) → ∥ ps ≡ qs ∥₁
listed_by o found ps qs known listed = ∥∥₁_elim known ∥∥₁_prop (λ e. ∣ listed e ∣₁)
