-- Bounds that a matrix shows of forms.
use Rattle.std.proofs.Common.{◌≡◌, ℕ, List, ℤ, negsuc, ◌≤ℤ◌, Option, Some, None, refl, ap, subst, ◌∙◌, arith}
use Rattle.std.proofs.lemmas.Int.{ints}
use Rattle.diff_bounds.specs.declared.form.lin.Lin.{Lin}
use Rattle.diff_bounds.specs.Forms.{IsSmallForm, if_small}
use Rattle.diff_bounds.specs.Results.{scaled_coefs, multiple_of}
use Rattle.diff_bounds.proofs.Coefs.{length-coefs_of}
use Rattle.diff_bounds.proofs.Computed.{computed}
use Rattle.diff_bounds.specs.Matrix.{none}
use Rattle.cob_program.specs.Values.{◌>>=◌}
use Rattle.diff_bounds.specs.Numbers.{word_of}
use Rattle.diff_bounds.specs.Upper.{upper_of}
use Rattle.diff_bounds.proofs.Bounded.{IsNumber}
use Rattle.diff_steps.specs.Stores.{upper_negated}

-- a word that is no number
pub none_there : (o : Option ℤ) (x : ℤ) → IsNumber o → x ≡ word_of o → none ≤ℤ x → None ≡ o
none_there (Some z) x is e h = absurd (omega (arith, ints, is, e, h))
none_there None x is e h = refl

pub negated_shown : (size : ℕ) (m : List ℤ) (form other : Lin) → other ≡ multiple_of form (negsuc 0) → IsSmallForm other → upper_of size m other ≡ upper_negated size m form
negated_shown size m form other e small =
    let is : Some (multiple_of form (negsuc 0)) ≡ if_small (multiple_of form (negsuc 0)) =
    computed (Some (multiple_of form (negsuc 0))) (multiple_of form (negsuc 0)) (length-coefs_of (scaled_coefs form (negsuc 0)))
    (subst (λ (f : Lin). IsSmallForm f) e small, refl) in
    ap (upper_of size m) e ∙ ap (λ (o : Option Lin). o >>= upper_of size m) is
