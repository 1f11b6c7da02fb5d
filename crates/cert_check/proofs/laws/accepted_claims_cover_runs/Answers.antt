use Rattle.cert_check.proofs.Covering.{accepted_covers}
use Rattle.cert_check.proofs.LayerLaws.{layer_laws}
use Rattle.cert_check.proofs.laws.accepted_claims_cover_runs.Goals as goal

pub returns : goal.returns
returns c = λ p g cert pairs source allowed accepts.
    accepted_covers p g cert pairs ∣ source ∣₁ (layer_laws p g ∣ source ∣₁) allowed accepts
