-- A status of 0 or 1 is that of a report that was shown.
use Rattle.std.proofs.Common.{◌≡◌, ℕ, ◌≤◌, List, [], ◌∷◌, ◌⊎◌, refl, inl, inr, arith}
use Rattle.cob_front.specs.declared.refusal.Refusal.{Refusal}
use Rattle.cob_front.specs.declared.refusal.Refusal.TheVariants as end
use Rattle.commands.specs.declared.checking.alarms.Alarm.{Alarm}
use Rattle.commands.specs.Answer.{Answer, Usage, Absent, Refused, CertificateLong, CertificateBad, CertificateMisfit, NotInductive, Report, refusal_status, status_of, status_unwritten}

refusal_is_high : (cause : Refusal) (n : ℕ) → refusal_status cause ≡ n → (n ≡ 0) ⊎ (n ≡ 1) → ⊥
refusal_is_high end.TooLong n e (inl z) = omega (arith, e, z)
refusal_is_high end.TooLong n e (inr z) = omega (arith, e, z)
refusal_is_high (end.BadLine line column) n e (inl z) = omega (arith, e, z)
refusal_is_high (end.BadLine line column) n e (inr z) = omega (arith, e, z)
refusal_is_high (end.BadToken line column) n e (inl z) = omega (arith, e, z)
refusal_is_high (end.BadToken line column) n e (inr z) = omega (arith, e, z)
refusal_is_high (end.Syntax line) n e (inl z) = omega (arith, e, z)
refusal_is_high (end.Syntax line) n e (inr z) = omega (arith, e, z)
refusal_is_high (end.Nesting count) n e (inl z) = omega (arith, e, z)
refusal_is_high (end.Nesting count) n e (inr z) = omega (arith, e, z)
refusal_is_high (end.Outside rule line) n e (inl z) = omega (arith, e, z)
refusal_is_high (end.Outside rule line) n e (inr z) = omega (arith, e, z)
refusal_is_high (end.Limit which count) n e (inl z) = omega (arith, e, z)
refusal_is_high (end.Limit which count) n e (inr z) = omega (arith, e, z)
refusal_is_high end.Memory n e (inl z) = omega (arith, e, z)
refusal_is_high end.Memory n e (inr z) = omega (arith, e, z)

pub above_one : (n m : ℕ) → 2 ≤ m → m ≡ n → (n ≡ 0) ⊎ (n ≡ 1) → ⊥
above_one n m l e (inl z) = omega (arith, l, e, z)
above_one n m l e (inr z) = omega (arith, l, e, z)

abbrev pub IsReport : Answer → Type 0
IsReport answer = (alarms : List Alarm) × (answer ≡ Report alarms)

-- a status of 0 or 1 is that of a report
pub low_status : (answer : Answer) (n : ℕ) → status_of answer ≡ n → (n ≡ 0) ⊎ (n ≡ 1) → IsReport answer
low_status (Usage word) n e low = absurd (above_one n 4 (omega arith) e low)
low_status (Absent name) n e low = absurd (above_one n 7 (omega arith) e low)
low_status (Refused cause) n e low = absurd (refusal_is_high cause n e low)
low_status CertificateLong n e low = absurd (above_one n 3 (omega arith) e low)
low_status (CertificateBad line) n e low = absurd (above_one n 3 (omega arith) e low)
low_status (CertificateMisfit what found wanted) n e low = absurd (above_one n 3 (omega arith) e low)
low_status (NotInductive layer edge gap) n e low = absurd (above_one n 3 (omega arith) e low)
low_status (Report alarms) n e low = (alarms, refl)

pub never_low : (answer : Answer) (n : ℕ) → status_unwritten answer ≡ n → (n ≡ 0) ⊎ (n ≡ 1) → ⊥
never_low (Usage word) n e low = above_one n 4 (omega arith) e low
never_low (Absent name) n e low = above_one n 7 (omega arith) e low
never_low (Refused cause) n e low = refusal_is_high cause n e low
never_low CertificateLong n e low = above_one n 3 (omega arith) e low
never_low (CertificateBad line) n e low = above_one n 3 (omega arith) e low
never_low (CertificateMisfit what found wanted) n e low = above_one n 3 (omega arith) e low
never_low (NotInductive layer edge gap) n e low = above_one n 3 (omega arith) e low
never_low (Report alarms) n e low = above_one n 6 (omega arith) e low

pub no_alarm : (alarms : List Alarm) → status_of (Report alarms) ≡ 0 → alarms ≡ []
no_alarm [] e = refl
no_alarm (alarm ∷ alarms) e = absurd (omega arith)
