-- A source and a certificate have one answer.
use Rattle.std.proofs.Common.{◌≡◌, ℕ, ◌-◌, ◌^◌, ◌≤◌, List, [], length, Some, None, ◌⊎◌, refl, sym, ap, ◌∙◌, subst, inl, inr}
use Rattle.std.specs.Prelude.{min, slice_get}
use Rattle.std.specs.FinMap.{get}
use Rattle.std.proofs.lemmas.Option.{same_Some}
use Rattle.batch_io.specs.FilesState.{Contents}
use Rattle.cert_text.specs.Viable.{FirstBad}
use Rattle.cob_tree.specs.declared.fault.Open.{Open}
use Rattle.cob_program.specs.Act.{Program}
use Rattle.cob_graph.specs.declared.graph.Graph.{Graph}
use Rattle.cert_text.specs.declared.cert.CertEnd.TheVariants as text
use Rattle.cert_text.specs.View.{Certificate}
use Rattle.cert_text.specs.Allowed.{IsAllowed}
use Rattle.cert_text.specs.Text.{spelling}
use Rattle.cert_text.specs.Texts.{IsText, RefusedBy}
use Rattle.cert_text.specs.declared.gap.Gap.{Gap}
use Rattle.commands.specs.Checker.Leak.{Leak}
use Rattle.commands.specs.Checker.Shape.{Shape}
use Rattle.commands.specs.Checker.Shape.TheVariants as shape
use Rattle.commands.specs.Checker.Assignments.{leak}
use Rattle.commands.specs.Checker.Claims.{leaks}
use Rattle.commands.specs.Checker.Checking.{HasShape, Misfits, Accepts}
use Rattle.commands.specs.declared.checking.alarms.Alarm.{Alarm}
use Rattle.commands.specs.Alarms.{alarms_of}
use Rattle.commands.specs.Answer.{Answer, Usage, Absent, Refused, CertificateLong, CertificateBad, CertificateMisfit, NotInductive, Report, AnswersSource}
use Rattle.commands.specs.Profile.{IsProfileCause}
use Rattle.commands.proofs.Found.{Found, Missing, Long, Bad, Good, Finds, at_held, held_bytes, one_found}
use Rattle.commands.proofs.Sources.{Ending, refused, read, EndsIn}
use Rattle.commands.specs.CheckAnswers.{AnswersCheck, AnswersProgram, AnswersCertificate, HoldsCertificate, certificate_limit}

-- ---- the certificate

-- What the parts of the checker's answer come to.
module _ (p : Program) (g : Graph) (c : Certificate) where
  cells_differ : (is : HasShape p g c) (found wanted : ℕ) → Misfits p g c shape.Cells found wanted → ⊥
  cells_differ is found wanted (f, w, differ) = differ (f ∙ is.cells ∙ sym w)

  nodes_differ : (is : HasShape p g c) (found wanted : ℕ) → Misfits p g c shape.Nodes found wanted → ⊥
  nodes_differ is found wanted (same, f, w, differ) = differ (f ∙ is.nodes ∙ sym w)

  no_misfit : (what : Shape) (found wanted : ℕ) → HasShape p g c → Misfits p g c what found wanted → ⊥
  no_misfit shape.Cells found wanted is h = cells_differ is found wanted h
  no_misfit shape.Nodes found wanted is h = nodes_differ is found wanted h

  one_misfit : (what other : Shape) (found wanted found' wanted' : ℕ) → Misfits p g c what found wanted
      → Misfits p g c other found' wanted' → CertificateMisfit what found wanted ≡ CertificateMisfit other found' wanted'
  one_misfit shape.Cells shape.Cells found wanted found' wanted' (f, w, d) (f', w', d') =
      ap (λ n. CertificateMisfit shape.Cells n wanted) (f ∙ sym f') ∙ ap (CertificateMisfit shape.Cells found') (w ∙ sym w')
  one_misfit shape.Cells shape.Nodes found wanted found' wanted' (f, w, d) (same, f', w', d') = absurd (d (f ∙ same ∙ sym w))
  one_misfit shape.Nodes shape.Cells found wanted found' wanted' (same, f, w, d) (f', w', d') = absurd (d' (f' ∙ same ∙ sym w'))
  one_misfit shape.Nodes shape.Nodes found wanted found' wanted' (same, f, w, d) (same', f', w', d') =
      ap (λ n. CertificateMisfit shape.Nodes n wanted) (f ∙ sym f') ∙ ap (CertificateMisfit shape.Nodes found') (w ∙ sym w')

  one_leak : (layer layer' edge edge' : ℕ) (gap gap' : Gap) → slice_get (leaks p g c) 0 ≡ Some (leak layer edge gap)
      → slice_get (leaks p g c) 0 ≡ Some (leak layer' edge' gap') → NotInductive layer edge gap ≡ NotInductive layer' edge' gap'
  one_leak layer layer' edge edge' gap gap' h k =
      ap (λ (l : Leak). NotInductive l.layer l.edge l.gap) (same_Some (leak layer edge gap) (leak layer' edge' gap') (sym h ∙ k))

  leak_or_none : {A : Type 0} (layer edge : ℕ) (gap : Gap) → slice_get (leaks p g c) 0 ≡ Some (leak layer edge gap) → leaks p g c ≡ [] → A
  leak_or_none layer edge gap first none = let apart = sym first ∙ ap (λ xs. slice_get xs 0) none in absurd (cc apart)

  one_report : (alarms others : List Alarm) (pairs pairs' : List Open) → Accepts p g c pairs → Accepts p g c pairs'
      → alarms ≡ alarms_of p pairs → others ≡ alarms_of p pairs' → Report alarms ≡ Report others
  one_report alarms others pairs pairs' h k e f =
      ap Report (e ∙ ap (alarms_of p) (h.pairs_are ∙ sym k.pairs_are) ∙ sym f)

  pub one_for_certificate : (a b : Answer) → AnswersCertificate p g c a → AnswersCertificate p g c b → a ≡ b
  one_for_certificate (CertificateMisfit what found wanted) (CertificateMisfit other found' wanted') h k =
      one_misfit what other found wanted found' wanted' h k
  one_for_certificate (CertificateMisfit what found wanted) (NotInductive layer edge gap) h k = absurd (no_misfit what found wanted k.0 h)
  one_for_certificate (CertificateMisfit what found wanted) (Report alarms) h k = absurd (no_misfit what found wanted k.1.shape h)
  one_for_certificate (NotInductive layer edge gap) (CertificateMisfit what found wanted) h k = absurd (no_misfit what found wanted h.0 k)
  one_for_certificate (Report alarms) (CertificateMisfit what found wanted) h k = absurd (no_misfit what found wanted h.1.shape k)
  one_for_certificate (NotInductive layer edge gap) (NotInductive layer' edge' gap') h k = one_leak layer layer' edge edge' gap gap' h.1 k.1
  one_for_certificate (NotInductive layer edge gap) (Report alarms) h k = leak_or_none layer edge gap h.1 k.1.inductive
  one_for_certificate (Report alarms) (NotInductive layer edge gap) h k = leak_or_none layer edge gap k.1 h.1.inductive
  one_for_certificate (Report alarms) (Report others) h k = one_report alarms others h.0 k.0 h.1 k.1 h.2 k.2
  one_for_certificate (Usage word) b h k = absurd h
  one_for_certificate (Absent name) b h k = absurd h
  one_for_certificate (Refused cause) b h k = absurd h
  one_for_certificate CertificateLong b h k = absurd h
  one_for_certificate (CertificateBad line) b h k = absurd h
  one_for_certificate a (Usage word) h k = absurd k
  one_for_certificate a (Absent name) h k = absurd k
  one_for_certificate a (Refused cause) h k = absurd k
  one_for_certificate a CertificateLong h k = absurd k
  one_for_certificate a (CertificateBad line) h k = absurd k

-- the laws of texts
pub record TextsAreApart : Type 0 where
  pub one_spelling : (c d : Certificate) → IsAllowed c → IsAllowed d → spelling c ≡ spelling d → c ≡ d
  pub one_place : (bytes : List ℕ) (m n : ℕ) → FirstBad IsText bytes m → FirstBad IsText bytes n → m ≡ n
  pub no_bad_line : (c : Certificate) (line : ℕ) → IsAllowed c → FirstBad IsText (spelling c) line → ⊥

module _ (laws : TextsAreApart) where
  abbrev IsBad : List ℕ → ℕ → Type 0
  IsBad bytes line = RefusedBy bytes (text.Syntax line)

  abbrev IsTextOf : List ℕ → Certificate → Type 0
  IsTextOf bytes c = IsAllowed c × (bytes ≡ spelling c)

  one_line : (bytes : List ℕ) (m n : ℕ) → IsBad bytes m → IsBad bytes n → m ≡ n
  one_line bytes m n (i, e, h) (j, f, k) = e ∙ ap (λ x. min x (2 ^ 32 - 1)) (laws.one_place bytes i j h k) ∙ sym f

  text_or_bad : (bytes : List ℕ) (c : Certificate) (line : ℕ) → IsTextOf bytes c → IsBad bytes line → ⊥
  text_or_bad bytes c line (allowed, e) (n, f, bad) =
      laws.no_bad_line c n allowed (subst (λ (bs : List ℕ). FirstBad IsText bs n) e bad)

  one_text : (bytes : List ℕ) (c d : Certificate) → IsTextOf bytes c → IsTextOf bytes d → c ≡ d
  one_text bytes c d (allowed, e) (also, f) = laws.one_spelling c d allowed also (sym e ∙ f)

  module _ (contents : Contents) (certificate : List ℕ) (p : Program) (g : Graph) where
    abbrev FindsText : Found ℕ Certificate → Type 0
    FindsText = Finds (get contents certificate) certificate_limit IsBad IsTextOf one_line text_or_bad one_text

    abbrev Means : Found ℕ Certificate → Answer → Type 0
    Means Missing answer = answer ≡ Absent certificate
    Means Long answer = answer ≡ CertificateLong
    Means (Bad line) answer = answer ≡ CertificateBad line
    Means (Good c) answer = AnswersCertificate p g c answer

    abbrev IsMeant : Answer → Type 0
    IsMeant answer = (found : Found ℕ Certificate) × FindsText found × Means found answer

    by_text : (answer : Answer) (c : Certificate) → HoldsCertificate contents certificate c → AnswersCertificate p g c answer
        → IsMeant answer
    by_text answer c holds is =
        (Good c, at_held (get contents certificate) (spelling c) (λ bytes. (length bytes ≤ certificate_limit) × IsTextOf bytes c) holds.held (holds.fits, (holds.allowed, refl)), is)

    means : (answer : Answer) → AnswersProgram contents certificate p g answer → IsMeant answer
    means (Absent name) h = (Missing, h.0, ap Absent h.1)
    means CertificateLong h = (Long, h, refl)
    means (CertificateBad line) h = (Bad line, h, refl)
    means (CertificateMisfit what found wanted) h = by_text (CertificateMisfit what found wanted) h.0 h.1 h.2
    means (NotInductive layer edge gap) h = by_text (NotInductive layer edge gap) h.0 h.1 h.2
    means (Report alarms) h = by_text (Report alarms) h.0 h.1 h.2
    means (Usage word) h = absurd h.2
    means (Refused cause) h = absurd h.2

    one_meaning : (found : Found ℕ Certificate) (a b : Answer) → Means found a → Means found b → a ≡ b
    one_meaning Missing a b h k = h ∙ sym k
    one_meaning Long a b h k = h ∙ sym k
    one_meaning (Bad line) a b h k = h ∙ sym k
    one_meaning (Good c) a b h k = one_for_certificate p g c a b h k

    pub one_for_program : (a b : Answer) → AnswersProgram contents certificate p g a → AnswersProgram contents certificate p g b → a ≡ b
    one_for_program a b h k =
        let x = means a h in
        let y = means b k in
        let same = one_found (get contents certificate) certificate_limit IsBad IsTextOf one_line text_or_bad one_text x.0 y.0 x.1 y.1 in
        one_meaning y.0 a b (subst (λ found. Means found a) same x.2) y.2

-- ---- the source

module _ (contents : Contents) where
  -- what the source's end leads to
  abbrev Leads : List ℕ → Ending → Answer → Type 0
  Leads certificate (refused cause) answer = answer ≡ Refused cause
  Leads certificate (read p g) answer = AnswersProgram contents certificate p g answer

  -- the file's bytes lead to the answer
  record Holds (name certificate : List ℕ) (answer : Answer) : Type 0 where
    bytes : List ℕ
    held : get contents name ≡ Some bytes
    ending : Ending
    ends : EndsIn bytes ending
    leads : Leads certificate ending answer

  abbrev SourceMeans : List ℕ → List ℕ → Answer → Type 0
  SourceMeans name certificate answer =
      ((get contents name ≡ None) × (answer ≡ Absent name)) ⊎ Holds name certificate answer

  refusal_means : (name certificate : List ℕ) (answer : Answer) → AnswersSource contents name answer
      → SourceMeans name certificate answer
  refusal_means name certificate (Absent other) h = inl (h.0, ap Absent h.1)
  refusal_means name certificate (Refused cause) h =
      let w = held_bytes (get contents name) (λ bytes. IsProfileCause bytes cause) h in
      inr (record { bytes = w.0; held = w.1; ending = refused cause; ends = w.2; leads = refl })
  refusal_means name certificate (Usage word) h = absurd h
  refusal_means name certificate CertificateLong h = absurd h
  refusal_means name certificate (CertificateBad line) h = absurd h
  refusal_means name certificate (CertificateMisfit what found wanted) h = absurd h
  refusal_means name certificate (NotInductive layer edge gap) h = absurd h
  refusal_means name certificate (Report alarms) h = absurd h

  check_means : (name certificate : List ℕ) (answer : Answer) → AnswersCheck contents name certificate answer
      → SourceMeans name certificate answer
  check_means name certificate answer (inl refusal) = refusal_means name certificate answer refusal
  check_means name certificate answer (inr (p, g, holds, behind)) =
      inr (record {
        bytes = holds.bytes;
        held = holds.held;
        ending = read p g;
        ends = holds.is_program;
        leads = behind;
      })

  module _ (one_ending : (bytes : List ℕ) (a b : Ending) → EndsIn bytes a → EndsIn bytes b → a ≡ b)
      (laws : TextsAreApart) where
    one_lead : (certificate : List ℕ) (x : Ending) (a b : Answer) → Leads certificate x a → Leads certificate x b → a ≡ b
    one_lead certificate (refused cause) a b h k = h ∙ sym k
    one_lead certificate (read p g) a b h k = one_for_program laws contents certificate p g a b h k

    one_held : (name certificate : List ℕ) (a b : Answer) → Holds name certificate a → Holds name certificate b → a ≡ b
    one_held name certificate a b h k =
        let same : h.bytes ≡ k.bytes = same_Some h.bytes k.bytes (sym h.held ∙ k.held) in
        let there = subst (λ (bs : List ℕ). EndsIn bs h.ending) same h.ends in
        let ending : h.ending ≡ k.ending = one_ending k.bytes h.ending k.ending there k.ends in
        let leads = subst (λ (x : Ending). Leads certificate x a) ending h.leads in
        one_lead certificate k.ending a b leads k.leads

    one_source_meaning : (name certificate : List ℕ) (a b : Answer)
        → SourceMeans name certificate a → SourceMeans name certificate b → a ≡ b
    one_source_meaning name certificate a b (inl (none, e)) (inl (none', f)) = e ∙ sym f
    one_source_meaning name certificate a b (inl (none, e)) (inr k) = let apart = sym none ∙ k.held in cc
    one_source_meaning name certificate a b (inr h) (inl (none, f)) = let apart = sym none ∙ h.held in cc
    one_source_meaning name certificate a b (inr h) (inr k) = one_held name certificate a b h k

    pub one_for_check : (name certificate : List ℕ) (a b : Answer)
        → AnswersCheck contents name certificate a → AnswersCheck contents name certificate b → a ≡ b
    one_for_check name certificate a b h k =
        one_source_meaning name certificate a b (check_means name certificate a h) (check_means name certificate b k)
