-- Where a text is refused.
use Rattle.std.proofs.Common.{◌≡◌, ℕ, ◌+◌, ◌-◌, ◌^◌, min, Bool, true, false, ◌&&◌, cond, eqb, List, [], ◌∷◌, ◌++◌, map, length, Option, Some, None, Result, Ok, Err, refl, sym, ap, subst, ◌∙◌, append_assoc, arith}
use Rattle.std.specs.Prelude.{IfOk, IfErr}
use Rattle.std.proofs.lemmas.List.{append-nil, length-append, map-append}
use Rattle.std.proofs.lemmas.Option.{same_Some}
use Rattle.cert_text.specs.Lines.{Line, cut, text_of}
use Rattle.cert_text.specs.Viable.{IsViable, FirstBad}
use Rattle.cert_text.proofs.Texts.{bad_there, bad_behind}
use Rattle.cert_text.specs.declared.draft.Stage.TheVariants as stages
use Rattle.cert_text.specs.declared.cert.Cert.{Cert}
use Rattle.cert_text.specs.declared.cert.CertEnd.{CertEnd}
use Rattle.cert_text.specs.declared.cert.CertEnd.TheVariants as ends
use Rattle.cert_text.specs.View.{Certificate, view}
use Rattle.cert_text.specs.Text.{entry_line, entries, lines, spelling}
use Rattle.cert_text.specs.Reading.{◌▷◌}
use Rattle.cert_text.specs.Allowed.{IsAllowed}
use Rattle.cert_text.specs.Draft.{Parts, nothing_read, is_at, certificate_of, line_read}
use Rattle.cert_text.specs.Whole.{next_line, or_refuse, reading, read_of, Gives}
use Rattle.cert_text.specs.Texts.{IsText, RefusedBy}
use Rattle.cert_text.proofs.Words.{bind_some}
use Rattle.cert_text.proofs.Complete.{lines_read, lines_run, whole_run}
use Rattle.cert_text.proofs.Goes.{made_goes}
use Rattle.cert_text.proofs.WholeText.{begin, Front, further, start, found_is, read_again}

front_viable : (d : Parts) (texts : List Line) → Front d texts → IsViable IsText texts
front_viable d texts f =
    let g = made_goes d f.front f.made in
    (map entry_line g.rest, (g.certificate, g.allowed, ap (λ ts. ts ++ map entry_line g.rest) f.spelled ∙ sym (map-append entry_line f.front g.rest) ∙ ap (map entry_line) g.whole))

lines_read_split : (xs ys : List Line) (d e f : Parts) → lines_read d (xs ++ ys) ≡ Some f → lines_read d xs ≡ Some e → lines_read e ys ≡ Some f
lines_read_split [] ys d e f h k = subst (λ (y : Parts). lines_read y ys ≡ Some f) (same_Some d e k) h
lines_read_split (x ∷ xs) ys d e f h k =
    let b = bind_some (line_read d x) (λ y. lines_read y (xs ++ ys)) f h in
    lines_read_split xs ys b.0 e f b.2 (ap (λ r. r ▷ (λ y. lines_read y xs)) (sym b.1) ∙ k)

not_viable : (d : Parts) (texts : List Line) (l : Line) → Front d texts → line_read d l ≡ None → IsViable IsText (texts ++ l ∷ []) → ⊥
not_viable d texts l f none v =
    let c = v.1.0 in
    let r = whole_run c v.1.1 in
    let all : lines_read nothing_read (lines c) ≡ Some r.after = lines_run (entries c) nothing_read r.after [] begin r.ran in
    let parts : texts ++ (l ∷ v.0) ≡ lines c = sym (append_assoc texts (l ∷ []) v.0) ∙ v.1.2 in
    let on : lines_read d (l ∷ v.0) ≡ Some r.after = lines_read_split texts (l ∷ v.0) nothing_read d r.after (ap (lines_read nothing_read) parts ∙ all) f.read in
    let stop : lines_read d (l ∷ v.0) ≡ None = ap (λ x. x ▷ (λ y. lines_read y v.0)) none in
    absurd cc

abbrev err_at : {A : Type 0} → ℕ → Result A ℕ
err_at n = Err n

err_is : {A : Type 0} (m n : ℕ) → err_at {A = A} m ≡ err_at n → m ≡ n
err_is m n e = cc

ended_err : {A : Type 0} (b : Bool) (x : A) (n m : ℕ) → cond b (Ok x) (err_at n) ≡ err_at m → n ≡ m
ended_err true x n m e = absurd cc
ended_err false x n m e = cc

-- the first bad line, whose number is given where it fits
abbrev Refuses : List ℕ → ℕ → Type 0
Refuses bytes m = (n : ℕ) × (m ≡ min n (2 ^ 32 - 1)) × FirstBad IsText bytes n

refused_from : (ls : List Line) (n m : ℕ) (d : Parts) (texts : List Line) (bytes more : List ℕ) → Front d texts → (cut bytes).whole ≡ texts ++ ls → n ≡ min (length texts + 1) (2 ^ 32 - 1) → ((whole : List Line) → IsText whole → bytes ≡ text_of whole → ⊥) → reading n d ls more ≡ Err m → Refuses bytes m
refused_from [] n m d texts bytes more f parts is none h =
    let same : n ≡ m = ended_err (is_at d.stage stages.Ended && eqb (length more) 0) (certificate_of d) n m h in
    (length texts + 1, sym same ∙ is, bad_behind IsText bytes texts (parts ∙ append-nil texts) (front_viable d texts f) none)
refused_from (l ∷ ls) n m d texts bytes more f parts is none h =
    by_line (line_read d l) refl h (λ e k r. refused_from ls (next_line n) m e (texts ++ l ∷ []) bytes more (further d e texts l f k) (parts ∙ sym (append_assoc texts (l ∷ []) ls)) (omega (arith, length-append texts (l ∷ []))) none r)
  where
    by_line : (r : Option Parts) → line_read d l ≡ r → or_refuse n r (λ e. reading (next_line n) e ls more) ≡ Err m
        → ((e : Parts) → line_read d l ≡ Some e → reading (next_line n) e ls more ≡ Err m → Refuses bytes m)
        → Refuses bytes m
    by_line (Some e) read k on = on e read k
    by_line None read k on = (length texts + 1, sym (err_is n m k) ∙ is, bad_there IsText bytes texts l ls parts (front_viable d texts f) (not_viable d texts l f read))

no_text : (bytes : List ℕ) (m : ℕ) → read_of bytes ≡ Err m → (whole : List Line) → IsText whole → bytes ≡ text_of whole → ⊥
no_text bytes m h whole t e =
    let read : read_of bytes ≡ Ok t.0 = ap read_of (e ∙ ap text_of t.2) ∙ read_again t.0 t.1 in
    absurd cc

refused_is : (bytes : List ℕ) (m : ℕ) → read_of bytes ≡ Err m → Refuses bytes m
unfolding read_of
refused_is bytes m h = refused_from (cut bytes).whole 1 m nothing_read [] bytes (cut bytes).rest start refl refl (no_text bytes m h) h

-- ---- of what was returned

pub is_found : (bytes : List ℕ) (r : Result Cert CertEnd) → Gives r (read_of bytes) → IfOk r (λ c. IsAllowed (view c) × (bytes ≡ spelling (view c)))
is_found bytes (Ok c) h = found_is bytes (view c) h
is_found bytes (Err e) h = tt

pub is_only : (bytes : List ℕ) (r : Result Cert CertEnd) (c : Certificate) → Gives r (read_of bytes) → IsAllowed c → bytes ≡ spelling c → Gives r (Ok c)
is_only bytes r c h w e = subst (Gives r) (ap read_of e ∙ read_again c w) h

pub is_refused : (bytes : List ℕ) (r : Result Cert CertEnd) → Gives r (read_of bytes) → IfErr r (RefusedBy bytes)
is_refused bytes (Ok c) h = tt
is_refused bytes (Err (ends.Syntax line)) h = refused_is bytes line h
is_refused bytes (Err ends.Memory) h = tt
