-- What reading the whole gives.
use Rattle.std.proofs.Common.{◌≡◌, ℕ, ◌^◌, ◌≤◌, Bool, true, false, ◌&&◌, cond, eqb, List, [], ◌∷◌, ◌++◌, map, length, Option, Some, None, Result, Ok, Err, ℤ, refl, sym, ap, subst, ◌∙◌, append_assoc, arith}
use Rattle.std.specs.Prelude.{unsigned_abs}
use Rattle.std.specs.Fmt.{signed_decimal}
use Rattle.std.specs.List.{AllByRecursion}
use Rattle.std.proofs.lemmas.Bool.{and_parts, and_from, eqb-true, cond-true}
use Rattle.std.proofs.lemmas.List.{append-nil, nil_from_length, map-append}
use Rattle.std.proofs.lemmas.Option.{same_Some}
use Rattle.cert_text.specs.Lines.{Line, Cut, cut, text_of, IsOneLine}
use Rattle.cert_text.proofs.OneLine.{one_line-append, literal, signed_decimal-one_line}
use Rattle.cert_text.specs.Viable.{FirstBad}
use Rattle.cert_text.proofs.Texts.{cut_joins, cut-text_of, text_not_bad}
use Rattle.cert_text.specs.declared.draft.Stage.TheVariants as stages
use Rattle.cert_text.specs.View.{Certificate}
use Rattle.cert_text.specs.Text.{name, Entry, entry_line, numbers_text, entries, lines, spelling}
use Rattle.cert_text.specs.Reading.{◌▷◌}
use Rattle.cert_text.specs.Allowed.{IsAllowed}
use Rattle.cert_text.specs.Texts.{IsText}
use Rattle.cert_text.specs.Draft.{Parts, nothing_read, is_at, certificate_of, line_read, step}
use Rattle.cert_text.specs.Whole.{next_line, or_refuse, reading, read_of}
use Rattle.cert_text.specs.declared.word.Word.{Word}
use Rattle.cert_text.specs.declared.word.Word.TheVariants as words
use Rattle.cert_text.proofs.Numbers.{IsSmall}
use Rattle.cert_text.proofs.Words.{bind_some, line_takes}
use Rattle.cert_text.proofs.Made.{Made, MadeAt, made_cells, step_made, stage_is}
use Rattle.cert_text.proofs.Complete.{run, lines_read, lines_run, whole_run, step_small}

-- ---- the lines of a text

numbers_one_line : (zs : List ℤ) → AllByRecursion IsSmall zs → IsOneLine (numbers_text zs)
numbers_one_line [] h = tt
numbers_one_line (z ∷ zs) h =
    let small : unsigned_abs z ≤ 10 ^ 37 = h.0 in
    ((λ space. absurd (omega arith)), one_line-append (signed_decimal z) (numbers_text zs) (signed_decimal-one_line z (omega arith)) (numbers_one_line zs h.1))

name_one_line : (w : Word) → IsOneLine (name w)
name_one_line words.Title = literal (name words.Title) refl
name_one_line words.Cells = literal (name words.Cells) refl
name_one_line words.Nodes = literal (name words.Nodes) refl
name_one_line words.Packs = literal (name words.Packs) refl
name_one_line words.Pack = literal (name words.Pack) refl
name_one_line words.Never = literal (name words.Never) refl
name_one_line words.Node = literal (name words.Node) refl
name_one_line words.Claim = literal (name words.Claim) refl
name_one_line words.Bound = literal (name words.Bound) refl
name_one_line words.End = literal (name words.End) refl

run_one_lines : (ls : List Entry) (d e : Parts) (front : List Entry) → Made d front → run d ls ≡ Some e → AllByRecursion IsOneLine (map entry_line ls)
run_one_lines [] d e front m h = tt
run_one_lines (l ∷ ls) d e front m h =
    let b = bind_some (step d l.word l.numbers) (λ y. run y ls) e h in
    let s = step_small d b.0 l.word l.numbers (made_cells d front m) b.1 in
    let next = step_made d b.0 l.word l.numbers b.1 front m in
    (one_line-append (name l.word) (numbers_text l.numbers) (name_one_line l.word) (numbers_one_line l.numbers s.1), run_one_lines ls b.0 e (front ++ l ∷ []) next b.2)

-- ---- what is spelled is read

abbrev ok_at : {A B : Type 0} → A → Result A B
ok_at x = Ok x

ok_is : {A : Type 0} (x y : A) → ok_at {B = ℕ} x ≡ ok_at y → x ≡ y
ok_is x y e = cc

pub begin : Made nothing_read []
begin = (refl, refl)

whole_again : (ls : List Line) (n : ℕ) (d e : Parts) → lines_read d ls ≡ Some e → e.stage ≡ stages.Ended → reading n d ls [] ≡ Ok (certificate_of e)
whole_again [] n d e h s =
    let same : d ≡ e = same_Some d e h in
    cond-true (is_at d.stage stages.Ended && true) (Ok (certificate_of d)) (Err n) (and_from _ _ (ap (λ (y : Parts). is_at y.stage stages.Ended) same ∙ ap (λ t. is_at t stages.Ended) s) refl) ∙ ap (λ (y : Parts). Ok (certificate_of y)) same
whole_again (l ∷ ls) n d e h s =
    let b = bind_some (line_read d l) (λ y. lines_read y ls) e h in
    ap (λ r. or_refuse n r (λ y. reading (next_line n) y ls [])) b.1 ∙ whole_again ls (next_line n) b.0 e b.2 s

pub read_again : (c : Certificate) → IsAllowed c → read_of (spelling c) ≡ Ok c
unfolding read_of
read_again c w =
    let r = whole_run c w in
    let cuts = cut-text_of (lines c) (run_one_lines (entries c) nothing_read r.after [] begin r.ran) in
    let all = lines_run (entries c) nothing_read r.after [] begin r.ran in
    ap (λ (t : Cut). reading 1 nothing_read t.whole t.rest) cuts
    ∙ whole_again (lines c) 1 nothing_read r.after all r.stage ∙ ap (λ (y : Certificate). Ok y) r.same

pub one_spelling : (c d : Certificate) → IsAllowed c → IsAllowed d → spelling c ≡ spelling d → c ≡ d
one_spelling c d v w e = ok_is c d (sym (read_again c v) ∙ ap read_of e ∙ read_again d w)

-- ---- what is read is spelled so

-- so many lines were read, and made the parts
pub record Front (d : Parts) (texts : List Line) : Type 0 where
  pub front : List Entry
  pub spelled : texts ≡ map entry_line front
  pub made : Made d front
  pub read : lines_read nothing_read texts ≡ Some d

lines_read_push : (ls : List Line) (l : Line) (d e f : Parts) → lines_read d ls ≡ Some e → line_read e l ≡ Some f → lines_read d (ls ++ l ∷ []) ≡ Some f
lines_read_push [] l d e f h k = ap (λ r. r ▷ (λ y. lines_read y [])) (subst (λ (y : Parts). line_read y l ≡ Some f) (sym (same_Some d e h)) k)
lines_read_push (x ∷ ls) l d e f h k =
    let b = bind_some (line_read d x) (λ y. lines_read y ls) e h in
    ap (λ r. r ▷ (λ y. lines_read y (ls ++ l ∷ []))) b.1 ∙ lines_read_push ls l b.0 e f b.2 k

pub further : (d e : Parts) (texts : List Line) (l : Line) → Front d texts → line_read d l ≡ Some e → Front e (texts ++ l ∷ [])
further d e texts l f h =
    let t = line_takes d l e h in
    record {
      front = f.front ++ t.read ∷ [];
      spelled = ap (λ (x : List ℕ). texts ++ x ∷ []) t.spelled ∙ ap (λ xs. xs ++ entry_line t.read ∷ []) f.spelled ∙ sym (map-append entry_line f.front (t.read ∷ []));
      made = step_made d e t.read.word t.read.numbers t.stepped f.front f.made;
      read = lines_read_push texts l nothing_read d e f.read h;
    }

guard_result : {A B : Type 0} (b : Bool) (x y : A) (n : B) → cond b (ok_at x) (Err n) ≡ ok_at y → (b ≡ true) × (x ≡ y)
guard_result true x y n e = (refl, cc)
guard_result false x y n e = absurd cc

found_from : (ls : List Line) (n : ℕ) (d : Parts) (texts : List Line) (more : List ℕ) (c : Certificate) → Front d texts → reading n d ls more ≡ Ok c → IsAllowed c × (texts ++ ls ≡ lines c) × (more ≡ [])
found_from [] n d texts more c f h =
    let g = guard_result (is_at d.stage stages.Ended && eqb (length more) 0) (certificate_of d) c n h in
    let a = and_parts _ _ g.0 in
    let m : MadeAt stages.Ended d f.front = subst (λ t. MadeAt t d f.front) (stage_is d.stage stages.Ended a.0) f.made in
    (subst IsAllowed g.1 m.0, append-nil texts ∙ f.spelled ∙ ap (map entry_line) (m.1 ∙ ap entries g.1), nil_from_length more (eqb-true _ _ a.1))
found_from (l ∷ ls) n d texts more c f h = by_line (line_read d l) refl h (λ e k r. found_from ls (next_line n) e (texts ++ l ∷ []) more c (further d e texts l f k) r)
  where
    by_line : (r : Option Parts) → line_read d l ≡ r → or_refuse n r (λ e. reading (next_line n) e ls more) ≡ Ok c
        → ((e : Parts) → line_read d l ≡ Some e → reading (next_line n) e ls more ≡ Ok c → IsAllowed c × ((texts ++ l ∷ []) ++ ls ≡ lines c) × (more ≡ []))
        → IsAllowed c × (texts ++ (l ∷ ls) ≡ lines c) × (more ≡ [])
    by_line None is k on = absurd cc
    by_line (Some e) is k on = let o = on e is k in (o.0, sym (append_assoc texts (l ∷ []) ls) ∙ o.1, o.2)

pub start : Front nothing_read []
start = record { front = []; spelled = refl; made = begin; read = refl }

pub found_is : (bytes : List ℕ) (c : Certificate) → read_of bytes ≡ Ok c → IsAllowed c × (bytes ≡ spelling c)
unfolding read_of
found_is bytes c h =
    let whole = (cut bytes).whole in
    let f = found_from whole 1 nothing_read [] (cut bytes).rest c start h in
    (f.0, sym (cut_joins bytes) ∙ ap (λ rest. text_of whole ++ rest) f.2 ∙ append-nil (text_of whole) ∙ ap text_of f.1)

pub never_bad : (c : Certificate) (line : ℕ) → IsAllowed c → FirstBad IsText (spelling c) line → ⊥
never_bad c line allowed bad =
    let r = whole_run c allowed in
    text_not_bad IsText (spelling c) line (lines c) bad (c, allowed, refl)
    (run_one_lines (entries c) nothing_read r.after [] begin r.ran) refl
