-- A source of plain lines is these lines, one behind the other.
use Rattle.std.proofs.Common.{◌≡◌, ℕ, arith, is_some, Bool, true, false, not, cond, eqb, List, [], ◌∷◌, ◌++◌, Option, None, Result, Ok, refl, sym, ◌∙◌, ap, append_assoc, append-nil}
use Rattle.std.proofs.lemmas.Bool.Decides.{nat_tests}
use Rattle.std.proofs.lemmas.List.Sums.{fold-append, fold_push}
use Rattle.std.proofs.lemmas.List.Elements.{recursion_from_All}
use Rattle.std.specs.List.{fold, All, AllByRecursion}
use Rattle.cob_lex.specs.declared.text.Mark.{Mark}
use Rattle.cob_lex.specs.declared.literal.Quote.{Quote}
use Rattle.cob_lex.specs.declared.literal.Quote.TheVariants.{Outside, Inside, Behind}
use Rattle.cob_lex.specs.declared.refusal.Place.{Place}
use Rattle.cob_lex.specs.Columns.{is_continuation, is_ordinary, first_nonblank}
use Rattle.cob_lex.specs.Literal.{is_quotation, opened_by, quote_after, quote_of, opening_of, open_literal}
use Rattle.cob_lex.specs.Text.{Line, kept, closed, marks_from, end_mark, with_line, with_ordinary, with_continuation, onward, joined, bad_or, first_bad, numbered_lines, refused_first, source_text}
use Rattle.cob_lex.specs.Plain.{IsPlain, plain_marks, plain_text}

-- what opens a literal is a quotation mark
abbrev Quoted : Quote → Type 0
Quoted Outside = Unit {0}
Quoted (Inside opening) = is_quotation opening.ch ≡ true
Quoted (Behind opening) = is_quotation opening.ch ≡ true

quoted_opened : (m : Mark) → Quoted (opened_by m)
quoted_opened m = split (is_quotation m.ch) refl
  where
    split : (b : Bool) → is_quotation m.ch ≡ b → Quoted (cond b (Inside m) Outside)
    split true e = e
    split false e = tt

quoted_after : (q : Quote) (m : Mark) → Quoted q → Quoted (quote_after q m)
quoted_after Outside m h = quoted_opened m
quoted_after (Inside o) m h = elim (eqb m.ch o.ch) as (λ b. Quoted (cond b (Behind o) (Inside o))) [ true ↦ h | false ↦ h ]
quoted_after (Behind o) m h = elim (eqb m.ch o.ch) as (λ b. Quoted (cond b (Inside o) (opened_by m))) [ true ↦ h | false ↦ quoted_opened m ]

quoted_fold : (q : Quote) (ms : List Mark) → Quoted q → Quoted (fold quote_after q ms)
quoted_fold q [] h = h
quoted_fold q (m ∷ ms) h = quoted_fold (quote_after q m) ms (quoted_after q m h)

-- a line's end stands in no literal, if none is open
outside_after : (q : Quote) (n : ℕ) → Quoted q → opening_of q ≡ None → quote_after q (end_mark n) ≡ Outside
outside_after Outside n h e = refl
outside_after (Inside o) n h e = cc
outside_after (Behind o) n h e = split (eqb 32 o.ch) refl
  where
    split : (b : Bool) → eqb 32 o.ch ≡ b → cond b (Inside o) (opened_by (end_mark n)) ≡ Outside
    split true t = grind (arith, nat_tests)
    split false t = refl

quote_behind : (t ms : List Mark) → quote_of t ≡ Outside → quote_of (t ++ ms) ≡ quote_of ms
quote_behind t ms e = fold-append quote_after Outside t ms ∙ ap (λ (q : Quote). fold quote_after q ms) e

not_continuation : (line : List ℕ) → is_ordinary line ≡ true → is_continuation line ≡ false
not_continuation line h = grind (arith, nat_tests)

-- one plain line more
plain_line : (t : List Mark) (l : Line) → IsPlain l → quote_of t ≡ Outside → with_line t l.0 l.1 ≡ Ok (t ++ plain_marks l)
plain_line t l plain e =
    let ms = marks_from l.0 l.1 8 in
    let none : open_literal (t ++ ms) ≡ None = ap opening_of (quote_behind t ms e) ∙ plain.closed in
    ap (λ b. cond b (with_continuation (first_nonblank l.1) (open_literal t) t l.0 l.1) (with_ordinary (open_literal t) t l.0 l.1)) (not_continuation l.1 plain.ordinary)
    ∙ ap (λ (q : Quote). with_ordinary (opening_of q) t l.0 l.1) e
    ∙ ap (λ (o : Option Mark). Ok (cond (is_some o) (t ++ ms) ((t ++ ms) ++ end_mark l.0 ∷ []))) none
    ∙ ap Ok (append_assoc t ms (end_mark l.0 ∷ []))

outside_behind : (t : List Mark) (l : Line) → IsPlain l → quote_of t ≡ Outside → quote_of (t ++ plain_marks l) ≡ Outside
outside_behind t l plain e =
    let ms = marks_from l.0 l.1 8 in
    quote_behind t (plain_marks l) e
    ∙ fold_push quote_after Outside ms (end_mark l.0)
    ∙ outside_after (quote_of ms) l.0 (quoted_fold Outside ms tt) plain.closed

plain_joined : (t : List Mark) (ls : List Line) → AllByRecursion IsPlain ls → quote_of t ≡ Outside → joined t ls ≡ Ok (t ++ plain_text ls)
unfolding joined
plain_joined t [] all e = ap (λ (q : Quote). closed (opening_of q) t) e ∙ ap Ok (sym (append-nil t))
plain_joined t (l ∷ ls) all e =
    ap (λ (r : Result (List Mark) Place). onward r (λ longer. joined longer ls)) (plain_line t l all.0 e)
    ∙ plain_joined (t ++ plain_marks l) ls all.1 (outside_behind t l all.0 e)
    ∙ ap Ok (append_assoc t (plain_marks l) (plain_text ls))

plain_kept : (ls : List Line) → AllByRecursion IsPlain ls → kept ls ≡ ls
plain_kept [] all = refl
plain_kept (l ∷ ls) all =
    ap (λ b. cond (not b) (l ∷ kept ls) (kept ls)) all.0.kept ∙ ap (λ (rest : List Line). l ∷ rest) (plain_kept ls all.1)

plain_good : (ls : List Line) → AllByRecursion IsPlain ls → first_bad ls ≡ None
unfolding first_bad
plain_good [] all = refl
plain_good (l ∷ ls) all =
    ap (λ (b : Option ℕ). bad_or l.0 b (first_bad ls)) all.0.good ∙ plain_good ls all.1

pub plain_source : (bytes : List ℕ) → All IsPlain (numbered_lines bytes) → source_text bytes ≡ Ok (plain_text (numbered_lines bytes))
unfolding source_text
plain_source bytes all =
    let ls = numbered_lines bytes in
    let each = recursion_from_All IsPlain ls all in
    ap (λ (b : Option Place). refused_first b (joined [] (kept ls))) (plain_good ls each)
    ∙ ap (joined []) (plain_kept ls each)
    ∙ plain_joined [] ls each refl
