-- A text between its marks is cut off whole.
use Rattle.std.proofs.Common.{◌≡◌, ℕ, ◌+◌, ◌-◌, ◌<◌, ◌≤◌, Bool, true, false, cond, eqb, leb, List, [], ◌∷◌, ◌++◌, length, take, refl, ap, ◌∙◌, sym, subst, arith, length-append, Option, Some, None}
use Rattle.std.specs.Prelude.{◌&&◌}
use Rattle.std.proofs.Math.Seq.{take-append_seam}
use Rattle.std.proofs.lemmas.Bool.{eqb-true, eq-eqb}
use Rattle.std.proofs.lemmas.Bool.Decides.{nat_tests}
use Rattle.std.proofs.lemmas.List.{length-map, take-map}
use Rattle.cob_lex.specs.declared.text.Mark.{Mark}
use Rattle.cob_lex.specs.declared.mark.Class.TheVariants.{QuotationMark}
use Rattle.cob_lex.specs.declared.cut.Shape.TheVariants.{Literal}
use Rattle.cob_lex.specs.Marks.{class_of, undoubled, content}
use Rattle.cob_lex.specs.Cuts.{token_of_len, ended, is_literal, literal_token, cut}
use Rattle.cob_lex.specs.Characters.{ch_at, characters, is_gap, ends_rightly}
use Rattle.cob_lex.specs.Tokens.{doubled, IsText}
use Rattle.cob_lex.specs.Literal.{is_quotation}
use Rattle.cob_lex.proofs.Doubled.{closes}
use Rattle.cob_lex.proofs.CutOff.{at, cut_by, ended_at}

-- ---- doubled marks count as one
taken : (q : ℕ) (m : Mark) (ms : List Mark) → eqb m.ch q ≡ false → undoubled q false (m ∷ ms) ≡ m.ch ∷ undoubled q false ms
unfolding undoubled
taken q m ms e = rw e refl

taken_mark : (q : ℕ) (m : Mark) (ms : List Mark) → eqb m.ch q ≡ true → undoubled q false (m ∷ ms) ≡ m.ch ∷ undoubled q true ms
unfolding undoubled
taken_mark q m ms e = rw e refl

skipped : (q : ℕ) (m : Mark) (ms : List Mark) → eqb m.ch q ≡ true → undoubled q true (m ∷ ms) ≡ undoubled q false ms
unfolding undoubled
skipped q m ms e = rw e refl

none_undoubled : (q : ℕ) → undoubled q false [] ≡ []
unfolding undoubled
none_undoubled q = refl

halved : (q : ℕ) (c : List ℕ) (xs : List Mark) → characters xs ≡ doubled q c → undoubled q false xs ≡ c
halved q [] [] e = none_undoubled q
halved q [] (m ∷ xs) e = absurd cc
halved q (c ∷ cs) xs e = by_mark (eqb c q) refl xs e (λ rest g. halved q cs rest g)
  where
    by_mark : (b : Bool) → eqb c q ≡ b → (xs : List Mark) → characters xs ≡ cond b (q ∷ q ∷ doubled q cs) (c ∷ doubled q cs) → ((rest : List Mark) → characters rest ≡ doubled q cs → undoubled q false rest ≡ cs) → undoubled q false xs ≡ c ∷ cs
    by_mark true d [] g next = absurd cc
    by_mark true d (m ∷ []) g next = absurd cc
    by_mark true d (m ∷ n ∷ rest) g next =
        let one : m.ch ≡ q = cc in
        let two : n.ch ≡ q = cc in
        let same = eqb-true c q d in
        let tail = next rest cc in
        let first = taken_mark q m (n ∷ rest) (eq-eqb m.ch q one) in
        let then_ = skipped q n rest (eq-eqb n.ch q two) in
        cc
    by_mark false d [] g next = absurd cc
    by_mark false d (m ∷ rest) g next =
        let one : m.ch ≡ c = cc in
        let tail = next rest cc in
        let first = taken q m rest (ap (λ x. eqb x q) one ∙ d) in
        cc

-- ---- the content
pub content_is : (q : ℕ) (c : List ℕ) (m : Mark) (rest : List Mark) → m.ch ≡ q → characters rest ≡ doubled q c ++ q ∷ [] → content (m ∷ rest) ≡ c
content_is q c m rest e f =
    let width : length rest ≡ length (doubled q c) + 1 = sym (length-map rest (λ (m : Mark). m.ch)) ∙ ap length f ∙ length-append (doubled q c) (q ∷ []) in
    let n : length (m ∷ rest) - 2 ≡ length (doubled q c) = omega (arith, width) in
    let inner : characters (take (length (doubled q c)) rest) ≡ doubled q c = sym (take-map (λ (m : Mark). m.ch) (length (doubled q c)) rest) ∙ ap (λ xs. take (length (doubled q c)) xs) f ∙ take-append_seam (doubled q c) (q ∷ []) in
    rw (n, e) (halved q c (take (length (doubled q c)) rest) inner)

quote_class : (q : ℕ) → is_quotation q ≡ true → class_of q ≡ QuotationMark
quote_class q e = grind (arith, nat_tests)

quote_no_gap : (m : Mark) (xs : List Mark) → is_quotation m.ch ≡ true → is_gap (m ∷ xs) ≡ false
quote_no_gap m xs e = grind (arith, nat_tests)

no_mark_ends : (q : ℕ) (xs : List Mark) → is_quotation q ≡ true → ends_rightly xs ≡ true → eqb (ch_at xs 0) q ≡ false
no_mark_ends q xs e f = grind (arith, nat_tests)

fits : (n : ℕ) → 0 < n → n ≤ 160 → (leb 1 n && leb n 160) ≡ true
fits n h g = grind (arith, nat_tests)

literal_there : (n : ℕ) (front text : List Mark) → take (n + 1) text ≡ front → is_literal front ≡ true → ended Literal (n + 1) text ≡ Some (token_of_len Literal (length front)) → literal_token (Some n) text ≡ Some (token_of_len Literal (length front))
literal_there n front text e f g = subst (λ (b : Bool). cond b (ended Literal (n + 1) text) None ≡ Some (token_of_len Literal (length front))) (sym (ap is_literal e ∙ f)) g

pub text_read : (free : Bool) (front behind : List Mark) → IsText front → ends_rightly behind ≡ true → cut (at free) (front ++ behind) ≡ Some (token_of_len Literal (length front))
text_read free [] behind is e = absurd (let f = is.spells in cc)
text_read free (m ∷ rest) behind is e =
    let spells = is.spells in
    let q : m.ch ≡ is.quote = cc in
    let f : characters rest ≡ doubled is.quote is.content ++ is.quote ∷ [] = cc in
    let mark : is_quotation m.ch ≡ true = ap is_quotation q ∙ is.mark in
    let g : characters rest ≡ doubled m.ch is.content ++ m.ch ∷ [] = rw q f in
    let len = closes m.ch is.content rest behind g (no_mark_ends m.ch behind mark e) in
    let whole : content (m ∷ rest) ≡ is.content = content_is m.ch is.content m rest refl g in
    let size : is_literal (m ∷ rest) ≡ true = rw whole (fits (length is.content) is.some is.few) in
    let one : length rest + 1 ≡ length (m ∷ rest) = omega arith in
    cut_by free QuotationMark m (rest ++ behind) (quote_no_gap m (rest ++ behind) mark) (quote_class m.ch mark)
    ∙ ap (λ (o : Option ℕ). literal_token o (m ∷ rest ++ behind)) len
    ∙ literal_there (length rest) (m ∷ rest) (m ∷ rest ++ behind) (ap (λ n. take n (m ∷ rest ++ behind)) one ∙ take-append_seam (m ∷ rest) behind) size (ap (λ n. ended Literal n (m ∷ rest ++ behind)) one ∙ ended_at Literal (m ∷ rest) behind e)

-- the content of a text is what stands doubled in it
pub whole_content : (front : List Mark) (is : IsText front) → content front ≡ is.content
whole_content [] is = absurd (let f = is.spells in cc)
whole_content (m ∷ rest) is =
    let spells = is.spells in
    let q : m.ch ≡ is.quote = cc in
    let f : characters rest ≡ doubled is.quote is.content ++ is.quote ∷ [] = cc in
    content_is is.quote is.content m rest q f
