-- What the scanner cuts off stands there.
use Rattle.std.proofs.Common.{◌≡◌, ℕ, suc, ◌+◌, ◌≤◌, Bool, true, false, cond, eqb, leb, List, [], ◌∷◌, ◌++◌, length, drop, take, refl, ap, ◌∙◌, sym, subst, arith, Option, Some, None, ◌⊎◌, inl, inr}
use Rattle.std.specs.Prelude.{◌&&◌, ◌||◌}
use Rattle.std.proofs.lemmas.Bool.{and_parts, eqb-true, leb-true, cases_Bool}
use Rattle.std.proofs.lemmas.Bool.Decides.{nat_tests}
use Rattle.std.proofs.lemmas.List.{take-append-drop}
use Rattle.std.proofs.Math.Seq.{take-append_seam, drop-append_seam}
use Rattle.cob_tree.specs.declared.token.Rel.TheVariants.{Equal, Less, Greater, AtLeast, AtMost}
use Rattle.cob_lex.specs.declared.text.Mark.{Mark}
use Rattle.cob_lex.specs.declared.mark.Class.{Class}
use Rattle.cob_lex.specs.declared.mark.Class.TheVariants.{Space, Comma, Point, Plus, Single, EqualSign, LessSign, GreaterSign, QuotationMark, Run, Other}
use Rattle.cob_lex.specs.declared.cut.Shape.{Shape}
use Rattle.cob_lex.specs.declared.cut.Shape.TheVariants.{Word, Number, Literal, Symbol, Relation, Stop, PictureString}
use Rattle.cob_lex.specs.declared.cut.Due.{Due}
use Rattle.cob_lex.specs.declared.cut.Due.TheVariants.{Nothing, BehindPic, BehindIs}
use Rattle.cob_lex.specs.declared.cut.State.{State}
use Rattle.cob_tree.specs.declared.keyword.Keyword.TheVariants.{Is}
use Rattle.cob_lex.specs.declared.cut.Cut.{Cut}
use Rattle.cob_lex.specs.Marks.{class_of, run_len, run_of, literal_len, content, solid_len}
use Rattle.cob_lex.specs.WordTests.{is_unsigned}
use Rattle.cob_lex.specs.Cuts.{token_of_len, gap, single, ended, run_token, plus_token, point_token, angle_token, is_literal, literal_token, picture_token, is_is, token_by, cut}
use Rattle.cob_lex.specs.Characters.{ch_at, is_digit, is_word_character, is_gap, ends_rightly}
use Rattle.cob_lex.specs.Literal.{is_quotation}
use Rattle.cob_lex.specs.Tokens.{NumberFollows, IsFollows, IsDue, is_mark, Stands, with_sign, a_separator, a_number, a_text, a_relation, a_stop, the_word_is, a_picture}
use Rattle.cob_lex.proofs.Runs.{number_run}
use Rattle.cob_lex.proofs.RunTests.{is_the_number, number_is}
use Rattle.cob_lex.proofs.CutOff.{is_single, at, cut_by, run_is}
use Rattle.cob_lex.proofs.RunsFound.{IsThere, mark_stands, run_found, some_cut, run_width}
use Rattle.cob_lex.proofs.Doubled.{closed}
use Rattle.cob_lex.proofs.TextRow.{content_is}
use Rattle.cob_lex.proofs.RowsCut.{cut_token, is_seen, sees_is}
use Rattle.cob_lex.proofs.PictureFound.{picture_found}

-- a token of one character
one_there : (free : Bool) (shape : Shape) (m : Mark) (ms : List Mark) (c : Cut) → single shape ≡ Some c → Stands free Nothing (m ∷ []) ms (Some shape) → IsThere free (m ∷ ms) c
one_there free shape m ms c e h = subst (IsThere free (m ∷ ms)) (let f : token_of_len shape 1 ≡ c = cc in f) h

-- ---- plus
no_number : (ms : List Mark) → is_unsigned (run_of ms) ≡ false → NumberFollows ms → ⊥
no_number ms e h =
    let run : run_of ms ≡ h.number = subst (λ (t : List Mark). run_of t ≡ h.number) (sym h.parts) (run_is h.number h.rest (number_run h.number h.rest h.is.characters h.is.point h.is.last h.ends)) in
    let f = number_is h.number h.is in
    let g : is_unsigned (run_of ms) ≡ true = ap is_unsigned run ∙ f in
    cc

no_plus_hyphen : (ch : ℕ) → ch ≡ 43 → ch ≡ 45 → ⊥
no_plus_hyphen ch e f = omega (arith, e, f)

plus_stands : (free : Bool) (m : Mark) (ms : List Mark) → m.ch ≡ 43 → (free ≡ false) ⊎ (NumberFollows ms → ⊥) → Stands free Nothing (m ∷ []) ms (Some Symbol)
plus_stands free m ms code cause = mark_stands free m ms (rw code refl) (record { hyphen = λ e. absurd (no_plus_hyphen m.ch code e); plus = λ e. by_cause cause })
  where
    by_cause : (free ≡ false) ⊎ (NumberFollows ms → ⊥) → free ≡ true → NumberFollows ms → ⊥
    by_cause (inl f) g h = absurd cc
    by_cause (inr none) g h = none h

single_stands : (free : Bool) (m : Mark) (ms : List Mark) → is_single m.ch ≡ true → Stands free Nothing (m ∷ []) ms (Some Symbol)
single_stands free m ms is = mark_stands free m ms (a_mark_too m.ch is) (record { hyphen = λ e. absurd (none_of_both m.ch 45 is e refl); plus = λ e. absurd (none_of_both m.ch 43 is e refl) })
  where
    a_mark_too : (ch : ℕ) → is_single ch ≡ true → is_mark ch ≡ true
    a_mark_too ch e = grind (arith, nat_tests)

    none_of_both : (ch k : ℕ) → is_single ch ≡ true → ch ≡ k → is_single k ≡ false → ⊥
    none_of_both ch k is e none = let f : is_single k ≡ true = subst (λ c. is_single c ≡ true) e is in cc

plus_there : (free : Bool) (m : Mark) (ms : List Mark) (c : Cut) → m.ch ≡ 43 → plus_token free (run_of ms) (m ∷ ms) ≡ Some c → IsThere free (m ∷ ms) c
plus_there false m ms c code e = one_there false Symbol m ms c e (plus_stands false m ms code (inl refl))
plus_there true m ms c code e = by_number (is_unsigned (run_of ms)) refl
  where
    by_number : (b : Bool) → is_unsigned (run_of ms) ≡ b → IsThere true (m ∷ ms) c
    by_number false f = one_there true Symbol m ms c (let g : single Symbol ≡ Some c = rw f at e in g) (plus_stands true m ms code (inr (no_number ms f)))
    by_number true f =
        let r = some_cut Number (length (run_of ms) + 1) (m ∷ ms) c (let g : ended Number (length (run_of ms) + 1) (m ∷ ms) ≡ Some c = rw f at e in g) in
        let n : length (run_of ms) + 1 ≡ suc (run_len ms) = let w = run_width ms in omega (arith, w) in
        let ends : ends_rightly (drop (run_len ms) ms) ≡ true = subst (λ k. ends_rightly (drop k (m ∷ ms)) ≡ true) n r.0 in
        subst (IsThere true (m ∷ ms)) (ap (λ k. token_of_len Number k) (sym n) ∙ r.1) (a_number (with_sign (rw code refl) (is_the_number (run_of ms) f)) (λ s. refl) ends)

-- ---- points
point_there : (free : Bool) (m : Mark) (ms : List Mark) (c : Cut) → m.ch ≡ 46 → point_token free (m ∷ ms) ≡ Some c → IsThere free (m ∷ ms) c
point_there free m ms c code e = by_space (eqb (ch_at ms 0) 32) refl
  where
    by_digit : (b : Bool) → is_digit (ch_at ms 0) ≡ b → cond b (run_token free (run_of (m ∷ ms)) (m ∷ ms)) None ≡ Some c → IsThere free (m ∷ ms) c
    by_digit true f g = run_found free (m ∷ ms) c g
    by_digit false f g = absurd cc

    by_space : (b : Bool) → eqb (ch_at ms 0) 32 ≡ b → IsThere free (m ∷ ms) c
    by_space true f = one_there free Stop m ms c (let g : single Stop ≡ Some c = rw f at e in g) (a_stop (ap (λ (c : ℕ). c ∷ []) code) (eqb-true (ch_at ms 0) 32 f))
    by_space false f = by_digit (is_digit (ch_at ms 0)) refl (rw f at e)

-- ---- `<` and `>`
both : (a b c d : ℕ) → a ≡ c → b ≡ d → a ∷ b ∷ [] ≡ c ∷ d ∷ []
both a b c d e f = rw (e, f) refl

less_there : (free : Bool) (m : Mark) (ms : List Mark) (c : Cut) → m.ch ≡ 60 → angle_token Less AtMost (m ∷ ms) ≡ Some c → IsThere free (m ∷ ms) c
less_there free m [] c code e = one_there free (Relation Less) m [] c e (a_relation Less (ap (λ (c : ℕ). c ∷ []) code) (λ s. refl))
less_there free m (n ∷ ms) c code e = by_equal (eqb n.ch 61) refl e
  where
    by_equal : (b : Bool) → eqb n.ch 61 ≡ b → cond b (Some (token_of_len (Relation AtMost) 2)) (single (Relation Less)) ≡ Some c → IsThere free (m ∷ n ∷ ms) c
    by_equal true f g = subst (IsThere free (m ∷ n ∷ ms)) (let h : token_of_len (Relation AtMost) 2 ≡ c = cc in h) (a_relation AtMost (both m.ch n.ch 60 61 code (eqb-true n.ch 61 f)) (λ s. absurd (let g : false ≡ true = s in cc)))
    by_equal false f g = one_there free (Relation Less) m (n ∷ ms) c g (a_relation Less (ap (λ (c : ℕ). c ∷ []) code) (λ s. f))

greater_there : (free : Bool) (m : Mark) (ms : List Mark) (c : Cut) → m.ch ≡ 62 → angle_token Greater AtLeast (m ∷ ms) ≡ Some c → IsThere free (m ∷ ms) c
greater_there free m [] c code e = one_there free (Relation Greater) m [] c e (a_relation Greater (ap (λ (c : ℕ). c ∷ []) code) (λ s. refl))
greater_there free m (n ∷ ms) c code e = by_equal (eqb n.ch 61) refl e
  where
    by_equal : (b : Bool) → eqb n.ch 61 ≡ b → cond b (Some (token_of_len (Relation AtLeast) 2)) (single (Relation Greater)) ≡ Some c → IsThere free (m ∷ n ∷ ms) c
    by_equal true f g = subst (IsThere free (m ∷ n ∷ ms)) (let h : token_of_len (Relation AtLeast) 2 ≡ c = cc in h) (a_relation AtLeast (both m.ch n.ch 62 61 code (eqb-true n.ch 61 f)) (λ s. absurd (let g : false ≡ true = s in cc)))
    by_equal false f g = one_there free (Relation Greater) m (n ∷ ms) c g (a_relation Greater (ap (λ (c : ℕ). c ∷ []) code) (λ s. f))

-- ---- texts
text_there : (free : Bool) (m : Mark) (ms : List Mark) (c : Cut) → is_quotation m.ch ≡ true → (o : Option ℕ) → literal_len m.ch false ms ≡ o → literal_token o (m ∷ ms) ≡ Some c → IsThere free (m ∷ ms) c
text_there free m ms c mark None len e = absurd cc
text_there free m ms c mark (Some n) len e = by_size (is_literal (take (n + 1) (m ∷ ms))) refl e
  where
    one : n + 1 ≡ suc n
    one = omega arith

    not_space : eqb 32 m.ch ≡ false
    not_space = no_space m.ch mark
      where
        no_space : (q : ℕ) → is_quotation q ≡ true → eqb 32 q ≡ false
        no_space q e = grind (arith, nat_tests)

    by_size : (b : Bool) → is_literal (take (n + 1) (m ∷ ms)) ≡ b → cond b (ended Literal (n + 1) (m ∷ ms)) None ≡ Some c → IsThere free (m ∷ ms) c
    by_size false f g = absurd cc
    by_size true f g =
        let r = some_cut Literal (n + 1) (m ∷ ms) c g in
        let t = closed m.ch n ms not_space len in
        let whole : content (m ∷ take n ms) ≡ t.content = content_is m.ch t.content m (take n ms) refl t.spells in
        let size : (leb 1 (length (content (m ∷ take n ms))) && leb (length (content (m ∷ take n ms))) 160) ≡ true = subst (λ k. is_literal (take k (m ∷ ms)) ≡ true) one f in
        let p = and_parts (leb 1 (length (content (m ∷ take n ms)))) (leb (length (content (m ∷ take n ms))) 160) size in
        let some : 1 ≤ length (content (m ∷ take n ms)) = leb-true 1 (length (content (m ∷ take n ms))) p.0 in
        let few : length (content (m ∷ take n ms)) ≤ 160 = leb-true (length (content (m ∷ take n ms))) 160 p.1 in
        let w = ap (λ (l : List ℕ). length l) whole in
        let ends : ends_rightly (drop n ms) ≡ true = subst (λ k. ends_rightly (drop k (m ∷ ms)) ≡ true) one r.0 in
        subst (IsThere free (m ∷ ms)) (ap (λ k. token_of_len Literal k) (sym one) ∙ r.1)
        (a_text (record { quote = m.ch; content = t.content; mark = mark; some = omega (arith, some, w); few = omega (arith, few, w); spells = ap (λ (l : List ℕ). m.ch ∷ l) t.spells }) ends)

-- ---- by classes
-- what a class says of its character
abbrev IsOf : Class → ℕ → Type 0
IsOf Point ch = ch ≡ 46
IsOf Plus ch = ch ≡ 43
IsOf Single ch = is_single ch ≡ true
IsOf EqualSign ch = ch ≡ 61
IsOf LessSign ch = ch ≡ 60
IsOf GreaterSign ch = ch ≡ 62
IsOf QuotationMark ch = is_quotation ch ≡ true
IsOf _ ch = Unit {0}

by_class : (free : Bool) (k : Class) (m : Mark) (ms : List Mark) (c : Cut) → IsOf k m.ch → token_by k free (m ∷ ms) ≡ Some c → IsThere free (m ∷ ms) c
by_class free Space m ms c h e = absurd cc
by_class free Comma m ms c h e = absurd cc
by_class free Point m ms c h e = point_there free m ms c h e
by_class free Plus m ms c h e = plus_there free m ms c h e
by_class free Single m ms c h e = one_there free Symbol m ms c e (single_stands free m ms h)
by_class free EqualSign m ms c h e = one_there free (Relation Equal) m ms c e (a_relation Equal (ap (λ (c : ℕ). c ∷ []) h) (λ s. absurd (let g : false ≡ true = s in cc)))
by_class free LessSign m ms c h e = less_there free m ms c h e
by_class free GreaterSign m ms c h e = greater_there free m ms c h e
by_class free QuotationMark m ms c h e = text_there free m ms c h (literal_len m.ch false ms) refl e
by_class free Run m ms c h e = run_found free (m ∷ ms) c e
by_class free Other m ms c h e = absurd cc

class_says : (ch : ℕ) → IsOf (class_of ch) ch
class_says ch = space (cases_Bool (eqb ch 32))
  where
    or_cases : (a b : Bool) → (a || b) ≡ false → (a ≡ false) × (b ≡ false)
    or_cases false false e = (refl, refl)
    or_cases false true e = absurd cc
    or_cases true b e = absurd cc

    run : (b : Bool) → IsOf (cond b Run Other) ch
    run true = tt
    run false = tt

    quotation : (b : Bool) → is_quotation ch ≡ b → IsOf (cond b QuotationMark (cond (is_word_character ch) Run Other)) ch
    quotation true e = e
    quotation false e = run (is_word_character ch)

    greater_ : (b : Bool) → eqb ch 62 ≡ b → IsOf (cond b GreaterSign (cond (is_quotation ch) QuotationMark (cond (is_word_character ch) Run Other))) ch
    greater_ true e = eqb-true ch 62 e
    greater_ false e = quotation (is_quotation ch) refl

    less_ : (b : Bool) → eqb ch 60 ≡ b → IsOf (cond b LessSign (cond (eqb ch 62) GreaterSign (cond (is_quotation ch) QuotationMark (cond (is_word_character ch) Run Other)))) ch
    less_ true e = eqb-true ch 60 e
    less_ false e = greater_ (eqb ch 62) refl

    equal_ : (b : Bool) → eqb ch 61 ≡ b → IsOf (cond b EqualSign (cond (eqb ch 60) LessSign (cond (eqb ch 62) GreaterSign (cond (is_quotation ch) QuotationMark (cond (is_word_character ch) Run Other))))) ch
    equal_ true e = eqb-true ch 61 e
    equal_ false e = less_ (eqb ch 60) refl

    single_ : (b : Bool) → is_single ch ≡ b → IsOf (cond b Single (cond (eqb ch 61) EqualSign (cond (eqb ch 60) LessSign (cond (eqb ch 62) GreaterSign (cond (is_quotation ch) QuotationMark (cond (is_word_character ch) Run Other)))))) ch
    single_ true e = e
    single_ false e = equal_ (eqb ch 61) refl

    plus_ : (b : Bool) → eqb ch 43 ≡ b → IsOf (cond b Plus (cond (is_single ch) Single (cond (eqb ch 61) EqualSign (cond (eqb ch 60) LessSign (cond (eqb ch 62) GreaterSign (cond (is_quotation ch) QuotationMark (cond (is_word_character ch) Run Other))))))) ch
    plus_ true e = eqb-true ch 43 e
    plus_ false e = single_ (is_single ch) refl

    point_ : (b : Bool) → eqb ch 46 ≡ b → IsOf (cond b Point (cond (eqb ch 43) Plus (cond (is_single ch) Single (cond (eqb ch 61) EqualSign (cond (eqb ch 60) LessSign (cond (eqb ch 62) GreaterSign (cond (is_quotation ch) QuotationMark (cond (is_word_character ch) Run Other)))))))) ch
    point_ true e = eqb-true ch 46 e
    point_ false e = plus_ (eqb ch 43) refl

    comma : (b : Bool) → IsOf (cond b Comma (cond (eqb ch 46) Point (cond (eqb ch 43) Plus (cond (is_single ch) Single (cond (eqb ch 61) EqualSign (cond (eqb ch 60) LessSign (cond (eqb ch 62) GreaterSign (cond (is_quotation ch) QuotationMark (cond (is_word_character ch) Run Other))))))))) ch
    comma true = tt
    comma false = point_ (eqb ch 46) refl

    space : (eqb ch 32 ≡ true) ⊎ (eqb ch 32 ≡ false) → IsOf (class_of ch) ch
    space (inl e) = rw e tt
    space (inr e) = rw e (comma (eqb ch 44 || eqb ch 59))

gap_cut : (free : Bool) (m : Mark) (ms : List Mark) → is_gap (m ∷ ms) ≡ true → cut (at free) (m ∷ ms) ≡ Some gap
unfolding cut
gap_cut free m ms e = rw e refl

found : (free : Bool) (m : Mark) (ms : List Mark) (c : Cut) → cut (at free) (m ∷ ms) ≡ Some c → IsThere free (m ∷ ms) c
found free m ms c e = by_gap (cases_Bool (is_gap (m ∷ ms)))
  where
    by_gap : (is_gap (m ∷ ms) ≡ true) ⊎ (is_gap (m ∷ ms) ≡ false) → IsThere free (m ∷ ms) c
    by_gap (inl g) = let f = gap_cut free m ms g in subst (IsThere free (m ∷ ms)) (let h : gap ≡ c = cc in h) (a_separator g)
    by_gap (inr g) = by_class free (class_of m.ch) m ms c (class_says m.ch) (sym (cut_by free (class_of m.ch) m ms g refl) ∙ e)

-- ---- behind PIC

-- what is cut off stands there, whatever is due
abbrev pub StandsThere : State → List Mark → Cut → Type 0
StandsThere s text c = Stands s.free s.due (take c.length text) (drop c.length text) c.shape

at_seam : (free : Bool) (due : Due) (text front behind : List Mark) (shape : Option Shape) → text ≡ front ++ behind → Stands free due front behind shape → Stands free due (take (length front) text) (drop (length front) text) shape
at_seam free due text front behind shape e h =
    subst (λ (t : List Mark). Stands free due (take (length front) t) (drop (length front) t) shape) (sym e)
    (rw (take-append_seam front behind, drop-append_seam front behind) h)

is_there : (free : Bool) (text : List Mark) (c : Cut) → is_is (run_of text) text ≡ true → token_of_len (Word (Some Is)) (length (run_of text)) ≡ c → StandsThere (record { free = free; due = BehindPic }) text c
is_there free text c seen e =
    let is = is_seen text seen in
    let w = run_width text in
    subst (StandsThere (record { free = free; due = BehindPic }) text) e
    (at_seam free BehindPic text (run_of text) (drop (run_len text) text) (Some (Word (Some Is))) (sym (take-append-drop (run_len text) text))
    (the_word_is is.0 (subst (λ n. ends_rightly (drop n text) ≡ true) w is.1)))

-- where the word IS isn't seen, it doesn't stand
is_missing : (text : List Mark) → is_is (run_of text) text ≡ false → IsFollows text → ⊥
is_missing text none h =
    let seen = sees_is h.word h.rest h.is h.ends in
    let there : is_is (run_of text) text ≡ true = subst (λ (t : List Mark). is_is (run_of t) t ≡ true) (sym h.parts) (ap (λ (r : List Mark). is_is r (h.word ++ h.rest)) seen.0 ∙ seen.1) in
    cc

picture_there : (free : Bool) (due : Due) (text : List Mark) (c : Cut) → picture_token (take (solid_len text) text) ≡ Some c → IsDue due text → StandsThere (record { free = free; due = due }) text c
picture_there free due text c e is_due =
    let p = picture_found text c e in
    subst (StandsThere (record { free = free; due = due }) text) p.cut_is
    (at_seam free due text p.front p.behind (Some PictureString) p.parts (a_picture p.is p.ends (subst (IsDue due) p.parts is_due)))

token_found : (free : Bool) (due : Due) (m : Mark) (ms : List Mark) (c : Cut) → cut (record { free = free; due = due }) (m ∷ ms) ≡ Some c → is_gap (m ∷ ms) ≡ false → StandsThere (record { free = free; due = due }) (m ∷ ms) c
token_found free Nothing m ms c e g = found free m ms c e
token_found free BehindIs m ms c e g = picture_there free BehindIs (m ∷ ms) c (sym (cut_token (record { free = free; due = BehindIs }) (m ∷ ms) g) ∙ e) tt
token_found free BehindPic m ms c e g = by_is (is_is (run_of (m ∷ ms)) (m ∷ ms)) refl (sym (cut_token (record { free = free; due = BehindPic }) (m ∷ ms) g) ∙ e)
  where
    by_is : (b : Bool) → is_is (run_of (m ∷ ms)) (m ∷ ms) ≡ b → cond b (Some (token_of_len (Word (Some Is)) (length (run_of (m ∷ ms))))) (picture_token (take (solid_len (m ∷ ms)) (m ∷ ms))) ≡ Some c → StandsThere (record { free = free; due = BehindPic }) (m ∷ ms) c
    by_is true f h = is_there free (m ∷ ms) c f (let same : token_of_len (Word (Some Is)) (length (run_of (m ∷ ms))) ≡ c = cc in same)
    by_is false f h = picture_there free BehindPic (m ∷ ms) c h (is_missing (m ∷ ms) f)

any_gap : (s : State) (m : Mark) (ms : List Mark) → is_gap (m ∷ ms) ≡ true → cut s (m ∷ ms) ≡ Some gap
unfolding cut
any_gap s m ms e = rw e refl

-- what is cut off stands there
pub cut_stands : (free : Bool) (due : Due) (m : Mark) (ms : List Mark) (c : Cut) → cut (record { free = free; due = due }) (m ∷ ms) ≡ Some c → StandsThere (record { free = free; due = due }) (m ∷ ms) c
cut_stands free due m ms c e = by_gap (cases_Bool (is_gap (m ∷ ms)))
  where
    by_gap : (is_gap (m ∷ ms) ≡ true) ⊎ (is_gap (m ∷ ms) ≡ false) → StandsThere (record { free = free; due = due }) (m ∷ ms) c
    by_gap (inl g) = let f = any_gap (record { free = free; due = due }) m ms g in subst (StandsThere (record { free = free; due = due }) (m ∷ ms)) (let h : gap ≡ c = cc in h) (a_separator g)
    by_gap (inr g) = token_found free due m ms c e g
