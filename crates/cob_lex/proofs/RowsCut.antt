-- Each row: what stands at the beginning of a text is cut off whole.
use Rattle.std.proofs.Common.{◌≡◌, ℕ, ◌-◌, Bool, true, false, cond, eqb, List, [], ◌∷◌, ◌++◌, length, drop, take, refl, ap, sym, subst, ◌∙◌, arith, Option, Some, None, ◌⊎◌, inl, inr}
use Rattle.std.specs.Prelude.{◌&&◌, ◌||◌}
use Rattle.std.specs.List.{list_all}
use Rattle.std.proofs.Math.Seq.{drop-append_seam}
use Rattle.std.proofs.lemmas.List.{take-append-drop}
use Rattle.std.proofs.lemmas.Bool.{eqb-true, eq-eqb, cases_Bool, and_parts}
use Rattle.std.proofs.lemmas.Bool.Decides.{nat_tests}
use Rattle.cob_tree.specs.declared.keyword.Keyword.{Keyword}
use Rattle.cob_tree.specs.declared.keyword.Keyword.TheVariants.{Is}
use Rattle.cob_tree.specs.declared.token.Rel.{Rel}
use Rattle.cob_tree.specs.declared.token.Rel.TheVariants.{Equal, Less, Greater, AtLeast, AtMost}
use Rattle.cob_lex.specs.declared.text.Mark.{Mark}
use Rattle.cob_lex.specs.declared.mark.Class.TheVariants.{EqualSign, GreaterSign}
use Rattle.cob_lex.specs.declared.cut.Shape.{Shape}
use Rattle.cob_lex.specs.declared.cut.Shape.TheVariants.{Word, Number, Symbol, Relation, Stop, PictureString}
use Rattle.cob_lex.specs.declared.cut.Due.{Due}
use Rattle.cob_lex.specs.declared.cut.Due.TheVariants.{Nothing, BehindPic, BehindIs}
use Rattle.cob_lex.specs.declared.cut.State.{State}
use Rattle.cob_lex.specs.Characters.{ch_at, characters, is_sign, is_gap, ends_rightly, is_point_comma_semicolon}
use Rattle.cob_lex.specs.Marks.{run_len, run_of, solid_len}
use Rattle.cob_lex.specs.Words.{spelled_keyword}
use Rattle.cob_lex.specs.WordTests.{is_word}
use Rattle.cob_lex.specs.Cuts.{token_of_len, gap, picture_token, is_the_word_is, is_is, token_at, cut}
use Rattle.cob_lex.specs.Tokens.{is_word_mark, IsUnsigned, IsWord, IsMark, is_mark, MarkEnds, NumberFollows, IsRelation, RelationEnds, IsStop, is_no_space, IsPicture, IsTheWordIs, IsFollows, PictureEnds, IsDue, Stands, without_sign, with_sign, a_separator, a_word, a_number, a_text, a_mark, a_relation, a_stop, the_word_is, a_picture}
use Rattle.cob_lex.proofs.Runs.{word_run, no_gap, ended_stops}
use Rattle.cob_lex.proofs.RunTests.{word_is, is_the_word}
use Rattle.cob_lex.proofs.RunsFound.{run_width}
use Rattle.cob_lex.proofs.CutOff.{is_single, at, cut_by, of_char, run_is, word_read, number_read, single_read, minus_read, less_read, at_most_read, stop_read, plus_read, minus_number_read, plus_number_read}
use Rattle.cob_lex.proofs.TextRow.{text_read}
use Rattle.cob_lex.proofs.PictureRow.{picture_before_space, picture_before_end}

gap_read : (s : State) (m : Mark) (behind : List Mark) → is_gap (m ∷ behind) ≡ true → cut s (m ∷ behind) ≡ Some gap
unfolding cut
gap_read s m behind e = rw e refl

pub cut_token : (s : State) (text : List Mark) → is_gap text ≡ false → cut s text ≡ token_at s.due s.free text
unfolding cut
cut_token s text e = rw e refl

-- ---- numbers with a sign

pub or_other : (a b : Bool) → (a || b) ≡ true → a ≡ false → b ≡ true
or_other a b e f = rw f at e

signed_read : (m : Mark) (front behind : List Mark) → is_sign m.ch ≡ true → IsUnsigned front → ends_rightly behind ≡ true → cut (at true) (m ∷ front ++ behind) ≡ Some (token_of_len Number (length (m ∷ front)))
signed_read m front behind e is f = by_plus (cases_Bool (eqb m.ch 43))
  where
    by_plus : (eqb m.ch 43 ≡ true) ⊎ (eqb m.ch 43 ≡ false) → cut (at true) (m ∷ front ++ behind) ≡ Some (token_of_len Number (length (m ∷ front)))
    by_plus (inl p) = plus_number_read m front behind (eqb-true m.ch 43 p) is f
    by_plus (inr n) = minus_number_read m front behind (eqb-true m.ch 45 (or_other (eqb m.ch 43) (eqb m.ch 45) e n)) is f

signed_at : (free : Bool) (m : Mark) (front behind : List Mark) → free ≡ true → is_sign m.ch ≡ true → IsUnsigned front → ends_rightly behind ≡ true → cut (at free) (m ∷ front ++ behind) ≡ Some (token_of_len Number (length (m ∷ front)))
signed_at free m front behind may e is f = ap (λ (b : Bool). cut (at b) (m ∷ front ++ behind)) may ∙ signed_read m front behind e is f

-- ---- marks

-- what isn't a hyphen or a plus
other_mark : (ch : ℕ) → is_mark ch ≡ true → eqb ch 43 ≡ false → eqb ch 45 ≡ false → is_single ch ≡ true
other_mark ch e f g = grind (arith, nat_tests)

no_plus : (free : Bool) (ch : ℕ) (behind : List Mark) → ch ≡ 43 → MarkEnds free ch behind → (free ≡ false) ⊎ (NumberFollows behind → ⊥)
no_plus false ch behind code ends = inl refl
no_plus true ch behind code ends = inr (ends.plus code refl)

mark_read : (free : Bool) (m : Mark) (behind : List Mark) → is_mark m.ch ≡ true → MarkEnds free m.ch behind → cut (at free) (m ∷ behind) ≡ Some (token_of_len Symbol 1)
mark_read free m behind is ends = by_plus (cases_Bool (eqb m.ch 43))
  where
    by_hyphen : eqb m.ch 43 ≡ false → (eqb m.ch 45 ≡ true) ⊎ (eqb m.ch 45 ≡ false) → cut (at free) (m ∷ behind) ≡ Some (token_of_len Symbol 1)
    by_hyphen f (inl g) = let code = eqb-true m.ch 45 g in minus_read free m behind code (ends.hyphen code)
    by_hyphen f (inr g) = single_read free m behind (other_mark m.ch is f g)

    by_plus : (eqb m.ch 43 ≡ true) ⊎ (eqb m.ch 43 ≡ false) → cut (at free) (m ∷ behind) ≡ Some (token_of_len Symbol 1)
    by_plus (inl f) = let code = eqb-true m.ch 43 f in plus_read free m behind code (no_plus free m.ch behind code ends)
    by_plus (inr f) = by_hyphen f (cases_Bool (eqb m.ch 45))

marks_read : (free : Bool) (front behind : List Mark) → IsMark front → MarkEnds free (ch_at front 0) behind → cut (at free) (front ++ behind) ≡ Some (token_of_len Symbol (length front))
marks_read free [] behind is ends = absurd (let e = is.spells in cc)
marks_read free (m ∷ []) behind is ends =
    let e : m.ch ≡ is.ch = let f = is.spells in cc in
    mark_read free m behind (ap is_mark e ∙ is.mark) ends
marks_read free (m ∷ n ∷ rest) behind is ends = absurd (let e = is.spells in cc)

-- ---- relations and Stops

equal_read : (free : Bool) (m : Mark) (behind : List Mark) → m.ch ≡ 61 → cut (at free) (m ∷ behind) ≡ Some (token_of_len (Relation Equal) 1)
equal_read free m behind e = cut_by free EqualSign m behind (rw e refl) (of_char m.ch 61 EqualSign e refl)

greater_read : (free : Bool) (m : Mark) (behind : List Mark) → m.ch ≡ 62 → eqb (ch_at behind 0) 61 ≡ false → cut (at free) (m ∷ behind) ≡ Some (token_of_len (Relation Greater) 1)
greater_read free m behind e f = cut_by free GreaterSign m behind (rw e refl) (of_char m.ch 62 GreaterSign e refl) ∙ (rw f refl)

at_least_read : (free : Bool) (m n : Mark) (behind : List Mark) → m.ch ≡ 62 → n.ch ≡ 61 → cut (at free) (m ∷ n ∷ behind) ≡ Some (token_of_len (Relation AtLeast) 2)
at_least_read free m n behind e f = cut_by free GreaterSign m (n ∷ behind) (rw e refl) (of_char m.ch 62 GreaterSign e refl) ∙ (rw f refl)

-- the characters of a list that is given
pub one_character : (front : List Mark) (c : ℕ) → characters front ≡ c ∷ [] → (m : Mark) × (front ≡ m ∷ []) × (m.ch ≡ c)
one_character [] c e = absurd cc
one_character (m ∷ []) c e = (m, refl, cc)
one_character (m ∷ n ∷ rest) c e = absurd cc

pub two_characters : (front : List Mark) (c d : ℕ) → characters front ≡ c ∷ d ∷ [] → (m : Mark) × (n : Mark) × (front ≡ m ∷ n ∷ []) × (m.ch ≡ c) × (n.ch ≡ d)
two_characters [] c d e = absurd cc
two_characters (m ∷ []) c d e = absurd cc
two_characters (m ∷ n ∷ []) c d e = (m, n, refl, cc, cc)
two_characters (m ∷ n ∷ o ∷ rest) c d e = absurd cc

abbrev IsCut : Bool → List Mark → List Mark → Shape → Type 0
IsCut free front behind shape = cut (at free) (front ++ behind) ≡ Some (token_of_len shape (length front))

relation_read : (free : Bool) (r : Rel) (front behind : List Mark) → IsRelation r front → RelationEnds r behind → IsCut free front behind (Relation r)
relation_read free Equal front behind is ends =
    let e = one_character front 61 is in
    subst (λ (f : List Mark). IsCut free f behind (Relation Equal)) (sym e.1) (equal_read free e.0 behind e.2)
relation_read free Less front behind is ends =
    let e = one_character front 60 is in
    subst (λ (f : List Mark). IsCut free f behind (Relation Less)) (sym e.1) (less_read free e.0 behind e.2 (ends refl))
relation_read free Greater front behind is ends =
    let e = one_character front 62 is in
    subst (λ (f : List Mark). IsCut free f behind (Relation Greater)) (sym e.1) (greater_read free e.0 behind e.2 (ends refl))
relation_read free AtMost front behind is ends =
    let e = two_characters front 60 61 is in
    subst (λ (f : List Mark). IsCut free f behind (Relation AtMost)) (sym e.2) (at_most_read free e.0 e.1 behind e.3 e.4)
relation_read free AtLeast front behind is ends =
    let e = two_characters front 62 61 is in
    subst (λ (f : List Mark). IsCut free f behind (Relation AtLeast)) (sym e.2) (at_least_read free e.0 e.1 behind e.3 e.4)

stops_read : (free : Bool) (front behind : List Mark) → IsStop front → ch_at behind 0 ≡ 32 → IsCut free front behind Stop
stops_read free front behind is ends =
    let e = one_character front 46 is in
    subst (λ (f : List Mark). IsCut free f behind Stop) (sym e.1) (stop_read free e.0 behind e.2 ends)

-- ---- behind PIC

the_is : (o : Option Keyword) → is_the_word_is o ≡ true → o ≡ Some Is
the_is None e = absurd cc
the_is (Some Is) e = refl
the_is (Some k) e = absurd cc

and_three : (a b c : Bool) → (a && b && c) ≡ true → (a ≡ true) × (b ≡ true) × (c ≡ true)
and_three true true true e = (refl, refl, refl)
and_three true true false e = absurd cc
and_three true false c e = absurd cc
and_three false b c e = absurd cc

-- where the scanner sees the word IS, it stands
pub is_seen : (text : List Mark) → is_is (run_of text) text ≡ true → IsTheWordIs (run_of text) × (ends_rightly (drop (length (run_of text)) text) ≡ true)
is_seen text e =
    let all = and_three (is_word (run_of text)) (is_the_word_is (spelled_keyword (run_of text))) (ends_rightly (drop (length (run_of text)) text)) e in
    (record { word = is_the_word (run_of text) all.0; spelled = the_is (spelled_keyword (run_of text)) all.1 }, all.2)

pub no_is : (text : List Mark) → (IsFollows text → ⊥) → is_is (run_of text) text ≡ false
no_is text none = by_bool (is_is (run_of text) text) refl
  where
    by_bool : (b : Bool) → is_is (run_of text) text ≡ b → b ≡ false
    by_bool false e = refl
    by_bool true e =
        let seen = is_seen text e in
        absurd (none (record { word = run_of text; rest = drop (run_len text) text; parts = sym (take-append-drop (run_len text) text); is = seen.0; ends = subst (λ n. ends_rightly (drop n text) ≡ true) (run_width text) seen.1 }))

-- and where it stands, the scanner sees it
pub sees_is : (front behind : List Mark) → IsTheWordIs front → ends_rightly behind ≡ true → (run_of (front ++ behind) ≡ front) × (is_is front (front ++ behind) ≡ true)
sees_is front behind is ends =
    (run_is front behind (word_run front behind is.word.characters (ended_stops behind ends)), rw (word_is front is.word, is.spelled, drop-append_seam front behind, ends) refl)

word_no_gap : (front behind : List Mark) → IsWord front → is_gap (front ++ behind) ≡ false
word_no_gap [] behind is = absurd (let some = is.some in omega (arith, some))
word_no_gap (m ∷ front) behind is = no_gap m (front ++ behind) (and_parts (is_word_mark m) (list_all is_word_mark front) is.characters).0

is_read : (free : Bool) (front behind : List Mark) → IsTheWordIs front → ends_rightly behind ≡ true → cut (record { free = free; due = BehindPic }) (front ++ behind) ≡ Some (token_of_len (Word (Some Is)) (length front))
is_read free front behind is ends =
    let seen = sees_is front behind is ends in
    cut_token (record { free = free; due = BehindPic }) (front ++ behind) (word_no_gap front behind is.word)
    ∙ ap (λ (r : List Mark). cond (is_is r (front ++ behind)) (Some (token_of_len (Word (Some Is)) (length r))) (picture_token (take (solid_len (front ++ behind)) (front ++ behind)))) seen.0
    ∙ ap (λ b. cond b (Some (token_of_len (Word (Some Is)) (length front))) (picture_token (take (solid_len (front ++ behind)) (front ++ behind)))) seen.1

-- pictures
pub no_space : (m : Mark) → is_no_space m ≡ true → eqb m.ch 32 ≡ false
no_space m e = by_bool (eqb m.ch 32) refl
  where
    by_bool : (b : Bool) → eqb m.ch 32 ≡ b → b ≡ false
    by_bool false f = refl
    by_bool true f = absurd (let g : is_no_space m ≡ false = rw f refl in cc)

gap_before : (a b c d : Bool) → a ≡ false → d ≡ false → (a || ((b || c) && d)) ≡ false
gap_before a b c true e f = absurd cc
gap_before a true c false e f = rw e refl
gap_before a false true false e f = rw e refl
gap_before a false false false e f = rw e refl

picture_no_gap : (front behind : List Mark) → IsPicture front → PictureEnds front behind → is_gap (front ++ behind) ≡ false
picture_no_gap [] behind is ends = absurd (let some = is.some in omega (arith, some))
picture_no_gap (m ∷ n ∷ rest) behind is ends =
    let parts = and_parts (is_no_space m) (list_all is_no_space (n ∷ rest)) is.solid in
    let second = and_parts (is_no_space n) (list_all is_no_space rest) parts.1 in
    gap_before (eqb m.ch 32) (eqb m.ch 44) (eqb m.ch 59) (eqb n.ch 32) (no_space m parts.0) (no_space n second.0)
picture_no_gap (m ∷ []) behind is (inl (space, last)) =
    let first : eqb m.ch 32 ≡ false = no_space m (and_parts (is_no_space m) true is.solid).0 in
    let last : is_point_comma_semicolon m.ch ≡ false = last in
    alone m.ch (ch_at behind 0) first last
  where
    alone : (c d : ℕ) → eqb c 32 ≡ false → is_point_comma_semicolon c ≡ false → (eqb c 32 || ((eqb c 44 || eqb c 59) && eqb d 32)) ≡ false
    alone c d e f = grind (arith, nat_tests)
picture_no_gap (m ∷ []) behind is (inr (end, space)) =
    let first : eqb m.ch 32 ≡ false = no_space m (and_parts (is_no_space m) true is.solid).0 in
    gap_before (eqb m.ch 32) (eqb m.ch 44) (eqb m.ch 59) (eqb (ch_at behind 0) 32) first (no_space_ends (ch_at behind 0) end)
  where
    no_space_ends : (c : ℕ) → is_point_comma_semicolon c ≡ true → eqb c 32 ≡ false
    no_space_ends c e = grind (arith, nat_tests)

picture_token_read : (front behind : List Mark) → IsPicture front → PictureEnds front behind → picture_token (take (solid_len (front ++ behind)) (front ++ behind)) ≡ Some (token_of_len PictureString (length front))
picture_token_read front behind is (inl (space, last)) = picture_before_space front behind is.some is.solid (eq-eqb (ch_at behind 0) 32 space) last
picture_token_read front [] is (inr (end, space)) = absurd (let e : false ≡ true = end in cc)
picture_token_read front (m ∷ behind) is (inr (end, space)) = picture_before_end front m behind is.some is.solid end (eq-eqb (ch_at behind 0) 32 space)

picture_read : (free : Bool) (due : Due) (front behind : List Mark) → IsPicture front → PictureEnds front behind → IsDue due (front ++ behind) → cut (record { free = free; due = due }) (front ++ behind) ≡ Some (token_of_len PictureString (length front))
picture_read free Nothing front behind is ends due = absurd due
picture_read free BehindPic front behind is ends due =
    cut_token (record { free = free; due = BehindPic }) (front ++ behind) (picture_no_gap front behind is ends)
    ∙ ap (λ b. cond b (Some (token_of_len (Word (Some Is)) (length (run_of (front ++ behind))))) (picture_token (take (solid_len (front ++ behind)) (front ++ behind)))) (no_is (front ++ behind) due)
    ∙ picture_token_read front behind is ends
picture_read free BehindIs front behind is ends due =
    cut_token (record { free = free; due = BehindIs }) (front ++ behind) (picture_no_gap front behind is ends) ∙ picture_token_read front behind is ends

-- ---- all rows

pub stands_cut : {free : Bool} {due : Due} {front behind : List Mark} {shape : Option Shape} → Stands free due front behind shape → cut (record { free = free; due = due }) (front ++ behind) ≡ Some (record { shape = shape; length = length front })
stands_cut {free} {due} (a_separator {m = m} {behind = behind} e) = gap_read (record { free = free; due = due }) m behind e
stands_cut {free} {due} {front} {behind} (a_word is e) = word_read free front behind is e
stands_cut {free} {due} {front} {behind} (a_number (without_sign is) may e) = number_read free front behind is e
stands_cut {free} {due} {front} {behind} (a_number (with_sign {m = m} {front = digits} s is) may e) = signed_at free m digits behind (may s) s is e
stands_cut {free} {due} {front} {behind} (a_text is e) = text_read free front behind is e
stands_cut {free} {due} {front} {behind} (a_mark is e) = marks_read free front behind is e
stands_cut {free} {due} {front} {behind} (a_relation r is e) = relation_read free r front behind is e
stands_cut {free} {due} {front} {behind} (a_stop is e) = stops_read free front behind is e
stands_cut {free} {due} {front} {behind} (the_word_is is e) = is_read free front behind is e
stands_cut {free} {due} {front} {behind} (a_picture is e d) = picture_read free due front behind is e d
