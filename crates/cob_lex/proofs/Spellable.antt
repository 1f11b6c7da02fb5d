-- Canonical tokens are spellable, and a printed text has its tokens.
use Rattle.std.proofs.Common.{◌≡◌, inl, inr, ℕ, ◌+◌, ◌≤◌, ◌<◌, Bool, true, false, cond, eqb, ◌&&◌, List, [], ◌∷◌, ◌++◌, length, map, refl, ap, ◌∙◌, sym, subst, arith, append-nil, Option, Some, None, Result, Ok}
use Rattle.std.specs.Prelude.{◌||◌}
use Rattle.std.specs.List.{list_all, All}
use Rattle.std.specs.Str.{bytes_eq}
use Rattle.std.specs.Char.{to_ascii_uppercase}
use Rattle.std.specs.Prelude.{IfSome}
use Rattle.std.proofs.lemmas.Bool.{and_parts}
use Rattle.std.proofs.lemmas.Bool.Decides.{nat_tests}
use Rattle.std.proofs.lemmas.Slice.Eq.{bytes_eq-Decides}
use Rattle.cob_tree.specs.declared.keyword.Keyword.{Keyword}
use Rattle.cob_tree.specs.declared.token.Rel.{Rel}
use Rattle.cob_tree.specs.declared.token.Rel.TheVariants.{Equal, Less, Greater, AtLeast, AtMost}
use Rattle.cob_tree.specs.declared.token.Token.{Token}
use Rattle.cob_tree.specs.Keywords.{text_of, keywords, keyword_among, keyword_of}
use Rattle.cob_tree.proofs.KeywordLemmas.{keyword_of-text, among-written}
use Rattle.cob_tree.specs.declared.keyword.Keyword.TheVariants.{Is}
use Rattle.cob_lex.specs.declared.text.Mark.{Mark}
use Rattle.cob_lex.specs.declared.cut.Shape.{Shape}
use Rattle.cob_lex.specs.declared.cut.Shape.TheVariants.{Word, Number, Padded, Literal, Symbol, Relation, Stop, PictureString}
use Rattle.cob_lex.specs.declared.cut.Due.{Due}
use Rattle.cob_lex.specs.declared.cut.Due.TheVariants.{Nothing, BehindPic, BehindIs}
use Rattle.cob_lex.specs.declared.piece.Piece.{Piece}
use Rattle.cob_lex.specs.Characters.{ch_at, last_ch, characters, is_digit, is_sign, is_gap, goes_on}
use Rattle.cob_lex.specs.Words.{raised, spelled_keyword}
use Rattle.cob_lex.specs.WordTests.{is_word}
use Rattle.cob_lex.specs.Tokens.{IsNumber, IsUnsigned, without_sign, with_sign, is_decimal_mark, is_digit_mark, is_point, written_relation, MarkEnds, NumberFollows, IsFollows, Stands, a_separator, a_word, a_number, a_text, a_mark, a_relation, a_stop, the_word_is, a_picture, is_opening, due_after}
use Rattle.cob_lex.specs.Spelled as spelled
use Rattle.cob_lex.specs.Spelled.{Part, StandBehind, pieces, IsSpelled}
use Rattle.cob_lex.specs.Rows.{rewritten}
use Rattle.cob_lex.specs.Canonical.{tok_of, characters_of, token, AreTokensOf}
use Rattle.cob_lex.specs.declared.refusal.Place.{Place}
use Rattle.cob_lex.specs.Text.{numbered_lines}
use Rattle.cob_lex.specs.Plain.{IsPlain, plain_text}
use Rattle.cob_lex.specs.Scan.{Tokens, ScansBy, Scans}
use Rattle.cob_lex.specs.Spellable.{IsSpellable, AreSpellable}
use Rattle.cob_lex.specs.Printed.{is_letter_i, IsPlaced, IsPrinted, tokens_of}
use Rattle.cob_lex.proofs.PlainLemmas.{plain_source}
use Rattle.cob_lex.proofs.RowsCut.{one_character}
use Rattle.cob_lex.proofs.Runs.{count_on, weight, or_first}
use Rattle.cob_lex.proofs.RunTests.{is_the_word}
use Rattle.cob_lex.proofs.CutOff.{some_digit}
use Rattle.cob_lex.proofs.EachToken.{HoldsOfRows, same_shape, IsKept, HoldsOfAll, raw_hold, rewritten_hold}

-- ---- reserved words

-- characters at no place
abbrev marked : List ℕ → List Mark
marked text = map (λ (c : ℕ). record { ch = c; line = 0; column = 0 }) text

abbrev is_spelled : Keyword → Bool
is_spelled k = is_word (marked (text_of k)) && bytes_eq (raised (marked (text_of k))) (text_of k)

among_all : (name : List ℕ) (ks : List Keyword) (k : Keyword) → list_all is_spelled ks ≡ true → keyword_among name ks ≡ Some k → is_spelled k ≡ true
among_all name [] k all found = absurd cc
among_all name (j ∷ ks) k all found = by_name (bytes_eq (text_of j) name) found (λ e. among_all name ks k (and_parts (is_spelled j) (list_all is_spelled ks) all).1 e)
  where
    by_name : (b : Bool) → cond b (Some j) (keyword_among name ks) ≡ Some k → (keyword_among name ks ≡ Some k → is_spelled k ≡ true) → is_spelled k ≡ true
    by_name true e later = subst (λ (x : Keyword). is_spelled x ≡ true) (same j k e) (and_parts (is_spelled j) (list_all is_spelled ks) all).0
      where
        same : (j k : Keyword) → Some j ≡ Some k → j ≡ k
        same j k e = cc
    by_name false e later = later e

keyword_spelled : (k : Keyword) → is_spelled k ≡ true
unfolding keyword_of
keyword_spelled k = among_all (text_of k) keywords k refl (keyword_of-text k)

word_spellable : (k : Keyword) (front : List Mark) → IsSpellable (tok_of (Word (Some k)) front)
word_spellable k front =
    let good = and_parts (is_word (marked (text_of k))) (bytes_eq (raised (marked (text_of k))) (text_of k)) (keyword_spelled k) in
    let capitals : raised (marked (text_of k)) ≡ text_of k = (bytes_eq-Decides (raised (marked (text_of k))) (text_of k)).0 good.1 in
    let found : Some k ≡ spelled_keyword (marked (text_of k)) = sym (ap keyword_of capitals ∙ keyword_of-text k) in
    record { shape = Word (Some k); front = marked (text_of k); own = (is_the_word (marked (text_of k)) good.0, found); token = refl }

-- ---- relations

relation_spelled : (r : Rel) → characters (marked (written_relation r)) ≡ written_relation r
relation_spelled Equal = refl
relation_spelled Less = refl
relation_spelled Greater = refl
relation_spelled AtMost = refl
relation_spelled AtLeast = refl

relation_spellable : (r : Rel) (front : List Mark) → IsSpellable (tok_of (Relation r) front)
relation_spellable r front = record { shape = Relation r; front = marked (written_relation r); own = relation_spelled r; token = refl }

-- ---- a digit with a leading zero

abbrev nought : Mark
nought = record { ch = 48; line = 0; column = 0 }

a_digit : (m : Mark) → IsUnsigned (m ∷ []) → is_digit m.ch ≡ true
a_digit m is =
    let last : eqb m.ch 46 ≡ false = is.last in
    or_first (is_digit m.ch) (eqb m.ch 46) (and_parts (is_decimal_mark m) true is.characters).0 last

digit_alone : (ch : ℕ) → is_digit ch ≡ true → (eqb ch 46 ≡ false) × (eqb ch 43 ≡ false) × (eqb ch 45 ≡ false)
digit_alone ch e = (grind (arith, nat_tests), grind (arith, nat_tests), grind (arith, nat_tests))

two_digits : (m : Mark) → is_digit m.ch ≡ true → IsUnsigned (nought ∷ m ∷ [])
two_digits m d =
    let no = digit_alone m.ch d in
    let digits = count_on is_digit_mark nought (m ∷ []) in
    let more = count_on is_digit_mark m [] in
    let points = count_on is_point nought (m ∷ []) in
    let rest = count_on is_point m [] in
    let one : weight (is_digit_mark m) ≡ 1 = rw d refl in
    let none : weight (is_point m) ≡ 0 = rw no.0 refl in
    record {
      characters = rw d refl;
      some = omega (arith, digits, more, one);
      few = omega (arith, digits, more, one);
      point = omega (arith, points, rest, none);
      last = no.0;
    }

padded_token : (m : Mark) → is_digit m.ch ≡ true → tok_of Number (nought ∷ m ∷ []) ≡ tok_of Padded (m ∷ [])
padded_token m d = let no = digit_alone m.ch d in rw (d, no.0, no.1, no.2) refl

digit_spellable : (front : List Mark) → length front ≤ 1 → IsNumber front → IsSpellable (tok_of Padded front)
digit_spellable front short (without_sign is) = unsigned front short is
  where
    unsigned : (front : List Mark) → length front ≤ 1 → IsUnsigned front → IsSpellable (tok_of Padded front)
    unsigned [] short is = absurd (let some = some_digit [] is in omega (arith, some))
    unsigned (m ∷ []) short is =
        let d = a_digit m is in
        record { shape = Number; front = nought ∷ m ∷ []; own = without_sign (two_digits m d); token = padded_token m d }
    unsigned (m ∷ n ∷ rest) short is = absurd (omega (arith, short))
digit_spellable front short (with_sign {front = digits} s is) = absurd (let some = some_digit digits is in omega (arith, some, short))

-- ---- canonical tokens

abbrev Good : Shape → List Mark → Type 0
Good (Word word) front = IsSpellable (tok_of (Word word) front)
Good Number front = IsNumber front
Good Padded front = IsSpellable (tok_of Padded front)
Good Literal front = IsSpellable (tok_of Literal front)
Good Symbol front = IsSpellable (tok_of Symbol front)
Good (Relation r) front = IsSpellable (tok_of (Relation r) front)
Good Stop front = IsSpellable (tok_of Stop front)
Good PictureString front = IsSpellable (tok_of PictureString front)

row_good : {free : Bool} {due : Due} {front behind : List Mark} {shape : Option Shape} → Stands free due front behind shape → (s : Shape) → shape ≡ Some s → Good s front
row_good {front = front} (a_separator e) s same = absurd cc
row_good {front = front} (a_word is e) s same = subst (λ (o : Shape). Good o front) (same_shape _ s same) (record { shape = Word (spelled_keyword front); front = front; own = (is, refl); token = refl })
row_good {front = front} (a_number is may e) s same = subst (λ (o : Shape). Good o front) (same_shape _ s same) is
row_good {front = front} (a_text is e) s same = subst (λ (o : Shape). Good o front) (same_shape _ s same) (record { shape = Literal; front = front; own = is; token = refl })
row_good {front = front} (a_mark is e) s same = subst (λ (o : Shape). Good o front) (same_shape _ s same) (record { shape = Symbol; front = front; own = is; token = refl })
row_good {front = front} (a_relation r is e) s same = subst (λ (o : Shape). Good o front) (same_shape _ s same) (record { shape = Relation r; front = front; own = is; token = refl })
row_good {front = front} (a_stop is e) s same = subst (λ (o : Shape). Good o front) (same_shape _ s same) (record { shape = Stop; front = front; own = is; token = refl })
row_good {front = front} (the_word_is is e) s same = subst (λ (o : Shape). Good o front) (same_shape _ s same) (record { shape = Word _; front = front; own = (is.word, sym is.spelled); token = refl })
row_good {front = front} (a_picture is e d) s same = subst (λ (o : Shape). Good o front) (same_shape _ s same) (record { shape = PictureString; front = front; own = is; token = refl })

rows_good : HoldsOfRows Good
rows_good free due front behind shape h = row_good h shape refl

kept_good : IsKept Good
kept_good = record { word = λ k shape front h. word_spellable k front; relation = λ r shape front h. relation_spellable r front; digit = λ front short h. digit_spellable front short h }

good_spellable : (shape : Shape) (front : List Mark) → Good shape front → IsSpellable (tok_of shape front)
good_spellable (Word word) front h = h
good_spellable Number front h = record { shape = Number; front = front; own = h; token = refl }
good_spellable Padded front h = h
good_spellable Literal front h = h
good_spellable Symbol front h = h
good_spellable (Relation r) front h = h
good_spellable Stop front h = h
good_spellable PictureString front h = h

all_spellable : (text : List Mark) (ps : List Piece) → HoldsOfAll text Good ps → AreSpellable (map (token text) ps)
all_spellable text [] h = tt
all_spellable text (p ∷ ps) h = (good_spellable p.shape (characters_of text p) h.0, all_spellable text ps h.1)

pub canonical_spellable : (text : List Mark) (tokens : List Token) → AreTokensOf text tokens → AreSpellable tokens
canonical_spellable text tokens h =
    let raw = pieces 0 h.parts in
    subst AreSpellable (sym h.are) (all_spellable text (rewritten raw) (rewritten_hold text Good kept_good raw (raw_hold text Good rows_good h.parts h.spelled)))

-- ---- printed texts

no_number_at_space : (behind : List Mark) → ch_at behind 0 ≡ 32 → NumberFollows behind → ⊥
no_number_at_space behind space h = by_first h.number h.is (subst (λ (t : List Mark). ch_at t 0 ≡ 32) h.parts space)
  where
    no_decimal : (ch : ℕ) → ch ≡ 32 → (is_digit ch || eqb ch 46) ≡ false
    no_decimal ch e = rw e refl

    by_first : (number : List Mark) → IsUnsigned number → ch_at (number ++ h.rest) 0 ≡ 32 → ⊥
    by_first [] is e = let some = some_digit [] is in omega (arith, some)
    by_first (m ∷ number) is e =
        let one : is_decimal_mark m ≡ true = (and_parts (is_decimal_mark m) (list_all is_decimal_mark number) is.characters).0 in
        let none : is_decimal_mark m ≡ false = no_decimal m.ch e in
        cc

mark_ends : (free : Bool) (ch : ℕ) (behind : List Mark) → (is_sign ch ≡ true → ch_at behind 0 ≡ 32) → MarkEnds free ch behind
mark_ends free ch behind spaced = record {
  hyphen = λ h. nothing_on behind (spaced (rw h refl));
  plus = λ h f. no_number_at_space behind (spaced (rw h refl));
}
  where
    nothing_on : (behind : List Mark) → ch_at behind 0 ≡ 32 → goes_on behind ≡ false
    nothing_on behind e = rw e refl

-- the word IS begins with an I
capital_i : (ch : ℕ) → to_ascii_uppercase ch ≡ 73 → is_letter_i ch ≡ true
capital_i ch e = grind (arith, nat_tests)

written_is : (word : List Mark) → spelled_keyword word ≡ Some Is → text_of Is ≡ raised word
unfolding keyword_of
written_is word e = subst (λ (o : Option Keyword). IfSome o (λ k. text_of k ≡ raised word)) e (among-written (raised word) keywords)

begins_with_i : (word rest : List Mark) → spelled_keyword word ≡ Some Is → is_letter_i (ch_at (word ++ rest) 0) ≡ true
begins_with_i [] rest e = absurd (let f : ◌≡◌ {A = List ℕ} (73 ∷ 83 ∷ []) [] = written_is [] e in cc)
begins_with_i (m ∷ word) rest e =
    let f : 73 ∷ 83 ∷ [] ≡ to_ascii_uppercase m.ch ∷ raised word = written_is (m ∷ word) e in
    capital_i m.ch (let g : to_ascii_uppercase m.ch ≡ 73 = cc in g)

no_word_is : (front behind : List Mark) → 0 < length front → is_letter_i (ch_at front 0) ≡ false → IsFollows (front ++ behind) → ⊥
no_word_is [] behind some none h = absurd (omega (arith, some))
no_word_is (m ∷ front) behind some none h =
    let there : is_letter_i m.ch ≡ true = subst (λ (t : List Mark). is_letter_i (ch_at t 0) ≡ true) (sym h.parts) (begins_with_i h.word h.rest h.is.spelled) in
    cc

space_gap : (m : Mark) (behind : List Mark) → m.ch ≡ 32 → is_gap (m ∷ behind) ≡ true
space_gap m behind e = rw e refl

semicolon_gap : (m : Mark) (behind : List Mark) → m.ch ≡ 59 → ch_at behind 0 ≡ 32 → is_gap (m ∷ behind) ≡ true
semicolon_gap m behind e space = rw (e, space) refl

placed : (free : Bool) (due : Due) (shape : Option Shape) (front behind : List Mark) → IsPlaced free due shape front behind → Stands free due front behind shape
placed free due None front behind (inl h) =
    let one = one_character front 32 h in
    subst (λ (f : List Mark). Stands free due f behind None) (sym one.1) (a_separator (space_gap one.0 behind one.2))
placed free due None front behind (inr (h, space)) =
    let one = one_character front 59 h in
    subst (λ (f : List Mark). Stands free due f behind None) (sym one.1) (a_separator (semicolon_gap one.0 behind one.2 space))
placed free Nothing (Some (Word word)) front behind ((is, word_is), spaced) =
    subst (λ (w : Option Keyword). Stands free Nothing front behind (Some (Word w))) (sym word_is) (a_word is spaced)
placed free Nothing (Some Number) front behind (is, may, spaced) = a_number is may spaced
placed free Nothing (Some Padded) front behind (is, spaced) = absurd is
placed free Nothing (Some Literal) front behind (is, spaced) = a_text is spaced
placed free Nothing (Some Symbol) front behind (is, spaced) = a_mark is (mark_ends free (ch_at front 0) behind spaced)
placed free Nothing (Some (Relation r)) front behind (is, spaced) = a_relation r is spaced
placed free Nothing (Some Stop) front behind (is, spaced) = a_stop is spaced
placed free Nothing (Some PictureString) front behind h = absurd h
placed free BehindPic (Some (Word word)) front behind (is, word_is, spaced) =
    subst (λ (w : Option Keyword). Stands free BehindPic front behind (Some (Word w))) (sym (word_is ∙ is.spelled)) (the_word_is is spaced)
placed free BehindPic (Some Number) front behind h = absurd h
placed free BehindPic (Some Padded) front behind h = absurd h
placed free BehindPic (Some Literal) front behind h = absurd h
placed free BehindPic (Some Symbol) front behind h = absurd h
placed free BehindPic (Some (Relation r)) front behind h = absurd h
placed free BehindPic (Some Stop) front behind h = absurd h
placed free BehindPic (Some PictureString) front behind (is, ends, no_i) = a_picture is ends (no_word_is front behind is.some no_i)
placed free BehindIs (Some (Word word)) front behind h = absurd h
placed free BehindIs (Some Number) front behind h = absurd h
placed free BehindIs (Some Padded) front behind h = absurd h
placed free BehindIs (Some Literal) front behind h = absurd h
placed free BehindIs (Some Symbol) front behind h = absurd h
placed free BehindIs (Some (Relation r)) front behind h = absurd h
placed free BehindIs (Some Stop) front behind h = absurd h
placed free BehindIs (Some PictureString) front behind (is, ends) = a_picture is ends tt

printed_stands : (free : Bool) (due : Due) (ps : List Part) → IsPrinted free due ps → StandBehind free due ps []
printed_stands free due [] h = tt
printed_stands free due (p ∷ ps) h =
    (placed free due p.shape p.front (spelled.text_of ps ++ []) (subst (λ (t : List Mark). IsPlaced free due p.shape p.front t) (sym (append-nil (spelled.text_of ps))) h.0), printed_stands (is_opening (last_ch p.front)) (due_after due p.shape) ps h.1)

pub printed_is_spelled : (ps : List Part) → IsPrinted false Nothing ps → IsSpelled (spelled.text_of ps) ps
printed_is_spelled ps h = record { whole = refl; stand = printed_stands false Nothing ps h }

-- a source of plain lines that are printed tokens
pub printed_source : (bytes : List ℕ) (ps : List Part) → All IsPlain (numbered_lines bytes) → plain_text (numbered_lines bytes) ≡ spelled.text_of ps → IsPrinted false Nothing ps → Scans bytes (Tokens (tokens_of ps))
printed_source bytes ps plain same printed =
    subst (λ (r : Result (List Mark) Place). ScansBy r (Tokens (tokens_of ps))) (sym (plain_source bytes plain ∙ ap Ok same))
    (record { parts = ps; spelled = printed_is_spelled ps printed; are = refl })
