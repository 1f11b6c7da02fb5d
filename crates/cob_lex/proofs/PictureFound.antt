-- What the scanner cuts off as a picture is one.
use Rattle.std.proofs.Common.{◌≡◌, ℕ, suc, ◌-◌, ◌+◌, ◌<◌, ◌≤◌, Bool, true, false, cond, eqb, ltb, List, [], ◌∷◌, ◌++◌, length, drop, take, refl, ap, ◌∙◌, sym, subst, arith, length-append, append_assoc, Some, None, inl, inr}
use Rattle.std.specs.List.{list_all, position_or_len}
use Rattle.std.proofs.Math.Seq.{take-append_seam}
use Rattle.std.proofs.lemmas.Bool.{and_parts, eqb-true}
use Rattle.std.proofs.lemmas.Bool.Decides.{nat_tests}
use Rattle.std.proofs.lemmas.List.{take-append-drop}
use Rattle.std.proofs.lemmas.List.Recursion.{is_position_or_len}
use Rattle.cob_lex.specs.declared.text.Mark.{Mark}
use Rattle.cob_lex.specs.declared.cut.Shape.TheVariants.{PictureString}
use Rattle.cob_lex.specs.declared.cut.Cut.{Cut}
use Rattle.cob_lex.specs.Characters.{ch_at, last_ch, is_point_comma_semicolon}
use Rattle.cob_lex.specs.Marks.{is_space, solid_len, stripped}
use Rattle.cob_lex.specs.Cuts.{token_of_len, picture_token}
use Rattle.cob_lex.specs.Tokens.{is_no_space, IsPicture, PictureEnds}
use Rattle.cob_lex.proofs.Runs.{last_on}

-- ---- up to the first space

abbrev solid : List Mark → ℕ
solid [] = 0
solid (m ∷ ms) = cond (is_space m) 0 (suc (solid ms))

solid_short : (text : List Mark) → solid text ≤ length text
solid_short [] = omega arith
solid_short (m ∷ ms) = by_space (is_space m) (solid_short ms)
  where
    by_space : (b : Bool) → solid ms ≤ length ms → cond b 0 (suc (solid ms)) ≤ length (m ∷ ms)
    by_space true h = omega arith
    by_space false h = omega (arith, h)

solid_place : (text : List Mark) → solid text ≡ position_or_len is_space text
solid_place = is_position_or_len solid is_space refl (λ x xs. ap (λ n. cond (is_space x) 0 n) (omega arith))

solid_is : (text : List Mark) → solid_len text ≡ solid text
solid_is text = by_bool (ltb (position_or_len is_space text) (length text)) refl
  where
    by_bool : (b : Bool) → ltb (position_or_len is_space text) (length text) ≡ b → solid_len text ≡ solid text
    by_bool true g = rw g (sym (solid_place text))
    by_bool false g =
        let p = solid_place text in
        let short = solid_short text in
        let n : length text ≤ position_or_len is_space text = grind (arith, nat_tests) in
        rw g (omega (arith, p, short, n))

no_space_mark : (m : Mark) → is_space m ≡ false → is_no_space m ≡ true
no_space_mark m e = rw e refl

solid_all : (text : List Mark) → list_all is_no_space (take (solid text) text) ≡ true
solid_all [] = refl
solid_all (m ∷ ms) = by_space (is_space m) refl (solid_all ms)
  where
    by_space : (b : Bool) → is_space m ≡ b → list_all is_no_space (take (solid ms) ms) ≡ true → list_all is_no_space (take (cond b 0 (suc (solid ms))) (m ∷ ms)) ≡ true
    by_space true e h = refl
    by_space false e h = rw (no_space_mark m e, h) refl

solid_ends : (text : List Mark) → ch_at (drop (solid text) text) 0 ≡ 32
solid_ends [] = refl
solid_ends (m ∷ ms) = by_space (is_space m) refl (solid_ends ms)
  where
    by_space : (b : Bool) → is_space m ≡ b → ch_at (drop (solid ms) ms) 0 ≡ 32 → ch_at (drop (cond b 0 (suc (solid ms))) (m ∷ ms)) 0 ≡ 32
    by_space true e h = eqb-true m.ch 32 e
    by_space false e h = h

-- ---- without its last character

-- a list with its last element
record Last (xs : List Mark) : Type 0 where
  before : List Mark
  last : Mark
  parts : xs ≡ before ++ last ∷ []
  ch : last_ch xs ≡ last.ch

last_of : (m : Mark) (ms : List Mark) → Last (m ∷ ms)
last_of m [] = record { before = []; last = m; parts = refl; ch = refl }
last_of m (n ∷ ms) =
    let l = last_of n ms in
    record { before = m ∷ l.before; last = l.last; parts = ap (λ (xs : List Mark). m ∷ xs) l.parts; ch = last_on m n ms ∙ l.ch }

all_before : (xs : List Mark) (m : Mark) → list_all is_no_space (xs ++ m ∷ []) ≡ true → list_all is_no_space xs ≡ true
all_before [] m e = refl
all_before (n ∷ xs) m e = let p = and_parts (is_no_space n) (list_all is_no_space (xs ++ m ∷ [])) e in rw (p.0, all_before xs m p.1) refl

-- ---- a picture

pub record IsPictureFound (text : List Mark) (c : Cut) : Type 0 where
  pub front : List Mark
  pub behind : List Mark
  pub parts : text ≡ front ++ behind
  pub is : IsPicture front
  pub ends : PictureEnds front behind
  pub cut_is : token_of_len PictureString (length front) ≡ c

-- what is left of the solid characters
taken : (front : List Mark) (c : Cut) → picture_token front ≡ Some c → (0 < length (stripped front)) × (token_of_len PictureString (length (stripped front)) ≡ c)
taken front c e = by_bool (eqb (length (stripped front)) 0) refl e
  where
    by_bool : (b : Bool) → eqb (length (stripped front)) 0 ≡ b → cond b None (Some (token_of_len PictureString (length (stripped front)))) ≡ Some c → (0 < length (stripped front)) × (token_of_len PictureString (length (stripped front)) ≡ c)
    by_bool true f g = absurd cc
    by_bool false f g = (grind (arith, nat_tests), cc)

stripped_off : (front : List Mark) → is_point_comma_semicolon (last_ch front) ≡ true → stripped front ≡ take (length front - 1) front
stripped_off front e = rw e refl

stripped_not : (front : List Mark) → is_point_comma_semicolon (last_ch front) ≡ false → stripped front ≡ front
stripped_not front e = rw e refl

without_last : (before : List Mark) (last : Mark) → take (length (before ++ last ∷ []) - 1) (before ++ last ∷ []) ≡ before
without_last before last =
    let n : length (before ++ last ∷ []) - 1 ≡ length before = omega (arith, length-append before (last ∷ [])) in
    ap (λ k. take k (before ++ last ∷ [])) n ∙ take-append_seam before (last ∷ [])

found_in : (text front rest : List Mark) (c : Cut) → text ≡ front ++ rest → list_all is_no_space front ≡ true → ch_at rest 0 ≡ 32 → picture_token front ≡ Some c → IsPictureFound text c
found_in text [] rest c parts all space e = absurd (let t = taken [] c e in let n = t.0 in omega (arith, n))
found_in text (m ∷ ms) rest c parts all space e = by_last (is_point_comma_semicolon (last_ch (m ∷ ms))) refl
  where
    by_last : (b : Bool) → is_point_comma_semicolon (last_ch (m ∷ ms)) ≡ b → IsPictureFound text c
    by_last false f =
        let t = taken (m ∷ ms) c e in
        let same = stripped_not (m ∷ ms) f in
        record {
          front = m ∷ ms;
          behind = rest;
          parts = parts;
          is = record { some = omega arith; solid = all };
          ends = inl (space, f);
          cut_is = subst (λ (xs : List Mark). token_of_len PictureString (length xs) ≡ c) same t.1;
        }
    by_last true f =
        let t = taken (m ∷ ms) c e in
        let l = last_of m ms in
        let whole : stripped (m ∷ ms) ≡ l.before = stripped_off (m ∷ ms) f ∙ subst (λ (xs : List Mark). take (length xs - 1) xs ≡ l.before) (sym l.parts) (without_last l.before l.last) in
        record {
          front = l.before;
          behind = l.last ∷ rest;
          parts = parts ∙ ap (λ (xs : List Mark). xs ++ rest) l.parts ∙ append_assoc l.before (l.last ∷ []) rest;
          is = record { some = subst (λ (xs : List Mark). 0 < length xs) whole t.0; solid = all_before l.before l.last (subst (λ (xs : List Mark). list_all is_no_space xs ≡ true) l.parts all) };
          ends = inr (ap is_point_comma_semicolon (sym l.ch) ∙ f, space);
          cut_is = subst (λ (xs : List Mark). token_of_len PictureString (length xs) ≡ c) whole t.1;
        }

pub picture_found : (text : List Mark) (c : Cut) → picture_token (take (solid_len text) text) ≡ Some c → IsPictureFound text c
picture_found text c e =
    let n = solid_is text in
    found_in text (take (solid text) text) (drop (solid text) text) c (sym (take-append-drop (solid text) text)) (solid_all text) (solid_ends text)
    (subst (λ k. picture_token (take k text) ≡ Some c) n e)
