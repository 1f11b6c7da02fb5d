-- A picture is cut off whole.
use Rattle.std.proofs.Common.{◌≡◌, ℕ, zero, suc, ◌-◌, ◌<◌, ◌≤◌, Bool, true, false, cond, eqb, ltb, List, [], ◌∷◌, ◌++◌, length, get_or, take, refl, ap, ◌∙◌, sym, arith, length-append, append_assoc, Some, None}
use Rattle.std.specs.Prelude.{not}
use Rattle.std.specs.List.{list_all, position_or_len}
use Rattle.std.proofs.Math.Seq.{take-append_seam}
use Rattle.std.proofs.lemmas.Bool.{and_parts}
use Rattle.std.proofs.lemmas.Bool.Decides.{nat_tests}
use Rattle.std.proofs.lemmas.List.{get_or_append_left, get_or-append_right}
use Rattle.std.proofs.lemmas.List.Sums.{position_or_len_is}
use Rattle.cob_lex.specs.declared.text.Mark.{Mark}
use Rattle.cob_lex.specs.declared.cut.Shape.TheVariants.{PictureString}
use Rattle.cob_lex.specs.Marks.{is_space, solid_len, stripped}
use Rattle.cob_lex.specs.Cuts.{token_of_len, picture_token}
use Rattle.cob_lex.specs.Characters.{blank, ch_at, is_point_comma_semicolon}
use Rattle.cob_lex.specs.Tokens.{is_no_space}

no_space_at : (xs : List Mark) (k : ℕ) → list_all is_no_space xs ≡ true → k < length xs → eqb (get_or xs k blank).ch 32 ≡ false
no_space_at [] k e h = absurd (omega (arith, h))
no_space_at (m ∷ xs) zero e h = by_bool (eqb m.ch 32) refl (and_parts (is_no_space m) (list_all is_no_space xs) e).0
  where
    by_bool : (b : Bool) → eqb m.ch 32 ≡ b → not b ≡ true → eqb m.ch 32 ≡ false
    by_bool true f g = absurd cc
    by_bool false f g = f
no_space_at (m ∷ xs) (suc k) e h = no_space_at xs k (and_parts (is_no_space m) (list_all is_no_space xs) e).1 (omega (arith, h))

first_space_at : (xs ys : List Mark) → list_all is_no_space xs ≡ true → eqb (ch_at ys 0) 32 ≡ true → position_or_len is_space (xs ++ ys) ≡ length xs
first_space_at xs ys e f =
    position_or_len_is is_space (xs ++ ys) (length xs) blank (omega (arith, length-append xs ys))
    (λ k h. ap (λ (m : Mark). eqb m.ch 32) (get_or_append_left xs ys blank k h) ∙ no_space_at xs k e h)
    (λ h. ap (λ (m : Mark). eqb m.ch 32) (get_or-append_right xs ys (length xs) (length xs) blank refl (omega arith) ∙ ap (λ k. get_or ys k blank) (let z : length xs - length xs ≡ 0 = omega arith in z)) ∙ f)

solid_is : (xs ys : List Mark) → list_all is_no_space xs ≡ true → eqb (ch_at ys 0) 32 ≡ true → solid_len (xs ++ ys) ≡ length xs
solid_is xs ys e f = by_bool (ltb (position_or_len is_space (xs ++ ys)) (length (xs ++ ys))) refl
  where
    by_bool : (b : Bool) → ltb (position_or_len is_space (xs ++ ys)) (length (xs ++ ys)) ≡ b → solid_len (xs ++ ys) ≡ length xs
    by_bool true g = rw g (first_space_at xs ys e f)
    by_bool false g = let p = first_space_at xs ys e f in let l = length-append xs ys in let n : length (xs ++ ys) ≤ length xs = grind (arith, nat_tests, p) in rw g (omega (arith, n, l))

solid_front : (xs ys : List Mark) → list_all is_no_space xs ≡ true → eqb (ch_at ys 0) 32 ≡ true → take (solid_len (xs ++ ys)) (xs ++ ys) ≡ xs
solid_front xs ys e f = ap (λ n. take n (xs ++ ys)) (solid_is xs ys e f) ∙ take-append_seam xs ys

pub whole_picture : (xs : List Mark) → 0 < length xs → is_point_comma_semicolon (ch_at xs (length xs - 1)) ≡ false → picture_token xs ≡ Some (token_of_len PictureString (length xs))
whole_picture [] h e = absurd (omega (arith, h))
whole_picture (m ∷ xs) h e = let z : eqb (length (m ∷ xs)) 0 ≡ false = grind (arith, nat_tests) in rw (e, z) refl

-- where a space follows the picture
pub picture_before_space : (front behind : List Mark) → 0 < length front → list_all is_no_space front ≡ true → eqb (ch_at behind 0) 32 ≡ true → is_point_comma_semicolon (ch_at front (length front - 1)) ≡ false
    → picture_token (take (solid_len (front ++ behind)) (front ++ behind)) ≡ Some (token_of_len PictureString (length front))
picture_before_space front behind h e f g = ap picture_token (solid_front front behind e f) ∙ whole_picture front h g

-- where a point, comma or semicolon and a space follow it
all_joined : (xs : List Mark) (m : Mark) → list_all is_no_space xs ≡ true → is_no_space m ≡ true → list_all is_no_space (xs ++ m ∷ []) ≡ true
all_joined [] m e f = rw f refl
all_joined (n ∷ xs) m e f = let p = and_parts (is_no_space n) (list_all is_no_space xs) e in rw (p.0, all_joined xs m p.1 f) refl

stripped_picture : (xs : List Mark) (m : Mark) → 0 < length xs → is_point_comma_semicolon m.ch ≡ true → picture_token (xs ++ m ∷ []) ≡ Some (token_of_len PictureString (length xs))
stripped_picture xs m h e =
    let last : length (xs ++ m ∷ []) - 1 ≡ length xs = omega (arith, length-append xs (m ∷ [])) in
    let at : ch_at (xs ++ m ∷ []) (length xs) ≡ m.ch = ap (λ (n : Mark). n.ch) (get_or-append_right xs (m ∷ []) (length xs) (length xs) blank refl (omega arith) ∙ ap (λ k. get_or (m ∷ []) k blank) (let z : length xs - length xs ≡ 0 = omega arith in z)) in
    let strips : is_point_comma_semicolon (ch_at (xs ++ m ∷ []) (length (xs ++ m ∷ []) - 1)) ≡ true = ap (λ k. is_point_comma_semicolon (ch_at (xs ++ m ∷ []) k)) last ∙ ap is_point_comma_semicolon at ∙ e in
    let front : stripped (xs ++ m ∷ []) ≡ xs = strip (xs ++ m ∷ []) strips ∙ ap (λ k. take k (xs ++ m ∷ [])) last ∙ take-append_seam xs (m ∷ []) in
    some_token (stripped (xs ++ m ∷ [])) xs front h
  where
    strip : (ys : List Mark) → is_point_comma_semicolon (ch_at ys (length ys - 1)) ≡ true → stripped ys ≡ take (length ys - 1) ys
    strip ys f = rw f refl

    some_token : (ys xs : List Mark) → ys ≡ xs → 0 < length xs → cond (eqb (length ys) 0) None (Some (token_of_len PictureString (length ys))) ≡ Some (token_of_len PictureString (length xs))
    some_token ys xs f g = let z : eqb (length xs) 0 ≡ false = grind (arith, nat_tests) in rw (f, z) refl

pub picture_before_end : (front : List Mark) (m : Mark) (behind : List Mark) → 0 < length front → list_all is_no_space front ≡ true → is_point_comma_semicolon m.ch ≡ true → eqb (ch_at behind 0) 32 ≡ true
    → picture_token (take (solid_len (front ++ m ∷ behind)) (front ++ m ∷ behind)) ≡ Some (token_of_len PictureString (length front))
picture_before_end front m behind h e f g =
    let no_space : is_no_space m ≡ true = grind (arith, nat_tests) in
    let text : (front ++ m ∷ []) ++ behind ≡ front ++ m ∷ behind = append_assoc front (m ∷ []) behind in
    ap (λ t. picture_token (take (solid_len t) t)) (sym text)
    ∙ ap picture_token (solid_front (front ++ m ∷ []) behind (all_joined front m e no_space) g)
    ∙ stripped_picture front m h f
