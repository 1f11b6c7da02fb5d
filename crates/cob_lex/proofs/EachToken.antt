-- What holds of each row's shape and characters holds of each raw token of a text; and of the rewritten ones, where
-- rewriting keeps it.
use Rattle.std.proofs.Common.{◌≡◌, ℕ, ◌+◌, ◌-◌, ◌≤◌, zero, suc, Bool, true, false, cond, ◌&&◌, List, [], ◌∷◌, ◌++◌, length, drop, take, refl, ap, ◌∙◌, sym, subst, arith, length-append, append_assoc, append-nil, Option, Some, None}
use Rattle.std.specs.List.{AllByRecursion}
use Rattle.std.proofs.Math.Seq.{take-append_seam, drop-append_seam}
use Rattle.std.proofs.lemmas.Bool.{and_parts, eqb-true}
use Rattle.std.proofs.lemmas.List.{length-take}
use Rattle.cob_tree.specs.declared.keyword.Keyword.{Keyword}
use Rattle.cob_tree.specs.declared.token.Rel.{Rel}
use Rattle.cob_lex.specs.declared.text.Mark.{Mark}
use Rattle.cob_lex.specs.declared.cut.Shape.{Shape}
use Rattle.cob_lex.specs.declared.cut.Shape.TheVariants.{Word, Number, Padded, Literal, Symbol, Relation, Stop, PictureString}
use Rattle.cob_lex.specs.declared.cut.Due.{Due}
use Rattle.cob_lex.specs.declared.cut.Due.TheVariants.{Nothing}
use Rattle.cob_lex.specs.declared.piece.Piece.{Piece}
use Rattle.cob_lex.specs.declared.row.Fate.{Fate}
use Rattle.cob_lex.specs.declared.row.Fate.TheVariants.{Keep, Becomes, Dropped}
use Rattle.cob_lex.specs.declared.row.Compared.{Compared}
use Rattle.cob_lex.specs.Characters.{first, last_ch}
use Rattle.cob_lex.specs.Tokens.{Stands, is_opening, due_after}
use Rattle.cob_lex.specs.Spelled.{Part, text_of, StandBehind, piece_list, pieces, IsSpelled}
use Rattle.cob_lex.specs.Rows.{row_at, fated, reworded, compared_at, words_of, relation_or, related, is_stop, is_digit_alone, shaped, padded_one, padded, rewritten}
use Rattle.cob_lex.specs.Canonical.{characters_of}

-- what each row gives
abbrev pub HoldsOfRows : (Shape → List Mark → Type 0) → Type 0
HoldsOfRows P = (free : Bool) (due : Due) (front behind : List Mark) (shape : Shape) → Stands free due front behind (Some shape) → P shape front

pub same_shape : (a b : Shape) → Some a ≡ Some b → a ≡ b
same_shape a b e = cc

-- what rewriting makes of a token keeps it
pub record IsKept (P : Shape → List Mark → Type 0) : Type 0 where
  pub word : (k : Keyword) (shape : Shape) (front : List Mark) → P shape front → P (Word (Some k)) front
  pub relation : (r : Rel) (shape : Shape) (front : List Mark) → P shape front → P (Relation r) front
  pub digit : (front : List Mark) → length front ≤ 1 → P Number front → P Padded front

module _ (text : List Mark) (P : Shape → List Mark → Type 0) where
  abbrev pub HoldsOf : Piece → Type 0
  HoldsOf p = P p.shape (characters_of text p)

  abbrev pub HoldsOfAll : List Piece → Type 0
  HoldsOfAll ps = AllByRecursion HoldsOf ps

  both_hold : (xs ys : List Piece) → HoldsOfAll xs → HoldsOfAll ys → HoldsOfAll (xs ++ ys)
  both_hold [] ys h k = k
  both_hold (x ∷ xs) ys h k = (h.0, both_hold xs ys h.1 k)

  own_characters : (before front behind : List Mark) → text ≡ before ++ (front ++ behind) → take (length front) (drop (length before) text) ≡ front
  own_characters before front behind e =
      ap (λ (t : List Mark). take (length front) (drop (length before) t)) e
      ∙ ap (λ (t : List Mark). take (length front) t) (drop-append_seam before (front ++ behind)) ∙ take-append_seam front behind

  one_holds : HoldsOfRows P → (free : Bool) (due : Due) (before front behind : List Mark) (shape : Option Shape) → text ≡ before ++ (front ++ behind) → Stands free due front behind shape
      → HoldsOfAll (piece_list (length before) (first front) (length front) shape)
  one_holds rows free due before front behind None e h = tt
  one_holds rows free due before front behind (Some shape) e h =
      (subst (P shape) (sym (own_characters before front behind e)) (rows free due front behind shape h), tt)

  all_hold : HoldsOfRows P → (free : Bool) (due : Due) (before : List Mark) (ps : List Part) → text ≡ before ++ text_of ps → StandBehind free due ps [] → HoldsOfAll (pieces (length before) ps)
  all_hold rows free due before [] e h = tt
  all_hold rows free due before (p ∷ ps) e h =
      let here : text ≡ before ++ (p.front ++ (text_of ps ++ [])) = e ∙ ap (λ (t : List Mark). before ++ (p.front ++ t)) (sym (append-nil (text_of ps))) in
      let next : text ≡ (before ++ p.front) ++ text_of ps = e ∙ sym (append_assoc before p.front (text_of ps)) in
      both_hold (piece_list (length before) (first p.front) (length p.front) p.shape) (pieces (length before + length p.front) ps)
      (one_holds rows free due before p.front (text_of ps ++ []) p.shape here h.0)
      (subst (λ n. HoldsOfAll (pieces n ps)) (length-append before p.front) (all_hold rows (is_opening (last_ch p.front)) (due_after due p.shape) (before ++ p.front) ps next h.1))

  -- of the raw tokens
  pub raw_hold : HoldsOfRows P → (ps : List Part) → IsSpelled text ps → HoldsOfAll (pieces 0 ps)
  raw_hold rows ps h = all_hold rows false Nothing [] ps h.whole h.stand

  -- of the rewritten ones
  module _ (kept : IsKept P) where
    fated_hold : (fate : Fate) (p : Piece) → HoldsOf p → HoldsOfAll (fated fate p)
    fated_hold Keep p h = (h, tt)
    fated_hold (Becomes word) p h = (kept.word word p.shape (characters_of text p) h, tt)
    fated_hold Dropped p h = tt

    reworded_hold : (n : ℕ) (ps : List Piece) → HoldsOfAll ps → HoldsOfAll (reworded n ps)
    unfolding reworded
    reworded_hold n [] h = tt
    reworded_hold (suc n) (p ∷ ps) h = reworded_hold n ps h.1
    reworded_hold zero (p ∷ ps) h =
        let row = row_at (p ∷ ps) in
        both_hold (fated row.fate p) (reworded (row.words - 1) ps) (fated_hold row.fate p h.0) (reworded_hold (row.words - 1) ps h.1)

    relation_holds : (found : Option Compared) (p : Piece) → HoldsOf p → HoldsOf (relation_or found p)
    relation_holds None p h = h
    relation_holds (Some c) p h = kept.relation c.relation p.shape (characters_of text p) h

    related_hold : (n : ℕ) (ps : List Piece) → HoldsOfAll ps → HoldsOfAll (related n ps)
    unfolding related
    related_hold n [] h = tt
    related_hold (suc n) (p ∷ ps) h = related_hold n ps h.1
    related_hold zero (p ∷ ps) h =
        let found = compared_at (p ∷ ps) in
        (relation_holds found p h.0, related_hold (words_of found - 1) ps h.1)

    digit_holds : (shape : Shape) (n : ℕ) (front : List Mark) → is_digit_alone shape n ≡ true → length front ≤ n → P shape front → P Padded front
    digit_holds Number n front alone short h = kept.digit front (let one = eqb-true n 1 alone in omega (arith, one, short)) h
    digit_holds (Word word) n front alone short h = absurd cc
    digit_holds Padded n front alone short h = absurd cc
    digit_holds Literal n front alone short h = absurd cc
    digit_holds Symbol n front alone short h = absurd cc
    digit_holds (Relation r) n front alone short h = absurd cc
    digit_holds Stop n front alone short h = absurd cc
    digit_holds PictureString n front alone short h = absurd cc

    padded_one_holds : (behind_stop : Bool) (p : Piece) → HoldsOf p → HoldsOf (padded_one behind_stop p)
    padded_one_holds behind_stop p h = at (behind_stop && is_digit_alone p.shape p.length) refl
      where
        at : (x : Bool) → (behind_stop && is_digit_alone p.shape p.length) ≡ x → HoldsOf (cond x (shaped Padded p) p)
        at true e =
            let alone = (and_parts behind_stop (is_digit_alone p.shape p.length) e).1 in
            digit_holds p.shape p.length (characters_of text p) alone (omega (arith, length-take p.length (drop p.start text))) h
        at false e = h

    padded_hold : (behind_stop : Bool) (ps : List Piece) → HoldsOfAll ps → HoldsOfAll (padded behind_stop ps)
    unfolding padded
    padded_hold behind_stop [] h = tt
    padded_hold behind_stop (p ∷ ps) h = (padded_one_holds behind_stop p h.0, padded_hold (is_stop p.shape) ps h.1)

    pub rewritten_hold : (ps : List Piece) → HoldsOfAll ps → HoldsOfAll (rewritten ps)
    rewritten_hold ps h = let once = reworded 0 ps in padded_hold false (related 0 once) (related_hold 0 once (reworded_hold 0 ps h))
