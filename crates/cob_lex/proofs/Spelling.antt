-- What spells a text is what is read, and where reading ends nothing stands further.
use Rattle.std.proofs.Common.{◌≡◌, ℕ, zero, suc, ◌+◌, ◌-◌, ◌<◌, ◌≤◌, Bool, false, List, [], ◌∷◌, ◌++◌, length, drop, take, map, refl, ap, ◌∙◌, sym, subst, arith, length-append, append_assoc, append-nil, Option, Some, None, Result, Ok, Err}
use Rattle.std.proofs.Math.Seq.{drop-append_seam}
use Rattle.std.proofs.lemmas.List.{take-append-drop, get_or_append_left}
use Rattle.cob_tree.specs.declared.token.Rel.{Rel}
use Rattle.cob_tree.specs.declared.token.Rel.TheVariants.{Equal, Less, Greater, AtLeast, AtMost}
use Rattle.cob_tree.specs.declared.token.Token.{Token}
use Rattle.cob_lex.specs.declared.text.Mark.{Mark}
use Rattle.cob_lex.specs.declared.LexEnd.{LexEnd}
use Rattle.cob_lex.specs.declared.LexEnd.TheVariants.{BadToken, Memory}
use Rattle.cob_lex.specs.declared.cut.Shape.{Shape}
use Rattle.cob_lex.specs.declared.cut.Due.{Due}
use Rattle.cob_lex.specs.declared.cut.Due.TheVariants.{Nothing}
use Rattle.cob_lex.specs.declared.cut.State.{State}
use Rattle.cob_lex.specs.declared.cut.Cut.{Cut}
use Rattle.cob_lex.specs.declared.piece.Piece.{Piece}
use Rattle.cob_lex.specs.declared.piece.Place.{Place}
use Rattle.cob_lex.specs.Characters.{blank, ch_at, last_ch, first, characters}
use Rattle.cob_lex.specs.Tokens.{IsRelation, Stands, is_opening, due_after, without_sign, with_sign, a_separator, a_word, a_number, a_text, a_mark, a_relation, a_stop, the_word_is, a_picture}
use Rattle.cob_lex.specs.Spelled.{Part, text_of, StandBehind, place_of, piece_list, pieces, IsSpelled, IsStopped}
use Rattle.cob_lex.specs.Cuts.{cut, after}
use Rattle.cob_lex.specs.Pieces.{prefixed, read, beginning, raw_tokens, Gives}
use Rattle.cob_lex.specs.Rows.{rewritten}
use Rattle.cob_lex.specs.Canonical.{token, AreTokensOf, IfBadToken}
use Rattle.cob_lex.proofs.CutOff.{some_digit}
use Rattle.cob_lex.proofs.RowsCut.{stands_cut}
use Rattle.cob_lex.proofs.Found.{cut_stands}
use Rattle.cob_lex.proofs.PieceLemmas.{read_more, read_stops_here, read_ends_here}

abbrev pub at : Bool → Due → State
at free due = record { free = free; due = due }

-- ---- a token has characters

spelled_some : (front : List Mark) (c : ℕ) (cs : List ℕ) → characters front ≡ c ∷ cs → 0 < length front
spelled_some [] c cs e = absurd cc
spelled_some (m ∷ front) c cs e = omega arith

relation_some : (r : Rel) (front : List Mark) → IsRelation r front → 0 < length front
relation_some Equal front is = spelled_some front 61 [] is
relation_some Less front is = spelled_some front 60 [] is
relation_some Greater front is = spelled_some front 62 [] is
relation_some AtMost front is = spelled_some front 60 (61 ∷ []) is
relation_some AtLeast front is = spelled_some front 62 (61 ∷ []) is

pub stands_some : {free : Bool} {due : Due} {front behind : List Mark} {shape : Option Shape} → Stands free due front behind shape → 0 < length front
stands_some (a_separator e) = omega arith
stands_some (a_word is e) = is.some
stands_some {front = front} (a_number (without_sign is) may e) = some_digit front is
stands_some (a_number (with_sign s is) may e) = omega arith
stands_some {front = front} (a_text is e) = spelled_some front _ _ is.spells
stands_some {front = front} (a_mark is e) = spelled_some front _ _ is.spells
stands_some {front = front} (a_relation r is e) = relation_some r front is
stands_some {front = front} (a_stop is e) = spelled_some front 46 [] is
stands_some (the_word_is is e) = is.word.some
stands_some (a_picture is e d) = is.some

-- ---- one token or separator on

first_of : (front behind : List Mark) → 0 < length front → first (front ++ behind) ≡ first front
first_of [] behind h = absurd (omega (arith, h))
first_of (m ∷ front) behind h = refl

last_of : (front behind : List Mark) → 0 < length front → ch_at (front ++ behind) (length front - 1) ≡ last_ch front
last_of front behind h = ap (λ (m : Mark). m.ch) (get_or_append_left front behind blank (length front - 1) (omega (arith, h)))

after_is : (free : Bool) (due : Due) (front behind : List Mark) (shape : Option Shape) → 0 < length front → after (at free due) (record { shape = shape; length = length front }) (front ++ behind) ≡ at (is_opening (last_ch front)) (due_after due shape)
unfolding after
after_is free due front behind shape h = ap (λ ch. at (is_opening ch) (due_after due shape)) (last_of front behind h)

read_on : (start : ℕ) (free : Bool) (due : Due) (front behind : List Mark) (shape : Option Shape) → Stands free due front behind shape
    → read start (at free due) 0 (front ++ behind) ≡ prefixed (piece_list start (first front) (length front) shape) (read (start + length front) (at (is_opening (last_ch front)) (due_after due shape)) 0 behind)
read_on start free due front behind shape stands =
    let some = stands_some stands in
    let c : Cut = record { shape = shape; length = length front } in
    read_more start (at free due) (front ++ behind) c (omega (arith, some, length-append front behind)) (stands_cut stands) some
    ∙ ap (λ (m : Mark). prefixed (piece_list start m (length front) shape) (read (start + length front) (after (at free due) c (front ++ behind)) 0 (drop (length front) (front ++ behind)))) (first_of front behind some)
    ∙ ap (λ (s : State). prefixed (piece_list start (first front) (length front) shape) (read (start + length front) s 0 (drop (length front) (front ++ behind)))) (after_is free due front behind shape some)
    ∙ ap (λ (t : List Mark). prefixed (piece_list start (first front) (length front) shape) (read (start + length front) (at (is_opening (last_ch front)) (due_after due shape)) 0 t)) (drop-append_seam front behind)

-- ---- what stands before a place

abbrev pub free_behind : Bool → List Part → Bool
free_behind free [] = free
free_behind free (p ∷ ps) = free_behind (is_opening (last_ch p.front)) ps

abbrev pub due_at : Due → List Part → Due
due_at due [] = due
due_at due (p ∷ ps) = due_at (due_after due p.shape) ps

joined_text : (ps : List Part) (x : Part) (rest : List Mark) → text_of (ps ++ x ∷ []) ++ rest ≡ text_of ps ++ (x.front ++ rest)
joined_text [] x rest = append_assoc x.front [] rest
joined_text (p ∷ ps) x rest =
    append_assoc p.front (text_of (ps ++ x ∷ [])) rest ∙ ap (λ (t : List Mark). p.front ++ t) (joined_text ps x rest) ∙ sym (append_assoc p.front (text_of ps) (x.front ++ rest))

-- one more stands behind the others
stand_more : (free : Bool) (due : Due) (ps : List Part) (x : Part) (rest : List Mark) → StandBehind free due ps (x.front ++ rest) → Stands (free_behind free ps) (due_at due ps) x.front rest x.shape → StandBehind free due (ps ++ x ∷ []) rest
stand_more free due [] x rest stand last = (last, tt)
stand_more free due (p ∷ ps) x rest stand last =
    (subst (λ (t : List Mark). Stands free due p.front t p.shape) (sym (joined_text ps x rest)) stand.0, stand_more (is_opening (last_ch p.front)) (due_after due p.shape) ps x rest stand.1 last)

stand_last : (free : Bool) (due : Due) (ps : List Part) (x : Part) (rest : List Mark) → StandBehind free due (ps ++ x ∷ []) rest → Stands (free_behind free ps) (due_at due ps) x.front rest x.shape
stand_last free due [] x rest stand = stand.0
stand_last free due (p ∷ ps) x rest stand = stand_last (is_opening (last_ch p.front)) (due_after due p.shape) ps x rest stand.1

-- ---- from what stands to what is read

read_stand : (start : ℕ) (free : Bool) (due : Due) (ps : List Part) (left : List Mark) (r : Result (List Piece) Place) → StandBehind free due ps left
    → ((k : ℕ) → read k (at (free_behind free ps) (due_at due ps)) 0 left ≡ r) → read start (at free due) 0 (text_of ps ++ left) ≡ prefixed (pieces start ps) r
read_stand start free due [] left r stand behind = behind start ∙ sym (nothing r)
  where
    nothing : (r : Result (List Piece) Place) → prefixed [] r ≡ r
    nothing (Ok ps) = refl
    nothing (Err p) = refl
read_stand start free due (p ∷ ps) left r stand behind =
    ap (λ (t : List Mark). read start (at free due) 0 t) (append_assoc p.front (text_of ps) left)
    ∙ read_on start free due p.front (text_of ps ++ left) p.shape stand.0
    ∙ ap (prefixed (piece_list start (first p.front) (length p.front) p.shape)) (read_stand (start + length p.front) (is_opening (last_ch p.front)) (due_after due p.shape) ps left r stand.1 behind)
    ∙ twice (piece_list start (first p.front) (length p.front) p.shape) (pieces (start + length p.front) ps) r
  where
    twice : (xs ys : List Piece) (r : Result (List Piece) Place) → prefixed xs (prefixed ys r) ≡ prefixed (xs ++ ys) r
    twice xs ys (Ok zs) = ap Ok (sym (append_assoc xs ys zs))
    twice xs ys (Err p) = refl

pub spelled_are_read : (text : List Mark) (ps : List Part) → IsSpelled text ps → raw_tokens text ≡ Ok (pieces 0 ps)
spelled_are_read text ps h =
    ap (λ (t : List Mark). read 0 beginning 0 t) (h.whole ∙ sym (append-nil (text_of ps)))
    ∙ read_stand 0 false Nothing ps [] (Ok []) h.stand (λ k. read_ends_here k (at (free_behind false ps) (due_at Nothing ps)) [] refl)
    ∙ ap Ok (append-nil (pieces 0 ps))

-- nothing is cut off where nothing stands further
nothing_cut : (free : Bool) (due : Due) (left : List Mark) → 0 < length left → ((x : Part) (rest : List Mark) → left ≡ x.front ++ rest → Stands free due x.front rest x.shape → ⊥) → cut (at free due) left ≡ None
nothing_cut free due [] some none = absurd (omega (arith, some))
nothing_cut free due (m ∷ ms) some none = by_cut (cut (at free due) (m ∷ ms)) refl
  where
    by_cut : (o : Option Cut) → cut (at free due) (m ∷ ms) ≡ o → o ≡ None
    by_cut None e = refl
    by_cut (Some c) e = absurd (none (record { front = take c.length (m ∷ ms); shape = c.shape }) (drop c.length (m ∷ ms)) (sym (take-append-drop c.length (m ∷ ms))) (cut_stands free due m ms c e))

pub stopped_is_refused : (text : List Mark) (p : Place) → IsStopped text p → raw_tokens text ≡ Err p
stopped_is_refused text p h =
    let none = nothing_cut (free_behind false h.parts) (due_at Nothing h.parts) h.left h.some
    (λ x rest e stands. h.no_further x rest e (stand_more false Nothing h.parts x rest (subst (λ (t : List Mark). StandBehind false Nothing h.parts t) e h.stand) stands)) in
    ap (λ (t : List Mark). read 0 beginning 0 t) h.whole
    ∙ read_stand 0 false Nothing h.parts h.left (Err (place_of (first h.left))) h.stand (λ k. read_stops_here k (at (free_behind false h.parts) (due_at Nothing h.parts)) h.left h.some none)
    ∙ ap Err (sym h.place_is)

-- ---- and back

-- where reading ends
abbrev pub Ends : ℕ → Bool → Due → List Mark → Result (List Piece) Place → Type 0
Ends start free due text (Ok qs) = (ps : List Part) × (text ≡ text_of ps) × StandBehind free due ps [] × (qs ≡ pieces start ps)
Ends start free due text (Err p) = (ps : List Part) × (left : List Mark) × (text ≡ text_of ps ++ left) × StandBehind free due ps left × (0 < length left) × (cut (at (free_behind free ps) (due_at due ps)) left ≡ None) × (p ≡ place_of (first left))

ends_more : (start : ℕ) (free : Bool) (due : Due) (front behind : List Mark) (shape : Option Shape) (r : Result (List Piece) Place) → Stands free due front behind shape
    → Ends (start + length front) (is_opening (last_ch front)) (due_after due shape) behind r → Ends start free due (front ++ behind) (prefixed (piece_list start (first front) (length front) shape) r)
ends_more start free due front behind shape (Ok qs) stands (ps, whole, stand, are) =
    let p : Part = record { front = front; shape = shape } in
    (p ∷ ps, ap (λ (t : List Mark). front ++ t) whole, (subst (λ (t : List Mark). Stands free due front t shape) (whole ∙ sym (append-nil (text_of ps))) stands, stand), ap (λ (l : List Piece). piece_list start (first front) (length front) shape ++ l) are)
ends_more start free due front behind shape (Err q) stands (ps, left, whole, stand, some, none, is) =
    let p : Part = record { front = front; shape = shape } in
    (p ∷ ps, left, ap (λ (t : List Mark). front ++ t) whole ∙ sym (append_assoc front (text_of ps) left), (subst (λ (t : List Mark). Stands free due front t shape) whole stands, stand), some, none, is)

read_ends : (n start : ℕ) (free : Bool) (due : Due) (text : List Mark) → length text ≤ n → Ends start free due text (read start (at free due) 0 text)
read_ends n start free due [] h = subst (Ends start free due []) (sym (read_ends_here start (at free due) [] refl)) ([], refl, tt, refl)
read_ends zero start free due (m ∷ ms) h = absurd (omega (arith, h))
read_ends (suc n) start free due (m ∷ ms) h = by_cut (cut (at free due) (m ∷ ms)) refl (λ k f d t le. read_ends n k f d t le)
  where
    by_cut : (o : Option Cut) → cut (at free due) (m ∷ ms) ≡ o → ((k : ℕ) (f : Bool) (d : Due) (t : List Mark) → length t ≤ n → Ends k f d t (read k (at f d) 0 t)) → Ends start free due (m ∷ ms) (read start (at free due) 0 (m ∷ ms))
    by_cut None e next =
        subst (Ends start free due (m ∷ ms)) (sym (read_stops_here start (at free due) (m ∷ ms) (omega arith) e))
        ([], m ∷ ms, refl, tt, omega arith, e, refl)
    by_cut (Some c) e next =
        let front = take c.length (m ∷ ms) in
        let behind = drop c.length (m ∷ ms) in
        let whole : front ++ behind ≡ m ∷ ms = take-append-drop c.length (m ∷ ms) in
        let stands : Stands free due front behind c.shape = cut_stands free due m ms c e in
        let some = stands_some stands in
        let lengths : length front + length behind ≡ length (m ∷ ms) = sym (length-append front behind) ∙ ap (λ (t : List Mark). length t) whole in
        let more = next (start + length front) (is_opening (last_ch front)) (due_after due c.shape) behind (omega (arith, some, lengths, h)) in
        subst (λ (t : List Mark). Ends start free due t (read start (at free due) 0 t)) whole
        (subst (Ends start free due (front ++ behind)) (sym (read_on start free due front behind c.shape stands)) (ends_more start free due front behind c.shape _ stands more))

-- each text is spelled, or stops
pub read_is : (text : List Mark) (r : Result (List Piece) Place) → raw_tokens text ≡ r → Ends 0 false Nothing text r
read_is text r e = subst (Ends 0 false Nothing text) e (read_ends (length text) 0 false Nothing text (omega arith))

none_further : (free : Bool) (due : Due) (left : List Mark) → cut (at free due) left ≡ None → (x : Part) (rest : List Mark) → left ≡ x.front ++ rest → Stands free due x.front rest x.shape → ⊥
none_further free due left none x rest e stands =
    let some = stands_cut stands in
    let same : cut (at free due) left ≡ cut (at free due) (x.front ++ rest) = ap (λ (t : List Mark). cut (at free due) t) e in
    cc

pub spelled_by : (text : List Mark) (raw : List Piece) → raw_tokens text ≡ Ok raw → (ps : List Part) × IsSpelled text ps × (raw ≡ pieces 0 ps)
spelled_by text raw e = let h = read_is text (Ok raw) e in (h.0, record { whole = h.1; stand = h.2 }, h.3)

pub stopped_at : (text : List Mark) (p : Place) → raw_tokens text ≡ Err p → IsStopped text p
stopped_at text p e =
    let h = read_is text (Err p) e in
    record {
      parts = h.0;
      left = h.1;
      whole = h.2;
      stand = h.3;
      some = h.4;
      no_further = λ x rest same stand. none_further (free_behind false h.0) (due_at Nothing h.0) h.1 h.5 x rest same (stand_last false Nothing h.0 x rest stand);
      place_is = h.6;
    }

-- ---- what is answered

pub tokens_are : (text : List Mark) (raw : List Piece) (ts : List Token) → raw_tokens text ≡ Ok raw → ts ≡ map (token text) (rewritten raw) → AreTokensOf text ts
tokens_are text raw ts e are =
    let h = spelled_by text raw e in
    record { parts = h.0; spelled = h.1; are = are ∙ ap (λ (ps : List Piece). map (token text) (rewritten ps)) h.2 }

pub refused_is : (text : List Mark) (refused : LexEnd) → Gives (raw_tokens text) (Err refused) → IfBadToken refused (IsStopped text)
refused_is text (BadToken line column) h = stopped_at text _ h
refused_is text Memory h = tt

-- ---- one spelling

same_front : (front front' behind behind' : List Mark) → length front ≡ length front' → front ++ behind ≡ front' ++ behind' → (front ≡ front') × (behind ≡ behind')
same_front [] [] behind behind' e same = (refl, same)
same_front [] (m ∷ front') behind behind' e same = absurd (omega (arith, e))
same_front (m ∷ front) [] behind behind' e same = absurd (omega (arith, e))
same_front (m ∷ front) (n ∷ front') behind behind' e same =
    let h : m ≡ n = cc in
    let t : front ++ behind ≡ front' ++ behind' = cc in
    let r = same_front front front' behind behind' (omega (arith, e)) t in
    let f = r.0 in
    (cc, r.1)

abbrev part : List Mark → Option Shape → Part
part front shape = record { front = front; shape = shape }

one_front : (free : Bool) (due : Due) (p q : Part) (behind behind' : List Mark) → p.front ++ behind ≡ q.front ++ behind' → Stands free due p.front behind p.shape → Stands free due q.front behind' q.shape → (p ≡ q) × (behind ≡ behind')
one_front free due p q behind behind' same h k =
    let e = stands_cut h in
    let f = stands_cut k in
    let g : cut (at free due) (p.front ++ behind) ≡ cut (at free due) (q.front ++ behind') = ap (λ (t : List Mark). cut (at free due) t) same in
    let cuts = some_once (record { shape = p.shape; length = length p.front }) (record { shape = q.shape; length = length q.front }) (sym e ∙ g ∙ f) in
    let shapes : p.shape ≡ q.shape = ap (λ (c : Cut). c.shape) cuts in
    let lengths : length p.front ≡ length q.front = ap (λ (c : Cut). c.length) cuts in
    let r = same_front p.front q.front behind behind' lengths same in
    let fronts = r.0 in
    (part_is p q fronts shapes, r.1)
  where
    some_once : (c d : Cut) → Some c ≡ Some d → c ≡ d
    some_once c d e = cc

    part_is : (p q : Part) → p.front ≡ q.front → p.shape ≡ q.shape → p ≡ q
    part_is p q e f = ap (λ (x : List Mark). part x p.shape) e ∙ ap (λ (s : Option Shape). part q.front s) f

stand_once : (free : Bool) (due : Due) (ps qs : List Part) → text_of ps ≡ text_of qs → StandBehind free due ps [] → StandBehind free due qs [] → ps ≡ qs
stand_once free due [] [] e h k = refl
stand_once free due [] (q ∷ qs) e h k = absurd (let some = stands_some k.0 in let n : 0 ≡ length (q.front ++ text_of qs) = ap (λ (t : List Mark). length t) e in omega (arith, some, n, length-append q.front (text_of qs)))
stand_once free due (p ∷ ps) [] e h k = absurd (let some = stands_some h.0 in let n : length (p.front ++ text_of ps) ≡ 0 = ap (λ (t : List Mark). length t) e in omega (arith, some, n, length-append p.front (text_of ps)))
stand_once free due (p ∷ ps) (q ∷ qs) e h k =
    let whole : p.front ++ (text_of ps ++ []) ≡ q.front ++ (text_of qs ++ []) = ap (λ (t : List Mark). p.front ++ t) (append-nil (text_of ps)) ∙ e ∙ ap (λ (t : List Mark). q.front ++ t) (sym (append-nil (text_of qs))) in
    let r = one_front free due p q (text_of ps ++ []) (text_of qs ++ []) whole h.0 k.0 in
    let rest : text_of ps ≡ text_of qs = sym (append-nil (text_of ps)) ∙ r.1 ∙ append-nil (text_of qs) in
    let same = r.0 in
    let more = stand_once (is_opening (last_ch p.front)) (due_after due p.shape) ps qs rest h.1 (subst (λ (x : Part). StandBehind (is_opening (last_ch x.front)) (due_after due x.shape) qs []) (sym same) k.1) in
    cc

pub one_spelling : (text : List Mark) (ps qs : List Part) → IsSpelled text ps → IsSpelled text qs → ps ≡ qs
one_spelling text ps qs h k = stand_once false Nothing ps qs (sym h.whole ∙ k.whole) h.stand k.stand

pub one_stop : (text : List Mark) (p q : Place) → IsStopped text p → IsStopped text q → p ≡ q
one_stop text p q h k = let e = stopped_is_refused text p h in let f = stopped_is_refused text q k in same_refusal p q (sym e ∙ f)
  where
    same_refusal : (p q : Place) → ◌≡◌ {A = Result (List Piece) Place} (Err p) (Err q) → p ≡ q
    same_refusal p q e = cc

pub not_both : (text : List Mark) (ps : List Part) (p : Place) → IsSpelled text ps → IsStopped text p → ⊥
not_both text ps p h k = unlike (pieces 0 ps) p (sym (spelled_are_read text ps h) ∙ stopped_is_refused text p k)
  where
    unlike : (ps : List Piece) (p : Place) → Ok ps ≡ Err p → ⊥
    unlike ps p e = cc
