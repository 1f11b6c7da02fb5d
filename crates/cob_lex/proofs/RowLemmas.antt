-- Rewriting, one row on.
use Rattle.std.proofs.Common.{◌≡◌, ℕ, ◌+◌, ◌-◌, ◌<◌, ◌≤◌, zero, suc, Bool, List, [], ◌∷◌, ◌++◌, length, drop, refl, ap, ◌∙◌, sym, arith, append_assoc, append-nil, Option}
use Rattle.cob_lex.specs.declared.piece.Piece.{Piece}
use Rattle.cob_lex.specs.declared.row.Row.{Row}
use Rattle.cob_lex.specs.declared.row.Compared.{Compared}
use Rattle.cob_lex.specs.Rows.{row_at, head, fated, reworded, compared_at, words_of, relation_or, related, is_stop, padded_one, padded}

reworded_skip : (n : ℕ) (xs : List Piece) → reworded n xs ≡ reworded 0 (drop n xs)
unfolding reworded
reworded_skip zero [] = refl
reworded_skip (suc n) [] = refl
reworded_skip zero (p ∷ ps) = refl
reworded_skip (suc n) (p ∷ ps) = reworded_skip n ps

reworded_behind : (n : ℕ) (p : Piece) (ps : List Piece) → 0 < n → reworded (n - 1) ps ≡ reworded 0 (drop n (p ∷ ps))
reworded_behind zero p ps h = absurd (omega arith)
reworded_behind (suc n) p ps h = let e : suc n - 1 ≡ n = omega arith in ap (λ k. reworded k ps) e ∙ reworded_skip n ps

reworded_more : (xs : List Piece) → 0 < length xs → 0 < (row_at xs).words → reworded 0 xs ≡ fated (row_at xs).fate (head xs) ++ reworded 0 (drop (row_at xs).words xs)
unfolding reworded
reworded_more [] h some = absurd (omega arith)
reworded_more (p ∷ ps) h some = ap (λ t. fated (row_at (p ∷ ps)).fate p ++ t) (reworded_behind (row_at (p ∷ ps)).words p ps some)

pub reworded_step : (done next xs ys all : List Piece) (r : Row) (m : Piece) → m ≡ head xs → 0 < length xs → r ≡ row_at xs → 0 < r.words → ys ≡ drop r.words xs → next ≡ done ++ fated r.fate m → done ++ reworded 0 xs ≡ all → next ++ reworded 0 ys ≡ all
reworded_step done next xs ys all r m e h is some rest pushed so_far =
    let w : 0 < (row_at xs).words = rw (← is) some in
    let more : reworded 0 xs ≡ fated r.fate (head xs) ++ reworded 0 (drop r.words xs) = rw is (reworded_more xs h w) in
    rw (rest, pushed, e) (append_assoc done (fated r.fate (head xs)) (reworded 0 (drop r.words xs)) ∙ ap (λ t. done ++ t) (sym more) ∙ so_far)

pub reworded_ends : (done xs all : List Piece) → length xs ≡ 0 → done ++ reworded 0 xs ≡ all → done ≡ all
unfolding reworded
reworded_ends done [] all h so_far = sym (append-nil done) ∙ so_far
reworded_ends done (p ∷ ps) all h so_far = absurd (omega arith)

related_skip : (n : ℕ) (xs : List Piece) → related n xs ≡ related 0 (drop n xs)
unfolding related
related_skip zero [] = refl
related_skip (suc n) [] = refl
related_skip zero (p ∷ ps) = refl
related_skip (suc n) (p ∷ ps) = related_skip n ps

related_behind : (n : ℕ) (p : Piece) (ps : List Piece) → 0 < n → related (n - 1) ps ≡ related 0 (drop n (p ∷ ps))
related_behind zero p ps h = absurd (omega arith)
related_behind (suc n) p ps h = let e : suc n - 1 ≡ n = omega arith in ap (λ k. related k ps) e ∙ related_skip n ps

related_more : (xs : List Piece) → 0 < length xs → 0 < words_of (compared_at xs) → related 0 xs ≡ relation_or (compared_at xs) (head xs) ∷ related 0 (drop (words_of (compared_at xs)) xs)
unfolding related
related_more [] h some = absurd (omega arith)
related_more (p ∷ ps) h some = ap (λ t. relation_or (compared_at (p ∷ ps)) p ∷ t) (related_behind (words_of (compared_at (p ∷ ps))) p ps some)

pub related_step : (done next xs ys all : List Piece) (c : Option Compared) (m p : Piece) (n : ℕ) → m ≡ head xs → 0 < length xs → c ≡ compared_at xs → 0 < words_of c → n ≡ words_of c → ys ≡ drop n xs → p ≡ relation_or c m → next ≡ done ++ p ∷ [] → done ++ related 0 xs ≡ all → next ++ related 0 ys ≡ all
related_step done next xs ys all c m p n e h is some count rest here pushed so_far =
    let w : 0 < words_of (compared_at xs) = rw (← is) some in
    let more : related 0 xs ≡ relation_or c (head xs) ∷ related 0 (drop (words_of c) xs) = rw is (related_more xs h w) in
    rw (rest, count, pushed, here, e) (append_assoc done (relation_or c (head xs) ∷ []) (related 0 (drop (words_of c) xs)) ∙ ap (λ t. done ++ t) (sym more) ∙ so_far)

pub related_ends : (done xs all : List Piece) → length xs ≡ 0 → done ++ related 0 xs ≡ all → done ≡ all
unfolding related
related_ends done [] all h so_far = sym (append-nil done) ∙ so_far
related_ends done (p ∷ ps) all h so_far = absurd (omega arith)

padded_more : (behind_stop : Bool) (xs : List Piece) → 0 < length xs → padded behind_stop xs ≡ padded_one behind_stop (head xs) ∷ padded (is_stop (head xs).shape) (drop 1 xs)
unfolding padded
padded_more behind_stop [] h = absurd (omega arith)
padded_more behind_stop (p ∷ ps) h = refl

pub padded_step : (done next xs ys all : List Piece) (before behind : Bool) (m p : Piece) → m ≡ head xs → 0 < length xs → ys ≡ drop 1 xs → behind ≡ is_stop m.shape → p ≡ padded_one before m → next ≡ done ++ p ∷ [] → done ++ padded before xs ≡ all → next ++ padded behind ys ≡ all
padded_step done next xs ys all before behind m p e h rest is here pushed so_far =
    rw (rest, is, pushed, here, e) (append_assoc done (padded_one before (head xs) ∷ []) (padded (is_stop (head xs).shape) (drop 1 xs)) ∙ ap (λ t. done ++ t) (sym (padded_more before xs h)) ∙ so_far)

pub padded_ends : (done xs all : List Piece) (before : Bool) → length xs ≡ 0 → done ++ padded before xs ≡ all → done ≡ all
unfolding padded
padded_ends done [] all before h so_far = sym (append-nil done) ∙ so_far
padded_ends done (p ∷ ps) all before h so_far = absurd (omega arith)
