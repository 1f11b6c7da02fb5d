-- How many tokens a text may have: each raw token takes a character, and rewriting makes no token more.
use Rattle.std.proofs.Common.{◌≡◌, ℕ, ◌+◌, ◌-◌, ◌*◌, ◌≤◌, zero, suc, Bool, false, subst, ap, arith, List, [], ◌∷◌, length, map, Option, None, Some, Result, Ok, Err}
use Rattle.std.proofs.lemmas.List.{length-append, length-map}
use Rattle.cob_lex.specs.declared.text.Mark.{Mark}
use Rattle.cob_lex.specs.declared.refusal.Place as text
use Rattle.cob_lex.specs.Text.{source_text, source_limit}
use Rattle.cob_tree.specs.declared.token.Token.{Token}
use Rattle.cob_lex.specs.declared.cut.Shape.{Shape}
use Rattle.cob_lex.specs.declared.cut.State.{State}
use Rattle.cob_lex.specs.declared.cut.Cut.{Cut}
use Rattle.cob_lex.specs.declared.piece.Piece.{Piece}
use Rattle.cob_lex.specs.declared.piece.Place as lex
use Rattle.cob_lex.specs.declared.row.Fate.{Fate}
use Rattle.cob_lex.specs.declared.row.Fate.TheVariants.{Keep, Becomes, Dropped}
use Rattle.cob_lex.specs.Cuts.{cut, after}
use Rattle.cob_lex.specs.Pieces.{prefixed, begun, read, beginning}
use Rattle.cob_lex.specs.Rows.{row_at, fated, reworded, compared_at, words_of, related, is_stop, padded, rewritten}
use Rattle.cob_lex.specs.Canonical.{token, AreTokensOf}
use Rattle.cob_lex.specs.Spelled.{piece_list, pieces}
use Rattle.cob_lex.specs.Scan.{BadLineAt, Tokens, ScansBy, Scans}
use Rattle.cob_lex.proofs.Spelling.{spelled_are_read}
use Rattle.cob_lex.proofs.Most.{Most, most_more}
use Rattle.cob_lex.proofs.TextLengths.{text_few}
use Rattle.cob_tree.specs.Limits.{token_limit}

piece_few : (start : ℕ) (m : Mark) (n : ℕ) (shape : Option Shape) → length (piece_list start m n shape) ≤ 1
piece_few start m n None = omega arith
piece_few start m n (Some shape) = omega arith

prefixed_few : (n : ℕ) (ps : List Piece) (r : Result (List Piece) lex.Place) → length ps ≤ 1 → Most n r
    → Most (n + 1) (prefixed ps r)
prefixed_few n ps (Ok qs) h most = omega (arith, length-append ps qs)
prefixed_few n ps (Err refused) h most = tt

begun_few : (n start : ℕ) (m : Mark) (found : Option Cut) (next : Cut → Result (List Piece) lex.Place)
    → ((c : Cut) → Most n (next c)) → Most (n + 1) (begun start m found next)
begun_few n start m None next most = tt
begun_few n start m (Some c) next most =
    prefixed_few n (piece_list start m c.length c.shape) (next c) (piece_few start m c.length c.shape) (most c)

read_few : (start : ℕ) (s : State) (n : ℕ) (text : List Mark) → Most (length text) (read start s n text)
unfolding read
read_few start s n [] = omega arith
read_few start s (suc n) (m ∷ ms) =
    most_more (length ms) (length (m ∷ ms)) (read (start + 1) s n ms) (omega arith) (read_few (start + 1) s n ms)
read_few start s zero (m ∷ ms) =
    let next = λ (c : Cut). read (start + 1) (after s c (m ∷ ms)) (c.length - 1) ms in
    let found = cut s (m ∷ ms) in
    most_more (length ms + 1) (length (m ∷ ms)) (begun start m found next) (omega arith)
    (begun_few (length ms) start m found next (λ c. read_few (start + 1) (after s c (m ∷ ms)) (c.length - 1) ms))

fated_few : (fate : Fate) (p : Piece) → length (fated fate p) ≤ 1
fated_few Keep p = omega arith
fated_few (Becomes word) p = omega arith
fated_few Dropped p = omega arith

reworded_few : (n : ℕ) (ps : List Piece) → length (reworded n ps) ≤ length ps
unfolding reworded
reworded_few n [] = omega arith
reworded_few (suc n) (p ∷ ps) = omega (arith, reworded_few n ps)
reworded_few zero (p ∷ ps) =
    let row = row_at (p ∷ ps) in
    let rest = reworded (row.words - 1) ps in
    omega (arith, length-append (fated row.fate p) rest, fated_few row.fate p, reworded_few (row.words - 1) ps)

related_few : (n : ℕ) (ps : List Piece) → length (related n ps) ≤ length ps
unfolding related
related_few n [] = omega arith
related_few (suc n) (p ∷ ps) = omega (arith, related_few n ps)
related_few zero (p ∷ ps) = omega (arith, related_few (words_of (compared_at (p ∷ ps)) - 1) ps)

padded_few : (behind_stop : Bool) (ps : List Piece) → length (padded behind_stop ps) ≤ length ps
unfolding padded
padded_few behind_stop [] = omega arith
padded_few behind_stop (p ∷ ps) = omega (arith, padded_few (is_stop p.shape) ps)

rewritten_few : (ps : List Piece) → length (rewritten ps) ≤ length ps
rewritten_few ps =
    let once = reworded 0 ps in
    let twice = related 0 once in
    omega (arith, reworded_few 0 ps, related_few 0 once, padded_few false twice)

-- a text has at most as many tokens as characters
tokens_few : (text : List Mark) (tokens : List Token) → AreTokensOf text tokens → length tokens ≤ length text
tokens_few text tokens are =
    let raw = pieces 0 are.parts in
    let most : Most {E = lex.Place} (length text) (Ok raw) = subst (Most (length text)) (spelled_are_read text are.parts are.spelled) (read_few 0 beginning 0 text) in
    let same : length tokens ≡ length (map (token text) (rewritten raw)) = ap length are.are in
    omega (arith, same, length-map (rewritten raw) (token text), rewritten_few raw, most)

scanned_few : (n : ℕ) (r : Result (List Mark) text.Place) (tokens : List Token) → Most n r → ScansBy r (Tokens tokens) → length tokens ≤ n
scanned_few n (Ok marks) tokens most are = omega (arith, most, tokens_few marks tokens are)
scanned_few n (Err bad) tokens most are = absurd (unlike tokens bad.line bad.column are)
  where
    unlike : (tokens : List Token) (line column : ℕ) → Tokens tokens ≡ BadLineAt line column → ⊥
    unlike tokens line column e = cc

pub few_tokens : (bytes : List ℕ) (tokens : List Token) → length bytes ≤ source_limit → Scans bytes (Tokens tokens)
    → length tokens ≤ token_limit
few_tokens bytes tokens h are =
    let n = 66 * (length bytes + 1) in
    let most : length tokens ≤ n = scanned_few n (source_text bytes) tokens (text_few bytes) are in
    omega arith
