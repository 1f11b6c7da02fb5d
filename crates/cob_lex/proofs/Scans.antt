-- Bytes give one thing.
use Rattle.std.proofs.Common.{◌≡◌, ℕ, List, map, Result, Ok, Err, refl, ap, ◌∙◌, sym}
use Rattle.cob_tree.specs.declared.token.Token.{Token}
use Rattle.cob_lex.specs.declared.text.Mark.{Mark}
use Rattle.cob_lex.specs.declared.refusal.Place as text
use Rattle.cob_lex.specs.declared.piece.Piece.{Piece}
use Rattle.cob_lex.specs.declared.piece.Place.{Place}
use Rattle.cob_lex.specs.Text.{source_text}
use Rattle.cob_lex.specs.Spelled.{Part, pieces, place}
use Rattle.cob_lex.specs.Pieces.{raw_tokens}
use Rattle.cob_lex.specs.Rows.{rewritten}
use Rattle.cob_lex.specs.Canonical.{token, AreTokensOf}
use Rattle.cob_lex.specs.Scan.{Scan, BadLineAt, BadTokenAt, Tokens, Lexes, ScansBy, Scans}
use Rattle.cob_lex.proofs.Spelling.{one_spelling, one_stop, not_both, tokens_are, stopped_at}

same_tokens : (text : List Mark) (ts us : List Token) → AreTokensOf text ts → AreTokensOf text us → ts ≡ us
same_tokens text ts us h k = h.are ∙ ap (λ (ps : List Part). map (token text) (rewritten (pieces 0 ps))) (one_spelling text h.parts k.parts h.spelled k.spelled) ∙ sym k.are

same_place : (l c m d : ℕ) → place l c ≡ place m d → BadTokenAt l c ≡ BadTokenAt m d
same_place l c m d e = let f : l ≡ m = ap (λ (p : Place). p.line) e in let g : c ≡ d = ap (λ (p : Place). p.column) e in cc

lexed_once : (text : List Mark) (s t : Scan) → Lexes text s → Lexes text t → s ≡ t
lexed_once text (BadLineAt l c) t h k = absurd h
lexed_once text s (BadLineAt l c) h k = absurd k
lexed_once text (BadTokenAt l c) (BadTokenAt m d) h k = same_place l c m d (one_stop text (place l c) (place m d) h k)
lexed_once text (BadTokenAt l c) (Tokens us) h k = absurd (not_both text k.parts (place l c) k.spelled h)
lexed_once text (Tokens ts) (BadTokenAt l c) h k = absurd (not_both text h.parts (place l c) h.spelled k)
lexed_once text (Tokens ts) (Tokens us) h k = ap Tokens (same_tokens text ts us h k)

scanned_once : (r : Result (List Mark) text.Place) (s t : Scan) → ScansBy r s → ScansBy r t → s ≡ t
scanned_once (Ok text) s t h k = lexed_once text s t h k
scanned_once (Err bad) s t h k = h ∙ sym k

pub one_scan : (bytes : List ℕ) (s t : Scan) → Scans bytes s → Scans bytes t → s ≡ t
one_scan bytes s t h k = scanned_once (source_text bytes) s t h k

lexed : (text : List Mark) (r : Result (List Piece) Place) → raw_tokens text ≡ r → (s : Scan) × Lexes text s
lexed text (Ok raw) e = (Tokens (map (token text) (rewritten raw)), tokens_are text raw _ e refl)
lexed text (Err p) e = (BadTokenAt p.line p.column, stopped_at text p e)

scanned : (r : Result (List Mark) text.Place) → (s : Scan) × ScansBy r s
scanned (Ok text) = lexed text (raw_tokens text) refl
scanned (Err bad) = (BadLineAt bad.line bad.column, refl)

pub some_scan : (bytes : List ℕ) → (s : Scan) × Scans bytes s
some_scan bytes = scanned (source_text bytes)
