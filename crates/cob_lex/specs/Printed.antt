-- Texts that are printed tokens.
use Rattle.std.specs.Prelude.{◌≡◌, ◌⊎◌, ℕ, Bool, true, false, ◌||◌, ◌==◌, List, [], ◌∷◌, map, Option, Some, None}
use Rattle.std.specs.List.{All}
use Rattle.cob_tree.specs.declared.token.Token.{Token}
use Rattle.cob_lex.specs.declared.text.Mark.{Mark}
use Rattle.cob_lex.specs.declared.cut.Shape.{Shape}
use Rattle.cob_lex.specs.declared.cut.Shape.TheVariants.{Word, Number, Padded, Literal, Symbol, Relation, Stop, PictureString}
use Rattle.cob_lex.specs.declared.cut.Due.{Due}
use Rattle.cob_lex.specs.declared.cut.Due.TheVariants.{Nothing, BehindPic, BehindIs}
use Rattle.cob_lex.specs.Text.{numbered_lines}
use Rattle.cob_lex.specs.Plain.{IsPlain, plain_text}
use Rattle.cob_lex.specs.Characters.{ch_at, last_ch, characters, is_sign, ends_rightly}
use Rattle.cob_lex.specs.Words.{spelled_keyword}
use Rattle.cob_lex.specs.Tokens.{IsNumber, IsPicture, IsTheWordIs, MayHaveSign, RelationEnds, PictureEnds, is_opening, due_after}
use Rattle.cob_lex.specs.Spelled.{Part, text_of, pieces}
use Rattle.cob_lex.specs.Rows.{rewritten}
use Rattle.cob_lex.specs.Canonical.{token}
use Rattle.cob_lex.specs.Spellable.{IsOwn}
use Rattle.cob_lex.specs.Scan.{Tokens, Scans}

-- What stands directly behind a token: an end behind a word, a number and a text; a space behind a plus, a hyphen and a
-- Stop; anything behind other marks; and what ends a relation or a picture.
abbrev pub IsSpaced : Shape → List Mark → List Mark → Type 0
IsSpaced (Word word) front behind = ends_rightly behind ≡ true
IsSpaced Number front behind = ends_rightly behind ≡ true
IsSpaced Padded front behind = Unit {0}
IsSpaced Literal front behind = ends_rightly behind ≡ true
IsSpaced Symbol front behind = is_sign (ch_at front 0) ≡ true → ch_at behind 0 ≡ 32
IsSpaced (Relation r) front behind = RelationEnds r behind
IsSpaced Stop front behind = ch_at behind 0 ≡ 32
IsSpaced PictureString front behind = PictureEnds front behind

abbrev pub is_letter_i : ℕ → Bool
is_letter_i ch = ch == 73 || ch == 105

-- a space, or a semicolon before one
abbrev pub IsPrintedGap : List Mark → List Mark → Type 0
IsPrintedGap front behind = (characters front ≡ 32 ∷ []) ⊎ ((characters front ≡ 59 ∷ []) × (ch_at behind 0 ≡ 32))

-- What a printed text holds: gaps, tokens by their own characters, and pictures behind PIC IS, or behind PIC where they
-- don't begin with the letter I. Behind PIC nothing else stands.
abbrev pub IsPlaced : Bool → Due → Option Shape → List Mark → List Mark → Type 0
IsPlaced free due None front behind = IsPrintedGap front behind
IsPlaced free Nothing (Some PictureString) front behind = ⊥
IsPlaced free Nothing (Some Number) front behind = IsNumber front × MayHaveSign free front × IsSpaced Number front behind
IsPlaced free Nothing (Some shape) front behind = IsOwn shape front × IsSpaced shape front behind
IsPlaced free BehindPic (Some (Word word)) front behind =
    IsTheWordIs front × (word ≡ spelled_keyword front) × IsSpaced (Word word) front behind
IsPlaced free BehindPic (Some PictureString) front behind =
    IsPicture front × IsSpaced PictureString front behind × (is_letter_i (ch_at front 0) ≡ false)
IsPlaced free BehindPic (Some shape) front behind = ⊥
IsPlaced free BehindIs (Some PictureString) front behind = IsPicture front × IsSpaced PictureString front behind
IsPlaced free BehindIs (Some shape) front behind = ⊥

abbrev pub IsPrinted : Bool → Due → List Part → Type 0
IsPrinted free due [] = Unit {0}
IsPrinted free due (p ∷ ps) =
    IsPlaced free due p.shape p.front (text_of ps) × IsPrinted (is_opening (last_ch p.front)) (due_after due p.shape) ps

-- the canonical tokens of a text that is spelled so
abbrev pub tokens_of : List Part → List Token
tokens_of ps = map (token (text_of ps)) (rewritten (pieces 0 ps))

-- a source of plain lines whose text is printed so has these tokens
abbrev pub PrintedAreRead : Type 0
PrintedAreRead =
    (bytes : List ℕ) (ps : List Part) → All IsPlain (numbered_lines bytes) → plain_text (numbered_lines bytes) ≡ text_of ps
    → IsPrinted false Nothing ps → Scans bytes (Tokens (tokens_of ps))
