-- Nonnumeric literals in a text: where its end stands with respect to them.
use Rattle.std.specs.Prelude.{ℕ, Bool, ◌||◌, ◌==◌, if◌then◌else◌, List, Option, None, Some}
use Rattle.std.specs.List.{fold}
use Rattle.cob_lex.specs.declared.text.Mark.{Mark}
use Rattle.cob_lex.specs.declared.literal.Quote.{Quote}
use Rattle.cob_lex.specs.declared.literal.Quote.TheVariants.{Outside, Inside, Behind}

-- `"` or `'`
abbrev pub is_quotation : ℕ → Bool
is_quotation ch = ch == 34 || ch == 39

-- What a character opens that stands in no literal.
abbrev pub opened_by : Mark → Quote
opened_by mark = if is_quotation mark.ch then Inside mark else Outside

-- The next equal mark closes a literal, and the same mark right behind it goes on with it.
abbrev pub quote_after : Quote → Mark → Quote
quote_after Outside mark = opened_by mark
quote_after (Inside opening) mark = if mark.ch == opening.ch then Behind opening else Inside opening
quote_after (Behind opening) mark = if mark.ch == opening.ch then Inside opening else opened_by mark

-- What is open at the end of a text.
abbrev pub quote_of : List Mark → Quote
quote_of text = fold quote_after Outside text

abbrev pub opening_of : Quote → Option Mark
opening_of Outside = None
opening_of (Inside opening) = Some opening
opening_of (Behind opening) = None

-- the opening mark of the literal that is still open at the end of a text
abbrev pub open_literal : List Mark → Option Mark
open_literal text = opening_of (quote_of text)
