-- Tokens as statements see them. Behind a name, TIMES makes it the operand of an inline PERFORM, so that TIMES is seen
-- like the words that begin a loop.
use Rattle.std.specs.Prelude.{Some}
use Rattle.cob_tree.specs.declared.keyword.Keyword.{Keyword}
use Rattle.cob_tree.specs.declared.keyword.Keyword.TheVariants as key
use Rattle.reading.specs.Printing.{Alphabet, Front, Here}
use Rattle.cob_tree.specs.Symbols.{Symbol, Key, Sign}
use Rattle.cob_tree.specs.Items.{Item, Fits}
use Rattle.cob_tree.specs.Cues.{Cue, Loops}
use Rattle.cob_parse_expr.specs.Alphabet.{key_front, symbol_front}

abbrev pub word_front : Keyword → Front Sign Cue
word_front key.Times = Here (Some Loops)
word_front k = key_front k

abbrev pub token_front : Symbol → Front Sign Cue
token_front (Key k) = word_front k
token_front y = symbol_front y

abbrev pub procedure : Alphabet Sign Item Cue
procedure = record { Fits = Fits; depth = λ i. i.depth; front = λ s. token_front s.symbol }
