-- The words that stand in statements before their lists of statements, and the classes of tokens that they are.
use Rattle.std.specs.Prelude.{ℕ, Option, Some, None}
use Rattle.cob_tree.specs.declared.keyword.Keyword.{Keyword}
use Rattle.cob_tree.specs.declared.keyword.Keyword.TheVariants as key
use Rattle.cob_tree.specs.declared.token.Rel.{Rel}
use Rattle.cob_tree.specs.declared.token.Rel.TheVariants as rel
use Rattle.cob_tree.specs.declared.stmt.Mode.{Mode}
use Rattle.cob_tree.specs.declared.stmt.Mode.TheVariants as mode
use Rattle.cob_tree.specs.declared.stmt.TestPoint.{TestPoint}
use Rattle.cob_tree.specs.declared.stmt.TestPoint.TheVariants as test_point
use Rattle.cob_tree.specs.Symbols.{Symbol, Relation, Sign}
use Rattle.cob_parse_expr.specs.LexemeClasses.{of, word_symbol}
use Rattle.cob_parse_expr.specs.LexemeClasses as known
use Rattle.cob_parse_verb.specs.declared.word.Start.{Start}
use Rattle.cob_parse_verb.specs.declared.word.Start.TheVariants as start
use Rattle.cob_parse_verb.specs.declared.word.Begin.{Begin}

-- A reserved word that stands in a statement before its lists of statements. None of them looks ahead.
pub data Word : Type 0 where
  To : Word
  Giving : Word
  From : Word
  By : Word
  Into : Word
  Remainder : Word
  Rounded : Word
  True : Word
  Run : Word
  Input : Word
  Output : Word
  EndWrite : Word
  Thru : Word
  Times : Word
  Test : Word
  Before : Word
  After : Word
  Varying : Word
  Until : Word
  Any : Word
  When : Word

-- how a word is written
abbrev pub key_of : Word → Keyword
key_of To = key.To
key_of Giving = key.Giving
key_of From = key.From
key_of By = key.By
key_of Into = key.Into
key_of Remainder = key.Remainder
key_of Rounded = key.Rounded
key_of True = key.True
key_of Run = key.Run
key_of Input = key.Input
key_of Output = key.Output
key_of EndWrite = key.EndWrite
key_of Thru = key.Thru
key_of Times = key.Times
key_of Test = key.Test
key_of Before = key.Before
key_of After = key.After
key_of Varying = key.Varying
key_of Until = key.Until
key_of Any = key.Any
key_of When = key.When

-- the keyword is this very word
abbrev pub the_key : Word → Keyword → Option (Unit {0})
the_key w = known.the_key (key_of w)

abbrev pub the : Word → Sign → Option (Unit {0})
the w = of (known.the (key_of w))

-- INPUT or OUTPUT
abbrev pub mode_key : Keyword → Option Mode
mode_key key.Input = Some mode.Input
mode_key key.Output = Some mode.Output
mode_key _ = None

abbrev pub mode_of : Sign → Option Mode
mode_of s = word_symbol mode_key s.symbol

-- the keyword is BEFORE or AFTER
abbrev pub test_point_key : Keyword → Option TestPoint
test_point_key key.Before = Some test_point.Before
test_point_key key.After = Some test_point.After
test_point_key _ = None

abbrev pub test_point_of : Sign → Option TestPoint
test_point_of s = word_symbol test_point_key s.symbol

-- the relation =
abbrev pub equal_rel : Rel → Option (Unit {0})
equal_rel rel.Equal = Some tt
equal_rel _ = None

abbrev pub equal_symbol : Symbol → Option (Unit {0})
equal_symbol (Relation r) = equal_rel r
equal_symbol _ = None

abbrev pub equal_of : Sign → Option (Unit {0})
equal_of s = equal_symbol s.symbol

-- ---- the first words of statements

abbrev pub start_word : Start → Keyword
start_word start.Move = key.Move
start_word start.Set = key.Set
start_word start.Display = key.Display
start_word start.Add = key.Add
start_word start.Subtract = key.Subtract
start_word start.Multiply = key.Multiply
start_word start.Divide = key.Divide
start_word start.Compute = key.Compute
start_word start.If = key.If
start_word start.Evaluate = key.Evaluate
start_word start.Perform = key.Perform
start_word start.Go = key.Go
start_word start.Exit = key.Exit
start_word start.Continue = key.Continue
start_word start.Stop = key.Stop
start_word start.Open = key.Open
start_word start.Close = key.Close
start_word start.Read = key.Read
start_word start.Write = key.Write

abbrev pub start_key : Keyword → Option Start
start_key key.Move = Some start.Move
start_key key.Set = Some start.Set
start_key key.Display = Some start.Display
start_key key.Add = Some start.Add
start_key key.Subtract = Some start.Subtract
start_key key.Multiply = Some start.Multiply
start_key key.Divide = Some start.Divide
start_key key.Compute = Some start.Compute
start_key key.If = Some start.If
start_key key.Evaluate = Some start.Evaluate
start_key key.Perform = Some start.Perform
start_key key.Go = Some start.Go
start_key key.Exit = Some start.Exit
start_key key.Continue = Some start.Continue
start_key key.Stop = Some start.Stop
start_key key.Open = Some start.Open
start_key key.Close = Some start.Close
start_key key.Read = Some start.Read
start_key key.Write = Some start.Write
start_key _ = None

-- the first word of a statement on its line
abbrev pub begin_on : ℕ → Option Start → Option Begin
begin_on line None = None
begin_on line (Some s) = Some (record { line = line; start = s })

abbrev pub begin_of : Sign → Option Begin
begin_of s = begin_on s.line (word_symbol start_key s.symbol)
