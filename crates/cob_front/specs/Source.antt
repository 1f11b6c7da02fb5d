-- What a source is: its tree, the layout of its data and its program, or the first cause for which it is refused.
use Rattle.std.specs.Prelude.{◌≡◌, ◌≤◌, ◌<◌, ◌⊎◌, ℕ, List, [], length, map, Result, Ok, Err}
use Rattle.cob_tree.specs.declared.token.Token.{Token}
use Rattle.cob_tree.specs.declared.tree.Tree as declared_tree
use Rattle.cob_tree.specs.Stmt.{Tree}
use Rattle.cob_tree.specs.Symbols.{seen}
use Rattle.cob_lex.specs.Scan.{BadLineAt, BadTokenAt, Tokens, Scans}
use Rattle.cob_parse_proc.specs.Parsing.{IsTree, IsWrong, IsDeep}
use Rattle.cob_data.specs.declared.layout.Layout.{Layout}
use Rattle.cob_data.specs.declared.end.DataEnd.TheVariants as data_end
use Rattle.cob_data.specs.Layouts as layouts
use Rattle.cob_data.specs.Layouts.{HasLayout, layout}
use Rattle.cob_program.specs.declared.program.Program as declared_program
use Rattle.cob_program.specs.Act.{Program}
use Rattle.cob_program.specs.ActView.{plain_program}
use Rattle.cob_typed.specs.Typing.{IsTyped, IsOutside, typed}
use Rattle.cob_front.specs.declared.refusal.Refusal.{Refusal}
use Rattle.cob_front.specs.declared.refusal.Refusal.TheVariants as end
use Rattle.cob_lex.specs.Text.{source_limit}

-- the bytes are within the limit, and have these canonical tokens
pub record HasTokens (bytes : List ℕ) (tokens : List Token) : Type 0 where
  pub fits : length bytes ≤ source_limit
  pub scanned : Scans bytes (Tokens tokens)

-- The bytes' tokens are those of the tree.
pub record StandsFor (bytes : List ℕ) (t : Tree) : Type 0 where
  pub tokens : List Token
  pub has : HasTokens bytes tokens
  pub parsed : IsTree (map seen tokens) t

-- a tree without its statements, from which its layout follows
abbrev pub data_of : Tree → declared_tree.Tree
data_of t = record { front = t.front; sentences = []; paragraphs = []; end = t.end }

-- Each rule on data and on statements is kept, and no limit on data is exceeded. The layout and the program follow from
-- the tree.
pub record IsTypedTree (t : Tree) : Type 0 where
  pub has_layout : HasLayout (data_of t)
  pub rules : IsTyped (layout (data_of t)) t

abbrev pub program_of : Tree → Program
program_of t = typed (layout (data_of t)) t

-- the source is one of this program, whose rules on data and statements it keeps
pub record IsSource (bytes : List ℕ) (p : Program) : Type 0 where
  pub tree : Tree
  pub stands : StandsFor bytes tree
  pub keeps : IsTypedTree tree
  pub program : p ≡ program_of tree

-- ---- causes

-- why a tree has no program: the first broken rule on data, else the first limit that is exceeded, else the first broken
-- rule on statements
abbrev pub IsTreeCause : Tree → Refusal → Type 0
IsTreeCause t (end.Outside rule line) =
    layouts.IsCause (data_of t) (data_end.Outside rule line) ⊎ (HasLayout (data_of t) × IsOutside (layout (data_of t)) t rule line)
IsTreeCause t (end.Limit which count) = layouts.IsCause (data_of t) (data_end.Limit which count)
IsTreeCause t _ = ⊥

pub record HasCause (bytes : List ℕ) (e : Refusal) : Type 0 where
  pub tree : Tree
  pub stands : StandsFor bytes tree
  pub cause : IsTreeCause tree e

-- why bytes are no source of a program
abbrev pub IsCause : List ℕ → Refusal → Type 0
IsCause bytes end.TooLong = source_limit < length bytes
IsCause bytes (end.BadLine line column) = (length bytes ≤ source_limit) × Scans bytes (BadLineAt line column)
IsCause bytes (end.BadToken line column) = (length bytes ≤ source_limit) × Scans bytes (BadTokenAt line column)
IsCause bytes (end.Syntax line) = (tokens : List Token) × HasTokens bytes tokens × IsWrong tokens line
IsCause bytes (end.Nesting count) = (tokens : List Token) × HasTokens bytes tokens × IsDeep (map seen tokens) × (count ≡ 65)
IsCause bytes (end.Outside rule line) = HasCause bytes (end.Outside rule line)
IsCause bytes (end.Limit which count) = HasCause bytes (end.Limit which count)
IsCause bytes end.Memory = ⊥

-- ---- answers

-- what is answered holds, or memory ran out
abbrev pub Answers : {A : Type 0} → (A → Type 0) → (Refusal → Type 0) → Result A Refusal → Type 0
Answers is_answer is_cause (Ok a) = is_answer a
Answers is_answer is_cause (Err e) = is_cause e ⊎ (e ≡ end.Memory)

-- the result is refused for this reason, or for want of memory
abbrev pub IsRefused : {A : Type 0} → Result A Refusal → Refusal → Type 0
IsRefused (Ok a) wanted = ⊥
IsRefused (Err e) wanted = (e ≡ wanted) ⊎ (e ≡ end.Memory)

-- the result is no refusal, but for want of memory
abbrev pub IsAccepted : {A : Type 0} → Result A Refusal → Type 0
IsAccepted (Ok a) = Unit {0}
IsAccepted (Err e) = e ≡ end.Memory

abbrev pub IsProgram : List ℕ → declared_program.Program → Type 0
IsProgram bytes p = IsSource bytes (plain_program p)

abbrev pub IsProgramOf : Tree → declared_program.Program → Type 0
IsProgramOf t p = IsTypedTree t × (plain_program p ≡ program_of t)
