-- The numeric literals of a program, in the order of its source. Where the program doesn't tell that, they stand in the
-- order of its types' fields.
use Rattle.std.specs.Prelude.{ℕ, suc, ◌==◌, if◌then◌else◌, List, [], ◌∷◌, ◌++◌, map, Option, None, Some}
use Rattle.std.specs.Borrow.{Bor}
use Rattle.cob_tree.specs.declared.token.Num.{Num}
use Rattle.cob_data.specs.declared.layout.Sender.{Sender}
use Rattle.cob_data.specs.declared.layout.Sender.TheVariants as sender
use Rattle.cob_data.specs.declared.layout.Pair.{Pair}
use Rattle.cob_data.specs.declared.layout.Item.{Item}
use Rattle.cob_data.specs.declared.layout.Flag.{Flag}
use Rattle.cob_data.specs.declared.layout.Layout.{Layout}
use Rattle.cob_program.specs.Sum.{Sum, MkSum, Parts, no_parts, more_parts, Part, MkPart, Factors, no_factors, more_factors, Factor, MkFactor, Atom, item, number, group}
use Rattle.cob_program.specs.Logic.{Test, numbers, texts, member, numeric, always, Logic, all_of, any_of, not_, test, Logics, no_logics, more_logics}
use Rattle.cob_program.specs.Act.{Turns, once, times, until, varying, Stmt, MkStmt, Stmts, no_stmts, more_stmts, Phrase, left_out, given, Act, move, arith, if_, evaluate, perform, read, write, show, Whens, no_whens, more_whens, When, MkWhen, Body, range, inline, Para, Program}

-- ---- one literal

-- what contracts see of references to literals
abbrev pub numbers_of : List (Bor Num) → List Num
numbers_of xs = map (λ x. x.now) xs

abbrev pub sender_literals : Sender → List Num
sender_literals (sender.Number n) = n ∷ []
sender_literals _ = []

abbrev pub senders_literals : List Sender → List Num
senders_literals [] = []
senders_literals (x ∷ xs) = sender_literals x ++ senders_literals xs

abbrev pub value_literals : Option Sender → List Num
value_literals None = []
value_literals (Some x) = sender_literals x

abbrev pub pair_literals : Pair → List Num
pair_literals x = sender_literals x.low ++ sender_literals x.high

abbrev pub pairs_literals : List Pair → List Num
pairs_literals [] = []
pairs_literals (x ∷ xs) = pair_literals x ++ pairs_literals xs

-- ---- sums and conditions

abbrev mutual
  pub sum_literals : Sum → List Num
  sum_literals (MkSum ps) = parts_literals ps

  pub parts_literals : Parts → List Num
  parts_literals no_parts = []
  parts_literals (more_parts p ps) = part_literals p ++ parts_literals ps

  pub part_literals : Part → List Num
  part_literals (MkPart minus fs) = factors_literals fs

  pub factors_literals : Factors → List Num
  factors_literals no_factors = []
  factors_literals (more_factors f fs) = factor_literals f ++ factors_literals fs

  pub factor_literals : Factor → List Num
  factor_literals (MkFactor over minus atom) = atom_literals atom

  pub atom_literals : Atom → List Num
  atom_literals (item place) = []
  atom_literals (number n) = n ∷ []
  atom_literals (group s) = sum_literals s

abbrev pub test_literals : Test → List Num
test_literals (numbers left rel right) = sum_literals left ++ sum_literals right
test_literals (texts left rel right) = sender_literals left ++ sender_literals right
test_literals (member place ranges) = pairs_literals ranges
test_literals (numeric place) = []
test_literals always = []

abbrev mutual
  pub logic_literals : Logic → List Num
  logic_literals (all_of ls) = logics_literals ls
  logic_literals (any_of ls) = logics_literals ls
  logic_literals (not_ l) = logic_literals l
  logic_literals (test t) = test_literals t

  pub logics_literals : Logics → List Num
  logics_literals no_logics = []
  logics_literals (more_logics l ls) = logic_literals l ++ logics_literals ls

-- the literals of the tests of a WHEN
abbrev pub tests_literals : List Logic → List Num
tests_literals [] = []
tests_literals (l ∷ ls) = logic_literals l ++ tests_literals ls

-- ---- statements

abbrev pub turns_literals : Turns → List Num
turns_literals once = []
turns_literals (times x) = sender_literals x
turns_literals (until after t) = logic_literals t
turns_literals (varying after place start by t) = sender_literals start ++ (sender_literals by ++ logic_literals t)

abbrev mutual
  pub stmts_literals : Stmts → List Num
  stmts_literals no_stmts = []
  stmts_literals (more_stmts s ss) = stmt_literals s ++ stmts_literals ss

  pub stmt_literals : Stmt → List Num
  stmt_literals (MkStmt n line a) = act_literals a

  pub phrase_literals : Phrase → List Num
  phrase_literals left_out = []
  phrase_literals (given ss) = stmts_literals ss

  -- the control of a PERFORM stands before its body
  pub act_literals : Act → List Num
  act_literals (move from to) = sender_literals from
  act_literals (arith s targets remainder size fine) = sum_literals s ++ (phrase_literals size ++ stmts_literals fine)
  act_literals (if_ t held other) = logic_literals t ++ (stmts_literals held ++ stmts_literals other)
  act_literals (evaluate ws other) = whens_literals ws ++ stmts_literals other
  act_literals (perform body turns) = turns_literals turns ++ body_literals body
  act_literals (read f into end fine) = phrase_literals end ++ stmts_literals fine
  act_literals (write rec from) = value_literals from
  act_literals (show senders) = senders_literals senders
  act_literals _ = []

  pub whens_literals : Whens → List Num
  whens_literals no_whens = []
  whens_literals (more_whens w ws) = when_literals w ++ whens_literals ws

  pub when_literals : When → List Num
  when_literals (MkWhen ts ss) = tests_literals ts ++ stmts_literals ss

  pub body_literals : Body → List Num
  body_literals (range first last) = []
  body_literals (inline ss) = stmts_literals ss

-- ---- whole programs

-- the condition-names of an item stand behind its entry
abbrev pub flags_literals : ℕ → List Flag → List Num
flags_literals place [] = []
flags_literals place (f ∷ flags) = (if f.item == place then pairs_literals f.ranges else []) ++ flags_literals place flags

abbrev pub item_literals : List Flag → ℕ → Item → List Num
item_literals flags place i = value_literals i.value ++ flags_literals place flags

-- the literals of the items from a place on
abbrev pub items_literals : List Flag → ℕ → List Item → List Num
items_literals flags place [] = []
items_literals flags place (i ∷ items) = item_literals flags place i ++ items_literals flags (suc place) items

abbrev pub data_literals : Layout → List Num
data_literals l = items_literals l.flags 0 l.items

abbrev pub para_literals : Para → List Num
para_literals x = stmts_literals x.body

abbrev pub paras_literals : List Para → List Num
paras_literals [] = []
paras_literals (x ∷ xs) = para_literals x ++ paras_literals xs

abbrev pub program_literals : Program → List Num
program_literals p = data_literals p.layout ++ paras_literals p.paras
