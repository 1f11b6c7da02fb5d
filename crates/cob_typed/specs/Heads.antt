-- A verb in two parts: what is judged before its lists of statements, and these lists.
use Rattle.std.specs.Prelude.{ℕ, map, Option}
use Rattle.std.specs.Option.{option_copied}
use Rattle.cob_tree.specs.Stmt as tree
use Rattle.cob_tree.specs.StmtView as tree_view
use Rattle.cob_program.specs.Logic.{Logic}
use Rattle.cob_program.specs.LogicView.{plain_logic}
use Rattle.cob_program.specs.Act.{Turns, Phrase, Whens, Act, arith, if_, evaluate, perform, nothing, stop, read, inline}
use Rattle.cob_program.specs.ActView.{plain_act, plain_phrase, plain_whens, plain_turns}
use Rattle.cob_typed_exprs.specs.Judged.{Judged, sound, seen_as}
use Rattle.cob_typed_exprs.specs.Scope.{Scope}
use Rattle.cob_typed_conds.specs.Conditions.{walk_cond}
use Rattle.cob_typed_conds.specs.declared.selections.Looked.{Looked}
use Rattle.cob_typed_conds.specs.declared.selections.Looked.TheVariants.{Truth}
use Rattle.cob_typed_conds.specs.Selections.{looked_at}
use Rattle.cob_typed_verbs.specs.Arithmetic.{Worked, add_to, add_giving, subtract_from, subtract_giving, multiply_by, multiply_giving, divide_into, divide_giving, compute}
use Rattle.cob_typed_verbs.specs.Verbs.{move_act, set_act, show_act, open_act, close_act, read_parts, write_act}
use Rattle.cob_typed_verbs.specs.Workings.{plain_worked}
use Rattle.cob_typed.specs.declared.heads.Head as declared_head
use Rattle.cob_typed.specs.declared.heads.Head.TheVariants as variant
use Rattle.cob_typed.specs.declared.heads.Lists as declared_lists
use Rattle.cob_typed.specs.declared.heads.TypedLists as declared_typed
use Rattle.cob_typed.specs.Lists.{tree_phrase}
use Rattle.cob_typed.specs.Statements.{Numbered, numbered, ◌>>>◌, stmts_if, turns_of, range_act, go_act, typed_phrase, typed_whens}

-- what a verb is before its lists: all of it, an arithmetic statement's work, IF's test, what EVALUATE looks at, how
-- often PERFORM does its body, or READ's file and item
pub data Head : Type 0 where
  done : Act → Head
  worked : Worked → Head
  tested : Logic → Head
  looked : Looked → Head
  turned : Turns → Head
  reads : ℕ → Option ℕ → Head

-- the lists of a verb in the order of the source: WHENs, and two lists of which each may be left out
pub record Lists : Type 0 where
  pub whens : tree.Whens
  pub first : tree.Phrase
  pub second : tree.Phrase

pub record TypedLists : Type 0 where
  pub whens : Whens
  pub first : Phrase
  pub second : Phrase

abbrev pub two_lists : tree.Phrase → tree.Phrase → Lists
two_lists first second = record { whens = tree.no_whens; first = first; second = second }

abbrev pub tail_lists : tree.Tail → Lists
tail_lists (tree.MkTail size not_size ended) = two_lists size not_size

abbrev pub lists_of : tree.Verb → Lists
lists_of (tree.add_to addends to tail) = tail_lists tail
lists_of (tree.add_giving addends to giving tail) = tail_lists tail
lists_of (tree.subtract_from less from tail) = tail_lists tail
lists_of (tree.subtract_giving less from giving tail) = tail_lists tail
lists_of (tree.multiply_by factor by tail) = tail_lists tail
lists_of (tree.multiply_giving factor by giving tail) = tail_lists tail
lists_of (tree.divide_into divisor into tail) = tail_lists tail
lists_of (tree.divide_giving first way second giving remainder tail) = tail_lists tail
lists_of (tree.compute to value tail) = tail_lists tail
lists_of (tree.if_ test ss other ended) = two_lists (tree.given ss) other
lists_of (tree.evaluate subject whens other ended) = record { whens = whens; first = tree.left_out; second = other }
lists_of (tree.perform_inline turns body) = two_lists (tree.given body) tree.left_out
lists_of (tree.read file into end not_end ended) = two_lists end not_end
lists_of _ = two_lists tree.left_out tree.left_out

-- what WHENs are held against
abbrev pub looked_in : Head → Looked
looked_in (looked x) = x
looked_in _ = Truth

-- a verb put together
abbrev pub act_of : Head → TypedLists → Act
act_of (done a) lists = a
act_of (worked w) lists = arith w.common w.targets w.remainder lists.first (stmts_if lists.second)
act_of (tested t) lists = if_ t (stmts_if lists.first) (stmts_if lists.second)
act_of (looked x) lists = evaluate lists.whens (stmts_if lists.second)
act_of (turned t) lists = perform (inline (stmts_if lists.first)) t
act_of (reads file into) lists = read file into lists.first (stmts_if lists.second)

abbrev pub reads_of : ℕ × Option ℕ → Head
reads_of x = reads x.0 x.1

module _ (s : Scope) where
  abbrev pub head : tree.Verb → Judged Head
  head (tree.move from to) = seen_as done (move_act s from to)
  head (tree.set text) = seen_as done (set_act s text)
  head (tree.display operands) = seen_as done (show_act s operands)
  head (tree.add_to addends to tail) = seen_as worked (add_to s addends to)
  head (tree.add_giving addends to giving tail) = seen_as worked (add_giving s addends to giving)
  head (tree.subtract_from less from tail) = seen_as worked (subtract_from s less from)
  head (tree.subtract_giving less from giving tail) = seen_as worked (subtract_giving s less from giving)
  head (tree.multiply_by factor by tail) = seen_as worked (multiply_by s factor by)
  head (tree.multiply_giving factor by giving tail) = seen_as worked (multiply_giving s factor by giving)
  head (tree.divide_into divisor into tail) = seen_as worked (divide_into s divisor into)
  head (tree.divide_giving first way second giving remainder tail) = seen_as worked (divide_giving s first way second giving remainder)
  head (tree.compute to value tail) = seen_as worked (compute s to value)
  head (tree.if_ test ss other ended) = seen_as tested (walk_cond s test)
  head (tree.evaluate subject whens other ended) = seen_as looked (looked_at s subject)
  head (tree.perform_range first thru turns) = seen_as done (range_act s first thru turns)
  head (tree.perform_inline turns body) = seen_as turned (turns_of s turns)
  head (tree.go text) = seen_as done (go_act s text)
  head tree.exit = sound (done nothing)
  head tree.continue = sound (done nothing)
  head tree.stop_run = sound (done stop)
  head (tree.open_ files) = seen_as done (open_act s files)
  head (tree.close names) = seen_as done (close_act s names)
  head (tree.read file into end not_end ended) = seen_as reads_of (read_parts s file into)
  head (tree.write rec_ from ended) = seen_as done (write_act s rec_ from)

  -- the lists of a verb on a line, where the next statement has this number
  abbrev pub typed_lists : ℕ → ℕ → Looked → Lists → Numbered TypedLists
  typed_lists line n subject lists =
      typed_whens s line n subject lists.whens >>> λ ws m. typed_phrase s m lists.first >>> λ a k. typed_phrase s k lists.second >>> λ b j.
      numbered (record { whens = ws; first = a; second = b }) j

-- what contracts see of a verb's parts

abbrev pub plain_head : declared_head.Head → Head
plain_head (variant.Done a) = done (plain_act a)
plain_head (variant.Worked w) = worked (plain_worked w)
plain_head (variant.Tested t) = tested (plain_logic t)
plain_head (variant.Looked x) = looked x
plain_head (variant.Turned t) = turned (plain_turns t)
plain_head (variant.Reads file into) = reads file into

abbrev pub plain_lists : declared_typed.TypedLists → TypedLists
plain_lists l = record { whens = plain_whens l.whens.items; first = plain_phrase l.first; second = plain_phrase l.second }

abbrev pub tree_lists : declared_lists.Lists → Lists
tree_lists l = record {
  whens = tree.whens_of (map tree_view.plain_when l.whens.now);
  first = tree_phrase (option_copied l.first);
  second = tree_phrase (option_copied l.second);
}
