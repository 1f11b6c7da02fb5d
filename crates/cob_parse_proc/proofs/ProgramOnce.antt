-- One tree a printing, and one answer for each list of tokens.
use Rattle.std.proofs.Common.{◌≡◌, ◌≤◌, List, [], ◌∷◌, ◌++◌, length, refl, sym, ap, subst, ◌∙◌, append_assoc}
use Rattle.cob_tree.specs.Symbols.{Sign}
use Rattle.cob_tree.specs.Items.{Item}
use Rattle.cob_tree.specs.Stmt.{Tree}
use Rattle.cob_tree.specs.PrintStmt.{print_tree}
use Rattle.reading.specs.Printing.{Matches}
use Rattle.reading.proofs.Results.{cut_at}
use Rattle.reading.proofs.Exact.{one_of_any}
use Rattle.cob_parse_expr.specs.LexemeClasses.{by_symbol}
use Rattle.cob_parse_proc.specs.Parsing.{ShapedTree, top, IsTree, GoesOn, Stops}
use Rattle.cob_parse_proc.proofs.ProgramAnswers.{wides, wide_law, spelled}

-- tokens are one tree's
pub one_text : (ts : List Sign) (a b : Tree) → Matches by_symbol (print_tree a) ts → ShapedTree a → Matches by_symbol (print_tree b) ts → ShapedTree b → a ≡ b
one_text ts a b spells good spells' good' = one_of_any top wides wide_law ts a b spells good spells' good'

pub one_printing : (a b : Tree) → ShapedTree a → ShapedTree b → print_tree a ≡ print_tree b → a ≡ b
one_printing a b good good' same =
    let text = spelled (print_tree a) in
    one_text text.0 a b text.1 good (subst (λ (is : List Item). Matches by_symbol is text.0) same text.1) good'

-- ---- one answer

pub shaped_of : (ts : List Sign) (a : Tree) → IsTree ts a → ShapedTree a
shaped_of ts a x = (x.shaped.front, x.shaped.sentences, x.shaped.paragraphs)

-- the items of a front of the tokens
record Front (before : List Item) (front : List Sign) : Type 0 where
  first : List Item
  behind : List Item
  parts : before ≡ first ++ behind
  spells : Matches by_symbol first front

front_items : (before : List Item) (front more : List Sign) → Matches by_symbol before (front ++ more) → Front before front
front_items before [] more m = record { first = []; behind = before; parts = refl; spells = tt }
front_items [] (t ∷ front) more m = absurd m
front_items (i ∷ before) (t ∷ front) more m =
    let w = front_items before front more m.1 in
    record { first = i ∷ w.first; behind = w.behind; parts = ap (λ (z : List Item). i ∷ z) w.parts; spells = (m.0, w.spells) }

-- what goes on behind some tokens goes on behind fewer
pub fewer : (front more : List Sign) → GoesOn (front ++ more) → GoesOn front
fewer front more g =
    let w = front_items g.before front more g.spells in
    record { tree = g.tree; shaped = g.shaped; before = w.first; after = w.behind ++ g.after; text = g.text ∙ ap (λ (z : List Item). z ++ g.after) w.parts ∙ append_assoc w.first w.behind g.after; spells = w.spells }

-- no refusal stands before where some tree goes on
pub no_later : (ts v read m rest : List Sign) (y : Stops ts v) → v ≡ m ++ rest → read ≡ y.read ++ m → GoesOn read → m ≡ []
no_later ts v read [] rest y parts same g = refl
no_later ts v read (t ∷ m) rest y parts same g =
    absurd (y.no_further t (m ++ rest) parts (fewer (y.read ++ t ∷ []) m (subst GoesOn (same ∙ sym (append_assoc y.read (t ∷ []) m)) g)))

pub one_place : (ts u v : List Sign) → Stops ts u → Stops ts v → length u ≤ length v → u ≡ v
one_place ts u v x y le =
    let cut = cut_at x.read u y.read v (sym x.parts ∙ y.parts) le in
    let none : cut.0 ≡ [] = no_later ts v x.read cut.0 u y cut.1 cut.2 x.goes_on in
    sym (cut.1 ∙ ap (λ (z : List Sign). z ++ u) none)
