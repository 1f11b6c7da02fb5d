-- What reading all tokens of a program answers.
use Rattle.std.proofs.Common.{◌≡◌, ℕ, suc, ◌+◌, ◌≤◌, ⊎_elim, List, [], ◌∷◌, ◌++◌, length, length-append, Option, Some, None, Ok, Err, refl, sym, ap, subst, ◌∙◌, append_assoc, map, arith}
use Rattle.std.specs.List.{AllByRecursion}
use Rattle.cob_tree.specs.declared.keyword.Keyword.{Keyword}
use Rattle.cob_tree.specs.declared.token.Tok.{Tok}
use Rattle.cob_tree.specs.declared.token.Tok.TheVariants as tok
use Rattle.cob_tree.specs.declared.token.Token.{Token}
use Rattle.cob_tree.specs.Keywords.{text_of, keyword_of}
use Rattle.cob_tree.specs.Symbols.{Symbol, Sign, word_symbol, symbol_of, written, seen}
use Rattle.cob_tree.specs.Items.{Item, Fits, IsLine}
use Rattle.cob_tree.specs.Stmt.{Tree}
use Rattle.cob_tree.specs.PrintStmt.{print_tree}
use Rattle.cob_tree.specs.Shaped.{IsReadable}
use Rattle.cob_tree.proofs.KeywordLemmas.{keyword_of-text}
use Rattle.reading.specs.Readers.{Stop, Deep, Reader, ended, whole}
use Rattle.reading.specs.Printing.{Matches, Opens}
use Rattle.reading.specs.Law.{Law, Fails, Agree}
use Rattle.reading.proofs.Results.{ok_fails, fault_is}
use Rattle.reading.proofs.Texts.{matches_join}
use Rattle.reading.proofs.Opens.{below_wider}
use Rattle.reading.proofs.Exact.{enough}
use Rattle.reading.proofs.Wider.{agree_map}
use Rattle.reading.proofs.Whole.{whole_sound, whole_complete, whole_fails, whole_none}
use Rattle.cob_parse_expr.specs.LexemeClasses.{by_symbol}
use Rattle.cob_parse_data.proofs.ClassLaws.{one_token}
use Rattle.cob_parse_proc.specs.Program.{limit, tree_at}
use Rattle.cob_parse_proc.specs.Parsing.{ShapedTree, top, IsTree, GoesOn, Stops, IsDeep}
use Rattle.cob_parse_proc.proofs.ProgramLaws.{tree_syntax, tree_law}
use Rattle.cob_parse_proc.proofs.ProgramAgree.{tree_agree}
use Rattle.cob_parse_proc.proofs.Given.{known, rooms}

-- ---- names

word_readable : (text : List ℕ) (o : Option Keyword) → keyword_of text ≡ o → symbol_of (written (word_symbol text o)) ≡ word_symbol text o
word_readable text None e = ap (word_symbol text) e
word_readable text (Some k) e = ap (word_symbol (text_of k)) (keyword_of-text k)

-- what a token is seen as reads back
tok_readable : (t : Tok) → symbol_of (written (symbol_of t)) ≡ symbol_of t
tok_readable (tok.Word text) = word_readable text (keyword_of text) refl
tok_readable (tok.Number n) = refl
tok_readable (tok.Text text) = refl
tok_readable (tok.Mark m) = refl
tok_readable (tok.Relation r) = refl
tok_readable (tok.Pic text) = refl
tok_readable tok.Stop = refl

readable : (is : List Item) (tokens : List Token) → Matches by_symbol is (map seen tokens) → AllByRecursion IsReadable is
readable [] tokens m = tt
readable (i ∷ is) [] m = absurd m
readable (i ∷ is) (t ∷ tokens) m = (subst (λ (y : Symbol). symbol_of (written y) ≡ y) m.0.symbol (tok_readable t.tok), readable is tokens m.1)

-- ---- readers with more room

pub law_at : (room limit' : ℕ) → limit' ≡ suc room → Law by_symbol (tree_at room) tree_syntax limit'
law_at room limit' e = subst (Law by_symbol (tree_at room) tree_syntax) (sym e) (tree_law known room)

pub law : Law by_symbol (tree_at limit) tree_syntax top
law = law_at limit top refl

abbrev pub wides : ℕ → Reader Sign Tree
wides more = tree_at (limit + more)

pub wide_law : (more : ℕ) → Law by_symbol (wides more) tree_syntax (top + more)
wide_law more = law_at (limit + more) (top + more) (omega arith)

pub wide_agrees : (more : ℕ) (ts : List Sign) → Agree (tree_at limit ts) (wides more ts)
wide_agrees more = tree_agree rooms limit (limit + more) (omega arith)

-- tokens for what is printed
pub spell : (i : Item) → (t : Sign) × Fits i t
spell i = go i.line refl
  where
    go : (o : Option ℕ) → i.line ≡ o → (t : Sign) × Fits i t
    go None e = (record { symbol = i.symbol; line = 1 }, record { symbol = refl; line = subst (λ (l : Option ℕ). IsLine l 1) (sym e) tt })
    go (Some l) e = (record { symbol = i.symbol; line = l }, record { symbol = refl; line = subst (λ (o : Option ℕ). IsLine o l) (sym e) refl })

pub spelled : (is : List Item) → (ts : List Sign) × Matches by_symbol is ts
spelled [] = ([], tt)
spelled (i ∷ is) = let t = spell i in let w = spelled is in (t.0 ∷ w.0, (t.1, w.1))

-- ---- a tree

pub tree_read : (tokens : List Token) (t : Tree) → whole (tree_at limit) (map seen tokens) ≡ Ok t → IsTree (map seen tokens) t
tree_read tokens t e =
    let w = whole_sound law (map seen tokens) t e in
    record { shaped = record { front = w.1.0; sentences = w.1.1; paragraphs = w.1.2; names = readable (print_tree t) tokens w.0 }; spells = w.0; below = w.2 }

-- ---- a place where none goes on

still : (more n : ℕ) (ts : List Sign) → whole (tree_at limit) ts ≡ Err (Stop n) → whole (wides more) ts ≡ Err (Stop n)
still more n ts e = ⊎_elim
    (λ deep. let never : Stop n ≡ Deep deep.0 = fault_is {A = Tree} (Stop n) (Deep deep.0) (sym e ∙ deep.1) in absurd cc)
    (λ same. sym same ∙ e)
    (agree_map (tree_at limit ts) (wides more ts) (λ a. ended a.0 a.1) (wide_agrees more ts))

none_at_all : (ts : List Sign) (n : ℕ) → whole (tree_at limit) ts ≡ Err (Stop n) → (t : Tree) → Matches by_symbol (print_tree t) ts → ShapedTree t → ⊥
none_at_all ts n e t spells good =
    let w = enough by_symbol (print_tree t) in
    ok_fails t (Stop n) (sym (whole_complete (wide_law w.0) ts t spells good (below_wider by_symbol w.0 (top + w.0) (print_tree t) (omega arith) w.1)) ∙ still w.0 n ts e)

no_further : (read rest : List Sign) (u : Sign) → whole (tree_at limit) (read ++ u ∷ rest) ≡ Err (Stop (suc (length rest))) → GoesOn (read ++ u ∷ []) → ⊥
no_further read rest u e g =
    let behind = spelled g.after in
    let whole_text : Matches by_symbol (print_tree g.tree) ((read ++ u ∷ []) ++ behind.0) = subst (λ (is : List Item). Matches by_symbol is ((read ++ u ∷ []) ++ behind.0)) (sym g.text) (matches_join by_symbol g.before g.after (read ++ u ∷ []) behind.0 g.spells behind.1) in
    whole_none law wides wide_law wide_agrees (λ t. one_token (tree_syntax.takes t)) read rest behind.0 u g.tree e (subst (Matches by_symbol (print_tree g.tree)) (append_assoc read (u ∷ []) behind.0) whole_text) g.shaped

pub tree_stops : (ts : List Sign) (n : ℕ) → whole (tree_at limit) ts ≡ Err (Stop n) → (left : List Sign) × (length left ≡ n) × Stops ts left
tree_stops ts n e =
    let f = whole_fails law ts (Stop n) e in (
      f.left,
      f.at,
      record {
        none = none_at_all ts n e;
        read = f.read;
        parts = f.parts;
        goes_on = record { tree = f.tree; shaped = f.good; before = f.before; after = f.after; text = f.text; spells = f.spells };
        below = f.below;
        no_further = λ u rest same g. no_further f.read rest u (ap (whole (tree_at limit)) (sym (f.parts ∙ ap (λ (z : List Sign). f.read ++ z) same)) ∙ e ∙ ap (λ (k : ℕ). Err (Stop k)) (sym f.at ∙ ap length same)) g;
      },
    )

-- ---- a place that is too deep

pub tree_deep : (ts : List Sign) (n : ℕ) → whole (tree_at limit) ts ≡ Err (Deep n) → IsDeep ts
tree_deep ts n e = go f.left f.after f.parts f.text f.at
  where
    f : Fails by_symbol tree_syntax top ts (Deep n)
    f = whole_fails law ts (Deep n) e

    go : (left : List Sign) (after : List Item) → ts ≡ f.read ++ left → print_tree f.tree ≡ f.before ++ after → (length left ≡ n) × Opens by_symbol top left after → IsDeep ts
    go [] after parts text at = absurd at.1
    go (t ∷ left) [] parts text at = absurd at.1
    go (t ∷ left) (i ∷ after) parts text at = record {
      none = λ tree spells good below. ok_fails tree (Deep n) (sym (whole_complete law ts tree spells good below) ∙ e);
      read = f.read;
      next = t;
      rest = left;
      parts = parts;
      tree = f.tree;
      shaped = f.good;
      before = f.before;
      item = i;
      after = after;
      text = text;
      spells = f.spells;
      below = f.below;
      fits = at.1.0;
      depth = at.1.1;
    }

-- the place where reading ends is within the tokens
pub tree_within : (ts : List Sign) (n : ℕ) → whole (tree_at limit) ts ≡ Err (Stop n) → n ≤ length ts
tree_within ts n e = let f = whole_fails law ts (Stop n) e in omega (arith, ap length f.parts, length-append f.read f.left, f.at)
