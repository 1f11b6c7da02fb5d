-- The classes of the words.
use Rattle.std.proofs.Common.{◌≡◌, ℕ, Option, Some, None, refl, ap, subst, ◌∙◌}
use Rattle.cob_tree.specs.declared.keyword.Keyword.{Keyword}
use Rattle.cob_tree.specs.declared.keyword.Keyword.TheVariants as key
use Rattle.cob_tree.specs.declared.token.Rel.{Rel}
use Rattle.cob_tree.specs.declared.token.Rel.TheVariants as rel
use Rattle.cob_tree.specs.declared.stmt.Mode.{Mode}
use Rattle.cob_tree.specs.declared.stmt.Mode.TheVariants as mode
use Rattle.cob_tree.specs.declared.stmt.TestPoint.{TestPoint}
use Rattle.cob_tree.specs.declared.stmt.TestPoint.TheVariants as test_point
use Rattle.cob_tree.specs.Symbols.{Symbol, Key, Name, Number, Text, Mark, Relation, Pic, Stop, Sign}
use Rattle.cob_tree.specs.Items.{Fits, item, item_on}
use Rattle.cob_tree.specs.PrintExpr.{print_relation}
use Rattle.cob_tree.specs.PrintStmt as printed
use Rattle.reading.proofs.Texts.{Always}
use Rattle.reading.proofs.Lead.{Class}
use Rattle.reading.specs.Printing.{Here}
use Rattle.cob_tree.specs.Cues.{key_cue}
use Rattle.cob_parse_expr.specs.Alphabet.{key_front, grammar}
use Rattle.cob_parse_expr.specs.LexemeClasses.{word_symbol}
use Rattle.cob_parse_verb.specs.Words as word
use Rattle.cob_parse_verb.specs.declared.word.Start.{Start}
use Rattle.cob_parse_verb.specs.declared.word.Start.TheVariants as start
use Rattle.cob_parse_verb.specs.declared.word.Begin.{Begin}
use Rattle.cob_parse_expr.proofs.WordLemmas.{own_key, only_the}
use Rattle.cob_parse_verb.specs.Words.{Word, key_of, the_key, the, mode_key, mode_of, test_point_key, test_point_of, equal_rel, equal_symbol, equal_of, start_word, start_key, begin_on, begin_of}

-- ---- one word

own : (w : Word) → the_key w (key_of w) ≡ Some tt
own w = own_key (key_of w)

the_only : (w : Word) (k : Keyword) (x : Unit {0}) → the_key w k ≡ Some x → k ≡ key_of w
the_only w k x e = only_the (key_of w) k x e

-- a class of words is one of symbols
module _ {K : Type 0} (class : Keyword → Option K) (print : K → Keyword) (reads : (x : K) → class (print x) ≡ Some x) (only : (k : Keyword) (x : K) → class k ≡ Some x → k ≡ print x) where
  only_symbol : (y : Symbol) (x : K) → word_symbol class y ≡ Some x → y ≡ Key (print x)
  only_symbol (Key k) x e = ap (λ (j : Keyword). Key j) (only k x e)
  only_symbol (Name text) x e = absurd cc
  only_symbol (Number n) x e = absurd cc
  only_symbol (Text text) x e = absurd cc
  only_symbol (Mark ch) x e = absurd cc
  only_symbol (Relation r) x e = absurd cc
  only_symbol (Pic text) x e = absurd cc
  only_symbol Stop x e = absurd cc

  keyed : (d : ℕ) → Class grammar (λ s. word_symbol class s.symbol) Always (λ x. item d (Key (print x)))
  keyed d = record { reads = λ x t a f. ap (word_symbol class) f.symbol ∙ reads x; only = λ t x e. (tt, record { symbol = only_symbol t.symbol x e; line = tt }) }

pub the_word : (w : Word) (d : ℕ) → Class grammar (the w) Always (λ x. item d (Key (key_of w)))
the_word w d = keyed (the_key w) (λ x. key_of w) (λ x. own w) (the_only w) d

-- ---- INPUT and OUTPUT, BEFORE and AFTER

mode_own : (m : Mode) → mode_key (printed.mode_word m) ≡ Some m
mode_own mode.Input = refl
mode_own mode.Output = refl

abbrev mode_so : Keyword → Option Mode → Type 0
mode_so k None = Unit {0}
mode_so k (Some m) = k ≡ printed.mode_word m

mode_spelled : (k : Keyword) → mode_so k (mode_key k)
mode_spelled key.Input = refl
mode_spelled key.Output = refl
mode_spelled _ = tt

pub modes : (d : ℕ) → Class grammar mode_of Always (λ m. item d (Key (printed.mode_word m)))
modes d = keyed mode_key printed.mode_word mode_own (λ k m e. subst (mode_so k) e (mode_spelled k)) d

test_point_own : (p : TestPoint) → test_point_key (printed.test_point_word p) ≡ Some p
test_point_own test_point.Before = refl
test_point_own test_point.After = refl

abbrev test_point_so : Keyword → Option TestPoint → Type 0
test_point_so k None = Unit {0}
test_point_so k (Some p) = k ≡ printed.test_point_word p

test_point_spelled : (k : Keyword) → test_point_so k (test_point_key k)
test_point_spelled key.Before = refl
test_point_spelled key.After = refl
test_point_spelled _ = tt

pub places : (d : ℕ) → Class grammar test_point_of Always (λ p. item d (Key (printed.test_point_word p)))
places d = keyed test_point_key printed.test_point_word test_point_own (λ k p e. subst (test_point_so k) e (test_point_spelled k)) d

-- ---- the relation =

only_rel : (r : Rel) (x : Unit {0}) → equal_rel r ≡ Some x → r ≡ rel.Equal
only_rel rel.Equal x e = refl
only_rel _ x e = absurd cc

only_equal : (y : Symbol) (x : Unit {0}) → equal_symbol y ≡ Some x → y ≡ Relation rel.Equal
only_equal (Relation r) x e = ap (λ (q : Rel). Relation q) (only_rel r x e)
only_equal (Key k) x e = absurd cc
only_equal (Name text) x e = absurd cc
only_equal (Number n) x e = absurd cc
only_equal (Text text) x e = absurd cc
only_equal (Mark ch) x e = absurd cc
only_equal (Pic text) x e = absurd cc
only_equal Stop x e = absurd cc

pub equals : (d : ℕ) → Class grammar equal_of Always (λ x. print_relation d rel.Equal)
equals d = record { reads = λ x t a f. ap equal_symbol f.symbol; only = λ t x e. (tt, record { symbol = only_equal t.symbol x e; line = tt }) }

-- ---- first words

start_own : (s : Start) → start_key (start_word s) ≡ Some s
start_own start.Move = refl
start_own _ = refl

abbrev start_so : Keyword → Option Start → Type 0
start_so k None = Unit {0}
start_so k (Some s) = k ≡ start_word s

start_spelled : (k : Keyword) → start_so k (start_key k)
start_spelled key.Move = refl
start_spelled key.Set = refl
start_spelled key.Display = refl
start_spelled key.Add = refl
start_spelled key.Subtract = refl
start_spelled key.Multiply = refl
start_spelled key.Divide = refl
start_spelled key.Compute = refl
start_spelled key.If = refl
start_spelled key.Evaluate = refl
start_spelled key.Perform = refl
start_spelled key.Go = refl
start_spelled key.Exit = refl
start_spelled key.Continue = refl
start_spelled key.Stop = refl
start_spelled key.Open = refl
start_spelled key.Close = refl
start_spelled key.Read = refl
start_spelled key.Write = refl
start_spelled _ = tt

start_symbol : (y : Symbol) (s : Start) → word_symbol start_key y ≡ Some s → y ≡ Key (start_word s)
start_symbol y s e = only_symbol start_key start_word start_own (λ k x h. subst (start_so k) h (start_spelled k)) y s e

pub begin_reads : (b : Begin) (d : ℕ) (t : Sign) → Fits (item_on d b.line (Key (start_word b.start))) t → begin_of t ≡ Some b
begin_reads b d t f = rw (ap (word_symbol start_key) f.symbol ∙ start_own b.start, f.line) refl

begin_only : (d : ℕ) (t : Sign) (b : Begin) → begin_of t ≡ Some b → Fits (item_on d b.line (Key (start_word b.start))) t
begin_only d t b e = go (word_symbol start_key t.symbol) refl e
  where
    go : (o : Option Start) → word_symbol start_key t.symbol ≡ o → begin_on t.line o ≡ Some b → Fits (item_on d b.line (Key (start_word b.start))) t
    go None eo e0 = absurd cc
    go (Some s) eo e0 =
        let same : record { line = t.line; start = s } ≡ b = cc in
        subst (λ (c : Begin). Fits (item_on d c.line (Key (start_word c.start))) t) same (record { symbol = start_symbol t.symbol s eo; line = refl })

pub begins_ : (d : ℕ) → Class grammar begin_of Always (λ b. item_on d b.line (Key (start_word b.start)))
begins_ d = record { reads = λ b t a f. begin_reads b d t f; only = λ t b e. (tt, begin_only d t b e) }

-- ---- no word looks ahead

pub front_word : (w : Word) → key_front (key_of w) ≡ Here (key_cue (key_of w))
front_word word.To = refl
front_word _ = refl
