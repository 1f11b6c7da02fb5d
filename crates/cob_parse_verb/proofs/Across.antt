-- A law over the grammar's alphabet holds over that of statements, where nothing takes what begins a loop.
use Rattle.std.proofs.Common.{◌≡◌, ℕ, Bool, true, false, List, [], ◌∷◌, Option, Some, None, refl, sym, ◌∙◌}
use Rattle.cob_tree.specs.declared.keyword.Keyword.{Keyword}
use Rattle.cob_tree.specs.declared.keyword.Keyword.TheVariants as key
use Rattle.cob_tree.specs.Symbols.{Symbol, Key, Name, Number, Text, Mark, Relation, Pic, Stop, Sign}
use Rattle.cob_tree.specs.Items.{Item}
use Rattle.cob_tree.specs.Cues.{Cue, Loops, mark_cue, not_cue}
use Rattle.reading.specs.Readers.{Fault, Reader}
use Rattle.reading.specs.Readers as readers
use Rattle.reading.specs.Printing.{Ahead, Matches, Below, Opens, ahead, peek_on, on_mark, begins}
use Rattle.reading.specs.Law.{Syntax, At, Law}
use Rattle.reading.proofs.Lead.{Class}
use Rattle.reading.proofs.Starts.{OneToken}
use Rattle.cob_parse_expr.specs.Alphabet.{key_front, symbol_front, grammar}
use Rattle.cob_parse_verb.specs.Procedure.{word_front, token_front, procedure}

pub class_across : {K : Type 0} {class : Sign → Option K} {Allowed : K → Type 0} {item : K → Item} → Class grammar class Allowed item → Class procedure class Allowed item
class_across C = record { reads = C.reads; only = C.only }

-- ---- what stands next

on_same : (takes : Cue → Bool) (m : Option Cue) → on_mark procedure takes m ≡ on_mark grammar takes m
on_same takes None = refl
on_same takes (Some c) = refl

ahead_same : (takes : Cue → Bool) (mark : Sign → Option Cue) (ts : List Sign) → on_mark procedure takes (ahead procedure mark ts) ≡ on_mark grammar takes (ahead grammar mark ts)
ahead_same takes mark [] = refl
ahead_same takes mark (u ∷ us) = on_same takes (mark u)

pub next_across : (takes : Cue → Bool) → takes Loops ≡ false → (ts : List Sign) → begins procedure takes ts ≡ begins grammar takes ts
next_across takes none [] = refl
next_across takes none (t ∷ ts) = go t.symbol
  where
    at_key : (k : Keyword) → on_mark procedure takes (peek_on procedure (word_front k) ts) ≡ on_mark grammar takes (peek_on grammar (key_front k) ts)
    at_key key.Not = ahead_same takes (λ s. not_cue s.symbol) ts
    at_key key.Times = none
    at_key _ = refl

    go : (y : Symbol) → on_mark procedure takes (peek_on procedure (token_front y) ts) ≡ on_mark grammar takes (peek_on grammar (symbol_front y) ts)
    go (Key k) = at_key k
    go (Name text) = refl
    go (Number n) = refl
    go (Text text) = refl
    go (Mark ch) = on_same takes (mark_cue ch)
    go (Relation r) = refl
    go (Pic text) = refl
    go Stop = refl

-- ---- texts

pub matches_to : (is : List Item) (ts : List Sign) → Matches grammar is ts → Matches procedure is ts
matches_to [] [] m = tt
matches_to [] (t ∷ ts) m = absurd m
matches_to (i ∷ is) [] m = absurd m
matches_to (i ∷ is) (t ∷ ts) m = (m.0, matches_to is ts m.1)

pub matches_back : (is : List Item) (ts : List Sign) → Matches procedure is ts → Matches grammar is ts
matches_back [] [] m = tt
matches_back [] (t ∷ ts) m = absurd m
matches_back (i ∷ is) [] m = absurd m
matches_back (i ∷ is) (t ∷ ts) m = (m.0, matches_back is ts m.1)

pub below_to : (top : ℕ) (is : List Item) → Below grammar top is → Below procedure top is
below_to top [] b = tt
below_to top (i ∷ is) b = (b.0, below_to top is b.1)

pub below_back : (top : ℕ) (is : List Item) → Below procedure top is → Below grammar top is
below_back top [] b = tt
below_back top (i ∷ is) b = (b.0, below_back top is b.1)

opens_to : (top : ℕ) (ts : List Sign) (is : List Item) → Opens grammar top ts is → Opens procedure top ts is
opens_to top [] is o = absurd o
opens_to top (t ∷ ts) [] o = absurd o
opens_to top (t ∷ ts) (i ∷ is) o = o

at_to : (top : ℕ) (d : Fault) (left : List Sign) (after : List Item) → At grammar top d left after → At procedure top d left after
at_to top (readers.Stop n) left after a = a
at_to top (readers.Deep n) left after a = (a.0, opens_to top left after a.1)

-- ---- the law

module _ {A : Type 0} {r : Reader Sign A} {s : Syntax Item Cue A} {top : ℕ} where
  pub law_across : Law grammar r s top → ((x : A) → s.Good x → s.takes x Loops ≡ false) → Law procedure r s top
  law_across L none = record {
    sound = λ ts x e.
        let f = L.sound ts x e in
        record { text = f.text; parts = f.parts; spells = matches_to (s.print x.0) f.text f.spells; good = f.good; below = below_to top (s.print x.0) f.below; next = next_across (s.takes x.0) (none x.0 f.good) x.1 ∙ f.next };
    complete = λ a text rest m good below next. L.complete a text rest (matches_back (s.print a) text m) good (below_back top (s.print a) below) (sym (next_across (s.takes a) (none a good) rest) ∙ next);
    fails = λ ts d e.
        let h = L.fails ts d e in
        record { read = h.read; left = h.left; parts = h.parts; tree = h.tree; good = h.good; before = h.before; after = h.after; text = h.text; spells = matches_to h.before h.read h.spells; below = below_to top h.before h.below; at = at_to top d h.left h.after h.at };
    firm = λ q r' z text rest t a e m good below next same. L.firm q r' z text rest t a e (matches_back (s.print a) text m) good (below_back top (s.print a) below) (sym (next_across (s.takes a) (none a good) rest) ∙ next) same;
  }

-- ---- what begins

pub front_back : (t : Sign) (mark : Sign → Option Cue) → token_front t.symbol ≡ Ahead mark → symbol_front t.symbol ≡ Ahead mark
front_back t mark e = go t.symbol e
  where
    at_key : (k : Keyword) → word_front k ≡ Ahead mark → key_front k ≡ Ahead mark
    at_key key.Times e0 = absurd cc
    at_key _ e0 = e0

    go : (y : Symbol) → token_front y ≡ Ahead mark → symbol_front y ≡ Ahead mark
    go (Key k) e0 = at_key k e0
    go (Name text) e0 = e0
    go (Number n) e0 = e0
    go (Text text) e0 = e0
    go (Mark ch) e0 = e0
    go (Relation r) e0 = e0
    go (Pic text) e0 = e0
    go Stop e0 = e0

pub one_across : {set : Cue → Bool} → OneToken grammar set → OneToken procedure set
one_across {set} one t mark front u = on_same set (mark u) ∙ one t mark (front_back t mark front) u

-- what begins in the grammar's eyes does in those of statements
pub begins_across : (set : Cue → Bool) (ts : List Sign) → begins grammar set ts ≡ true → begins procedure set ts ≡ true
begins_across set [] e = absurd cc
begins_across set (t ∷ ts) e = go t.symbol e
  where
    at_key : (k : Keyword) → on_mark grammar set (peek_on grammar (key_front k) ts) ≡ true → on_mark procedure set (peek_on procedure (word_front k) ts) ≡ true
    at_key key.Not e0 = ahead_same set (λ s. not_cue s.symbol) ts ∙ e0
    at_key key.Times e0 = absurd cc
    at_key _ e0 = e0

    go : (y : Symbol) → on_mark grammar set (peek_on grammar (symbol_front y) ts) ≡ true → on_mark procedure set (peek_on procedure (token_front y) ts) ≡ true
    go (Key k) e0 = at_key k e0
    go (Name text) e0 = e0
    go (Number n) e0 = e0
    go (Text text) e0 = e0
    go (Mark ch) e0 = on_same set (mark_cue ch) ∙ e0
    go (Relation r) e0 = e0
    go (Pic text) e0 = e0
    go Stop e0 = e0
