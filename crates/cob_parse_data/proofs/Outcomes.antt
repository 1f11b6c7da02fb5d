-- From what is read to what is promised.
use Rattle.std.proofs.Common.{◌≡◌, ℕ, suc, ◌<◌, ⊎_elim, List, [], ◌∷◌, ◌++◌, length, length-append, Option, Some, None, Ok, Err, refl, sym, ap, subst, ◌∙◌, append_assoc, arith}
use Rattle.std.proofs.lemmas.Bool.{cases_lt}
use Rattle.cob_tree.specs.declared.front.Front.{Front}
use Rattle.cob_tree.specs.Symbols.{Sign}
use Rattle.cob_tree.specs.Items.{Item, IsLine}
use Rattle.cob_tree.specs.PrintFront.{print_front}
use Rattle.cob_tree.specs.Shaped.{ShapedFront}
use Rattle.reading.specs.Readers.{Stop, Deep}
use Rattle.reading.specs.Printing.{Matches, Below, Opens}
use Rattle.reading.specs.Law.{Law, Fails}
use Rattle.reading.proofs.Results.{ok_is, ok_fails, cut_at}
use Rattle.reading.proofs.Texts.{matches_join, below_right}
use Rattle.reading.proofs.Opens.{below_wider}
use Rattle.reading.proofs.Exact.{enough}
use Rattle.reading.proofs.Consequences.{one_tree, longest, none_goes_on}
use Rattle.cob_parse_expr.specs.Alphabet.{grammar}
use Rattle.cob_parse_expr.specs.LexemeClasses.{by_symbol}
use Rattle.cob_parse_data.specs.Reading.{front_at}
use Rattle.cob_parse_data.specs.Outcome.{IsFront, Ends, Begins, IsRead, Stops}
use Rattle.cob_parse_data.proofs.FrontLaw.{front_syntax, front_law}

-- ---- tokens for what is printed

line_for : Option ℕ → ℕ
line_for None = 1
line_for (Some l) = l

fits_line : (line : Option ℕ) → IsLine line (line_for line)
unfolding line_for
fits_line None = tt
fits_line (Some l) = refl

pub tokens_of : (is : List Item) → (ts : List Sign) × Matches by_symbol is ts
tokens_of [] = ([], tt)
tokens_of (i ∷ is) =
    let w = tokens_of is in
    (record { symbol = i.symbol; line = line_for i.line } ∷ w.0, (record { symbol = refl; line = fits_line i.line }, w.1))

-- texts are the same for both alphabets
pub to_grammar : (is : List Item) (ts : List Sign) → Matches by_symbol is ts → Matches grammar is ts
to_grammar [] [] m = tt
to_grammar [] (t ∷ ts) m = absurd m
to_grammar (i ∷ is) [] m = absurd m
to_grammar (i ∷ is) (t ∷ ts) m = (m.0, to_grammar is ts m.1)

pub from_grammar : (is : List Item) (ts : List Sign) → Matches grammar is ts → Matches by_symbol is ts
from_grammar [] [] m = tt
from_grammar [] (t ∷ ts) m = absurd m
from_grammar (i ∷ is) [] m = absurd m
from_grammar (i ∷ is) (t ∷ ts) m = (m.0, from_grammar is ts m.1)

pub law : Law by_symbol front_at front_syntax 1
law = front_law 1 (omega arith)

-- nothing is open in these divisions
pub shallow : (f : Front) → ShapedFront f → Below by_symbol 1 (print_front f)
shallow f good =
    let room = enough by_symbol (print_front f) in
    let text = tokens_of (print_front f) in
    let wide = front_law (suc room.0) (omega arith) in
    let read = wide.complete f text.0 [] text.1 good (below_wider by_symbol room.0 (suc room.0) (print_front f) (omega arith) room.1) refl in
    (law.sound (text.0 ++ []) (f, []) read).below

pub never_deep : (ts : List Sign) (n : ℕ) → front_at ts ≡ Err (Deep n) → ⊥
never_deep ts n e = let h = law.fails ts (Deep n) e in go h.left h.after h.at.1 (below_right by_symbol 1 h.before h.after (subst (Below by_symbol 1) h.text (shallow h.tree h.good)))
  where
    go : (left : List Sign) (after : List Item) → Opens by_symbol 1 left after → Below by_symbol 1 after → ⊥
    go [] after o b = absurd o
    go (t ∷ left) [] o b = absurd o
    go (t ∷ left) (i ∷ after) o b = omega (arith, o.1, b.0)

-- ---- what is read

pub read_so : (ts : List Sign) (f : Front) (text rest : List Sign) → ts ≡ text ++ rest → IsFront f text → Ends f rest → front_at ts ≡ Ok (f, rest)
read_so ts f text rest parts whole ends = ap front_at parts ∙ law.complete f text rest (from_grammar (print_front f) text whole.spells) whole.shaped (shallow f whole.shaped) ends

pub is_read : (ts : List Sign) (f : Front) (rest : List Sign) → front_at ts ≡ Ok (f, rest) → IsRead ts f rest
is_read ts f rest e =
    let r = law.sound ts (f, rest) e in
    record {
      text = r.text;
      parts = r.parts;
      whole = record { shaped = r.good; spells = to_grammar (print_front f) r.text r.spells };
      ends = r.next;
      longest = λ g text' rest' parts whole. longest law ts text' rest' (f, rest) g e (from_grammar (print_front g) text' whole.spells) whole.shaped (shallow g whole.shaped) parts;
    }

pub stops : (ts : List Sign) (n : ℕ) → front_at ts ≡ Err (Stop n) → (left : List Sign) × (length left ≡ n) × Stops ts left
stops ts n e = (h.left, h.at, record { none = none; read = h.read; parts = h.parts; begins = begins; no_further = no_further })
  where
    h : Fails by_symbol front_syntax 1 ts (Stop n)
    h = law.fails ts (Stop n) e

    none : (f : Front) (text rest : List Sign) → ts ≡ text ++ rest → IsFront f text → Ends f rest → ⊥
    none f text rest parts whole ends = ok_fails (f, rest) (Stop n) (sym (read_so ts f text rest parts whole ends) ∙ e)

    begins : Begins h.read
    begins =
        let after = tokens_of h.after in
        record { front = h.tree; more = after.0; whole = record { shaped = h.good; spells = to_grammar (print_front h.tree) (h.read ++ after.0) (subst (λ (is : List Item). Matches by_symbol is (h.read ++ after.0)) (sym h.text) (matches_join by_symbol h.before h.after h.read after.0 h.spells after.1)) } }

    no_further : (u : Sign) (rest : List Sign) → h.left ≡ u ∷ rest → Begins (h.read ++ u ∷ []) → ⊥
    no_further u rest el b =
        let count : n ≡ suc (length rest) = sym h.at ∙ ap length el in
        let stop : front_at (h.read ++ u ∷ rest) ≡ Err (Stop (suc (length rest))) = ap front_at (sym (h.parts ∙ ap (λ (z : List Sign). h.read ++ z) el)) ∙ e ∙ ap (λ (k : ℕ). Err (Stop k)) count in
        none_goes_on law h.read rest b.more u b.front stop (subst (Matches by_symbol (print_front b.front)) (append_assoc h.read (u ∷ []) b.more) (from_grammar (print_front b.front) ((h.read ++ u ∷ []) ++ b.more) b.whole.spells)) b.whole.shaped (shallow b.front b.whole.shaped)

-- ---- one answer

pub one_read : (ts : List Sign) (f g : Front) (rest rest' : List Sign) → IsRead ts f rest → IsRead ts g rest' → (f ≡ g) × (rest ≡ rest')
one_read ts f g rest rest' r r' =
    let same : (f, rest) ≡ (g, rest') = ok_is (f, rest) (g, rest') (sym (read_so ts f r.text rest r.parts r.whole r.ends) ∙ read_so ts g r'.text rest' r'.parts r'.whole r'.ends) in
    (ap (λ (x : Front × List Sign). x.0) same, ap (λ (x : Front × List Sign). x.1) same)

pub read_or_stopped : (ts : List Sign) (f : Front) (rest left : List Sign) → IsRead ts f rest → Stops ts left → ⊥
read_or_stopped ts f rest left r s = s.none f r.text rest r.parts r.whole r.ends

-- what begins with more begins with less
begins_less : (u m : List Sign) → Begins (u ++ m) → Begins u
begins_less u m b = record { front = b.front; more = m ++ b.more; whole = subst (IsFront b.front) (append_assoc u m b.more) b.whole }

-- no text begins with more than was read
no_more : (ts left left' : List Sign) (s : Stops ts left) (s' : Stops ts left') → length left' < length left → ⊥
no_more ts left left' s s' less = go left refl
  where
    go : (l : List Sign) → left ≡ l → ⊥
    go [] el = omega (arith, less, ap length el)
    go (u ∷ rest) el =
        let parts : (s.read ++ u ∷ []) ++ rest ≡ s'.read ++ left' = append_assoc s.read (u ∷ []) rest ∙ (ap (λ (z : List Sign). s.read ++ z) (sym el) ∙ (sym s.parts ∙ s'.parts)) in
        let cut = cut_at s'.read left' (s.read ++ u ∷ []) rest (sym parts) (omega (arith, less, ap length el)) in
        s.no_further u rest el (begins_less (s.read ++ u ∷ []) cut.0 (subst Begins cut.2 s'.begins))

pub one_stop : (ts left left' : List Sign) → Stops ts left → Stops ts left' → left ≡ left'
one_stop ts left left' s s' = same_end s.read left s'.read left' (sym s.parts ∙ s'.parts) count
  where
    count : length left ≡ length left'
    count = ⊎_elim (λ lt. absurd (no_more ts left' left s' s lt)) (λ le. ⊎_elim (λ lt. absurd (no_more ts left left' s s' lt)) (λ le'. omega (arith, le, le')) (cases_lt (length left') (length left))) (cases_lt (length left) (length left'))

    same_end : (q r u v : List Sign) → q ++ r ≡ u ++ v → length r ≡ length v → r ≡ v
    same_end q r u v e n = let cut = cut_at q r u v e (omega (arith, n)) in go cut.0 cut.1
      where
        go : (m : List Sign) → v ≡ m ++ r → r ≡ v
        go [] e0 = sym e0
        go (x ∷ m) e0 = absurd (omega (arith, n, ap length e0, length-append m r))

-- ---- one tree

pub one_front : (f g : Front) → ShapedFront f → ShapedFront g → print_front f ≡ print_front g → f ≡ g
one_front f g good good' e =
    let text = tokens_of (print_front f) in
    one_tree law text.0 f g text.1 good (shallow f good) (subst (λ (is : List Item). Matches by_symbol is text.0) e text.1) good' (shallow g good')
