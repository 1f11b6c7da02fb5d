-- The law of brackets, put together from the laws of their parts.
use Rattle.std.proofs.Common.{◌≡◌, ℕ, zero, suc, ◌+◌, ◌≤◌, ◌<◌, inr, Bool, true, false, List, [], ◌∷◌, ◌++◌, length, Some, Err, refl, sym, ap, arith}
use Rattle.reading.specs.Readers.{Stop, Deep, Reader, lead, seq, seen, many, closed, stands, whole}
use Rattle.reading.specs.Printing.{Here, Ahead, Matches, begins, Next}
use Rattle.reading.specs.Law.{Syntax, Law, OpensAt, Deepens, Agrees}
use Rattle.reading.specs.Brackets.{Bracket, Open, Close, Tree, Node, Trees, none, and_more, mark_of, brackets, print, print_all, tree_syntax, close_of, trees_of, node, goes_no_further, tree_in}
use Rattle.reading.proofs.Texts.{Always}
use Rattle.reading.proofs.Dependent.{seq_syntax, seq_law}
use Rattle.reading.proofs.Lead.{Class, lead_syntax, lead_law}
use Rattle.reading.proofs.Seen.{View, seen_law}
use Rattle.reading.proofs.Starts.{OneToken, Starts, starts_by_one}
use Rattle.reading.proofs.Tail.{apart}
use Rattle.reading.proofs.Many.{is_given, many_syntax, many_law}
use Rattle.reading.proofs.Must.{Ends, closed_law}
use Rattle.reading.proofs.Full.{NoRoom, full_law}
use Rattle.reading.proofs.Wider.{agree_same, agree_seen, agree_seq, agree_closed, agree_many, agree_full}
use Rattle.reading.proofs.Deeper.{deepens_lead, deepens_seen, deepens_seq, deepens_closed, deepens_many, deepens_full}
use Rattle.reading.proofs.Whole.{whole_deep}

opens : (d : ℕ) → Class brackets mark_of Always (λ (x : Unit {0}). (Open, d))
opens d = record { reads = λ x t allowed fits. ap mark_of fits; only = only }
  where
    only : (t : Bracket) (x : Unit {0}) → mark_of t ≡ Some x → Always x × (t ≡ Open)
    only Open x e = (tt, refl)
    only Close x e = absurd cc

closes : (d : ℕ) → Class brackets close_of Always (λ (x : Unit {0}). (Close, d))
closes d = record { reads = λ x t allowed fits. ap close_of fits; only = only }
  where
    only : (t : Bracket) (x : Unit {0}) → close_of t ≡ Some x → Always x × (t ≡ Close)
    only Close x e = (tt, refl)
    only Open x e = absurd cc

abbrev start : Unit {0} → Bool
start p = true

one_token : (set : Unit {0} → Bool) → OneToken brackets set
one_token set t mark e u = let never : Here (mark_of t) ≡ Ahead mark = e in absurd cc

-- what stands inside a pair at this depth, and the pair
abbrev inside : ℕ → Syntax (Bracket × ℕ) (Unit {0}) (List Tree)
inside d = many_syntax start (tree_syntax d) tt

abbrev closing : ℕ → Syntax (Bracket × ℕ) (Unit {0}) (Unit {0})
closing d = lead_syntax Always (λ x. (Close, d))

abbrev pair : ℕ → Syntax (Bracket × ℕ) (Unit {0}) (Unit {0} × (List Tree × Unit {0}))
pair d = seq_syntax (lead_syntax Always (λ x. (Open, d))) (seq_syntax (inside d) (closing d))

begin : (d : ℕ) (r : Reader Bracket Tree) → Starts brackets start r (tree_syntax d)
begin d r = starts_by_one brackets start all (one_token start)
  where
    all : (t : Tree) (text rest : List Bracket) → Always t → Matches brackets (print d t) text → begins brackets start (text ++ rest) ≡ true
    all (Node ts) [] rest good spells = absurd spells
    all (Node ts) (t ∷ text) rest good spells = rw spells.0 refl

close_ends : (d top : ℕ) → Ends brackets (inside d) top goes_no_further (stands close_of)
close_ends d top = record { ends = ends; grows = λ x t good below goes. absurd cc; steady = λ x t good stays mark e u. one_token ((inside d).takes x) t mark e u }
  where
    ends : (x : List Tree) (ts : List Bracket) → (inside d).Good x → stands close_of ts ≡ true → Next brackets ((inside d).takes x) ts
    ends x [] good e = absurd cc
    ends x (Close ∷ ts) good e = refl
    ends x (Open ∷ ts) good e = absurd cc

abbrev list_of : Trees → List Tree
list_of none = []
list_of (and_more t ts) = t ∷ list_of ts

abbrev parts : Tree → Unit {0} × (List Tree × Unit {0})
parts (Node ts) = (tt, (list_of ts, tt))

pair_view : (d : ℕ) → View (pair (suc d)) (tree_syntax d) node parts
pair_view d = record {
  back = node_back;
  print = λ x good. ap (λ (z : List (Bracket × ℕ)). (Open, suc d) ∷ (z ++ (Close, suc d) ∷ [])) (same_print x.1.0);
  takes = λ x p good. refl;
  good = λ x good. tt;
  good_back = good_back;
}
  where
    back : (ts : Trees) → trees_of (list_of ts) ≡ ts
    back none = refl
    back (and_more t ts) = ap (λ (z : Trees). and_more t z) (back ts)

    same_print : (xs : List Tree) → print_all (suc d) (trees_of xs) ≡ (inside (suc d)).print xs
    same_print [] = refl
    same_print (t ∷ xs) = ap (λ (z : List (Bracket × ℕ)). print (suc d) t ++ z) (same_print xs)

    all_good : (xs : List Tree) → (inside (suc d)).Good xs
    all_good [] = tt
    all_good (t ∷ xs) = (tt, all_good xs, apart (is_given xs) false refl)

    node_back : (t : Tree) → Always t → node (parts t) ≡ t
    node_back (Node ts) good = ap Node (back ts)

    good_back : (t : Tree) → Always t → (pair (suc d)).Good (parts t)
    good_back (Node ts) good = (tt, (all_good (list_of ts), tt))

abbrev list : Reader Bracket Tree → Reader Bracket (List Tree)
list r = many (begins brackets (λ p. true)) r

-- where this many are open around, and fewer than top
module _ (d top : ℕ) (low : suc d < top) (r : Reader Bracket Tree) (L : Law brackets r (tree_syntax (suc d)) top) where
  list_law : Law brackets (list r) (inside (suc d)) top
  list_law = many_law L start tt (λ x p good e. refl) (begin (suc d) r)

  behind_law : Law brackets (closed (list r) close_of goes_no_further) (seq_syntax (inside (suc d)) (closing (suc d))) top
  behind_law = closed_law list_law (closes (suc d)) (λ x good. low) tt tt (close_ends (suc d) top)

  open_law : Law brackets (lead mark_of) (lead_syntax Always (λ x. (Open, suc d))) top
  open_law = lead_law (opens (suc d)) top (λ x good. low) tt tt

  pair_law : Law brackets (seen node (seq (lead mark_of) (closed (list r) close_of goes_no_further))) (tree_syntax d) top
  pair_law = seen_law (seq_law open_law (λ x p good. refl) behind_law) (pair_view d)

no_room : (d top : ℕ) → top ≡ suc d → NoRoom brackets (tree_syntax d) top (stands mark_of)
no_room d top same = record { first = first; some = (Node none, tt); at_end = refl; deep = deep }
  where
    first : (t : Tree) → Always t → (i : Bracket × ℕ) × (more : List (Bracket × ℕ)) × (print d t ≡ i ∷ more) × (i.1 ≡ top)
    first (Node ts) good = ((Open, suc d), print_all (suc d) ts ++ (Close, suc d) ∷ [], refl, sym same)

    deep : (t : Bracket) (ts : List Bracket) → stands mark_of (t ∷ ts) ≡ true → (x : Tree) × (i : Bracket × ℕ) × (more : List (Bracket × ℕ)) × Always x × (print d x ≡ i ∷ more) × (t ≡ i.0) × (i.1 ≡ top)
    deep Open ts e = (Node none, (Open, suc d), (Close, suc d) ∷ [], tt, refl, refl, sym same)
    deep Close ts e = absurd cc

pub tree_law : (room d top : ℕ) → top ≡ suc (d + room) → Law brackets (tree_in room) (tree_syntax d) top
unfolding tree_in
tree_law zero d top same = full_law (no_room d top (omega (arith, same)))
tree_law (suc room) d top same = pair_law d top (omega (arith, same)) (tree_in room) (tree_law room (suc d) top (omega (arith, same)))

-- with more room the answer is the same, unless there was too little
pub tree_agrees : (room wide : ℕ) → room ≤ wide → Agrees (tree_in room) (tree_in wide)
unfolding tree_in
tree_agrees zero zero le ts = inr refl
tree_agrees zero (suc wide) le ts = agree_full (stands mark_of) (λ us. tree_in (suc wide) us) stops ts
  where
    stops : (us : List Bracket) → stands mark_of us ≡ false → tree_in (suc wide) us ≡ Err (Stop (length us))
    stops [] e = refl
    stops (Close ∷ us) e = refl
    stops (Open ∷ us) e = absurd cc
tree_agrees (suc room) zero le ts = absurd (omega arith)
tree_agrees (suc room) (suc wide) le ts = agree_seen node (pairs room) (pairs wide) (agree_seq (lead mark_of) (lead mark_of) (behind room) (behind wide) (agree_same (lead mark_of)) (agree_closed (list (tree_in room)) (list (tree_in wide)) close_of goes_no_further (agree_many (begins brackets (λ p. true)) (tree_in room) (tree_in wide) (tree_agrees room wide (omega arith))))) ts
  where
    behind : ℕ → Reader Bracket (List Tree × Unit {0})
    behind n = closed (list (tree_in n)) close_of goes_no_further

    pairs : ℕ → Reader Bracket (Unit {0} × (List Tree × Unit {0}))
    pairs n = seq (lead mark_of) (behind n)

-- and there each tree opens one too many
module _ (d top wide : ℕ) (le : top ≤ wide) (low : suc d < top) (low' : suc d < wide) (r r' : Reader Bracket Tree) (L : Law brackets r (tree_syntax (suc d)) top) (W : Law brackets r' (tree_syntax (suc d)) wide) (D : Deepens brackets r (tree_syntax (suc d)) top wide) where
  list_deepens : Deepens brackets (list r) (inside (suc d)) top wide
  list_deepens = deepens_many le L W D start tt (λ x p good e. refl) (begin (suc d) r)

  behind_deepens : Deepens brackets (closed (list r) close_of goes_no_further) (seq_syntax (inside (suc d)) (closing (suc d))) top wide
  behind_deepens = deepens_closed (closes (suc d)) le (λ x good. low) tt tt (list_law d top low r L) (list_law d wide low' r' W) (close_ends (suc d) top) list_deepens

  pair_deepens : Deepens brackets (seen node (seq (lead mark_of) (closed (list r) close_of goes_no_further))) (tree_syntax d) top wide
  pair_deepens = deepens_seen (pair_view d) (deepens_seq le (open_law d top low r L) (open_law d wide low' r' W) (deepens_lead mark_of brackets (lead_syntax Always (λ x. (Open, suc d))) top wide) (λ x p good. refl) (behind_law d top low r L) behind_deepens)

pub tree_deepens : (room more d top wide : ℕ) → top ≡ suc (d + room) → wide ≡ suc (d + (room + more)) → Deepens brackets (tree_in room) (tree_syntax d) top wide
unfolding tree_in
tree_deepens zero more d top wide same same' = deepens_full (no_room d top (omega (arith, same)))
tree_deepens (suc room) more d top wide same same' = pair_deepens d top wide (omega (arith, same, same')) (omega (arith, same)) (omega (arith, same')) (tree_in room) (tree_in (room + more)) (tree_law room (suc d) top (omega (arith, same))) (tree_law (room + more) (suc d) wide (omega (arith, same'))) (tree_deepens room more (suc d) top wide (omega (arith, same)) (omega (arith, same')))

pub too_deep : (room : ℕ) (u v more : List Bracket) (t : Bracket) (a : Tree) → Matches brackets (print zero a) (u ++ t ∷ more) → OpensAt brackets (suc room) (print zero a) (length u) → whole (tree_in room) (u ++ t ∷ v) ≡ Err (Deep (suc (length v)))
too_deep room u v more t a spells o = whole_deep (tree_law room zero (suc room) (omega arith)) (λ n. tree_in (room + n)) (λ n. tree_law (room + n) zero (suc room + n) (omega arith)) (λ n. tree_agrees room (room + n) (omega arith)) (λ x. one_token ((tree_syntax zero).takes x)) (λ n. tree_deepens room n zero (suc room) (suc room + n) (omega arith) (omega arith)) (λ i. (i.0, refl)) u v more t a tt spells o
