-- Parts one after the other, of which the first never goes on with what begins the second.
use Rattle.std.proofs.Common.{◌≡◌, ℕ, Bool, true, false, List, [], ◌∷◌, ◌++◌, Option, Some, None, is_some, Result, Ok, Err, refl, sym, ap, ◌∙◌}
use Rattle.std.specs.List.{AllByRecursion}
use Rattle.cob_tree.specs.Items.{Item, each}
use Rattle.reading.specs.Readers.{Fault, Reader, ◌>>=◌, seq, optional, here_if, many, plus}
use Rattle.reading.specs.Printing.{Alphabet, peek, on_mark, begins, Next}
use Rattle.reading.specs.Law.{Syntax, Law, onward}
use Rattle.reading.proofs.Texts.{or_false}
use Rattle.reading.proofs.Seen.{View, seen_law}
use Rattle.reading.proofs.Turns.{law_along}
use Rattle.reading.proofs.Dependent.{seq_syntax}
use Rattle.reading.proofs.Apart.{apart_law}
use Rattle.reading.proofs.Starts.{Begins, Starts, OneToken}
use Rattle.reading.proofs.Tail.{apart, Tail, tail_law}
use Rattle.reading.proofs.Optional.{optional_syntax}
use Rattle.reading.proofs.Opt.{optional_tail, opener_here}
use Rattle.reading.proofs.Many.{is_given, many_syntax, many_tail}

pub onward_false : (given a b : Bool) → a ≡ false → b ≡ false → onward given a b ≡ false
onward_false false a b e f = or_false a b e f
onward_false true a b e f = f

-- what begins with one of some marks is behind what takes none of these
pub next_free : {T I M : Type 0} (G : Alphabet T I M) (takes set : M → Bool) → ((p : M) → set p ≡ true → takes p ≡ false) → (ts : List T) → begins G set ts ≡ true → Next G takes ts
next_free {T} {I} {M} G takes set free ts there = go (peek G ts) there
  where
    go : (o : Option M) → on_mark G set o ≡ true → on_mark G takes o ≡ false
    go None s = absurd cc
    go (Some p) s = free p s

unseen : {T A : Type 0} (r : Result (A × List T) Fault) → r ≡ (r >>= λ x. Ok (x.0, x.1))
unseen (Ok x) = refl
unseen (Err d) = refl

-- the same law in other words
module _ {T I M A : Type 0} {G : Alphabet T I M} {R : Reader T A} {s s' : Syntax I M A} {top : ℕ} where
  pub law_as : Law G R s top → View s s' (λ x. x) (λ x. x) → Law G R s' top
  law_as L V = law_along (λ ts. unseen (R ts)) (seen_law L V)

module _ {I M A B : Type 0} (a : Syntax I M A) (b : Syntax I M B) (given : B → Bool) where
  abbrev pub pair_syntax : Syntax I M (A × B)
  pair_syntax = record { Good = λ x. a.Good x.0 × b.Good x.1; print = λ x. a.print x.0 ++ b.print x.1; takes = λ x p. onward (given x.1) (a.takes x.0 p) (b.takes x.1 p) }

module _ {T I M A B : Type 0} {G : Alphabet T I M} {R : Reader T A} {a : Syntax I M A} {S : Reader T B} {b : Syntax I M B} {top : ℕ} where
  -- the second always stands there
  pub then_law : Law G R a top → Law G S b top → ((x : A) → OneToken G (a.takes x)) → (set : M → Bool) → Begins G set b → ((x : A) (p : M) → a.Good x → set p ≡ true → a.takes x p ≡ false) → Law G (seq R S) (seq_syntax a b) top
  then_law LA LB one set begin free = apart_law LA one (λ x. S) (λ x. b) (λ x good. LB) (λ x y text rest good good' spells. next_free G (a.takes x) set (λ p e. free x p good e) (text ++ rest) (begin y text rest good' spells))

  -- the second may be left out; m is a mark that never is taken
  pub pair_law : {set : M → Bool} {given : B → Bool} → Law G R a top → Tail G set given S b top → (m : M) → ((x : A) → a.Good x → a.takes x m ≡ false) → ((x : A) (p : M) → a.Good x → set p ≡ true → a.takes x p ≡ false) → Law G (seq R S) (pair_syntax a b given) top
  pair_law {set} {given} LA tail m never free = law_as (tail_law LA m (λ x p good e. free x p good e ∙ sym (never x good)) (λ x. tail)) (record {
    back = λ y good. refl;
    print = λ x good. refl;
    takes = λ x p good. refl;
    good = λ x good. (good.0, good.1);
    good_back = λ y good. (good.0, good.1, apart (given y.1) (a.takes y.0 m) (never y.0 good.0));
  })

module _ {T I M B : Type 0} {G : Alphabet T I M} {S : Reader T B} {b : Syntax I M B} {top : ℕ} where
  pub optional_part : (set : M → Bool) → Law G S b top → Starts G set S b → Tail G set is_some (optional (here_if (begins G set)) S) (optional_syntax set [] b) top
  optional_part set LB St = optional_tail (opener_here St true (λ y good. refl) top) (λ ts rest e. LB)

-- ---- lists of what never goes on with what begins the next

module _ {M A : Type 0} (set : M → Bool) (s : Syntax Item M A) where
  abbrev pub last_takes : List A → M → Bool
  last_takes [] p = set p
  last_takes (x ∷ xs) p = onward (is_given xs) (s.takes x p) (last_takes xs p)

  abbrev pub list_syntax : Syntax Item M (List A)
  list_syntax = record { Good = AllByRecursion s.Good; print = each s.print; takes = last_takes }

  -- at least one
  abbrev pub some_syntax : Syntax Item M (A × List A)
  some_syntax = pair_syntax s list_syntax is_given

  -- of what never goes on
  pub last_ended : ((x : A) (p : M) → s.takes x p ≡ false) → (xs : List A) (p : M) → last_takes xs p ≡ set p
  last_ended none [] p = refl
  last_ended none (x ∷ xs) p = ap (λ (z : Bool). onward (is_given xs) z (last_takes xs p)) (none x p) ∙ ap (λ (z : Bool). onward (is_given xs) false z) (last_ended none xs p) ∙ own (is_given xs)
    where
      own : (c : Bool) → onward c false (set p) ≡ set p
      own false = refl
      own true = refl

  -- what none takes, and begins none, the list doesn't take
  pub last_free : (p : M) → set p ≡ false → ((x : A) → s.Good x → s.takes x p ≡ false) → (xs : List A) → AllByRecursion s.Good xs → last_takes xs p ≡ false
  last_free p none free [] good = none
  last_free p none free (x ∷ xs) good = onward_false (is_given xs) (s.takes x p) (last_takes xs p) (free x good.0) (last_free p none free xs good.1)

module _ {T M A : Type 0} {G : Alphabet T Item M} {R : Reader T A} {s : Syntax Item M A} {top : ℕ} (L : Law G R s top) (set : M → Bool) (m : M) (never : (x : A) → s.Good x → s.takes x m ≡ false) (free : (x : A) (p : M) → s.Good x → set p ≡ true → s.takes x p ≡ false) (St : Starts G set R s) where
  list_view : View (many_syntax set s m) (list_syntax set s) (λ x. x) (λ x. x)
  list_view = record { back = λ y good. refl; print = λ x good. printed x; takes = λ x p good. takes x p; good = good; good_back = good_back }
    where
      printed : (xs : List A) → each s.print xs ≡ (many_syntax set s m).print xs
      printed [] = refl
      printed (x ∷ xs) = ap (λ (z : List Item). s.print x ++ z) (printed xs)

      takes : (xs : List A) (p : M) → last_takes set s xs p ≡ (many_syntax set s m).takes xs p
      takes [] p = refl
      takes (x ∷ xs) p = ap (λ (z : Bool). onward (is_given xs) (s.takes x p) z) (takes xs p)

      good : (xs : List A) → (many_syntax set s m).Good xs → AllByRecursion s.Good xs
      good [] g = tt
      good (x ∷ xs) g = (g.0, good xs g.1)

      good_back : (xs : List A) → AllByRecursion s.Good xs → (many_syntax set s m).Good xs
      good_back [] g = tt
      good_back (x ∷ xs) g = (g.0, good_back xs g.1, apart (is_given xs) (s.takes x m) (never x g.0))

  plain_tail : Tail G set is_given (many (begins G set) R) (many_syntax set s m) top
  plain_tail = many_tail L set m (λ x p good e. free x p good e ∙ sym (never x good)) St

  pub list_law : Law G (many (begins G set) R) (list_syntax set s) top
  list_law = law_as plain_tail.law list_view

  pub list_tail : Tail G set is_given (many (begins G set) R) (list_syntax set s) top
  list_tail = record {
    law = list_law;
    bare = bare;
    starts = λ xs text rest good given spells. plain_tail.starts xs text rest (list_view.good_back xs good) given (rw⁻¹ (list_view.print xs (list_view.good_back xs good)) spells);
    begun = plain_tail.begun;
    decided = plain_tail.decided;
    left_out = ([], tt, refl);
  }
    where
      bare : (xs : List A) → is_given xs ≡ false → each s.print xs ≡ []
      bare [] e = refl
      bare (x ∷ xs) e = absurd cc

  pub some_law : Law G (plus (begins G set) R) (some_syntax set s) top
  some_law = pair_law L list_tail m never free
