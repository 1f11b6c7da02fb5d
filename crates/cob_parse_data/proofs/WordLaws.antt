-- The laws of headings, of what stands behind words, and of two parts that may be left out.
use Rattle.std.proofs.Common.{◌≡◌, ℕ, ◌<◌, Bool, true, false, List, [], ◌∷◌, ◌++◌, Option, Some, None, is_some, refl, ap, ◌∙◌}
use Rattle.cob_tree.specs.declared.keyword.Keyword.{Keyword}
use Rattle.cob_tree.specs.Symbols.{Symbol, Key, Name, Stop, Sign}
use Rattle.cob_tree.specs.Items.{Item, key}
use Rattle.cob_tree.specs.PrintFront as print
use Rattle.cob_tree.specs.PrintFront.{print_if, print_name_and_stop}
use Rattle.cob_tree.specs.Shaped.{IfThere}
use Rattle.reading.specs.Readers.{Reader, seq}
use Rattle.reading.specs.Law.{Syntax, Law, onward}
use Rattle.reading.proofs.Texts.{Always, takes_nothing}
use Rattle.reading.proofs.Seen.{View, seen_law}
use Rattle.reading.proofs.Dependent.{seq_syntax, seq_law}
use Rattle.reading.proofs.Starts.{Begins}
use Rattle.reading.proofs.Tail.{Tail}
use Rattle.reading.proofs.Optional.{optional_syntax}
use Rattle.cob_parse_expr.specs.LexemeClasses.{by_symbol, is, the}
use Rattle.cob_parse_data.specs.Reading.{back, front, heading, headed, led, perhaps, named}
use Rattle.cob_parse_data.specs.Takes.{takes_perhaps}
use Rattle.cob_parse_data.proofs.Parts.{onward_false, law_as, pair_syntax, pair_law, optional_part}
use Rattle.cob_parse_data.proofs.ClassLaws.{begins_with, starts_with, one_syntax, one_law, one_word, free_of, stops, names}

abbrev pub beside : {A : Type 0} → A → Unit {0} × A
beside y = (tt, y)

abbrev pub closed : {A : Type 0} → A → A × Unit {0}
closed y = (y, tt)

-- each text begins with the word
abbrev pub Leads : {A : Type 0} → Keyword → Syntax Item Symbol A → Type 0
Leads {A} k s = (x : A) → s.Good x → (more : List Item) × (s.print x ≡ key 0 k ∷ more)

pub leads_begin : {A : Type 0} (k : Keyword) (s : Syntax Item Symbol A) → Leads k s → Begins by_symbol (is (the k)) s
leads_begin k s leads = begins_with (one_word k) s (λ x good. let w = leads x good in (tt, None, w.0, w.1))

abbrev pub heading_syntax : List Keyword → Syntax Item Symbol (Unit {0})
heading_syntax ks = record { Good = Always; print = λ x. print.heading ks; takes = takes_nothing }

abbrev pub headed_syntax : {A : Type 0} → List Keyword → Syntax Item Symbol A → Syntax Item Symbol A
headed_syntax ks s = record { Good = s.Good; print = λ x. print.heading ks ++ s.print x; takes = s.takes }

abbrev pub led_syntax : {A : Type 0} → Keyword → Syntax Item Symbol A → Syntax Item Symbol A
led_syntax k s = record { Good = s.Good; print = λ x. key 0 k ∷ s.print x; takes = s.takes }

abbrev pub named_syntax : Syntax Item Symbol (List ℕ)
named_syntax = record { Good = Always; print = print_name_and_stop; takes = takes_nothing }

module _ (top : ℕ) (low : 0 < top) where
  pub heading_law : (ks : List Keyword) → Law by_symbol (heading ks) (heading_syntax ks) top
  heading_law [] = one_law stops top low tt
  heading_law (k ∷ ks) = seen_law (seq_law (one_law (one_word k) top low tt) (λ x p good. refl) (heading_law ks)) view
    where
      view : View (seq_syntax (one_syntax (λ x. Key k)) (heading_syntax ks)) (heading_syntax (k ∷ ks)) back beside
      view = record { back = λ y good. refl; print = λ x good. refl; takes = λ x p good. refl; good = λ x good. tt; good_back = λ y good. (tt, tt) }

  pub headed_law : {A : Type 0} {r : Reader Sign A} {s : Syntax Item Symbol A} (ks : List Keyword) → Law by_symbol r s top → Law by_symbol (headed ks r) (headed_syntax ks s) top
  headed_law {A} {r} {s} ks L = seen_law (seq_law (heading_law ks) (λ x p good. refl) L) view
    where
      view : View (seq_syntax (heading_syntax ks) s) (headed_syntax ks s) back beside
      view = record { back = λ y good. refl; print = λ x good. refl; takes = λ x p good. refl; good = λ x good. good.1; good_back = λ y good. (tt, good) }

  pub led_law : {A : Type 0} {r : Reader Sign A} {s : Syntax Item Symbol A} (k : Keyword) → Law by_symbol r s top → Law by_symbol (led k r) (led_syntax k s) top
  led_law {A} {r} {s} k L = seen_law (seq_law (one_law (one_word k) top low tt) (λ x p good. refl) L) view
    where
      view : View (seq_syntax (one_syntax (λ x. Key k)) s) (led_syntax k s) back beside
      view = record { back = λ y good. refl; print = λ x good. refl; takes = λ x p good. refl; good = λ x good. good.1; good_back = λ y good. (tt, good) }

  pub named_law : Law by_symbol named named_syntax top
  named_law = seen_law (seq_law (one_law names top low []) (λ x p good. refl) (one_law stops top low tt)) view
    where
      view : View (seq_syntax (one_syntax (λ text. Name text)) (one_syntax (λ x. Stop))) named_syntax front closed
      view = record { back = λ y good. refl; print = λ x good. refl; takes = λ x p good. refl; good = λ x good. tt; good_back = λ y good. (tt, tt) }

  -- what may be left out, where a word begins it
  module _ {A : Type 0} {r : Reader Sign A} {s : Syntax Item Symbol A} (k : Keyword) (L : Law by_symbol r s top) (leads : Leads k s) where
    pub perhaps_tail : Tail by_symbol (is (the k)) is_some (perhaps k r) (optional_syntax (is (the k)) [] s) top
    perhaps_tail = optional_part (is (the k)) L (starts_with (leads_begin k s leads))

module _ {A B : Type 0} (j k : Keyword) (a : Syntax Item Symbol A) (b : Syntax Item Symbol B) where
  abbrev pub two_syntax : Syntax Item Symbol (Option A × Option B)
  two_syntax = record { Good = λ x. IfThere a.Good x.0 × IfThere b.Good x.1; print = λ x. print_if a.print x.0 ++ print_if b.print x.1; takes = λ x y. onward (is_some x.1) (takes_perhaps j a.takes x.0 y) (takes_perhaps k b.takes x.1 y) }

-- one and another, each of which may be left out
module _ {A : Type 0} (k : Keyword) (s : Syntax Item Symbol A) where
  abbrev syntax : Syntax Item Symbol (Option A)
  syntax = optional_syntax (is (the k)) [] s

  there : (o : Option A) → syntax.Good o → IfThere s.Good o
  there None good = tt
  there (Some x) good = good

  there_back : (o : Option A) → IfThere s.Good o → syntax.Good o
  there_back None good = tt
  there_back (Some x) good = good

  printed : (o : Option A) → print_if s.print o ≡ syntax.print o
  printed None = refl
  printed (Some x) = refl

  taken : (o : Option A) (y : Symbol) → takes_perhaps k s.takes o y ≡ syntax.takes o y
  taken None y = refl
  taken (Some x) y = refl

  perhaps_free : (y : Symbol) → is (the k) y ≡ false → ((x : A) → s.Good x → s.takes x y ≡ false) → (o : Option A) → IfThere s.Good o → takes_perhaps k s.takes o y ≡ false
  perhaps_free y none free None good = none
  perhaps_free y none free (Some x) good = free x good

module _ {A B : Type 0} {r : Reader Sign A} {r' : Reader Sign B} {a : Syntax Item Symbol A} {b : Syntax Item Symbol B} {top : ℕ} (low : 0 < top) (j k : Keyword) (differ : is (the j) (Key k) ≡ false) (LA : Law by_symbol r a top) (LB : Law by_symbol r' b top) (leads : Leads j a) (leads' : Leads k b)
    (never : (x : A) → a.Good x → a.takes x Stop ≡ false) (free : (x : A) → a.Good x → a.takes x (Key k) ≡ false) where
  pub two_law : Law by_symbol (seq (perhaps j r) (perhaps k r')) (two_syntax j k a b) top
  two_law = law_as (pair_law (perhaps_tail top low j LA leads).law (perhaps_tail top low k LB leads') Stop never_first free_first) view
    where
      never_first : (o : Option A) → (syntax j a).Good o → (syntax j a).takes o Stop ≡ false
      never_first None good = refl
      never_first (Some x) good = never x good

      at_word : (o : Option A) → (syntax j a).Good o → (syntax j a).takes o (Key k) ≡ false
      at_word None good = differ
      at_word (Some x) good = free x good

      free_first : (o : Option A) (y : Symbol) → (syntax j a).Good o → is (the k) y ≡ true → (syntax j a).takes o y ≡ false
      free_first o y good e = free_of k ((syntax j a).takes o) (at_word o good) y e

      view : View (pair_syntax (syntax j a) (syntax k b) is_some) (two_syntax j k a b) (λ x. x) (λ x. x)
      view = record {
        back = λ y good. refl;
        print = λ x good. ap (λ (z : List Item). z ++ print_if b.print x.1) (printed j a x.0) ∙ ap (λ (z : List Item). (syntax j a).print x.0 ++ z) (printed k b x.1);
        takes = λ x y good. ap (λ (z : Bool). onward (is_some x.1) z (takes_perhaps k b.takes x.1 y)) (taken j a x.0 y) ∙ ap (λ (z : Bool). onward (is_some x.1) ((syntax j a).takes x.0 y) z) (taken k b x.1 y);
        good = λ x good. (there j a x.0 good.0, there k b x.1 good.1);
        good_back = λ x good. (there_back j a x.0 good.0, there_back k b x.1 good.1);
      }

-- what neither takes
pub two_free : {A B : Type 0} (j k : Keyword) (a : Syntax Item Symbol A) (b : Syntax Item Symbol B) (y : Symbol) → is (the j) y ≡ false → is (the k) y ≡ false → ((x : A) → a.Good x → a.takes x y ≡ false) → ((x : B) → b.Good x → b.takes x y ≡ false) → (x : Option A × Option B) → (two_syntax j k a b).Good x → (two_syntax j k a b).takes x y ≡ false
two_free j k a b y e f free free' x good = onward_false (is_some x.1) (takes_perhaps j a.takes x.0 y) (takes_perhaps k b.takes x.1 y) (perhaps_free j a y e free x.0 good.0) (perhaps_free k b y f free' x.1 good.1)
