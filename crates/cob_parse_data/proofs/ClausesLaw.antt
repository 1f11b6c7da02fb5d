-- Clauses in any order, each kind at most once, without the words that begin them.
use Rattle.std.proofs.Common.{◌≡◌, ℕ, ◌==◌, ◌<◌, Bool, true, false, List, [], ◌∷◌, ◌++◌, Option, None, is_some, refl, sym, ap, subst, ◌∙◌, map}
use Rattle.std.proofs.lemmas.Bool.{eqb-true, eq-eqb}
use Rattle.std.specs.List.{AllByRecursion}
use Rattle.cob_tree.specs.declared.keyword.Keyword.{Keyword}
use Rattle.cob_tree.specs.Symbols.{Symbol, Key, Stop, Sign}
use Rattle.cob_tree.specs.Items.{Item, item, each}
use Rattle.cob_tree.specs.Shaped.{IsNew, AreOfKinds}
use Rattle.reading.specs.Readers.{Reader, among, fresh_on, clauses, with_kind, seen}
use Rattle.reading.specs.Law.{Syntax, Law}
use Rattle.reading.proofs.Texts.{left_false, right_false, or_false}
use Rattle.reading.proofs.Seen.{View, seen_law}
use Rattle.reading.proofs.Tail.{apart}
use Rattle.reading.proofs.Many.{is_given, many_good, many_print, many_takes}
use Rattle.reading.proofs.Clauses.{takes_fresh, clause_syntax, clauses_syntax, clauses_law}
use Rattle.cob_parse_expr.specs.LexemeClasses.{by_symbol, of, is}
use Rattle.cob_parse_data.specs.Heads.{same_kind}
use Rattle.cob_parse_data.specs.Reading.{untagged}
use Rattle.cob_parse_data.proofs.Parts.{onward_false}
use Rattle.cob_parse_data.proofs.ClassLaws.{Spelling, tokens}

-- what one entry's clauses are
pub record Clausal {K C : Type 0} (class : Symbol → Option K) (kind : K → ℕ) (number : C → ℕ) (Shaped : C → Type 0) (print : C → List Item) (read : K → Reader Sign C) (top : ℕ) : Type 0 where
  pub word : K → Keyword
  pub spelling : Spelling class (λ k. Key (word k))
  pub head : C → K
  pub body : C → List Item
  pub takes : C → Symbol → Bool
  pub numbered : (c : C) → number c ≡ kind (head c)
  pub printed : (c : C) → print c ≡ item 0 (Key (word (head c))) ∷ body c
  pub law : (k : K) → Law by_symbol (read k) (record { Good = λ c. (head c ≡ k) × Shaped c; print = body; takes = takes }) top
  pub never : (c : C) → Shaped c → takes c Stop ≡ false
  pub free : (c : C) (y : Symbol) → Shaped c → is class y ≡ true → takes c y ≡ false
  pub no_stop : class Stop ≡ None

module _ {K C : Type 0} {class : Symbol → Option K} {kind : K → ℕ} {number : C → ℕ} {Shaped : C → Type 0} {print : C → List Item} {read : K → Reader Sign C} {top : ℕ} (E : Clausal class kind number Shaped print read top) (low : 0 < top) where
  abbrev bodies : K → Syntax Item Symbol C
  bodies k = record { Good = λ c. (E.head c ≡ k) × Shaped c; print = E.body; takes = E.takes }

  abbrev begun_by : K → Item
  begun_by k = item 0 (Key (E.word k))

  abbrev tagged : List C → List (K × C)
  tagged = map (λ c. (E.head c, c))

  abbrev pairs : Syntax Item Symbol (List (K × C))
  pairs = clauses_syntax (same_kind kind) class begun_by bodies Stop

  -- any clauses of these kinds, each once
  abbrev pub clause_list : Syntax Item Symbol (List C)
  clause_list = record { Good = λ cs. AreOfKinds number [] cs × AllByRecursion Shaped cs; print = each print; takes = λ cs. pairs.takes (tagged cs) }

  -- with what was read before
  abbrev good_behind : List K → List (K × C) → Type 0
  good_behind kinds xs = many_good (takes_fresh (same_kind kind) class) (clause_syntax (same_kind kind) class begun_by bodies Stop) with_kind Stop kinds xs

  abbrev print_behind : List K → List (K × C) → List Item
  print_behind kinds xs = many_print (takes_fresh (same_kind kind) class) (clause_syntax (same_kind kind) class begun_by bodies Stop) with_kind Stop kinds xs

  abbrev takes_behind : List K → List (K × C) → Symbol → Bool
  takes_behind kinds xs = many_takes (takes_fresh (same_kind kind) class) (clause_syntax (same_kind kind) class begun_by bodies Stop) with_kind Stop kinds xs

  not_equal : (m n : ℕ) → (n ≡ m → ⊥) → (m == n) ≡ false
  not_equal m n differ = go (m == n) refl
    where
      go : (b : Bool) → (m == n) ≡ b → (m == n) ≡ false
      go true e = absurd (differ (sym (eqb-true m n e)))
      go false e = e

  new : (k : K) (kinds : List K) → among (same_kind kind) k kinds ≡ false → IsNew (map kind kinds) (kind k)
  new k [] e = tt
  new k (j ∷ js) e = (λ same. differ same, new k js (right_false (kind k == kind j) (among (same_kind kind) k js) e))
    where
      differ : kind j ≡ kind k → ⊥
      differ same = let never : true ≡ false = sym (eq-eqb (kind k) (kind j) (sym same)) ∙ left_false (kind k == kind j) (among (same_kind kind) k js) e in cc

  fresh : (k : K) (kinds : List K) → IsNew (map kind kinds) (kind k) → among (same_kind kind) k kinds ≡ false
  fresh k [] n = refl
  fresh k (j ∷ js) n = or_false (kind k == kind j) (among (same_kind kind) k js) (not_equal (kind k) (kind j) n.0) (fresh k js n.1)

  untag_tag : (cs : List C) → untagged (tagged cs) ≡ cs
  untag_tag [] = refl
  untag_tag (c ∷ cs) = ap (λ (z : List C). c ∷ z) (untag_tag cs)

  tag_untag : (kinds : List K) (xs : List (K × C)) → good_behind kinds xs → tagged (untagged xs) ≡ xs
  tag_untag kinds [] g = refl
  tag_untag kinds (x ∷ xs) g = ap (λ (z : List (K × C)). (E.head x.1, x.1) ∷ z) (tag_untag (x.0 ∷ kinds) xs g.1) ∙ ap (λ (k : K). (k, x.1) ∷ xs) g.0.1.0

  prints : (kinds : List K) (xs : List (K × C)) → good_behind kinds xs → each print (untagged xs) ≡ print_behind kinds xs
  prints kinds [] g = refl
  prints kinds (x ∷ xs) g = ap (λ (z : List Item). z ++ each print (untagged xs)) (E.printed x.1 ∙ ap (λ (k : K). begun_by k ∷ E.body x.1) g.0.1.0) ∙ ap (λ (z : List Item). begun_by x.0 ∷ (E.body x.1 ++ z)) (prints (x.0 ∷ kinds) xs g.1)

  abbrev by_head : C → ℕ
  by_head c = kind (E.head c)

  same_numbers : number ≡ by_head
  same_numbers = λ i c. E.numbered c i

  of_kinds : (kinds : List K) (xs : List (K × C)) → good_behind kinds xs → AreOfKinds by_head (map kind kinds) (untagged xs) × AllByRecursion Shaped (untagged xs)
  of_kinds kinds [] g = (tt, tt)
  of_kinds kinds (x ∷ xs) g =
      let rest = of_kinds (x.0 ∷ kinds) xs g.1 in
      let same : kind x.0 ≡ by_head x.1 = ap kind (sym g.0.1.0) in
      ((subst (IsNew (map kind kinds)) same (new x.0 kinds g.0.0), subst (λ (n : ℕ). AreOfKinds by_head (n ∷ map kind kinds) (untagged xs)) same rest.0), (g.0.1.1, rest.1))

  kinds_of : (kinds : List K) (cs : List C) → AreOfKinds by_head (map kind kinds) cs → AllByRecursion Shaped cs → good_behind kinds (tagged cs)
  kinds_of kinds [] a s = tt
  kinds_of kinds (c ∷ cs) a s = ((fresh (E.head c) kinds a.0, (refl, s.0)), kinds_of (E.head c ∷ kinds) cs a.1 s.1, apart (is_given (tagged cs)) (E.takes c Stop) (E.never c s.0))

  view : View pairs clause_list untagged tagged
  view = record {
    back = λ cs good. untag_tag cs;
    print = λ xs good. prints [] xs good;
    takes = λ xs p good. ap (λ (z : List (K × C)). pairs.takes z p) (tag_untag [] xs good);
    good = λ xs good. let w = of_kinds [] xs good in (subst (λ (f : C → ℕ). AreOfKinds f [] (untagged xs)) (sym same_numbers) w.0, w.1);
    good_back = λ cs good. kinds_of [] cs (subst (λ (f : C → ℕ). AreOfKinds f [] cs) same_numbers good.0) good.1;
  }

  pub clause_list_law : Law by_symbol (seen untagged (clauses (same_kind kind) (of class) read)) clause_list top
  clause_list_law = seen_law (clauses_law (same_kind kind) class (tokens E.spelling) top (λ k. low) Stop (λ t ts. refl) read bodies E.law (λ k c p good e. E.free c p good.1 e ∙ sym (E.never c good.1))) view

  -- clauses never go on with a point
  ends : (kinds : List K) (cs : List C) → AllByRecursion Shaped cs → takes_behind kinds (tagged cs) Stop ≡ false
  ends kinds [] s = ap (λ (o : Option K). is_some (fresh_on (same_kind kind) kinds o)) E.no_stop
  ends kinds (c ∷ cs) s = onward_false (is_given (tagged cs)) (E.takes c Stop) (takes_behind (E.head c ∷ kinds) (tagged cs) Stop) (E.never c s.0) (ends (E.head c ∷ kinds) cs s.1)

  pub clauses_end : (cs : List C) → clause_list.Good cs → clause_list.takes cs Stop ≡ false
  clauses_end cs good = ends [] cs good.1
