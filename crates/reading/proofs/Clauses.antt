-- Clauses in any order, each kind at most once.
use Rattle.std.proofs.Common.{◌≡◌, ℕ, suc, ◌<◌, ◌≤◌, Bool, true, false, List, [], ◌∷◌, ◌++◌, length, Option, Some, None, is_some, Err, refl, sym, ap, subst, ◌∙◌, arith}
use Rattle.reading.specs.Readers.{left_of, Fault, Reader, branch, many_from, among, unless_on, fresh_on, fresh, stands, with_kind, clauses}
use Rattle.reading.specs.Printing.{Alphabet, Matches, peek, on_mark, begins}
use Rattle.reading.specs.Law.{Syntax, Law, Deepens}
use Rattle.reading.proofs.Texts.{Always}
use Rattle.reading.proofs.Dependent.{dependent_syntax}
use Rattle.reading.proofs.Lead.{Class, lead_syntax, branch_law}
use Rattle.reading.proofs.Starts.{Starts}
use Rattle.reading.proofs.Tail.{Tail}
use Rattle.reading.proofs.Many.{is_given, many_from_syntax, many_from_law, many_from_tail, many_from_deepens}
use Rattle.reading.proofs.Deeper.{deepens_branch}

-- the kind of clause that a mark begins
abbrev pub kind_at : {M K : Type 0} → (M → Option K) → Option M → Option K
kind_at kind None = None
kind_at kind (Some p) = kind p

-- what was not read yet may follow
abbrev pub takes_fresh : {M K : Type 0} → (K → K → Bool) → (M → Option K) → List K → M → Bool
takes_fresh same kind kinds p = is_some (fresh_on same kinds (kind p))

module _ {I M K C : Type 0} (same : K → K → Bool) (kind : M → Option K) (item : K → I) (c : K → Syntax I M C) (m : M) where
  -- a clause of a kind that was not read yet
  abbrev pub clause_syntax : List K → Syntax I M (K × C)
  clause_syntax kinds = dependent_syntax (lead_syntax (λ k. among same k kinds ≡ false) item) c

  abbrev pub clauses_syntax : Syntax I M (List (K × C))
  clauses_syntax = many_from_syntax (takes_fresh same kind) clause_syntax with_kind m []

module _ {T I M K C : Type 0} {G : Alphabet T I M} {class : T → Option K} {item : K → I} (same : K → K → Bool) (kind : M → Option K) (D : Class G class Always item) (top : ℕ) (low : (k : K) → G.depth (item k) < top) (m : M)
    -- a token begins a clause of the kind that its mark tells
    (tells : (t : T) (ts : List T) → kind_at kind (peek G (t ∷ ts)) ≡ class t)
    (clause : K → Reader T C) (c : K → Syntax I M C) (LC : (k : K) → Law G (clause k) (c k) top)
    (alike : (k : K) (y : C) (p : M) → (c k).Good y → is_some (kind p) ≡ true → (c k).takes y p ≡ (c k).takes y m) where
  here : (kinds : List K) (ts : List T) → stands (fresh same class kinds) ts ≡ begins G (takes_fresh same kind kinds) ts
  here kinds [] = refl
  here kinds (t ∷ ts) = ap (λ (o : Option K). is_some (fresh_on same kinds o)) (sym (tells t ts)) ∙ go (peek G (t ∷ ts))
    where
      go : (o : Option M) → is_some (fresh_on same kinds (kind_at kind o)) ≡ on_mark G (takes_fresh same kind kinds) o
      go None = refl
      go (Some p) = refl

  fresh_is : (kinds : List K) (o : Option K) (k : K) → fresh_on same kinds o ≡ Some k → (among same k kinds ≡ false) × (o ≡ Some k)
  fresh_is kinds None k e = absurd cc
  fresh_is kinds (Some j) k e = go (among same j kinds) refl e
    where
      go : (b : Bool) → among same j kinds ≡ b → unless_on b j ≡ Some k → (among same k kinds ≡ false) × (Some j ≡ Some k)
      go true eb e0 = absurd cc
      go false eb e0 = let at : j ≡ k = cc in (subst (λ (i : K). among same i kinds ≡ false) at eb, e0)

  fresh_class : (kinds : List K) → Class G (fresh same class kinds) (λ k. among same k kinds ≡ false) item
  fresh_class kinds = record {
    reads = λ k t new fits. rw (D.reads k t tt fits, new) refl;
    only = λ t k e. let w = fresh_is kinds (class t) k e in (w.0, (D.only t k w.1).1);
  }

  some_is : (o : Option K) → is_some o ≡ true → (k : K) × (o ≡ Some k)
  some_is None e = absurd cc
  some_is (Some k) e = (k, refl)

  -- where one begins, some kind is left
  one_left : (kinds : List K) (ts : List T) → stands (fresh same class kinds) ts ≡ true → (k : K) × (among same k kinds ≡ false)
  one_left kinds [] e = absurd cc
  one_left kinds (t ∷ ts) e = let w = some_is (fresh same class kinds t) e in (w.0, (fresh_is kinds (class t) w.0 w.1).0)

  clause_law : (kinds : List K) (ts : List T) → begins G (takes_fresh same kind kinds) ts ≡ true → Law G (branch (fresh same class kinds) clause) (clause_syntax same kind item c m kinds) top
  clause_law kinds ts b =
      let k = one_left kinds ts (here kinds ts ∙ b) in
      branch_law (fresh_class kinds) top (λ j allowed. low j) k.0 k.1 clause c (λ j allowed. LC j)

  starts : (kinds : List K) → Starts G (takes_fresh same kind kinds) (branch (fresh same class kinds) clause) (clause_syntax same kind item c m kinds)
  starts kinds = record { starts = all; decided = decided }
    where
      all : (x : K × C) (text rest : List T) → (clause_syntax same kind item c m kinds).Good x → Matches G ((clause_syntax same kind item c m kinds).print x) text → begins G (takes_fresh same kind kinds) (text ++ rest) ≡ true
      all x [] rest good spells = absurd spells
      all x (t ∷ text) rest good spells = sym (here kinds (t ∷ (text ++ rest))) ∙ ap is_some ((fresh_class kinds).reads x.0 t good.0 spells.0)

      decided : (q r z : List T) (t : T) (d : Fault) → begins G (takes_fresh same kind kinds) (q ++ t ∷ r) ≡ true → branch (fresh same class kinds) clause (q ++ t ∷ r) ≡ Err d → left_of d ≡ suc (length r) → begins G (takes_fresh same kind kinds) (q ++ t ∷ z) ≡ true
      decided [] r z t d b e at = sym (here kinds (t ∷ z)) ∙ (here kinds (t ∷ r) ∙ b)
      decided (u ∷ q) r z t d b e at = sym (here kinds (u ∷ (q ++ t ∷ z))) ∙ (here kinds (u ∷ (q ++ t ∷ r)) ∙ b)

  known : (kinds : List K) (o : Option K) → is_some (fresh_on same kinds o) ≡ true → is_some o ≡ true
  known kinds None e = e
  known kinds (Some k) e = refl

  alike_clause : (kinds : List K) (x : K × C) (p : M) → (clause_syntax same kind item c m kinds).Good x → takes_fresh same kind (with_kind kinds x) p ≡ true → (c x.0).takes x.1 p ≡ (c x.0).takes x.1 m
  alike_clause kinds x p good e = alike x.0 x.1 p good.1 (known (with_kind kinds x) (kind p) e)

  -- the tests by classes are those by marks
  tests : ◌≡◌ {A = List K → List T → Bool} (λ kinds ts. begins G (takes_fresh same kind kinds) ts) (λ kinds ts. stands (fresh same class kinds) ts)
  tests = λ i kinds ts. sym (here kinds ts) i

  abbrev by_test : (List K → List T → Bool) → Reader T (List (K × C))
  by_test test = many_from test (λ kinds. branch (fresh same class kinds) clause) with_kind []

  pub clauses_law : Law G (clauses same class clause) (clauses_syntax same kind item c m) top
  clauses_law = subst (λ (test : List K → List T → Bool). Law G (by_test test) (clauses_syntax same kind item c m) top) tests (many_from_law (takes_fresh same kind) with_kind m alike_clause starts clause_law [])

  pub clauses_tail : Tail G (takes_fresh same kind []) is_given (clauses same class clause) (clauses_syntax same kind item c m) top
  clauses_tail = subst (λ (test : List K → List T → Bool). Tail G (takes_fresh same kind []) is_given (by_test test) (clauses_syntax same kind item c m) top) tests (many_from_tail (takes_fresh same kind) with_kind m alike_clause starts clause_law [])

  -- where there is too little room in one
  module _ (wide : ℕ) (le : top ≤ wide) (clause' : K → Reader T C) (WC : (k : K) → Law G (clause' k) (c k) wide) (DC : (k : K) → Deepens G (clause k) (c k) top wide) where
    wide_law : (kinds : List K) (ts : List T) → begins G (takes_fresh same kind kinds) ts ≡ true → Law G (branch (fresh same class kinds) clause') (clause_syntax same kind item c m kinds) wide
    wide_law kinds ts b =
        let k = one_left kinds ts (here kinds ts ∙ b) in
        branch_law (fresh_class kinds) wide (λ j allowed. omega (arith, low j)) k.0 k.1 clause' c (λ j allowed. WC j)

    clause_deepens : (kinds : List K) (ts : List T) → begins G (takes_fresh same kind kinds) ts ≡ true → Deepens G (branch (fresh same class kinds) clause) (clause_syntax same kind item c m kinds) top wide
    clause_deepens kinds ts b =
        let k = one_left kinds ts (here kinds ts ∙ b) in
        deepens_branch (fresh_class kinds) le (λ j allowed. low j) k.0 k.1 clause c (λ j allowed. LC j) (λ j allowed. DC j)

    pub deepens_clauses : Deepens G (clauses same class clause) (clauses_syntax same kind item c m) top wide
    deepens_clauses = subst (λ (test : List K → List T → Bool). Deepens G (by_test test) (clauses_syntax same kind item c m) top wide) tests (many_from_deepens (takes_fresh same kind) with_kind m alike_clause starts clause_law wide le wide_law clause_deepens [])
