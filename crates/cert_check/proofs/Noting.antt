-- What nodes clear, noted at their statements one node after another.
use Rattle.std.proofs.Common.{◌≡◌, ℕ, zero, suc, ◌+◌, ◌-◌, ◌≤◌, ◌<◌, ◌==◌, ◌&&◌, List, [], ◌∷◌, ◌++◌, length, take, drop, get_or, slice_set, replicate, Bool, true, false, if◌then◌else◌, refl, sym, ap, ◌∙◌, subst, arith}
use Rattle.std.specs.Prelude.{◌||◌, not}
use Rattle.std.specs.List.{flat_map, list_all, range_with_len}
use Rattle.std.proofs.lemmas.Bool.{eq-eqb, eqb-true}
use Rattle.std.proofs.lemmas.List.{length-set, get_or-set_same, get_or-set_other, get_or-replicate, get_or_default, length-replicate, append_assoc}
use Rattle.cob_tree.specs.declared.fault.Kind.{Kind}
use Rattle.cob_tree.specs.declared.fault.Open.{Open}
use Rattle.cob_tree.specs.declared.kinds.Kinds.{Kinds}
use Rattle.cob_tree.specs.Kinds.{has, kinds_of, every_kind, both}
use Rattle.cob_tree.proofs.KindLaws.{has_kinds_of, same_kinds}
use Rattle.cob_graph.specs.declared.graph.Graph.{Graph}
use Rattle.cob_program.proofs.Loops.{item_step, added}
use Rattle.cell_laws.specs.Layer.{statement_at}
use Rattle.cert_check.specs.OpenPairs.{if_open, node_clears_by, opens_by}
use Rattle.cert_check.specs.Clearing.{left_of, left_open, IsNoted, cleared_to, AreClearedTo}

-- ---- one note

apart : (statement k : ℕ) → 1 ≤ statement → (statement == suc k) ≡ false → k ≡ statement - 1 → ⊥
apart statement k l e f =
    let is : statement ≡ suc k = omega (arith, l, f) in
    absurd (cc (sym (eq-eqb statement (suc k) is) ∙ e))

set_there : (old : List Kinds) (i k : ℕ) (cleared d : Kinds) → i ≡ k → k < length old →
    get_or (slice_set old i (both (get_or old i d) cleared)) k every_kind ≡ both (get_or old k every_kind) cleared
set_there old i k cleared d f l =
    subst (λ j. get_or (slice_set old j (both (get_or old j d) cleared)) k every_kind ≡ both (get_or old k every_kind) cleared) (sym f)
    (get_or-set_same old k (both (get_or old k d) cleared) every_kind l ∙ ap (λ x. both x cleared) (get_or_default old k d every_kind l))

pub noted_at : (statement : ℕ) (cleared : Kinds) (old : List Kinds) (d : Kinds) → 1 ≤ statement → statement ≤ length old →
    IsNoted statement cleared old (slice_set old (statement - 1) (both (get_or old (statement - 1) d) cleared))
noted_at statement cleared old d l h = record {
  count = length-set old (statement - 1) (both (get_or old (statement - 1) d) cleared);
  each = λ k within. each k within (statement == suc k) refl;
}
  where
    each : (k : ℕ) → k < length old → (b : Bool) → (statement == suc k) ≡ b →
        get_or (slice_set old (statement - 1) (both (get_or old (statement - 1) d) cleared)) k every_kind
        ≡ (if b then both (get_or old k every_kind) cleared else get_or old k every_kind)
    each k within true e =
        let is : statement ≡ suc k = eqb-true statement (suc k) e in
        set_there old (statement - 1) k cleared d (omega (arith, is)) within
    each k within false e =
        get_or-set_other old (statement - 1) k (both (get_or old (statement - 1) d) cleared) every_kind (apart statement k l e)

pub not_noted : (statement : ℕ) (cleared : Kinds) (old : List Kinds) → (1 ≤ statement → statement ≤ length old → ⊥) →
    IsNoted statement cleared old old
not_noted statement cleared old none = record { count = refl; each = λ k within. each k within (statement == suc k) refl }
  where
    each : (k : ℕ) → k < length old → (b : Bool) → (statement == suc k) ≡ b →
        get_or old k every_kind ≡ (if b then both (get_or old k every_kind) cleared else get_or old k every_kind)
    each k within false e = refl
    each k within true e =
        let is : statement ≡ suc k = eqb-true statement (suc k) e in
        absurd (none (omega (arith, is)) (omega (arith, is, within)))

-- ---- ranges of one number more

and_true : (b : Bool) → (b && true) ≡ b
and_true true = refl
and_true false = refl

and_assoc : (a b c : Bool) → (a && (b && c)) ≡ ((a && b) && c)
and_assoc true b c = refl
and_assoc false b c = refl

all_more : (f : ℕ → Bool) (first count j : ℕ) → first + count ≡ j →
    list_all f (range_with_len first (suc count)) ≡ (list_all f (range_with_len first count) && f j)
all_more f first zero j e = and_true (f first) ∙ ap f (let same : first ≡ j = omega (arith, e) in same)
all_more f first (suc count) j e =
    ap (λ b. f first && b) (all_more f (first + 1) count j (omega (arith, e)))
    ∙ and_assoc (f first) (list_all f (range_with_len (first + 1) count)) (f j)

flat_more : {A : Type 0} (f : ℕ → List A) (first count j : ℕ) → first + count ≡ j →
    flat_map f (range_with_len first (suc count)) ≡ flat_map f (range_with_len first count) ++ f j
flat_more f first zero j e = append_none (f first) ∙ ap f (let same : first ≡ j = omega (arith, e) in same)
  where
    append_none : {A : Type 0} (xs : List A) → xs ++ [] ≡ xs
    append_none [] = refl
    append_none (x ∷ xs) = ap (λ ys. x ∷ ys) (append_none xs)
flat_more f first (suc count) j e =
    ap (λ xs. f first ++ xs) (flat_more f (first + 1) count j (omega (arith, e)))
    ∙ sym (append_assoc (f first) (flat_map f (range_with_len (first + 1) count)) (f j))

-- ---- one kind after another

pub pushed_kind : (new old : List Open) (cleared : Kinds) (statement : ℕ) (kinds : List Kind) (i : ℕ) (x : Kind) (b : Bool) (all : List Open) →
    i < length kinds → x ≡ get_or kinds i x → b ≡ has cleared x → new ≡ old ++ if_open b statement x →
    old ++ left_of cleared statement (drop i kinds) ≡ all → new ++ left_of cleared statement (drop (i + 1) kinds) ≡ all
pushed_kind new old cleared statement kinds i x b all within is told grown whole =
    added old new (if_open (has cleared x) statement x) (left_of cleared statement (drop (i + 1) kinds)) all (left_of cleared statement (drop i kinds))
    (grown ∙ ap (λ y. old ++ if_open y statement x) told) (ap (left_of cleared statement) (item_step kinds i x within is)) whole

-- ---- one more node

with_kind : (b : Bool) (x : Kinds) (test : Kind → Bool) (fault : Kind) →
    has (if b then both x (kinds_of test) else x) fault ≡ (has x fault && (not b || test fault))
with_kind true x test fault =
    has_kinds_of (λ kind. has x kind && has (kinds_of test) kind) fault ∙ ap (λ c. has x fault && c) (has_kinds_of test fault)
with_kind false x test fault = sym (and_true (has x fault))

module _ (g : Graph) (clears : ℕ → Kind → Bool) where
  one_more : (n s : ℕ) →
      (if statement_at g (suc n) == s then both (cleared_to g clears n s) (kinds_of (clears (suc n))) else cleared_to g clears n s)
      ≡ cleared_to g clears (suc n) s
  one_more n s = same_kinds _ _ (λ fault.
      with_kind (statement_at g (suc n) == s) (cleared_to g clears n s) (clears (suc n)) fault
      ∙ ap (λ b. b && node_clears_by g clears s fault (suc n)) (has_kinds_of (λ kind. list_all (node_clears_by g clears s kind) (range_with_len 1 n)) fault)
      ∙ sym (all_more (node_clears_by g clears s fault) 1 n (suc n) (omega arith))
      ∙ sym (has_kinds_of (λ kind. list_all (node_clears_by g clears s kind) (range_with_len 1 (suc n))) fault))

  pub noted_more : (n statement : ℕ) (old new : List Kinds) → AreClearedTo g clears n old → statement ≡ statement_at g (suc n) →
      IsNoted statement (kinds_of (clears (suc n))) old new → AreClearedTo g clears (suc n) new
  noted_more n statement old new are e noted = record {
    each = λ k within.
        let within_old : k < length old = subst (λ m. k < m) noted.count within in
        noted.each k within_old
        ∙ ap (λ x. if statement == suc k then both x (kinds_of (clears (suc n))) else x) (are.each k within_old)
        ∙ ap (λ m. if m == suc k then both (cleared_to g clears n (suc k)) (kinds_of (clears (suc n))) else cleared_to g clears n (suc k)) e
        ∙ one_more n (suc k);
  }

  pub none_noted : (count : ℕ) → AreClearedTo g clears 0 (replicate count every_kind)
  none_noted count = record {
    each = λ k within. get_or-replicate count k every_kind every_kind (subst (λ m. k < m) (length-replicate count every_kind) within);
  }

  -- the pairs of one more statement
  pub pairs_more : (k : ℕ) (pairs : List Open) (noted : List Kinds) (x : Kinds) → AreClearedTo g clears (length g.nodes) noted →
      k < length noted → x ≡ get_or noted k every_kind → pairs ≡ flat_map (opens_by g clears) (range_with_len 1 k) →
      pairs ++ left_open x (suc k) ≡ flat_map (opens_by g clears) (range_with_len 1 (suc k))
  pairs_more k pairs noted x are within e f =
      ap (λ ps. ps ++ left_open x (suc k)) f
      ∙ ap (λ y. flat_map (opens_by g clears) (range_with_len 1 k) ++ left_open y (suc k)) (e ∙ are.each k within)
      ∙ sym (flat_more (opens_by g clears) 1 k (suc k) (omega arith))

  -- the law of one node more, with the next number as a variable
  pub noted_next : (n m statement : ℕ) (cleared : Kinds) (old new : List Kinds) → AreClearedTo g clears n old → m ≡ suc n →
      statement ≡ statement_at g m → cleared ≡ kinds_of (clears m) → IsNoted statement cleared old new → AreClearedTo g clears m new
  noted_next n m statement cleared old new are f e is noted =
      subst (λ k. AreClearedTo g clears k new) (sym f)
      (noted_more n statement old new are (e ∙ ap (statement_at g) f)
      (subst (λ x. IsNoted statement x old new) (is ∙ ap (λ k. kinds_of (clears k)) f) noted))

  pub pairs_next : (k j : ℕ) (old new : List Open) (noted : List Kinds) (x d : Kinds) → AreClearedTo g clears (length g.nodes) noted →
      j ≡ suc k → k < length noted → x ≡ get_or noted k d → old ≡ flat_map (opens_by g clears) (range_with_len 1 k) →
      new ≡ old ++ left_open x j → new ≡ flat_map (opens_by g clears) (range_with_len 1 j)
  pairs_next k j old new noted x d are f within e before after =
      after ∙ ap (λ m. old ++ left_open x m) f
      ∙ pairs_more k old noted x are within (e ∙ get_or_default noted k d every_kind within) before
      ∙ ap (λ m. flat_map (opens_by g clears) (range_with_len 1 m)) (sym f)

-- a slice that is written back into its vector
pub written_back : {A : Type 0} (xs items : List A) (n : ℕ) → n ≡ length xs → take n (xs ++ drop (length xs) items) ≡ xs
written_back xs items n e = ap (λ m. take m (xs ++ drop (length xs) items)) e ∙ whole xs (drop (length xs) items)
  where
    whole : {A : Type 0} (xs ys : List A) → take (length xs) (xs ++ ys) ≡ xs
    whole [] ys = refl
    whole (x ∷ xs) ys = ap (λ zs. x ∷ zs) (whole xs ys)
