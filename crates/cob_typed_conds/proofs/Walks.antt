-- Steps of the loops over the parts of a condition; conditions of one part.
use Rattle.std.proofs.Common.{ℕ, ◌≡◌, List, [], ◌∷◌, ◌++◌, ◌+◌, ◌<◌, ◌≤◌, drop, get_or, length, length-append, map, Option, None, refl, sym, ap, ◌∙◌, arith}
use Rattle.std.proofs.lemmas.List.{drop_all}
use Rattle.cob_tree.specs.declared.cond.Conj as declared_conj
use Rattle.cob_tree.specs.declared.cond.Neg as declared_neg
use Rattle.cob_tree.specs.Cond.{Cond, MkCond, Conj, MkConj, Neg, Conjs, no_conjs, more_conjs, conjs_of, Negs, no_negs, more_negs, negs_of}
use Rattle.cob_tree.specs.CondView.{plain_conj, plain_neg}
use Rattle.cob_program.proofs.Loops.{item_step}
use Rattle.cob_program.specs.declared.logic.Logic as declared_logic
use Rattle.cob_program.specs.LogicView.{plain_logic}
use Rattle.cob_program.specs.Logic.{Logic, any_of, all_of, logics_of}
use Rattle.cob_typed_exprs.specs.declared.finding.Finding.{Finding}
use Rattle.cob_typed_exprs.specs.Judged.{noted}
use Rattle.cob_typed_exprs.specs.Scope.{Scope}
use Rattle.cob_typed_conds.specs.Conditions.{Carry, any_or_one, all_or_one, walk_cond, walk_conj, walk_conjs, walk_neg, walk_negs}

alone : {A : Type 0} (xs ys : List A) (x : A) → xs ≡ ys ++ x ∷ [] → length xs ≡ 1 → xs ≡ x ∷ []
alone xs [] x made one = made
alone xs (y ∷ ys) x made one = absurd (omega (arith, ap length made, length-append ys (x ∷ [])))

pub any_of_one : (xs ys : List declared_logic.Logic) (x : declared_logic.Logic) → xs ≡ ys ++ x ∷ [] → length xs ≡ 1 → plain_logic x ≡ any_or_one (map plain_logic xs)
any_of_one xs ys x made one = ap (λ zs. any_or_one (map plain_logic zs)) (sym (alone xs ys x made one))

pub all_of_one : (xs ys : List declared_logic.Logic) (x : declared_logic.Logic) → xs ≡ ys ++ x ∷ [] → length xs ≡ 1 → plain_logic x ≡ all_or_one (map plain_logic xs)
all_of_one xs ys x made one = ap (λ zs. all_or_one (map plain_logic zs)) (sym (alone xs ys x made one))

pub any_of_many : (xs : List declared_logic.Logic) → (length xs ≡ 1 → ⊥) → any_of (logics_of (map plain_logic xs)) ≡ any_or_one (map plain_logic xs)
any_of_many [] more = refl
any_of_many (x ∷ []) more = absurd (more refl)
any_of_many (x ∷ y ∷ xs) more = refl

pub all_of_many : (xs : List declared_logic.Logic) → (length xs ≡ 1 → ⊥) → all_of (logics_of (map plain_logic xs)) ≡ all_or_one (map plain_logic xs)
all_of_many [] more = refl
all_of_many (x ∷ []) more = absurd (more refl)
all_of_many (x ∷ y ∷ xs) more = refl

-- ---- loops

abbrev pub conjs_from : List declared_conj.Conj → ℕ → Conjs
conjs_from xs i = conjs_of (map plain_conj (drop i xs))

abbrev pub negs_from : List declared_neg.Neg → ℕ → Negs
negs_from xs i = negs_of (map plain_neg (drop i xs))

pub conj_step : (xs : List declared_conj.Conj) (i : ℕ) (x : declared_conj.Conj) → i < length xs → x ≡ get_or xs i x → conjs_from xs i ≡ more_conjs (plain_conj x) (conjs_from xs (i + 1))
conj_step xs i x within is = ap (λ ys. conjs_of (map plain_conj ys)) (item_step xs i x within is)

pub conjs_end : (xs : List declared_conj.Conj) (i : ℕ) → length xs ≤ i → conjs_from xs i ≡ no_conjs
conjs_end xs i past = ap (λ ys. conjs_of (map plain_conj ys)) (drop_all i xs past)

pub neg_step : (xs : List declared_neg.Neg) (i : ℕ) (x : declared_neg.Neg) → i < length xs → x ≡ get_or xs i x → negs_from xs i ≡ more_negs (plain_neg x) (negs_from xs (i + 1))
neg_step xs i x within is = ap (λ ys. negs_of (map plain_neg ys)) (item_step xs i x within is)

pub negs_end : (xs : List declared_neg.Neg) (i : ℕ) → length xs ≤ i → negs_from xs i ≡ no_negs
negs_end xs i past = ap (λ ys. negs_of (map plain_neg ys)) (drop_all i xs past)

-- ---- what is made of the first one and of the others

pub first_and_others : (none one all : List declared_logic.Logic) (x : declared_logic.Logic) (v : Logic) (rest others : List Logic) → none ≡ [] → one ≡ none ++ x ∷ [] →
    plain_logic x ≡ v → map plain_logic all ≡ map plain_logic one ++ rest → rest ≡ others → map plain_logic all ≡ v ∷ others
first_and_others none one all x v rest others empty made seen grown same =
    grown ∙ ap (λ ys. map plain_logic ys ++ rest) (made ∙ ap (λ ys. ys ++ x ∷ []) empty) ∙ ap (λ y. y ∷ rest) seen ∙ ap (λ ys. v ∷ ys) same

module _ (s : Scope) (d : Cond) (c : Conj) (cs : Conjs) (is : d ≡ MkCond c cs) (k : Option Carry) (carry : k ≡ (walk_conj s None c).carry) where
  pub cond_value : (all : List Logic) → all ≡ (walk_conj s None c).logic.value ∷ (walk_conjs s k cs).logics.value → any_or_one all ≡ (walk_cond s d).value
  cond_value all made =
      ap any_or_one (made ∙ ap (λ j. (walk_conj s None c).logic.value ∷ (walk_conjs s j cs).logics.value) carry) ∙ ap (λ x. (walk_cond s x).value) (sym is)

  pub cond_noted : (line : ℕ) (old mid new : List Finding) → mid ≡ noted line old (walk_conj s None c).logic.broken → new ≡ noted line mid (walk_conjs s k cs).logics.broken →
      new ≡ noted line old (walk_cond s d).broken
  cond_noted line old mid new first rest =
      rest ∙ ap (λ fs. noted line fs (walk_conjs s k cs).logics.broken) first
      ∙ ap (λ j. noted line (noted line old (walk_conj s None c).logic.broken) (walk_conjs s j cs).logics.broken) carry ∙ ap (λ x. noted line old (walk_cond s x).broken) (sym is)

module _ (s : Scope) (b : Option Carry) (d : Conj) (n : Neg) (ns : Negs) (is : d ≡ MkConj n ns) (k : Option Carry) (carry : k ≡ (walk_neg s b n).carry) where
  pub conj_value : (all : List Logic) → all ≡ (walk_neg s b n).logic.value ∷ (walk_negs s k ns).logics.value → all_or_one all ≡ (walk_conj s b d).logic.value
  conj_value all made =
      ap all_or_one (made ∙ ap (λ j. (walk_neg s b n).logic.value ∷ (walk_negs s j ns).logics.value) carry) ∙ ap (λ x. (walk_conj s b x).logic.value) (sym is)

  pub conj_carry : (last : Option Carry) → last ≡ (walk_negs s k ns).carry → last ≡ (walk_conj s b d).carry
  conj_carry last given = given ∙ ap (λ j. (walk_negs s j ns).carry) carry ∙ ap (λ x. (walk_conj s b x).carry) (sym is)

  pub conj_noted : (line : ℕ) (old mid new : List Finding) → mid ≡ noted line old (walk_neg s b n).logic.broken → new ≡ noted line mid (walk_negs s k ns).logics.broken →
      new ≡ noted line old (walk_conj s b d).logic.broken
  conj_noted line old mid new first rest =
      rest ∙ ap (λ fs. noted line fs (walk_negs s k ns).logics.broken) first
      ∙ ap (λ j. noted line (noted line old (walk_neg s b n).logic.broken) (walk_negs s j ns).logics.broken) carry ∙ ap (λ x. noted line old (walk_conj s b x).logic.broken) (sym is)
