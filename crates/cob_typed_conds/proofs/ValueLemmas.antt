-- What a condition is as a value behind WHEN.
use Rattle.std.proofs.Common.{◌≡◌, ◌==◌, Bool, true, false, List, [], ◌∷◌, length, map, Option, Some, None, refl, sym, ap, ◌∙◌, rules}
use Rattle.cob_tree.specs.declared.cond.Cond as declared_cond
use Rattle.cob_tree.specs.declared.cond.Cond.{out-Cond}
use Rattle.cob_tree.specs.declared.cond.Conj as declared_conj
use Rattle.cob_tree.specs.declared.cond.Conj.{out-Conj}
use Rattle.cob_tree.specs.declared.cond.Neg as declared_neg
use Rattle.cob_tree.specs.declared.cond.Neg.{out-Neg}
use Rattle.cob_tree.specs.declared.cond.Simple.TheFolds.{fold_out-Cond, fold_out-Conj, fold_out-Neg}
use Rattle.cob_tree.specs.Expr.{Expr}
use Rattle.cob_tree.specs.Cond.{MkCond, Conjs, no_conjs, more_conjs, conjs_of, Conj, MkConj, Negs, no_negs, more_negs, negs_of, Neg, MkNeg, Simple}
use Rattle.cob_tree.specs.Cond as cond
use Rattle.cob_tree.specs.CondView.{plain_cond, plain_conj, plain_neg, plain_simple}
use Rattle.cob_typed_conds.specs.Selections.{Value, plain_value, denied_value, no_value, value_in}
use Rattle.cob_typed_conds.specs.Operands.{alone_in}

abbrev pub value_if : Bool → Option Expr → Value
value_if not None = no_value
value_if true (Some e) = denied_value e
value_if false (Some e) = plain_value e

value_of_simple : (b : Bool) (s : Simple) → value_in (MkCond (MkConj (MkNeg b s) no_negs) no_conjs) ≡ value_if b (alone_in s)
value_of_simple true (cond.parenthesised c) = refl
value_of_simple true (cond.relation left not__ r right) = refl
value_of_simple true (cond.abbreviated not__ r right) = refl
value_of_simple true (cond.numeric value not__) = refl
value_of_simple true (cond.sign value not__ asked) = refl
value_of_simple true (cond.alone e) = refl
value_of_simple false (cond.parenthesised c) = refl
value_of_simple false (cond.relation left not__ r right) = refl
value_of_simple false (cond.abbreviated not__ r right) = refl
value_of_simple false (cond.numeric value not__) = refl
value_of_simple false (cond.sign value not__ asked) = refl
value_of_simple false (cond.alone e) = refl

more_than_one_neg : (n m : Neg) (ms : Negs) → value_in (MkCond (MkConj n (more_negs m ms)) no_conjs) ≡ no_value
more_than_one_neg (MkNeg true (cond.parenthesised c)) m ms = refl
more_than_one_neg (MkNeg true (cond.relation left not__ r right)) m ms = refl
more_than_one_neg (MkNeg true (cond.abbreviated not__ r right)) m ms = refl
more_than_one_neg (MkNeg true (cond.numeric value not__)) m ms = refl
more_than_one_neg (MkNeg true (cond.sign value not__ asked)) m ms = refl
more_than_one_neg (MkNeg true (cond.alone e)) m ms = refl
more_than_one_neg (MkNeg false (cond.parenthesised c)) m ms = refl
more_than_one_neg (MkNeg false (cond.relation left not__ r right)) m ms = refl
more_than_one_neg (MkNeg false (cond.abbreviated not__ r right)) m ms = refl
more_than_one_neg (MkNeg false (cond.numeric value not__)) m ms = refl
more_than_one_neg (MkNeg false (cond.sign value not__ asked)) m ms = refl
more_than_one_neg (MkNeg false (cond.alone e)) m ms = refl

more_than_one_conj : (c d : Conj) (ds : Conjs) → value_in (MkCond c (more_conjs d ds)) ≡ no_value
more_than_one_conj (MkConj (MkNeg true (cond.parenthesised x)) ns) d ds = refl
more_than_one_conj (MkConj (MkNeg true (cond.relation left not__ r right)) ns) d ds = refl
more_than_one_conj (MkConj (MkNeg true (cond.abbreviated not__ r right)) ns) d ds = refl
more_than_one_conj (MkConj (MkNeg true (cond.numeric value not__)) ns) d ds = refl
more_than_one_conj (MkConj (MkNeg true (cond.sign value not__ asked)) ns) d ds = refl
more_than_one_conj (MkConj (MkNeg true (cond.alone e)) no_negs) d ds = refl
more_than_one_conj (MkConj (MkNeg true (cond.alone e)) (more_negs m ms)) d ds = refl
more_than_one_conj (MkConj (MkNeg false (cond.parenthesised x)) ns) d ds = refl
more_than_one_conj (MkConj (MkNeg false (cond.relation left not__ r right)) ns) d ds = refl
more_than_one_conj (MkConj (MkNeg false (cond.abbreviated not__ r right)) ns) d ds = refl
more_than_one_conj (MkConj (MkNeg false (cond.numeric value not__)) ns) d ds = refl
more_than_one_conj (MkConj (MkNeg false (cond.sign value not__ asked)) ns) d ds = refl
more_than_one_conj (MkConj (MkNeg false (cond.alone e)) no_negs) d ds = refl
more_than_one_conj (MkConj (MkNeg false (cond.alone e)) (more_negs m ms)) d ds = refl

full : {A : Type 0} (x : A) (xs : List A) → (length (x ∷ xs) == 0) ≡ true → ⊥
full x xs e = let f : (length (x ∷ xs) == 0) ≡ false = search rules in let g : true ≡ false = sym e ∙ f in absurd cc

empty : true ≡ false → ⊥
empty e = absurd cc

pub value_of_neg : (n : declared_neg.Neg) → value_in (MkCond (MkConj (plain_neg n) no_negs) no_conjs) ≡ value_if (out-Neg n).not (alone_in (plain_simple (out-Neg n).simple))
value_of_neg n = ap (λ m. value_in (MkCond (MkConj m no_negs) no_conjs)) (fold_out-Neg _ _ _ _ _ _ _ _ n) ∙ value_of_simple (out-Neg n).not (plain_simple (out-Neg n).simple)

pub value_of_conj : (c : declared_conj.Conj) (xs : List declared_neg.Neg) → xs ≡ (out-Conj c).others.items → (length xs == 0) ≡ true →
    value_in (MkCond (MkConj (plain_neg (out-Conj c).first) no_negs) no_conjs) ≡ value_in (MkCond (plain_conj c) no_conjs)
value_of_conj c [] same none = sym (ap (λ d. value_in (MkCond d no_conjs)) (fold_out-Conj _ _ _ _ _ _ _ _ c) ∙ sym (ap (λ ns. value_in (MkCond (MkConj (plain_neg (out-Conj c).first) (negs_of (map plain_neg ns))) no_conjs)) same))
value_of_conj c (x ∷ xs) same none = absurd (full x xs none)

pub no_value_of_conj : (c : declared_conj.Conj) (xs : List declared_neg.Neg) → xs ≡ (out-Conj c).others.items → (length xs == 0) ≡ false → no_value ≡ value_in (MkCond (plain_conj c) no_conjs)
no_value_of_conj c [] same some = absurd (empty some)
no_value_of_conj c (x ∷ xs) same some =
    sym (ap (λ d. value_in (MkCond d no_conjs)) (fold_out-Conj _ _ _ _ _ _ _ _ c) ∙ sym (ap (λ ns. value_in (MkCond (MkConj (plain_neg (out-Conj c).first) (negs_of (map plain_neg ns))) no_conjs)) same)
    ∙ more_than_one_neg (plain_neg (out-Conj c).first) (plain_neg x) (negs_of (map plain_neg xs)))

pub value_of_cond : (c : declared_cond.Cond) (xs : List declared_conj.Conj) → xs ≡ (out-Cond c).others.items → (length xs == 0) ≡ true → value_in (MkCond (plain_conj (out-Cond c).first) no_conjs) ≡ value_in (plain_cond c)
value_of_cond c [] same none = sym (ap value_in (fold_out-Cond _ _ _ _ _ _ _ _ c) ∙ sym (ap (λ cs. value_in (MkCond (plain_conj (out-Cond c).first) (conjs_of (map plain_conj cs)))) same))
value_of_cond c (x ∷ xs) same none = absurd (full x xs none)

pub no_value_of_cond : (c : declared_cond.Cond) (xs : List declared_conj.Conj) → xs ≡ (out-Cond c).others.items → (length xs == 0) ≡ false → no_value ≡ value_in (plain_cond c)
no_value_of_cond c [] same some = absurd (empty some)
no_value_of_cond c (x ∷ xs) same some =
    sym (ap value_in (fold_out-Cond _ _ _ _ _ _ _ _ c) ∙ sym (ap (λ cs. value_in (MkCond (plain_conj (out-Cond c).first) (conjs_of (map plain_conj cs)))) same)
    ∙ more_than_one_conj (plain_conj (out-Cond c).first) (plain_conj x) (conjs_of (map plain_conj xs)))
