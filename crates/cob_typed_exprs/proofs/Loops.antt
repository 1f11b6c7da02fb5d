-- Steps of the loops over the parts of an expression: what is left gives the whole.
use Rattle.std.proofs.Common.{ℕ, ◌+◌, ◌≡◌, ◌<◌, ◌≤◌, ◌==◌, Bool, false, if◌then◌else◌, None, List, [], ◌∷◌, ◌++◌, length, map, drop, get_or, refl, sym, ap, ◌∙◌, rules}
use Rattle.std.proofs.lemmas.List.{drop_all, map_push, append_assoc}
use Rattle.cob_tree.specs.declared.expr.Sign.{Sign}
use Rattle.cob_tree.specs.declared.expr.Scaling.{Scaling}
use Rattle.cob_tree.specs.declared.expr.Expr as declared_expr
use Rattle.cob_tree.specs.declared.expr.Expr.{out-Expr}
use Rattle.cob_tree.specs.declared.expr.Term as declared_term
use Rattle.cob_tree.specs.declared.expr.Term.{out-Term}
use Rattle.cob_tree.specs.declared.expr.Fact as declared_fact
use Rattle.cob_tree.specs.declared.expr.Primary.TheFolds.{fold_out-Expr, fold_out-Term}
use Rattle.cob_tree.specs.Expr.{Expr, MkExpr, Term, MkTerm, Terms, no_terms, more_terms, Fact, Facts, no_facts, more_facts, terms_of, facts_of}
use Rattle.cob_tree.specs.ExprView.{plain_expr, plain_term, plain_fact, added, multiplied}
use Rattle.cob_program.specs.Sum.{MkSum, parts_of, Part, MkPart, factors_of, Factor}
use Rattle.cob_program.proofs.Loops.{item_step}
use Rattle.cob_typed_exprs.specs.declared.finding.Finding.{Finding}
use Rattle.cob_typed_exprs.specs.Judged.{noted}
use Rattle.cob_typed_exprs.specs.Scope.{Scope}
use Rattle.cob_typed_exprs.specs.Sums.{none_added, none_multiplied, lone, lone_term, lone_fact, inside, inside_term, inside_fact, sum_of, part_of, parts_in, factor_of, factors_in}

-- the terms from a place on, and the factors
abbrev pub terms_from : List (Sign × declared_term.Term) → ℕ → Terms
terms_from xs i = terms_of (map added (drop i xs))

abbrev pub facts_from : List (Scaling × declared_fact.Fact) → ℕ → Facts
facts_from xs i = facts_of (map multiplied (drop i xs))

pub term_step : (xs : List (Sign × declared_term.Term)) (i : ℕ) (x : Sign × declared_term.Term) → i < length xs → x ≡ get_or xs i x → terms_from xs i ≡ more_terms x.0 (plain_term x.1) (terms_from xs (i + 1))
term_step xs i x within is = ap (λ ys. terms_of (map added ys)) (item_step xs i x within is)

pub terms_end : (xs : List (Sign × declared_term.Term)) (i : ℕ) → length xs ≤ i → terms_from xs i ≡ no_terms
terms_end xs i past = ap (λ ys. terms_of (map added ys)) (drop_all i xs past)

pub fact_step : (xs : List (Scaling × declared_fact.Fact)) (i : ℕ) (x : Scaling × declared_fact.Fact) → i < length xs → x ≡ get_or xs i x → facts_from xs i ≡ more_facts x.0 (plain_fact x.1) (facts_from xs (i + 1))
fact_step xs i x within is = ap (λ ys. facts_of (map multiplied ys)) (item_step xs i x within is)

pub facts_end : (xs : List (Scaling × declared_fact.Fact)) (i : ℕ) → length xs ≤ i → facts_from xs i ≡ no_facts
facts_end xs i past = ap (λ ys. facts_of (map multiplied ys)) (drop_all i xs past)

-- ---- what an expression and a term are made of

pub expr_is : (e : declared_expr.Expr) → plain_expr e ≡ MkExpr (plain_term (out-Expr e).first) (terms_of (map added (out-Expr e).others.items))
expr_is e = fold_out-Expr _ _ _ _ _ _ _ _ e

pub term_is : (t : declared_term.Term) → plain_term t ≡ MkTerm (plain_fact (out-Term t).first) (facts_of (map multiplied (out-Term t).others.items))
term_is t = fold_out-Term _ _ _ _ _ _ _ _ t

pub inside_of : (e : declared_expr.Expr) (b : Bool) (xs : List (Sign × declared_term.Term)) → b ≡ none_added (terms_of (map added xs)) → xs ≡ (out-Expr e).others.items →
    inside (plain_expr e) ≡ (if b then inside_term (plain_term (out-Expr e).first) else None)
inside_of e b xs told same =
    ap inside (expr_is e) ∙ ap (λ x. if x then inside_term (plain_term (out-Expr e).first) else None) (sym (told ∙ ap (λ ys. none_added (terms_of (map added ys))) same))

pub inside_term_of : (t : declared_term.Term) (b : Bool) (xs : List (Scaling × declared_fact.Fact)) → b ≡ none_multiplied (facts_of (map multiplied xs)) → xs ≡ (out-Term t).others.items →
    inside_term (plain_term t) ≡ (if b then inside_fact (plain_fact (out-Term t).first) else None)
inside_term_of t b xs told same =
    ap inside_term (term_is t) ∙ ap (λ x. if x then inside_fact (plain_fact (out-Term t).first) else None) (sym (told ∙ ap (λ ys. none_multiplied (facts_of (map multiplied ys))) same))

pub lone_of : (e : declared_expr.Expr) (b : Bool) (xs : List (Sign × declared_term.Term)) → b ≡ none_added (terms_of (map added xs)) → xs ≡ (out-Expr e).others.items →
    lone (plain_expr e) ≡ (if b then lone_term (plain_term (out-Expr e).first) else None)
lone_of e b xs told same =
    ap lone (expr_is e) ∙ ap (λ x. if x then lone_term (plain_term (out-Expr e).first) else None) (sym (told ∙ ap (λ ys. none_added (terms_of (map added ys))) same))

pub lone_term_of : (t : declared_term.Term) (b : Bool) (xs : List (Scaling × declared_fact.Fact)) → b ≡ none_multiplied (facts_of (map multiplied xs)) → xs ≡ (out-Term t).others.items →
    lone_term (plain_term t) ≡ (if b then lone_fact (plain_fact (out-Term t).first) else None)
lone_term_of t b xs told same =
    ap lone_term (term_is t) ∙ ap (λ x. if x then lone_fact (plain_fact (out-Term t).first) else None) (sym (told ∙ ap (λ ys. none_multiplied (facts_of (map multiplied ys))) same))

-- what is seen so far and what is left give the whole, with one more
pub pushed : {A B : Type 0} (f : A → B) (old new : List A) (x : A) (v : B) (rest whole : List B) → new ≡ old ++ x ∷ [] → f x ≡ v → map f old ++ v ∷ rest ≡ whole → map f new ++ rest ≡ whole
pushed f old new x v rest whole made seen all =
    ap (λ ys. map f ys ++ rest) made ∙ ap (λ ys. ys ++ rest) (map_push f old x) ∙ append_assoc (map f old) (f x ∷ []) rest
    ∙ ap (λ y. map f old ++ y ∷ rest) seen ∙ all

pub none_added_is : (xs : List (Sign × declared_term.Term)) → (length xs == 0) ≡ none_added (terms_of (map added xs))
none_added_is [] = refl
none_added_is (x ∷ xs) = search rules

pub none_multiplied_is : (xs : List (Scaling × declared_fact.Fact)) → (length xs == 0) ≡ none_multiplied (facts_of (map multiplied xs))
none_multiplied_is [] = refl
none_multiplied_is (x ∷ xs) = search rules

pub sum_noted : (s : Scope) (e : Expr) (t : Term) (ts : Terms) (line : ℕ) (old mid new : List Finding) → e ≡ MkExpr t ts → mid ≡ noted line old (part_of s false t).broken → new ≡ noted line mid (parts_in s ts).broken → new ≡ noted line old (sum_of s e).broken
sum_noted s e t ts line old mid new is first rest =
    rest ∙ ap (λ fs. noted line fs (parts_in s ts).broken) first ∙ ap (λ x. noted line old (sum_of s x).broken) (sym is)

pub part_noted : (s : Scope) (minus : Bool) (t : Term) (f : Fact) (fs : Facts) (line : ℕ) (old mid new : List Finding) → t ≡ MkTerm f fs → mid ≡ noted line old (factor_of s false f).broken → new ≡ noted line mid (factors_in s fs).broken → new ≡ noted line old (part_of s minus t).broken
part_noted s minus t f fs line old mid new is first rest =
    rest ∙ ap (λ xs. noted line xs (factors_in s fs).broken) first ∙ ap (λ x. noted line old (part_of s minus x).broken) (sym is)

-- ---- what is made of the first one and of the others

pub first_and_others : {A B : Type 0} (f : A → B) (none one all : List A) (x : A) (v : B) (rest others : List B) → none ≡ [] → one ≡ none ++ x ∷ [] → f x ≡ v →
    map f all ≡ map f one ++ rest → rest ≡ others → map f all ≡ v ∷ others
first_and_others f none one all x v rest others empty made seen grown same =
    grown ∙ ap (λ ys. map f ys ++ rest) (made ∙ ap (λ ys. ys ++ x ∷ []) empty) ∙ ap (λ y. y ∷ rest) seen ∙ ap (λ ys. v ∷ ys) same

pub part_value : (s : Scope) (minus : Bool) (t : Term) (f : Fact) (fs : Facts) (all : List Factor) → t ≡ MkTerm f fs →
    all ≡ (factor_of s false f).value ∷ (factors_in s fs).value → MkPart minus (factors_of all) ≡ (part_of s minus t).value
part_value s minus t f fs all is made = ap (λ xs. MkPart minus (factors_of xs)) made ∙ ap (λ x. (part_of s minus x).value) (sym is)

pub sum_value : (s : Scope) (e : Expr) (t : Term) (ts : Terms) (all : List Part) → e ≡ MkExpr t ts →
    all ≡ (part_of s false t).value ∷ (parts_in s ts).value → MkSum (parts_of all) ≡ (sum_of s e).value
sum_value s e t ts all is made = ap (λ xs. MkSum (parts_of xs)) made ∙ ap (λ x. (sum_of s x).value) (sym is)
