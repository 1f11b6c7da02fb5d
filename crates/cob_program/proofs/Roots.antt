-- The division that is the last operation of a sum.
use Rattle.std.proofs.Common.{◌≡◌, subst, ℕ, Bool, true, false, List, [], ◌∷◌, ◌++◌, length, map, Option, Some, None, is_some, if◌then◌else◌, refl, sym, ap, ◌∙◌}
use Rattle.std.specs.Option.{option_map}
use Rattle.std.proofs.lemmas.List.{map_push}
use Rattle.cob_program.specs.declared.sum.Part as declared_part
use Rattle.cob_program.specs.declared.sum.Factor as declared_factor
use Rattle.cob_program.specs.declared.sum.Factor.{out-Factor}
use Rattle.cob_program.specs.declared.root.Root as declared_root
use Rattle.cob_program.specs.Sum.{MkSum, more_parts, Parts, parts_of, Part, MkPart, Factors, no_factors, more_factors, factors_of, Factor, MkFactor, Atom}
use Rattle.cob_program.specs.SumView.{plain_part, plain_factor, plain_atom}
use Rattle.cob_program.specs.Values.{Root, behind_factor, root_in, root_of}
use Rattle.cob_program.specs.RootView.{root_with, plain_root}
use Rattle.cob_program.specs.Bounds.{Bound, exactly, is_small_product, is_small_atom, is_small_quotient}
use Rattle.cob_program.proofs.Steps.{both}
use Rattle.cob_program.proofs.SumLoops.{factor_is}

pub root_many : (p q : Part) (ps : Parts) → root_of (MkSum (more_parts p (more_parts q ps))) ≡ None
root_many (MkPart false fs) q ps = refl
root_many (MkPart true fs) q ps = refl

pub root_unless_one : (xs : List declared_part.Part) → (length xs ≡ 1 → ⊥) → None ≡ root_of (MkSum (parts_of (map plain_part xs)))
root_unless_one [] other = refl
root_unless_one (x ∷ []) other = absurd (other refl)
root_unless_one (x ∷ y ∷ xs) other = sym (root_many (plain_part x) (plain_part y) (parts_of (map plain_part xs)))

pub root_more : (f g : Factor) (gs : Factors) → root_in (more_factors f (more_factors g gs)) ≡ behind_factor f (root_in (more_factors g gs))
root_more (MkFactor true m a) g gs = refl
root_more (MkFactor false m a) g gs = refl

last_root : (over minus : Bool) (a : Atom) → root_in (more_factors (MkFactor over minus a) no_factors) ≡ (if over then Some (record { above = no_factors; minus = minus; below = a }) else None)
last_root true minus a = refl
last_root false minus a = refl

-- the root of factors with a last one
root_last : (xs : List Factor) (over minus : Bool) (a : Atom) →
    root_in (factors_of (xs ++ MkFactor over minus a ∷ [])) ≡ (if over then Some (record { above = factors_of xs; minus = minus; below = a }) else None)
root_last [] over minus a = last_root over minus a
root_last (x ∷ []) over minus a = root_more x (MkFactor over minus a) no_factors ∙ ap (behind_factor x) (last_root over minus a) ∙ behind over
  where
    behind : (b : Bool) → behind_factor x (if b then Some (record { above = no_factors; minus = minus; below = a }) else None) ≡ (if b then Some (record { above = factors_of (x ∷ []); minus = minus; below = a }) else None)
    behind true = refl
    behind false = refl
root_last (x ∷ y ∷ xs) over minus a =
    root_more x y (factors_of (xs ++ MkFactor over minus a ∷ [])) ∙ ap (behind_factor x) (root_last (y ∷ xs) over minus a) ∙ behind over
  where
    behind : (b : Bool) → behind_factor x (if b then Some (record { above = factors_of (y ∷ xs); minus = minus; below = a }) else None) ≡ (if b then Some (record { above = factors_of (x ∷ y ∷ xs); minus = minus; below = a }) else None)
    behind true = refl
    behind false = refl

abbrev root_when : Bool → Factors → Bool → Atom → Option Root
root_when over above minus a = if over then Some (record { above = above; minus = minus; below = a }) else None

root_split : (xs rest : List declared_factor.Factor) (x : declared_factor.Factor) → xs ≡ rest ++ x ∷ [] →
    root_in (factors_of (map plain_factor xs)) ≡ root_when (out-Factor x).over (factors_of (map plain_factor rest)) (out-Factor x).minus (plain_atom (out-Factor x).atom)
root_split xs rest x made =
    ap (λ ys. root_in (factors_of (map plain_factor ys))) made ∙ ap (λ ys. root_in (factors_of ys)) (map_push plain_factor rest x)
    ∙ ap (λ f. root_in (factors_of (map plain_factor rest ++ f ∷ []))) (factor_is x)
    ∙ root_last (map plain_factor rest) (out-Factor x).over (out-Factor x).minus (plain_atom (out-Factor x).atom)

pub root_over : (xs rest : List declared_factor.Factor) (x : declared_factor.Factor) → xs ≡ rest ++ x ∷ [] → (out-Factor x).over ≡ true →
    Some (root_with (factors_of (map plain_factor rest)) (plain_factor x)) ≡ root_in (factors_of (map plain_factor xs))
root_over xs rest x made over =
    ap (λ f. Some (root_with (factors_of (map plain_factor rest)) f)) (factor_is x)
    ∙ sym (root_split xs rest x made ∙ ap (λ b. root_when b (factors_of (map plain_factor rest)) (out-Factor x).minus (plain_atom (out-Factor x).atom)) over)

pub root_not_over : (xs rest : List declared_factor.Factor) (x : declared_factor.Factor) → xs ≡ rest ++ x ∷ [] → (out-Factor x).over ≡ false → None ≡ root_in (factors_of (map plain_factor xs))
root_not_over xs rest x made over =
    sym (root_split xs rest x made ∙ ap (λ b. root_when b (factors_of (map plain_factor rest)) (out-Factor x).minus (plain_atom (out-Factor x).atom)) over)

-- ---- what divides

pub divisor_is_small : (bound : ℕ → Bound) (r : declared_root.Root) → is_small_quotient bound (plain_root r) ≡ true → is_small_atom bound (plain_atom (out-Factor r.divisor.now).atom) ≡ true
divisor_is_small bound r h =
    let above = factors_of (map plain_factor r.dividend.now) in
    (both (is_small_product bound (exactly 1) above) (is_small_atom bound (plain_atom (out-Factor r.divisor.now).atom)) (subst (λ f. is_small_quotient bound (root_with above f) ≡ true) (factor_is r.divisor.now) h)).1

-- ---- whether there is one

mapped_there : (o : Option declared_root.Root) → is_some o ≡ is_some (option_map plain_root o)
mapped_there None = refl
mapped_there (Some r) = refl

pub root_there : (o : Option declared_root.Root) (r : Option Root) (there : Bool) → there ≡ is_some o → option_map plain_root o ≡ r → there ≡ is_some r
root_there o r there e is = e ∙ mapped_there o ∙ ap (λ x. is_some x) is
