-- Steps of the loops over the products and the factors of a sum.
use Rattle.std.proofs.Common.{◌≡◌, ℕ, ◌+◌, ◌<◌, List, [], ◌∷◌, ◌++◌, if◌then◌else◌, length, get_or, drop, map, refl, ap, ◌∙◌}
use Rattle.std.proofs.lemmas.List.{map-append}
use Rattle.cob_program.specs.declared.sum.Part as declared_part
use Rattle.cob_program.specs.declared.sum.Factor as declared_factor
use Rattle.cob_program.specs.declared.sum.Factor.{out-Factor}
use Rattle.cob_program.specs.declared.sum.Atom.TheFolds.{fold_out-Factor}
use Rattle.cob_program.specs.Sum.{Parts, parts_of, Part, MkPart, more_parts, Factors, factors_of, Factor, MkFactor, more_factors}
use Rattle.cob_program.specs.SumView.{plain_part, plain_factor, plain_atom}
use Rattle.cob_program.proofs.Loops.{item_step}
use Rattle.cob_runs.specs.Computing.{items_in_parts, items_in_factors, items_in_atom}
use Rattle.cob_edge_parts.specs.Parts as edge
use Rattle.cob_edge_parts.specs.Parts.{item_reads, divides, divisors_in_parts, divisors_in_factors, divisors_in_atom}
use Rattle.edge_parts.specs.Pieces.{factor_divisors, product_divisors, product_items}

abbrev pub factors_from : List declared_factor.Factor → ℕ → Factors
factors_from xs i = factors_of (map plain_factor (drop i xs))

abbrev pub products_from : List declared_part.Part → ℕ → Parts
products_from xs i = parts_of (map plain_part (drop i xs))

factor_is : (f : declared_factor.Factor) →
    plain_factor f ≡ MkFactor (out-Factor f).over (out-Factor f).minus (plain_atom (out-Factor f).atom)
factor_is f = fold_out-Factor _ _ _ _ _ _ _ _ f

factors_step : (xs : List declared_factor.Factor) (i : ℕ) (x : declared_factor.Factor) → i < length xs →
    x ≡ get_or xs i x → factors_from xs i ≡ more_factors (plain_factor x) (factors_from xs (i + 1))
factors_step xs i x within is = ap (λ ys. factors_of (map plain_factor ys)) (item_step xs i x within is)

products_step : (xs : List declared_part.Part) (i : ℕ) (x : declared_part.Part) → i < length xs →
    x ≡ get_or xs i x → products_from xs i ≡ more_parts (plain_part x) (products_from xs (i + 1))
products_step xs i x within is = ap (λ ys. parts_of (map plain_part ys)) (item_step xs i x within is)

-- ---- items

pub factor_reads_first : (xs : List declared_factor.Factor) (i : ℕ) (x : declared_factor.Factor) → i < length xs →
    x ≡ get_or xs i x → item_reads (items_in_factors (factors_from xs i))
    ≡ item_reads (items_in_atom (plain_atom (out-Factor x).atom)) ++ item_reads (items_in_factors (factors_from xs (i + 1)))
factor_reads_first xs i x within is =
    let rest = factors_from xs (i + 1) in
    ap (λ fs. item_reads (items_in_factors fs)) (factors_step xs i x within is)
    ∙ (ap (λ f. item_reads (items_in_factors (more_factors f rest))) (factor_is x)
    ∙ map-append edge.read (items_in_atom (plain_atom (out-Factor x).atom)) (items_in_factors rest))

more_items : (p : Part) (ps : Parts) → items_in_parts (more_parts p ps) ≡ product_items p ++ items_in_parts ps
more_items (MkPart minus fs) ps = refl

pub product_reads_first : (xs : List declared_part.Part) (i : ℕ) (x : declared_part.Part) → i < length xs →
    x ≡ get_or xs i x → item_reads (items_in_parts (products_from xs i))
    ≡ item_reads (product_items (plain_part x)) ++ item_reads (items_in_parts (products_from xs (i + 1)))
product_reads_first xs i x within is =
    let rest = products_from xs (i + 1) in
    ap (λ ps. item_reads (items_in_parts ps)) (products_step xs i x within is)
    ∙ (ap item_reads (more_items (plain_part x) rest)
    ∙ map-append edge.read (product_items (plain_part x)) (items_in_parts rest))

-- ---- divisors

more_divisors : (f : Factor) (fs : Factors) →
    divisors_in_factors (more_factors f fs) ≡ factor_divisors f ++ divisors_in_factors fs
more_divisors (MkFactor over minus a) fs = refl

pub factor_divisors_first : (xs : List declared_factor.Factor) (i : ℕ) (x : declared_factor.Factor) → i < length xs →
    x ≡ get_or xs i x → divides (divisors_in_factors (factors_from xs i))
    ≡ divides (factor_divisors (plain_factor x)) ++ divides (divisors_in_factors (factors_from xs (i + 1)))
factor_divisors_first xs i x within is =
    let rest = factors_from xs (i + 1) in
    ap (λ fs. divides (divisors_in_factors fs)) (factors_step xs i x within is)
    ∙ (ap divides (more_divisors (plain_factor x) rest)
    ∙ map-append edge.divide (factor_divisors (plain_factor x)) (divisors_in_factors rest))

more_product_divisors : (p : Part) (ps : Parts) →
    divisors_in_parts (more_parts p ps) ≡ product_divisors p ++ divisors_in_parts ps
more_product_divisors (MkPart minus fs) ps = refl

pub product_divisors_first : (xs : List declared_part.Part) (i : ℕ) (x : declared_part.Part) → i < length xs →
    x ≡ get_or xs i x → divides (divisors_in_parts (products_from xs i))
    ≡ divides (product_divisors (plain_part x)) ++ divides (divisors_in_parts (products_from xs (i + 1)))
product_divisors_first xs i x within is =
    let rest = products_from xs (i + 1) in
    ap (λ ps. divides (divisors_in_parts ps)) (products_step xs i x within is)
    ∙ (ap divides (more_product_divisors (plain_part x) rest)
    ∙ map-append edge.divide (product_divisors (plain_part x)) (divisors_in_parts rest))

-- the divisors of a factor
pub own_divisors : (f : declared_factor.Factor) → divides (factor_divisors (plain_factor f))
    ≡ divides (divisors_in_atom (plain_atom (out-Factor f).atom))
    ++ divides (if (out-Factor f).over then plain_atom (out-Factor f).atom ∷ [] else [])
own_divisors f = ap (λ g. divides (factor_divisors g)) (factor_is f)
    ∙ map-append edge.divide (divisors_in_atom (plain_atom (out-Factor f).atom)) (if (out-Factor f).over then plain_atom (out-Factor f).atom ∷ [] else [])
