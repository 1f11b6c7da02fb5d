-- Of what keeps the rule of bounds, the bound itself is small.
use Rattle.std.proofs.Common.{◌≡◌, ℕ, ◌≤◌, ◌&&◌, true, Option, Some, None, refl, arith}
use Rattle.std.specs.Prelude.{nat_le}
use Rattle.std.proofs.lemmas.Bool.Decides.{nat_tests}
use Rattle.cob_program.specs.Sum.{Sum, MkSum, Parts, no_parts, more_parts, Part, MkPart, Factors, no_factors, more_factors, MkFactor, Atom, item, number, group}
use Rattle.cob_program.specs.Values.{◌>>=◌}
use Rattle.cob_program.specs.Bounds.{Bound, exactly, sum_bound, factor_bound, is_small, sum_most, sum_most_from, part_most, product_most_from, atom_most, is_small_sum, is_small_sum_from, is_small_part, is_small_product, is_small_atom}
use Rattle.cob_program.proofs.Steps.{both}

pub bind_bind : {A B C : Type 0} (x : Option A) (f : A → Option B) (g : B → Option C) → (x >>= λ a. f a >>= g) ≡ ((x >>= f) >>= g)
bind_bind None f g = refl
bind_bind (Some a) f g = refl

pub at_most : (a b : ℕ) → nat_le a b ≡ true → a ≤ b
at_most a b e = grind (arith, nat_tests)

pub one_is_small : is_small (exactly 1) ≡ true
one_is_small = refl

pub none_is_small : is_small (exactly 0) ≡ true
none_is_small = refl

-- the bound of what is small so far and goes on so
small_product_most : (bound : ℕ → Bound) (a : Bound) (fs : Factors) → is_small a ≡ true → is_small_product bound a fs ≡ true → is_small (product_most_from bound a fs) ≡ true
small_product_most bound a no_factors s e = s
small_product_most bound a (more_factors (MkFactor over minus atom) fs) s e =
    let next = factor_bound over a (atom_most bound atom) in
    let l = both (is_small_atom bound atom) (is_small next && is_small_product bound next fs) e in
    let m = both (is_small next) (is_small_product bound next fs) l.1 in
    small_product_most bound next fs m.0 m.1

small_sum_most : (bound : ℕ → Bound) (a : Bound) (ps : Parts) → is_small a ≡ true → is_small_sum_from bound a ps ≡ true → is_small (sum_most_from bound a ps) ≡ true
small_sum_most bound a no_parts s e = s
small_sum_most bound a (more_parts p ps) s e =
    let next = sum_bound a (part_most bound p) in
    let l = both (is_small_part bound p) (is_small next && is_small_sum_from bound next ps) e in
    let m = both (is_small next) (is_small_sum_from bound next ps) l.1 in
    small_sum_most bound next ps m.0 m.1

pub small_part_most : (bound : ℕ → Bound) (p : Part) → is_small_part bound p ≡ true → is_small (part_most bound p) ≡ true
small_part_most bound (MkPart minus fs) e = small_product_most bound (exactly 1) fs one_is_small e

pub small_atom_most : (bound : ℕ → Bound) (a : Atom) → is_small_atom bound a ≡ true → is_small (atom_most bound a) ≡ true
small_atom_most bound (item place) e = e
small_atom_most bound (number n) e = e
small_atom_most bound (group (MkSum ps)) e = small_sum_most bound (exactly 0) ps none_is_small e

pub small_sum_bound : (bound : ℕ → Bound) (s : Sum) → is_small_sum bound s ≡ true → is_small (sum_most bound s) ≡ true
small_sum_bound bound (MkSum ps) e = small_sum_most bound (exactly 0) ps none_is_small e
