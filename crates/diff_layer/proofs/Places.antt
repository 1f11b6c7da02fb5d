-- The place of a home in a pack.
use Rattle.std.proofs.Common.{◌≡◌, ℕ, suc, ◌<◌, Bool, true, false, if◌then◌else◌, [], ◌∷◌, length, Option, Some, None, refl, ap, ◌∙◌, arith}
use Rattle.std.specs.Prelude.{IfSome}
use Rattle.std.specs.Option.{option_map}
use Rattle.cob_graph.specs.declared.homes.Home.{Home}
use Rattle.cob_graph.specs.Homes.{is_home}
use Rattle.diff_steps.specs.Packs.{Pack, cell_of}

-- the place of a cell in a pack, counted from a number on
abbrev pub place_from : ℕ → Home → Pack → Option ℕ
place_from n home [] = None
place_from n home (h ∷ hs) = if is_home h home then Some n else place_from (suc n) home hs

one_further : (here : Bool) (n : ℕ) (o : Option ℕ) → (if here then Some (suc n) else option_map (λ k. suc k) o) ≡ option_map (λ k. suc k) (if here then Some n else o)
one_further true n o = refl
one_further false n o = refl

place_shifted : (n : ℕ) (home : Home) (hs : Pack) → place_from (suc n) home hs ≡ option_map (λ k. suc k) (place_from n home hs)
place_shifted n home [] = refl
place_shifted n home (h ∷ hs) =
    ap (λ (o : Option ℕ). if is_home h home then Some (suc n) else o) (place_shifted (suc n) home hs)
    ∙ one_further (is_home h home) n (place_from (suc n) home hs)

pub place_from_first : (home : Home) (hs : Pack) → place_from 0 home hs ≡ cell_of hs home
place_from_first home [] = refl
place_from_first home (h ∷ hs) =
    ap (λ (o : Option ℕ). if is_home h home then Some 0 else o) (place_shifted 0 home hs ∙ ap (λ (o : Option ℕ). option_map (λ k. suc k) o) (place_from_first home hs))

cell_further : (size : ℕ) (o : Option ℕ) → IfSome o (λ k. k < size) → IfSome (option_map (λ k. suc k) o) (λ k. k < suc size)
cell_further size None h = tt
cell_further size (Some k) h = omega (arith, h)

either_cell : (here : Bool) (size : ℕ) (o : Option ℕ) → IfSome o (λ k. k < suc size) → IfSome (if here then Some 0 else o) (λ k. k < suc size)
either_cell true size o h = omega arith
either_cell false size o h = h

-- a cell of a pack is one of so many
pub cell_below : (home : Home) (hs : Pack) → IfSome (cell_of hs home) (λ k. k < length hs)
cell_below home [] = tt
cell_below home (h ∷ hs) =
    either_cell (is_home h home) (length hs) (option_map (λ k. suc k) (cell_of hs home)) (cell_further (length hs) (cell_of hs home) (cell_below home hs))
