-- The first place of a home, in a list and in one whose places begin with a number.
use Rattle.std.proofs.Common.{◌≡◌, ◌<◌, ℕ, suc, ◌+◌, Bool, true, false, if◌then◌else◌, List, [], ◌∷◌, length, Option, Some, None, refl, ap, ◌∙◌, arith}
use Rattle.std.specs.Option.{option_map}
use Rattle.cob_graph.specs.declared.homes.Home.{Home}
use Rattle.cob_graph.specs.Homes.{is_home}
use Rattle.cob_graph.specs.Numbers.{number_in, place_from}

shifted : (n : ℕ) (o : Option ℕ) → option_map (λ j. n + 1 + j) o ≡ option_map (λ j. n + j) (option_map suc o)
shifted n None = refl
shifted n (Some j) = ap Some (omega arith)

pub place_is : (home : Home) (n : ℕ) (hs : List Home) → place_from n home hs ≡ option_map (λ j. n + j) (number_in home hs)
place_is home n [] = refl
place_is home n (h ∷ hs) = go (is_home h home) (place_is home (n + 1) hs ∙ shifted n (number_in home hs))
  where
    go : (here : Bool) → place_from (n + 1) home hs ≡ option_map (λ j. n + j) (option_map suc (number_in home hs)) →
        (if here then Some n else place_from (n + 1) home hs)
        ≡ option_map (λ j. n + j) (if here then Some 0 else option_map suc (number_in home hs))
    go true rest = ap Some (omega arith)
    go false rest = rest

from_none : (o : Option ℕ) → option_map (λ j. 0 + j) o ≡ o
from_none None = refl
from_none (Some j) = ap Some (omega arith)

pub number_is : (home : Home) (hs : List Home) → place_from 0 home hs ≡ number_in home hs
number_is home hs = place_is home 0 hs ∙ from_none (number_in home hs)

-- a number is one of a place of the list
pub number_within : (home : Home) (hs : List Home) (k : ℕ) → number_in home hs ≡ Some k → k < length hs
number_within home [] k e = absurd cc
number_within home (h ∷ hs) k e = go (is_home h home) (number_in home hs) (number_within home hs) e
  where
    go : (here : Bool) (o : Option ℕ) → ((j : ℕ) → o ≡ Some j → j < length hs) →
        (if here then Some 0 else option_map suc o) ≡ Some k → k < length (h ∷ hs)
    go true o rest b = let none : 0 ≡ k = cc in omega arith
    go false None rest b = absurd cc
    go false (Some j) rest b = let more : suc j ≡ k = cc in let less : j < length hs = rest j refl in omega arith
