-- The start of a file's area, one item further.
use Rattle.std.proofs.Common.{◌≡◌, ℕ, ◌+◌, ◌<◌, suc, false, List, [], ◌∷◌, length, get_or, drop, drop-cons, ap, ◌∙◌, sym, arith}
use Rattle.cob_data.specs.declared.description.Description.{Description}
use Rattle.cob_data.specs.declared.description.Spot.{Spot}
use Rattle.cob_data.specs.Files.{is_record_of}
use Rattle.cob_data.specs.Layouts.{area_start}

pub area_step : (n : ℕ) (ds : List Description) (ss : List Spot) (i : ℕ) (d : Description) (all : ℕ) → i < length ds → length ds ≡ length ss → d ≡ get_or ds i d → is_record_of n d ≡ false →
    area_start n (drop i ds) (drop i ss) ≡ all → area_start n (drop (i + 1) ds) (drop (i + 1) ss) ≡ all
area_step n ds [] i d all within same is other so_far = absurd (omega arith)
area_step n ds (s ∷ ss) i d all within same is other so_far =
    let one : i + 1 ≡ suc i = omega arith in
    let inside : i < length (s ∷ ss) = omega arith in
    let first : drop i ds ≡ d ∷ drop (suc i) ds = drop-cons ds i d within ∙ ap (λ y. y ∷ drop (suc i) ds) (sym is) in
    let second : drop i (s ∷ ss) ≡ get_or (s ∷ ss) i s ∷ drop (suc i) (s ∷ ss) = drop-cons (s ∷ ss) i s inside in
    rw one (rw (first, second, other) at so_far)
