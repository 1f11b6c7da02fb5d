-- Where items lie, one item further.
use Rattle.std.proofs.Common.{◌≡◌, ℕ, ◌+◌, ◌<◌, Bool, true, false, not, cond, eqb, List, [], ◌∷◌, ◌++◌, append_assoc, append-nil, length, length-append, get_or, take, drop, Option, Some, None, refl, ap, ◌∙◌, sym, arith}
use Rattle.std.proofs.lemmas.Bool.Decides.{nat_tests}
use Rattle.std.specs.List.{prefix_len}
use Rattle.cob_data.specs.declared.description.Description.{Description}
use Rattle.cob_data.specs.declared.description.Spot.{Spot}
use Rattle.cob_data.specs.declared.description.Above.{Above}
use Rattle.cob_data.specs.Lengths.{Forest, bare, item, depth, is_deeper, deeper, behind, forest, size}
use Rattle.cob_data.specs.Spots.{Neighbour, is_bare, spot, spots, above_parts, end_behind, lies_on_last}
use Rattle.cob_data.proofs.LengthLemmas.{first_and_others, forest_begins}

size_parts : (n : ℕ) (f : Forest) → size (deeper n f) + size (behind n f) ≡ size f
size_parts n bare = refl
size_parts n (item d b r) = at (is_deeper n d) n d b r (size_parts n r) where
  at : (x : Bool) (n : ℕ) (d : Description) (b r : Forest) → size (deeper n r) + size (behind n r) ≡ size r →
      size (cond x (item d b (deeper n r)) bare) + size (cond x (behind n r) (item d b r)) ≡ size b + 1 + size r
  at true n d b r same = omega (arith, same)
  at false n d b r same = omega arith

pub size_forest : (ds : List Description) → size (forest ds) ≡ length ds
size_forest [] = refl
size_forest (d ∷ ds) = omega (arith, size_parts (depth d) (forest ds), size_forest ds)

pub spots_length : (above : Above) (place next : ℕ) (last : Option Neighbour) (f : Forest) → length (spots above place next last f) ≡ size f
spots_length above place next last bare = refl
spots_length above place next last (item d b r) =
    let s = spot above next last d b in
    omega (
      arith,
      length-append (spots (above_parts place s) (place + 1) s.start None b) (spots above (place + 1 + size b) (end_behind above next (lies_on_last above d last) s) (Some (record { item = d; spot = s })) r),
      spots_length (above_parts place s) (place + 1) s.start None b,
      spots_length above (place + 1 + size b) (end_behind above next (lies_on_last above d last) s) (Some (record { item = d; spot = s })) r,
    )

-- the items so far, then this one with those below it, then the others
one_more : (done parts others : List Spot) (s : Spot) → ((done ++ s ∷ []) ++ parts) ++ others ≡ done ++ (s ∷ (parts ++ others))
one_more done parts others s = append_assoc (done ++ s ∷ []) parts others ∙ append_assoc done (s ∷ []) (parts ++ others)

pub spots_step : (above parts : Above) (done one more all : List Spot) (place next : ℕ) (last : Option Neighbour) (xs ds ys zs : List Description) (d : Description) (s : Spot) (level k further : ℕ) (on_last : Bool) →
    0 < length xs → d ≡ get_or xs 0 d → ds ≡ drop 1 xs → level ≡ depth d → k ≡ prefix_len (is_deeper level) ds → ys ≡ take k ds → zs ≡ drop k ds →
    place ≡ length done → s ≡ spot above next last d (forest ys) → one ≡ done ++ s ∷ [] → parts ≡ above_parts place s →
    more ≡ one ++ spots parts (length one) s.start None (forest ys) →
    on_last ≡ lies_on_last above d last → further ≡ end_behind above next on_last s →
    done ++ spots above (length done) next last (forest xs) ≡ all →
    more ++ spots above (length more) further (Some (record { item = d; spot = s })) (forest zs) ≡ all
spots_step above parts done one more all place next last xs ds ys zs d s level k further on_last some first others deep count front rest here is pushed below placed lies ends so_far =
    let begins : forest xs ≡ item d (forest ys) (forest zs) = rw (first_and_others xs ds d some first others, front, rest) (forest_begins d ds k (rw (← deep) count)) in
    let length_one : length one ≡ length done + 1 = rw pushed (length-append done (s ∷ [])) in
    let inner : List Spot = spots (above_parts (length done) s) (length done + 1) s.start None (forest ys) in
    let e_more : more ≡ (done ++ s ∷ []) ++ inner = placed ∙ rw (length_one, below, here, pushed) refl in
    let length_inner : length inner ≡ size (forest ys) = spots_length (above_parts (length done) s) (length done + 1) s.start None (forest ys) in
    let length_more : length more ≡ length done + 1 + size (forest ys) = rw e_more (omega (arith, length-append (done ++ s ∷ []) inner, length-append done (s ∷ []), length_inner)) in
    let outer : List Spot = spots above (length done + 1 + size (forest ys)) (end_behind above next (lies_on_last above d last) s) (Some (record { item = d; spot = s })) (forest zs) in
    let whole : spots above (length done) next last (forest xs) ≡ s ∷ (inner ++ outer) =
    rw begins (ap (λ (x : Spot). x ∷ (spots (above_parts (length done) x) (length done + 1) x.start None (forest ys) ++ spots above (length done + 1 + size (forest ys)) (end_behind above next (lies_on_last above d last) x) (Some (record { item = d; spot = x })) (forest zs))) (sym is)) in
    rw (length_more, ends, lies, e_more) (one_more done inner outer s ∙ ap (λ t. done ++ t) (sym whole) ∙ so_far)

pub spots_end : (above : Above) (done all : List Spot) (place next : ℕ) (last : Option Neighbour) (xs : List Description) → length xs ≡ 0 → done ++ spots above place next last (forest xs) ≡ all → done ≡ all
spots_end above done all place next last [] none so_far = sym (append-nil done) ∙ so_far
spots_end above done all place next last (x ∷ xs) none so_far = absurd (omega arith)

pub placed_length : (above : Above) (one more : List Spot) (place next : ℕ) (last : Option Neighbour) (ys : List Description) → more ≡ one ++ spots above place next last (forest ys) → length more ≡ length one + length ys
placed_length above one more place next last ys e =
    let f = forest ys in
    rw e (length-append one (spots above place next last f) ∙ ap (λ n. length one + n) (spots_length above place next last f ∙ size_forest ys))

pub has_parts_is : (ds : List Description) (empty : Bool) → empty ≡ eqb (length ds) 0 → not empty ≡ not (is_bare (forest ds))
has_parts_is [] empty e = rw e refl
has_parts_is (d ∷ ds) empty e = grind (arith, nat_tests)

pub pushed_length : (xs ys : List Spot) (s : Spot) → ys ≡ xs ++ s ∷ [] → length ys ≡ length xs + 1
pushed_length xs ys s e = rw e (length-append xs (s ∷ []))
