-- One symbol of a picture.
use Rattle.std.proofs.Common.{◌≡◌, ℕ, ◌+◌, ◌<◌, Bool, if◌then◌else◌, List, [], ◌∷◌, ◌++◌, length, get_or, take, drop, set, ap, ◌∙◌, sym, arith}
use Rattle.std.proofs.lemmas.List.{drop_more, take_more_set, append_assoc}
use Rattle.std.proofs.lemmas.List.Sums.{sum_by-drop_more}
use Rattle.num_bytes.specs.Digits.{digit_at}
use Rattle.cob_tree.specs.Pictures.{is_place, place_count}
use Rattle.num_bytes.specs.Editing.{still_suppressed, shown, edited}

pub place_count-drop : (picture : List ℕ) (at : ℕ) → at < length picture →
    place_count (drop at picture) ≡ (if is_place (get_or picture at 0) then 1 else 0) + place_count (drop (at + 1) picture)
place_count-drop picture at lt = sum_by-drop_more (λ c. if is_place c then 1 else 0) picture at 0 lt

pub places_step : (picture : List ℕ) (at places left : ℕ) → at < length picture → places ≡ place_count (drop at picture) →
    places ≡ (if is_place (get_or picture at 0) then 1 else 0) + left → left ≡ place_count (drop (at + 1) picture)
places_step picture at places left lt is took = omega (arith, place_count-drop picture at lt, is, took)

pub edited_step : (picture xs : List ℕ) (at left v y digit : ℕ) (on after : Bool) → at < length picture → length xs ≡ length picture →
    left ≡ place_count (drop (at + 1) picture) → digit ≡ digit_at left v → after ≡ still_suppressed on (get_or picture at 0) digit →
    y ≡ shown after (get_or picture at 0) digit →
    take (at + 1) (set xs at y) ++ edited after (drop (at + 1) picture) v ≡ take at xs ++ edited on (drop at picture) v
edited_step picture xs at left v y digit on after lt whole places digit_is after_is shows =
    let digit_here : digit ≡ digit_at (place_count (drop (at + 1) picture)) v = digit_is ∙ ap (λ k. digit_at k v) places in
    let first : edited on (drop at picture) v ≡ edited on (get_or picture at 0 ∷ drop (at + 1) picture) v = ap (λ cs. edited on cs v) (drop_more picture at 0 lt) in
    let by_digit = λ (d : ℕ). shown (still_suppressed on (get_or picture at 0) d) (get_or picture at 0) d ∷ edited (still_suppressed on (get_or picture at 0) d) (drop (at + 1) picture) v in
    let unfolded : edited on (drop at picture) v ≡ by_digit digit = first ∙ ap by_digit (sym digit_here) in
    let by_after = λ (b : Bool). shown b (get_or picture at 0) digit ∷ edited b (drop (at + 1) picture) v in
    let named : edited on (drop at picture) v ≡ by_after after = unfolded ∙ ap by_after (sym after_is) in
    let written : edited on (drop at picture) v ≡ y ∷ edited after (drop (at + 1) picture) v = named ∙ ap (λ b. b ∷ edited after (drop (at + 1) picture) v) (sym shows) in
    ap (λ zs. zs ++ edited after (drop (at + 1) picture) v) (take_more_set xs at y (omega (arith, whole)))
    ∙ (append_assoc (take at xs) (y ∷ []) (edited after (drop (at + 1) picture) v) ∙ ap (λ zs. take at xs ++ zs) (sym written))
