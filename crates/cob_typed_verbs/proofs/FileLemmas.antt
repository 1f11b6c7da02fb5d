-- Lists of files, gathered in a loop.
use Rattle.std.proofs.Common.{◌≡◌, ℕ, ◌+◌, ◌<◌, ◌≤◌, List, [], ◌∷◌, ◌++◌, append_assoc, append-nil, length, get_or, map, drop, Option, Some, None, refl, sym, ap, ◌∙◌}
use Rattle.std.proofs.lemmas.List.{drop_all, get_or_default}
use Rattle.cob_tree.specs.declared.stmt.OpenPhrase.{OpenPhrase}
use Rattle.cob_program.specs.declared.act.Opening.{Opening}
use Rattle.cob_typed_exprs.specs.declared.finding.Finding.{Finding}
use Rattle.cob_typed_exprs.specs.Judged.{Judged, each_of, noted}
use Rattle.cob_typed_exprs.specs.Scope.{Scope}
use Rattle.cob_typed_verbs.specs.Verbs.{some_of, all_openings, openings}
use Rattle.cob_program.proofs.Loops.{item_step}

some_first : (o : Option ℕ) (os : List (Option ℕ)) → some_of (o ∷ []) ++ some_of os ≡ some_of (o ∷ os)
some_first None os = refl
some_first (Some n) os = refl

module _ {A : Type 0} (judge : A → Judged (Option ℕ)) (xs : List A) where
  pub file_more : (i : ℕ) (x : A) (old new whole : List ℕ) → i < length xs → x ≡ get_or xs i x → new ≡ old ++ some_of ((judge x).value ∷ []) →
      old ++ some_of (each_of judge (drop i xs)).value ≡ whole → new ++ some_of (each_of judge (drop (i + 1) xs)).value ≡ whole
  file_more i x old new whole within is made so_far =
      let rest = some_of (each_of judge (drop (i + 1) xs)).value in
      ap (λ ys. ys ++ rest) made ∙ append_assoc old (some_of ((judge x).value ∷ [])) rest ∙ ap (λ ys. old ++ ys) (some_first (judge x).value (each_of judge (drop (i + 1) xs)).value)
      ∙ sym (ap (λ ys. old ++ some_of (each_of judge ys).value) (item_step xs i x within is)) ∙ so_far

  pub some_end : (i : ℕ) (old whole : List ℕ) → length xs ≤ i → old ++ some_of (each_of judge (drop i xs)).value ≡ whole → old ≡ whole
  some_end i old whole past so_far = sym (ap (λ ys. old ++ some_of (each_of judge ys).value) (drop_all i xs past) ∙ append-nil old) ∙ so_far

-- one opening more
pub opening_pushed : (of_file : ℕ → Opening) (xs : List ℕ) (i d : ℕ) (old new whole : List Opening) → i < length xs → new ≡ old ++ of_file (get_or xs i d) ∷ [] →
    old ++ map of_file (drop i xs) ≡ whole → new ++ map of_file (drop (i + 1) xs) ≡ whole
opening_pushed of_file xs i d old new whole within made so_far =
    let x = get_or xs i d in
    let rest = map of_file (drop (i + 1) xs) in
    ap (λ ys. ys ++ rest) made ∙ append_assoc old (of_file x ∷ []) rest
    ∙ sym (ap (λ ys. old ++ map of_file ys) (item_step xs i x within (get_or_default xs i d x within))) ∙ so_far

module _ (s : Scope) (xs : List OpenPhrase) where
  pub openings_value : (i : ℕ) (x : OpenPhrase) (old new whole : List Opening) → i < length xs → x ≡ get_or xs i x → new ≡ old ++ (openings s x).value →
      old ++ (all_openings s (drop i xs)).value ≡ whole → new ++ (all_openings s (drop (i + 1) xs)).value ≡ whole
  openings_value i x old new whole within is made so_far =
      let rest = (all_openings s (drop (i + 1) xs)).value in
      ap (λ ys. ys ++ rest) made ∙ append_assoc old (openings s x).value rest ∙ sym (ap (λ ys. old ++ (all_openings s ys).value) (item_step xs i x within is)) ∙ so_far

  pub openings_noted : (i line : ℕ) (x : OpenPhrase) (old new whole : List Finding) → i < length xs → x ≡ get_or xs i x → new ≡ noted line old (openings s x).broken →
      noted line old (all_openings s (drop i xs)).broken ≡ whole → noted line new (all_openings s (drop (i + 1) xs)).broken ≡ whole
  openings_noted i line x old new whole within is made so_far =
      ap (λ fs. noted line fs (all_openings s (drop (i + 1) xs)).broken) made
      ∙ sym (ap (λ ys. noted line old (all_openings s ys).broken) (item_step xs i x within is)) ∙ so_far

  pub openings_value_end : (i : ℕ) (old whole : List Opening) → length xs ≤ i → old ++ (all_openings s (drop i xs)).value ≡ whole → old ≡ whole
  openings_value_end i old whole past so_far = sym (ap (λ ys. old ++ (all_openings s ys).value) (drop_all i xs past) ∙ append-nil old) ∙ so_far

  pub openings_noted_end : (i line : ℕ) (old whole : List Finding) → length xs ≤ i → noted line old (all_openings s (drop i xs)).broken ≡ whole → old ≡ whole
  openings_noted_end i line old whole past so_far = sym (ap (λ ys. noted line old (all_openings s ys).broken) (drop_all i xs past)) ∙ so_far
