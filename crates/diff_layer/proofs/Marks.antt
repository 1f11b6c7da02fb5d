-- Cells that are forgotten by their marks.
use Rattle.std.proofs.Common.{◌≡◌, ℕ, suc, ◌+◌, ◌<◌, ◌≤◌, Bool, List, [], ◌∷◌, length, get_or, drop, map, ℤ, refl, sym, ap, ◌∙◌, arith}
use Rattle.std.proofs.lemmas.List.{drop_all, drop_more}
use Rattle.cob_graph.specs.declared.homes.Home.{Home}
use Rattle.diff_steps.specs.Stores.{forgotten_cells}
use Rattle.diff_layer.specs.PackGone.{forgotten_if, forgotten_marked}

pub marks_step : (size : ℕ) (gone : List Bool) (k : ℕ) (mark : Bool) (m n : List ℤ) → k < length gone → mark ≡ get_or gone k mark → n ≡ forgotten_if size (k + 1) mark m → forgotten_marked size (k + 1 + 1) (drop (k + 1) gone) n ≡ forgotten_marked size (k + 1) (drop k gone) m
marks_step size gone k mark m n h e is =
    let next : suc (k + 1) ≡ k + 1 + 1 = omega arith in
    let list : drop k gone ≡ mark ∷ drop (k + 1) gone = drop_more gone k mark h ∙ ap (λ (b : Bool). b ∷ drop (k + 1) gone) (sym e) in
    ap (λ (l : List ℤ). forgotten_marked size (k + 1 + 1) (drop (k + 1) gone) l) is
    ∙ ap (λ (at : ℕ). forgotten_marked size at (drop (k + 1) gone) (forgotten_if size (k + 1) mark m)) (sym next)
    ∙ ap (λ (marks : List Bool). forgotten_marked size (k + 1) marks m) (sym list)

pub marked_cells : (size : ℕ) (is_gone : Home → Bool) (at : ℕ) (pack : List Home) (m : List ℤ) → forgotten_marked size at (map is_gone pack) m ≡ forgotten_cells size is_gone at pack m
marked_cells size is_gone at [] m = refl
marked_cells size is_gone at (h ∷ hs) m = marked_cells size is_gone (suc at) hs (forgotten_if size at (is_gone h) m)

pub marks_of : (size : ℕ) (is_gone : Home → Bool) (pack : List Home) (gone : List Bool) (m n : List ℤ) → n ≡ forgotten_marked size 1 gone m → gone ≡ map is_gone pack → n ≡ forgotten_cells size is_gone 1 pack m
marks_of size is_gone pack gone m n e is = e ∙ ap (λ (marks : List Bool). forgotten_marked size 1 marks m) is ∙ marked_cells size is_gone 1 pack m

pub marks_all : (size : ℕ) (gone : List Bool) (k : ℕ) (m old : List ℤ) → length gone ≤ k → forgotten_marked size (k + 1) (drop k gone) m ≡ forgotten_marked size 1 gone old → m ≡ forgotten_marked size 1 gone old
marks_all size gone k m old h e = sym (ap (λ (marks : List Bool). forgotten_marked size (k + 1) marks m) (drop_all k gone h)) ∙ e
