-- The cells of a pack, one number after the other.
use Rattle.std.proofs.Common.{◌≡◌, ℕ, ◌+◌, ◌<◌, ◌≤◌, Bool, true, false, if◌then◌else◌, ◌&&◌, nat_lt, nat_le, List, [], ◌∷◌, ◌++◌, length, drop, get_or, Option, Some, None, ℤ, pos, negsuc, refl, sym, ap, ◌∙◌}
use Rattle.std.proofs.lemmas.List.{append-nil, drop_more, drop_all}
use Rattle.cert_text.specs.Reading.{◌▷◌}
use Rattle.cert_text.specs.Draft.{next_cell, cells_among}
use Rattle.cert_text.proofs.Loops.{with_front, with_front_more}

on_test : {A B : Type 0} (b : Bool) (x : A) (f : A → Option B) → (if b then f x else None) ≡ (if b then Some x else None) ▷ f
on_test true x f = refl
on_test false x f = refl

next_cells : (cells last : ℕ) (z : ℤ) (zs : List ℤ) (r : Option ℕ) → next_cell cells last z ≡ r → cells_among cells last (z ∷ zs) ≡ r ▷ (λ c. cells_among cells c zs ▷ (λ cs. Some (c ∷ cs)))
next_cells cells last (pos c) zs r e =
    on_test (nat_lt last c && nat_le c cells) c (λ k. cells_among cells k zs ▷ (λ cs. Some (k ∷ cs))) ∙ ap (λ x. x ▷ (λ k. cells_among cells k zs ▷ (λ cs. Some (k ∷ cs)))) e
next_cells cells last (negsuc n) zs r e = ap (λ x. x ▷ (λ k. cells_among cells k zs ▷ (λ cs. Some (k ∷ cs)))) e

here : (cells last i : ℕ) (d : ℤ) (numbers : List ℤ) (r : Option ℕ) → i < length numbers → next_cell cells last (get_or numbers i d) ≡ r
    → cells_among cells last (drop i numbers) ≡ r ▷ (λ c. cells_among cells c (drop (i + 1) numbers) ▷ (λ cs. Some (c ∷ cs)))
here cells last i d numbers r within read = ap (cells_among cells last) (drop_more numbers i d within) ∙ next_cells cells last (get_or numbers i d) (drop (i + 1) numbers) r read

pub cell_step : (cells last i c : ℕ) (d : ℤ) (numbers : List ℤ) (old new : List ℕ) (total : Option (List ℕ)) → i < length numbers → next_cell cells last (get_or numbers i d) ≡ Some c → new ≡ old ++ c ∷ []
    → with_front old (cells_among cells last (drop i numbers)) ≡ total → with_front new (cells_among cells c (drop (i + 1) numbers)) ≡ total
cell_step cells last i c d numbers old new total within read is so_far =
    ap (λ ys. with_front ys (cells_among cells c (drop (i + 1) numbers))) is ∙ with_front_more old c (cells_among cells c (drop (i + 1) numbers))
    ∙ ap (with_front old) (sym (here cells last i d numbers (Some c) within read)) ∙ so_far

pub cell_stop : (cells last i : ℕ) (d : ℤ) (numbers : List ℤ) (old : List ℕ) (total : Option (List ℕ)) → i < length numbers → next_cell cells last (get_or numbers i d) ≡ None
    → with_front old (cells_among cells last (drop i numbers)) ≡ total → total ≡ None
cell_stop cells last i d numbers old total within read so_far = sym so_far ∙ ap (with_front old) (here cells last i d numbers None within read)

pub cells_end : (cells last i : ℕ) (numbers : List ℤ) (old : List ℕ) (total : Option (List ℕ)) → length numbers ≤ i → with_front old (cells_among cells last (drop i numbers)) ≡ total → total ≡ Some old
cells_end cells last i numbers old total past so_far = sym so_far ∙ ap (λ ys. with_front old (cells_among cells last ys)) (drop_all i numbers past) ∙ ap Some (append-nil old)
