-- Entries read, one further.
use Rattle.std.proofs.Common.{◌≡◌, ℕ, ◌+◌, ◌<◌, ◌≤◌, suc, Bool, cond, true, false, List, [], ◌∷◌, ◌++◌, append_assoc, append-nil, drop-cons, None, length, length-append, get_or, drop, Some, refl, ap, ◌∙◌, sym, arith}
use Rattle.cob_tree.specs.declared.front.Front.{Front}
use Rattle.cob_tree.specs.declared.front.Fd.{Fd}
use Rattle.cob_tree.specs.declared.front.Entry.{Entry}
use Rattle.cob_data.specs.declared.description.Area.TheVariants.{File, Storage}
use Rattle.cob_data.specs.declared.entry.Table.{Table}
use Rattle.cob_data.specs.declared.description.Area.{Area}
use Rattle.cob_data.specs.declared.description.Description.{Description}
use Rattle.cob_data.specs.declared.description.Condition.{Condition}
use Rattle.cob_data.specs.Entries.{Placed, description, descriptions, condition, conditions, is_condition, owner_in, placed, file_entries, all_entries, fds_in, entries_in, items_of, conditions_of}
use Rattle.cob_data.specs.Reading.{Moves}

pub moves_condition : (old new : Table) (p : Placed) (ps : List Placed) (c : Condition) → is_condition p.entry ≡ true →
    c ≡ condition p.entry (owner_in p.area (length old.items.items) old.last) →
    new.items.items ≡ old.items.items → new.last ≡ old.last → new.conditions.items ≡ old.conditions.items ++ c ∷ [] →
    Moves old new (p ∷ ps) ps
moves_condition old new p ps c e is items last pushed = record {
  items = rw (e, items) refl;
  conditions = rw (e, items, last, pushed, ← is) (sym (append_assoc old.conditions.items (c ∷ []) (conditions (length old.items.items) old.last ps)));
}

pub moves_item : (old new : Table) (p : Placed) (ps : List Placed) (d : Description) → is_condition p.entry ≡ false →
    d ≡ description p → new.items.items ≡ old.items.items ++ d ∷ [] → new.last ≡ Some p.area → new.conditions.items ≡ old.conditions.items →
    Moves old new (p ∷ ps) ps
moves_item old new p ps d e is pushed last same =
    let longer : length new.items.items ≡ length old.items.items + 1 = rw pushed (length-append old.items.items (d ∷ [])) in
    record {
      items = rw (e, pushed, is) (sym (append_assoc old.items.items (description p ∷ []) (descriptions ps)));
      conditions = rw (e, longer, last, same) refl;
    }

pub moves_on : (a b c : Table) (ps qs rs : List Placed) → Moves a b ps qs → Moves b c qs rs → Moves a c ps rs
moves_on a b c ps qs rs first second = record {
  items = first.items ∙ second.items;
  conditions = first.conditions ∙ second.conditions;
}

pub moves_none : (a : Table) (ps : List Placed) → Moves a a ps ps
moves_none a ps = record { items = refl; conditions = refl }

first_entry : (xs ys : List Entry) (e : Entry) → 0 < length xs → e ≡ get_or xs 0 e → ys ≡ drop 1 xs → xs ≡ e ∷ ys
first_entry [] ys e some is others = absurd (omega arith)
first_entry (x ∷ xs) ys e some is others = rw (is, others) refl

pub moves_entry : (a b c : Table) (here : Area) (all later : List Placed) (xs ys : List Entry) (e : Entry) → 0 < length xs → e ≡ get_or xs 0 e → ys ≡ drop 1 xs →
    Moves a b all (placed here xs ++ later) → ((ps : List Placed) → Moves b c (record { area = here; entry = e } ∷ ps) ps) → Moves a c all (placed here ys ++ later)
moves_entry a b c here all later xs ys e some is others so_far one =
    let split : xs ≡ e ∷ ys = first_entry xs ys e some is others in
    moves_on a b c all (placed here xs ++ later) (placed here ys ++ later) so_far (rw split (one (placed here ys ++ later)))

pub moves_end : (a b : Table) (here : Area) (all later : List Placed) (xs : List Entry) → length xs ≡ 0 → Moves a b all (placed here xs ++ later) → Moves a b all later
moves_end a b here all later [] none so_far = so_far
moves_end a b here all later (x ∷ xs) none so_far = absurd (omega arith)

-- ---- one file further

drop_is : {A : Type 0} (xs : List A) (i : ℕ) (x : A) → i < length xs → x ≡ get_or xs i x → drop i xs ≡ x ∷ drop (i + 1) xs
drop_is xs i x within is =
    let one : i + 1 ≡ suc i = omega arith in
    rw one (drop-cons xs i x within ∙ ap (λ y. y ∷ drop (suc i) xs) (sym is))

pub placed_length : (here : Area) (es : List Entry) → length (placed here es) ≡ length es
placed_length here [] = refl
placed_length here (e ∷ es) = ap suc (placed_length here es)

files_split : (xs : List Fd) (i : ℕ) (x : Fd) → i < length xs → x ≡ get_or xs i x → file_entries i (drop i xs) ≡ placed (File i) x.entries ++ file_entries (i + 1) (drop (i + 1) xs)
files_split xs i x within is = rw (drop_is xs i x within is) refl

pub files_length : (xs : List Fd) (i : ℕ) (x : Fd) (es : List Entry) → i < length xs → x ≡ get_or xs i x → es ≡ x.entries →
    length (file_entries i (drop i xs)) ≡ length es + length (file_entries (i + 1) (drop (i + 1) xs))
files_length xs i x es within is entries =
    rw (files_split xs i x within is, entries) (length-append (placed (File i) x.entries) (file_entries (i + 1) (drop (i + 1) xs)) ∙ ap (λ n. n + length (file_entries (i + 1) (drop (i + 1) xs))) (placed_length (File i) x.entries))

pub moves_file : (a b c : Table) (all later : List Placed) (xs : List Fd) (i : ℕ) (x : Fd) (es : List Entry) → i < length xs → x ≡ get_or xs i x → es ≡ x.entries →
    Moves a b all (file_entries i (drop i xs) ++ later) → ((ps : List Placed) → Moves b c (placed (File i) es ++ ps) ps) →
    Moves a c all (file_entries (i + 1) (drop (i + 1) xs) ++ later)
moves_file a b c all later xs i x es within is entries so_far one =
    let others = file_entries (i + 1) (drop (i + 1) xs) in
    let split : file_entries i (drop i xs) ++ later ≡ placed (File i) es ++ (others ++ later) = rw (files_split xs i x within is, entries) (append_assoc (placed (File i) x.entries) others later) in
    moves_on a b c all (file_entries i (drop i xs) ++ later) (others ++ later) so_far (rw split (one (others ++ later)))

-- ---- all of them

pub record Reads (c : Table) (front : Front) : Type 0 where
  pub items : c.items.items ≡ items_of front
  pub conditions : c.conditions.items ≡ conditions_of front

pub reads_front : (a b c : Table) (front : Front) (fds : List Fd) (es : List Entry) → a.items.items ≡ [] → a.conditions.items ≡ [] → a.last ≡ None → fds ≡ fds_in front.«data» → es ≡ entries_in front.«data» →
    ((ps : List Placed) → Moves a b (file_entries 0 fds ++ ps) ps) → ((ps : List Placed) → Moves b c (placed Storage es ++ ps) ps) → Reads c front
reads_front a b c front fds es no_items no_conditions no_last is_fds is_es first second =
    let later = placed Storage es in
    let all : file_entries 0 fds ++ (later ++ []) ≡ all_entries front = rw (append-nil later, is_fds, is_es) refl in
    let both = moves_on a b c (file_entries 0 fds ++ (later ++ [])) (later ++ []) [] (first (later ++ [])) (second []) in
    record {
      items = sym (append-nil c.items.items) ∙ sym both.items ∙ rw (no_items, all) refl;
      conditions = sym (append-nil c.conditions.items) ∙ sym both.conditions ∙ rw (no_conditions, no_items, no_last, all) refl;
    }

pub front_length : (front : Front) → length (all_entries front) ≡ length (file_entries 0 (fds_in front.«data»)) + length (entries_in front.«data»)
front_length front = length-append (file_entries 0 (fds_in front.«data»)) (placed Storage (entries_in front.«data»)) ∙ ap (λ n. length (file_entries 0 (fds_in front.«data»)) + n) (placed_length Storage (entries_in front.«data»))

pub descriptions_length : (ps : List Placed) → length (descriptions ps) ≤ length ps
descriptions_length [] = omega arith
descriptions_length (p ∷ ps) = at (is_condition p.entry) p ps (descriptions_length ps) where
  at : (x : Bool) (p : Placed) (ps : List Placed) → length (descriptions ps) ≤ length ps → length (cond x (descriptions ps) (description p ∷ descriptions ps)) ≤ length (p ∷ ps)
  at true p ps so_far = omega arith
  at false p ps so_far = omega arith
