-- Parts passed in turn: cut in two, and what each of them leaves.
use Rattle.std.proofs.Common.{◌≡◌, ℕ, Bool, true, false, List, [], ◌∷◌, ◌++◌, ◌⊎◌, inl, inr, Option, Some, None, refl, ap, ◌∙◌}
use Rattle.std.specs.Prelude.{if◌then◌else◌}
use Rattle.cob_tree.specs.declared.fault.Kind.{Kind}
use Rattle.cob_data.specs.declared.layout.Layout.{Layout}
use Rattle.cob_runs.specs.Computing.{worth}
use Rattle.cob_edge_parts.specs.Parts.{Part, read, unread, subscript, index, divide, store, bytes_in, guard, read_count, set_count, count_down, guard_count}
use Rattle.cob_edge_parts.specs.Meaning.{Moment, divided_by_zero, divides_by, is_left_alone, skipped, stored_bytes, stored_or_kept, ReadsAt, Passes, PassesAll, Meets}
use Rattle.cob_edge_parts.proofs.Subscripts.{subscript_leaves, index_leaves}

module _ (l : Layout) (handled : Bool) where
  -- what is passed is passed in two pieces
  pub passes_split : (xs ys : List Part) (m n : Moment) → PassesAll l handled (xs ++ ys) m n →
      (k : Moment) × PassesAll l handled xs m k × PassesAll l handled ys k n
  passes_split [] ys m n h = (m, refl, h)
  passes_split (x ∷ xs) ys m n h = let g = passes_split xs ys h.0 n h.2 in (g.0, (h.0, h.1, g.1), g.2)

  -- a fault is met in the first piece, or behind it
  pub meets_split : (xs ys : List Part) (m : Moment) (fault : Kind) → Meets l handled (xs ++ ys) m fault →
      Meets l handled xs m fault ⊎ ((k : Moment) × PassesAll l handled xs m k × Meets l handled ys k fault)
  meets_split [] ys m fault h = inr (m, refl, h)
  meets_split (x ∷ xs) ys m fault (inl h) = inl (inl h)
  meets_split (x ∷ xs) ys m fault (inr h) = behind (meets_split xs ys h.0 fault h.2)
    where
      behind : Meets l handled xs h.0 fault ⊎ ((k : Moment) × PassesAll l handled xs h.0 k
          × Meets l handled ys k fault) →
          Meets l handled (x ∷ xs) m fault ⊎ ((k : Moment) × PassesAll l handled (x ∷ xs) m k
          × Meets l handled ys k fault)
      behind (inl g) = inl (inr (h.0, h.1, g))
      behind (inr g) = inr (g.0, (h.0, h.1, g.1), g.2)

-- ---- the storage in which operands are read

module _ (l : Layout) where
  reads_first : (b : Bool) (place : ℕ) (m n : Moment) → ReadsAt l b place m n → n.first ≡ m.first
  reads_first true place m n h = ap (λ (k : Moment). k.first) h
  reads_first false place m n h = ap (λ (k : Moment). k.first) h.2

  zero_first : (b : Bool) (m : Moment) → (if b then m else divided_by_zero m).first ≡ m.first
  zero_first true m = refl
  zero_first false m = refl

  kept_first : (b : Bool) (m : Moment) (place : ℕ) (o : Option (List ℕ)) →
      (if b then m else stored_or_kept l m place o).first ≡ m.first
  kept_first true m place o = refl
  kept_first false m place None = refl
  kept_first false m place (Some bytes) = refl

  pub passes_first : (handled : Bool) (x : Part) (m n : Moment) → Passes l handled x m n → n.first ≡ m.first
  passes_first handled (read place) m n h = reads_first m.by_zero place m n h
  passes_first handled unread m n h = absurd h
  passes_first handled (subscript last item) m n h =
      ap (λ (k : Moment). k.first) (subscript_leaves l (skipped last m) item m n h)
  passes_first handled (index last item count) m n h =
      ap (λ (k : Moment). k.first) (index_leaves l (skipped last m) item count m n h)
  passes_first true (divide a) m n h =
      ap (λ (k : Moment). k.first) h ∙ zero_first (divides_by (worth l m.first) a) m
  passes_first false (divide a) m n h = ap (λ (k : Moment). k.first) h.1
  passes_first true (store place mode a) m n h =
      ap (λ (k : Moment). k.first) h ∙ kept_first (is_left_alone m a) m place (stored_bytes l m place mode a)
  passes_first false (store place mode a) m n h = ap (λ (k : Moment). k.first) h.2
  passes_first handled (bytes_in offset count) m n h = ap (λ (k : Moment). k.first) h.1
  passes_first handled (guard t wanted) m n h = ap (λ (k : Moment). k.first) h.1
  passes_first handled (read_count statement) m n h = ap (λ (k : Moment). k.first) h.2
  passes_first handled (set_count statement x) m n h = ap (λ (k : Moment). k.first) h.2
  passes_first handled (count_down statement) m n h = ap (λ (k : Moment). k.first) h
  passes_first handled (guard_count statement wanted) m n h = ap (λ (k : Moment). k.first) h.3

  -- it stays what it was where the edge begins
  pub first_stays : (handled : Bool) (xs : List Part) (m n : Moment) → PassesAll l handled xs m n → n.first ≡ m.first
  first_stays handled [] m n h = ap (λ (k : Moment). k.first) h
  first_stays handled (x ∷ xs) m n h =
      first_stays handled xs h.0 n h.2 ∙ passes_first handled x m h.0 h.1
