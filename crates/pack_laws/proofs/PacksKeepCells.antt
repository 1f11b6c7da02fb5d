-- Cells of a pack where storage changes: those that are forgotten may have any value, and the others keep theirs.
use Rattle.std.proofs.Common.{◌≡◌, ◌≢◌, ℕ, zero, suc, ◌+◌, ◌<◌, ◌≤◌, Bool, true, false, List, [], ◌∷◌, length, ℤ, pos, ◌*ℤ◌, Option, Some, None, inl, inr, refl, sym, ap, subst, ◌∙◌, arith}
use Rattle.std.specs.Prelude.{nat_eq, nat_le, max, if◌then◌else◌, slice_get}
use Rattle.std.specs.List.{Contains}
use Rattle.std.specs.Option.{option_map, option_map_or}
use Rattle.std.proofs.Math.Nat.{le-max_left, le-max_right}
use Rattle.std.proofs.lemmas.Bool.{cases_eq, eq-eqb, ne_eqb}
use Rattle.std.proofs.lemmas.Bool.Decides.{nat_tests}
use Rattle.std.proofs.lemmas.Option.{slice_get_past}
use Rattle.std.proofs.lemmas.List.Elements.{Contains-append_cases}
use Rattle.cob_tree.specs.declared.form.Form.{Form}
use Rattle.cob_tree.specs.declared.form.Form.TheVariants as form
use Rattle.cob_data.specs.declared.layout.Item.{Item}
use Rattle.cob_data.specs.declared.layout.Layout.{Layout}
use Rattle.cob_program.specs.Act.{once, times, until, varying, Stmt, MkStmt, Act, move, arith as arithmetic, if_, evaluate, perform, go as go_to, nothing, stop, open_files, close_files, read as reading, write, show, Program}
use Rattle.cob_program.specs.Values.{◌>>=◌}
use Rattle.cob_program.specs.Statements.{program_statements}
use Rattle.cob_runs.specs.Contents.{item_at, form_at}
use Rattle.dom_laws.specs.Meaning.{Storage}
use Rattle.diff_bounds.specs.Matrix.{word}
use Rattle.diff_bounds.specs.Storages.{value_at, DifferBy, StandsIn}
use Rattle.diff_bounds.specs.Assigned.{with_value}
use Rattle.cob_graph.specs.declared.homes.Home.{Home}
use Rattle.cob_graph.specs.declared.homes.Home.TheVariants.{Item as of_item, Count as of_count}
use Rattle.cob_graph.specs.Homes.{is_home, home_of, if_named, item_homes, act_homes, count_homes, homes_of}
use Rattle.cell_steps.specs.Storages as cells
use Rattle.cell_laws.proofs.CellLists.{home_is}
use Rattle.cell_laws.proofs.HomesStand.{same_home}
use Rattle.diff_steps.specs.Packs.{Pack, size_of, cell_of, decimals_of, pack_decimals, unit_of, cells_in, PackStands}
use Rattle.diff_steps.specs.Matrices.{forgotten}
use Rattle.diff_steps.specs.Stores.{forgotten_cells}
use Rattle.pack_laws.proofs.Kept.{forgotten_stands}
use Rattle.pack_laws.specs.Agreeing.{IsPackOf}

-- ---- values by place

same_values : (n : ℕ) (w : ℕ → ℕ → ℤ) (before behind : ℕ → Option ℤ) → ((k : ℕ) → behind k ≡ before k) → StandsIn n w before → StandsIn n w behind
same_values n w before behind same stands = record {
  bounded = λ i j h g ne b.
      subst (λ (v : Option ℤ). DifferBy (w i j) v (value_at behind j)) (sym (at_place i))
      (subst (λ (v : Option ℤ). DifferBy (w i j) (value_at before i) v) (sym (at_place j)) (stands.bounded i j h g ne b));
}
  where
    at_place : (i : ℕ) → value_at behind i ≡ value_at before i
    at_place zero = refl
    at_place (suc i) = same (suc i)

-- a place that is forgotten may get any value
pub with_any : (size : ℕ) (m : List ℤ) (values : ℕ → Option ℤ) (at : ℕ) (z : ℤ) → at ≤ size → StandsIn (size + 1) (word (size + 1) m) values → StandsIn (size + 1) (word (size + 1) (forgotten size at m)) (with_value values at z)
with_any size m values at z within stands = forgotten_stands size at m values (with_value values at z) within stands (record { same = λ k ne. rw (ne_eqb k at ne) refl })

-- A place keeps its value where it is none of these homes', or where its home isn't forgotten.
record AreLeft (gone : Home → Bool) (at : ℕ) (hs : List Home) (before behind : ℕ → Option ℤ) : Type 0 where
  kept : (k : ℕ) (h : Home) → slice_get hs k ≡ Some h → gone h ≡ false → behind (at + k) ≡ before (at + k)
  front : (k : ℕ) → k < at → behind k ≡ before k
  back : (k : ℕ) → at + length hs ≤ k → behind k ≡ before k

module _ (size : ℕ) (gone : Home → Bool) where
  cells_forgotten : (at : ℕ) (hs : List Home) (m : List ℤ) (before behind : ℕ → Option ℤ) → at + length hs ≤ size + 1 → AreLeft gone at hs before behind → StandsIn (size + 1) (word (size + 1) m) before
      → StandsIn (size + 1) (word (size + 1) (forgotten_cells size gone at hs m)) behind
  cells_forgotten at [] m before behind within left stands = same_values (size + 1) (word (size + 1) m) before behind all stands
    where
      all : (k : ℕ) → behind k ≡ before k
      all k = go (nat_le at k) refl
        where
          go : (b : Bool) → nat_le at k ≡ b → behind k ≡ before k
          go true e = left.back k (le_is at k e)
            where
              le_is : (i j : ℕ) → nat_le i j ≡ true → i + 0 ≤ j
              le_is i j e = grind (arith, nat_tests)
          go false e = left.front k (lt_is at k e)
            where
              lt_is : (i j : ℕ) → nat_le i j ≡ false → j < i
              lt_is i j e = grind (arith, nat_tests)
  cells_forgotten at (h ∷ hs) m before behind within left stands =
      go (gone h) refl (λ n values left_ stand. cells_forgotten (suc at) hs n values behind (omega (arith, within)) left_ stand)
    where
      -- the values once the first one is there
      between : ℕ → Option ℤ
      between k = if nat_eq k at then behind at else before k

      on : (k : ℕ) → k ≡ at → behind k ≡ between k
      on k e = rw (eq-eqb k at e) (ap behind e)

      off : (k : ℕ) → k ≢ at → between k ≡ before k
      off k ne = rw (ne_eqb k at ne) refl

      moved : (k : ℕ) → at + suc k ≡ suc at + k
      moved k = omega arith

      Later : Type 0
      Later = (n : List ℤ) (values : ℕ → Option ℤ) → AreLeft gone (suc at) hs values behind → StandsIn (size + 1) (word (size + 1) n) values → StandsIn (size + 1) (word (size + 1) (forgotten_cells size gone (suc at) hs n)) behind

      go : (b : Bool) → gone h ≡ b → Later → StandsIn (size + 1) (word (size + 1) (forgotten_cells size gone (suc at) hs (if b then forgotten size at m else m))) behind
      go true e later =
          later (forgotten size at m) between
          (record {
            kept = λ k g is left_. subst (λ (j : ℕ). behind j ≡ before j) (moved k) (left.kept (suc k) g is left_) ∙ sym (off (suc at + k) (λ f. omega (arith, f)));
            front = λ k l. elim (cases_eq k at) as (λ _. behind k ≡ between k) [
              | inl f ↦ on k f
              | inr ne ↦ left.front k (omega (arith, l, ne)) ∙ sym (off k ne)
            ];
            back = λ k l. left.back k (omega (arith, l)) ∙ sym (off k (λ f. omega (arith, l, f)));
          })
          (forgotten_stands size at m before between (omega (arith, within)) stands (record { same = off }))
      go false e later =
          later m before
          (record {
            kept = λ k g is left_. subst (λ (j : ℕ). behind j ≡ before j) (moved k) (left.kept (suc k) g is left_);
            front = λ k l. elim (cases_eq k at) as (λ _. behind k ≡ before k) [
              | inl f ↦ let same : at + 0 ≡ k = omega (arith, f) in subst (λ (j : ℕ). behind j ≡ before j) same (left.kept 0 h refl e)
              | inr ne ↦ left.front k (omega (arith, l, ne))
            ];
            back = λ k l. left.back k (omega (arith, l));
          })
          stands

-- ---- cells of a storage

module _ (l : Layout) (pack : Pack) where
  -- what a place has where it is of a home
  pub cell_value : (s : Storage) (k : ℕ) (h : Home) → slice_get pack k ≡ Some h → cells_in l pack s (suc k) ≡ option_map (λ v. v *ℤ pos (unit_of l pack h)) (cells.value_at l s h 0)
  cell_value s k h e = ap (λ (o : Option Home). o >>= λ g. option_map (λ v. v *ℤ pos (unit_of l pack g)) (cells.value_at l s g 0)) e

  pub no_cell : (s : Storage) (k : ℕ) → length pack ≤ k → cells_in l pack s (suc k) ≡ None
  no_cell s k h = ap (λ (o : Option Home). o >>= λ g. option_map (λ v. v *ℤ pos (unit_of l pack g)) (cells.value_at l s g 0)) (slice_get_past pack k h)

  -- Behind a change of storage, and a new value of one place.
  pub cells_left : (gone : Home → Bool) (before behind : Storage) (values : ℕ → Option ℤ) (m : List ℤ)
      → ((k : ℕ) → length pack ≤ k → values (suc k) ≡ cells_in l pack before (suc k)) → values 0 ≡ None
      → ((k : ℕ) (h : Home) → slice_get pack k ≡ Some h → gone h ≡ false → cells_in l pack behind (suc k) ≡ values (suc k))
      → StandsIn (size_of pack + 1) (word (size_of pack + 1) m) values
      → PackStands l pack (forgotten_cells (size_of pack) gone 1 pack m) behind
  cells_left gone before behind values m beyond zeroth kept stands =
      cells_forgotten (size_of pack) gone 1 pack m values (cells_in l pack behind) (omega arith)
      (record {
        kept = λ k h is left_. let e : 1 + k ≡ suc k = omega arith in subst (λ (j : ℕ). cells_in l pack behind j ≡ values j) (sym e) (kept k h is left_);
        front = λ k lt. let e : k ≡ 0 = omega (arith, lt) in subst (λ (j : ℕ). cells_in l pack behind j ≡ values j) (sym e) (sym zeroth);
        back = λ k le. past k le;
      })
      stands
    where
      past : (k : ℕ) → 1 + length pack ≤ k → cells_in l pack behind k ≡ values k
      past zero le = absurd (omega (arith, le))
      past (suc k) le = no_cell behind k (omega (arith, le)) ∙ sym (beyond k (omega (arith, le)) ∙ no_cell before k (omega (arith, le)))

  -- each home that isn't forgotten keeps its value
  pub homes_left : (gone : Home → Bool) (before behind : Storage) (m : List ℤ) → ((k : ℕ) (h : Home) → slice_get pack k ≡ Some h → gone h ≡ false → cells.value_at l behind h 0 ≡ cells.value_at l before h 0)
      → PackStands l pack m before → PackStands l pack (forgotten_cells (size_of pack) gone 1 pack m) behind
  homes_left gone before behind m same stands =
      cells_left gone before behind (cells_in l pack before) m (λ k h. refl) refl
      (λ k h is left_. cell_value behind k h is ∙ ap (λ (o : Option ℤ). option_map (λ v. v *ℤ pos (unit_of l pack h)) o) (same k h is left_) ∙ sym (cell_value before k h is)) stands

  -- no cell's value changes
  pub all_left : (before behind : Storage) (m : List ℤ) → ((k : ℕ) (h : Home) → slice_get pack k ≡ Some h → cells.value_at l behind h 0 ≡ cells.value_at l before h 0)
      → PackStands l pack m before → PackStands l pack m behind
  all_left before behind m same stands = same_values (size_of pack + 1) (word (size_of pack + 1) m) (cells_in l pack before) (cells_in l pack behind) all stands
    where
      all : (k : ℕ) → cells_in l pack behind k ≡ cells_in l pack before k
      all zero = refl
      all (suc k) = go (slice_get pack k) refl
        where
          go : (o : Option Home) → slice_get pack k ≡ o → (o >>= λ h. option_map (λ v. v *ℤ pos (unit_of l pack h)) (cells.value_at l behind h 0)) ≡ (o >>= λ h. option_map (λ v. v *ℤ pos (unit_of l pack h)) (cells.value_at l before h 0))
          go None e = refl
          go (Some h) e = ap (λ (v : Option ℤ). option_map (λ v. v *ℤ pos (unit_of l pack h)) v) (same k h e)

  -- one cell gets a value, of which the matrix knows
  pub put_left : (gone : Home → Bool) (before behind : Storage) (at : ℕ) (z : ℤ) (m : List ℤ) → cells_in l pack behind (suc at) ≡ Some z → at < size_of pack
      → ((k : ℕ) (h : Home) → k ≢ at → slice_get pack k ≡ Some h → gone h ≡ false → cells.value_at l behind h 0 ≡ cells.value_at l before h 0)
      → StandsIn (size_of pack + 1) (word (size_of pack + 1) m) (with_value (cells_in l pack before) (suc at) z)
      → PackStands l pack (forgotten_cells (size_of pack) gone 1 pack m) behind
  put_left gone before behind at z m new within same stands =
      cells_left gone before behind (with_value (cells_in l pack before) (suc at) z) m
      (λ k le. other k (λ e. omega (arith, e, le, within)))
      (let ne : nat_eq 0 (suc at) ≡ false = ne_eqb 0 (suc at) (λ e. omega (arith, e)) in ap (λ (b : Bool). if b then Some z else None) ne)
      (λ k h is left_. elim (cases_eq k at) as (λ _. cells_in l pack behind (suc k) ≡ with_value (cells_in l pack before) (suc at) z (suc k)) [
        | inl e ↦ its k e
        | inr ne ↦ (cell_value behind k h is ∙ ap (λ (o : Option ℤ). option_map (λ v. v *ℤ pos (unit_of l pack h)) o) (same k h ne is left_) ∙ sym (cell_value before k h is)) ∙ sym (other k ne)
      ])
      stands
    where
      other : (k : ℕ) → k ≢ at → with_value (cells_in l pack before) (suc at) z (suc k) ≡ cells_in l pack before (suc k)
      other k ne = rw (ne_eqb (suc k) (suc at) (λ e. ne (omega (arith, e)))) refl

      its : (k : ℕ) → k ≡ at → cells_in l pack behind (suc k) ≡ with_value (cells_in l pack before) (suc at) z (suc k)
      its k e = rw (eq-eqb (suc k) (suc at) (ap suc e)) (ap (λ (j : ℕ). cells_in l pack behind (suc j)) e ∙ new)

  -- so where nothing is forgotten
  pub put_all : (before behind : Storage) (at : ℕ) (z : ℤ) (m : List ℤ) → cells_in l pack behind (suc at) ≡ Some z
      → ((k : ℕ) (h : Home) → k ≢ at → slice_get pack k ≡ Some h → cells.value_at l behind h 0 ≡ cells.value_at l before h 0)
      → StandsIn (size_of pack + 1) (word (size_of pack + 1) m) (with_value (cells_in l pack before) (suc at) z) → PackStands l pack m behind
  put_all before behind at z m new same stands =
      same_values (size_of pack + 1) (word (size_of pack + 1) m) (with_value (cells_in l pack before) (suc at) z) (cells_in l pack behind) all stands
    where
      all : (k : ℕ) → cells_in l pack behind k ≡ with_value (cells_in l pack before) (suc at) z k
      all zero = let ne : nat_eq 0 (suc at) ≡ false = ne_eqb 0 (suc at) (λ e. omega (arith, e)) in sym (ap (λ (b : Bool). if b then Some z else None) ne)
      all (suc k) = elim (cases_eq k at) as (λ _. cells_in l pack behind (suc k) ≡ with_value (cells_in l pack before) (suc at) z (suc k)) [
        | inl e ↦ rw (eq-eqb (suc k) (suc at) (ap suc e)) (ap (λ (j : ℕ). cells_in l pack behind (suc j)) e ∙ new)
        | inr ne ↦ rw (ne_eqb (suc k) (suc at) (λ e. ne (omega (arith, e)))) (by_home ne (slice_get pack k) refl)
      ]
        where
          by_home : k ≢ at → (o : Option Home) → slice_get pack k ≡ o → (o >>= λ h. option_map (λ v. v *ℤ pos (unit_of l pack h)) (cells.value_at l behind h 0)) ≡ (o >>= λ h. option_map (λ v. v *ℤ pos (unit_of l pack h)) (cells.value_at l before h 0))
          by_home ne None e = refl
          by_home ne (Some h) e = ap (λ (v : Option ℤ). option_map (λ v. v *ℤ pos (unit_of l pack h)) v) (same k h ne e)

-- ---- the cell of a home

pub found_cell : (pack : Pack) (h : Home) (k : ℕ) → cell_of pack h ≡ Some k → slice_get pack k ≡ Some h
found_cell [] h k e = absurd cc
found_cell (g ∷ pack) h k e = go (is_home g h) refl e (λ j f. found_cell pack h j f)
  where
    later : (o : Option ℕ) → option_map (λ j. suc j) o ≡ Some k → ((j : ℕ) → o ≡ Some j → slice_get pack j ≡ Some h) → slice_get (g ∷ pack) k ≡ Some h
    later None e more = absurd cc
    later (Some j) e more = let same : suc j ≡ k = cc in subst (λ (i : ℕ). slice_get (g ∷ pack) i ≡ Some h) same (more j refl)

    go : (b : Bool) → is_home g h ≡ b → (if b then Some 0 else option_map (λ j. suc j) (cell_of pack h)) ≡ Some k → ((j : ℕ) → cell_of pack h ≡ Some j → slice_get pack j ≡ Some h) → slice_get (g ∷ pack) k ≡ Some h
    go true is e more = let same : 0 ≡ k = cc in subst (λ (i : ℕ). slice_get (g ∷ pack) i ≡ Some h) same (ap Some (home_is g h is))
    go false is e more = later (cell_of pack h) e more

pub no_cell_of : (pack : Pack) (h : Home) → cell_of pack h ≡ None → (k : ℕ) → slice_get pack k ≡ Some h → ⊥
no_cell_of [] h e k is = cc
no_cell_of (g ∷ pack) h e k is = go (is_home g h) refl e k is (λ none j. no_cell_of pack h none j)
  where
    none_there : (o : Option ℕ) → option_map (λ j. suc j) o ≡ None → o ≡ None
    none_there None e = refl
    none_there (Some j) e = absurd cc

    go : (b : Bool) → is_home g h ≡ b → (if b then Some 0 else option_map (λ j. suc j) (cell_of pack h)) ≡ None → (k : ℕ) → slice_get (g ∷ pack) k ≡ Some h → (cell_of pack h ≡ None → (j : ℕ) → slice_get pack j ≡ Some h → ⊥) → ⊥
    go true same e k is more = cc
    go false same e zero is more = let f : g ≡ h = cc in let t = same_home h in let u : is_home h h ≡ false = subst (λ (j : Home). is_home j h ≡ false) f same in cc
    go false same e (suc k) is more = more (none_there (cell_of pack h) e) k is

-- a cell of another home
pub other_cell : (p : Program) (pack : Pack) → IsPackOf p pack → (h g : Home) (at k : ℕ) → slice_get pack at ≡ Some h → slice_get pack k ≡ Some g → k ≢ at → is_home g h ≡ false
other_cell p pack of h g at k e f ne = go (is_home g h) refl
  where
    go : (b : Bool) → is_home g h ≡ b → is_home g h ≡ false
    go true is = absurd (ne (of.distinct k at h (f ∙ ap Some (home_is g h is)) e))
    go false is = is

pub not_home : (pack : Pack) (h g : Home) (k : ℕ) → cell_of pack h ≡ None → slice_get pack k ≡ Some g → is_home g h ≡ false
not_home pack h g k none e = go (is_home g h) refl
  where
    go : (b : Bool) → is_home g h ≡ b → is_home g h ≡ false
    go true is = absurd (no_cell_of pack h none k (e ∙ ap Some (home_is g h is)))
    go false is = is

pub decimals_within : (l : Layout) (pack : Pack) (k : ℕ) (h : Home) → slice_get pack k ≡ Some h → decimals_of l h ≤ pack_decimals l pack
decimals_within l [] k h e = absurd cc
decimals_within l (g ∷ pack) zero h e = let same : g ≡ h = cc in subst (λ (j : Home). decimals_of l j ≤ max (decimals_of l g) (pack_decimals l pack)) same (le-max_left (decimals_of l g) (pack_decimals l pack))
decimals_within l (g ∷ pack) (suc k) h e = let more = decimals_within l pack k h e in let right = le-max_right (decimals_of l g) (pack_decimals l pack) in omega (arith, more, right)

-- ---- items with cells

-- an edited item has no cell
module _ (l : Layout) (place digits scale : ℕ) (picture : List ℕ) where
  counts_apart : (ss : List Stmt) → Contains (count_homes ss) (of_item place) → ⊥
  counts_apart [] c = omega (arith, c.1)
  counts_apart (MkStmt n line a ∷ ss) c =
      elim (Contains-append_cases (act_homes n a) (count_homes ss) (of_item place) c) [
        | inl d ↦ in_act a d
        | inr d ↦ counts_apart ss d
      ]
    where
      one : Contains (of_count n ∷ []) (of_item place) → ⊥
      one (zero, lt, is) = cc
      one (suc k, lt, is) = omega (arith, lt)

      in_act : (a : Act) → Contains (act_homes n a) (of_item place) → ⊥
      in_act (perform body (times x)) d = one d
      in_act (perform body once) d = omega (arith, d.1)
      in_act (perform body (until after t)) d = omega (arith, d.1)
      in_act (perform body (varying after item start by t)) d = omega (arith, d.1)
      in_act (arithmetic s ts r size fine) d = omega (arith, d.1)
      in_act (if_ t held other) d = omega (arith, d.1)
      in_act (evaluate ws other) d = omega (arith, d.1)
      in_act (reading f into end fine) d = omega (arith, d.1)
      in_act (open_files os) d = omega (arith, d.1)
      in_act (close_files fs) d = omega (arith, d.1)
      in_act (write r from) d = omega (arith, d.1)
      in_act (move x places) d = omega (arith, d.1)
      in_act (go_to n) d = omega (arith, d.1)
      in_act nothing d = omega (arith, d.1)
      in_act stop d = omega (arith, d.1)
      in_act (show xs) d = omega (arith, d.1)

  items_apart : (n : ℕ) (items : List Item) → ((k : ℕ) → slice_get l.items (n + k) ≡ slice_get items k) → form_at l place ≡ form.Edited picture digits scale → Contains (item_homes n items) (of_item place) → ⊥
  items_apart n [] stand e c = omega (arith, c.1)
  items_apart n (i ∷ items) stand e c =
      elim (Contains-append_cases (if_named i.name (home_of n i.form)) (item_homes (suc n) items) (of_item place) c) [
        | inl d ↦ named i.name d
        | inr d ↦ items_apart (suc n) items (λ k. let same : suc n + k ≡ n + suc k = omega arith in ap (slice_get l.items) same ∙ stand (suc k)) e d
      ]
    where
      its_form : n ≡ place → i.form ≡ form.Edited picture digits scale
      its_form same =
          let zeroth : n + 0 ≡ place = omega (arith, same) in
          let at : item_at l place ≡ Some i = ap (slice_get l.items) (sym zeroth) ∙ stand 0 in
          sym (ap (λ (o : Option Item). option_map_or (λ j. j.form) o form.Group) at) ∙ e

      one : (f : Form) → i.form ≡ f → (form.Edited picture digits scale ≡ f → ⊥) → Contains (of_item n ∷ []) (of_item place) → ⊥
      one f its ne (zero, lt, is) = let same : n ≡ place = cc in ne (sym (its_form same) ∙ its)
      one f its ne (suc k, lt, is) = omega (arith, lt)

      by_form : (f : Form) → i.form ≡ f → Contains (home_of n f) (of_item place) → ⊥
      by_form form.Group its d = omega (arith, d.1)
      by_form (form.Text many) its d = short (nat_le many 18) d
        where
          short : (b : Bool) → Contains (if b then of_item n ∷ [] else []) (of_item place) → ⊥
          short true d = one (form.Text many) its (λ f. cc) d
          short false d = omega (arith, d.1)
      by_form (form.Number d s signed kept) its c = one (form.Number d s signed kept) its (λ f. cc) c
      by_form (form.Edited pic d s) its c = omega (arith, c.1)

      named : (o : Option (List ℕ)) → Contains (if_named o (home_of n i.form)) (of_item place) → ⊥
      named None d = omega (arith, d.1)
      named (Some name) d = by_form i.form refl d

pub edited_apart : (p : Program) (place digits scale : ℕ) (picture : List ℕ) → form_at p.layout place ≡ form.Edited picture digits scale → Contains (homes_of p) (of_item place) → ⊥
edited_apart p place digits scale picture e c =
    elim (Contains-append_cases (item_homes 0 p.layout.items) (count_homes (program_statements p)) (of_item place) c) [
      | inl d ↦ items_apart p.layout place digits scale picture 0 p.layout.items (λ k. let same : 0 + k ≡ k = omega arith in ap (slice_get p.layout.items) same) e d
      | inr d ↦ counts_apart p.layout place digits scale picture (program_statements p) d
    ]
