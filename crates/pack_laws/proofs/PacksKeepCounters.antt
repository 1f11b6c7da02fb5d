-- A counter with a cell in a pack gets a number.
use Rattle.std.proofs.Common.{◌≡◌, ℕ, suc, ◌+◌, ◌-◌, ◌^◌, ◌≤◌, ◌==◌, true, false, List, ℤ, pos, ◌+ℤ◌, ◌*ℤ◌, ◌≤ℤ◌, Option, Some, None, refl, ap, subst, ◌∙◌, arith}
use Rattle.std.specs.Prelude.{IfSome, slice_get, slice_set}
use Rattle.std.specs.Option.{option_map}
use Rattle.std.proofs.lemmas.Int.{ints}
use Rattle.std.proofs.lemmas.Bool.{eq-eqb}
use Rattle.std.proofs.lemmas.Option.{slice_get_within}
use Rattle.dec_num.specs.declared.types.Scaled.{Scaled}
use Rattle.dec_num.specs.Exact.{Fraction}
use Rattle.dec_num.specs.Scaled.{value_of}
use Rattle.cob_program.specs.Act.{Act, Program}
use Rattle.cob_runs.specs.declared.action.Action.{Action}
use Rattle.cob_edge_parts.specs.Meaning.{Moment}
use Rattle.diff_bounds.specs.declared.form.lin.Lin.{Lin}
use Rattle.diff_bounds.specs.Forms.{coef, dot}
use Rattle.diff_bounds.specs.Matrix.{word}
use Rattle.diff_bounds.specs.Storages.{StandsIn}
use Rattle.diff_bounds.specs.Values.{worths}
use Rattle.diff_bounds.specs.Assigned.{with_value, IsValue}
use Rattle.interval_domain.specs.Known.{Known}
use Rattle.cob_graph.specs.declared.homes.Home.{Home}
use Rattle.cob_graph.specs.declared.homes.Home.TheVariants.{Item as of_item, Count as of_count}
use Rattle.cob_graph.specs.Homes.{is_home}
use Rattle.cell_steps.specs.Storages as values
use Rattle.cell_steps.specs.Storages.{storage}
use Rattle.cell_steps.specs.Agreeing.{IsSoundEdge}
use Rattle.cell_laws.proofs.Counters.{count_set, count_elsewhere, differs}
use Rattle.diff_steps.specs.Packs.{Pack, size_of, cell_of, pack_decimals, unit_of, cells_in, PackStands}
use Rattle.diff_steps.specs.Stores.{assigned_or_forgotten}
use Rattle.diff_steps.specs.Steps.{counter_stored, counted_pack}
use Rattle.pack_laws.specs.Orders.{IsShown}
use Rattle.pack_laws.proofs.Kept.{assigned_stands}
use Rattle.pack_laws.specs.Agreeing.{IsPackOf}
use Rattle.pack_laws.proofs.PacksKeepCells.{found_cell, cell_value, all_left, put_all, with_any, not_home, other_cell}

-- two decimals of one value are shown by the same forms
pub same_shown : (size : ℕ) (cells : ℕ → Option ℤ) (form : Lin) (d v : Scaled) (f : ℕ) → value_of v ≡ value_of d → IsShown size cells form d f → IsShown size cells form v f
same_shown size cells form d v f e is =
    let units : v.units ≡ d.units = ap (λ (q : Fraction). q.top) e in
    let bottoms : 10 ^ v.scale ≡ 10 ^ d.scale = ap (λ (q : Fraction). q.bottom) e in
    record {
      over = is.over;
      operands = is.operands;
      spans = record {
        least = rw (units, bottoms) is.spans.least;
        most = rw (units, bottoms) is.spans.most;
      };
    }

-- a whole number that a form shows is one of the form's numbers, in the pack's unit
whole_value : (size : ℕ) (cells : ℕ → Option ℤ) (form : Lin) (v : Scaled) (f : ℕ) → v.scale ≡ 0 → IsShown size cells form v f → IsValue size cells form (v.units *ℤ pos (10 ^ f))
whole_value size cells form v f e is =
    let one : 10 ^ v.scale ≡ 1 = ap (λ (n : ℕ). 10 ^ n) e in
    let least : ((dot (coef form) (λ j. worths cells (suc j)) 8 +ℤ form.constant.low) *ℤ pos 1) ≤ℤ (v.units *ℤ pos (10 ^ f)) = subst (λ (n : ℕ). ((dot (coef form) (λ j. worths cells (suc j)) 8 +ℤ form.constant.low) *ℤ pos n) ≤ℤ (v.units *ℤ pos (10 ^ f))) one is.spans.least in
    let most : (v.units *ℤ pos (10 ^ f)) ≤ℤ ((dot (coef form) (λ j. worths cells (suc j)) 8 +ℤ form.constant.high) *ℤ pos 1) = subst (λ (n : ℕ). (v.units *ℤ pos (10 ^ f)) ≤ℤ ((dot (coef form) (λ j. worths cells (suc j)) 8 +ℤ form.constant.high) *ℤ pos n)) one is.spans.most in
    record { operands = is.operands; held = (omega (arith, ints, least), omega (arith, ints, most)) }

module _ (p : Program) (statement : ℕ) (a : Act) (x : Action) (sound : IsSoundEdge p statement a x) (pack : Pack) (of : IsPackOf p pack) (few : size_of pack ≤ 8) where
  -- a form shows a whole number
  pub record IsWholeShown (cells : ℕ → Option ℤ) (form : Lin) (v : Scaled) : Type 0 where
    pub whole : v.scale ≡ 0
    pub shown : IsShown (size_of pack) cells form v (pack_decimals p.layout pack)

  -- other cells keep their values
  elsewhere : (bytes : List ℕ) (counts : List (Option ℤ)) (k : ℕ) (v : ℤ) → 1 ≤ k → (j : ℕ) (h : Home) → slice_get pack j ≡ Some h → is_home h (of_count k) ≡ false
      → values.value_at p.layout (storage bytes (slice_set counts (k - 1) (Some v))) h 0 ≡ values.value_at p.layout (storage bytes counts) h 0
  elsewhere bytes counts k v first j (of_item place) e ne = refl
  elsewhere bytes counts k v first j (of_count n) e ne =
      count_elsewhere counts n k v (differs n k (sound.counts n (of.homes j (of_count n) e)).first first (apart n k ne))
    where
      apart : (n k : ℕ) → (n == k) ≡ false → ¬ n ≡ k
      apart n k f g = let t : (n == k) ≡ true = eq-eqb n k g in cc

  -- it gets what a form shows
  pub counted_stands : (m : Moment) (cells : List Known) (k : ℕ) (v : Scaled) (form : Option Lin) (w : List ℤ) → 1 ≤ k → values.StandsIn p cells (storage m.storage m.counts)
      → ((at : ℕ) → cell_of pack (of_count k) ≡ Some at → IfSome form (λ g. IsWholeShown (cells_in p.layout pack (storage m.storage m.counts)) g v))
      → PackStands p.layout pack w (storage m.storage m.counts)
      → PackStands p.layout pack (counted_pack p a x k form pack w) (storage m.storage (slice_set m.counts (k - 1) (Some v.units)))
  counted_stands m cells k v form w first known shown stands = by_cell (cell_of pack (of_count k)) refl
    where
      put : (at : ℕ) → slice_get pack at ≡ Some (of_count k) → (o : Option Lin)
          → IfSome o (λ g. IsWholeShown (cells_in p.layout pack (storage m.storage m.counts)) g v)
          → StandsIn (size_of pack + 1) (word (size_of pack + 1) (assigned_or_forgotten (size_of pack) (suc at) o w)) (with_value (cells_in p.layout pack (storage m.storage m.counts)) (suc at) (v.units *ℤ pos (10 ^ pack_decimals p.layout pack)))
      put at e None h = with_any (size_of pack) w (cells_in p.layout pack (storage m.storage m.counts)) (suc at) _ (let lt = slice_get_within pack at (of_count k) e in omega (arith, lt)) stands
      put at e (Some g) h =
          assigned_stands (size_of pack) (suc at) g w (cells_in p.layout pack (storage m.storage m.counts)) (v.units *ℤ pos (10 ^ pack_decimals p.layout pack)) few h.shown.over (omega arith)
          (let lt = slice_get_within pack at (of_count k) e in omega (arith, lt)) stands
          (whole_value (size_of pack) (cells_in p.layout pack (storage m.storage m.counts)) g v (pack_decimals p.layout pack) h.whole h.shown)

      new_value : (at : ℕ) → slice_get pack at ≡ Some (of_count k) → cells_in p.layout pack (storage m.storage (slice_set m.counts (k - 1) (Some v.units))) (suc at) ≡ Some (v.units *ℤ pos (10 ^ pack_decimals p.layout pack))
      new_value at e =
          let is = sound.counts k (of.homes at (of_count k) e) in
          let held = known.counted k is.act is.at is.times in
          let same : pack_decimals p.layout pack - 0 ≡ pack_decimals p.layout pack = omega arith in
          cell_value p.layout pack (storage m.storage (slice_set m.counts (k - 1) (Some v.units))) at (of_count k) e
          ∙ ap (λ (o : Option ℤ). option_map (λ z. z *ℤ pos (unit_of p.layout pack (of_count k))) o) (count_set m.counts k v.units held.count held.held)
          ∙ ap (λ (n : ℕ). Some (v.units *ℤ pos (10 ^ n))) same

      by_cell : (o : Option ℕ) → cell_of pack (of_count k) ≡ o → PackStands p.layout pack (counter_stored p a x k form pack o w) (storage m.storage (slice_set m.counts (k - 1) (Some v.units)))
      by_cell None e =
          all_left p.layout pack (storage m.storage m.counts) (storage m.storage (slice_set m.counts (k - 1) (Some v.units))) w
          (λ j h f. elsewhere m.storage m.counts k v.units first j h f (not_home pack (of_count k) h j e f)) stands
      by_cell (Some at) e =
          let f = found_cell pack (of_count k) at e in
          put_all p.layout pack (storage m.storage m.counts) (storage m.storage (slice_set m.counts (k - 1) (Some v.units))) at (v.units *ℤ pos (10 ^ pack_decimals p.layout pack))
          (assigned_or_forgotten (size_of pack) (suc at) form w) (new_value at f)
          (λ j h ne g. elsewhere m.storage m.counts k v.units first j h g (other_cell p pack of (of_count k) h at j f g ne))
          (put at f form (shown at e))
