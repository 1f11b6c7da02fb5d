-- Forms over cells that have values, and decimals that are among their numbers.
use Rattle.std.proofs.Common.{◌≡◌, ◌≢◌, ◌<◌, ◌≤◌, ℕ, suc, ◌-◌, ◌^◌, true, Option, Some, None, ℤ, pos, negsuc, ◌*ℤ◌, refl, sym, ap, subst, arith}
use Rattle.std.specs.Prelude.{IfSome}
use Rattle.dec_num.specs.declared.types.Scaled.{Scaled}
use Rattle.dec_num.specs.Exact.{Fraction}
use Rattle.dec_num.specs.Scaled.{value_of}
use Rattle.cob_program.specs.Values.{negated, plus, product, ◌>>=◌}
use Rattle.cob_program.proofs.Steps.{some_same}
use Rattle.diff_bounds.specs.declared.form.lin.Lin.{Lin}
use Rattle.diff_bounds.specs.Forms.{if_small}
use Rattle.diff_bounds.specs.Results.{sum_of, multiple_of}
use Rattle.diff_bounds.specs.Upper.{coef_at}
use Rattle.diff_bounds.specs.Values.{worth, worths, HasValue}
use Rattle.sum_ranges.specs.declared.ranged.Ranged.{Ranged}
use Rattle.sum_ranges.specs.Ranged.{decimal, point, IsIn}
use Rattle.sum_ranges.proofs.Least.{point_in}
use Rattle.sum_forms.specs.Constants.{range_form, cell_form}
use Rattle.sum_forms.specs.SumForms.{scaled_form, turned_form}
use Rattle.sum_forms.specs.Values.{Shows, AreHeld}
use Rattle.sum_forms.proofs.Shows.{if_there, range_shows, item_shows}
use Rattle.sum_forms.proofs.Sound.{if_then, multiple_shows, minus_one, sum_shows}
use Rattle.diff_steps.specs.Forms.{added_forms}
use Rattle.pack_laws.specs.Orders.{IsShown}
use Rattle.pack_laws.proofs.FormsShowItems.{IsOfValues, range_is_of_values, cell_is_of_values, multiple_is_of_values, sum_is_of_values}

-- ---- forms that tell a decimal

module _ (cells : ℕ → Option ℤ) (f : ℕ) where
  -- the decimal is one of the numbers of a form over cells that have values
  pub record IsTold (form : Lin) (d : Scaled) : Type 0 where
    pub valued : IsOfValues cells form
    pub shows : Shows f (λ k. worths cells (suc k)) form d

  abbrev pub Told : Option Lin → Scaled → Type 0
  Told o d = IfSome o (λ form. IsTold form d)

  pub told : (o : Option Lin) (d : Scaled) → IfSome o (IsOfValues cells) → IfSome o (λ form. Shows f (λ k. worths cells (suc k)) form d) → Told o d
  told None d h k = tt
  told (Some form) d h k = record { valued = h; shows = k }

  pub range_told : (r : Ranged) (v : Scaled) → IsIn v r → Told (range_form f r) v
  range_told r v h = told (range_form f r) v (range_is_of_values cells f r) (range_shows f r v (λ k. worths cells (suc k)) h)

  -- the value of a cell, in the pack's unit
  pub cell_told : (k : ℕ) (v : Scaled) (z : ℤ) → k < 8 → cells (suc k) ≡ Some z → z *ℤ pos (10 ^ v.scale) ≡ v.units *ℤ pos (10 ^ f) → IsTold (cell_form k) v
  cell_told k v z few e same = record {
    valued = cell_is_of_values cells k (λ none. there (cells (suc k)) e none);
    shows = item_shows f (λ _. Some k) (λ _. point v) (λ _. v) (λ j. worths cells (suc j)) are 0;
  }
    where
      there : (o : Option ℤ) → o ≡ Some z → o ≡ None → ⊥
      there o e g = cc

      are : AreHeld f (λ _. Some k) (λ _. point v) (λ _. v) (λ j. worths cells (suc j))
      are = record {
        held = λ _. point_in v;
        values = λ _ j g. subst (λ (i : ℕ). worths cells (suc i) *ℤ pos (10 ^ v.scale) ≡ v.units *ℤ pos (10 ^ f)) (some_same k j g)
            (subst (λ (o : Option ℤ). worth o *ℤ pos (10 ^ v.scale) ≡ v.units *ℤ pos (10 ^ f)) (sym e) same);
        few = λ _ j g. subst (λ (i : ℕ). i < 8) (some_same k j g) few;
      }

  -- ---- multiples

  multiple_told : (form : Lin) (k : ℤ) (v w : Scaled) → w.units ≡ k *ℤ pos (10 ^ w.scale) → IsTold form v → IsTold (multiple_of form k) (product v w)
  multiple_told form k v w is h = record {
    valued = multiple_is_of_values cells form k h.valued;
    shows = multiple_shows f (λ j. worths cells (suc j)) form k v w is h.shows;
  }

  pub scaled_told : (k : ℤ) (o : Option Lin) (v w : Scaled) → w.units ≡ k *ℤ pos (10 ^ w.scale) → Told o v → Told (o >>= scaled_form k) (product v w)
  scaled_told k o v w is h =
      if_then o (λ form. IsTold form v) (λ form. IsTold form (product v w)) (scaled_form k) h
      (λ form l. if_there (λ g. IsTold g (product v w)) (multiple_of form k) (multiple_told form k v w is l))

  pub turned_told : (o : Option Lin) (v : Scaled) → Told o v → Told (o >>= turned_form true) (negated true v)
  turned_told o v h = subst (λ (w : Scaled). Told (o >>= scaled_form (negsuc 0)) w) (minus_one f (λ j. worths cells (suc j)) v) (scaled_told (negsuc 0) o v (decimal (negsuc 0) 0) refl h)

  -- ---- sums

  sum_told : (a b : Lin) (v w : Scaled) → IsTold a v → IsTold b w → IsTold (sum_of a b) (plus v w)
  sum_told a b v w h k = record {
    valued = sum_is_of_values cells a b h.valued k.valued;
    shows = sum_shows f (λ j. worths cells (suc j)) a b v w h.shows k.shows;
  }

  pub added_told : (o q : Option Lin) (v w : Scaled) → Told o v → Told q w → Told (added_forms o q) (plus v w)
  added_told o q v w h k =
      if_then o (λ form. IsTold form v) (λ form. IsTold form (plus v w)) (λ a. q >>= λ b. if_small (sum_of a b)) h
      (λ a l. if_then q (λ form. IsTold form w) (λ form. IsTold form (plus v w)) (λ b. if_small (sum_of a b)) k
      (λ b n. if_there (λ g. IsTold g (plus v w)) (sum_of a b) (sum_told a b v w l n)))

  -- ---- what is told

  -- by value alone, whatever the scale
  pub same_told : (o : Option Lin) (v w : Scaled) → value_of v ≡ value_of w → Told o w → Told o v
  same_told None v w e h = tt
  same_told (Some form) v w e h =
      let units : v.units ≡ w.units = ap (λ (x : Fraction). x.top) e in
      let scale : 10 ^ v.scale ≡ 10 ^ w.scale = ap (λ (x : Fraction). x.bottom) e in
      let shows = h.shows in
      record { valued = h.valued; shows = record { least = rw (units, scale) shows.least; most = rw (units, scale) shows.most } }

  module _ (size : ℕ) (few : size ≤ 8) (beyond : (k : ℕ) → size ≤ k → cells (suc k) ≡ None) where
    pub shown : (form : Lin) (d : Scaled) → IsTold form d → IsShown size cells form d f
    shown form d h = record {
      over = record { beyond = λ k l n. valued.none k (beyond k l) n };
      operands = record { values = λ j some within ne. by_value j some within ne (cells j) refl };
      spans = h.shows;
    }
      where
        valued : IsOfValues cells form
        valued = h.valued

        by_value : (j : ℕ) → 0 < j → j ≤ size → coef_at form.coefs j ≢ pos 0 → (o : Option ℤ) → cells j ≡ o → HasValue o
        by_value j some within ne (Some z) e = tt
        by_value j some within ne None e =
            let same : suc (j - 1) ≡ j = omega (arith, some) in
            absurd (ne (valued.none (j - 1) (subst (λ (i : ℕ). cells i ≡ None) (sym same) e) (omega (arith, some, within, few))))

    pub all_shown : (o : Option Lin) (d : Scaled) → Told o d → IfSome o (λ form. IsShown size cells form d f)
    all_shown None d h = tt
    all_shown (Some form) d h = shown form d h
