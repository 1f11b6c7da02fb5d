-- What a counter goes down to is one of the numbers of its form.
use Rattle.std.proofs.Common.{◌≡◌, ◌≤◌, ℕ, Bool, true, false, if◌then◌else◌, List, Option, Some, None, ℤ, pos, negsuc, neg_ℤ, ◌+ℤ◌, ◌-ℤ◌, ◌*ℤ◌, refl, ap, subst, ◌∙◌, arith}
use Rattle.std.specs.Prelude.{nat_le, ◌-◌, ◌^◌}
use Rattle.std.specs.Int.{int_div_euclid}
use Rattle.std.proofs.lemmas.Int.{ints}
use Rattle.std.proofs.lemmas.Bool.Decides.{nat_tests}
use Rattle.dec_num.specs.declared.types.Scaled.{Scaled}
use Rattle.cob_data.specs.declared.extent.Extent.{Extent}
use Rattle.interval_domain.specs.declared.bounds.Interval.{Interval}
use Rattle.interval_domain.specs.Bounds.{Holds}
use Rattle.interval_domain.specs.Corners.{interval}
use Rattle.cob_program.specs.Act.{Program}
use Rattle.cob_program.specs.Values.{whole_number, plus}
use Rattle.cob_edge_parts.specs.Meaning.{count_in}
use Rattle.diff_bounds.specs.Forms.{if_small}
use Rattle.sum_ranges.specs.Ranged.{decimal, point}
use Rattle.sum_ranges.proofs.Least.{point_in}
use Rattle.sum_forms.specs.Constants.{floor_at, outward, constant_form}
use Rattle.cob_graph.specs.declared.homes.Home.TheVariants.{Count as of_count}
use Rattle.cob_graph.specs.Homes.{homes_of}
use Rattle.cell_steps.specs.Storages.{storage, StandsIn}
use Rattle.cell_steps.specs.Premises.{HasSoundItems}
use Rattle.cell_steps.specs.Cells.{units_of}
use Rattle.cell_steps.specs.Seen.{Seen}
use Rattle.diff_steps.specs.Packs.{Pack, size_of, cell_of, pack_decimals, cells_in}
use Rattle.diff_steps.specs.Forms.{counter_form, lowered_form}
use Rattle.pack_laws.proofs.FormsShowValues.{Told, range_told, added_told}
use Rattle.pack_laws.proofs.FormsShowSums.{count_told}

-- ---- one less

floor_of_whole : (f : ℕ) (u : ℤ) → floor_at f (decimal u 0) ≡ u *ℤ pos (10 ^ f)
floor_of_whole f u = by_scale (nat_le 0 f) refl
  where
    never : nat_le 0 f ≡ false → ⊥
    never e = grind (arith, nat_tests)

    by_scale : (b : Bool) → nat_le 0 f ≡ b → (if b then u *ℤ pos (10 ^ (f - 0)) else int_div_euclid u (pos (10 ^ (0 - f)))) ≡ u *ℤ pos (10 ^ f)
    by_scale true e = let same : f - 0 ≡ f = omega arith in ap (λ (n : ℕ). u *ℤ pos (10 ^ n)) same
    by_scale false e = absurd (never e)

minus_times : (n : ℕ) → negsuc 0 *ℤ pos n ≡ neg_ℤ (pos n)
minus_times n = omega (arith, ints)

once_times : (n : ℕ) → pos 1 *ℤ pos n ≡ pos n
once_times n = omega (arith, ints)

ends_are : (l h u v : ℤ) → l ≡ u → h ≡ v → interval l h ≡ interval u v
ends_are l h u v e g = rw (e, g) refl

minus_one_outward : (f : ℕ) → outward f (point (whole_number (negsuc 0))) ≡ interval (neg_ℤ (pos (10 ^ f))) (neg_ℤ (pos (10 ^ f)))
minus_one_outward f =
    ends_are _ _ (neg_ℤ (pos (10 ^ f))) (neg_ℤ (pos (10 ^ f))) (floor_of_whole f (negsuc 0) ∙ minus_times (10 ^ f))
    (ap neg_ℤ (floor_of_whole f (pos 1) ∙ once_times (10 ^ f)))

one_less : (v : ℤ) → plus (whole_number v) (whole_number (negsuc 0)) ≡ whole_number (v -ℤ pos 1)
one_less v = let e : (v *ℤ pos 1) +ℤ (negsuc 0 *ℤ pos 1) ≡ v -ℤ pos 1 = omega (arith, ints) in ap whole_number e

module _ (p : Program) (sound : HasSoundItems p.layout) (s : Seen) (bytes : List ℕ) (counts : List (Option ℤ)) (stands : StandsIn p s.cells (storage bytes counts)) (pack : Pack) (few : size_of pack ≤ 8) (wrote : List Extent) where
  -- the counter's number where the pack has its cell, and else any of its range, less one
  pub lowered_told : (statement : ℕ) (v : ℤ) → ((k : ℕ) → cell_of pack (of_count statement) ≡ Some k → count_in counts statement ≡ Some v)
      → (cell_of pack (of_count statement) ≡ None → Holds (units_of p.layout (homes_of p) s.cells (of_count statement)) v)
      → Told (cells_in p.layout pack (storage bytes counts)) (pack_decimals p.layout pack) (lowered_form p pack s wrote statement) (whole_number (v -ℤ pos 1))
  lowered_told statement v there within =
      subst (λ (d : Scaled). Told (cells_in p.layout pack (storage bytes counts)) (pack_decimals p.layout pack) (lowered_form p pack s wrote statement) d) (one_less v)
      (added_told (cells_in p.layout pack (storage bytes counts)) (pack_decimals p.layout pack) (counter_form p pack s wrote statement)
      (if_small (constant_form (interval (neg_ℤ (pos (10 ^ pack_decimals p.layout pack))) (neg_ℤ (pos (10 ^ pack_decimals p.layout pack)))))) (whole_number v) (whole_number (negsuc 0))
      (count_told p sound s.cells bytes counts stands pack few statement v there within)
      (subst (λ (i : Interval). Told (cells_in p.layout pack (storage bytes counts)) (pack_decimals p.layout pack) (if_small (constant_form i)) (whole_number (negsuc 0))) (minus_one_outward (pack_decimals p.layout pack))
      (range_told (cells_in p.layout pack (storage bytes counts)) (pack_decimals p.layout pack) (point (whole_number (negsuc 0))) (whole_number (negsuc 0)) (point_in (whole_number (negsuc 0))))))
