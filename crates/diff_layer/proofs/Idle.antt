-- Parts that change no matrix.
use Rattle.std.proofs.Common.{◌≡◌, List, [], ◌∷◌, length, get_or, take, drop, ◌-◌, ◌≤◌, ℤ, Option, Some, refl, sym, ap, subst, ◌∙◌}
use Rattle.std.specs.List.{AllByRecursion}
use Rattle.cob_data.specs.declared.extent.Extent.{Extent}
use Rattle.cob_program.specs.Values.{◌>>=◌}
use Rattle.cob_program.specs.Act.{Program}
use Rattle.cob_edge_parts.specs.Parts.{Part, read, unread, subscript, index, divide, store, bytes_in, guard, read_count, set_count, count_down, guard_count}
use Rattle.transfer_ranges.specs.declared.amounts.Taken.{Taken}
use Rattle.interval_domain.specs.Known.{Known}
use Rattle.cob_graph.specs.declared.homes.Home.{Home}
use Rattle.cell_layer.specs.Latest.{Latest}
use Rattle.diff_steps.specs.Packs.{Pack}
use Rattle.diff_steps.specs.Steps.{each_pack, all_closed}
use Rattle.diff_layer.specs.Closed.{AreClosedBy, IsIdle}
use Rattle.diff_layer.specs.Parts.{plan_changed}
use Rattle.diff_layer.proofs.PackRows.{split_is}

module _ (p : Program) (before known : List Known) (common : Option Taken) (latest : Latest) (wrote : List Extent) where
  nothing_changed : (y : Part) → IsIdle y → (pack : Pack) (m : List ℤ) → plan_changed p before common latest wrote y pack m ≡ m
  nothing_changed (read place) idle pack m = refl
  nothing_changed unread idle pack m = refl
  nothing_changed (subscript last k) idle pack m = refl
  nothing_changed (index last k count) idle pack m = refl
  nothing_changed (divide d) idle pack m = refl
  nothing_changed (store place mode y) idle pack m = absurd idle
  nothing_changed (bytes_in offset count) idle pack m = absurd idle
  nothing_changed (guard t wanted) idle pack m = absurd idle
  nothing_changed (read_count n) idle pack m = refl
  nothing_changed (set_count n y) idle pack m = absurd idle
  nothing_changed (count_down n) idle pack m = absurd idle
  nothing_changed (guard_count n wanted) idle pack m = refl

  -- matrices stay closed behind a part that changes nothing
  pub idle_closed : (y : Part) → IsIdle y → (packs : List Pack) (ms : List (List ℤ)) → AreClosedBy p known packs ms → all_closed p known packs (each_pack (plan_changed p before common latest wrote y) packs ms) ≡ Some ms
  idle_closed y idle [] [] closes = refl
  idle_closed y idle [] (m ∷ ms) closes = absurd closes
  idle_closed y idle (pack ∷ packs) [] closes = absurd closes
  idle_closed y idle (pack ∷ packs) (m ∷ ms) closes =
      ap (λ k. all_closed p known (pack ∷ packs) (k ∷ each_pack (plan_changed p before common latest wrote y) packs ms)) (nothing_changed y idle pack m)
      ∙ (ap (λ o. o >>= λ d. all_closed p known packs (each_pack (plan_changed p before common latest wrote y) packs ms) >>= λ ds. Some (d ∷ ds)) closes.0
      ∙ ap (λ o. o >>= λ ds. Some (m ∷ ds)) (idle_closed y idle packs ms closes.1))

-- ---- the first cell, and those behind it

pub all_cells : (P : Home → Type 0) (pack : List Home) (d : Home) → 1 ≤ length pack → P (get_or pack 0 d)
    → AllByRecursion P (take (length pack - 1) (drop 1 pack)) → AllByRecursion P pack
all_cells P pack d some here rest = subst (λ (cs : List Home). AllByRecursion P cs) (sym (split_is pack d some)) (here, rest)
