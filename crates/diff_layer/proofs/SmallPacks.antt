-- What is kept of operands changes neither what an edge makes of packs nor what it clears, where its parts are small.
use Rattle.std.proofs.Common.{◌≡◌, Bool, true, false, ◌&&◌, if◌then◌else◌, List, [], ◌∷◌, ◌++◌, ℤ, Option, Some, None, refl, ap, ◌∙◌}
use Rattle.std.specs.List.{AllByRecursion}
use Rattle.std.specs.Option.{option_map, option_map_or}
use Rattle.cob_tree.specs.declared.fault.Kind.{Kind}
use Rattle.cob_tree.specs.declared.fault.Kind.TheVariants as kind
use Rattle.cob_data.specs.declared.extent.Extent.{Extent}
use Rattle.cob_program.specs.Values.{◌>>=◌}
use Rattle.cob_program.specs.Logic.{Test, numbers, texts, member, numeric, always}
use Rattle.cob_program.specs.Act.{Act, Program}
use Rattle.cob_runs.specs.declared.action.Action.{Action}
use Rattle.cob_edge_parts.specs.Parts.{Part, read, unread, subscript, index, divide, store, bytes_in, guard, read_count, set_count, count_down, guard_count}
use Rattle.transfer_ranges.specs.declared.amounts.Taken.{Taken}
use Rattle.interval_domain.specs.Known.{Known}
use Rattle.cell_steps.specs.Seen.{Seen, beginning}
use Rattle.cell_steps.specs.Steps.{step}
use Rattle.cell_laws.specs.Sizes.{sends_small, IsSmallPart}
use Rattle.cell_layer.specs.Walks.{with_common, trimmed}
use Rattle.cell_layer.proofs.SmallEdges.{step_same}
use Rattle.diff_steps.specs.Packs.{Pack}
use Rattle.diff_steps.specs.Moments.{Seen2, with_packs}
use Rattle.diff_steps.specs.Steps.{each_pack, all_closed, guarded_pack, changed_pack, changed, written_by, step2}
use Rattle.diff_steps.specs.Edges.{steps2, finished2}
use Rattle.diff_steps.specs.Clearing.{clears_part2, clears_parts2}
use Rattle.diff_layer.specs.Walks.{step2_small, steps2_small, clears_all2}

-- ---- where a small number is sent all is kept

pub all_kept : (p : Program) (a : Act) (x : Action) → sends_small p a x ≡ true → (s : Seen) → trimmed p a x s ≡ s
all_kept p a x e s = ap (with_common s) (go (sends_small p a x) e s.common)
  where
    go : (b : Bool) → b ≡ true → (o : Option Taken) → (if b then o else None) ≡ o
    go true f o = refl
    go false f o = absurd cc

pub each_same : (f g : Pack → List ℤ → List ℤ) → ((pack : Pack) (m : List ℤ) → f pack m ≡ g pack m) → (packs : List Pack) (ms : List (List ℤ)) → each_pack f packs ms ≡ each_pack g packs ms
each_same f g same [] ms = refl
each_same f g same (pack ∷ packs) [] = refl
each_same f g same (pack ∷ packs) (m ∷ ms) = λ i. same pack m i ∷ each_same f g same packs ms i

module _ (p : Program) (a : Act) (x : Action) where
  abbrev trim : Seen → Seen
  trim s = trimmed p a x s

  -- ---- one part

  guard_same : (s : Seen) (t : Test) (wanted : Bool) (pack : Pack) (m : List ℤ) → guarded_pack p a x (trim s) t wanted pack m ≡ guarded_pack p a x s t wanted pack m
  guard_same s (numbers b r c) wanted pack m = refl
  guard_same s (texts b r c) wanted pack m = refl
  guard_same s (member place ps) wanted pack m = refl
  guard_same s (numeric place) wanted pack m = refl
  guard_same s always wanted pack m = refl

  change_same : (y : Part) (s : Seen) (wrote : List Extent) (pack : Pack) (m : List ℤ) → IsSmallPart p a x y → changed_pack p a x y (trim s) wrote pack m ≡ changed_pack p a x y s wrote pack m
  change_same (read place) s wrote pack m h = refl
  change_same unread s wrote pack m h = refl
  change_same (subscript last k) s wrote pack m h = refl
  change_same (index last k count) s wrote pack m h = refl
  change_same (divide d) s wrote pack m h = refl
  change_same (store place mode y) s wrote pack m h = ap (λ (t : Seen). changed_pack p a x (store place mode y) t wrote pack m) (all_kept p a x h.sender s)
  change_same (bytes_in offset count) s wrote pack m h = refl
  change_same (guard t wanted) s wrote pack m h = guard_same s t wanted pack m
  change_same (read_count n) s wrote pack m h = refl
  change_same (set_count n y) s wrote pack m h = ap (λ (t : Seen). changed_pack p a x (set_count n y) t wrote pack m) (all_kept p a x h.1 s)
  change_same (count_down n) s wrote pack m h = refl
  change_same (guard_count n wanted) s wrote pack m h = refl

  module _ (packs : List Pack) where
    abbrev trim2 : Seen × Seen2 → Seen × Seen2
    trim2 t = (trim t.0, t.1)

    changed_same : (y : Part) (s : Seen) (r : Seen2) → IsSmallPart p a x y → changed p a x packs y (trim s) r ≡ changed p a x packs y s r
    changed_same y s r h =
        ap (λ (ms : List (List ℤ)). record { wrote = written_by p a x y ++ r.wrote; packs = ms })
        (each_same (changed_pack p a x y (trim s) r.wrote) (changed_pack p a x y s r.wrote) (λ pack m. change_same y s r.wrote pack m h) packs r.packs)

    abbrev closed_to : Seen2 → Seen → Option (Seen × Seen2)
    closed_to c t = all_closed p t.cells packs c.packs >>= λ ms. Some (t, with_packs c ms)

    step2_same : (y : Part) (s : Seen) (r : Seen2) → IsSmallPart p a x y → step2_small p packs a x y (trim s) r ≡ option_map trim2 (step2 p a x packs y s r)
    step2_same y s r h =
        (λ i. step_same p a x y s h i >>= closed_to (changed_same y s r h i)) ∙ trimmed_later (changed p a x packs y s r) (step p a x y s)
      where
        closed_later : (c : Seen2) (t : Seen) (o : Option (List (List ℤ))) → (o >>= λ ms. Some (trim t, with_packs c ms)) ≡ option_map trim2 (o >>= λ ms. Some (t, with_packs c ms))
        closed_later c t None = refl
        closed_later c t (Some ms) = refl

        trimmed_later : (c : Seen2) (o : Option Seen) → (option_map (trimmed p a x) o >>= closed_to c) ≡ option_map trim2 (o >>= closed_to c)
        trimmed_later c None = refl
        trimmed_later c (Some t) = closed_later c t (all_closed p t.cells packs c.packs)

    clear_same : (y : Part) (s : Seen) (r : Seen2) (fault : Kind) → IsSmallPart p a x y → clears_part2 p packs a x y (trim s) r fault ≡ clears_part2 p packs a x y s r fault
    clear_same (read place) s r kind.Class h = refl
    clear_same (read place) s r kind.Size h = refl
    clear_same (read place) s r kind.Zero h = refl
    clear_same (read place) s r kind.Truncation h = refl
    clear_same (read place) s r kind.Subscript h = refl
    clear_same unread s r kind.Class h = refl
    clear_same unread s r kind.Size h = refl
    clear_same unread s r kind.Zero h = refl
    clear_same unread s r kind.Truncation h = refl
    clear_same unread s r kind.Subscript h = refl
    clear_same (subscript last k) s r kind.Class h = refl
    clear_same (subscript last k) s r kind.Size h = refl
    clear_same (subscript last k) s r kind.Zero h = refl
    clear_same (subscript last k) s r kind.Truncation h = refl
    clear_same (subscript last k) s r kind.Subscript h = refl
    clear_same (index last k count) s r kind.Class h = refl
    clear_same (index last k count) s r kind.Size h = refl
    clear_same (index last k count) s r kind.Zero h = refl
    clear_same (index last k count) s r kind.Truncation h = refl
    clear_same (index last k count) s r kind.Subscript h = refl
    clear_same (divide d) s r kind.Class h = refl
    clear_same (divide d) s r kind.Size h = refl
    clear_same (divide d) s r kind.Zero h = refl
    clear_same (divide d) s r kind.Truncation h = refl
    clear_same (divide d) s r kind.Subscript h = refl
    clear_same (store place mode y) s r fault h = ap (λ (t : Seen). clears_part2 p packs a x (store place mode y) t r fault) (all_kept p a x h.sender s)
    clear_same (bytes_in offset count) s r fault h = refl
    clear_same (guard t wanted) s r fault h = refl
    clear_same (read_count n) s r kind.Class h = refl
    clear_same (read_count n) s r kind.Size h = refl
    clear_same (read_count n) s r kind.Zero h = refl
    clear_same (read_count n) s r kind.Truncation h = refl
    clear_same (read_count n) s r kind.Subscript h = refl
    clear_same (set_count n y) s r kind.Size h = ap (λ (t : Seen). clears_part2 p packs a x (set_count n y) t r kind.Size) (all_kept p a x h.1 s)
    clear_same (set_count n y) s r kind.Class h = refl
    clear_same (set_count n y) s r kind.Zero h = refl
    clear_same (set_count n y) s r kind.Truncation h = refl
    clear_same (set_count n y) s r kind.Subscript h = refl
    clear_same (count_down n) s r kind.Size h = refl
    clear_same (count_down n) s r kind.Class h = refl
    clear_same (count_down n) s r kind.Zero h = refl
    clear_same (count_down n) s r kind.Truncation h = refl
    clear_same (count_down n) s r kind.Subscript h = refl
    clear_same (guard_count n wanted) s r fault h = refl

    -- ---- all parts

    abbrev AreSmall : List Part → Type 0
    AreSmall ys = AllByRecursion (IsSmallPart p a x) ys

    then_same : (ys : List Part) (o : Option (Seen × Seen2)) → ((s : Seen) (r : Seen2) → steps2_small p packs a x ys (trim s) r ≡ option_map trim2 (steps2 p packs a x ys s r))
        → (option_map trim2 o >>= λ t. steps2_small p packs a x ys t.0 t.1) ≡ option_map trim2 (o >>= λ t. steps2 p packs a x ys t.0 t.1)
    then_same ys None more = refl
    then_same ys (Some t) more = more t.0 t.1

    steps2_same : (ys : List Part) (s : Seen) (r : Seen2) → AreSmall ys → steps2_small p packs a x ys (trim s) r ≡ option_map trim2 (steps2 p packs a x ys s r)
    steps2_same [] s r all = refl
    steps2_same (y ∷ ys) s r all =
        ap (λ (o : Option (Seen × Seen2)). o >>= λ t. steps2_small p packs a x ys t.0 t.1) (step2_same y s r all.0)
        ∙ then_same ys (step2 p a x packs y s r) (λ t q. steps2_same ys t q all.1)

    then_clears_same : (ys : List Part) (o : Option (Seen × Seen2)) (fault : Kind) → ((s : Seen) (r : Seen2) → clears_all2 p packs a x ys (trim s) r fault ≡ clears_parts2 p packs a x ys s r fault)
        → option_map_or (λ t. clears_all2 p packs a x ys t.0 t.1 fault) (option_map trim2 o) true ≡ option_map_or (λ t. clears_parts2 p packs a x ys t.0 t.1 fault) o true
    then_clears_same ys None fault more = refl
    then_clears_same ys (Some t) fault more = more t.0 t.1

    clears_same2 : (ys : List Part) (s : Seen) (r : Seen2) (fault : Kind) → AreSmall ys → clears_all2 p packs a x ys (trim s) r fault ≡ clears_parts2 p packs a x ys s r fault
    clears_same2 [] s r fault all = refl
    clears_same2 (y ∷ ys) s r fault all =
        (λ i. clear_same y s r fault all.0 i && option_map_or (λ t. clears_all2 p packs a x ys t.0 t.1 fault) (step2_same y s r all.0 i) true)
        ∙ ap (λ b. clears_part2 p packs a x y s r fault && b) (then_clears_same ys (step2 p a x packs y s r) fault (λ t q. clears_same2 ys t q fault all.1))

    -- ---- from the beginning

    begins_same : (cells : List Known) → beginning cells ≡ trim (beginning cells)
    begins_same cells = go (sends_small p a x)
      where
        go : (b : Bool) → beginning cells ≡ with_common (beginning cells) (if b then None else None)
        go true = refl
        go false = refl

    finished2_same : (o : Option (Seen × Seen2)) → finished2 p packs a x (option_map trim2 o) ≡ finished2 p packs a x o
    finished2_same None = refl
    finished2_same (Some t) = refl

    pub walks_are_small : (ys : List Part) (cells : List Known) (r : Seen2) → AreSmall ys →
        finished2 p packs a x (steps2_small p packs a x ys (beginning cells) r) ≡ finished2 p packs a x (steps2 p packs a x ys (beginning cells) r)
    walks_are_small ys cells r all =
        ap (λ (s : Seen). finished2 p packs a x (steps2_small p packs a x ys s r)) (begins_same cells)
        ∙ (ap (finished2 p packs a x) (steps2_same ys (beginning cells) r all) ∙ finished2_same (steps2 p packs a x ys (beginning cells) r))

    pub clears_are_small2 : (ys : List Part) (cells : List Known) (r : Seen2) (fault : Kind) → AreSmall ys →
        clears_all2 p packs a x ys (beginning cells) r fault ≡ clears_parts2 p packs a x ys (beginning cells) r fault
    clears_are_small2 ys cells r fault all =
        ap (λ (s : Seen). clears_all2 p packs a x ys s r fault) (begins_same cells) ∙ clears_same2 ys (beginning cells) r fault all
