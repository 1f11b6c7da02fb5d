-- What an edge makes of matrices are matrices: each change leaves zeros on the diagonal, and closing makes a matrix of that.
use Rattle.std.proofs.Common.{◌≡◌, ℕ, suc, Bool, true, false, List, [], ◌∷◌, ℤ, pos, neg_ℤ, Option, Some, None, refl, arith}
use Rattle.std.specs.Prelude.{IfSome, nat_eq, ◌&&◌, not, if◌then◌else◌}
use Rattle.std.proofs.lemmas.Int.{ints}
use Rattle.std.proofs.lemmas.Bool.{eq-eqb}
use Rattle.dec_num.specs.declared.types.Mode.{Mode}
use Rattle.cob_data.specs.declared.extent.Extent.{Extent}
use Rattle.cob_program.specs.Values.{◌>>=◌}
use Rattle.cob_program.specs.Logic.{Test, numbers, texts, member, numeric, always}
use Rattle.cob_program.specs.Act.{Act, Program}
use Rattle.cob_runs.specs.declared.action.Action.{Action}
use Rattle.cob_runs.specs.Contents.{form_at}
use Rattle.cob_edge_parts.specs.Parts.{Amount, Part, read, unread, subscript, index, divide, store, bytes_in, guard, read_count, set_count, count_down, guard_count, parts_of}
use Rattle.diff_bounds.specs.declared.form.lin.Lin.{Lin}
use Rattle.diff_bounds.specs.Matrix.{largest, IsWord, IsMatrix}
use Rattle.transfer_ranges.specs.Receivers.{receiver_of}
use Rattle.interval_domain.specs.Known.{Known}
use Rattle.cob_graph.specs.declared.homes.Home.TheVariants.{Item as of_item}
use Rattle.cell_steps.specs.Seen.{Seen, beginning}
use Rattle.cell_steps.specs.Stores.{handled, with_taken, amount_at, may_fail, may_fit}
use Rattle.cell_steps.specs.Steps.{step}
use Rattle.diff_steps.specs.Packs.{Pack, size_of, cell_of}
use Rattle.diff_steps.specs.Matrices.{bottom}
use Rattle.diff_steps.specs.Moments.{Seen2}
use Rattle.diff_steps.specs.Forms.{amount_form, has_operands}
use Rattle.diff_steps.specs.Stores.{known_of_amount}
use Rattle.diff_steps.specs.Steps.{all_closed, by_outcome, is_other, form_at_cell, stored_cell, stored_pack, counter_stored, guarded_pack, changed_pack, changed, step2}
use Rattle.diff_steps.specs.Edges.{bottoms, or_bottoms, beginning2, steps2, finished2, walked_packs, post_packs}
use Rattle.pack_laws.specs.Agreeing.{AreMatrices}
use Rattle.pack_laws.proofs.PacksClosingRise.{words_are_matrix}
use Rattle.pack_laws.proofs.PacksPutRise.{IsFlat, matrix_is_flat, AreFlat, all_are_flat, all_fit, each_flat}
use Rattle.pack_laws.proofs.PacksWordsRise.{forgotten_flat, put_flat, value_flat, bottom_flat, cells_flat, ordered_flat}

on_diagonal : (i : ℕ) (b : Bool) → b ≡ true → (if b then pos 0 else neg_ℤ largest) ≡ pos 0
on_diagonal i b e = rw e refl

pub bottom_is_matrix : (size : ℕ) → IsMatrix size (bottom size)
bottom_is_matrix size =
    words_are_matrix size (λ i j. if nat_eq i j then pos 0 else neg_ℤ largest) (λ i j. by_place (nat_eq i j)) (λ i h. on_diagonal i (nat_eq i i) (eq-eqb i i refl))
  where
    by_place : (b : Bool) → IsWord (if b then pos 0 else neg_ℤ largest)
    by_place true = record { low = omega (arith, ints); high = λ b. omega (arith, ints); top = omega (arith, ints) }
    by_place false = record { low = omega (arith, ints); high = λ b. omega (arith, ints); top = omega (arith, ints) }

-- ---- rows of packs

if_some_then : {A B : Type 0} (o : Option A) (next : A → Option B) (P : A → Type 0) (Q : B → Type 0) → IfSome o P → ((a : A) → P a → IfSome (next a) Q) → IfSome (o >>= next) Q
if_some_then None next P Q h k = tt
if_some_then (Some a) next P Q h k = k a h

pub bottoms_fit : (packs : List Pack) (ms : List (List ℤ)) → AreMatrices packs ms → AreMatrices packs (bottoms packs)
bottoms_fit [] ms are = tt
bottoms_fit (pack ∷ packs) [] are = absurd are
bottoms_fit (pack ∷ packs) (m ∷ ms) are = ((are.0.0, bottom_is_matrix (size_of pack)), bottoms_fit packs ms are.1)

-- ---- parts

or_bottom_flat : (size : ℕ) (b : Bool) (m : List ℤ) → IsFlat size m → IsFlat size (if b then m else bottom size)
or_bottom_flat size true m has = has
or_bottom_flat size false m has = bottom_flat size

module _ (p : Program) (a : Act) (x : Action) where
  form_at_cell_flat : (t : Seen) (place : ℕ) (mode : Mode) (y : Amount) (pack : Pack) (to : ℕ) (form : Option Lin) (m : List ℤ) → IsFlat (size_of pack) m → IsFlat (size_of pack) (form_at_cell p a x t place mode y pack to form m)
  form_at_cell_flat t place mode y pack to None m has = forgotten_flat (size_of pack) to m has
  form_at_cell_flat t place mode y pack to (Some form) m has =
      value_flat (size_of pack) to (receiver_of (form_at p.layout place)).signed (known_of_amount (size_of pack) m form (receiver_of (form_at p.layout place)).scale (amount_at p a x t place y)) _ m has

  stored_cell_flat : (t : Seen) (wrote : List Extent) (place : ℕ) (mode : Mode) (y : Amount) (pack : Pack) (cell : Option ℕ) (m : List ℤ) → IsFlat (size_of pack) m → IsFlat (size_of pack) (stored_cell p a x t wrote place mode y pack cell m)
  stored_cell_flat t wrote place mode y pack None m has = has
  stored_cell_flat t wrote place mode y pack (Some k) m has = form_at_cell_flat t place mode y pack (suc k) (amount_form p pack t wrote place y) m has

  stored_flat : (t : Seen) (wrote : List Extent) (place : ℕ) (mode : Mode) (y : Amount) (pack : Pack) (m : List ℤ) → IsFlat (size_of pack) m → IsFlat (size_of pack) (stored_pack p a x t wrote place mode y pack m)
  stored_flat t wrote place mode y pack m has =
      or_bottom_flat (size_of pack) (has_operands p t wrote y) _
      (cells_flat (size_of pack) (is_other p a x place) 1 pack (stored_cell p a x t wrote place mode y pack (cell_of pack (of_item place)) m)
      (stored_cell_flat t wrote place mode y pack (cell_of pack (of_item place)) m has))

  outcome_flat : (size : ℕ) (fails fits : Bool) (stored lost kept : List ℤ) → IsFlat size stored → IsFlat size lost → IsFlat size kept → IsFlat size (by_outcome fails fits stored lost kept)
  outcome_flat size false fits stored lost kept s l k = s
  outcome_flat size true true stored lost kept s l k = l
  outcome_flat size true false stored lost kept s l k = k

  counter_flat : (statement : ℕ) (form : Option Lin) (pack : Pack) (cell : Option ℕ) (m : List ℤ) → IsFlat (size_of pack) m → IsFlat (size_of pack) (counter_stored p a x statement form pack cell m)
  counter_flat statement form pack None m has = has
  counter_flat statement form pack (Some k) m has = put_flat (size_of pack) (suc k) form m has

  guarded_flat : (s : Seen) (t : Test) (wanted : Bool) (pack : Pack) (m : List ℤ) → IsFlat (size_of pack) m → IsFlat (size_of pack) (guarded_pack p a x s t wanted pack m)
  guarded_flat s (numbers b r c) wanted pack m has = ordered_flat (size_of pack) _ _ _ _ _ m has
  guarded_flat s (texts y r z) wanted pack m has = has
  guarded_flat s (member place pairs) wanted pack m has = has
  guarded_flat s (numeric place) wanted pack m has = has
  guarded_flat s always wanted pack m has = has

  pub changed_flat : (y : Part) (s : Seen) (wrote : List Extent) (pack : Pack) (m : List ℤ) → IsFlat (size_of pack) m → IsFlat (size_of pack) (changed_pack p a x y s wrote pack m)
  changed_flat (read place) s wrote pack m has = has
  changed_flat unread s wrote pack m has = has
  changed_flat (subscript last k) s wrote pack m has = has
  changed_flat (index last k count) s wrote pack m has = has
  changed_flat (divide d) s wrote pack m has = has
  changed_flat (store place mode y) s wrote pack m has =
      let t = with_taken p a x s in
      outcome_flat (size_of pack) (may_fail p a x t place mode y) (may_fit p a x t place mode y) _ _ m
      (stored_flat t wrote place mode y pack m has) (cells_flat (size_of pack) _ 1 pack m has) has
  changed_flat (bytes_in offset count) s wrote pack m has = cells_flat (size_of pack) _ 1 pack m has
  changed_flat (guard t wanted) s wrote pack m has = guarded_flat s t wanted pack m has
  changed_flat (read_count n) s wrote pack m has = has
  changed_flat (set_count n y) s wrote pack m has = counter_flat n _ pack _ m has
  changed_flat (count_down n) s wrote pack m has = counter_flat n _ pack _ m has
  changed_flat (guard_count n wanted) s wrote pack m has = has

  module _ (packs : List Pack) where
    pub changed_are_flat : (y : Part) (s : Seen) (r : Seen2) → AreMatrices packs r.packs → AreFlat packs (changed p a x packs y s r).packs
    changed_are_flat y s r are = each_flat (changed_pack p a x y s r.wrote) (λ pack m is. changed_flat y s r.wrote pack m (matrix_is_flat (size_of pack) m is)) packs r.packs are

    pub step2_fits : (y : Part) (s : Seen) (r : Seen2) → AreMatrices packs r.packs → IfSome (step2 p a x packs y s r) (λ t. AreMatrices packs t.1.packs)
    step2_fits y s r are =
        if_some_then (step p a x y s) _ (λ t. Unit {0}) (λ t. AreMatrices packs t.1.packs) (there (step p a x y s))
        (λ t _. if_some_then (all_closed p t.cells packs (changed p a x packs y s r).packs) _ (AreMatrices packs) (λ u. AreMatrices packs u.1.packs)
        (all_fit p t.cells packs (changed p a x packs y s r).packs (changed_are_flat y s r are))
        (λ ms fit. fit))
      where
        there : (o : Option Seen) → IfSome o (λ t. Unit {0})
        there None = tt
        there (Some t) = tt

    pub steps2_fit : (ys : List Part) (s : Seen) (r : Seen2) → AreMatrices packs r.packs → IfSome (steps2 p packs a x ys s r) (λ t. AreMatrices packs t.1.packs)
    steps2_fit [] s r are = are
    steps2_fit (y ∷ ys) s r are =
        if_some_then (step2 p a x packs y s r) (λ t. steps2 p packs a x ys t.0 t.1) (λ t. AreMatrices packs t.1.packs) (λ t. AreMatrices packs t.1.packs)
        (step2_fits y s r are) (λ t fit. steps2_fit ys t.0 t.1 fit)

    finished2_fits : (o : Option (Seen × Seen2)) → IfSome o (λ t. AreMatrices packs t.1.packs) → IfSome (finished2 p packs a x o) (AreMatrices packs)
    finished2_fits None fit = tt
    finished2_fits (Some t) fit = by_end (handled p a x && not t.0.any_fail)
      where
        by_end : (b : Bool) → IfSome (if b then None else Some t.1.packs) (AreMatrices packs)
        by_end true = tt
        by_end false = fit

pub or_bottoms_fit : (packs : List Pack) (ms : List (List ℤ)) (o : Option (List (List ℤ))) → AreMatrices packs ms → IfSome o (AreMatrices packs) → AreMatrices packs (or_bottoms packs o)
or_bottoms_fit packs ms None are fit = bottoms_fit packs ms are
or_bottoms_fit packs ms (Some cs) are fit = fit

-- of any known cells
pub posts_fit : (p : Program) (packs : List Pack) (statement : ℕ) (a : Act) (x : Action) (cells : List Known) (ms : List (List ℤ))
    → AreMatrices packs ms → AreMatrices packs (post_packs p packs statement a x (Some cells) ms)
posts_fit p packs statement a x cells ms are =
    or_bottoms_fit packs ms (walked_packs p packs statement a x (Some cells) ms) are
    (if_some_then (all_closed p cells packs ms) (λ cs. finished2 p packs a x (steps2 p packs a x (parts_of p statement a x) (beginning cells) (beginning2 cs))) (AreMatrices packs) (AreMatrices packs)
    (all_fit p cells packs ms (all_are_flat packs ms are))
    (λ cs fit. finished2_fits p a x packs (steps2 p packs a x (parts_of p statement a x) (beginning cells) (beginning2 cs)) (steps2_fit p a x packs (parts_of p statement a x) (beginning cells) (beginning2 cs) fit)))
