-- Each part stands behind what it needs.
use Rattle.std.proofs.Common.{◌≡◌, ℕ, Bool, true, false, ◌⊎◌, inl, inr, List, [], ◌∷◌, ◌++◌, Option, Some, None, refl, sym, ap, subst, ◌∙◌}
use Rattle.std.specs.Prelude.{slice_get}
use Rattle.std.specs.Option.{option_map}
use Rattle.dec_num.specs.declared.types.Mode.TheVariants.{Trunc}
use Rattle.cob_data.specs.declared.layout.Sender.{Sender}
use Rattle.cob_program.specs.declared.act.Target.{Target}
use Rattle.cob_program.specs.Sum.{Sum}
use Rattle.cob_program.specs.Logic.{Test, Logic}
use Rattle.cob_program.specs.Act.{once, times, until, varying, Stmts, Phrase, Act, move, arith, if_, evaluate, perform, go as go_to, nothing, stop, open_files, close_files, read as reading, write, show, Body, Program}
use Rattle.cob_runs.specs.declared.action.Action.{Action}
use Rattle.cob_runs.specs.declared.action.Action.TheVariants as action
use Rattle.cob_runs.specs.Acts.{decl_at, file_from}
use Rattle.cob_runs.specs.Effects.{tests_in_act, is_times}
use Rattle.cob_edge_parts.specs.Parts.{moved, computed, remaining, augmented, Part, read, unread, subscript, index, divide, store, bytes_in, guard, read_count, set_count, count_down, guard_count, number_reads, augment_parts, test_parts, assign_parts, compute_parts, condition_parts, count_parts, call_parts, read_parts, bad_parts}
use Rattle.cell_laws.specs.Places.{IsBehindSender, Moves, IsInPlace, PartsAreInPlace, is_worked, ArithmeticIsDone}
use Rattle.cell_laws.proofs.Splits.{Stands, stands, not_empty, only}
use Rattle.cell_laws.proofs.Arithmetic.{arith_in_place}
use Rattle.cell_laws.proofs.Moves.{IsRead, in_number_reads, IsBytes, in_file, in_file_call, in_into, IsMoved, in_move, IsTested, in_test}

-- what does no arithmetic
abbrev IsNoArithmetic : Act → Type 0
IsNoArithmetic a = (s : Sum) (targets : List Target) (remainder : Option ℕ) (size : Phrase) (fine : Stmts) → ¬ a ≡ arith s targets remainder size fine

module _ (p : Program) (statement : ℕ) where
  read_in_place : (a : Act) (x : Action) (done : List Part) (y : Part) → IsRead y → IsInPlace statement a x done y
  read_in_place a x done (read place) h = tt
  read_in_place a x done unread h = tt
  read_in_place a x done (subscript last k) h = absurd h
  read_in_place a x done (index last k count) h = absurd h
  read_in_place a x done (divide d) h = absurd h
  read_in_place a x done (store place mode z) h = absurd h
  read_in_place a x done (bytes_in offset count) h = absurd h
  read_in_place a x done (guard t wanted) h = absurd h
  read_in_place a x done (read_count n) h = absurd h
  read_in_place a x done (set_count n z) h = absurd h
  read_in_place a x done (count_down n) h = absurd h
  read_in_place a x done (guard_count n wanted) h = absurd h

  bytes_in_place : (a : Act) (x : Action) (done : List Part) (y : Part) → IsNoArithmetic a → IsBytes y → IsInPlace statement a x done y
  bytes_in_place a x done (bytes_in offset count) none h = none
  bytes_in_place a x done (read place) none h = absurd h
  bytes_in_place a x done unread none h = absurd h
  bytes_in_place a x done (subscript last k) none h = absurd h
  bytes_in_place a x done (index last k count) none h = absurd h
  bytes_in_place a x done (divide d) none h = absurd h
  bytes_in_place a x done (store place mode z) none h = absurd h
  bytes_in_place a x done (guard t wanted) none h = absurd h
  bytes_in_place a x done (read_count n) none h = absurd h
  bytes_in_place a x done (set_count n z) none h = absurd h
  bytes_in_place a x done (count_down n) none h = absurd h
  bytes_in_place a x done (guard_count n wanted) none h = absurd h

  tested_in_place : (a : Act) (x : Action) (done : List Part) (y : Part) → IsTested p.layout done y → IsInPlace statement a x done y
  tested_in_place a x done (read place) h = tt
  tested_in_place a x done unread h = tt
  tested_in_place a x done (divide d) h = h
  tested_in_place a x done (guard t wanted) h = tt
  tested_in_place a x done (store place mode z) h = absurd h
  tested_in_place a x done (subscript last k) h = absurd h
  tested_in_place a x done (index last k count) h = absurd h
  tested_in_place a x done (bytes_in offset count) h = absurd h
  tested_in_place a x done (read_count n) h = absurd h
  tested_in_place a x done (set_count n z) h = absurd h
  tested_in_place a x done (count_down n) h = absurd h
  tested_in_place a x done (guard_count n wanted) h = absurd h

  moved_in_place : (a : Act) (x : Action) (z : Sender) (done : List Part) (y : Part) → IsNoArithmetic a → Moves a x z → IsMoved p.layout z done y → IsInPlace statement a x done y
  moved_in_place a x z done (read place) none m h = tt
  moved_in_place a x z done unread none m h = tt
  moved_in_place a x z done (bytes_in offset count) none m h = none
  moved_in_place a x z done (store place mode (moved w)) none m (same, behind) = (subst (λ (k : Sender). Moves a x k) (sym same) m, subst (λ (k : Sender). IsBehindSender k done) (sym same) behind)
  moved_in_place a x z done (store place mode (computed s h)) none m k = absurd k
  moved_in_place a x z done (store place mode (remaining s scale)) none m k = absurd k
  moved_in_place a x z done (store place mode (augmented w)) none m k = absurd k
  moved_in_place a x z done (subscript last k) none m h = absurd h
  moved_in_place a x z done (index last k count) none m h = absurd h
  moved_in_place a x z done (divide d) none m h = absurd h
  moved_in_place a x z done (guard t wanted) none m h = absurd h
  moved_in_place a x z done (read_count n) none m h = absurd h
  moved_in_place a x z done (set_count n w) none m h = absurd h
  moved_in_place a x z done (count_down n) none m h = absurd h
  moved_in_place a x z done (guard_count n wanted) none m h = absurd h

  nothing_in_place : (a : Act) (x : Action) (done rest : List Part) (y : Part) → done ++ y ∷ rest ≡ [] → IsInPlace statement a x done y
  nothing_in_place a x done rest y e = absurd (not_empty done rest y e)

  -- ---- VARYING

  augment_in_place : (body : Body) (after : Bool) (place : ℕ) (start by : Sender) (t : Logic) (x : Action) → (x ≡ action.Done) ⊎ (x ≡ action.Size) → (done rest : List Part) (y : Part)
      → done ++ y ∷ rest ≡ augment_parts place by → IsInPlace statement (perform body (varying after place start by t)) x done y
  augment_in_place body after place start by t x edge done rest y e = go (stands (number_reads by) (read place ∷ store place Trunc (augmented by) ∷ []) done rest y e)
    where
      go : Stands (number_reads by) (read place ∷ store place Trunc (augmented by) ∷ []) done y rest → IsInPlace statement (perform body (varying after place start by t)) x done y
      go (inl (more, f)) = read_in_place (perform body (varying after place start by t)) x done y (in_number_reads by done more y f)
      go (inr (behind, f, g)) = two (stands (read place ∷ []) (store place Trunc (augmented by) ∷ []) behind rest y g)
        where
          two : Stands (read place ∷ []) (store place Trunc (augmented by) ∷ []) behind y rest → IsInPlace statement (perform body (varying after place start by t)) x done y
          two (inl (more, h)) = subst (λ (z : Part). IsInPlace statement (perform body (varying after place start by t)) x done z) (sym (only (read place) behind more y h).1) tt
          two (inr (last, h, k)) =
              let one = only (store place Trunc (augmented by)) last rest y k in
              let all : done ≡ number_reads by ++ (read place ∷ []) = f ∙ ap (λ (xs : List Part). number_reads by ++ xs) (h ∙ ap (λ (xs : List Part). read place ∷ xs) one.0) in
              subst (λ (z : Part). IsInPlace statement (perform body (varying after place start by t)) x done z) (sym one.1)
              ((refl, edge), record { behind = read place ∷ []; split = all }, record { before = number_reads by; split = all })

  -- ---- edges

  assign_in_place : (a : Act) (done rest : List Part) (y : Part) → done ++ y ∷ rest ≡ assign_parts p statement a → IsInPlace statement a action.Assign done y
  assign_in_place (move z places) done rest y e = moved_in_place (move z places) action.Assign z done y (λ s ts r size fine f. cc) (refl, refl) (in_move p.layout z places done rest y e)
  assign_in_place (perform body (varying after place start by t)) done rest y e =
      moved_in_place (perform body (varying after place start by t)) action.Assign start done y (λ s ts r size fine f. cc) (refl, refl) (in_move p.layout start (place ∷ []) done rest y e)
  assign_in_place (perform body once) done rest y e = nothing_in_place (perform body once) action.Assign done rest y e
  assign_in_place (perform body (times z)) done rest y e = nothing_in_place (perform body (times z)) action.Assign done rest y e
  assign_in_place (perform body (until after t)) done rest y e = nothing_in_place (perform body (until after t)) action.Assign done rest y e
  assign_in_place (reading f into end fine) done rest y e = bytes_in_place (reading f into end fine) action.Assign done y (λ s ts r size fine g. cc) (in_into p.layout into done rest y e)
  assign_in_place (write r None) done rest y e = nothing_in_place (write r None) action.Assign done rest y e
  assign_in_place (write r (Some z)) done rest y e = moved_in_place (write r (Some z)) action.Assign z done y (λ s ts q size fine f. cc) (refl, refl) (in_move p.layout z (r ∷ []) done rest y e)
  assign_in_place (arith s ts r size fine) done rest y e = nothing_in_place (arith s ts r size fine) action.Assign done rest y e
  assign_in_place (if_ t held other) done rest y e = nothing_in_place (if_ t held other) action.Assign done rest y e
  assign_in_place (evaluate ws other) done rest y e = nothing_in_place (evaluate ws other) action.Assign done rest y e
  assign_in_place (go_to n) done rest y e = nothing_in_place (go_to n) action.Assign done rest y e
  assign_in_place nothing done rest y e = nothing_in_place nothing action.Assign done rest y e
  assign_in_place stop done rest y e = nothing_in_place stop action.Assign done rest y e
  assign_in_place (open_files os) done rest y e = nothing_in_place (open_files os) action.Assign done rest y e
  assign_in_place (close_files fs) done rest y e = nothing_in_place (close_files fs) action.Assign done rest y e
  assign_in_place (show xs) done rest y e = nothing_in_place (show xs) action.Assign done rest y e

  compute_in_place : (a : Act) (x : Action) → (x ≡ action.Done) ⊎ (x ≡ action.Size) → (done rest : List Part) (y : Part) → done ++ y ∷ rest ≡ compute_parts p statement a → IsInPlace statement a x done y
  compute_in_place (arith s ts r size fine) x edge done rest y e = arith_in_place p statement s ts r size fine x edge done rest y e
  compute_in_place (perform body (varying after place start by t)) x edge done rest y e = augment_in_place body after place start by t x edge done rest y e
  compute_in_place (perform body once) x edge done rest y e = nothing_in_place (perform body once) x done rest y e
  compute_in_place (perform body (times z)) x edge done rest y e = nothing_in_place (perform body (times z)) x done rest y e
  compute_in_place (perform body (until after t)) x edge done rest y e = nothing_in_place (perform body (until after t)) x done rest y e
  compute_in_place (move z places) x edge done rest y e = nothing_in_place (move z places) x done rest y e
  compute_in_place (if_ t held other) x edge done rest y e = nothing_in_place (if_ t held other) x done rest y e
  compute_in_place (evaluate ws other) x edge done rest y e = nothing_in_place (evaluate ws other) x done rest y e
  compute_in_place (go_to n) x edge done rest y e = nothing_in_place (go_to n) x done rest y e
  compute_in_place nothing x edge done rest y e = nothing_in_place nothing x done rest y e
  compute_in_place stop x edge done rest y e = nothing_in_place stop x done rest y e
  compute_in_place (open_files os) x edge done rest y e = nothing_in_place (open_files os) x done rest y e
  compute_in_place (close_files fs) x edge done rest y e = nothing_in_place (close_files fs) x done rest y e
  compute_in_place (reading f into end fine) x edge done rest y e = nothing_in_place (reading f into end fine) x done rest y e
  compute_in_place (write r from) x edge done rest y e = nothing_in_place (write r from) x done rest y e
  compute_in_place (show xs) x edge done rest y e = nothing_in_place (show xs) x done rest y e

  times_in_place : (a : Act) (x : Action) (wanted : Bool) → is_times a ≡ true → (done rest : List Part) (y : Part) → done ++ y ∷ rest ≡ read_count statement ∷ guard_count statement wanted ∷ [] → IsInPlace statement a x done y
  times_in_place a x wanted is done rest y e = go (stands (read_count statement ∷ []) (guard_count statement wanted ∷ []) done rest y e)
    where
      go : Stands (read_count statement ∷ []) (guard_count statement wanted ∷ []) done y rest → IsInPlace statement a x done y
      go (inl (more, f)) = subst (λ (z : Part). IsInPlace statement a x done z) (sym (only (read_count statement) done more y f).1) tt
      go (inr (behind, f, g)) = subst (λ (z : Part). IsInPlace statement a x done z) (sym (only (guard_count statement wanted) behind rest y g).1) (refl, is)

  test_in_place : (a : Act) (x : Action) (wanted : Bool) (o : Option Test) (done rest : List Part) (y : Part) → done ++ y ∷ rest ≡ test_parts p.layout wanted o → IsInPlace statement a x done y
  test_in_place a x wanted o done rest y e = tested_in_place a x done y (in_test p.layout wanted o done rest y e)

  condition_in_place : (wanted : Bool) (k : ℕ) (a : Act) (x : Action) (done rest : List Part) (y : Part) → done ++ y ∷ rest ≡ condition_parts p statement wanted k a → IsInPlace statement a x done y
  condition_in_place wanted k (perform body (times z)) x done rest y e = times_in_place (perform body (times z)) x wanted refl done rest y e
  condition_in_place wanted k (perform body once) x done rest y e = test_in_place (perform body once) x wanted (slice_get (tests_in_act (perform body once)) k) done rest y e
  condition_in_place wanted k (perform body (until after t)) x done rest y e = test_in_place (perform body (until after t)) x wanted (slice_get (tests_in_act (perform body (until after t))) k) done rest y e
  condition_in_place wanted k (perform body (varying after place start by t)) x done rest y e =
      test_in_place (perform body (varying after place start by t)) x wanted (slice_get (tests_in_act (perform body (varying after place start by t))) k) done rest y e
  condition_in_place wanted k (move z places) x done rest y e = test_in_place (move z places) x wanted (slice_get (tests_in_act (move z places)) k) done rest y e
  condition_in_place wanted k (arith s ts r size fine) x done rest y e = test_in_place (arith s ts r size fine) x wanted (slice_get (tests_in_act (arith s ts r size fine)) k) done rest y e
  condition_in_place wanted k (if_ t held other) x done rest y e = test_in_place (if_ t held other) x wanted (slice_get (tests_in_act (if_ t held other)) k) done rest y e
  condition_in_place wanted k (evaluate ws other) x done rest y e = test_in_place (evaluate ws other) x wanted (slice_get (tests_in_act (evaluate ws other)) k) done rest y e
  condition_in_place wanted k (go_to n) x done rest y e = test_in_place (go_to n) x wanted (slice_get (tests_in_act (go_to n)) k) done rest y e
  condition_in_place wanted k nothing x done rest y e = test_in_place nothing x wanted (slice_get (tests_in_act nothing) k) done rest y e
  condition_in_place wanted k stop x done rest y e = test_in_place stop x wanted (slice_get (tests_in_act stop) k) done rest y e
  condition_in_place wanted k (open_files os) x done rest y e = test_in_place (open_files os) x wanted (slice_get (tests_in_act (open_files os)) k) done rest y e
  condition_in_place wanted k (close_files fs) x done rest y e = test_in_place (close_files fs) x wanted (slice_get (tests_in_act (close_files fs)) k) done rest y e
  condition_in_place wanted k (reading f into end fine) x done rest y e = test_in_place (reading f into end fine) x wanted (slice_get (tests_in_act (reading f into end fine)) k) done rest y e
  condition_in_place wanted k (write r from) x done rest y e = test_in_place (write r from) x wanted (slice_get (tests_in_act (write r from)) k) done rest y e
  condition_in_place wanted k (show xs) x done rest y e = test_in_place (show xs) x wanted (slice_get (tests_in_act (show xs)) k) done rest y e

  count_in_place : (a : Act) (done rest : List Part) (y : Part) → done ++ y ∷ rest ≡ count_parts p statement a → IsInPlace statement a action.SetCount done y
  count_in_place (perform body (times z)) done rest y e = go (stands (number_reads z) (set_count statement z ∷ []) done rest y e)
    where
      go : Stands (number_reads z) (set_count statement z ∷ []) done y rest → IsInPlace statement (perform body (times z)) action.SetCount done y
      go (inl (more, f)) = read_in_place (perform body (times z)) action.SetCount done y (in_number_reads z done more y f)
      go (inr (behind, f, g)) =
          subst (λ (w : Part). IsInPlace statement (perform body (times z)) action.SetCount done w) (sym (only (set_count statement z) behind rest y g).1)
          (refl, (refl, refl), record { behind = behind; split = f })
  count_in_place (perform body once) done rest y e = nothing_in_place (perform body once) action.SetCount done rest y e
  count_in_place (perform body (until after t)) done rest y e = nothing_in_place (perform body (until after t)) action.SetCount done rest y e
  count_in_place (perform body (varying after place start by t)) done rest y e = nothing_in_place (perform body (varying after place start by t)) action.SetCount done rest y e
  count_in_place (move z places) done rest y e = nothing_in_place (move z places) action.SetCount done rest y e
  count_in_place (arith s ts r size fine) done rest y e = nothing_in_place (arith s ts r size fine) action.SetCount done rest y e
  count_in_place (if_ t held other) done rest y e = nothing_in_place (if_ t held other) action.SetCount done rest y e
  count_in_place (evaluate ws other) done rest y e = nothing_in_place (evaluate ws other) action.SetCount done rest y e
  count_in_place (go_to n) done rest y e = nothing_in_place (go_to n) action.SetCount done rest y e
  count_in_place nothing done rest y e = nothing_in_place nothing action.SetCount done rest y e
  count_in_place stop done rest y e = nothing_in_place stop action.SetCount done rest y e
  count_in_place (open_files os) done rest y e = nothing_in_place (open_files os) action.SetCount done rest y e
  count_in_place (close_files fs) done rest y e = nothing_in_place (close_files fs) action.SetCount done rest y e
  count_in_place (reading f into end fine) done rest y e = nothing_in_place (reading f into end fine) action.SetCount done rest y e
  count_in_place (write r from) done rest y e = nothing_in_place (write r from) action.SetCount done rest y e
  count_in_place (show xs) done rest y e = nothing_in_place (show xs) action.SetCount done rest y e

  down_in_place : (a : Act) (done rest : List Part) (y : Part) → done ++ y ∷ rest ≡ read_count statement ∷ count_down statement ∷ [] → IsInPlace statement a action.Down done y
  down_in_place a done rest y e = go (stands (read_count statement ∷ []) (count_down statement ∷ []) done rest y e)
    where
      go : Stands (read_count statement ∷ []) (count_down statement ∷ []) done y rest → IsInPlace statement a action.Down done y
      go (inl (more, f)) = subst (λ (z : Part). IsInPlace statement a action.Down done z) (sym (only (read_count statement) done more y f).1) tt
      go (inr (behind, f, g)) =
          let one = only (count_down statement) behind rest y g in
          subst (λ (z : Part). IsInPlace statement a action.Down done z) (sym one.1) (refl, f ∙ ap (λ (xs : List Part). read_count statement ∷ xs) one.0)

  -- ---- calls on files

  call_in_place : (fine : Bool) (k : ℕ) (a : Act) (x : Action) (done rest : List Part) (y : Part) → done ++ y ∷ rest ≡ call_parts p statement fine k a → IsInPlace statement a x done y
  call_in_place fine k (open_files os) x done rest y e = bytes_in_place (open_files os) x done y (λ s ts r size f g. cc) (in_file_call p.layout false (option_map (λ o. o.file) (slice_get os k)) done rest y e)
  call_in_place fine k (close_files fs) x done rest y e = bytes_in_place (close_files fs) x done y (λ s ts r size f g. cc) (in_file_call p.layout false (slice_get fs k) done rest y e)
  call_in_place fine k (write r from) x done rest y e = bytes_in_place (write r from) x done y (λ s ts q size f g. cc) (in_file_call p.layout fine (file_from p.layout 0 p.layout.files r) done rest y e)
  call_in_place fine k (perform body turns) x done rest y e = nothing_in_place (perform body turns) x done rest y e
  call_in_place fine k (move z places) x done rest y e = nothing_in_place (move z places) x done rest y e
  call_in_place fine k (arith s ts r size f) x done rest y e = nothing_in_place (arith s ts r size f) x done rest y e
  call_in_place fine k (if_ t held other) x done rest y e = nothing_in_place (if_ t held other) x done rest y e
  call_in_place fine k (evaluate ws other) x done rest y e = nothing_in_place (evaluate ws other) x done rest y e
  call_in_place fine k (go_to n) x done rest y e = nothing_in_place (go_to n) x done rest y e
  call_in_place fine k nothing x done rest y e = nothing_in_place nothing x done rest y e
  call_in_place fine k stop x done rest y e = nothing_in_place stop x done rest y e
  call_in_place fine k (reading f into end more) x done rest y e = nothing_in_place (reading f into end more) x done rest y e
  call_in_place fine k (show xs) x done rest y e = nothing_in_place (show xs) x done rest y e

  read_parts_in_place : (a : Act) (x : Action) (done rest : List Part) (y : Part) → done ++ y ∷ rest ≡ read_parts p statement a → IsInPlace statement a x done y
  read_parts_in_place (reading f into end more) x done rest y e = bytes_in_place (reading f into end more) x done y (λ s ts r size g h. cc) (in_file p.layout true (decl_at p.layout f) done rest y e)
  read_parts_in_place (open_files os) x done rest y e = nothing_in_place (open_files os) x done rest y e
  read_parts_in_place (close_files fs) x done rest y e = nothing_in_place (close_files fs) x done rest y e
  read_parts_in_place (write r from) x done rest y e = nothing_in_place (write r from) x done rest y e
  read_parts_in_place (perform body turns) x done rest y e = nothing_in_place (perform body turns) x done rest y e
  read_parts_in_place (move z places) x done rest y e = nothing_in_place (move z places) x done rest y e
  read_parts_in_place (arith s ts r size f) x done rest y e = nothing_in_place (arith s ts r size f) x done rest y e
  read_parts_in_place (if_ t held other) x done rest y e = nothing_in_place (if_ t held other) x done rest y e
  read_parts_in_place (evaluate ws other) x done rest y e = nothing_in_place (evaluate ws other) x done rest y e
  read_parts_in_place (go_to n) x done rest y e = nothing_in_place (go_to n) x done rest y e
  read_parts_in_place nothing x done rest y e = nothing_in_place nothing x done rest y e
  read_parts_in_place stop x done rest y e = nothing_in_place stop x done rest y e
  read_parts_in_place (show xs) x done rest y e = nothing_in_place (show xs) x done rest y e

  bad_in_place : (k : ℕ) (a : Act) (x : Action) (done rest : List Part) (y : Part) → done ++ y ∷ rest ≡ bad_parts p statement k a → IsInPlace statement a x done y
  bad_in_place k (reading f into end more) x done rest y e = bytes_in_place (reading f into end more) x done y (λ s ts r size g h. cc) (in_file p.layout true (decl_at p.layout f) done rest y e)
  bad_in_place k (open_files os) x done rest y e = call_in_place false k (open_files os) x done rest y e
  bad_in_place k (close_files fs) x done rest y e = call_in_place false k (close_files fs) x done rest y e
  bad_in_place k (write r from) x done rest y e = call_in_place false k (write r from) x done rest y e
  bad_in_place k (perform body turns) x done rest y e = call_in_place false k (perform body turns) x done rest y e
  bad_in_place k (move z places) x done rest y e = call_in_place false k (move z places) x done rest y e
  bad_in_place k (arith s ts r size f) x done rest y e = call_in_place false k (arith s ts r size f) x done rest y e
  bad_in_place k (if_ t held other) x done rest y e = call_in_place false k (if_ t held other) x done rest y e
  bad_in_place k (evaluate ws other) x done rest y e = call_in_place false k (evaluate ws other) x done rest y e
  bad_in_place k (go_to n) x done rest y e = call_in_place false k (go_to n) x done rest y e
  bad_in_place k nothing x done rest y e = call_in_place false k nothing x done rest y e
  bad_in_place k stop x done rest y e = call_in_place false k stop x done rest y e
  bad_in_place k (show xs) x done rest y e = call_in_place false k (show xs) x done rest y e

pub parts_are_in_place : PartsAreInPlace
parts_are_in_place p n a action.Skip done rest y e = nothing_in_place p n a action.Skip done rest y e
parts_are_in_place p n a action.Assign done rest y e = assign_in_place p n a done rest y e
parts_are_in_place p n a action.Done done rest y e = compute_in_place p n a action.Done (inl refl) done rest y e
parts_are_in_place p n a action.Size done rest y e = compute_in_place p n a action.Size (inr refl) done rest y e
parts_are_in_place p n a (action.True k) done rest y e = condition_in_place p n true k a (action.True k) done rest y e
parts_are_in_place p n a (action.False k) done rest y e = condition_in_place p n false k a (action.False k) done rest y e
parts_are_in_place p n a action.SetCount done rest y e = count_in_place p n a done rest y e
parts_are_in_place p n a action.Down done rest y e = down_in_place p n a done rest y e
parts_are_in_place p n a (action.Open k) done rest y e = call_in_place p n true k a (action.Open k) done rest y e
parts_are_in_place p n a (action.Close k) done rest y e = call_in_place p n true k a (action.Close k) done rest y e
parts_are_in_place p n a action.Take done rest y e = read_parts_in_place p n a action.Take done rest y e
parts_are_in_place p n a action.AtEnd done rest y e = read_parts_in_place p n a action.AtEnd done rest y e
parts_are_in_place p n a (action.Bad k) done rest y e = bad_in_place p n k a (action.Bad k) done rest y e
parts_are_in_place p n a action.Write done rest y e = call_in_place p n true 0 a action.Write done rest y e
parts_are_in_place p n a action.Show done rest y e = nothing_in_place p n a action.Show done rest y e

-- ---- arithmetic

pub arithmetic_is_done : ArithmeticIsDone
arithmetic_is_done p n s ts r size fine action.Done done rest y e w = inl refl
arithmetic_is_done p n s ts r size fine action.Size done rest y e w = inr refl
arithmetic_is_done p n s ts r size fine action.Skip done rest y e w = absurd (not_empty done rest y e)
arithmetic_is_done p n s ts r size fine action.Assign done rest y e w = absurd (not_empty done rest y e)
arithmetic_is_done p n s ts r size fine (action.True k) done rest y e w = absurd (not_empty done rest y e)
arithmetic_is_done p n s ts r size fine (action.False k) done rest y e w = absurd (not_empty done rest y e)
arithmetic_is_done p n s ts r size fine action.SetCount done rest y e w = absurd (not_empty done rest y e)
arithmetic_is_done p n s ts r size fine action.Down done rest y e w = absurd (go (stands (read_count n ∷ []) (count_down n ∷ []) done rest y e))
  where
    go : Stands (read_count n ∷ []) (count_down n ∷ []) done y rest → ⊥
    go (inl (more, f)) = let one : is_worked (read_count n) ≡ true = subst (λ (z : Part). is_worked z ≡ true) (only (read_count n) done more y f).1 w in cc
    go (inr (behind, f, g)) = let one : is_worked (count_down n) ≡ true = subst (λ (z : Part). is_worked z ≡ true) (only (count_down n) behind rest y g).1 w in cc
arithmetic_is_done p n s ts r size fine (action.Open k) done rest y e w = absurd (not_empty done rest y e)
arithmetic_is_done p n s ts r size fine (action.Close k) done rest y e w = absurd (not_empty done rest y e)
arithmetic_is_done p n s ts r size fine action.Take done rest y e w = absurd (not_empty done rest y e)
arithmetic_is_done p n s ts r size fine action.AtEnd done rest y e w = absurd (not_empty done rest y e)
arithmetic_is_done p n s ts r size fine (action.Bad k) done rest y e w = absurd (not_empty done rest y e)
arithmetic_is_done p n s ts r size fine action.Write done rest y e w = absurd (not_empty done rest y e)
arithmetic_is_done p n s ts r size fine action.Show done rest y e w = absurd (not_empty done rest y e)
