-- What each edge of the graph does to what a run works on: its part of its node's statement.
use Rattle.std.specs.Prelude.{ℕ, zero, suc, ◌+◌, ◌-◌, ◌==◌, nat_lt, ◌&&◌, if◌then◌else◌, Bool, true, false, not, List, [], ◌∷◌, ◌++◌, slice_get, Option, Some, None, is_some, Result, Ok, Err}
use Rattle.std.specs.Option.{option_map, option_map_or}
use Rattle.cob_tree.specs.declared.fault.Kind.{Kind}
use Rattle.cob_data.specs.declared.layout.Sender.{Sender}
use Rattle.cob_program.specs.declared.act.Opening.{Opening}
use Rattle.cob_program.specs.Logic.{Test, always, Logic, all_of, any_of, not_, test, Logics, no_logics, more_logics}
use Rattle.cob_program.specs.Act.{Turns, once, times, until, varying, Stmt, MkStmt, Stmts, no_stmts, more_stmts, Phrase, left_out, given, Act, arith, if_, evaluate, perform, open_files, close_files, read, write, Whens, no_whens, more_whens, MkWhen, Body, range, inline, Para, Program}
use Rattle.cob_program.specs.Act as act
use Rattle.cob_runs.specs.declared.action.Action.{Action}
use Rattle.cob_runs.specs.declared.action.Action.TheVariants as action
use Rattle.cob_runs.specs.Faults.{◌>>=◌}
use Rattle.cob_runs.specs.Deciding.{test_holds}
use Rattle.cob_runs.specs.Files.{Choice}
use Rattle.cob_runs.specs.State.{World}
use Rattle.cob_runs.specs.Acts.{move, compute, show, count_of, set_count, count_down, set_varied, augment, has_status, is_fine, open_one, close_one, take_one, into_if, write_one, file_from, move_if}
use Rattle.cob_runs.specs.Steps.{is_given, is_left}

-- ---- the statement with a number

abbrev pub or_else : {A : Type 0} → Option A → Option A → Option A
or_else None b = b
or_else (Some a) b = Some a

abbrev pub if_same : {A : Type 0} → ℕ → ℕ → A → Option A → Option A
if_same n m a other = if n == m then Some a else other

abbrev mutual
  pub act_among : ℕ → Stmts → Option Act
  act_among n no_stmts = None
  act_among n (more_stmts (MkStmt m line a) ss) = if_same n m a (or_else (act_below n a) (act_among n ss))

  pub act_in_phrase : ℕ → Phrase → Option Act
  act_in_phrase n left_out = None
  act_in_phrase n (given ss) = act_among n ss

  pub act_below : ℕ → Act → Option Act
  act_below n (arith s targets remainder size fine) = or_else (act_in_phrase n size) (act_among n fine)
  act_below n (if_ t held other) = or_else (act_among n held) (act_among n other)
  act_below n (evaluate ws other) = or_else (act_in_whens n ws) (act_among n other)
  act_below n (perform body turns) = act_in_body n body
  act_below n (read f into end fine) = or_else (act_in_phrase n end) (act_among n fine)
  act_below n _ = None

  pub act_in_whens : ℕ → Whens → Option Act
  act_in_whens n no_whens = None
  act_in_whens n (more_whens (MkWhen tests ss) ws) = or_else (act_among n ss) (act_in_whens n ws)

  pub act_in_body : ℕ → Body → Option Act
  act_in_body n (range first last) = None
  act_in_body n (inline ss) = act_among n ss

abbrev pub act_in_paras : ℕ → List Para → Option Act
act_in_paras n [] = None
act_in_paras n (x ∷ xs) = or_else (act_among n x.body) (act_in_paras n xs)

abbrev pub act_at : Program → ℕ → Option Act
act_at p n = act_in_paras n p.paras

-- a loop with TIMES
abbrev pub is_times : Act → Bool
is_times (perform body (times x)) = true
is_times _ = false

-- ---- the simple conditions of a statement, in the order of its nodes

abbrev mutual
  pub tests_of : Logic → List Test
  tests_of (all_of ls) = tests_among ls
  tests_of (any_of ls) = tests_among ls
  tests_of (not_ x) = tests_of x
  tests_of (test t) = t ∷ []

  pub tests_among : Logics → List Test
  tests_among no_logics = []
  tests_among (more_logics x xs) = tests_of x ++ tests_among xs

abbrev pub tests_in_list : List Logic → List Test
tests_in_list [] = []
tests_in_list (x ∷ xs) = tests_of x ++ tests_in_list xs

abbrev pub tests_in_whens : Whens → List Test
tests_in_whens no_whens = []
tests_in_whens (more_whens (MkWhen tests ss) ws) = tests_in_list tests ++ tests_in_whens ws

abbrev pub tests_in_turns : Turns → List Test
tests_in_turns (until after t) = tests_of t
tests_in_turns (varying after item start by t) = tests_of t
tests_in_turns _ = []

abbrev pub tests_in_act : Act → List Test
tests_in_act (if_ t held other) = tests_of t
tests_in_act (evaluate ws other) = tests_in_whens ws
tests_in_act (perform body turns) = tests_in_turns turns
tests_in_act _ = []

-- ---- effects: none where another edge is the way on

abbrev pub Effect : Type 0
Effect = Result (Option World) Kind

abbrev pub edge_taken : World → Effect
edge_taken w = Ok (Some w)

abbrev pub not_taken : Effect
not_taken = Ok None

abbrev pub taken_if : Bool → World → Effect
taken_if true w = edge_taken w
taken_if false w = not_taken

abbrev pub met : Result World Kind → Effect
met r = r >>= edge_taken

module _ (p : Program) (number : ℕ) (c : Choice) (w : World) where
  abbrev pub edge_assigned : Act → Effect
  edge_assigned (act.move x places) = met (move p.layout x places w)
  edge_assigned (perform body (varying after item start by t)) = met (set_varied p.layout item start w)
  edge_assigned (read f into end fine) = edge_taken (into_if p.layout f into w)
  edge_assigned (write r from) = met (move_if p.layout from r w)
  edge_assigned _ = not_taken

  abbrev pub edge_computed : Bool → Act → Effect
  edge_computed failed (arith s targets remainder size fine) =
      compute p.layout (is_given size) s targets remainder w >>= λ x. taken_if (if failed then x.1 else not x.1) x.0
  edge_computed false (perform body (varying after item start by t)) = met (augment p.layout item by w)
  edge_computed failed _ = not_taken

  abbrev pub edge_decided : Bool → Option Test → Effect
  edge_decided wanted None = not_taken
  edge_decided wanted (Some t) = test_holds p.layout w.storage t >>= λ b. taken_if (if wanted then b else not b) w

  -- the test of TIMES, or a simple condition
  abbrev pub edge_tested : Bool → ℕ → Act → Effect
  edge_tested wanted k (perform body (times x)) =
      taken_if (if wanted then is_left (count_of number w) else not (is_left (count_of number w))) w
  edge_tested wanted k a = edge_decided wanted (slice_get (tests_in_act a) k)

  abbrev pub edge_counted : Act → Effect
  edge_counted (perform body (times x)) = met (set_count p.layout number x w)
  edge_counted _ = not_taken

  -- a call on a file, where its status is as the edge says
  abbrev pub by_status : Bool → World × ℕ → Effect
  by_status fine x = taken_if (if fine then is_fine x.1 else not (is_fine x.1)) x.0

  abbrev pub edge_opened : Bool → Option Opening → Effect
  edge_opened fine None = not_taken
  edge_opened fine (Some o) = by_status fine (open_one p.layout o w)

  abbrev pub edge_closed : Bool → Option ℕ → Effect
  edge_closed fine None = not_taken
  edge_closed fine (Some f) = by_status fine (close_one p.layout f w)

  abbrev pub edge_wrote : Bool → ℕ → Option ℕ → Effect
  edge_wrote fine r None = not_taken
  edge_wrote fine r (Some f) = by_status fine (write_one p.layout c f r w)

  abbrev pub file_call : Bool → ℕ → Act → Effect
  file_call fine k (open_files os) = edge_opened fine (slice_get os k)
  file_call fine k (close_files fs) = edge_closed fine (slice_get fs k)
  file_call fine k (write r from) = edge_wrote fine r (file_from p.layout 0 p.layout.files r)
  file_call fine k _ = not_taken

  abbrev pub ended_with : ℕ → World × ℕ → Effect
  ended_with status x = taken_if (x.1 == status) x.0

  -- neither 00 nor 10
  abbrev pub bad_read : World × ℕ → Effect
  bad_read x = taken_if (not (is_fine x.1) && not (x.1 == 10)) x.0

  abbrev pub called_bad : ℕ → Act → Effect
  called_bad k (read f into end fine) = bad_read (take_one p.layout c f w)
  called_bad k a = file_call false k a

  abbrev pub read_with : ℕ → Act → Effect
  read_with status (read f into end fine) = ended_with status (take_one p.layout c f w)
  read_with status _ = not_taken

  abbrev pub edge_shown : Act → Effect
  edge_shown (act.show xs) = edge_taken (show p.layout xs w)
  edge_shown _ = not_taken

  abbrev pub effect_of : Action → Act → Effect
  effect_of action.Skip a = edge_taken w
  effect_of action.Assign a = edge_assigned a
  effect_of action.Done a = edge_computed false a
  effect_of action.Size a = edge_computed true a
  effect_of (action.True k) a = edge_tested true k a
  effect_of (action.False k) a = edge_tested false k a
  effect_of action.SetCount a = edge_counted a
  effect_of action.Down a = edge_taken (count_down p.layout number w)
  effect_of (action.Open k) a = file_call true k a
  effect_of (action.Close k) a = file_call true k a
  effect_of action.Take a = read_with 0 a
  effect_of action.AtEnd a = read_with 10 a
  effect_of (action.Bad k) a = called_bad k a
  effect_of action.Write a = file_call true 0 a
  effect_of action.Show a = edge_shown a

  -- what the edge does where the run is at its node, or the fault that the statement meets there
  abbrev pub effect : Action → Effect
  effect a = option_map_or (effect_of a) (act_at p number) not_taken

  -- ---- the status that a call on a file gives

  abbrev pub status_if : {A : Type 0} → Option A → (A → World × ℕ) → Option ℕ
  status_if None call = None
  status_if (Some a) call = Some (call a).1

  abbrev pub status_by : ℕ → Act → Option ℕ
  status_by k (open_files os) = status_if (slice_get os k) (λ o. open_one p.layout o w)
  status_by k (close_files fs) = status_if (slice_get fs k) (λ f. close_one p.layout f w)
  status_by k (read f into end fine) = Some (take_one p.layout c f w).1
  status_by k (write r from) = status_if (file_from p.layout 0 p.layout.files r) (λ f. write_one p.layout c f r w)
  status_by k _ = None

  -- The status of the edge at the end of a file, and of one with another status.
  abbrev pub status_of : Action → Act → Option ℕ
  status_of action.AtEnd a = status_by 0 a
  status_of (action.Bad k) a = status_by k a
  status_of _ a = None

  abbrev pub status : Action → Option ℕ
  status x = option_map_or (status_of x) (act_at p number) None

-- ---- whether the run goes on behind an edge

module _ (p : Program) (number : ℕ) where
  abbrev pub handled_in : Option ℕ → Bool
  handled_in None = true
  handled_in (Some file) = has_status p.layout file

  abbrev pub handled_by : ℕ → Act → Bool
  handled_by k (open_files os) = handled_in (option_map (λ o. o.file) (slice_get os k))
  handled_by k (close_files fs) = handled_in (slice_get fs k)
  handled_by k (read f into end fine) = has_status p.layout f
  handled_by k (write r from) = handled_in (file_from p.layout 0 p.layout.files r)
  handled_by k _ = true

  abbrev pub end_handled : Act → Bool
  end_handled (read f into end fine) = if is_given end then true else has_status p.layout f
  end_handled _ = true

  -- A status that neither FILE STATUS nor AT END handles ends the run.
  abbrev pub is_handled : Action → Bool
  is_handled action.AtEnd = option_map_or end_handled (act_at p number) true
  is_handled (action.Bad k) = option_map_or (handled_by k) (act_at p number) true
  is_handled _ = true
