-- One step of a run, and what is still to be done behind it (ISO 1989:1985, "Procedure division").
use Rattle.std.specs.Prelude.{ℕ, zero, suc, ◌+◌, ◌-◌, ◌==◌, ◌&&◌, nat_lt, if◌then◌else◌, Bool, true, false, List, [], ◌∷◌, ◌++◌, length, slice_get, Option, Some, None, is_some, Result, Ok, Err, ℤ, pos, negsuc}
use Rattle.std.specs.Option.{option_map_or}
use Rattle.cob_tree.specs.declared.fault.Kind.{Kind}
use Rattle.cob_data.specs.declared.layout.Layout.{Layout}
use Rattle.cob_data.specs.declared.layout.Sender.{Sender}
use Rattle.cob_program.specs.declared.act.Opening.{Opening}
use Rattle.cob_program.specs.Logic.{Logic, Logics, logics_of}
use Rattle.cob_program.specs.Act.{Turns, once, times, until, varying, Stmt, MkStmt, Stmts, no_stmts, more_stmts, Phrase, left_out, given, Act, arith, if_, evaluate, perform, go, nothing, stop, open_files, close_files, read, write, Whens, no_whens, more_whens, MkWhen, Body, range, inline, Para, Program}
use Rattle.cob_program.specs.Act as act
use Rattle.cob_runs.specs.declared.outcome.Outcome.{Outcome}
use Rattle.cob_runs.specs.declared.outcome.Outcome.TheVariants.{Going, Ended, IoStop, Fault}
use Rattle.cob_runs.specs.Faults.{◌>>=◌}
use Rattle.cob_runs.specs.Deciding.{logic_holds, some_holds}
use Rattle.cob_runs.specs.Files.{Choice}
use Rattle.cob_runs.specs.State.{World, Doing, rest, paras, testing, augmenting, State, state, going}
use Rattle.cob_runs.specs.Acts.{move, compute, show, count_of, set_count, count_down, set_varied, augment, has_status, is_fine, open_one, close_one, read_one, write_one, file_from, move_if}

-- ---- what comes next

abbrev pub body_at : Program → ℕ → Stmts
body_at p n = option_map_or (λ x. x.body) (slice_get p.paras n) no_stmts

abbrev pub begun : Stmts → List Doing → List Doing → List Doing
begun no_stmts front otherwise = otherwise
begun (more_stmts s ss) front otherwise = rest (more_stmts s ss) ∷ front

-- The paragraphs from one on, so many, the last of them q, in front of a list, which is given settled too.
abbrev pub entered : Program → ℕ → ℕ → ℕ → List Doing → List Doing → List Doing
entered p zero first q ds behind = behind
entered p (suc n) first q ds behind = begun (body_at p first) (paras (suc first) q ∷ ds) (entered p n (suc first) q ds behind)

-- A list whose front is something to do. What stands behind the front stays, paragraphs that are none too.
abbrev pub settled : Program → List Doing → List Doing
settled p [] = []
settled p (rest ss ∷ ds) = begun ss ds (settled p ds)
settled p (paras first q ∷ ds) = entered p (suc q - first) first q ds (settled p ds)
settled p (testing n body turns ∷ ds) = testing n body turns ∷ ds
settled p (augmenting n body turns ∷ ds) = augmenting n body turns ∷ ds

-- GO TO goes on with its paragraph, among the innermost paragraphs that are being run.
abbrev pub gone_to : ℕ → List Doing → List Doing
gone_to p [] = []
gone_to p (paras first q ∷ ds) = paras p q ∷ ds
gone_to p (d ∷ ds) = gone_to p ds

abbrev pub body_of : Body → Doing
body_of (range first last) = paras first last
body_of (inline ss) = rest ss

abbrev pub list_of : Phrase → Stmts
list_of left_out = no_stmts
list_of (given ss) = ss

abbrev pub is_given : Phrase → Bool
is_given left_out = false
is_given (given ss) = true

-- whether a turn of TIMES is left
abbrev pub is_left : Option ℤ → Bool
is_left (Some (pos (suc n))) = true
is_left _ = false

-- the number of the statement that something to do belongs to
abbrev pub number_of : Doing → ℕ
number_of (rest (more_stmts (MkStmt number line a) ss)) = number
number_of (testing number body turns) = number
number_of (augmenting number body turns) = number
number_of _ = 0

-- ---- files

-- A status that nothing handles goes on where the file has FILE STATUS, and else ends the run.
abbrev pub outcome_of : ℕ → Bool → ℕ → Outcome
outcome_of number handled status = if is_fine status then Going else (if handled then Going else IoStop status number)

-- each in turn, until one ends the run
module _ {A : Type 0} (l : Layout) (act : A → World → World × ℕ) (file : A → ℕ) (number : ℕ) where
  abbrev pub unless_over : Outcome → World → World × Outcome → World × Outcome
  unless_over Going w next = next
  unless_over o w next = (w, o)

  abbrev pub each_from : List A → World → World × Outcome
  each_from [] w = (w, Going)
  each_from (a ∷ as_) w =
      unless_over (outcome_of number (has_status l (file a)) (act a w).1) (act a w).0 (each_from as_ (act a w).0)

abbrev pub ended_by : World × Outcome → List Doing → State
ended_by x ds = state x.0 ds x.1

-- AT END handles the end of a file, NOT AT END what went well.
abbrev pub behind_read : ℕ → Bool → Phrase → Stmts → List Doing → World × ℕ → State
behind_read number has end fine ds x =
    if is_fine x.1 then going x.0 (rest fine ∷ ds)
    else (if x.1 == 10 && is_given end then going x.0 (rest (list_of end) ∷ ds)
    else state x.0 ds (outcome_of number has x.1))

-- ---- one step

module _ (p : Program) (c : Choice) where
  -- the first WHEN that matches
  abbrev pub chosen : World → Whens → Stmts → Result Stmts Kind
  chosen w no_whens other = Ok other
  chosen w (more_whens (MkWhen tests body) ws) other =
      some_holds p.layout w.storage (logics_of tests) >>= λ b. if b then Ok body else chosen w ws other

  -- PERFORM: what is set first, and what is done first
  abbrev pub loop_begun : ℕ → Body → Turns → World → List Doing → Result State Kind
  loop_begun number body once w ds = Ok (going w (body_of body ∷ ds))
  loop_begun number body (times x) w ds = set_count p.layout number x w >>= λ v. Ok (going v (testing number body (times x) ∷ ds))
  loop_begun number body (until false t) w ds = Ok (going w (testing number body (until false t) ∷ ds))
  loop_begun number body (until true t) w ds = Ok (going w (body_of body ∷ testing number body (until true t) ∷ ds))
  loop_begun number body (varying false item start by t) w ds =
      set_varied p.layout item start w >>= λ v. Ok (going v (testing number body (varying false item start by t) ∷ ds))
  loop_begun number body (varying true item start by t) w ds =
      set_varied p.layout item start w >>= λ v. Ok (going v (body_of body ∷ testing number body (varying true item start by t) ∷ ds))

  -- what a loop does where it goes on
  abbrev pub turn : ℕ → Body → Turns → List Doing → List Doing
  turn number body once ds = ds
  turn number body (times x) ds = body_of body ∷ augmenting number body (times x) ∷ testing number body (times x) ∷ ds
  turn number body (until after t) ds = body_of body ∷ testing number body (until after t) ∷ ds
  turn number body (varying false item start by t) ds =
      body_of body ∷ augmenting number body (varying false item start by t) ∷ testing number body (varying false item start by t) ∷ ds
  turn number body (varying true item start by t) ds =
      augmenting number body (varying true item start by t) ∷ testing number body (varying true item start by t) ∷ ds

  -- whether a loop goes on
  abbrev pub goes_on : ℕ → Turns → World → Result Bool Kind
  goes_on number once w = Ok false
  goes_on number (times x) w = Ok (is_left (count_of number w))
  goes_on number (until after t) w = logic_holds p.layout w.storage t >>= λ b. Ok (if b then false else true)
  goes_on number (varying after item start by t) w = logic_holds p.layout w.storage t >>= λ b. Ok (if b then false else true)

  abbrev pub tested : ℕ → Body → Turns → World → List Doing → Result State Kind
  tested number body turns w ds = goes_on number turns w >>= λ b. Ok (going w (if b then turn number body turns ds else ds))

  abbrev pub augmented : ℕ → Body → Turns → World → List Doing → Result State Kind
  augmented number body once w ds = Ok (going w ds)
  augmented number body (times x) w ds = Ok (going (count_down p.layout number w) ds)
  augmented number body (until after t) w ds = Ok (going w ds)
  augmented number body (varying false item start by t) w ds = augment p.layout item by w >>= λ v. Ok (going v ds)
  augmented number body (varying true item start by t) w ds = augment p.layout item by w >>= λ v. Ok (going v (body_of body ∷ ds))

  -- FROM is moved first
  abbrev pub written_by : ℕ → ℕ → Option ℕ → Option Sender → World → List Doing → Result State Kind
  written_by number r None from w ds = Ok (going w ds)
  written_by number r (Some f) from w ds =
      move_if p.layout from r w >>= λ v.
      Ok (state (write_one p.layout c f r v).0 ds (outcome_of number (has_status p.layout f) (write_one p.layout c f r v).1))

  -- a statement, in front of what is to be done behind it
  abbrev pub done : ℕ → Act → World → List Doing → Result State Kind
  done number (act.move x places) w ds = move p.layout x places w >>= λ v. Ok (going v ds)
  done number (arith s targets remainder size fine) w ds =
      compute p.layout (is_given size) s targets remainder w >>= λ x. Ok (going x.0 (rest (if x.1 then list_of size else fine) ∷ ds))
  done number (if_ t held other) w ds = logic_holds p.layout w.storage t >>= λ b. Ok (going w (rest (if b then held else other) ∷ ds))
  done number (evaluate ws other) w ds = chosen w ws other >>= λ ss. Ok (going w (rest ss ∷ ds))
  done number (perform body turns) w ds = loop_begun number body turns w ds
  done number (go para) w ds = Ok (going w (gone_to para ds))
  done number nothing w ds = Ok (going w ds)
  done number stop w ds = Ok (state w [] Ended)
  done number (open_files os) w ds = Ok (ended_by (each_from p.layout (open_one p.layout) (λ o. o.file) number os w) ds)
  done number (close_files fs) w ds = Ok (ended_by (each_from p.layout (close_one p.layout) (λ f. f) number fs w) ds)
  done number (read f into end fine) w ds =
      Ok (behind_read number (has_status p.layout f) end fine ds (read_one p.layout c f into w))
  done number (write r from) w ds = written_by number r (file_from p.layout 0 p.layout.files r) from w ds
  done number (act.show xs) w ds = Ok (going (show p.layout xs w) ds)

  abbrev pub first_done : Stmt → World → List Doing → Result State Kind
  first_done (MkStmt number line a) w ds = done number a w ds

  abbrev pub front_done : Doing → World → List Doing → Result State Kind
  front_done (rest no_stmts) w ds = Ok (going w ds)
  front_done (rest (more_stmts s ss)) w ds = first_done s w (rest ss ∷ ds)
  front_done (paras first q) w ds = Ok (going w ds)
  front_done (testing number body turns) w ds = tested number body turns w ds
  front_done (augmenting number body turns) w ds = augmented number body turns w ds

  -- Where nothing is left to be done the run has ended.
  abbrev pub settled_on : World → List Doing → State
  settled_on w [] = state w [] Ended
  settled_on w (d ∷ ds) = going w (d ∷ ds)

  abbrev pub settle : World → List Doing → Outcome → State
  settle w ds Going = settled_on w (settled p ds)
  settle w ds o = state w ds o

  abbrev pub settled_state : State → State
  settled_state s = settle s.world s.control s.outcome

  -- A step that meets a fault changes nothing but the outcome.
  abbrev pub faulty_or : State → ℕ → Result State Kind → State
  faulty_or s number (Ok next) = settled_state next
  faulty_or s number (Err kind) = state s.world s.control (Fault kind number)

  abbrev pub step_on : State → List Doing → State
  step_on s [] = state s.world [] Ended
  step_on s (d ∷ ds) = faulty_or s (number_of d) (front_done d s.world ds)

  abbrev pub step_in : Outcome → State → State
  step_in Going s = step_on s s.control
  step_in o s = s

  abbrev pub step : State → State
  step s = step_in s.outcome s
