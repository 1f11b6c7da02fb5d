-- What is still to be done can be done, after each step too.
use Rattle.std.proofs.Common.{◌≡◌, ℕ, zero, suc, ◌-◌, ◌==◌, ◌&&◌, if◌then◌else◌, Bool, true, false, List, [], ◌∷◌, sym, subst, Option, Some, None, slice_get, Result, Ok, Err}
use Rattle.std.specs.List.{AllByRecursion}
use Rattle.std.specs.Option.{option_map_or}
use Rattle.std.specs.Result.{OnOk}
use Rattle.cob_tree.specs.declared.fault.Kind.{Kind}
use Rattle.cob_data.specs.declared.layout.Layout.{Layout}
use Rattle.cob_data.specs.declared.layout.Sender.{Sender}
use Rattle.cob_program.specs.Logic.{Logic, logics_of}
use Rattle.cob_program.specs.Act.{Turns, once, times, until, varying, Stmt, MkStmt, Stmts, no_stmts, more_stmts, Phrase, left_out, given, Act, arith, if_, evaluate, perform, go, nothing, stop, open_files, close_files, read, write, Whens, no_whens, more_whens, MkWhen, Body, range, inline, Para, Program}
use Rattle.cob_program.specs.Act as act
use Rattle.cob_runs.specs.declared.outcome.Outcome.{Outcome}
use Rattle.cob_runs.specs.declared.outcome.Outcome.TheVariants.{Going, Ended, IoStop, Fault}
use Rattle.cob_runs.specs.Faults.{◌>>=◌}
use Rattle.cob_runs.specs.Files.{Choice}
use Rattle.cob_runs.specs.Deciding.{some_holds, logic_holds}
use Rattle.cob_runs.specs.State.{World, Doing, rest, paras, testing, augmenting, State, state, going}
use Rattle.cob_runs.specs.Acts.{move, compute, has_status, is_fine, read_one, write_one, file_from, move_if, set_count, set_varied, augment}
use Rattle.cob_runs.specs.Steps.{body_at, begun, entered, settled, gone_to, body_of, list_of, is_given, outcome_of, behind_read, chosen, loop_begun, goes_on, turn, tested, augmented, written_by, done, front_done, settled_on, settle, faulty_or, number_of, step_on}
use Rattle.cob_calc.specs.Comparing.{CanDecide, CanDecideAll}
use Rattle.cob_world.specs.Doing.{CanDo, CanDoPhrase, CanDoAct, CanDoWhens, CanDoBody, CanDoParas, CanDoProgram, CanTurn}
use Rattle.cob_step.specs.Ready.{CanDoNext, CanDoAll, IsReady}

-- ---- conditions

pub can_decide_all : (l : Layout) (xs : List Logic) → AllByRecursion (CanDecide l) xs → CanDecideAll l (logics_of xs)
can_decide_all l [] h = tt
can_decide_all l (x ∷ xs) (h, hs) = (h, can_decide_all l xs hs)

-- ---- a result, if there is one

abbrev Holds : {A : Type 0} → (A → Type 0) → Result A Kind → Type 0
Holds P (Ok a) = P a
Holds P (Err kind) = Unit {0}

onward : {A B : Type 0} (P : A → Type 0) (Q : B → Type 0) (r : Result A Kind) (next : A → Result B Kind) →
    Holds P r → ((a : A) → P a → Holds Q (next a)) → Holds Q (r >>= next)
onward P Q (Ok a) next h on = on a h
onward P Q (Err kind) next h on = tt

anything : {A : Type 0} (r : Result A Kind) → Holds (λ a. Unit {0}) r
anything (Ok a) = tt
anything (Err kind) = tt

onward_from : {A B : Type 0} (Q : B → Type 0) (r : Result A Kind) (next : A → Result B Kind) →
    ((a : A) → Holds Q (next a)) → Holds Q (r >>= next)
onward_from Q r next on = onward (λ a. Unit {0}) Q r next (anything r) (λ a h. on a)

-- ---- what comes next

module _ (p : Program) (able : CanDoProgram p) where
  can_para : (xs : List Para) (n : ℕ) → CanDoParas p.layout xs →
      CanDo p.layout (option_map_or (λ x. x.body) (slice_get xs n) no_stmts)
  can_para [] n h = tt
  can_para (x ∷ xs) zero (h, hs) = h
  can_para (x ∷ xs) (suc n) (h, hs) = can_para xs n hs

  pub can_body : (n : ℕ) → CanDo p.layout (body_at p n)
  can_body n = can_para p.paras n able

  can_begin : (ss : Stmts) (front otherwise : List Doing) → CanDo p.layout ss → CanDoAll p.layout front →
      CanDoAll p.layout otherwise → CanDoAll p.layout (begun ss front otherwise)
  can_begin no_stmts front otherwise h f o = o
  can_begin (more_stmts s ss) front otherwise h f o = (h, f)

  can_enter : (n first q : ℕ) (ds behind : List Doing) → CanDoAll p.layout ds → CanDoAll p.layout behind →
      CanDoAll p.layout (entered p n first q ds behind)
  can_enter zero first q ds behind d b = b
  can_enter (suc n) first q ds behind d b =
      can_begin (body_at p first) (paras (suc first) q ∷ ds) (entered p n (suc first) q ds behind) (can_body first)
      (tt, d)
      (can_enter n (suc first) q ds behind d b)

  pub can_settle : (ds : List Doing) → CanDoAll p.layout ds → CanDoAll p.layout (settled p ds)
  can_settle [] h = tt
  can_settle (rest ss ∷ ds) (h, hs) = can_begin ss ds (settled p ds) h hs (can_settle ds hs)
  can_settle (paras first q ∷ ds) (h, hs) = can_enter (suc q - first) first q ds (settled p ds) hs (can_settle ds hs)
  can_settle (testing n body turns ∷ ds) h = h
  can_settle (augmenting n body turns ∷ ds) h = h

  can_go : (n : ℕ) (ds : List Doing) → CanDoAll p.layout ds → CanDoAll p.layout (gone_to n ds)
  can_go n [] h = tt
  can_go n (rest ss ∷ ds) (h, hs) = can_go n ds hs
  can_go n (paras first q ∷ ds) (h, hs) = (tt, hs)
  can_go n (testing m body turns ∷ ds) (h, hs) = can_go n ds hs
  can_go n (augmenting m body turns ∷ ds) (h, hs) = can_go n ds hs

  can_body_of : (body : Body) → CanDoBody p.layout body → CanDoNext p.layout (body_of body)
  can_body_of (range first last) h = tt
  can_body_of (inline ss) h = h

  can_list_of : (x : Phrase) → CanDoPhrase p.layout x → CanDo p.layout (list_of x)
  can_list_of left_out h = tt
  can_list_of (given ss) h = h

  -- ---- statements

  module _ (c : Choice) where
    abbrev pub CanGoOn : State → Type 0
    CanGoOn s = CanDoAll p.layout s.control

    either_list : (x : Bool) (body : Stmts) (r : Result Stmts Kind) → CanDo p.layout body → Holds (CanDo p.layout) r →
        Holds (CanDo p.layout) (if x then Ok body else r)
    either_list true body r b h = b
    either_list false body r b h = h

    can_choose : (w : World) (ws : Whens) (other : Stmts) → CanDoWhens p.layout ws → CanDo p.layout other →
        Holds (CanDo p.layout) (chosen p c w ws other)
    can_choose w no_whens other h o = o
    can_choose w (more_whens (MkWhen tests body) ws) other (t, b, hs) o =
        onward_from (CanDo p.layout) (some_holds p.layout w.storage (logics_of tests))
        (λ x. if x then Ok body else chosen p c w ws other)
        (λ x. either_list x body (chosen p c w ws other) b (can_choose w ws other hs o))

    can_begin_loop : (number : ℕ) (body : Body) (turns : Turns) (w : World) (ds : List Doing) →
        CanDoBody p.layout body →
        CanTurn p.layout turns → CanDoAll p.layout ds → Holds CanGoOn (loop_begun p c number body turns w ds)
    can_begin_loop number body once w ds b t h = (can_body_of body b, h)
    can_begin_loop number body (times x) w ds b t h = onward_from CanGoOn (set_count p.layout number x w)
        (λ v. Ok (going v (testing number body (times x) ∷ ds))) (λ v. ((b, t), h))
    can_begin_loop number body (until false x) w ds b t h = ((b, t), h)
    can_begin_loop number body (until true x) w ds b t h = (can_body_of body b, ((b, t), h))
    can_begin_loop number body (varying false item start by x) w ds b t h =
        onward_from CanGoOn (set_varied p.layout item start w)
        (λ v. Ok (going v (testing number body (varying false item start by x) ∷ ds))) (λ v. ((b, t), h))
    can_begin_loop number body (varying true item start by x) w ds b t h =
        onward_from CanGoOn (set_varied p.layout item start w)
        (λ v. Ok (going v (body_of body ∷ testing number body (varying true item start by x) ∷ ds)))
        (λ v. (can_body_of body b, ((b, t), h)))

    can_take_turn : (number : ℕ) (body : Body) (turns : Turns) (ds : List Doing) → CanDoBody p.layout body →
        CanTurn p.layout turns → CanDoAll p.layout ds → CanDoAll p.layout (turn p c number body turns ds)
    can_take_turn number body once ds b t h = h
    can_take_turn number body (times x) ds b t h = (can_body_of body b, ((b, t), ((b, t), h)))
    can_take_turn number body (until after x) ds b t h = (can_body_of body b, ((b, t), h))
    can_take_turn number body (varying false item start by x) ds b t h = (can_body_of body b, ((b, t), ((b, t), h)))
    can_take_turn number body (varying true item start by x) ds b t h = ((b, t), ((b, t), h))

    can_test : (number : ℕ) (body : Body) (turns : Turns) (w : World) (ds : List Doing) → CanDoBody p.layout body →
        CanTurn p.layout turns → CanDoAll p.layout ds → Holds CanGoOn (tested p c number body turns w ds)
    can_test number body turns w ds b t h =
        onward_from CanGoOn (goes_on p c number turns w) (λ x. Ok
        (going w (if x then turn p c number body turns ds else ds)))
        (λ x. either x)
      where
        either : (x : Bool) → CanDoAll p.layout (if x then turn p c number body turns ds else ds)
        either true = can_take_turn number body turns ds b t h
        either false = h

    can_augment : (number : ℕ) (body : Body) (turns : Turns) (w : World) (ds : List Doing) → CanDoBody p.layout body →
        CanTurn p.layout turns → CanDoAll p.layout ds → Holds CanGoOn (augmented p c number body turns w ds)
    can_augment number body once w ds b t h = h
    can_augment number body (times x) w ds b t h = h
    can_augment number body (until after x) w ds b t h = h
    can_augment number body (varying false item start by x) w ds b t h =
        onward_from CanGoOn (augment p.layout item by w) (λ v. Ok (going v ds)) (λ v. h)
    can_augment number body (varying true item start by x) w ds b t h =
        onward_from CanGoOn (augment p.layout item by w) (λ v. Ok (going v (body_of body ∷ ds)))
        (λ v. (can_body_of body b, h))

    can_go_behind_read : (number : ℕ) (has : Bool) (end : Phrase) (fine : Stmts) (ds : List Doing) (x : World × ℕ) →
        CanDoPhrase p.layout end → CanDo p.layout fine → CanDoAll p.layout ds →
        CanGoOn (behind_read number has end fine ds x)
    can_go_behind_read number has end fine ds x e f h = first (is_fine x.1)
      where
        second : (b : Bool) → CanGoOn (if b then going x.0 (rest (list_of end) ∷ ds) else state x.0 ds
            (outcome_of number has x.1))
        second true = (can_list_of end e, h)
        second false = h

        first : (b : Bool) → CanGoOn (if b then going x.0 (rest fine ∷ ds)
            else (if x.1 == 10 && is_given end then going x.0 (rest (list_of end) ∷ ds)
            else state x.0 ds (outcome_of number has x.1)))
        first true = (f, h)
        first false = second (x.1 == 10 && is_given end)

    can_write : (number r : ℕ) (f : Option ℕ) (from : Option Sender) (w : World) (ds : List Doing) →
        CanDoAll p.layout ds → Holds CanGoOn (written_by p c number r f from w ds)
    can_write number r None from w ds h = h
    can_write number r (Some f) from w ds h = onward_from CanGoOn (move_if p.layout from r w)
        (λ v. Ok (state (write_one p.layout c f r v).0 ds (outcome_of number (has_status p.layout f)
        (write_one p.layout c f r v).1)))
        (λ v. h)

    can_do : (number : ℕ) (a : Act) (w : World) (ds : List Doing) → CanDoAct p.layout a → CanDoAll p.layout ds →
        Holds CanGoOn (done p c number a w ds)
    can_do number (act.move x places) w ds a h =
        onward_from CanGoOn (move p.layout x places w) (λ v. Ok (going v ds)) (λ v. h)
    can_do number (arith s targets remainder size fine) w ds (a, b, f) h =
        onward_from CanGoOn (compute p.layout (is_given size) s targets remainder w)
        (λ x. Ok (going x.0 (rest (if x.1 then list_of size else fine) ∷ ds))) (λ x. (either x.1, h))
      where
        either : (x : Bool) → CanDo p.layout (if x then list_of size else fine)
        either true = can_list_of size b
        either false = f
    can_do number (if_ t held other) w ds (t_, a, b) h =
        onward_from CanGoOn (logic_holds p.layout w.storage t)
        (λ x. Ok (going w (rest (if x then held else other) ∷ ds)))
        (λ x. (either x, h))
      where
        either : (x : Bool) → CanDo p.layout (if x then held else other)
        either true = a
        either false = b
    can_do number (evaluate ws other) w ds (a, b) h =
        onward (CanDo p.layout) CanGoOn (chosen p c w ws other) (λ ss. Ok (going w (rest ss ∷ ds)))
        (can_choose w ws other a b) (λ ss s. (s, h))
    can_do number (perform body turns) w ds (t, b) h = can_begin_loop number body turns w ds b t h
    can_do number (go para) w ds a h = can_go para ds h
    can_do number nothing w ds a h = h
    can_do number stop w ds a h = tt
    can_do number (open_files os) w ds a h = h
    can_do number (close_files fs) w ds a h = h
    can_do number (read f into end fine) w ds (a, b) h =
        can_go_behind_read number (has_status p.layout f) end fine ds (read_one p.layout c f into w) a b h
    can_do number (write r from) w ds a h = can_write number r (file_from p.layout 0 p.layout.files r) from w ds h
    can_do number (act.show xs) w ds a h = h

    can_do_front : (d : Doing) (w : World) (ds : List Doing) → CanDoNext p.layout d → CanDoAll p.layout ds →
        Holds CanGoOn (front_done p c d w ds)
    can_do_front (rest no_stmts) w ds a h = h
    can_do_front (rest (more_stmts (MkStmt number line a) ss)) w ds (x, xs) h = can_do number a w (rest ss ∷ ds) x
        (xs, h)
    can_do_front (paras first q) w ds a h = h
    can_do_front (testing number body turns) w ds (b, t) h = can_test number body turns w ds b t h
    can_do_front (augmenting number body turns) w ds (b, t) h = can_augment number body turns w ds b t h

    -- ---- a step

    can_settle_on : (w : World) (ds : List Doing) → CanDoAll p.layout ds → CanGoOn (settled_on p c w ds)
    can_settle_on w [] h = tt
    can_settle_on w (d ∷ ds) h = h

    can_settle_with : (w : World) (ds : List Doing) (o : Outcome) → CanDoAll p.layout ds → CanGoOn (settle p c w ds o)
    can_settle_with w ds Going h = can_settle_on w (settled p ds) (can_settle ds h)
    can_settle_with w ds Ended h = h
    can_settle_with w ds (IoStop status statement) h = h
    can_settle_with w ds (Fault kind statement) h = h

    can_go_behind : (s : State) (number : ℕ) (r : Result State Kind) → CanGoOn s → Holds CanGoOn r →
        CanGoOn (faulty_or p c s number r)
    can_go_behind s number (Ok next) h x = can_settle_with next.world next.control next.outcome x
    can_go_behind s number (Err kind) h x = h

    pub can_step_on : (s : State) (ds : List Doing) → CanGoOn s → CanDoAll p.layout ds → CanGoOn (step_on p c s ds)
    can_step_on s [] h x = tt
    can_step_on s (d ∷ ds) h (a, as_) = can_go_behind s (number_of d) (front_done p c d s.world ds) h
        (can_do_front d s.world ds a as_)

    -- what a step makes of a run can be done too
    pub can_step : (s t : State) → CanGoOn s → t ≡ step_on p c s s.control → CanGoOn t
    can_step s t h e = let P : State → Type 0 = λ x. CanGoOn x in subst P (sym e) (can_step_on s s.control h h)

    pub step_is_ready : {T E : Type 0} (r : Result T E) (s t : State) → IsReady p s →
        OnOk r (t ≡ step_on p c s s.control) → OnOk r (IsReady p t)
    step_is_ready (Ok x) s t h e = record { able = can_step s t h.able e }
    step_is_ready (Err x) s t h e = tt
