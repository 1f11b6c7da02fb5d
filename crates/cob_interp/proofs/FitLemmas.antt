-- Steps of a plan, gone through.
use Rattle.std.proofs.Common.{◌≡◌, ◌≢◌, ◌+◌, ◌<◌, ◌≤◌, ◌==◌, ◌||◌, ◌⊎◌, inl, inr, ℕ, zero, suc, Bool, true, false, List, [], ◌∷◌, length, Option, Some, None, Result, Ok, Err, refl, sym, ap, subst, ◌∙◌, arith}
use Rattle.std.specs.Prelude.{slice_get, Contains, IfOk}
use Rattle.std.proofs.lemmas.Bool.{eqb-false, eq-eqb, ne_eqb, false≢true}
use Rattle.std.proofs.lemmas.Option.{none-some, same_Some, slice_get_within}
use Rattle.cob_program.specs.declared.act.Opening.{Opening}
use Rattle.cob_program.specs.Act.{Act, move, arith as arithmetic, if_, evaluate, perform, go, nothing, stop, open_files, close_files, read, write, show}
use Rattle.cob_program.specs.ActView.{plain_act}
use Rattle.cob_runs.specs.declared.action.Action.{Action}
use Rattle.cob_runs.specs.Effects.{act_at}
use Rattle.cob_runs.specs.State.{World}
use Rattle.cob_graph.specs.declared.graph.Graph.{Graph}
use Rattle.cob_graph.specs.declared.graph.Node.{Node}
use Rattle.cob_graph.specs.Lookup.{node_at, final_in}
use Rattle.cob_plan.specs.declared.end.DoEnd.{DoEnd}
use Rattle.cob_plan.specs.declared.node.Op.{Op}
use Rattle.cob_plan.specs.declared.node.Op.TheVariants as op
use Rattle.cob_plan.specs.declared.node.PlanNode.{PlanNode}
use Rattle.cob_plan.specs.Doing.{Does}
use Rattle.cob_plan.specs.Fitting.{IsOfRead, BeginsRead}
use Rattle.cob_plan.specs.Plan.{ArePlanNodes, IsPlanNode, op_edges}
use Rattle.cob_plan.specs.Stepping as stepping
use Rattle.cob_plan.specs.Stepping.{rests_in, rests, IsRest, IsWithin, file_opened}
use Rattle.cob_interp.specs.declared.parts.Call.TheVariants as call
use Rattle.cob_interp.specs.declared.ends.RunEnd.{RunEnd}
use Rattle.cob_interp.specs.declared.ends.RunEnd.TheVariants as end
use Rattle.cob_interp.specs.declared.setting.Setting.{Setting}
use Rattle.cob_interp.specs.declared.setting.Standing.{Standing}
use Rattle.cob_interp.specs.Setting.{IsReady, IsPlace, FitsPlace, StartsAt, IsUncalled, is_uncalled, IsCall, IsWayOn, LeadsOn, LeadsBy, OpensAt, program_of, paths_of}
use Rattle.cob_interp.specs.Runs.{Outside}
use Rattle.cob_interp.specs.Running.{IsAt, HaltsOff}
use Rattle.cob_interp.specs.Doing.{IsPlain, IsQuiet, DoesPart, answered}
use Rattle.cob_interp.specs.Meeting.{IsMetBy, FailsBy}
use Rattle.cob_interp.specs.Reached.{last_of}
use Rattle.cob_interp.proofs.Failing.{last_uncalled, read_met}
use Rattle.cob_interp.proofs.Finishing.{spends_here}
use Rattle.cob_interp.proofs.OpLemmas.{opened_op}

-- ---- nodes by their numbers

there_is : {A : Type 0} (xs : List A) (n : ℕ) (x : A) → node_at xs n ≡ Some x → (1 ≤ n) × (n ≤ length xs)
there_is xs zero x is = cc
there_is xs (suc n) x is = let within = slice_get_within xs n x is in (omega arith, omega (arith, within))

get_at : {A : Type 0} (xs : List A) (n : ℕ) → n < length xs → (x : A) × (slice_get xs n ≡ Some x)
get_at [] n lt = absurd (omega (arith, lt))
get_at (x ∷ xs) zero lt = (x, refl)
get_at (x ∷ xs) (suc n) lt = get_at xs n (omega (arith, lt))

at_place : {A : Type 0} (xs : List A) (n : ℕ) → 1 ≤ n → n < length xs → (x : A) × (node_at xs n ≡ Some x)
at_place xs zero above below = absurd (omega (arith, above))
at_place xs (suc n) above below = get_at xs n (omega (arith, below))

pub node_there : {A : Type 0} (xs : List A) (n : ℕ) → 1 ≤ n → n < length xs → node_at xs n ≡ None → ⊥
node_there xs n above below none = let there = at_place xs n above below in none-some there.0 (sym none ∙ there.1)

-- whether a step goes on at a node that is there
pub rests_here : (ns : List PlanNode) (node : ℕ) (x : PlanNode) (starts : Bool) → Some x ≡ node_at ns node
    → x.starts ≡ starts → (starts || (node == length ns)) ≡ rests ns node
rests_here ns node x starts at is =
    ap (λ (b : Bool). b || (node == length ns)) (sym is) ∙ ap (rests_in (length ns) node) at

-- ---- where nodes lead

module _ (ns : List PlanNode) where
  rest_at : (node : ℕ) (o : Option PlanNode) → node_at ns node ≡ o → rests_in (length ns) node o ≡ false
      → (x : PlanNode) × (node_at ns node ≡ Some x) × (x.starts ≡ false) × (node < length ns) × (1 ≤ node)
  rest_at node None is goes = absurd (false≢true (sym goes))
  rest_at node (Some x) is goes =
      let t = there_is ns node x is in
      let b = both_false x.starts (node == length ns) goes in
      let apart : node ≢ length ns = λ same. absurd (false≢true (sym b.1 ∙ eq-eqb node (length ns) same)) in
      (x, is, b.0, below node (length ns) t.1 apart, t.0)
    where
      both_false : (a b : Bool) → (a || b) ≡ false → (a ≡ false) × (b ≡ false)
      both_false true b e = absurd (false≢true (sym e))
      both_false false b e = (refl, e)

      below : (m n : ℕ) → m ≤ n → m ≢ n → m < n
      below m n le apart = omega (arith, le, apart)

  -- a node at which a step goes on
  pub goes_at : (node : ℕ) → rests ns node ≡ false
      → (x : PlanNode) × (node_at ns node ≡ Some x) × (x.starts ≡ false) × (node < length ns) × (1 ≤ node)
  goes_at node goes = rest_at node (node_at ns node) refl goes

  module _ (from statement to : ℕ) (led : stepping.LeadsOn ns statement (suc from) to) where
    -- behind it no step goes on
    pub led_to_rest : rests ns to ≡ true → IsRest ns to
    led_to_rest rest = elim led.on [
      | inl r ↦ r
      | inr w ↦ record { above = w.1.above; within = omega (arith, w.1.below); is = rest }
    ]

    -- the step goes on there
    pub led_within : rests ns to ≡ false → IsWithin ns to statement × (from < to)
    led_within goes = elim led.on [
      | inl r ↦ absurd (false≢true (sym goes ∙ r.is))
      | inr w ↦ (w.1, omega (arith, w.0))
    ]

-- ---- operations and their statements

quiet_of : (o : Op) → IsOfRead false o → IsQuiet o
quiet_of (op.Assign to) is = tt
quiet_of (op.Skip to) is = absurd is
quiet_of (op.Show to) is = absurd is
quiet_of (op.SetCount to) is = absurd is
quiet_of (op.CountDown to) is = absurd is
quiet_of (op.Compute fine size) is = absurd is
quiet_of (op.Test k held other) is = absurd is
quiet_of (op.Open k fine bad) is = absurd is
quiet_of (op.Close k fine bad) is = absurd is
quiet_of (op.Read found end_ bad) is = absurd is
quiet_of (op.Write fine bad) is = absurd is
quiet_of op.Final is = absurd is

-- a later node of a statement that neither opens nor closes files
pub plain_here : (a : Act) (o : Op) → is_uncalled a ≡ true → BeginsRead false o a → IsPlain o a
plain_here (open_files os) o uncalled is = absurd (false≢true uncalled)
plain_here (close_files fs) o uncalled is = absurd (false≢true uncalled)
plain_here (read f into end_ fine) o uncalled is = quiet_of o is
plain_here (move x places) o uncalled is = tt
plain_here (arithmetic sum targets remainder size fine) o uncalled is = tt
plain_here (if_ t held other) o uncalled is = tt
plain_here (evaluate ws other) o uncalled is = tt
plain_here (perform body turns) o uncalled is = tt
plain_here (go para) o uncalled is = tt
plain_here nothing o uncalled is = tt
plain_here stop o uncalled is = tt
plain_here (write r from) o uncalled is = tt
plain_here (show xs) o uncalled is = tt

pub uncalled_read : (a : Act) (file : ℕ) → IsCall a (call.Read file) → is_uncalled a ≡ true
uncalled_read (read f into e fine) file is = refl
uncalled_read (open_files os) file is = absurd is
uncalled_read (close_files fs) file is = absurd is
uncalled_read (move x places) file is = refl
uncalled_read (arithmetic sum targets remainder size fine) file is = refl
uncalled_read (if_ t held other) file is = refl
uncalled_read (evaluate ws other) file is = refl
uncalled_read (perform body turns) file is = refl
uncalled_read (go para) file is = refl
uncalled_read nothing file is = refl
uncalled_read stop file is = refl
uncalled_read (write r from) file is = refl
uncalled_read (show xs) file is = refl

pub read_met_last : {A : Type 0} (a : Act) (file : ℕ) (r : Result A RunEnd) → IsCall a (call.Read file) → FailsBy false r
    → IsMetBy (last_of 0 a) r
read_met_last a file r is h =
    subst (λ (b : Act). IsMetBy b r) (sym (last_uncalled a (uncalled_read a file is))) (read_met a file r is h)

pub uncalled_other : (a : Act) → IsCall a call.Other → is_uncalled a ≡ true
uncalled_other (read f into e fine) is = refl
uncalled_other (open_files os) is = absurd is
uncalled_other (close_files fs) is = absurd is
uncalled_other (move x places) is = refl
uncalled_other (arithmetic sum targets remainder size fine) is = refl
uncalled_other (if_ t held other) is = refl
uncalled_other (evaluate ws other) is = refl
uncalled_other (perform body turns) is = refl
uncalled_other (go para) is = refl
uncalled_other nothing is = refl
uncalled_other stop is = refl
uncalled_other (write r from) is = refl
uncalled_other (show xs) is = refl

-- ---- a setting

pub plan_node_at : (g : Graph) (ns : List PlanNode) (n : ℕ) (x : PlanNode) → ArePlanNodes g ns → node_at ns n ≡ Some x
    → IsPlanNode g n x
plan_node_at g ns zero x are is = cc
plan_node_at g ns (suc i) x are is = are.each i x is

-- how an operation's node leads on
pub part_on : (s : Setting) (x : Standing) (step : ℕ) (w v : World) (r : Result ℕ RunEnd) → DoesPart s x step w v r
    → LeadsBy s x.plan_node.now.op r
part_on s x step w v r d from statement led =
    subst (LeadsOn s from statement) (sym d.told) (by d.outcome d.does) where
      by : (o : Result ℕ DoEnd) → Does (program_of s) x.statement.now.number x.plan_node.now.op w v o
          → LeadsOn s from statement (answered x.statement.now.number step o)
      by (Ok to) done = led done.action to done.out
      by (Err e) done = tt

pub part_way : (s : Setting) (x : Standing) (step : ℕ) (w v : World) (r : Result ℕ RunEnd) → DoesPart s x step w v r
    → IsWayOn x.plan_node.now.op r
part_way s x step w v r d = subst (IsWayOn x.plan_node.now.op) (sym d.told) (by d.outcome d.does) where
  by : (o : Result ℕ DoEnd) → Does (program_of s) x.statement.now.number x.plan_node.now.op w v o
      → IsWayOn x.plan_node.now.op (answered x.statement.now.number step o)
  by (Ok to) done = (done.action, done.out)
  by (Err e) done = tt

-- a node at which no step goes on is the graph's
pub graph_goes : (g : Graph) (ns : List PlanNode) (node : ℕ) → ArePlanNodes g ns → rests ns node ≡ false
    → (x : Node) → node_at g.nodes node ≡ Some x → x.starts ≡ false
graph_goes g ns node are goes x at =
    let here = goes_at ns node goes in
    let is = plan_node_at g ns node here.0 are here.1 in
    let same : is.node ≡ x = some_same is.node x (sym is.stands ∙ at) in
    subst (λ (y : Node). y.starts ≡ false) same (sym is.starts ∙ here.2)
  where
    some_same : (y z : Node) → Some y ≡ Some z → y ≡ z
    some_same y z e = cc

-- a node at which a step begins
pub rest_starts : (ns : List PlanNode) (node : ℕ) (x : PlanNode) → IsRest ns node → node < length ns
    → node_at ns node ≡ Some x → x.starts ≡ true
rest_starts ns node x rest below is =
    left x.starts (node == length ns) (apart node (length ns) below)
    (sym (ap (rests_in (length ns) node) is) ∙ rest.is)
  where
    left : (a b : Bool) → b ≡ false → (a || b) ≡ true → a ≡ true
    left true b no_ e = refl
    left false b no_ e = absurd (false≢true (sym no_ ∙ e))

    apart : (m n : ℕ) → m < n → (m == n) ≡ false
    apart m n lt = ne_eqb m n (λ same. absurd (omega (arith, same, lt)))

-- ---- places of a step

module _ (s : Setting) (node : ℕ) (x : Standing) (is : IsPlace s node x) (fits : FitsPlace s node x) where
  -- its statement, by the number that the step has
  number_is : (statement : ℕ) → IsWithin s.plan.nodes.items node statement → x.statement.now.number ≡ statement
  number_is statement within = is.number ∙ within.own x.plan_node.now fits.at

  pub act_is : (statement : ℕ) (a : Act) → IsWithin s.plan.nodes.items node statement
      → act_at (program_of s) statement ≡ Some a → plain_act x.statement.now.act.now ≡ a
  act_is statement a within its =
      some_same (plain_act x.statement.now.act.now) a
      (sym is.statement.its ∙ ap (act_at (program_of s)) (number_is statement within) ∙ its)
    where
      some_same : (b c : Act) → Some b ≡ Some c → b ≡ c
      some_same b c e = cc

  -- it is one of its own statement
  pub own_within : IsWithin s.plan.nodes.items node x.plan_node.now.statement
  own_within = record {
    above = fits.above;
    below = fits.below;
    own = λ y at. ap (λ (z : PlanNode). z.statement) (some_same y x.plan_node.now (sym at ∙ fits.at));
  } where
    some_same : (y z : PlanNode) → Some y ≡ Some z → y ≡ z
    some_same y z e = cc

  pub uncalled_at : is_uncalled (plain_act x.statement.now.act.now) ≡ true → IsUncalled s x.plan_node.now.statement
  uncalled_at uncalled a its =
      subst (λ (b : Act). is_uncalled b ≡ true) (act_is x.plan_node.now.statement a own_within its) uncalled

  -- a node at which the step goes on, of a statement that neither opens nor closes files
  pub node_plain : (statement : ℕ) → IsWithin s.plan.nodes.items node statement → rests s.plan.nodes.items node ≡ false
      → IsUncalled s statement → IsPlain x.plan_node.now.op (plain_act x.statement.now.act.now)
  node_plain statement within goes uncalled =
      let here = goes_at s.plan.nodes.items node goes in
      let starts : x.plan_node.now.starts ≡ false =
      ap (λ (y : PlanNode). y.starts) (some_same x.plan_node.now here.0 (sym fits.at ∙ here.1)) ∙ here.2 in
      plain_here (plain_act x.statement.now.act.now) x.plan_node.now.op
      (uncalled (plain_act x.statement.now.act.now)
      (ap (act_at (program_of s)) (sym (number_is statement within)) ∙ is.statement.its))
      (subst (λ (b : Bool). BeginsRead b x.plan_node.now.op (plain_act x.statement.now.act.now)) starts is.fits.read)
    where
      some_same : (y z : PlanNode) → Some y ≡ Some z → y ≡ z
      some_same y z e = cc

  pub on_by : (statement : ℕ) (r : Result ℕ RunEnd) → IsWithin s.plan.nodes.items node statement
      → LeadsBy s x.plan_node.now.op r → LeadsOn s node statement r
  on_by statement r within on =
      subst (λ (n : ℕ). LeadsOn s node n r) (within.own x.plan_node.now fits.at) (on node x.plan_node.now.statement fits.leads)

  -- it opens a file, and leads to where no step goes on, or to the node that opens the next one
  pub opens_here : (k : ℕ) → OpensAt s node k → file_opened x.plan_node.now.op ≡ Some k
  opens_here k opens = opens x.plan_node.now fits.at

  opens_on : IsReady s → (k : ℕ) → OpensAt s node k → (next : ℕ) (a : Action)
      → Contains (op_edges x.plan_node.now.op) (a, next) → IsRest s.plan.nodes.items next ⊎ OpensAt s next (k + 1)
  opens_on ready k opens next a out =
      elim ((ready.steps.opens node x.plan_node.now fits.at fits.below).next k (opens_here k opens) a next out) [
        | inl rest ↦ inl rest
        | inr there ↦ inr (λ y at. subst (λ (z : PlanNode). file_opened z.op ≡ Some (k + 1))
            (same_Some there.0 y (sym there.1 ∙ at)) there.2)
      ]

  pub turns_on : IsReady s → (r : Result ℕ RunEnd) → IsWayOn x.plan_node.now.op r
      → IfOk r (λ next. (k : ℕ) → OpensAt s node k → IsRest s.plan.nodes.items next ⊎ OpensAt s next (k + 1))
  turns_on ready (Ok next) way = λ k opens. opens_on ready k opens next way.0 way.1
  turns_on ready (Err e) way = tt

  -- a step of an OPEN begins with the first of its files
  pub opens_first : IsReady s → x.plan_node.now.starts ≡ true → (os : List Opening)
      → plain_act x.statement.now.act.now ≡ open_files os → OpensAt s node 0
  opens_first ready starts os its = λ y at.
      let opened = opened_op (program_of s) x.plan_node.now.op (plain_act x.statement.now.act.now) os its is.fits.fits in
      let first = (ready.steps.opens node x.plan_node.now fits.at fits.below).first starts opened.0 opened.1 in
      subst (λ (z : PlanNode). file_opened z.op ≡ Some 0) (same_Some x.plan_node.now y (sym fits.at ∙ at))
      (subst (λ (n : ℕ). file_opened x.plan_node.now.op ≡ Some n) first opened.1)

  -- a step begins there
  pub starts_at : IsRest s.plan.nodes.items node → StartsAt s node x
  starts_at rest =
      record { is = is; starts = rest_starts s.plan.nodes.items node x.plan_node.now rest fits.below fits.at }

-- before the last node a run stands at one at which a step begins
pub below_last : (s : Setting) (node : ℕ) → IsReady s → IsRest s.plan.nodes.items node
    → (node == final_in s.graph.now) ≡ false → node < length s.plan.nodes.items
below_last s node ready rest apart =
    less node (length s.plan.nodes.items) rest.within
    (subst (λ (n : ℕ). (node == n) ≡ false) (sym ready.nodes.all) apart)
  where
    less : (m n : ℕ) → m ≤ n → (m == n) ≡ false → m < n
    less m n within no_ = let ne = eqb-false m n no_ in omega (arith, within, ne)

pub spends_at : (s : Setting) (budget node : ℕ) → IsReady s → IsRest s.plan.nodes.items node
    → (node == final_in s.graph.now) ≡ false → (start now : Outside) (w : World)
    → IsAt (program_of s) s.graph.now (paths_of s) budget start now w budget node
    → HaltsOff (program_of s) s.graph.now (paths_of s) budget start now w (Err (end.StepsSpent budget))
spends_at s budget node ready rest apart start now w here =
    let below = below_last s node ready rest apart in
    let x = at_place s.plan.nodes.items node rest.above below in
    let is = plan_node_at s.graph.now s.plan.nodes.items node x.0 ready.nodes x.1 in
    spends_here (program_of s) s.graph.now (paths_of s) budget start now w budget node here is.node is.stands
    (sym is.starts ∙ rest_starts s.plan.nodes.items node x.0 rest below x.1) refl
