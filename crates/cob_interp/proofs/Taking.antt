-- What a step comes to from the node at which it begins.
use Rattle.std.proofs.Common.{◌≡◌, ℕ, ◌+◌, ◌<◌, ◌==◌, ◌&&◌, Bool, true, false, List, Option, Some, Result, Err, refl, sym, ap, subst, ◌∙◌, arith}
use Rattle.std.specs.Prelude.{slice_get, length}
use Rattle.std.specs.Option.{option_map_or}
use Rattle.std.proofs.lemmas.Bool.{eq-eqb}
use Rattle.batch_io.specs.FilesState.{Contents, known_bytes}
use Rattle.cob_program.specs.declared.act.Opening.{Opening}
use Rattle.cob_program.specs.Act.{Act, move, arith as arithmetic, if_, evaluate, perform, go, nothing, stop, open_files, close_files, read, write, show, Program}
use Rattle.cob_program.specs.ActView.{plain_act}
use Rattle.cob_runs.specs.Files.{bytes_in}
use Rattle.cob_runs.specs.State.{World}
use Rattle.cob_runs.specs.Effects.{act_at}
use Rattle.cob_graph.specs.declared.graph.Node.{Node}
use Rattle.cob_graph.specs.Lookup.{node_at}
use Rattle.cob_interp.specs.declared.ends.RunEnd.{RunEnd}
use Rattle.cob_interp.specs.declared.ends.RunEnd.TheVariants as end
use Rattle.cob_interp.specs.declared.parts.Call.TheVariants as call
use Rattle.cob_interp.specs.declared.setting.Setting.{Setting}
use Rattle.cob_interp.specs.declared.setting.Standing.{Standing}
use Rattle.cob_interp.specs.Told.{seen, seen_files, AreSynced}
use Rattle.cob_interp.specs.Ends.{cut_file, cut_by}
use Rattle.cob_interp.specs.Runs.{Outside}
use Rattle.cob_interp.specs.Running.{StandsIn, Stands, IsUnderway, RestsIn, Rests, Arrives}
use Rattle.cob_interp.specs.Setting.{program_of, paths_of, StartsAt, IsCall}
use Rattle.cob_interp.specs.Doing.{Leads}
use Rattle.cob_interp.proofs.Passing.{rests_told}
use Rattle.cob_interp.proofs.Onward.{is_ragged}
use Rattle.cob_interp.proofs.Beginnings.{IsFreeAct, uncut_free, begins}

-- ---- what stops a READ, and nothing else but OPEN

both_true : (a b : Bool) → a ≡ true → b ≡ true → (a && b) ≡ true
both_true a b e f = rw (e, f) refl

module _ (p : Program) (w : World) (file : ℕ) where
  cut_read : (a : Act) → IsCall a (call.Read file)
      → cut_file (slice_get p.layout.files file) (slice_get w.files file) ≡ true
      → cut_by p a w file ≡ true
  cut_read (read f into end_ fine) is cut =
      subst (λ (n : ℕ). (n == file && cut_file (slice_get p.layout.files n) (slice_get w.files n)) ≡ true) is
      (both_true _ _ (eq-eqb file file refl) cut)
  cut_read (open_files os) is cut = absurd is
  cut_read (close_files xs) is cut = absurd is
  cut_read (move x places) is cut = absurd is
  cut_read (arithmetic sum targets remainder size fine) is cut = absurd is
  cut_read (if_ t held other) is cut = absurd is
  cut_read (evaluate ws other) is cut = absurd is
  cut_read (perform body turns) is cut = absurd is
  cut_read (go para) is cut = absurd is
  cut_read nothing is cut = absurd is
  cut_read stop is cut = absurd is
  cut_read (write r from) is cut = absurd is
  cut_read (show xs) is cut = absurd is

  and_false : (a b : Bool) → b ≡ false → (a && b) ≡ false
  and_false true b e = e
  and_false false b e = refl

  pub uncut_read : (a : Act) → IsCall a (call.Read file)
      → cut_file (slice_get p.layout.files file) (slice_get w.files file) ≡ false
      → (file_ : ℕ) → cut_by p a w file_ ≡ false
  uncut_read (read f into end_ fine) is uncut file_ =
      and_false (f == file_) _
      (subst (λ (n : ℕ). cut_file (slice_get p.layout.files n) (slice_get w.files n) ≡ false) is uncut)
  uncut_read (open_files os) is uncut file_ = absurd is
  uncut_read (close_files xs) is uncut file_ = absurd is
  uncut_read (move x places) is uncut file_ = absurd is
  uncut_read (arithmetic sum targets remainder size fine) is uncut file_ = absurd is
  uncut_read (if_ t held other) is uncut file_ = absurd is
  uncut_read (evaluate ws other) is uncut file_ = absurd is
  uncut_read (perform body turns) is uncut file_ = absurd is
  uncut_read (go para) is uncut file_ = absurd is
  uncut_read nothing is uncut file_ = absurd is
  uncut_read stop is uncut file_ = absurd is
  uncut_read (write r from) is uncut file_ = absurd is
  uncut_read (show xs) is uncut file_ = absurd is

pub free_close : (files : List ℕ) (a : Act) → a ≡ close_files files → IsFreeAct a
free_close files a its = subst (λ (b : Act). IsFreeAct b) (sym its) tt

pub free_open : (os : List Opening) (a : Act) → a ≡ open_files os → IsFreeAct a
free_open os a its = subst (λ (b : Act). IsFreeAct b) (sym its) tt

pub free_other : (a : Act) → IsCall a call.Other → IsFreeAct a
free_other (read f into end_ fine) is = absurd is
free_other (open_files os) is = absurd is
free_other (close_files xs) is = absurd is
free_other (move x places) is = tt
free_other (arithmetic sum targets remainder size fine) is = tt
free_other (if_ t held other) is = tt
free_other (evaluate ws other) is = tt
free_other (perform body turns) is = tt
free_other (go para) is = tt
free_other nothing is = tt
free_other stop is = tt
free_other (write r from) is = tt
free_other (show xs) is = tt

-- ---- from the node on

module _ (s : Setting) (node : ℕ) (x : Standing) (is : StartsAt s node x) where
  abbrev act_ : Act
  act_ = plain_act x.statement.now.act.now

  its : act_at (program_of s) is.is.plan_node.node.statement ≡ Some act_
  its = subst (λ (n : ℕ). act_at (program_of s) n ≡ Some act_) (is.is.number ∙ is.is.plan_node.statement) is.is.statement.its

  starts : is.is.plan_node.node.starts ≡ true
  starts = sym is.is.plan_node.starts ∙ is.starts

  starts_each : (y : Node) → node_at s.graph.now.nodes node ≡ Some y → y.starts ≡ true
  starts_each y at =
      let there = is.is.plan_node.stands in
      let same : is.is.plan_node.node ≡ y = cc in
      subst (λ (z : Node). z.starts ≡ true) same starts

  module _ (budget steps step : ℕ) (counted : step ≡ steps + 1) (within : steps < budget) (start old : Outside)
      (w : World)
      (stands : Stands (program_of s) s.graph.now (paths_of s) start old w steps steps node) where
    -- a statement that nothing stops
    pub step_begins : (new : Outside) (v : World) (result : Result ℕ RunEnd) → IsFreeAct act_
        → Leads s budget step node old new w v result
        → Arrives (program_of s) s.graph.now (paths_of s) budget start new v step result
    step_begins new v result free leads =
        leads start (omega (arith, counted, within))
        (subst (λ (n : ℕ). IsUnderway (program_of s) s.graph.now (paths_of s) start old w n node) (sym counted)
        (begins s start old w steps node is.is.plan_node.node is.is.plan_node.stands starts act_ its
        (λ first told text e st file_. uncut_free (program_of s) act_ free (seen told (paths_of s) text w) file_) stands))

    -- a READ that isn't cut is underway
    pub read_underway : (file : ℕ) → IsCall act_ (call.Read file)
        → ((told : Contents) (text : List ℕ) → known_bytes old.files ≡ Some told → AreSynced told (paths_of s) w.files
        → cut_file (slice_get s.program.now.layout.files file)
        (slice_get (seen told (paths_of s) text w).files file) ≡ false)
        → IsUnderway (program_of s) s.graph.now (paths_of s) start old w step node
    read_underway file reads uncut =
        subst (λ (n : ℕ). IsUnderway (program_of s) s.graph.now (paths_of s) start old w n node) (sym counted)
        (begins s start old w steps node is.is.plan_node.node is.is.plan_node.stands starts act_ its
        (λ first told text e st file_. uncut_read (program_of s) (seen told (paths_of s) text w) file act_ reads
        (uncut told text e st.synced) file_) stands)

    -- a READ at a ragged end
    cut_in : (file count : ℕ) → IsCall act_ (call.Read file)
        → ((told : Contents) → known_bytes old.files ≡ Some told → AreSynced told (paths_of s) w.files
        → (count ≡ option_map_or (λ f. length (bytes_in f)) (slice_get (seen_files told (paths_of s) w.files) file) 0)
        × (cut_file (slice_get s.program.now.layout.files file)
        (slice_get (seen_files told (paths_of s) w.files) file) ≡ true))
        → (first told : Contents) (text : List ℕ) → known_bytes old.files ≡ Some told
        → StandsIn (program_of s) s.graph.now (paths_of s) first told text w steps steps node
        → RestsIn (program_of s) s.graph.now (paths_of s) budget first told text w (Err (end.Ragged file count))
    cut_in file count reads cut first told text e st =
        let c = cut told e st.synced in
        is_ragged (program_of s) s.graph.now (paths_of s) first told text w steps node st budget is.is.plan_node.node
        is.is.plan_node.stands starts within
        file count (record {
          cut = ap (λ (o : Option Act). option_map_or (λ a. cut_by (program_of s) a (seen told (paths_of s) text w)
              file) o false) its
              ∙ cut_read (program_of s) (seen told (paths_of s) text w) file act_ reads c.1;
          counted = c.0;
        })

    pub ragged_rests : (file count : ℕ) → IsCall act_ (call.Read file)
        → ((told : Contents) → known_bytes old.files ≡ Some told → AreSynced told (paths_of s) w.files
        → (count ≡ option_map_or (λ f. length (bytes_in f)) (slice_get (seen_files told (paths_of s) w.files) file) 0)
        × (cut_file (slice_get s.program.now.layout.files file)
        (slice_get (seen_files told (paths_of s) w.files) file) ≡ true))
        → Rests (program_of s) s.graph.now (paths_of s) budget start old w (Err (end.Ragged file count))
    ragged_rests file count reads cut =
        rests_told (program_of s) s.graph.now (paths_of s) budget start old w w steps steps node
        (Err (end.Ragged file count)) (cut_in file count reads cut) stands
