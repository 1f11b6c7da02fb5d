-- Of the edges that leave a node at most one is taken.
use Rattle.std.proofs.Common.{ℕ, ◌+◌, Bool, true, false, List, [], ◌∷◌, ◌++◌}
use Rattle.cob_program.specs.declared.act.Opening.{Opening}
use Rattle.cob_program.specs.Logic.{Test, numbers, texts, member, numeric, always, Logic, all_of, any_of, not_, test, Logics, no_logics, more_logics, logics_of}
use Rattle.cob_program.specs.Act.{Turns, once, times, until, varying, Program}
use Rattle.cob_runs.specs.declared.action.Action.{Action}
use Rattle.cob_runs.specs.declared.action.Action.TheVariants.{Done}
use Rattle.cob_graph.specs.Laid.{Laid, MkLaid, LaidList, no_laid, more_laid, LaidPhrase, no_phrase, a_phrase, LaidAct, moving, showing, skipping, going, ending, computing, deciding, choosing, performing, opening, closing, reading, writing, LaidWhens, no_laid_whens, more_laid_whens, LaidBody, own_list, copy, LaidParas, no_laid_paras, more_laid_paras, phrase_size}
use Rattle.cob_graph.specs.Places.{first_of_list}
use Rattle.cob_graph.specs.Nodes.{Noded, Copied, test_edges, logic_nodes, all_nodes, any_nodes, open_nodes, close_nodes, read_nodes, write_edges, write_nodes, size_edges, loop_before, loop_behind, copied_in, nodes, list_nodes, phrase_nodes, whens_nodes, body_nodes, paras_nodes, act_nodes}
use Rattle.cob_graph.specs.Graphs as graphs
use Rattle.cob_graph.specs.Graphs.{final_of, final_node, main_copy}
use Rattle.cob_graph_laws.proofs.Apart.{Rivals, true_false, done_size, open_bad, close_bad, write_bad, take_end, take_bad, end_bad}

-- an action and each of those
abbrev pub AreRivals : Action → List (Action × ℕ) → Type 0
AreRivals a [] = Unit {0}
AreRivals a (x ∷ xs) = Rivals a x.0 × AreRivals a xs

abbrev pub IsFork : List (Action × ℕ) → Type 0
IsFork [] = Unit {0}
IsFork (x ∷ xs) = AreRivals x.0 xs × IsFork xs

abbrev pub EachForks : List Noded → Type 0
EachForks [] = Unit {0}
EachForks (x ∷ xs) = IsFork x.out × EachForks xs

pub record AreForks (ns : List Noded) : Type 0 where
  pub each : EachForks ns

no_forks : AreForks []
no_forks = record { each = tt }

more_forks : (x : Noded) (xs : List Noded) → IsFork x.out → AreForks xs → AreForks (x ∷ xs)
more_forks x xs f fs = record { each = (f, fs.each) }

one_fork : (x : Noded) → IsFork x.out → AreForks (x ∷ [])
one_fork x f = more_forks x [] f no_forks

append_forks : (xs ys : List Noded) → AreForks xs → AreForks ys → AreForks (xs ++ ys)
append_forks [] ys fs gs = gs
append_forks (x ∷ xs) ys fs gs =
    more_forks x (xs ++ ys) fs.each.0 (append_forks xs ys (record { each = fs.each.1 }) gs)

-- ---- edges

module _ (c : Copied) (number : ℕ) where
  test_fork : (t : Test) (k tr fa : ℕ) → IsFork (test_edges c number t k tr fa)
  test_fork (numbers a r b) k tr fa = ((true_false k, tt), (tt, tt))
  test_fork (texts a r b) k tr fa = ((true_false k, tt), (tt, tt))
  test_fork (member place ps) k tr fa = ((true_false k, tt), (tt, tt))
  test_fork (numeric place) k tr fa = ((true_false k, tt), (tt, tt))
  test_fork always k tr fa = (tt, tt)

  mutual
    logic_forks : (b : Bool) (t : Logic) (k at tr fa : ℕ) → AreForks (logic_nodes c number b t k at tr fa)
    logic_forks b (all_of ls) k at tr fa = all_forks b ls k at tr fa
    logic_forks b (any_of ls) k at tr fa = any_forks b ls k at tr fa
    logic_forks b (not_ x) k at tr fa = logic_forks b x k at fa tr
    logic_forks b (test t) k at tr fa = one_fork _ (test_fork t k tr fa)

    all_forks : (b : Bool) (ls : Logics) (k at tr fa : ℕ) → AreForks (all_nodes c number b ls k at tr fa)
    all_forks b no_logics k at tr fa = no_forks
    all_forks b (more_logics x xs) k at tr fa =
        append_forks _ _ (logic_forks b x k at _ fa) (all_forks false xs _ _ tr fa)

    any_forks : (b : Bool) (ls : Logics) (k at tr fa : ℕ) → AreForks (any_nodes c number b ls k at tr fa)
    any_forks b no_logics k at tr fa = no_forks
    any_forks b (more_logics x xs) k at tr fa =
        append_forks _ _ (logic_forks b x k at tr _) (any_forks false xs _ _ tr fa)

  open_forks : (b : Bool) (os : List Opening) (k at next : ℕ) → AreForks (open_nodes c number b os k at next)
  open_forks b [] k at next = no_forks
  open_forks b (o ∷ os) k at next =
      more_forks _ _ ((open_bad k, tt), (tt, tt)) (open_forks false os (k + 1) (at + 1) next)

  close_forks : (b : Bool) (fs : List ℕ) (k at next : ℕ) → AreForks (close_nodes c number b fs k at next)
  close_forks b [] k at next = no_forks
  close_forks b (f ∷ fs) k at next =
      more_forks _ _ ((close_bad k, tt), (tt, tt)) (close_forks false fs (k + 1) (at + 1) next)

  read_forks : (f : ℕ) (into : Bool) (at end fine next : ℕ) →
      AreForks (read_nodes c number f into at end fine next)
  read_forks f false at end fine next =
      one_fork _ ((take_end, (take_bad, tt)), ((end_bad, tt), (tt, tt)))
  read_forks f true at end fine next =
      more_forks _ _ ((take_end, (take_bad, tt)), ((end_bad, tt), (tt, tt))) (one_fork _ (tt, tt))

  write_fork : (f next : ℕ) → IsFork (write_edges c number f next)
  write_fork f next = ((write_bad, tt), (tt, tt))

  write_forks : (f : ℕ) (from : Bool) (at next : ℕ) → AreForks (write_nodes c number f from at next)
  write_forks f false at next = one_fork _ (write_fork f next)
  write_forks f true at next = more_forks _ _ (tt, tt) (one_fork _ (write_fork f next))

  before_forks : (turns : Turns) (x : LaidBody) (at next : ℕ) → AreForks (loop_before c number turns x at next)
  before_forks once x at next = one_fork _ (tt, tt)
  before_forks (times s) x at next = more_forks _ _ (tt, tt) (one_fork _ ((true_false 0, tt), (tt, tt)))
  before_forks (until false t) x at next = more_forks _ _ (tt, tt) (logic_forks true t 0 _ next _)
  before_forks (until true t) x at next = one_fork _ (tt, tt)
  before_forks (varying false i from by t) x at next = more_forks _ _ (tt, tt) (logic_forks true t 0 _ next _)
  before_forks (varying true i from by t) x at next = one_fork _ (tt, tt)

  behind_forks : (turns : Turns) (x : LaidBody) (at next : ℕ) → AreForks (loop_behind c number turns x at next)
  behind_forks once x at next = no_forks
  behind_forks (times s) x at next = one_fork _ (tt, tt)
  behind_forks (until false t) x at next = no_forks
  behind_forks (until true t) x at next = logic_forks true t 0 _ next _
  behind_forks (varying false i from by t) x at next = one_fork _ (tt, tt)
  behind_forks (varying true i from by t) x at next =
      append_forks _ _ (logic_forks true t 0 _ next _) (one_fork _ (tt, tt))

  computing_fork : (a : LaidPhrase) (m at next : ℕ) → IsFork ((Done, m) ∷ size_edges c number a at next)
  computing_fork no_phrase m at next = (tt, tt)
  computing_fork (a_phrase xs) m at next = ((done_size, tt), (tt, tt))

-- ---- statements

mutual
  node_forks : (c : Copied) (x : Laid) (at next : ℕ) → AreForks (nodes c x at next)
  node_forks c (MkLaid number a) at next = act_forks c number a at next

  list_forks : (c : Copied) (xs : LaidList) (at next : ℕ) → AreForks (list_nodes c xs at next)
  list_forks c no_laid at next = no_forks
  list_forks c (more_laid x xs) at next = append_forks _ _ (node_forks c x at _) (list_forks c xs _ next)

  phrase_forks : (c : Copied) (x : LaidPhrase) (at next : ℕ) → AreForks (phrase_nodes c x at next)
  phrase_forks c no_phrase at next = no_forks
  phrase_forks c (a_phrase xs) at next = list_forks c xs at next

  whens_forks : (c : Copied) (number : ℕ) (ws : LaidWhens) (k at other next : ℕ) →
      AreForks (whens_nodes c number ws k at other next)
  whens_forks c number no_laid_whens k at other next = no_forks
  whens_forks c number (more_laid_whens ts xs ws) k at other next =
      append_forks _ _
      (append_forks _ _ (any_forks c number false (logics_of ts) k at _ _) (list_forks c xs _ next))
      (whens_forks c number ws _ _ other next)

  body_forks : (c : Copied) (number : ℕ) (x : LaidBody) (at next : ℕ) → AreForks (body_nodes c number x at next)
  body_forks c number (own_list xs) at next = list_forks c xs at next
  body_forks c number (copy first ps) at next = paras_forks (copied_in c number first ps at next) ps at next

  paras_forks : (c : Copied) (ps : LaidParas) (at next : ℕ) → AreForks (paras_nodes c ps at next)
  paras_forks c no_laid_paras at next = no_forks
  paras_forks c (more_laid_paras xs ps) at next = append_forks _ _ (list_forks c xs at _) (paras_forks c ps _ next)

  act_forks : (c : Copied) (number : ℕ) (a : LaidAct) (at next : ℕ) → AreForks (act_nodes c number a at next)
  act_forks c number moving at next = one_fork _ (tt, tt)
  act_forks c number showing at next = one_fork _ (tt, tt)
  act_forks c number skipping at next = one_fork _ (tt, tt)
  act_forks c number (going p) at next = one_fork _ (tt, tt)
  act_forks c number ending at next = one_fork _ (tt, tt)
  act_forks c number (computing a b) at next =
      more_forks _ _ (computing_fork c number a (first_of_list b (at + 1 + phrase_size a) next) (at + 1) next)
      (append_forks _ _ (phrase_forks c a _ next) (list_forks c b _ next))
  act_forks c number (deciding t a b) at next =
      append_forks _ _ (append_forks _ _ (logic_forks c number true t 0 at _ _) (list_forks c a _ next))
      (list_forks c b _ next)
  act_forks c number (choosing ws b) at next =
      more_forks _ _ (tt, tt) (append_forks _ _ (whens_forks c number ws 0 (at + 1) _ next) (list_forks c b _ next))
  act_forks c number (performing body turns) at next =
      append_forks _ _ (append_forks _ _ (before_forks c number turns body at next) (body_forks c number body _ _))
      (behind_forks c number turns body at next)
  act_forks c number (opening os) at next = open_forks c number true os 0 at next
  act_forks c number (closing fs) at next = close_forks c number true fs 0 at next
  act_forks c number (reading f into a b) at next =
      append_forks _ _ (append_forks _ _ (read_forks c number f into at _ _ next) (phrase_forks c a _ next))
      (list_forks c b _ next)
  act_forks c number (writing f from) at next = write_forks c number f from at next

-- ---- programs

pub program_forks : (p : Program) (ps : LaidParas) → AreForks (graphs.all_nodes p ps)
program_forks p ps =
    append_forks _ _ (paras_forks (main_copy p ps) ps 1 (final_of ps)) (one_fork final_node tt)
