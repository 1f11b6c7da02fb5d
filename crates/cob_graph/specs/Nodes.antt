-- The nodes of a program with its copies written in, each with the edges that leave it.
use Rattle.std.specs.Prelude.{ℕ, ◌+◌, ◌-◌, if◌then◌else◌, Bool, true, false, List, [], ◌∷◌, ◌++◌}
use Rattle.cob_data.specs.declared.layout.Layout.{Layout}
use Rattle.cob_program.specs.declared.act.Opening.{Opening}
use Rattle.cob_program.specs.Logic.{Test, always, Logic, all_of, any_of, not_, test, Logics, no_logics, more_logics, logics_of}
use Rattle.cob_program.specs.Act.{Turns, once, times, until, varying}
use Rattle.cob_runs.specs.declared.action.Action.{Action}
use Rattle.cob_runs.specs.declared.action.Action.TheVariants as action
use Rattle.cob_runs.specs.Acts.{has_status}
use Rattle.cob_graph.specs.Laid.{Laid, MkLaid, LaidList, no_laid, more_laid, LaidPhrase, no_phrase, a_phrase, LaidAct, moving, showing, skipping, going, ending, computing, deciding, choosing, performing, opening, closing, reading, writing, LaidWhens, no_laid_whens, more_laid_whens, LaidBody, own_list, copy, LaidParas, no_laid_paras, more_laid_paras, tests_in, tests_among, size, list_size}
use Rattle.cob_graph.specs.Places.{first_of_list, first_of_paras, first_of_para, first_of_all, first_of_any, first_of_whens, size_at, fine_at, held_at, else_at, chosen_at, next_when_at, whens_at, other_at, end_at, found_at, body_at, tests_at, augment_at, body_next, first_in_loop}

-- the statement, the PERFORMs in whose copies it lies, outermost first, whether a step begins here, and the ways on
pub record Noded : Type 0 where
  pub statement : ℕ
  pub sites : List ℕ
  pub starts : Bool
  pub out : List (Action × ℕ)

-- what all nodes of one copy share: the files, the PERFORMs, the first node of each paragraph, and the final node
pub record Copied : Type 0 where
  pub layout : Layout
  pub sites : List ℕ
  pub para : ℕ → ℕ
  pub final : ℕ

module _ (c : Copied) (statement : ℕ) where
  abbrev pub node : Bool → List (Action × ℕ) → Noded
  node starts out = record { statement = statement; sites = c.sites; starts = starts; out = out }

  -- ---- conditions

  abbrev pub test_edges : Test → ℕ → ℕ → ℕ → List (Action × ℕ)
  test_edges always k true_ false_ = (action.Skip, true_) ∷ []
  test_edges t k true_ false_ = (action.True k, true_) ∷ (action.False k, false_) ∷ []

  abbrev mutual
    -- k simple conditions of the statement stand before; starts says whether a step begins with the first
    pub logic_nodes : Bool → Logic → ℕ → ℕ → ℕ → ℕ → List Noded
    logic_nodes starts (all_of ls) k at true_ false_ = all_nodes starts ls k at true_ false_
    logic_nodes starts (any_of ls) k at true_ false_ = any_nodes starts ls k at true_ false_
    logic_nodes starts (not_ x) k at true_ false_ = logic_nodes starts x k at false_ true_
    logic_nodes starts (test t) k at true_ false_ = node starts (test_edges t k true_ false_) ∷ []

    pub all_nodes : Bool → Logics → ℕ → ℕ → ℕ → ℕ → List Noded
    all_nodes starts no_logics k at true_ false_ = []
    all_nodes starts (more_logics x xs) k at true_ false_ =
        logic_nodes starts x k at (first_of_all xs (at + tests_in x) true_ false_) false_
        ++ all_nodes false xs (k + tests_in x) (at + tests_in x) true_ false_

    pub any_nodes : Bool → Logics → ℕ → ℕ → ℕ → ℕ → List Noded
    any_nodes starts no_logics k at true_ false_ = []
    any_nodes starts (more_logics x xs) k at true_ false_ =
        logic_nodes starts x k at true_ (first_of_any xs (at + tests_in x) true_ false_)
        ++ any_nodes false xs (k + tests_in x) (at + tests_in x) true_ false_

  -- ---- files

  -- The node at which a status ends up that nothing handles.
  abbrev pub bad_to : ℕ → ℕ → ℕ
  bad_to file next = if has_status c.layout file then next else c.final

  abbrev pub behind : {A : Type 0} → List A → ℕ → ℕ → ℕ
  behind [] at next = next
  behind (x ∷ xs) at next = at + 1

  abbrev pub open_nodes : Bool → List Opening → ℕ → ℕ → ℕ → List Noded
  open_nodes starts [] k at next = []
  open_nodes starts (o ∷ os) k at next =
      node starts ((action.Open k, behind os at next) ∷ (action.Bad k, bad_to o.file (behind os at next)) ∷ [])
      ∷ open_nodes false os (k + 1) (at + 1) next

  abbrev pub close_nodes : Bool → List ℕ → ℕ → ℕ → ℕ → List Noded
  close_nodes starts [] k at next = []
  close_nodes starts (f ∷ fs) k at next =
      node starts ((action.Close k, behind fs at next) ∷ (action.Bad k, bad_to f (behind fs at next)) ∷ [])
      ∷ close_nodes false fs (k + 1) (at + 1) next

  abbrev pub end_to : LaidPhrase → ℕ → ℕ → ℕ → ℕ
  end_to no_phrase file at next = bad_to file next
  end_to (a_phrase xs) file at next = first_of_list xs at next

  -- READ itself and, with INTO, its move; fine is where NOT AT END goes on
  abbrev pub read_nodes : ℕ → Bool → ℕ → ℕ → ℕ → ℕ → List Noded
  read_nodes file false at end fine next =
      node true ((action.Take, fine) ∷ (action.AtEnd, end) ∷ (action.Bad 0, bad_to file next) ∷ []) ∷ []
  read_nodes file true at end fine next =
      node true ((action.Take, at + 1) ∷ (action.AtEnd, end) ∷ (action.Bad 0, bad_to file next) ∷ [])
      ∷ node false ((action.Assign, fine) ∷ []) ∷ []

  abbrev pub write_edges : ℕ → ℕ → List (Action × ℕ)
  write_edges file next = (action.Write, next) ∷ (action.Bad 0, bad_to file next) ∷ []

  abbrev pub write_nodes : ℕ → Bool → ℕ → ℕ → List Noded
  write_nodes file false at next = node true (write_edges file next) ∷ []
  write_nodes file true at next = node true ((action.Assign, at + 1) ∷ []) ∷ node false (write_edges file next) ∷ []

  -- ---- arithmetic and loops, without their lists

  abbrev pub size_edges : LaidPhrase → ℕ → ℕ → List (Action × ℕ)
  size_edges no_phrase at next = []
  size_edges (a_phrase xs) at next = (action.Size, first_of_list xs at next) ∷ []

  -- what stands before the body, and what stands behind it
  abbrev pub loop_before : Turns → LaidBody → ℕ → ℕ → List Noded
  loop_before once body at next = node true ((action.Skip, first_in_loop once body at next) ∷ []) ∷ []
  loop_before (times x) body at next =
      node true ((action.SetCount, tests_at (times x) at body) ∷ [])
      ∷ node true ((action.True 0, first_in_loop (times x) body at next) ∷ (action.False 0, next) ∷ []) ∷ []
  loop_before (until false t) body at next =
      node true ((action.Skip, tests_at (until false t) at body) ∷ [])
      ∷ logic_nodes true t 0 (tests_at (until false t) at body) next (first_in_loop (until false t) body at next)
  loop_before (until true t) body at next =
      node true ((action.Skip, first_in_loop (until true t) body at next) ∷ []) ∷ []
  loop_before (varying false item start by t) body at next =
      node true ((action.Assign, tests_at (varying false item start by t) at body) ∷ [])
      ∷ logic_nodes true t 0 (tests_at (varying false item start by t) at body) next
      (first_in_loop (varying false item start by t) body at next)
  loop_before (varying true item start by t) body at next =
      node true ((action.Assign, first_in_loop (varying true item start by t) body at next) ∷ []) ∷ []

  abbrev pub loop_behind : Turns → LaidBody → ℕ → ℕ → List Noded
  loop_behind once body at next = []
  loop_behind (times x) body at next = node true ((action.Down, tests_at (times x) at body) ∷ []) ∷ []
  loop_behind (until false t) body at next = []
  loop_behind (until true t) body at next =
      logic_nodes true t 0 (tests_at (until true t) at body) next (first_in_loop (until true t) body at next)
  loop_behind (varying false item start by t) body at next =
      node true ((action.Done, tests_at (varying false item start by t) at body) ∷ []) ∷ []
  loop_behind (varying true item start by t) body at next =
      logic_nodes true t 0 (tests_at (varying true item start by t) at body) next
      (augment_at (varying true item start by t) at body)
      ++ node true ((action.Done, first_in_loop (varying true item start by t) body at next) ∷ []) ∷ []

-- ---- statements

abbrev pub copied_in : Copied → ℕ → ℕ → LaidParas → ℕ → ℕ → Copied
copied_in c statement first ps at next = record {
  layout = c.layout;
  sites = c.sites ++ statement ∷ [];
  para = λ p. first_of_para (p - first) ps at next;
  final = c.final;
}

abbrev mutual
  pub nodes : Copied → Laid → ℕ → ℕ → List Noded
  nodes c (MkLaid number a) at next = act_nodes c number a at next

  pub list_nodes : Copied → LaidList → ℕ → ℕ → List Noded
  list_nodes c no_laid at next = []
  list_nodes c (more_laid x xs) at next =
      nodes c x at (first_of_list xs (at + size x) next) ++ list_nodes c xs (at + size x) next

  pub phrase_nodes : Copied → LaidPhrase → ℕ → ℕ → List Noded
  phrase_nodes c no_phrase at next = []
  phrase_nodes c (a_phrase xs) at next = list_nodes c xs at next

  pub whens_nodes : Copied → ℕ → LaidWhens → ℕ → ℕ → ℕ → ℕ → List Noded
  whens_nodes c number no_laid_whens k at other next = []
  whens_nodes c number (more_laid_whens ts xs ws) k at other next =
      any_nodes c number false (logics_of ts) k at (first_of_list xs (chosen_at ts at) next)
      (first_of_whens ws (next_when_at ts xs at) other next)
      ++ list_nodes c xs (chosen_at ts at) next
      ++ whens_nodes c number ws (k + tests_among (logics_of ts)) (next_when_at ts xs at) other next

  pub body_nodes : Copied → ℕ → LaidBody → ℕ → ℕ → List Noded
  body_nodes c number (own_list xs) at next = list_nodes c xs at next
  body_nodes c number (copy first ps) at next = paras_nodes (copied_in c number first ps at next) ps at next

  pub paras_nodes : Copied → LaidParas → ℕ → ℕ → List Noded
  paras_nodes c no_laid_paras at next = []
  paras_nodes c (more_laid_paras xs ps) at next =
      list_nodes c xs at (first_of_paras ps (at + list_size xs) next) ++ paras_nodes c ps (at + list_size xs) next

  pub act_nodes : Copied → ℕ → LaidAct → ℕ → ℕ → List Noded
  act_nodes c number moving at next = node c number true ((action.Assign, next) ∷ []) ∷ []
  act_nodes c number showing at next = node c number true ((action.Show, next) ∷ []) ∷ []
  act_nodes c number skipping at next = node c number true ((action.Skip, next) ∷ []) ∷ []
  act_nodes c number (going p) at next = node c number true ((action.Skip, c.para p) ∷ []) ∷ []
  act_nodes c number ending at next = node c number true ((action.Skip, c.final) ∷ []) ∷ []
  act_nodes c number (computing a b) at next =
      node c number true ((action.Done, first_of_list b (fine_at a at) next) ∷ size_edges c number a (size_at at) next)
      ∷ phrase_nodes c a (size_at at) next ++ list_nodes c b (fine_at a at) next
  act_nodes c number (deciding t a b) at next =
      logic_nodes c number true t 0 at (first_of_list a (held_at t at) next) (first_of_list b (else_at t a at) next)
      ++ list_nodes c a (held_at t at) next ++ list_nodes c b (else_at t a at) next
  act_nodes c number (choosing ws b) at next =
      node c number true ((action.Skip, first_of_whens ws (whens_at at) (first_of_list b (other_at ws at) next) next) ∷ [])
      ∷ whens_nodes c number ws 0 (whens_at at) (first_of_list b (other_at ws at) next) next
      ++ list_nodes c b (other_at ws at) next
  act_nodes c number (performing body turns) at next =
      loop_before c number turns body at next
      ++ body_nodes c number body (body_at turns at) (body_next turns at body next)
      ++ loop_behind c number turns body at next
  act_nodes c number (opening os) at next = open_nodes c number true os 0 at next
  act_nodes c number (closing fs) at next = close_nodes c number true fs 0 at next
  act_nodes c number (reading f into a b) at next =
      read_nodes c number f into at (end_to c number a f (end_at into at) next)
      (first_of_list b (found_at into a at) next) next
      ++ phrase_nodes c a (end_at into at) next ++ list_nodes c b (found_at into a at) next
  act_nodes c number (writing f from) at next = write_nodes c number f from at next
