-- No node has more than three edges.
use Rattle.std.proofs.Common.{◌≡◌, ◌≤◌, ℕ, suc, ◌+◌, ◌*◌, Bool, true, false, List, [], ◌∷◌, ◌++◌, length, refl, arith, length-append}
use Rattle.cob_program.specs.declared.act.Opening.{Opening}
use Rattle.cob_program.specs.Logic.{Test, numbers, texts, member, numeric, always, Logic, all_of, any_of, not_, test, Logics, no_logics, more_logics, logics_of}
use Rattle.cob_program.specs.Act.{Turns, once, times, until, varying, Program}
use Rattle.cob_runs.specs.declared.action.Action.{Action}
use Rattle.cob_runs.specs.declared.action.Action.TheVariants.{Done}
use Rattle.cob_graph.specs.Laid.{Laid, MkLaid, LaidList, no_laid, more_laid, LaidPhrase, no_phrase, a_phrase, LaidAct, moving, showing, skipping, going, ending, computing, deciding, choosing, performing, opening, closing, reading, writing, LaidWhens, no_laid_whens, more_laid_whens, LaidBody, own_list, copy, LaidParas, no_laid_paras, more_laid_paras, phrase_size}
use Rattle.cob_graph.specs.Places.{first_of_list}
use Rattle.cob_graph.specs.Nodes.{Noded, Copied, test_edges, logic_nodes, all_nodes, any_nodes, open_nodes, close_nodes, read_nodes, write_nodes, size_edges, loop_before, loop_behind, copied_in, nodes, list_nodes, phrase_nodes, whens_nodes, body_nodes, paras_nodes, act_nodes}
use Rattle.cob_graph.specs.Graphs as graphs
use Rattle.cob_graph.specs.Graphs.{final_of, final_node, main_copy, edges_from, edges_of}

abbrev pub EachFew : List Noded → Type 0
EachFew [] = Unit {0}
EachFew (x ∷ xs) = (length x.out ≤ 3) × EachFew xs

pub record AreFew (ns : List Noded) : Type 0 where
  pub each : EachFew ns

none_few : AreFew []
none_few = record { each = tt }

more_few : (x : Noded) (xs : List Noded) → length x.out ≤ 3 → AreFew xs → AreFew (x ∷ xs)
more_few x xs l i = record { each = (l, i.each) }

one_few : (x : Noded) → length x.out ≤ 3 → AreFew (x ∷ [])
one_few x l = more_few x [] l none_few

append_few : (xs ys : List Noded) → AreFew xs → AreFew ys → AreFew (xs ++ ys)
append_few [] ys f g = g
append_few (x ∷ xs) ys f g = more_few x (xs ++ ys) f.each.0 (append_few xs ys (record { each = f.each.1 }) g)

module _ (c : Copied) (number : ℕ) where
  test_few : (t : Test) (k tr fa : ℕ) → length (test_edges c number t k tr fa) ≤ 3
  test_few (numbers a r b) k tr fa = omega arith
  test_few (texts a r b) k tr fa = omega arith
  test_few (member place ps) k tr fa = omega arith
  test_few (numeric place) k tr fa = omega arith
  test_few always k tr fa = omega arith

  mutual
    logic_few : (b : Bool) (t : Logic) (k at tr fa : ℕ) → AreFew (logic_nodes c number b t k at tr fa)
    logic_few b (all_of ls) k at tr fa = all_few b ls k at tr fa
    logic_few b (any_of ls) k at tr fa = any_few b ls k at tr fa
    logic_few b (not_ x) k at tr fa = logic_few b x k at fa tr
    logic_few b (test t) k at tr fa = one_few _ (test_few t k tr fa)

    all_few : (b : Bool) (ls : Logics) (k at tr fa : ℕ) → AreFew (all_nodes c number b ls k at tr fa)
    all_few b no_logics k at tr fa = none_few
    all_few b (more_logics x xs) k at tr fa =
        append_few _ _ (logic_few b x k at _ fa) (all_few false xs _ _ tr fa)

    any_few : (b : Bool) (ls : Logics) (k at tr fa : ℕ) → AreFew (any_nodes c number b ls k at tr fa)
    any_few b no_logics k at tr fa = none_few
    any_few b (more_logics x xs) k at tr fa =
        append_few _ _ (logic_few b x k at tr _) (any_few false xs _ _ tr fa)

  open_few : (b : Bool) (os : List Opening) (k at next : ℕ) → AreFew (open_nodes c number b os k at next)
  open_few b [] k at next = none_few
  open_few b (o ∷ os) k at next = more_few _ _ (omega arith) (open_few false os (k + 1) (at + 1) next)

  close_few : (b : Bool) (fs : List ℕ) (k at next : ℕ) → AreFew (close_nodes c number b fs k at next)
  close_few b [] k at next = none_few
  close_few b (f ∷ fs) k at next = more_few _ _ (omega arith) (close_few false fs (k + 1) (at + 1) next)

  read_few : (f : ℕ) (into : Bool) (at end fine next : ℕ) → AreFew (read_nodes c number f into at end fine next)
  read_few f false at end fine next = one_few _ (omega arith)
  read_few f true at end fine next = more_few _ _ (omega arith) (one_few _ (omega arith))

  write_few : (f : ℕ) (from : Bool) (at next : ℕ) → AreFew (write_nodes c number f from at next)
  write_few f false at next = one_few _ (omega arith)
  write_few f true at next = more_few _ _ (omega arith) (one_few _ (omega arith))

  before_few : (turns : Turns) (x : LaidBody) (at next : ℕ) → AreFew (loop_before c number turns x at next)
  before_few once x at next = one_few _ (omega arith)
  before_few (times s) x at next = more_few _ _ (omega arith) (one_few _ (omega arith))
  before_few (until false t) x at next = more_few _ _ (omega arith) (logic_few true t 0 _ next _)
  before_few (until true t) x at next = one_few _ (omega arith)
  before_few (varying false i from by t) x at next = more_few _ _ (omega arith) (logic_few true t 0 _ next _)
  before_few (varying true i from by t) x at next = one_few _ (omega arith)

  behind_few : (turns : Turns) (x : LaidBody) (at next : ℕ) → AreFew (loop_behind c number turns x at next)
  behind_few once x at next = none_few
  behind_few (times s) x at next = one_few _ (omega arith)
  behind_few (until false t) x at next = none_few
  behind_few (until true t) x at next = logic_few true t 0 _ next _
  behind_few (varying false i from by t) x at next = one_few _ (omega arith)
  behind_few (varying true i from by t) x at next =
      append_few _ _ (logic_few true t 0 _ next _) (one_few _ (omega arith))

  size_few : (first : Action × ℕ) (a : LaidPhrase) (at next : ℕ) → length (first ∷ size_edges c number a at next) ≤ 3
  size_few first no_phrase at next = omega arith
  size_few first (a_phrase xs) at next = omega arith

mutual
  node_few : (c : Copied) (x : Laid) (at next : ℕ) → AreFew (nodes c x at next)
  node_few c (MkLaid number a) at next = act_few c number a at next

  list_few : (c : Copied) (xs : LaidList) (at next : ℕ) → AreFew (list_nodes c xs at next)
  list_few c no_laid at next = none_few
  list_few c (more_laid x xs) at next = append_few _ _ (node_few c x at _) (list_few c xs _ next)

  phrase_few : (c : Copied) (x : LaidPhrase) (at next : ℕ) → AreFew (phrase_nodes c x at next)
  phrase_few c no_phrase at next = none_few
  phrase_few c (a_phrase xs) at next = list_few c xs at next

  whens_few : (c : Copied) (number : ℕ) (ws : LaidWhens) (k at other next : ℕ) →
      AreFew (whens_nodes c number ws k at other next)
  whens_few c number no_laid_whens k at other next = none_few
  whens_few c number (more_laid_whens ts xs ws) k at other next =
      append_few _ _
      (append_few _ _ (any_few c number false (logics_of ts) k at _ _) (list_few c xs _ next))
      (whens_few c number ws _ _ other next)

  body_few : (c : Copied) (number : ℕ) (x : LaidBody) (at next : ℕ) → AreFew (body_nodes c number x at next)
  body_few c number (own_list xs) at next = list_few c xs at next
  body_few c number (copy first ps) at next = paras_few (copied_in c number first ps at next) ps at next

  paras_few : (c : Copied) (ps : LaidParas) (at next : ℕ) → AreFew (paras_nodes c ps at next)
  paras_few c no_laid_paras at next = none_few
  paras_few c (more_laid_paras xs ps) at next = append_few _ _ (list_few c xs at _) (paras_few c ps _ next)

  act_few : (c : Copied) (number : ℕ) (a : LaidAct) (at next : ℕ) → AreFew (act_nodes c number a at next)
  act_few c number moving at next = one_few _ (omega arith)
  act_few c number showing at next = one_few _ (omega arith)
  act_few c number skipping at next = one_few _ (omega arith)
  act_few c number (going p) at next = one_few _ (omega arith)
  act_few c number ending at next = one_few _ (omega arith)
  act_few c number (computing a b) at next =
      more_few _ _ (size_few c number (Done, first_of_list b (at + 1 + phrase_size a) next) a (at + 1) next)
      (append_few _ _ (phrase_few c a _ next) (list_few c b _ next))
  act_few c number (deciding t a b) at next =
      append_few _ _ (append_few _ _ (logic_few c number true t 0 at _ _) (list_few c a _ next)) (list_few c b _ next)
  act_few c number (choosing ws b) at next =
      more_few _ _ (omega arith) (append_few _ _ (whens_few c number ws 0 (at + 1) _ next) (list_few c b _ next))
  act_few c number (performing body turns) at next =
      append_few _ _ (append_few _ _ (before_few c number turns body at next) (body_few c number body _ _))
      (behind_few c number turns body at next)
  act_few c number (opening os) at next = open_few c number true os 0 at next
  act_few c number (closing fs) at next = close_few c number true fs 0 at next
  act_few c number (reading f into a b) at next =
      append_few _ _ (append_few _ _ (read_few c number f into at _ _ next) (phrase_few c a _ next))
      (list_few c b _ next)
  act_few c number (writing f from) at next = write_few c number f from at next

pub program_few : (p : Program) (ps : LaidParas) → AreFew (graphs.all_nodes p ps)
program_few p ps =
    append_few _ _ (paras_few (main_copy p ps) ps 1 (final_of ps)) (one_few final_node (omega arith))

-- ---- edges

length_from : (at : ℕ) (out : List (Action × ℕ)) → length (edges_from at out) ≡ length out
length_from at [] = refl
length_from at (x ∷ out) = omega (arith, length_from at out)

pub few_of : (at : ℕ) (ns : List Noded) → EachFew ns → length (edges_of at ns) ≤ 3 * length ns
few_of at [] f = omega arith
few_of at (n ∷ ns) f =
    omega (
      arith,
      f.0,
      few_of (suc at) ns f.1,
      length_from at n.out,
      length-append (edges_from at n.out) (edges_of (suc at) ns),
    )
