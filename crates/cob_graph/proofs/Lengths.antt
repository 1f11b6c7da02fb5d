-- There are as many nodes as the sizes say; and the number of the final node.
use Rattle.std.proofs.Common.{◌≡◌, ℕ, suc, ◌+◌, Bool, true, false, List, [], ◌∷◌, ◌++◌, length, refl, ap, ◌∙◌, arith, length-append}
use Rattle.std.proofs.lemmas.List.{length-map}
use Rattle.cob_program.specs.declared.act.Opening.{Opening}
use Rattle.cob_program.specs.Logic.{Logic, all_of, any_of, not_, test, Logics, no_logics, more_logics, logics_of}
use Rattle.cob_program.specs.Act.{Turns, once, times, until, varying, Program}
use Rattle.cob_graph.specs.declared.graph.Graph.{Graph}
use Rattle.cob_graph.specs.Laid.{Laid, MkLaid, LaidList, no_laid, more_laid, LaidPhrase, no_phrase, a_phrase, LaidAct, moving, showing, skipping, going, ending, computing, deciding, choosing, performing, opening, closing, reading, writing, LaidWhens, no_laid_whens, more_laid_whens, LaidBody, own_list, copy, LaidParas, no_laid_paras, more_laid_paras, tests_in, tests_among, one_if, how_many, loop_nodes, size, list_size, phrase_size, act_size, whens_size, body_size, paras_size}
use Rattle.cob_graph.specs.Places.{first_of_list, first_of_paras, first_of_all, first_of_any, first_of_whens, first_of_body, body_at, body_next, tests_at, augment_at}
use Rattle.cob_graph.specs.Nodes.{Noded, Copied, logic_nodes, all_nodes, any_nodes, open_nodes, close_nodes, read_nodes, write_nodes, end_to, loop_before, loop_behind, copied_in, nodes, list_nodes, phrase_nodes, whens_nodes, body_nodes, paras_nodes, act_nodes}
use Rattle.cob_graph.specs.Graphs as graphs
use Rattle.cob_graph.specs.Graphs.{as_node, final_of, final_node, main_copy, IsGraph}
use Rattle.cob_graph.specs.Lookup.{final_in}

pub joined : {A : Type 0} (xs ys : List A) (m n : ℕ) → length xs ≡ m → length ys ≡ n → length (xs ++ ys) ≡ m + n
joined xs ys m n e f = length-append xs ys ∙ omega (arith, e, f)

mutual
  pub length-logic : (c : Copied) (n : ℕ) (b : Bool) (t : Logic) (k at tr fa : ℕ) →
      length (logic_nodes c n b t k at tr fa) ≡ tests_in t
  length-logic c n b (all_of ls) k at tr fa = length-all c n b ls k at tr fa
  length-logic c n b (any_of ls) k at tr fa = length-any c n b ls k at tr fa
  length-logic c n b (not_ x) k at tr fa = length-logic c n b x k at fa tr
  length-logic c n b (test t) k at tr fa = refl

  pub length-all : (c : Copied) (n : ℕ) (b : Bool) (ls : Logics) (k at tr fa : ℕ) →
      length (all_nodes c n b ls k at tr fa) ≡ tests_among ls
  length-all c n b no_logics k at tr fa = refl
  length-all c n b (more_logics x xs) k at tr fa =
      joined (logic_nodes c n b x k at (first_of_all xs (at + tests_in x) tr fa) fa)
      (all_nodes c n false xs (k + tests_in x) (at + tests_in x) tr fa)
      (tests_in x) (tests_among xs)
      (length-logic c n b x k at (first_of_all xs (at + tests_in x) tr fa) fa)
      (length-all c n false xs (k + tests_in x) (at + tests_in x) tr fa)

  pub length-any : (c : Copied) (n : ℕ) (b : Bool) (ls : Logics) (k at tr fa : ℕ) →
      length (any_nodes c n b ls k at tr fa) ≡ tests_among ls
  length-any c n b no_logics k at tr fa = refl
  length-any c n b (more_logics x xs) k at tr fa =
      joined (logic_nodes c n b x k at tr (first_of_any xs (at + tests_in x) tr fa))
      (any_nodes c n false xs (k + tests_in x) (at + tests_in x) tr fa)
      (tests_in x) (tests_among xs)
      (length-logic c n b x k at tr (first_of_any xs (at + tests_in x) tr fa))
      (length-any c n false xs (k + tests_in x) (at + tests_in x) tr fa)

length-open : (c : Copied) (n : ℕ) (b : Bool) (os : List Opening) (k at next : ℕ) →
    length (open_nodes c n b os k at next) ≡ how_many os
length-open c n b [] k at next = refl
length-open c n b (o ∷ os) k at next = ap suc (length-open c n false os (k + 1) (at + 1) next)

length-close : (c : Copied) (n : ℕ) (b : Bool) (fs : List ℕ) (k at next : ℕ) →
    length (close_nodes c n b fs k at next) ≡ how_many fs
length-close c n b [] k at next = refl
length-close c n b (f ∷ fs) k at next = ap suc (length-close c n false fs (k + 1) (at + 1) next)

pub length-read : (c : Copied) (n f : ℕ) (into : Bool) (at end fine next : ℕ) →
    length (read_nodes c n f into at end fine next) ≡ 1 + one_if into
length-read c n f false at end fine next = refl
length-read c n f true at end fine next = refl

length-write : (c : Copied) (n f : ℕ) (from : Bool) (at next : ℕ) → length (write_nodes c n f from at next) ≡ 1 +
    one_if from
length-write c n f false at next = refl
length-write c n f true at next = refl

length-loop : (c : Copied) (n : ℕ) (turns : Turns) (x : LaidBody) (at next : ℕ) →
    length (loop_before c n turns x at next) + length (loop_behind c n turns x at next) ≡ loop_nodes turns
length-loop c n once x at next = refl
length-loop c n (times s) x at next = refl
length-loop c n (until false t) x at next =
    omega (arith, length-logic c n true t 0 (at + 1) next (first_of_body x (body_at (until false t) at) (at + 1)))
length-loop c n (until true t) x at next =
    omega (
      arith,
      length-logic c n true t 0 (tests_at (until true t) at x) next
          (first_of_body x (at + 1) (tests_at (until true t) at x)),
    )
length-loop c n (varying false i from by t) x at next =
    omega (
      arith,
      length-logic c n true t 0 (at + 1) next
          (first_of_body x (at + 1 + tests_in t) (augment_at (varying false i from by t) at x)),
    )
length-loop c n (varying true i from by t) x at next =
    rw length-append (omega (
      arith,
      length-logic c n true t 0 (tests_at (varying true i from by t) at x) next
          (augment_at (varying true i from by t) at x),
    ))

around : (c : Copied) (n : ℕ) (turns : Turns) (x : LaidBody) (at next : ℕ) (middle : List Noded) →
    length middle ≡ body_size x →
    length (loop_before c n turns x at next ++ middle ++ loop_behind c n turns x at next) ≡ loop_nodes turns +
    body_size x
around c n turns x at next middle e = rw (length-append, length-append)
    (omega (arith, length-loop c n turns x at next, e))

mutual
  pub length-nodes : (c : Copied) (x : Laid) (at next : ℕ) → length (nodes c x at next) ≡ size x
  length-nodes c (MkLaid number a) at next = length-act c number a at next

  pub length-list : (c : Copied) (xs : LaidList) (at next : ℕ) → length (list_nodes c xs at next) ≡ list_size xs
  length-list c no_laid at next = refl
  length-list c (more_laid x xs) at next =
      joined (nodes c x at (first_of_list xs (at + size x) next)) (list_nodes c xs (at + size x) next) (size x)
      (list_size xs)
      (length-nodes c x at (first_of_list xs (at + size x) next)) (length-list c xs (at + size x) next)

  pub length-phrase : (c : Copied) (x : LaidPhrase) (at next : ℕ) → length (phrase_nodes c x at next) ≡ phrase_size x
  length-phrase c no_phrase at next = refl
  length-phrase c (a_phrase xs) at next = length-list c xs at next

  pub length-whens : (c : Copied) (number : ℕ) (ws : LaidWhens) (k at other next : ℕ) →
      length (whens_nodes c number ws k at other next) ≡ whens_size ws
  length-whens c number no_laid_whens k at other next = refl
  length-whens c number (more_laid_whens ts xs ws) k at other next =
      rw (length-append, length-append) (omega (
        arith,
        length-any c number false (logics_of ts) k at (first_of_list xs (at + tests_among (logics_of ts)) next)
            (first_of_whens ws (at + tests_among (logics_of ts) + list_size xs) other next),
        length-list c xs (at + tests_among (logics_of ts)) next,
        length-whens c number ws (k + tests_among (logics_of ts)) (at + tests_among (logics_of ts) + list_size xs)
            other next,
      ))

  pub length-body : (c : Copied) (number : ℕ) (x : LaidBody) (at next : ℕ) →
      length (body_nodes c number x at next) ≡ body_size x
  length-body c number (own_list xs) at next = length-list c xs at next
  length-body c number (copy first ps) at next = length-paras (copied_in c number first ps at next) ps at next

  pub length-paras : (c : Copied) (ps : LaidParas) (at next : ℕ) → length (paras_nodes c ps at next) ≡ paras_size ps
  length-paras c no_laid_paras at next = refl
  length-paras c (more_laid_paras xs ps) at next =
      joined (list_nodes c xs at (first_of_paras ps (at + list_size xs) next))
      (paras_nodes c ps (at + list_size xs) next) (list_size xs) (paras_size ps)
      (length-list c xs at (first_of_paras ps (at + list_size xs) next)) (length-paras c ps (at + list_size xs) next)

  pub length-act : (c : Copied) (number : ℕ) (a : LaidAct) (at next : ℕ) →
      length (act_nodes c number a at next) ≡ act_size a
  length-act c number moving at next = refl
  length-act c number showing at next = refl
  length-act c number skipping at next = refl
  length-act c number (going p) at next = refl
  length-act c number ending at next = refl
  length-act c number (computing a b) at next =
      rw length-append (omega (arith, length-phrase c a (at + 1) next, length-list c b (at + 1 + phrase_size a) next))
  length-act c number (deciding t a b) at next =
      rw (length-append, length-append) (omega (
        arith,
        length-logic c number true t 0 at (first_of_list a (at + tests_in t) next)
            (first_of_list b (at + tests_in t + list_size a) next),
        length-list c a (at + tests_in t) next,
        length-list c b (at + tests_in t + list_size a) next,
      ))
  length-act c number (choosing ws b) at next =
      rw length-append (omega (
        arith,
        length-whens c number ws 0 (at + 1) (first_of_list b (at + 1 + whens_size ws) next) next,
        length-list c b (at + 1 + whens_size ws) next,
      ))
  length-act c number (performing x turns) at next =
      around c number turns x at next (body_nodes c number x (body_at turns at) (body_next turns at x next))
      (length-body c number x (body_at turns at) (body_next turns at x next))
  length-act c number (opening os) at next = length-open c number true os 0 at next
  length-act c number (closing fs) at next = length-close c number true fs 0 at next
  length-act c number (reading f into a b) at next =
      rw (length-append, length-append) (omega (
        arith,
        length-read c number f into at (end_to c number a f (at + 1 + one_if into) next)
            (first_of_list b (at + 1 + one_if into + phrase_size a) next) next,
        length-phrase c a (at + 1 + one_if into) next,
        length-list c b (at + 1 + one_if into + phrase_size a) next,
      ))
  length-act c number (writing f from) at next = length-write c number f from at next

-- the final node is the last one
pub final_is : (p : Program) (g : Graph) (is : IsGraph p g) → final_of is.copies ≡ final_in g
final_is p g is =
    let ns = graphs.all_nodes p is.copies in
    let paras = paras_nodes (main_copy p is.copies) is.copies 1 (final_of is.copies) in
    omega (
      arith,
      ap length is.nodes,
      length-map ns as_node,
      length-append paras (final_node ∷ []),
      length-paras (main_copy p is.copies) is.copies 1 (final_of is.copies),
    )
