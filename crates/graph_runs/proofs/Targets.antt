-- The ways that leave the nodes laid go to nodes.
use Rattle.std.proofs.Common.{◌≤◌, ℕ, zero, suc, ◌+◌, ◌-◌, if◌then◌else◌, Bool, true, false, List, [], ◌∷◌, ◌++◌, arith}
use Rattle.cob_program.specs.declared.act.Opening.{Opening}
use Rattle.cob_program.specs.Logic.{Test, numbers, texts, member, numeric, always, Logic, all_of, any_of, not_, test, Logics, no_logics, more_logics, logics_of}
use Rattle.cob_program.specs.Act.{Turns, once, times, until, varying, Program}
use Rattle.cob_runs.specs.declared.action.Action.{Action}
use Rattle.cob_runs.specs.Acts.{has_status}
use Rattle.cob_graph.specs.Laid.{Laid, MkLaid, LaidList, no_laid, more_laid, LaidPhrase, no_phrase, a_phrase, LaidAct, moving, showing, skipping, going, ending, computing, deciding, choosing, performing, opening, closing, reading, writing, LaidWhens, no_laid_whens, more_laid_whens, LaidBody, own_list, copy, LaidParas, no_laid_paras, more_laid_paras, tests_in, tests_among, one_if, how_many, loop_nodes, size, list_size, phrase_size, act_size, whens_size, body_size, paras_size}
use Rattle.cob_graph.specs.Places.{first_of_list, first_of_paras, first_of_para, first_of_body, first_of_logic, first_of_all, first_of_any, first_of_whens, body_at, body_next}
use Rattle.cob_graph.specs.Nodes.{Noded, Copied, test_edges, logic_nodes, all_nodes, any_nodes, bad_to, behind, open_nodes, close_nodes, end_to, read_nodes, write_nodes, size_edges, loop_before, loop_behind, copied_in, nodes, list_nodes, phrase_nodes, whens_nodes, body_nodes, paras_nodes, act_nodes}
use Rattle.cob_graph.specs.Graphs as graphs
use Rattle.cob_graph.specs.Graphs.{final_of, final_node, main_copy}

-- the last node
module _ (final : ℕ) where
  pub record IsIn (n : ℕ) : Type 0 where
    pub first : 1 ≤ n
    pub last : n ≤ final

  -- so many nodes from one on
  pub record Fit (at many : ℕ) : Type 0 where
    pub first : 1 ≤ at
    pub last : at + many ≤ final

  abbrev pub OutIn : List (Action × ℕ) → Type 0
  OutIn [] = Unit {0}
  OutIn (x ∷ xs) = IsIn x.1 × OutIn xs

  abbrev pub EachIn : List Noded → Type 0
  EachIn [] = Unit {0}
  EachIn (x ∷ xs) = OutIn x.out × EachIn xs

  pub record AreIn (ns : List Noded) : Type 0 where
    pub each : EachIn ns

  none_in : AreIn []
  none_in = record { each = tt }

  more_in : (x : Noded) (xs : List Noded) → OutIn x.out → AreIn xs → AreIn (x ∷ xs)
  more_in x xs o i = record { each = (o, i.each) }

  one_in : (x : Noded) → OutIn x.out → AreIn (x ∷ [])
  one_in x o = more_in x [] o none_in

  append_in : (xs ys : List Noded) → AreIn xs → AreIn ys → AreIn (xs ++ ys)
  append_in [] ys f g = g
  append_in (x ∷ xs) ys f g = more_in x (xs ++ ys) f.each.0 (append_in xs ys (record { each = f.each.1 }) g)

  -- ---- places

  begins_in : (at many : ℕ) → Fit at many → IsIn at
  begins_in at many f = record { first = f.first; last = omega (arith, f.last) }

  -- nodes among so many
  among : (at many from some : ℕ) → Fit at many → at ≤ from → from + some ≤ at + many → Fit from some
  among at many from some f l m = record { first = omega (arith, f.first, l); last = omega (arith, f.last, m) }

  list_first : (xs : LaidList) (at next : ℕ) → Fit at (list_size xs) → IsIn next → IsIn (first_of_list xs at next)
  list_first no_laid at next f n = n
  list_first (more_laid x xs) at next f n = begins_in at _ f

  paras_first : (ps : LaidParas) (at next : ℕ) → Fit at (paras_size ps) → IsIn next → IsIn (first_of_paras ps at next)
  paras_first no_laid_paras at next f n = n
  paras_first (more_laid_paras xs ps) at next f n =
      list_first xs at _ (among at _ at _ f (omega arith) (omega arith))
      (paras_first ps (at + list_size xs) next (among at _ _ _ f (omega arith) (omega arith)) n)

  para_first : (k : ℕ) (ps : LaidParas) (at next : ℕ) → Fit at (paras_size ps) → IsIn next →
      IsIn (first_of_para k ps at next)
  para_first zero ps at next f n = paras_first ps at next f n
  para_first (suc k) no_laid_paras at next f n = n
  para_first (suc k) (more_laid_paras xs ps) at next f n =
      para_first k ps (at + list_size xs) next (among at _ _ _ f (omega arith) (omega arith)) n

  body_first : (x : LaidBody) (at next : ℕ) → Fit at (body_size x) → IsIn next → IsIn (first_of_body x at next)
  body_first (own_list xs) at next f n = list_first xs at next f n
  body_first (copy first ps) at next f n = paras_first ps at next f n

  mutual
    logic_first : (t : Logic) (at tr fa : ℕ) → Fit at (tests_in t) → IsIn tr → IsIn fa →
        IsIn (first_of_logic t at tr fa)
    logic_first (all_of ls) at tr fa f t u = all_first ls at tr fa f t u
    logic_first (any_of ls) at tr fa f t u = any_first ls at tr fa f t u
    logic_first (not_ x) at tr fa f t u = logic_first x at fa tr f u t
    logic_first (test x) at tr fa f t u = begins_in at _ f

    all_first : (ls : Logics) (at tr fa : ℕ) → Fit at (tests_among ls) → IsIn tr → IsIn fa →
        IsIn (first_of_all ls at tr fa)
    all_first no_logics at tr fa f t u = t
    all_first (more_logics x xs) at tr fa f t u =
        logic_first x at _ fa (among at _ at _ f (omega arith) (omega arith))
        (all_first xs (at + tests_in x) tr fa (among at _ _ _ f (omega arith) (omega arith)) t u) u

    any_first : (ls : Logics) (at tr fa : ℕ) → Fit at (tests_among ls) → IsIn tr → IsIn fa →
        IsIn (first_of_any ls at tr fa)
    any_first no_logics at tr fa f t u = u
    any_first (more_logics x xs) at tr fa f t u =
        logic_first x at tr _ (among at _ at _ f (omega arith) (omega arith)) t
        (any_first xs (at + tests_in x) tr fa (among at _ _ _ f (omega arith) (omega arith)) t u)

  whens_first : (ws : LaidWhens) (at other next : ℕ) → Fit at (whens_size ws) → IsIn other → IsIn next →
      IsIn (first_of_whens ws at other next)
  whens_first no_laid_whens at other next f o n = o
  whens_first (more_laid_whens ts xs ws) at other next f o n =
      any_first (logics_of ts) at _ _ (among at _ at _ f (omega arith) (omega arith))
      (list_first xs (at + tests_among (logics_of ts)) next (among at _ _ _ f (omega arith) (omega arith)) n)
      (whens_first ws (at + tests_among (logics_of ts) + list_size xs) other next
      (among at _ _ _ f (omega arith) (omega arith)) o n)

  -- ---- nodes of one copy

  pub record CopyIn (c : Copied) : Type 0 where
    pub para : (n : ℕ) → IsIn (c.para n)
    pub last : IsIn c.final

  module _ (c : Copied) (number : ℕ) (k_ : CopyIn c) where
    test_in : (t : Test) (k tr fa : ℕ) → IsIn tr → IsIn fa → OutIn (test_edges c number t k tr fa)
    test_in (numbers a r b) k tr fa t u = (t, (u, tt))
    test_in (texts a r b) k tr fa t u = (t, (u, tt))
    test_in (member place ps) k tr fa t u = (t, (u, tt))
    test_in (numeric place) k tr fa t u = (t, (u, tt))
    test_in always k tr fa t u = (t, tt)

    mutual
      logic_in : (b : Bool) (t : Logic) (k at tr fa : ℕ) → Fit at (tests_in t) → IsIn tr → IsIn fa →
          AreIn (logic_nodes c number b t k at tr fa)
      logic_in b (all_of ls) k at tr fa f t u = all_in b ls k at tr fa f t u
      logic_in b (any_of ls) k at tr fa f t u = any_in b ls k at tr fa f t u
      logic_in b (not_ x) k at tr fa f t u = logic_in b x k at fa tr f u t
      logic_in b (test x) k at tr fa f t u = one_in _ (test_in x k tr fa t u)

      all_in : (b : Bool) (ls : Logics) (k at tr fa : ℕ) → Fit at (tests_among ls) → IsIn tr → IsIn fa →
          AreIn (all_nodes c number b ls k at tr fa)
      all_in b no_logics k at tr fa f t u = none_in
      all_in b (more_logics x xs) k at tr fa f t u =
          let g : Fit (at + tests_in x) (tests_among xs) = among at _ _ _ f (omega arith) (omega arith) in
          append_in _ _
          (logic_in b x k at _ fa (among at _ at _ f (omega arith) (omega arith))
          (all_first xs (at + tests_in x) tr fa g t u) u)
          (all_in false xs _ _ tr fa g t u)

      any_in : (b : Bool) (ls : Logics) (k at tr fa : ℕ) → Fit at (tests_among ls) → IsIn tr → IsIn fa →
          AreIn (any_nodes c number b ls k at tr fa)
      any_in b no_logics k at tr fa f t u = none_in
      any_in b (more_logics x xs) k at tr fa f t u =
          let g : Fit (at + tests_in x) (tests_among xs) = among at _ _ _ f (omega arith) (omega arith) in
          append_in _ _
          (logic_in b x k at tr _ (among at _ at _ f (omega arith) (omega arith)) t
          (any_first xs (at + tests_in x) tr fa g t u))
          (any_in false xs _ _ tr fa g t u)

    bad_in : (file next : ℕ) → IsIn next → IsIn (bad_to c number file next)
    bad_in file next n = by_status (has_status c.layout file)
      where
        by_status : (b : Bool) → IsIn (if b then next else c.final)
        by_status true = n
        by_status false = k_.last

    behind_in : {A : Type 0} (xs : List A) (at next : ℕ) → Fit at (1 + how_many xs) → IsIn next →
        IsIn (behind c number xs at next)
    behind_in [] at next f n = n
    behind_in (x ∷ xs) at next f n = begins_in (at + 1) _ (among at _ (at + 1) (how_many xs) f (omega arith) (omega arith))

    open_in : (b : Bool) (os : List Opening) (k at next : ℕ) → Fit at (how_many os) → IsIn next →
        AreIn (open_nodes c number b os k at next)
    open_in b [] k at next f n = none_in
    open_in b (o ∷ os) k at next f n =
        let g = behind_in os at next (among at _ at _ f (omega arith) (omega arith)) n in
        more_in _ _ (g, (bad_in o.file _ g, tt))
        (open_in false os (k + 1) (at + 1) next (among at _ _ _ f (omega arith) (omega arith)) n)

    close_in : (b : Bool) (fs : List ℕ) (k at next : ℕ) → Fit at (how_many fs) → IsIn next →
        AreIn (close_nodes c number b fs k at next)
    close_in b [] k at next f n = none_in
    close_in b (x ∷ fs) k at next f n =
        let g = behind_in fs at next (among at _ at _ f (omega arith) (omega arith)) n in
        more_in _ _ (g, (bad_in x _ g, tt))
        (close_in false fs (k + 1) (at + 1) next (among at _ _ _ f (omega arith) (omega arith)) n)

    end_in : (a : LaidPhrase) (file at next : ℕ) → Fit at (phrase_size a) → IsIn next →
        IsIn (end_to c number a file at next)
    end_in no_phrase file at next f n = bad_in file next n
    end_in (a_phrase xs) file at next f n = list_first xs at next f n

    read_in : (file : ℕ) (into : Bool) (at end fine next : ℕ) → Fit at (1 + one_if into) → IsIn end → IsIn fine →
        IsIn next → AreIn (read_nodes c number file into at end fine next)
    read_in file false at end fine next f e i n = one_in _ (i, (e, (bad_in file next n, tt)))
    read_in file true at end fine next f e i n =
        more_in _ _ (begins_in (at + 1) _ (among at _ _ 1 f (omega arith) (omega arith)), (e, (bad_in file next n, tt)))
        (one_in _ (i, tt))

    write_in : (file : ℕ) (from : Bool) (at next : ℕ) → Fit at (1 + one_if from) → IsIn next →
        AreIn (write_nodes c number file from at next)
    write_in file false at next f n = one_in _ (n, (bad_in file next n, tt))
    write_in file true at next f n =
        more_in _ _ (begins_in (at + 1) _ (among at _ _ 1 f (omega arith) (omega arith)), tt)
        (one_in _ (n, (bad_in file next n, tt)))

    size_in : (a : LaidPhrase) (at next : ℕ) → Fit at (phrase_size a) → IsIn next → OutIn (size_edges c number a at next)
    size_in no_phrase at next f n = tt
    size_in (a_phrase xs) at next f n = (list_first xs at next f n, tt)

    before_in : (turns : Turns) (x : LaidBody) (at next : ℕ) → Fit at (loop_nodes turns + body_size x) → IsIn next →
        AreIn (loop_before c number turns x at next)
    before_in once x at next f n =
        one_in _ (body_first x (at + 1) next (among at _ _ _ f (omega arith) (omega arith)) n, tt)
    before_in (times s) x at next f n =
        more_in _ _ (begins_in (at + 1) _ (among at _ _ 1 f (omega arith) (omega arith)), tt)
        (one_in _ (
          body_first x (at + 2) _ (among at _ _ _ f (omega arith) (omega arith))
              (begins_in (at + 2 + body_size x) _ (among at _ _ 1 f (omega arith) (omega arith))),
          (n, tt),
        ))
    before_in (until false t) x at next f n =
        let g : IsIn (at + 1) = begins_in (at + 1) _ (among at _ _ 0 f (omega arith) (omega arith)) in
        more_in _ _ (g, tt)
        (logic_in true t 0 (at + 1) next _ (among at _ _ _ f (omega arith) (omega arith)) n
        (body_first x (at + 1 + tests_in t) (at + 1) (among at _ _ _ f (omega arith) (omega arith)) g))
    before_in (until true t) x at next f n =
        one_in _ (
          body_first x (at + 1) _ (among at _ _ _ f (omega arith) (omega arith))
              (begins_in (at + 1 + body_size x) _ (among at _ _ 0 f (omega arith) (omega arith))),
          tt,
        )
    before_in (varying false i from by t) x at next f n =
        more_in _ _ (begins_in (at + 1) _ (among at _ _ 0 f (omega arith) (omega arith)), tt)
        (logic_in true t 0 (at + 1) next _ (among at _ _ _ f (omega arith) (omega arith)) n
        (body_first x (at + 1 + tests_in t) _ (among at _ _ _ f (omega arith) (omega arith))
        (begins_in (at + 1 + tests_in t + body_size x) _ (among at _ _ 0 f (omega arith) (omega arith)))))
    before_in (varying true i from by t) x at next f n =
        one_in _ (
          body_first x (at + 1) _ (among at _ _ _ f (omega arith) (omega arith))
              (begins_in (at + 1 + body_size x) _ (among at _ _ 0 f (omega arith) (omega arith))),
          tt,
        )

    behind_loop : (turns : Turns) (x : LaidBody) (at next : ℕ) → Fit at (loop_nodes turns + body_size x) → IsIn next →
        AreIn (loop_behind c number turns x at next)
    behind_loop once x at next f n = none_in
    behind_loop (times s) x at next f n =
        one_in _ (begins_in (at + 1) _ (among at _ _ 0 f (omega arith) (omega arith)), tt)
    behind_loop (until false t) x at next f n = none_in
    behind_loop (until true t) x at next f n =
        logic_in true t 0 _ next _ (among at _ _ _ f (omega arith) (omega arith)) n
        (body_first x (at + 1) _ (among at _ _ _ f (omega arith) (omega arith))
        (begins_in (at + 1 + body_size x) _ (among at _ _ 0 f (omega arith) (omega arith))))
    behind_loop (varying false i from by t) x at next f n =
        one_in _ (begins_in (at + 1) _ (among at _ _ 0 f (omega arith) (omega arith)), tt)
    behind_loop (varying true i from by t) x at next f n =
        append_in _ _
        (logic_in true t 0 _ next _ (among at _ _ _ f (omega arith) (omega arith)) n
        (begins_in (at + 1 + body_size x + tests_in t) _ (among at _ _ 0 f (omega arith) (omega arith))))
        (one_in _ (
          body_first x (at + 1) _ (among at _ _ _ f (omega arith) (omega arith))
              (begins_in (at + 1 + body_size x) _ (among at _ _ 0 f (omega arith) (omega arith))),
          tt,
        ))

    -- where a loop's body stands, and what it goes on at
    body_fit : (turns : Turns) (x : LaidBody) (at : ℕ) → Fit at (loop_nodes turns + body_size x) →
        Fit (body_at turns at) (body_size x)
    body_fit once x at f = among at _ _ _ f (omega arith) (omega arith)
    body_fit (times s) x at f = among at _ _ _ f (omega arith) (omega arith)
    body_fit (until false t) x at f = among at _ _ _ f (omega arith) (omega arith)
    body_fit (until true t) x at f = among at _ _ _ f (omega arith) (omega arith)
    body_fit (varying false i from by t) x at f = among at _ _ _ f (omega arith) (omega arith)
    body_fit (varying true i from by t) x at f = among at _ _ _ f (omega arith) (omega arith)

    next_in : (turns : Turns) (x : LaidBody) (at next : ℕ) → Fit at (loop_nodes turns + body_size x) → IsIn next →
        IsIn (body_next turns at x next)
    next_in once x at next f n = n
    next_in (times s) x at next f n = begins_in _ 0 (among at _ _ 0 f (omega arith) (omega arith))
    next_in (until false t) x at next f n = begins_in _ 0 (among at _ _ 0 f (omega arith) (omega arith))
    next_in (until true t) x at next f n = begins_in _ 0 (among at _ _ 0 f (omega arith) (omega arith))
    next_in (varying false i from by t) x at next f n = begins_in _ 0 (among at _ _ 0 f (omega arith) (omega arith))
    next_in (varying true i from by t) x at next f n = begins_in _ 0 (among at _ _ 0 f (omega arith) (omega arith))

  -- ---- statements

  mutual
    node_in : (c : Copied) (x : Laid) (at next : ℕ) → CopyIn c → Fit at (size x) → IsIn next → AreIn (nodes c x at next)
    node_in c (MkLaid number a) at next k f n = act_in c number a at next k f n

    list_in : (c : Copied) (xs : LaidList) (at next : ℕ) → CopyIn c → Fit at (list_size xs) → IsIn next →
        AreIn (list_nodes c xs at next)
    list_in c no_laid at next k f n = none_in
    list_in c (more_laid x xs) at next k f n =
        let g : Fit (at + size x) (list_size xs) = among at _ _ _ f (omega arith) (omega arith) in
        append_in _ _
        (node_in c x at _ k (among at _ at _ f (omega arith) (omega arith)) (list_first xs (at + size x) next g n))
        (list_in c xs (at + size x) next k g n)

    phrase_in : (c : Copied) (x : LaidPhrase) (at next : ℕ) → CopyIn c → Fit at (phrase_size x) → IsIn next →
        AreIn (phrase_nodes c x at next)
    phrase_in c no_phrase at next k f n = none_in
    phrase_in c (a_phrase xs) at next k f n = list_in c xs at next k f n

    whens_in : (c : Copied) (number : ℕ) (ws : LaidWhens) (k at other next : ℕ) → CopyIn c → Fit at (whens_size ws) →
        IsIn other → IsIn next → AreIn (whens_nodes c number ws k at other next)
    whens_in c number no_laid_whens k at other next i f o n = none_in
    whens_in c number (more_laid_whens ts xs ws) k at other next i f o n =
        let g : Fit (at + tests_among (logics_of ts)) (list_size xs) = among at _ _ _ f (omega arith) (omega arith) in
        let h : Fit (at + tests_among (logics_of ts) + list_size xs) (whens_size ws) =
        among at _ _ _ f (omega arith) (omega arith) in
        append_in _ _
        (append_in _ _
        (any_in c number i false (logics_of ts) k at _ _ (among at _ at _ f (omega arith) (omega arith))
        (list_first xs _ next g n) (whens_first ws _ other next h o n))
        (list_in c xs _ next i g n))
        (whens_in c number ws _ _ other next i h o n)

    body_in : (c : Copied) (number : ℕ) (x : LaidBody) (at next : ℕ) → CopyIn c → Fit at (body_size x) → IsIn next →
        AreIn (body_nodes c number x at next)
    body_in c number (own_list xs) at next k f n = list_in c xs at next k f n
    body_in c number (copy first ps) at next k f n =
        paras_in (copied_in c number first ps at next) ps at next
        (record { para = λ q. para_first (q - first) ps at next f n; last = k.last }) f n

    paras_in : (c : Copied) (ps : LaidParas) (at next : ℕ) → CopyIn c → Fit at (paras_size ps) → IsIn next →
        AreIn (paras_nodes c ps at next)
    paras_in c no_laid_paras at next k f n = none_in
    paras_in c (more_laid_paras xs ps) at next k f n =
        let g : Fit (at + list_size xs) (paras_size ps) = among at _ _ _ f (omega arith) (omega arith) in
        append_in _ _
        (list_in c xs at _ k (among at _ at _ f (omega arith) (omega arith)) (paras_first ps _ next g n))
        (paras_in c ps _ next k g n)

    act_in : (c : Copied) (number : ℕ) (a : LaidAct) (at next : ℕ) → CopyIn c → Fit at (act_size a) → IsIn next →
        AreIn (act_nodes c number a at next)
    act_in c number moving at next k f n = one_in _ (n, tt)
    act_in c number showing at next k f n = one_in _ (n, tt)
    act_in c number skipping at next k f n = one_in _ (n, tt)
    act_in c number (going p) at next k f n = one_in _ (k.para p, tt)
    act_in c number ending at next k f n = one_in _ (k.last, tt)
    act_in c number (computing a b) at next k f n =
        let g : Fit (at + 1) (phrase_size a) = among at _ _ _ f (omega arith) (omega arith) in
        let h : Fit (at + 1 + phrase_size a) (list_size b) = among at _ _ _ f (omega arith) (omega arith) in
        more_in _ _ (list_first b _ next h n, size_in c number k a (at + 1) next g n)
        (append_in _ _ (phrase_in c a _ next k g n) (list_in c b _ next k h n))
    act_in c number (deciding t a b) at next k f n =
        let g : Fit (at + tests_in t) (list_size a) = among at _ _ _ f (omega arith) (omega arith) in
        let h : Fit (at + tests_in t + list_size a) (list_size b) = among at _ _ _ f (omega arith) (omega arith) in
        append_in _ _
        (append_in _ _
        (logic_in c number k true t 0 at _ _ (among at _ at _ f (omega arith) (omega arith)) (list_first a _ next g n)
        (list_first b _ next h n))
        (list_in c a _ next k g n))
        (list_in c b _ next k h n)
    act_in c number (choosing ws b) at next k f n =
        let g : Fit (at + 1) (whens_size ws) = among at _ _ _ f (omega arith) (omega arith) in
        let h : Fit (at + 1 + whens_size ws) (list_size b) = among at _ _ _ f (omega arith) (omega arith) in
        more_in _ _ (whens_first ws (at + 1) _ next g (list_first b _ next h n) n, tt)
        (append_in _ _ (whens_in c number ws 0 (at + 1) _ next k g (list_first b _ next h n) n) (list_in c b _ next k h n))
    act_in c number (performing body turns) at next k f n =
        append_in _ _
        (append_in _ _ (before_in c number k turns body at next f n)
        (body_in c number body _ _ k (body_fit c number k turns body at f) (next_in c number k turns body at next f n)))
        (behind_loop c number k turns body at next f n)
    act_in c number (opening os) at next k f n = open_in c number k true os 0 at next f n
    act_in c number (closing fs) at next k f n = close_in c number k true fs 0 at next f n
    act_in c number (reading file into a b) at next k f n =
        let g : Fit (at + 1 + one_if into) (phrase_size a) = among at _ _ _ f (omega arith) (omega arith) in
        let h : Fit (at + 1 + one_if into + phrase_size a) (list_size b) = among at _ _ _ f (omega arith) (omega arith) in
        append_in _ _
        (append_in _ _
        (read_in c number k file into at _ _ next (among at _ at _ f (omega arith) (omega arith))
        (end_in c number k a file _ next g n) (list_first b _ next h n) n)
        (phrase_in c a _ next k g n))
        (list_in c b _ next k h n)
    act_in c number (writing file from) at next k f n = write_in c number k file from at next f n

-- ---- programs

main_in : (p : Program) (ps : LaidParas) → CopyIn (final_of ps) (main_copy p ps)
main_in p ps = record {
  para = λ n. para_first (final_of ps) n ps 1 (final_of ps) (record { first = omega arith; last = omega arith })
      (record { first = omega arith; last = omega arith });
  last = record { first = omega arith; last = omega arith };
}

pub program_in : (p : Program) (ps : LaidParas) → AreIn (final_of ps) (graphs.all_nodes p ps)
program_in p ps =
    append_in (final_of ps) _ _
    (paras_in (final_of ps) (main_copy p ps) ps 1 (final_of ps) (main_in p ps)
    (record { first = omega arith; last = omega arith }) (record { first = omega arith; last = omega arith }))
    (one_in (final_of ps) final_node tt)
