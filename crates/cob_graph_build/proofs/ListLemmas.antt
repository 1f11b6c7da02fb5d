-- Lists of statements and paragraphs, as the code lays them.
use Rattle.std.specs.Prelude.{Result, OnOk}
use Rattle.std.proofs.Common.{ℕ, ◌+◌, ◌-◌, ◌≡◌, ◌<◌, Bool, true, false, arith, List, [], ◌∷◌, ◌++◌, refl, sym, ap, ◌∙◌, add-one, Some, None}
use Rattle.cob_data.specs.declared.layout.Sender.{Sender}
use Rattle.cob_program.specs.declared.act.Turns as declared_turns
use Rattle.cob_program.specs.declared.act.Turns.TheVariants as variant
use Rattle.cob_program.specs.declared.logic.Logic as declared_logic
use Rattle.cob_program.specs.LogicView.{plain_logic}
use Rattle.cob_program.specs.Act.{Program, Stmt, Stmts, more_stmts, Phrase, given, When, MkWhen, Whens, more_whens, Turns, varying}
use Rattle.cob_program.specs.ActView.{plain_turns}
use Rattle.cob_program.specs.Logic.{Logic, logics_of}
use Rattle.cob_runs.specs.Steps.{body_at}
use Rattle.cob_runs.specs.declared.action.Action.TheVariants as action
use Rattle.cob_graph_build.specs.declared.counting.Entry.{Entry}
use Rattle.cob_graph.specs.Laid.{LaidList, LaidPhrase, LaidWhens, LaidParas, LaidBody, no_laid_paras, computing, deciding, choosing, performing, reading, copy, one_if, size, list_size, phrase_size, whens_size, body_size, tests_in, tests_among}
use Rattle.cob_graph.specs.Places as places
use Rattle.cob_graph.specs.Places.{first_of_list, first_of_paras, first_of_body, first_of_whens, body_next}
use Rattle.cob_graph.specs.Nodes.{Copied, node, size_edges, logic_nodes, any_nodes, end_to, read_nodes, loop_before, loop_behind, nodes, list_nodes, phrase_nodes, whens_nodes, body_nodes, paras_nodes, act_nodes}
use Rattle.cob_graph_build.specs.Tables.{lay_stmt, lay_list, lay_phrase, lay_whens, lay_paras, copy_in, rest_in}
use Rattle.cob_graph_build.specs.Growing.{Seen, grown}
use Rattle.cob_graph_build.proofs.Growth.{on_ok, grown_more, grown_none}
use Rattle.cob_graph_build.proofs.LayLemmas.{list_more, paras_more, whens_more, arith_laid, if_laid, evaluate_laid, read_laid, perform_laid, inner_copy, copy_laid}
use Rattle.cob_graph_build.proofs.PlaceLemmas.{paras_step}
use Rattle.cob_graph_build.proofs.SizeLemmas.{copy_behind, copy_is}

pub varying_is : (u : declared_turns.Turns) (after : Bool) (item : ℕ) (start by : Sender) (t : declared_logic.Logic) →
    u ≡ variant.Varying after item start by t → after ≡ true →
    plain_turns u ≡ varying true item start by (plain_logic t)
varying_is u after item start by t is behind =
    ap plain_turns is ∙ ap (λ b. varying b item start by (plain_logic t)) behind

pub enter_at : (body : LaidBody) (enter begin behind from to : ℕ) →
    enter ≡ first_of_body body begin behind → begin ≡ from → behind ≡ to → enter ≡ first_of_body body from to
enter_at body enter begin behind from to is eb en =
    is ∙ ap (λ n. first_of_body body n behind) eb ∙ ap (λ n. first_of_body body from n) en

-- ---- the copy of a range

pub copy_none : (p : Program) (es : List Entry) (first last : ℕ) → None ≡ rest_in es first last →
    copy_in p es first last ≡ no_laid_paras
copy_none p es first last is = copy_is p es first last ∙ ap (copy_behind p first last) (sym is)

pub copy_some : (p : Program) (es rest : List Entry) (first last end : ℕ) → Some rest ≡ rest_in es first last →
    end ≡ last + 1 →
    copy_in p es first last ≡ lay_paras p (copy_in p rest) first (end - first)
copy_some p es rest first last end is till =
    copy_is p es first last ∙ ap (copy_behind p first last) (sym is)
    ∙ ap (λ n. lay_paras p (copy_in p rest) first (n - first)) (sym (till ∙ add-one last))

module _ (c : Copied) (p : Program) (k : ℕ → ℕ → LaidParas) where
  -- the nodes of arithmetic with a phrase
  pub sum_ok : {T E : Type 0} (r : Result T E) (old new : Seen) (number fine failed at next : ℕ) (x : Phrase)
      (ss : Stmts) →
      x ≡ given ss → failed ≡ first_of_list (lay_list p k ss) at next →
      OnOk r (new ≡ grown old (node c number true ((action.Done, fine) ∷ (action.Size, failed) ∷ []) ∷ [])) →
      OnOk r (new ≡ grown old (node c number true
      ((action.Done, fine) ∷ size_edges c number (lay_phrase p k x) at next) ∷ []))
  sum_ok r old new number fine failed at next x ss is first laid =
      on_ok r
      (λ all. all ∙ ap (λ n. grown old (node c number true ((action.Done, fine) ∷ (action.Size, n) ∷ []) ∷ [])) first
      ∙ ap (λ y. grown old (node c number true
      ((action.Done, fine) ∷ size_edges c number (lay_phrase p k y) at next) ∷ [])) (sym is))
      laid

  -- what stands behind the body of PERFORM VARYING with the test behind
  pub varying_ok : {T E : Type 0} (r : Result T E) (old mid new : Seen)
      (number item at next size_ begin tests tests_at failed enter : ℕ)
      (start by : Sender) (t : Logic) (turns : Turns) (body : LaidBody) → turns ≡ varying true item start by t →
      size_ ≡ body_size body →
      begin ≡ at + 1 → tests_at ≡ begin + size_ → tests ≡ tests_in t → failed ≡ tests_at + tests →
      enter ≡ first_of_body body (places.body_at turns at) (body_next turns at body next) →
      mid ≡ grown old (logic_nodes c number true t 0 tests_at next failed) →
      OnOk r (new ≡ grown mid (node c number true ((action.Done, enter) ∷ []) ∷ [])) →
      OnOk r (new ≡ grown old (loop_behind c number turns body at next))
  varying_ok r old mid new number item at next size_ begin tests tests_at failed enter start by t turns body is es eb ea
      et ef ee front laid =
      let here : tests_at ≡ at + 1 + body_size body = omega arith in
      let there : failed ≡ at + 1 + body_size body + tests_in t = omega arith in
      let tests_here = λ (n m : ℕ). logic_nodes c number true t 0 n next m in
      let again = λ (n : ℕ). node c number true ((action.Done, n) ∷ []) ∷ [] in
      on_ok r
      (λ all. grown_more old mid new (tests_here tests_at failed) (again enter) front all
      ∙ ap (λ n. grown old (tests_here tests_at failed ++ again n))
      (ee ∙ ap (λ u. first_of_body body (places.body_at u at) (body_next u at body next)) is)
      ∙ ap (λ n. grown old (tests_here tests_at n ++ again (first_of_body body (at + 1) (at + 1 + body_size body))))
      there
      ∙ ap (λ n. grown old (tests_here n (at + 1 + body_size body + tests_in t)
      ++ again (first_of_body body (at + 1) (at + 1 + body_size body)))) here
      ∙ ap (λ u. grown old (loop_behind c number u body at next)) (sym is))
      laid

  pub list_ok : {T E : Type 0} (r : Result T E) (old mid new : Seen) (list : Stmts) (x : Stmt) (rest : Stmts)
      (at n behind first next : ℕ) →
      OnOk r (new ≡ grown mid (list_nodes c (lay_list p k rest) behind next)) → list ≡ more_stmts x rest →
      n ≡ size (lay_stmt p k x) → behind ≡ at + n →
      first ≡ first_of_list (lay_list p k rest) behind next → mid ≡ grown old (nodes c (lay_stmt p k x) at first) →
      OnOk r (new ≡ grown old (list_nodes c (lay_list p k list) at next))
  list_ok r old mid new list x rest at n behind first next laid cut en eb ef front =
      on_ok r
      (λ all. list_more c old mid new (lay_stmt p k x) (lay_list p k rest) at behind first next
      (eb ∙ ap (λ m. at + m) en) ef front all
      ∙ ap (λ ss. grown old (list_nodes c (lay_list p k ss) at next)) (sym cut))
      laid

  pub whens_ok : {T E : Type 0} (r : Result T E) (old one two new : Seen) (whens rest : Whens) (w : When)
      (ts : List Logic) (ss : Stmts)
      (number k_ at tests nodes more list_at rest_at held failed other next : ℕ) →
      OnOk r (new ≡ grown two (whens_nodes c number (lay_whens p k rest) more rest_at other next)) →
      whens ≡ more_whens w rest → w ≡ MkWhen ts ss → tests ≡ tests_among (logics_of ts) → list_at ≡ at + tests →
      nodes ≡ list_size (lay_list p k ss) → rest_at ≡ list_at + nodes → more ≡ k_ + tests →
      held ≡ first_of_list (lay_list p k ss) list_at next →
      failed ≡ first_of_whens (lay_whens p k rest) rest_at other next →
      one ≡ grown old (any_nodes c number false (logics_of ts) k_ at held failed) →
      two ≡ grown one (list_nodes c (lay_list p k ss) list_at next) →
      OnOk r (new ≡ grown old (whens_nodes c number (lay_whens p k whens) k_ at other next))
  whens_ok r old one two new whens rest w ts ss number k_ at tests nodes more list_at rest_at held failed other next
      laid cut is et el en er em eh ef first list =
      on_ok r
      (λ all. whens_more c number old one two new ts (lay_list p k ss) (lay_whens p k rest) k_ at more list_at rest_at
      other held failed next
      (em ∙ ap (λ n. k_ + n) et) (el ∙ ap (λ n. at + n) et) (er ∙ ap (λ n. list_at + n) en) eh ef first list all
      ∙ ap (λ x. grown old (whens_nodes c number (lay_whens p k (more_whens x rest)) k_ at other next)) (sym is)
      ∙ ap (λ ws. grown old (whens_nodes c number (lay_whens p k ws) k_ at other next)) (sym cut))
      laid

  -- ---- statements with lists

  pub arith_ok : {T E : Type 0} (r : Result T E) (old one two new : Seen) (number : ℕ) (x : LaidPhrase) (b : LaidList)
      (at size_at n fine_at to next : ℕ) →
      OnOk r (new ≡ grown two (list_nodes c b fine_at next)) → size_at ≡ at + 1 → n ≡ phrase_size x →
      fine_at ≡ size_at + n → to ≡ first_of_list b fine_at next →
      one ≡ grown old (node c number true ((action.Done, to) ∷ size_edges c number x size_at next) ∷ []) →
      two ≡ grown one (phrase_nodes c x size_at next) →
      OnOk r (new ≡ grown old (act_nodes c number (computing x b) at next))
  arith_ok r old one two new number x b at size_at n fine_at to next laid es en ef et sum phrase =
      on_ok r (λ all. arith_laid c number old one two new x b at size_at fine_at to next es
      (ef ∙ ap (λ m. size_at + m) en) et sum phrase all) laid

  pub test_ok : {T E : Type 0} (r : Result T E) (old one two new : Seen) (number : ℕ) (t : Logic) (a b : LaidList)
      (at tests held_at n other_at held failed next : ℕ) →
      OnOk r (new ≡ grown two (list_nodes c b other_at next)) → tests ≡ tests_in t → held_at ≡ at + tests →
      n ≡ list_size a → other_at ≡ held_at + n →
      held ≡ first_of_list a held_at next → failed ≡ first_of_list b other_at next →
      one ≡ grown old (logic_nodes c number true t 0 at held failed) → two ≡ grown one (list_nodes c a held_at next) →
      OnOk r (new ≡ grown old (act_nodes c number (deciding t a b) at next))
  test_ok r old one two new number t a b at tests held_at n other_at held failed next laid et eh en eo first_held
      first_other front list =
      on_ok r
      (λ all. if_laid c number old one two new t a b at held_at other_at held failed next (eh ∙ ap (λ m. at + m) et)
      (eo ∙ ap (λ m. held_at + m) en)
      first_held first_other front list all)
      laid

  pub evaluate_ok : {T E : Type 0} (r : Result T E) (old one two new : Seen) (number : ℕ) (ws : LaidWhens)
      (b : LaidList) (at whens_at n other_at to_other to next : ℕ) →
      OnOk r (new ≡ grown two (list_nodes c b other_at next)) → whens_at ≡ at + 1 → n ≡ whens_size ws →
      other_at ≡ whens_at + n →
      to_other ≡ first_of_list b other_at next → to ≡ first_of_whens ws whens_at to_other next →
      one ≡ grown old (node c number true ((action.Skip, to) ∷ []) ∷ []) →
      two ≡ grown one (whens_nodes c number ws 0 whens_at to_other next) →
      OnOk r (new ≡ grown old (act_nodes c number (choosing ws b) at next))
  evaluate_ok r old one two new number ws b at whens_at n other_at to_other to next laid ew en eo eb et front whens =
      on_ok r (λ all. evaluate_laid c number old one two new ws b at whens_at other_at to_other to next ew
      (eo ∙ ap (λ m. whens_at + m) en) eb et front whens all) laid

  pub read_ok : {T E : Type 0} (r : Result T E) (old one two new : Seen) (number file : ℕ) (into : Bool)
      (x : LaidPhrase) (b : LaidList)
      (at behind m end_at n fine_at to_end to_fine next : ℕ) →
      OnOk r (new ≡ grown two (list_nodes c b fine_at next)) → behind ≡ at + 1 → m ≡ one_if into → end_at ≡ behind + m →
      n ≡ phrase_size x → fine_at ≡ end_at + n →
      to_end ≡ end_to c number x file end_at next → to_fine ≡ first_of_list b fine_at next →
      one ≡ grown old (read_nodes c number file into at to_end to_fine next) →
      two ≡ grown one (phrase_nodes c x end_at next) →
      OnOk r (new ≡ grown old (act_nodes c number (reading file into x b) at next))
  read_ok r old one two new number file into x b at behind m end_at n fine_at to_end to_fine next laid eb em ee en ef
      ends fines front phrase =
      on_ok r
      (λ all. read_laid c number old one two new file into x b at end_at fine_at to_end to_fine next
      (ee ∙ ap (λ i. i + m) eb ∙ ap (λ i. at + 1 + i) em) (ef ∙ ap (λ i. end_at + i) en) ends fines front phrase
      all)
      laid

  pub perform_ok : {T E : Type 0} (r : Result T E) (old one two new : Seen) (number : ℕ) (turns : Turns)
      (body : LaidBody) (at begin behind next : ℕ) →
      OnOk r (new ≡ grown two (loop_behind c number turns body at next)) → begin ≡ places.body_at turns at →
      behind ≡ body_next turns at body next →
      one ≡ grown old (loop_before c number turns body at next) →
      two ≡ grown one (body_nodes c number body begin behind) →
      OnOk r (new ≡ grown old (act_nodes c number (performing body turns) at next))
  perform_ok r old one two new number turns body at begin behind next laid eb en front inner =
      on_ok r (λ all. perform_laid c number old one two new turns body at begin behind next eb en front inner all) laid

  pub copy_ok : {T E : Type 0} (r : Result T E) (old new : Seen) (number : ℕ) (ps qs : LaidParas) (all : List ℕ)
      (first at next : ℕ) →
      OnOk r (new ≡ grown old (paras_nodes (inner_copy c number all first qs at next) qs at next)) →
      all ≡ c.sites ++ number ∷ [] → ps ≡ qs →
      OnOk r (new ≡ grown old (body_nodes c number (copy first ps) at next))
  copy_ok r old new number ps qs all first at next laid sites same =
      on_ok r (λ whole. copy_laid c number old new ps qs all first at next sites same whole) laid

  -- ---- paragraphs

  pub paras_on : (old mid : Seen) (place end at n behind first next : ℕ) → place < end →
      n ≡ list_size (lay_list p k (body_at p place)) → behind ≡ at + n →
      first ≡ first_of_paras (lay_paras p k (place + 1) (end - (place + 1))) behind next →
      mid ≡ grown old (list_nodes c (lay_list p k (body_at p place)) at first) →
      grown mid (paras_nodes c (lay_paras p k (place + 1) (end - (place + 1))) behind next)
      ≡ grown old (paras_nodes c (lay_paras p k place (end - place)) at next)
  paras_on old mid place end at n behind first next within en eb ef front =
      paras_more c old mid (grown mid (paras_nodes c (lay_paras p k (place + 1) (end - (place + 1))) behind next))
      (lay_list p k (body_at p place)) (lay_paras p k (place + 1) (end - (place + 1)))
      at behind first next (eb ∙ ap (λ m. at + m) en) ef front refl
      ∙ ap (λ ps. grown old (paras_nodes c ps at next)) (sym (paras_step p k place end within))

  pub nothing_copied : (old : Seen) (number first at next : ℕ) (ps : LaidParas) → ps ≡ no_laid_paras →
      old ≡ grown old (body_nodes c number (copy first ps) at next)
  nothing_copied old number first at next ps none =
      grown_none old ∙ ap (λ qs. grown old (body_nodes c number (copy first qs) at next)) (sym none)
