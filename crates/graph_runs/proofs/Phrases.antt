-- A node whose arithmetic statement has ON SIZE ERROR has an edge to the phrase's list.
use Rattle.std.proofs.Common.{◌≡◌, ℕ, zero, suc, ◌+◌, ◌-◌, Bool, true, false, List, [], ◌∷◌, ◌++◌, Some, refl, sym, ap, subst, ◌∙◌, arith}
use Rattle.std.specs.Prelude.{◌||◌, Contains, slice_get}
use Rattle.std.specs.Option.{option_map, option_map_or}
use Rattle.std.proofs.lemmas.Bool.{false≢true}
use Rattle.std.proofs.lemmas.Option.{same_Some, none-some}
use Rattle.cob_program.specs.declared.act.Opening.{Opening}
use Rattle.cob_program.specs.Logic.{Test, numbers, texts, member, numeric, always, Logic, all_of, any_of, not_, test, Logics, no_logics, more_logics, logics_of}
use Rattle.cob_program.specs.Act.{Turns, once, times, until, varying, MkStmt, Stmts, no_stmts, more_stmts, Phrase, left_out, given, Act, move, arith as arithmetic, if_, evaluate, perform, go, nothing, stop, open_files, close_files, read, write, show, Whens, no_whens, more_whens, MkWhen, Body, range, inline, Para, Program}
use Rattle.cob_runs.specs.declared.action.Action.{Action}
use Rattle.cob_runs.specs.declared.action.Action.TheVariants as action
use Rattle.cob_runs.specs.Steps.{body_at, is_given}
use Rattle.cob_runs.specs.Effects.{act_at}
use Rattle.cob_graph.specs.declared.graph.Node.{Node}
use Rattle.cob_graph.specs.declared.graph.Graph.{Graph}
use Rattle.cob_graph.specs.Laid.{MkLaid, LaidList, no_laid, more_laid, LaidPhrase, no_phrase, a_phrase, LaidAct, moving, showing, skipping, going, ending, computing, deciding, choosing, performing, opening, closing, reading, LaidWhens, no_laid_whens, more_laid_whens, LaidBody, own_list, copy, LaidParas, no_laid_paras, more_laid_paras, phrase_size}
use Rattle.cob_graph.specs.Places.{first_of_list}
use Rattle.cob_graph.specs.Nodes.{Noded, Copied, test_edges, logic_nodes, all_nodes, any_nodes, open_nodes, close_nodes, read_nodes, write_nodes, size_edges, loop_before, loop_behind, copied_in, list_nodes, phrase_nodes, whens_nodes, body_nodes, paras_nodes, act_nodes}
use Rattle.cob_graph.specs.Copies.{AreLaid, IsLaidPhrase, IsLaidAct, AreLaidWhens, IsLaidBody, AreLaidParas}
use Rattle.cob_graph.specs.Graphs as graphs
use Rattle.cob_graph.specs.Graphs.{as_node, final_of, final_node, main_copy, last_para, IsGraph}
use Rattle.cob_graph.specs.Lookup.{node_at, edge}
use Rattle.cob_graph.specs.WellFormed.{AreWellFormed, IsWellFormedPhrase, IsWellFormedAct, AreWellFormedWhens, IsWellFormedBody, AreWellFormedParas, IsWellFormed}
use Rattle.cob_graph_laws.proofs.InGraphs.{nodes_are_laid, edges_are_laid, edge_there}
use Rattle.cob_edge_parts.specs.Parts.{has_phrase}

-- ---- edges of a kind

abbrev is_done : Action → Bool
is_done action.Done = true
is_done _ = false

abbrev is_size : Action → Bool
is_size action.Size = true
is_size _ = false

abbrev has_done : List (Action × ℕ) → Bool
has_done [] = false
has_done (x ∷ xs) = is_done x.0 || has_done xs

abbrev has_size : List (Action × ℕ) → Bool
has_size [] = false
has_size (x ∷ xs) = is_size x.0 || has_size xs

or_true : (b : Bool) → b || true ≡ true
or_true true = refl
or_true false = refl

there_done : (out : List (Action × ℕ)) (m : ℕ) → Contains out (action.Done, m) → has_done out ≡ true
there_done [] m (k, l, e) = absurd (omega (arith, l))
there_done (x ∷ xs) m (zero, l, e) = ap (λ (y : Action × ℕ). is_done y.0 || has_done xs) e
there_done (x ∷ xs) m (suc k, l, e) =
    ap (λ b. is_done x.0 || b) (there_done xs m (k, omega (arith, l), e)) ∙ or_true (is_done x.0)

-- the edge of a size error
abbrev SizeThere : List (Action × ℕ) → Type 0
SizeThere out = (m : ℕ) × Contains out (action.Size, m)

size_of : (x : Action × ℕ) → is_size x.0 ≡ true → x ≡ (action.Size, x.1)
size_of (action.Size, m) e = refl
size_of (action.Skip, m) e = absurd (false≢true e)
size_of (action.Assign, m) e = absurd (false≢true e)
size_of (action.Done, m) e = absurd (false≢true e)
size_of (action.True k, m) e = absurd (false≢true e)
size_of (action.False k, m) e = absurd (false≢true e)
size_of (action.SetCount, m) e = absurd (false≢true e)
size_of (action.Down, m) e = absurd (false≢true e)
size_of (action.Open k, m) e = absurd (false≢true e)
size_of (action.Close k, m) e = absurd (false≢true e)
size_of (action.Take, m) e = absurd (false≢true e)
size_of (action.AtEnd, m) e = absurd (false≢true e)
size_of (action.Bad k, m) e = absurd (false≢true e)
size_of (action.Write, m) e = absurd (false≢true e)
size_of (action.Show, m) e = absurd (false≢true e)

further : (x : Action × ℕ) (xs : List (Action × ℕ)) → SizeThere xs → SizeThere (x ∷ xs)
further x xs (m, (k, l, e)) = (m, (suc k, omega (arith, l), e))

there_size : (out : List (Action × ℕ)) → has_size out ≡ true → SizeThere out
there_size [] e = absurd (false≢true e)
there_size (x ∷ xs) e = by_front (is_size x.0) refl (λ f. there_size xs f)
  where
    by_front : (b : Bool) → is_size x.0 ≡ b → (has_size xs ≡ true → SizeThere xs) → SizeThere (x ∷ xs)
    by_front true f later = (x.1, (0, omega arith, size_of x f))
    by_front false f later = further x xs (later (sym (ap (λ b. b || has_size xs) f) ∙ e))

-- ---- nodes

module _ (p : Program) where
  -- arithmetic has that edge exactly where its statement has the phrase
  abbrev pub IsTold : Noded → Type 0
  IsTold x = has_done x.out ≡ true → (a : Act) → act_at p x.statement ≡ Some a → has_phrase a ≡ has_size x.out

  abbrev pub EachTold : List Noded → Type 0
  EachTold [] = Unit {0}
  EachTold (x ∷ xs) = IsTold x × EachTold xs

  pub record AreTold (ns : List Noded) : Type 0 where
    pub each : EachTold ns

  none_told : AreTold []
  none_told = record { each = tt }

  more_told : (x : Noded) (xs : List Noded) → IsTold x → AreTold xs → AreTold (x ∷ xs)
  more_told x xs t i = record { each = (t, i.each) }

  one_told : (x : Noded) → IsTold x → AreTold (x ∷ [])
  one_told x t = more_told x [] t none_told

  append_told : (xs ys : List Noded) → AreTold xs → AreTold ys → AreTold (xs ++ ys)
  append_told [] ys f g = g
  append_told (x ∷ xs) ys f g = more_told x (xs ++ ys) f.each.0 (append_told xs ys (record { each = f.each.1 }) g)

  -- a node that doesn't compute
  quiet : (x : Noded) → has_done x.out ≡ false → IsTold x
  quiet x e d = absurd (false≢true (sym e ∙ d))

  one_quiet : (x : Noded) → has_done x.out ≡ false → AreTold (x ∷ [])
  one_quiet x e = one_told x (quiet x e)

  more_quiet : (x : Noded) (xs : List Noded) → has_done x.out ≡ false → AreTold xs → AreTold (x ∷ xs)
  more_quiet x xs e i = more_told x xs (quiet x e) i

  -- one of a statement that is known
  by_act : (x : Noded) (a : Act) → act_at p x.statement ≡ Some a → has_phrase a ≡ has_size x.out → IsTold x
  by_act x a its e d b its_b = ap has_phrase (same_Some b a (sym its_b ∙ its)) ∙ e

  one_by_act : (x : Noded) (a : Act) → act_at p x.statement ≡ Some a → has_phrase a ≡ has_size x.out → AreTold (x ∷ [])
  one_by_act x a its e = one_told x (by_act x a its e)

  more_by_act : (x : Noded) (xs : List Noded) (a : Act) → act_at p x.statement ≡ Some a → has_phrase a ≡ has_size x.out →
      AreTold xs → AreTold (x ∷ xs)
  more_by_act x xs a its e i = more_told x xs (by_act x a its e) i

  module _ (c : Copied) (number : ℕ) where
    test_quiet : (t : Test) (k tr fa : ℕ) → has_done (test_edges c number t k tr fa) ≡ false
    test_quiet (numbers a r b) k tr fa = refl
    test_quiet (texts a r b) k tr fa = refl
    test_quiet (member place ps) k tr fa = refl
    test_quiet (numeric place) k tr fa = refl
    test_quiet always k tr fa = refl

    mutual
      logic_told : (b : Bool) (t : Logic) (k at tr fa : ℕ) → AreTold (logic_nodes c number b t k at tr fa)
      logic_told b (all_of ls) k at tr fa = all_told b ls k at tr fa
      logic_told b (any_of ls) k at tr fa = any_told b ls k at tr fa
      logic_told b (not_ x) k at tr fa = logic_told b x k at fa tr
      logic_told b (test t) k at tr fa = one_quiet _ (test_quiet t k tr fa)

      all_told : (b : Bool) (ls : Logics) (k at tr fa : ℕ) → AreTold (all_nodes c number b ls k at tr fa)
      all_told b no_logics k at tr fa = none_told
      all_told b (more_logics x xs) k at tr fa =
          append_told _ _ (logic_told b x k at _ fa) (all_told false xs _ _ tr fa)

      any_told : (b : Bool) (ls : Logics) (k at tr fa : ℕ) → AreTold (any_nodes c number b ls k at tr fa)
      any_told b no_logics k at tr fa = none_told
      any_told b (more_logics x xs) k at tr fa =
          append_told _ _ (logic_told b x k at tr _) (any_told false xs _ _ tr fa)

    open_told : (b : Bool) (os : List Opening) (k at next : ℕ) → AreTold (open_nodes c number b os k at next)
    open_told b [] k at next = none_told
    open_told b (o ∷ os) k at next = more_quiet _ _ refl (open_told false os (k + 1) (at + 1) next)

    close_told : (b : Bool) (fs : List ℕ) (k at next : ℕ) → AreTold (close_nodes c number b fs k at next)
    close_told b [] k at next = none_told
    close_told b (f ∷ fs) k at next = more_quiet _ _ refl (close_told false fs (k + 1) (at + 1) next)

    read_told : (f : ℕ) (into : Bool) (at end fine next : ℕ) → AreTold (read_nodes c number f into at end fine next)
    read_told f false at end fine next = one_quiet _ refl
    read_told f true at end fine next = more_quiet _ _ refl (one_quiet _ refl)

    write_told : (f : ℕ) (from : Bool) (at next : ℕ) → AreTold (write_nodes c number f from at next)
    write_told f false at next = one_quiet _ refl
    write_told f true at next = more_quiet _ _ refl (one_quiet _ refl)

    before_told : (turns : Turns) (x : LaidBody) (at next : ℕ) → AreTold (loop_before c number turns x at next)
    before_told once x at next = one_quiet _ refl
    before_told (times s) x at next = more_quiet _ _ refl (one_quiet _ refl)
    before_told (until false t) x at next = more_quiet _ _ refl (logic_told true t 0 _ next _)
    before_told (until true t) x at next = one_quiet _ refl
    before_told (varying false i from by t) x at next = more_quiet _ _ refl (logic_told true t 0 _ next _)
    before_told (varying true i from by t) x at next = one_quiet _ refl

    -- VARYING goes on without a phrase
    behind_told : (body : Body) (turns : Turns) (x : LaidBody) (at next : ℕ) →
        act_at p number ≡ Some (perform body turns) → AreTold (loop_behind c number turns x at next)
    behind_told body once x at next its = none_told
    behind_told body (times s) x at next its = one_quiet _ refl
    behind_told body (until false t) x at next its = none_told
    behind_told body (until true t) x at next its = logic_told true t 0 _ next _
    behind_told body (varying false i from by t) x at next its = one_by_act _ _ its refl
    behind_told body (varying true i from by t) x at next its =
        append_told _ _ (logic_told true t 0 _ next _) (one_by_act _ _ its refl)

    same_phrase : (lo hi : ℕ) (size : Phrase) (u : LaidPhrase) (s : Action × ℕ) (at next : ℕ) →
        IsLaidPhrase p lo hi size u → is_size s.0 ≡ false →
        is_given size ≡ has_size (s ∷ size_edges c number u at next)
    same_phrase lo hi left_out no_phrase s at next l e = sym (ap (λ b. b || false) e)
    same_phrase lo hi (given ss) (a_phrase xs) s at next l e = sym (or_true (is_size s.0))
    same_phrase lo hi left_out (a_phrase xs) s at next l e = absurd l
    same_phrase lo hi (given ss) no_phrase s at next l e = absurd l

  -- ---- statements, laid as they stand

  para_whole : (ps : List Para) (n : ℕ) → AreWellFormedParas p ps →
      AreWellFormed p (option_map_or (λ x. x.body) (slice_get ps n) no_stmts)
  para_whole [] n w = tt
  para_whole (x ∷ xs) zero w = w.0
  para_whole (x ∷ xs) (suc n) w = para_whole xs n w.1

  as_laid : (c : Copied) (number at next : ℕ) (x y : LaidAct) → x ≡ y → AreTold (act_nodes c number y at next) →
      AreTold (act_nodes c number x at next)
  as_laid c number at next x y e t = subst (λ (z : LaidAct). AreTold (act_nodes c number z at next)) (sym e) t

  module _ (whole : IsWellFormed p) where
    mutual
      list_told : (c : Copied) (lo hi : ℕ) (ss : Stmts) (xs : LaidList) (at next : ℕ) → AreLaid p lo hi ss xs →
          AreWellFormed p ss → AreTold (list_nodes c xs at next)
      list_told c lo hi no_stmts no_laid at next l w = none_told
      list_told c lo hi (more_stmts (MkStmt n line a) ss) (more_laid (MkLaid m x) xs) at next l w =
          append_told _ _
          (act_told c lo hi a x m at _ l.0.1 (subst (λ (i : ℕ). act_at p i ≡ Some a) l.0.0 w.0) w.1)
          (list_told c lo hi ss xs _ next l.1 w.2)
      list_told c lo hi no_stmts (more_laid x xs) at next l w = absurd l
      list_told c lo hi (more_stmts s ss) no_laid at next l w = absurd l

      phrase_told : (c : Copied) (lo hi : ℕ) (s : Phrase) (x : LaidPhrase) (at next : ℕ) → IsLaidPhrase p lo hi s x →
          IsWellFormedPhrase p s → AreTold (phrase_nodes c x at next)
      phrase_told c lo hi left_out no_phrase at next l w = none_told
      phrase_told c lo hi (given ss) (a_phrase xs) at next l w = list_told c lo hi ss xs at next l w
      phrase_told c lo hi left_out (a_phrase xs) at next l w = absurd l
      phrase_told c lo hi (given ss) no_phrase at next l w = absurd l

      whens_told : (c : Copied) (lo hi number : ℕ) (ws : Whens) (xs : LaidWhens) (k at other next : ℕ) →
          AreLaidWhens p lo hi ws xs → AreWellFormedWhens p ws → AreTold (whens_nodes c number xs k at other next)
      whens_told c lo hi number no_whens no_laid_whens k at other next l w = none_told
      whens_told c lo hi number (more_whens (MkWhen ts ss) ws) (more_laid_whens us xs vs) k at other next l w =
          append_told _ _
          (append_told _ _ (any_told c number false (logics_of us) k at _ _) (list_told c lo hi ss xs _ next l.1 w.0))
          (whens_told c lo hi number ws vs _ _ other next l.2 w.1)
      whens_told c lo hi number no_whens (more_laid_whens us xs vs) k at other next l w = absurd l
      whens_told c lo hi number (more_whens v ws) no_laid_whens k at other next l w = absurd l

      body_told : (c : Copied) (lo hi number : ℕ) (b : Body) (x : LaidBody) (at next : ℕ) → IsLaidBody p lo hi b x →
          IsWellFormedBody p b → AreTold (body_nodes c number x at next)
      body_told c lo hi number (inline ss) (own_list xs) at next l w = list_told c lo hi ss xs at next l w
      body_told c lo hi number (range first last) (copy n ps) at next l w =
          paras_told (copied_in c number n ps at next) first last first (suc last - first) ps at next l.1
      body_told c lo hi number (inline ss) (copy n ps) at next l w = absurd l
      body_told c lo hi number (range first last) (own_list xs) at next l w = absurd l

      paras_told : (c : Copied) (lo hi from many : ℕ) (ps : LaidParas) (at next : ℕ) →
          AreLaidParas p lo hi from many ps → AreTold (paras_nodes c ps at next)
      paras_told c lo hi from zero no_laid_paras at next l = none_told
      paras_told c lo hi from (suc n) (more_laid_paras xs ps) at next l =
          append_told _ _ (list_told c lo hi (body_at p from) xs at _ l.0 (para_whole p.paras from whole))
          (paras_told c lo hi (suc from) n ps _ next l.1)
      paras_told c lo hi from zero (more_laid_paras xs ps) at next l = absurd l
      paras_told c lo hi from (suc n) no_laid_paras at next l = absurd l

      act_told : (c : Copied) (lo hi : ℕ) (a : Act) (x : LaidAct) (number at next : ℕ) → IsLaidAct p lo hi a x →
          act_at p number ≡ Some a → IsWellFormedAct p a → AreTold (act_nodes c number x at next)
      act_told c lo hi (move v places) x number at next l its w = as_laid c number at next x moving l (one_quiet _ refl)
      act_told c lo hi (show xs) x number at next l its w = as_laid c number at next x showing l (one_quiet _ refl)
      act_told c lo hi nothing x number at next l its w = as_laid c number at next x skipping l (one_quiet _ refl)
      act_told c lo hi (go to) x number at next l its w = as_laid c number at next x (going to) l.0 (one_quiet _ refl)
      act_told c lo hi stop x number at next l its w = as_laid c number at next x ending l (one_quiet _ refl)
      act_told c lo hi (open_files os) x number at next l its w =
          as_laid c number at next x (opening os) l (open_told c number true os 0 at next)
      act_told c lo hi (close_files fs) x number at next l its w =
          as_laid c number at next x (closing fs) l (close_told c number true fs 0 at next)
      act_told c lo hi (write r from) x number at next l its w =
          as_laid c number at next x _ l (write_told c number _ _ at next)
      act_told c lo hi (arithmetic sum ts remainder size fine) (computing u v) number at next l its w =
          more_by_act _ _ _ its
          (same_phrase c number lo hi size u (action.Done, first_of_list v (at + 1 + phrase_size u) next) (at + 1) next
          l.0 refl)
          (append_told _ _ (phrase_told c lo hi size u _ next l.0 w.0) (list_told c lo hi fine v _ next l.1 w.1))
      act_told c lo hi (if_ t held other) (deciding u xs ys) number at next l its w =
          append_told _ _
          (append_told _ _ (logic_told c number true u 0 at _ _) (list_told c lo hi held xs _ next l.1 w.1))
          (list_told c lo hi other ys _ next l.2 w.2)
      act_told c lo hi (evaluate ws other) (choosing xs ys) number at next l its w =
          more_quiet _ _ refl
          (append_told _ _ (whens_told c lo hi number ws xs 0 (at + 1) _ next l.0 w.0)
          (list_told c lo hi other ys _ next l.1 w.1))
      act_told c lo hi (perform body turns) (performing x t) number at next l its w =
          append_told _ _
          (append_told _ _ (before_told c number t x at next) (body_told c lo hi number body x _ _ l.1 w.1))
          (behind_told c number body t x at next (subst (λ (u : Turns). act_at p number ≡ Some (perform body u)) l.0 its))
      act_told c lo hi (read f into end fine) (reading g h u v) number at next l its w =
          append_told _ _
          (append_told _ _ (read_told c number g h at _ _ next) (phrase_told c lo hi end u _ next l.2 w.0))
          (list_told c lo hi fine v _ next l.3 w.1)
      act_told c lo hi (arithmetic sum ts remainder size fine) x number at next l its w = absurd l
      act_told c lo hi (if_ t held other) x number at next l its w = absurd l
      act_told c lo hi (evaluate ws other) x number at next l its w = absurd l
      act_told c lo hi (perform body turns) x number at next l its w = absurd l
      act_told c lo hi (read f into end fine) x number at next l its w = absurd l

    program_told : (ps : LaidParas) → graphs.IsMainCopy p ps → AreTold (graphs.all_nodes p ps)
    program_told ps laid =
        append_told _ _ (paras_told (main_copy p ps) 0 (last_para p) 0 _ ps 1 (final_of ps) laid)
        (one_quiet final_node refl)

told_at : (p : Program) (ns : List Noded) (k : ℕ) (x : Noded) → EachTold p ns → slice_get ns k ≡ Some x → IsTold p x
told_at p [] k x t e = absurd (none-some x e)
told_at p (y ∷ ns) zero x t e = subst (IsTold p) (same_Some y x e) t.0
told_at p (y ∷ ns) (suc k) x t e = told_at p ns k x t.1 e

-- ---- graphs

module _ (p : Program) (g : Graph) (whole : IsWellFormed p) (is : IsGraph p g) where
  node_told : (n : ℕ) (x : Noded) → node_at (graphs.all_nodes p is.copies) n ≡ Some x → IsTold p x
  node_told zero x e = absurd (none-some x e)
  node_told (suc n) x e = told_at p _ n x (program_told p whole is.copies is.laid).each e

  same_statement : (n : ℕ) (x : Node) (y : Noded) → node_at g.nodes n ≡ Some x →
      node_at (graphs.all_nodes p is.copies) n ≡ Some y → y.statement ≡ x.statement
  same_statement n x y e f =
      let both : option_map as_node (Some y) ≡ Some x = sym (nodes_are_laid p g is n ∙ ap (option_map as_node) f) ∙ e in
      ap (λ (z : Node). z.statement) (same_Some (as_node y) x both)

  -- beside the edge without a size error stands the one with it
  pub size_beside : (n m : ℕ) (x : Node) (a : Act) → node_at g.nodes n ≡ Some x → act_at p x.statement ≡ Some a →
      has_phrase a ≡ true → Contains g.edges (edge n action.Done m) → (k : ℕ) × Contains g.edges (edge n action.Size k)
  size_beside n m x a at its has there =
      let y = (edges_are_laid p g is n action.Done m).0 there in
      let told = node_told n y.0 y.1 (there_done y.0.out m y.2) a
      (subst (λ (i : ℕ). act_at p i ≡ Some a) (sym (same_statement n x y.0 at y.1)) its) in
      let size = there_size y.0.out (sym told ∙ has) in
      (size.0, edge_there p g is n y.0 action.Size size.0 y.1 size.1)
