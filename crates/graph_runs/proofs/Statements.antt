-- No edge of a statement enters the loop but that of its test.
use Rattle.std.proofs.Common.{◌≡◌, ℕ, zero, suc, ◌+◌, ◌-◌, ◌==◌, ◌||◌, Bool, true, false, List, [], ◌∷◌, ◌++◌, length, Some, is_some, refl, sym, ap, subst, ◌∙◌, arith, length-append}
use Rattle.cob_program.specs.Logic.{Logic, logics_of}
use Rattle.cob_program.specs.Act.{Turns, once, times, until, varying, MkStmt, Stmts, no_stmts, more_stmts, Phrase, left_out, given, Act, move, arith as arithmetic, if_, evaluate, perform, go, nothing, stop, open_files, close_files, read, write, show, Whens, no_whens, more_whens, MkWhen, Body, range, inline}
use Rattle.cob_runs.specs.declared.action.Action.TheVariants as action
use Rattle.cob_runs.specs.Steps.{body_at}
use Rattle.cob_runs.specs.Effects.{act_at}
use Rattle.cob_graph.specs.Laid.{MkLaid, LaidList, no_laid, more_laid, LaidPhrase, no_phrase, a_phrase, LaidAct, moving, showing, skipping, going, ending, opening, closing, writing, computing, deciding, choosing, performing, reading, LaidWhens, no_laid_whens, more_laid_whens, LaidBody, own_list, copy, LaidParas, no_laid_paras, more_laid_paras, tests_in, tests_among, one_if, list_size, phrase_size, act_size, whens_size, body_size, paras_size}
use Rattle.cob_graph.specs.Places as place
use Rattle.cob_graph.specs.Places.{first_of_list, first_of_paras, first_of_whens, first_of_any, body_next}
use Rattle.cob_graph.specs.Nodes.{Noded, Copied, node, logic_nodes, any_nodes, end_to, size_edges, read_nodes, loop_before, loop_behind, copied_in, list_nodes, phrase_nodes, whens_nodes, body_nodes, paras_nodes, act_nodes}
use Rattle.cob_graph.specs.Copies.{AreLaid, IsLaidPhrase, IsLaidAct, AreLaidWhens, IsLaidBody, AreLaidParas, file_of}
use Rattle.cob_graph.specs.WellFormed.{AreWellFormed, IsWellFormedPhrase, IsWellFormedAct, AreWellFormedWhens, IsWellFormedTurns, IsWellFormedBody, IsWellFormed}
use Rattle.cob_graph.proofs.Lengths.{length-logic, length-any, length-list, length-phrase, length-whens, length-body, length-act, length-read}
use Rattle.cob_graph_laws.proofs.Settling.{whole_in}
use Rattle.graph_runs.proofs.Inside.{nodes_before, in_turns, in_list, in_phrase, in_whens, parted, Follows, low, high, Alike, first_alike}
use Rattle.graph_runs.proofs.Entering.{Setting, Below, Keeps, AreFine, AllFine, moved, joined, keeps, first_any, logic_fine, any_fine, Leads, bad_below, open_fine, close_fine, read_fine, write_fine, Fits, smaller}
use Rattle.graph_runs.proofs.Firsts.{ListAt, ActAt, PhraseAt, WhensAt, BodyAt, ParasAt, head_of, tail_of, para_of, paras_of, first_list, first_para, first_paras}
use Rattle.graph_runs.proofs.Loops.{Performed, body_place, length-before, body_fits, body_stands, before_fine, body_leads, behind_fine}

-- ---- parts of what is laid, behind nodes alike

module _ (s : Setting) (b : Bool) where
  pub record Split (at n second size third m : ℕ) (f g : ℕ → Bool) : Type 0 where
    pub front : Alike s.inside b at n
    pub left : Follows s.inside second size f
    pub right : Follows s.inside third m g

  pub split : (at n second size third m : ℕ) (f g : ℕ → Bool) → at + n ≡ second → second + size ≡ third →
      Follows s.inside at (n + size + m) (λ i. parted n (λ j. b) (λ j. parted size f g j) i) →
      Split at n second size third m f g
  split at n second size third m f g e1 e2 h =
      let rest : Follows s.inside second (size + m) (λ j. parted size f g j) =
      subst (λ (i : ℕ). Follows s.inside i (size + m) (λ j. parted size f g j)) e1
      (high s.inside at (n + size + m) n (λ j. b) (λ j. parted size f g j) h (size + m) (omega arith)) in
      record {
        front = low s.inside at (n + size + m) n (λ j. b) (λ j. parted size f g j) h (omega arith);
        left = low s.inside second (size + m) size f g rest (omega arith);
        right = subst (λ (i : ℕ). Follows s.inside i m g) e2
            (high s.inside second (size + m) size f g rest m (omega arith));
      }

  -- nodes with those of two parts behind them
  pub three : (at n second size third : ℕ) (xs ys zs : List Noded) → at + n ≡ second → second + size ≡ third →
      length xs ≡ n → length ys ≡ size → AllFine s at xs → AllFine s second ys → AllFine s third zs →
      AllFine s at (xs ++ ys ++ zs)
  three at n second size third xs ys zs e1 e2 e f h k l =
      joined s at (n + size) (xs ++ ys) zs (length-append xs ys ∙ omega (arith, e, f))
      (joined s at n xs ys e h (moved s second (at + n) ys (sym e1) k))
      (moved s third (at + (n + size)) zs (omega (arith, e1, e2)) l)

  turns_kept : (number : ℕ) (turns : Turns) → b ≡ true → in_turns s.loop b number turns ≡ true
  turns_kept number once e = e
  turns_kept number (times v) e = ap (λ y. y || number == s.loop) e
  turns_kept number (until after t) e = e
  turns_kept number (varying after i from by t) e = e

  inner_leads : (c : Copied) (number : ℕ) (turns : Turns) → Leads s c b → Leads s c (in_turns s.loop b number turns)
  inner_leads c number turns leads = record {
    paras = λ t e. turns_kept number turns (leads.paras t e);
    final = λ e. turns_kept number turns (leads.final e);
  }

  -- a node from which one way leads on
  one_way : (at to : ℕ) → Below s b to → Alike s.inside b at 1 → Keeps s at to
  one_way at to k f = keeps s at to b (first_alike s.inside b at 1 (omega arith) f) k

  -- a statement that is laid so
  by_laid : (c : Copied) (number at next : ℕ) (x y : LaidAct) → x ≡ y →
      (ActAt s b at number y → AllFine s at (act_nodes c number y at next)) → ActAt s b at number x →
      AllFine s at (act_nodes c number x at next)
  by_laid c number at next x y e f =
      subst (λ (z : LaidAct). ActAt s b at number z → AllFine s at (act_nodes c number z at next)) (sym e) f

  module _ (lo hi : ℕ) where
    size_fine : (c : Copied) (number n : ℕ) (e : Phrase) (x : LaidPhrase) (at next : ℕ) → IsWellFormedPhrase s.p e →
        IsLaidPhrase s.p lo hi e x → PhraseAt s b at x → Below s b next → s.inside n ≡ b →
        AreFine s n number (size_edges c number x at next)
    size_fine c number n e no_phrase at next own laid h k is = tt
    size_fine c number n (given ss) (a_phrase xs) at next own laid h k is =
        (keeps s n (first_of_list xs at next) b is (first_list s b lo hi ss xs at next own laid h k), tt)
    size_fine c number n left_out (a_phrase xs) at next own laid h k is = absurd laid

    end_below : (c : Copied) (leads : Leads s c b) (number : ℕ) (e : Phrase) (x : LaidPhrase) (file at next : ℕ) →
        IsWellFormedPhrase s.p e → IsLaidPhrase s.p lo hi e x → PhraseAt s b at x → Below s b next →
        Below s b (end_to c number x file at next)
    end_below c leads number e no_phrase file at next own laid h k = bad_below s c b leads number file next k
    end_below c leads number (given ss) (a_phrase xs) file at next own laid h k =
        first_list s b lo hi ss xs at next own laid h k
    end_below c leads number left_out (a_phrase xs) file at next own laid h k = absurd laid

    when_split : (ts : List Logic) (xs : LaidList) (ws : LaidWhens) (at : ℕ) →
        WhensAt s b at (more_laid_whens ts xs ws) →
        Split at (tests_among (logics_of ts)) (at + tests_among (logics_of ts)) (list_size xs)
        (at + tests_among (logics_of ts) + list_size xs) (whens_size ws) (λ k. in_list s.loop b xs k)
        (λ k. in_whens s.loop b ws k)
    when_split ts xs ws at h =
        split at (tests_among (logics_of ts)) (at + tests_among (logics_of ts)) (list_size xs)
        (at + tests_among (logics_of ts) + list_size xs) (whens_size ws) (λ k. in_list s.loop b xs k)
        (λ k. in_whens s.loop b ws k) refl refl h

    first_whens : (ws : Whens) (us : LaidWhens) (at other next : ℕ) → AreWellFormedWhens s.p ws →
        AreLaidWhens s.p lo hi ws us → WhensAt s b at us → Below s b other → Below s b next →
        Below s b (first_of_whens us at other next)
    first_whens ws no_laid_whens at other next own laid h o k = o
    first_whens no_whens (more_laid_whens ts xs us) at other next own laid h o k = absurd laid
    first_whens (more_whens (MkWhen vs ss) ws) (more_laid_whens ts xs us) at other next own laid h o k =
        let x = when_split ts xs us at h in
        let behind = at + tests_among (logics_of ts) in
        first_any s b (logics_of ts) at (first_of_list xs behind next)
        (first_of_whens us (behind + list_size xs) other next) x.front
        (first_list s b lo hi ss xs behind next own.0 laid.1 x.left k)
        (first_whens ws us (behind + list_size xs) other next own.1 laid.2 x.right o k)

module _ (s : Setting) (whole : IsWellFormed s.p) where
  mutual
    pub list_fine : (c : Copied) (b : Bool) (lo hi : ℕ) (ss : Stmts) (xs : LaidList) (at next : ℕ) → Leads s c b →
        AreWellFormed s.p ss → AreLaid s.p lo hi ss xs → Fits s b (list_size xs) → ListAt s b at xs →
        Below s b next → AllFine s at (list_nodes c xs at next)
    list_fine c b lo hi ss no_laid at next leads own laid fits h k = tt
    list_fine c b lo hi no_stmts (more_laid x xs) at next leads own laid fits h k = absurd laid
    list_fine c b lo hi (more_stmts (MkStmt number line a) ss) (more_laid (MkLaid n x) xs) at next leads own laid fits
        h k =
        let on = first_of_list xs (at + act_size x) next in
        let tail = tail_of s b at n x xs h in
        joined s at (act_size x) (act_nodes c n x at on) (list_nodes c xs (at + act_size x) next)
        (length-act c n x at on)
        (act_fine c b lo hi n a x at on leads (ap (act_at s.p) (sym laid.0.0) ∙ own.0) own.1 laid.0.1
        (smaller s b (act_size x) (act_size x + list_size xs) (omega arith) fits)
        (head_of s b at n x xs h)
        (first_list s b lo hi ss xs (at + act_size x) next own.2 laid.1 tail k))
        (list_fine c b lo hi ss xs (at + act_size x) next leads own.2 laid.1
        (smaller s b (list_size xs) (act_size x + list_size xs) (omega arith) fits) tail k)

    phrase_fine : (c : Copied) (b : Bool) (lo hi : ℕ) (e : Phrase) (x : LaidPhrase) (at next : ℕ) → Leads s c b →
        IsWellFormedPhrase s.p e → IsLaidPhrase s.p lo hi e x → Fits s b (phrase_size x) → PhraseAt s b at x →
        Below s b next → AllFine s at (phrase_nodes c x at next)
    phrase_fine c b lo hi e no_phrase at next leads own laid fits h k = tt
    phrase_fine c b lo hi (given ss) (a_phrase xs) at next leads own laid fits h k =
        list_fine c b lo hi ss xs at next leads own laid fits h k
    phrase_fine c b lo hi left_out (a_phrase xs) at next leads own laid fits h k = absurd laid

    act_fine : (c : Copied) (b : Bool) (lo hi number : ℕ) (a : Act) (x : LaidAct) (at next : ℕ) → Leads s c b →
        act_at s.p number ≡ Some a → IsWellFormedAct s.p a → IsLaidAct s.p lo hi a x → Fits s b (act_size x) →
        ActAt s b at number x → Below s b next → AllFine s at (act_nodes c number x at next)
    act_fine c b lo hi number (move v places) x at next leads its own laid fits h k =
        by_laid s b c number at next x moving laid (λ f. ((one_way s b at next k f, tt), tt)) h
    act_fine c b lo hi number (show vs) x at next leads its own laid fits h k =
        by_laid s b c number at next x showing laid (λ f. ((one_way s b at next k f, tt), tt)) h
    act_fine c b lo hi number nothing x at next leads its own laid fits h k =
        by_laid s b c number at next x skipping laid (λ f. ((one_way s b at next k f, tt), tt)) h
    act_fine c b lo hi number (go t) x at next leads its own laid fits h k =
        by_laid s b c number at next x (going t) laid.0
        (λ f. ((one_way s b at (c.para t) (leads.paras t) f, tt), tt)) h
    act_fine c b lo hi number stop x at next leads its own laid fits h k =
        by_laid s b c number at next x ending laid
        (λ f. ((one_way s b at c.final leads.final f, tt), tt)) h
    act_fine c b lo hi number (open_files os) x at next leads its own laid fits h k =
        by_laid s b c number at next x (opening os) laid (λ f. open_fine s c b leads number true os 0 at next f k) h
    act_fine c b lo hi number (close_files fs) x at next leads its own laid fits h k =
        by_laid s b c number at next x (closing fs) laid (λ f. close_fine s c b leads number true fs 0 at next f k) h
    act_fine c b lo hi number (write r from) x at next leads its own laid fits h k =
        by_laid s b c number at next x (writing (file_of s.p r) (is_some from)) laid
        (λ f. write_fine s c b leads number (file_of s.p r) (is_some from) at next f k) h
    act_fine c b lo hi number (arithmetic sum targets remainder size fine) (computing x xs) at next leads its own laid
        fits h k =
        let third = at + 1 + phrase_size x in
        let parts = split s b at 1 (at + 1) (phrase_size x) third (list_size xs) (λ i. in_phrase s.loop b x i)
        (λ i. in_list s.loop b xs i) refl refl h in
        let is = first_alike s.inside b at 1 (omega arith) parts.front in
        let fine_at = first_of_list xs third next in
        let on = first_list s b lo hi fine xs third next own.1 laid.1 parts.right k in
        three s b at 1 (at + 1) (phrase_size x) third
        (node c number true ((action.Done, fine_at) ∷ size_edges c number x (at + 1) next) ∷ [])
        (phrase_nodes c x (at + 1) next) (list_nodes c xs third next) refl refl refl (length-phrase c x (at + 1) next) (
          (
            keeps s at fine_at b is on,
            size_fine s b lo hi c number at size x (at + 1) next own.0 laid.0 parts.left k is,
          ),
          tt,
        )
        (phrase_fine c b lo hi size x (at + 1) next leads own.0 laid.0
        (smaller s b (phrase_size x) (1 + phrase_size x + list_size xs) (omega arith) fits) parts.left k)
        (list_fine c b lo hi fine xs third next leads own.1 laid.1
        (smaller s b (list_size xs) (1 + phrase_size x + list_size xs) (omega arith) fits) parts.right k)
    act_fine c b lo hi number (if_ t held other) (deciding u xs ys) at next leads its own laid fits h k =
        let second = at + tests_in u in
        let third = second + list_size xs in
        let parts = split s b at (tests_in u) second (list_size xs) third (list_size ys) (λ i. in_list s.loop b xs i)
        (λ i. in_list s.loop b ys i) refl refl h in
        let tr = first_of_list xs second next in
        let fa = first_of_list ys third next in
        three s b at (tests_in u) second (list_size xs) third (logic_nodes c number true u 0 at tr fa)
        (list_nodes c xs second next) (list_nodes c ys third next) refl refl (length-logic c number true u 0 at tr fa)
        (length-list c xs second next)
        (logic_fine s b c number true u 0 at tr fa parts.front
        (first_list s b lo hi held xs second next own.1 laid.1 parts.left k)
        (first_list s b lo hi other ys third next own.2 laid.2 parts.right k))
        (list_fine c b lo hi held xs second next leads own.1 laid.1
        (smaller s b (list_size xs) (tests_in u + list_size xs + list_size ys) (omega arith) fits) parts.left k)
        (list_fine c b lo hi other ys third next leads own.2 laid.2
        (smaller s b (list_size ys) (tests_in u + list_size xs + list_size ys) (omega arith) fits) parts.right k)
    act_fine c b lo hi number (evaluate ws other) (choosing us xs) at next leads its own laid fits h k =
        let third = at + 1 + whens_size us in
        let parts = split s b at 1 (at + 1) (whens_size us) third (list_size xs) (λ i. in_whens s.loop b us i)
        (λ i. in_list s.loop b xs i) refl refl h in
        let is = first_alike s.inside b at 1 (omega arith) parts.front in
        let last = first_of_list xs third next in
        let last_on = first_list s b lo hi other xs third next own.1 laid.1 parts.right k in
        let on = first_of_whens us (at + 1) last next in
        three s b at 1 (at + 1) (whens_size us) third (node c number true ((action.Skip, on) ∷ []) ∷ [])
        (whens_nodes c number us 0 (at + 1) last next) (list_nodes c xs third next) refl refl refl
        (length-whens c number us 0 (at + 1) last next) (
          (
            keeps s at on b is
                (first_whens s b lo hi ws us (at + 1) last next own.0 laid.0 parts.left last_on k),
            tt,
          ),
          tt,
        )
        (whens_fine c b lo hi number ws us 0 (at + 1) last next leads own.0 laid.0
        (smaller s b (whens_size us) (1 + whens_size us + list_size xs) (omega arith) fits) parts.left last_on k)
        (list_fine c b lo hi other xs third next leads own.1 laid.1
        (smaller s b (list_size xs) (1 + whens_size us + list_size xs) (omega arith) fits) parts.right k)
    act_fine c b lo hi number (perform body turns) (performing x t) at next leads its own laid fits h k =
        let y : Performed s b number t x at = record {
          lo = lo;
          hi = hi;
          body = body;
          whole = whole;
          its = its ∙ ap (λ (u : Turns). Some (perform body u)) laid.0;
          turns_ = subst IsWellFormedTurns laid.0 own.0;
          own = own.1;
          laid = laid.1;
          fits = fits;
          follows = h;
        } in
        let second = place.body_at t at in
        let to = body_next t at x next in
        let inner = in_turns s.loop b number t in
        three s b at (nodes_before t) second (body_size x) (second + body_size x) (loop_before c number t x at next)
        (body_nodes c number x second to) (loop_behind c number t x at next) (body_place t at) refl
        (length-before c number t x at next) (length-body c number x second to)
        (before_fine s b number x at c next k t y)
        (body_fine c inner lo hi number body x second to (inner_leads s b c number t leads) own.1 laid.1
        (body_fits s b number x at t y) (body_stands s b number x at t y) (body_leads s b number x at c next k t y))
        (behind_fine s b number x at c next k t y)
    act_fine c b lo hi number (read f into end fine) (reading g i x xs) at next leads its own laid fits h k =
        let second = at + 1 + one_if i in
        let third = second + phrase_size x in
        let parts = split s b at (1 + one_if i) second (phrase_size x) third (list_size xs)
        (λ j. in_phrase s.loop b x j) (λ j. in_list s.loop b xs j) (omega arith) refl h in
        let at_end = end_to c number x g second next in
        let fine_at = first_of_list xs third next in
        three s b at (1 + one_if i) second (phrase_size x) third
        (read_nodes c number g i at at_end fine_at next) (phrase_nodes c x second next) (list_nodes c xs third next)
        (omega arith) refl (length-read c number g i at at_end fine_at next) (length-phrase c x second next)
        (read_fine s c b leads number g i at at_end fine_at next parts.front
        (end_below s b lo hi c leads number end x g second next own.0 laid.2 parts.left k)
        (first_list s b lo hi fine xs third next own.1 laid.3 parts.right k) k)
        (phrase_fine c b lo hi end x second next leads own.0 laid.2
        (smaller s b (phrase_size x) (1 + one_if i + phrase_size x + list_size xs) (omega arith) fits) parts.left k)
        (list_fine c b lo hi fine xs third next leads own.1 laid.3
        (smaller s b (list_size xs) (1 + one_if i + phrase_size x + list_size xs) (omega arith) fits) parts.right k)
    act_fine c b lo hi number (arithmetic sum targets remainder size fine) x at next leads its own laid fits h k =
        absurd laid
    act_fine c b lo hi number (if_ t held other) x at next leads its own laid fits h k = absurd laid
    act_fine c b lo hi number (evaluate ws other) x at next leads its own laid fits h k = absurd laid
    act_fine c b lo hi number (perform body turns) x at next leads its own laid fits h k = absurd laid
    act_fine c b lo hi number (read f into end fine) x at next leads its own laid fits h k = absurd laid

    whens_fine : (c : Copied) (b : Bool) (lo hi number : ℕ) (ws : Whens) (us : LaidWhens) (i at other next : ℕ) →
        Leads s c b → AreWellFormedWhens s.p ws → AreLaidWhens s.p lo hi ws us → Fits s b (whens_size us) →
        WhensAt s b at us → Below s b other → Below s b next →
        AllFine s at (whens_nodes c number us i at other next)
    whens_fine c b lo hi number ws no_laid_whens i at other next leads own laid fits h o k = tt
    whens_fine c b lo hi number no_whens (more_laid_whens ts xs us) i at other next leads own laid fits h o k =
        absurd laid
    whens_fine c b lo hi number (more_whens (MkWhen vs ss) ws) (more_laid_whens ts xs us) i at other next leads own
        laid fits h o k =
        let n = tests_among (logics_of ts) in
        let second = at + n in
        let third = second + list_size xs in
        let parts = when_split s b lo hi ts xs us at h in
        let tr = first_of_list xs second next in
        let fa = first_of_whens us third other next in
        three s b at n second (list_size xs) third (any_nodes c number false (logics_of ts) i at tr fa)
        (list_nodes c xs second next) (whens_nodes c number us (i + n) third other next) refl refl
        (length-any c number false (logics_of ts) i at tr fa) (length-list c xs second next)
        (any_fine s b c number false (logics_of ts) i at tr fa parts.front
        (first_list s b lo hi ss xs second next own.0 laid.1 parts.left k)
        (first_whens s b lo hi ws us third other next own.1 laid.2 parts.right o k))
        (list_fine c b lo hi ss xs second next leads own.0 laid.1
        (smaller s b (list_size xs) (n + list_size xs + whens_size us) (omega arith) fits) parts.left k)
        (whens_fine c b lo hi number ws us (i + n) third other next leads own.1 laid.2
        (smaller s b (whens_size us) (n + list_size xs + whens_size us) (omega arith) fits) parts.right o k)

    body_fine : (c : Copied) (b : Bool) (lo hi number : ℕ) (body : Body) (x : LaidBody) (at next : ℕ) → Leads s c b →
        IsWellFormedBody s.p body → IsLaidBody s.p lo hi body x → Fits s b (body_size x) → BodyAt s b at x →
        Below s b next → AllFine s at (body_nodes c number x at next)
    body_fine c b lo hi number (inline ss) (own_list xs) at next leads own laid fits h k =
        list_fine c b lo hi ss xs at next leads own laid fits h k
    body_fine c b lo hi number (range first last) (copy n ps) at next leads own laid fits h k =
        paras_fine (copied_in c number n ps at next) b first last first (suc last - first) ps at next
        (record {
          paras = λ t. first_para s b first last whole (t - n) first (suc last - first) ps at next laid.1 h k;
          final = leads.final;
        }) laid.1 fits h k
    body_fine c b lo hi number (inline ss) (copy n ps) at next leads own laid fits h k = absurd laid
    body_fine c b lo hi number (range first last) (own_list xs) at next leads own laid fits h k = absurd laid

    pub paras_fine : (c : Copied) (b : Bool) (lo hi from count : ℕ) (ps : LaidParas) (at next : ℕ) → Leads s c b →
        AreLaidParas s.p lo hi from count ps → Fits s b (paras_size ps) → ParasAt s b at ps → Below s b next →
        AllFine s at (paras_nodes c ps at next)
    paras_fine c b lo hi from count no_laid_paras at next leads laid fits h k = tt
    paras_fine c b lo hi from zero (more_laid_paras xs ps) at next leads laid fits h k = absurd laid
    paras_fine c b lo hi from (suc count) (more_laid_paras xs ps) at next leads laid fits h k =
        let second = at + list_size xs in
        let on = first_of_paras ps second next in
        let rest = paras_of s b at xs ps h in
        joined s at (list_size xs) (list_nodes c xs at on) (paras_nodes c ps second next) (length-list c xs at on)
        (list_fine c b lo hi (body_at s.p from) xs at on leads (whole_in s.p s.p.paras from whole) laid.0
        (smaller s b (list_size xs) (list_size xs + paras_size ps) (omega arith) fits) (para_of s b at xs ps h)
        (first_paras s b lo hi whole (suc from) count ps second next laid.1 rest k))
        (paras_fine c b lo hi (suc from) count ps second next leads laid.1
        (smaller s b (paras_size ps) (list_size xs + paras_size ps) (omega arith) fits) rest k)
