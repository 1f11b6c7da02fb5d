-- Statements that are laid part by part.
use Rattle.std.proofs.Common.{ℕ, ◌+◌, ◌-◌, ◌≡◌, Bool, true, false, List, [], ◌∷◌, ◌++◌, sym, ap, ◌∙◌}
use Rattle.cob_program.specs.Logic.{Logic, Logics, more_logics, logics_of}
use Rattle.cob_program.specs.Act.{Turns}
use Rattle.cob_runs.specs.declared.action.Action.TheVariants as action
use Rattle.cob_graph.specs.Laid.{Laid, LaidList, more_laid, LaidPhrase, computing, deciding, choosing, performing, reading, LaidWhens, more_laid_whens, LaidBody, copy, LaidParas, more_laid_paras, tests_in, tests_among, one_if, size, list_size, phrase_size, whens_size}
use Rattle.cob_graph.specs.Places.{first_of_list, first_of_paras, first_of_para, first_of_all, first_of_any, first_of_whens, body_at, body_next}
use Rattle.cob_graph.specs.Nodes.{Noded, Copied, node, logic_nodes, all_nodes, any_nodes, end_to, read_nodes, size_edges, loop_before, loop_behind, nodes, list_nodes, phrase_nodes, whens_nodes, body_nodes, paras_nodes, act_nodes}
use Rattle.cob_graph_build.specs.Growing.{Seen, grown}
use Rattle.std.specs.Prelude.{Result, OnOk}
use Rattle.cob_graph_build.specs.declared.laying.Fork.{Fork}
use Rattle.cob_graph_build.proofs.Growth.{grown_more, on_ok}

-- three lots behind one another
grown_thrice : (old one two new : Seen) (xs ys zs : List Noded) → one ≡ grown old xs → two ≡ grown one ys →
    new ≡ grown two zs → new ≡ grown old (xs ++ ys ++ zs)
grown_thrice old one two new xs ys zs a b c = grown_more old two new (xs ++ ys) zs (grown_more old one two xs ys a b) c

module _ (c : Copied) where
  pub list_more : (old mid new : Seen) (x : Laid) (xs : LaidList) (at behind first next : ℕ) → behind ≡ at + size x →
      first ≡ first_of_list xs behind next →
      mid ≡ grown old (nodes c x at first) → new ≡ grown mid (list_nodes c xs behind next) →
      new ≡ grown old (list_nodes c (more_laid x xs) at next)
  list_more old mid new x xs at behind first next e f one two =
      grown_more old mid new (nodes c x at first) (list_nodes c xs behind next) one two
      ∙ ap (λ n. grown old (nodes c x at n ++ list_nodes c xs behind next)) f
      ∙ ap (λ n. grown old (nodes c x at (first_of_list xs n next) ++ list_nodes c xs n next)) e

  pub paras_more : (old mid new : Seen) (xs : LaidList) (ps : LaidParas) (at behind first next : ℕ) →
      behind ≡ at + list_size xs → first ≡ first_of_paras ps behind next →
      mid ≡ grown old (list_nodes c xs at first) → new ≡ grown mid (paras_nodes c ps behind next) →
      new ≡ grown old (paras_nodes c (more_laid_paras xs ps) at next)
  paras_more old mid new xs ps at behind first next e f one two =
      grown_more old mid new (list_nodes c xs at first) (paras_nodes c ps behind next) one two
      ∙ ap (λ n. grown old (list_nodes c xs at n ++ paras_nodes c ps behind next)) f
      ∙ ap (λ n. grown old (list_nodes c xs at (first_of_paras ps n next) ++ paras_nodes c ps n next)) e

  module _ (number : ℕ) where
    pub every_more : (old mid new : Seen) (starts : Bool) (x : Logic) (xs : Logics)
        (k at more behind held first failed : ℕ) → more ≡ k + tests_in x → behind ≡ at + tests_in x →
        first ≡ first_of_all xs behind held failed →
        mid ≡ grown old (logic_nodes c number starts x k at first failed) →
        new ≡ grown mid (all_nodes c number false xs more behind held failed) →
        new ≡ grown old (all_nodes c number starts (more_logics x xs) k at held failed)
    every_more old mid new starts x xs k at more behind held first failed e f g one two =
        let all = grown_more old mid new (logic_nodes c number starts x k at first failed)
        (all_nodes c number false xs more behind held failed) one two in
        all ∙ ap (λ n. grown old (logic_nodes c number starts x k at first failed
        ++ all_nodes c number false xs n behind held failed)) e
        ∙ ap (λ n. grown old (logic_nodes c number starts x k at n failed
        ++ all_nodes c number false xs (k + tests_in x) behind held failed)) g
        ∙ ap (λ n. grown old (logic_nodes c number starts x k at (first_of_all xs n held failed) failed
        ++ all_nodes c number false xs (k + tests_in x) n held failed)) f

    pub some_more : (old mid new : Seen) (starts : Bool) (x : Logic) (xs : Logics)
        (k at more behind held first failed : ℕ) → more ≡ k + tests_in x → behind ≡ at + tests_in x →
        first ≡ first_of_any xs behind held failed →
        mid ≡ grown old (logic_nodes c number starts x k at held first) →
        new ≡ grown mid (any_nodes c number false xs more behind held failed) →
        new ≡ grown old (any_nodes c number starts (more_logics x xs) k at held failed)
    some_more old mid new starts x xs k at more behind held first failed e f g one two =
        let all = grown_more old mid new (logic_nodes c number starts x k at held first)
        (any_nodes c number false xs more behind held failed) one two in
        all ∙ ap (λ n. grown old (logic_nodes c number starts x k at held first
        ++ any_nodes c number false xs n behind held failed)) e
        ∙ ap (λ n. grown old (logic_nodes c number starts x k at held n
        ++ any_nodes c number false xs (k + tests_in x) behind held failed)) g
        ∙ ap (λ n. grown old (logic_nodes c number starts x k at held (first_of_any xs n held failed)
        ++ any_nodes c number false xs (k + tests_in x) n held failed)) f

    pub every_ok : {T E : Type 0} (r : Result T E) (old mid new : Seen) (starts : Bool) (list : Logics) (x : Logic)
        (rest : Logics) (f b h : Fork) (tests first : ℕ) →
        OnOk r (new ≡ grown mid (all_nodes c number false rest b.k b.at b.yes b.no)) → list ≡ more_logics x rest →
        tests ≡ tests_in x →
        b ≡ record { k = f.k + tests; at = f.at + tests; yes = f.yes; no = f.no } →
        first ≡ first_of_all rest b.at f.yes f.no →
        h ≡ record { k = f.k; at = f.at; yes = first; no = f.no } →
        mid ≡ grown old (logic_nodes c number starts x h.k h.at h.yes h.no) →
        OnOk r (new ≡ grown old (all_nodes c number starts list f.k f.at f.yes f.no))
    every_ok r old mid new starts list x rest f b h tests first laid cut et eb ef eh front =
        on_ok r
        (λ all. every_more old mid new starts x rest f.k f.at b.k b.at f.yes first f.no
        (ap (λ (g : Fork). g.k) eb ∙ ap (λ n. f.k + n) et) (ap (λ (g : Fork). g.at) eb ∙ ap (λ n. f.at + n) et) ef
        (front ∙ ap (λ (g : Fork). grown old (logic_nodes c number starts x g.k g.at g.yes g.no)) eh)
        (all ∙ ap (λ (g : Fork). grown mid (all_nodes c number false rest b.k b.at g.yes g.no)) eb)
        ∙ ap (λ ls. grown old (all_nodes c number starts ls f.k f.at f.yes f.no)) (sym cut))
        laid

    pub some_ok : {T E : Type 0} (r : Result T E) (old mid new : Seen) (starts : Bool) (list : Logics) (x : Logic)
        (rest : Logics) (f b h : Fork) (tests first : ℕ) →
        OnOk r (new ≡ grown mid (any_nodes c number false rest b.k b.at b.yes b.no)) → list ≡ more_logics x rest →
        tests ≡ tests_in x →
        b ≡ record { k = f.k + tests; at = f.at + tests; yes = f.yes; no = f.no } →
        first ≡ first_of_any rest b.at f.yes f.no →
        h ≡ record { k = f.k; at = f.at; yes = f.yes; no = first } →
        mid ≡ grown old (logic_nodes c number starts x h.k h.at h.yes h.no) →
        OnOk r (new ≡ grown old (any_nodes c number starts list f.k f.at f.yes f.no))
    some_ok r old mid new starts list x rest f b h tests first laid cut et eb ef eh front =
        on_ok r
        (λ all. some_more old mid new starts x rest f.k f.at b.k b.at f.yes first f.no
        (ap (λ (g : Fork). g.k) eb ∙ ap (λ n. f.k + n) et) (ap (λ (g : Fork). g.at) eb ∙ ap (λ n. f.at + n) et) ef
        (front ∙ ap (λ (g : Fork). grown old (logic_nodes c number starts x g.k g.at g.yes g.no)) eh)
        (all ∙ ap (λ (g : Fork). grown mid (any_nodes c number false rest b.k b.at g.yes g.no)) eb)
        ∙ ap (λ ls. grown old (any_nodes c number starts ls f.k f.at f.yes f.no)) (sym cut))
        laid

    pub arith_laid : (old one two new : Seen) (x : LaidPhrase) (b : LaidList) (at size_at fine_at to next : ℕ) →
        size_at ≡ at + 1 → fine_at ≡ size_at + phrase_size x → to ≡ first_of_list b fine_at next →
        one ≡ grown old (node c number true ((action.Done, to) ∷ size_edges c number x size_at next) ∷ []) →
        two ≡ grown one (phrase_nodes c x size_at next) → new ≡ grown two (list_nodes c b fine_at next) →
        new ≡ grown old (act_nodes c number (computing x b) at next)
    arith_laid old one two new x b at size_at fine_at to next e f g h i j =
        grown_thrice old one two new (node c number true ((action.Done, to) ∷ size_edges c number x size_at next) ∷ [])
        (phrase_nodes c x size_at next) (list_nodes c b fine_at next) h i j
        ∙ ap (λ n. grown old ((node c number true ((action.Done, n) ∷ size_edges c number x size_at next) ∷ [])
        ++ phrase_nodes c x size_at next ++ list_nodes c b fine_at next)) g
        ∙ ap (λ n. grown old ((node c number true
        ((action.Done, first_of_list b n next) ∷ size_edges c number x size_at next) ∷ [])
        ++ phrase_nodes c x size_at next ++ list_nodes c b n next)) f
        ∙ ap (λ n. grown old ((node c number true
        ((action.Done, first_of_list b (n + phrase_size x) next) ∷ size_edges c number x n next) ∷ [])
        ++ phrase_nodes c x n next ++ list_nodes c b (n + phrase_size x) next)) e

    pub if_laid : (old one two new : Seen) (t : Logic) (a b : LaidList) (at held_at other_at held failed next : ℕ) →
        held_at ≡ at + tests_in t → other_at ≡ held_at + list_size a → held ≡ first_of_list a held_at next →
        failed ≡ first_of_list b other_at next →
        one ≡ grown old (logic_nodes c number true t 0 at held failed) → two ≡ grown one (list_nodes c a held_at next) →
        new ≡ grown two (list_nodes c b other_at next) →
        new ≡ grown old (act_nodes c number (deciding t a b) at next)
    if_laid old one two new t a b at held_at other_at held failed next e f g h i j k =
        grown_thrice old one two new (logic_nodes c number true t 0 at held failed) (list_nodes c a held_at next)
        (list_nodes c b other_at next) i j k
        ∙ ap (λ n. grown old (logic_nodes c number true t 0 at n failed ++ list_nodes c a held_at next
        ++ list_nodes c b other_at next)) g
        ∙ ap (λ n. grown old (logic_nodes c number true t 0 at (first_of_list a held_at next) n
        ++ list_nodes c a held_at next ++ list_nodes c b other_at next)) h
        ∙ ap (λ n. grown old (logic_nodes c number true t 0 at (first_of_list a held_at next) (first_of_list b n next)
        ++ list_nodes c a held_at next ++ list_nodes c b n next)) f
        ∙ ap (λ n. grown old (logic_nodes c number true t 0 at (first_of_list a n next)
        (first_of_list b (n + list_size a) next) ++ list_nodes c a n next ++ list_nodes c b (n + list_size a) next)) e

    pub evaluate_laid : (old one two new : Seen) (ws : LaidWhens) (b : LaidList)
        (at whens_at other_at to_other to next : ℕ) → whens_at ≡ at + 1 → other_at ≡ whens_at + whens_size ws →
        to_other ≡ first_of_list b other_at next → to ≡ first_of_whens ws whens_at to_other next →
        one ≡ grown old (node c number true ((action.Skip, to) ∷ []) ∷ []) →
        two ≡ grown one (whens_nodes c number ws 0 whens_at to_other next) →
        new ≡ grown two (list_nodes c b other_at next) →
        new ≡ grown old (act_nodes c number (choosing ws b) at next)
    evaluate_laid old one two new ws b at whens_at other_at to_other to next e f g h i j k =
        grown_thrice old one two new (node c number true ((action.Skip, to) ∷ []) ∷ [])
        (whens_nodes c number ws 0 whens_at to_other next) (list_nodes c b other_at next) i j k
        ∙ ap (λ n. grown old ((node c number true ((action.Skip, n) ∷ []) ∷ [])
        ++ whens_nodes c number ws 0 whens_at to_other next ++ list_nodes c b other_at next)) h
        ∙ ap (λ n. grown old ((node c number true ((action.Skip, first_of_whens ws whens_at n next) ∷ []) ∷ [])
        ++ whens_nodes c number ws 0 whens_at n next ++ list_nodes c b other_at next)) g
        ∙ ap (λ n. grown old ((node c number true
        ((action.Skip, first_of_whens ws whens_at (first_of_list b n next) next) ∷ []) ∷ [])
        ++ whens_nodes c number ws 0 whens_at (first_of_list b n next) next ++ list_nodes c b n next)) f
        ∙ ap (λ n. grown old ((node c number true
        ((action.Skip, first_of_whens ws n (first_of_list b (n + whens_size ws) next) next) ∷ []) ∷ [])
        ++ whens_nodes c number ws 0 n (first_of_list b (n + whens_size ws) next) next
        ++ list_nodes c b (n + whens_size ws) next)) e

    pub whens_more : (old one two new : Seen) (ts : List Logic) (xs : LaidList) (ws : LaidWhens)
        (k at more list_at rest_at other held failed next : ℕ) →
        more ≡ k + tests_among (logics_of ts) → list_at ≡ at + tests_among (logics_of ts) →
        rest_at ≡ list_at + list_size xs → held ≡ first_of_list xs list_at next →
        failed ≡ first_of_whens ws rest_at other next →
        one ≡ grown old (any_nodes c number false (logics_of ts) k at held failed) →
        two ≡ grown one (list_nodes c xs list_at next) →
        new ≡ grown two (whens_nodes c number ws more rest_at other next) →
        new ≡ grown old (whens_nodes c number (more_laid_whens ts xs ws) k at other next)
    whens_more old one two new ts xs ws k at more list_at rest_at other held failed next d e f g h i j l =
        grown_thrice old one two new (any_nodes c number false (logics_of ts) k at held failed)
        (list_nodes c xs list_at next) (whens_nodes c number ws more rest_at other next) i j l
        ∙ ap (λ n. grown old (any_nodes c number false (logics_of ts) k at held failed ++ list_nodes c xs list_at next
        ++ whens_nodes c number ws n rest_at other next)) d
        ∙ ap (λ n. grown old (any_nodes c number false (logics_of ts) k at n failed ++ list_nodes c xs list_at next
        ++ whens_nodes c number ws (k + tests_among (logics_of ts)) rest_at other next)) g
        ∙ ap (λ n. grown old (any_nodes c number false (logics_of ts) k at (first_of_list xs list_at next) n
        ++ list_nodes c xs list_at next
        ++ whens_nodes c number ws (k + tests_among (logics_of ts)) rest_at other next)) h
        ∙ ap (λ n. grown old (any_nodes c number false (logics_of ts) k at (first_of_list xs list_at next)
        (first_of_whens ws n other next) ++ list_nodes c xs list_at next
        ++ whens_nodes c number ws (k + tests_among (logics_of ts)) n other next)) f
        ∙ ap (λ n. grown old (any_nodes c number false (logics_of ts) k at (first_of_list xs n next)
        (first_of_whens ws (n + list_size xs) other next) ++ list_nodes c xs n next
        ++ whens_nodes c number ws (k + tests_among (logics_of ts)) (n + list_size xs) other next)) e

    pub read_laid : (old one two new : Seen) (file : ℕ) (into : Bool) (x : LaidPhrase) (b : LaidList)
        (at end_at fine_at to_end to_fine next : ℕ) →
        end_at ≡ at + 1 + one_if into → fine_at ≡ end_at + phrase_size x → to_end ≡ end_to c number x file end_at next →
        to_fine ≡ first_of_list b fine_at next →
        one ≡ grown old (read_nodes c number file into at to_end to_fine next) →
        two ≡ grown one (phrase_nodes c x end_at next) → new ≡ grown two (list_nodes c b fine_at next) →
        new ≡ grown old (act_nodes c number (reading file into x b) at next)
    read_laid old one two new file into x b at end_at fine_at to_end to_fine next e f g h i j k =
        grown_thrice old one two new (read_nodes c number file into at to_end to_fine next)
        (phrase_nodes c x end_at next) (list_nodes c b fine_at next) i j k
        ∙ ap (λ n. grown old (read_nodes c number file into at n to_fine next ++ phrase_nodes c x end_at next
        ++ list_nodes c b fine_at next)) g
        ∙ ap (λ n. grown old (read_nodes c number file into at (end_to c number x file end_at next) n next
        ++ phrase_nodes c x end_at next ++ list_nodes c b fine_at next)) h
        ∙ ap (λ n. grown old (read_nodes c number file into at (end_to c number x file end_at next)
        (first_of_list b n next) next ++ phrase_nodes c x end_at next ++ list_nodes c b n next)) f
        ∙ ap (λ n. grown old (read_nodes c number file into at (end_to c number x file n next)
        (first_of_list b (n + phrase_size x) next) next ++ phrase_nodes c x n next
        ++ list_nodes c b (n + phrase_size x) next)) e

    pub perform_laid : (old one two new : Seen) (turns : Turns) (body : LaidBody) (at begin behind next : ℕ) →
        begin ≡ body_at turns at → behind ≡ body_next turns at body next →
        one ≡ grown old (loop_before c number turns body at next) →
        two ≡ grown one (body_nodes c number body begin behind) →
        new ≡ grown two (loop_behind c number turns body at next) →
        new ≡ grown old (act_nodes c number (performing body turns) at next)
    perform_laid old one two new turns body at begin behind next e f h i j =
        grown_thrice old one two new (loop_before c number turns body at next) (body_nodes c number body begin behind)
        (loop_behind c number turns body at next) h i j
        ∙ ap (λ n. grown old (loop_before c number turns body at next ++ body_nodes c number body n behind
        ++ loop_behind c number turns body at next)) e
        ∙ ap (λ n. grown old (loop_before c number turns body at next ++ body_nodes c number body (body_at turns at) n
        ++ loop_behind c number turns body at next)) f

    abbrev pub inner_copy : List ℕ → ℕ → LaidParas → ℕ → ℕ → Copied
    inner_copy all first ps at next =
        record { layout = c.layout; sites = all; para = λ n. first_of_para (n - first) ps at next; final = c.final }

    pub copy_laid : (old new : Seen) (ps qs : LaidParas) (all : List ℕ) (first at next : ℕ) →
        all ≡ c.sites ++ number ∷ [] → ps ≡ qs →
        new ≡ grown old (paras_nodes (inner_copy all first qs at next) qs at next) →
        new ≡ grown old (body_nodes c number (copy first ps) at next)
    copy_laid old new ps qs all first at next e f laid =
        laid ∙ ap (λ xs. grown old (paras_nodes (inner_copy xs first qs at next) qs at next)) e
        ∙ ap (λ rs. grown old (paras_nodes (inner_copy (c.sites ++ number ∷ []) first rs at next) rs at next)) (sym f)
