-- A program has one main copy at most, so one count of nodes and one graph.
use Rattle.std.proofs.Common.{◌≡◌, ℕ, zero, suc, ◌-◌, List, length, refl, sym, ap, ◌∙◌}
use Rattle.std.specs.Prelude.{map}
use Rattle.cob_program.specs.Act.{Stmt, MkStmt, Stmts, no_stmts, more_stmts, Phrase, left_out, given, Act, move, arith as arithmetic, if_, evaluate, perform, go, nothing, stop, open_files, close_files, read, write, show, Whens, no_whens, more_whens, MkWhen, Body, range, inline, Program}
use Rattle.cob_runs.specs.Steps.{body_at}
use Rattle.cob_runs.specs.declared.action.Cell.{Cell}
use Rattle.cob_graph.specs.declared.graph.Node.{Node}
use Rattle.cob_graph.specs.declared.graph.Edge.{Edge}
use Rattle.cob_graph.specs.declared.graph.Graph.{Graph}
use Rattle.cob_graph.specs.Laid.{Laid, MkLaid, LaidList, no_laid, more_laid, LaidPhrase, no_phrase, a_phrase, LaidAct, computing, deciding, choosing, performing, reading, LaidWhens, no_laid_whens, more_laid_whens, LaidBody, own_list, copy, LaidParas, no_laid_paras, more_laid_paras}
use Rattle.cob_graph.specs.Copies.{IsLaid, AreLaid, IsLaidPhrase, IsLaidAct, AreLaidWhens, IsLaidBody, AreLaidParas}
use Rattle.cob_graph.specs.Graphs.{last_para, final_of, all_nodes, as_node, edges_of, OneMainCopy, OneCount, OneGraph}

module _ (p : Program) where
  mutual
    one_laid : (lo hi : ℕ) (s : Stmt) (x y : Laid) → IsLaid p lo hi s x → IsLaid p lo hi s y → x ≡ y
    one_laid lo hi (MkStmt number line act) (MkLaid m a) (MkLaid n b) h k =
        ap (λ (i : ℕ). MkLaid i a) (sym h.0 ∙ k.0) ∙ ap (MkLaid n) (one_act lo hi act a b h.1 k.1)

    one_list : (lo hi : ℕ) (ss : Stmts) (xs ys : LaidList) → AreLaid p lo hi ss xs → AreLaid p lo hi ss ys → xs ≡ ys
    one_list lo hi no_stmts no_laid no_laid h k = refl
    one_list lo hi (more_stmts s ss) (more_laid x xs) (more_laid y ys) h k =
        ap (λ (z : Laid). more_laid z xs) (one_laid lo hi s x y h.0 k.0) ∙ ap (more_laid y)
        (one_list lo hi ss xs ys h.1 k.1)
    one_list lo hi no_stmts no_laid (more_laid y ys) h k = absurd k
    one_list lo hi no_stmts (more_laid x xs) ys h k = absurd h
    one_list lo hi (more_stmts s ss) (more_laid x xs) no_laid h k = absurd k
    one_list lo hi (more_stmts s ss) no_laid ys h k = absurd h

    one_phrase : (lo hi : ℕ) (e : Phrase) (a b : LaidPhrase) → IsLaidPhrase p lo hi e a → IsLaidPhrase p lo hi e b →
        a ≡ b
    one_phrase lo hi left_out no_phrase no_phrase h k = refl
    one_phrase lo hi (given ss) (a_phrase xs) (a_phrase ys) h k = ap a_phrase (one_list lo hi ss xs ys h k)
    one_phrase lo hi left_out no_phrase (a_phrase ys) h k = absurd k
    one_phrase lo hi left_out (a_phrase xs) b h k = absurd h
    one_phrase lo hi (given ss) (a_phrase xs) no_phrase h k = absurd k
    one_phrase lo hi (given ss) no_phrase b h k = absurd h

    one_act : (lo hi : ℕ) (act : Act) (x y : LaidAct) → IsLaidAct p lo hi act x → IsLaidAct p lo hi act y → x ≡ y
    one_act lo hi (move v places) x y h k = h ∙ sym k
    one_act lo hi (show vs) x y h k = h ∙ sym k
    one_act lo hi nothing x y h k = h ∙ sym k
    one_act lo hi (go to) x y h k = h.0 ∙ sym k.0
    one_act lo hi stop x y h k = h ∙ sym k
    one_act lo hi (open_files os) x y h k = h ∙ sym k
    one_act lo hi (close_files fs) x y h k = h ∙ sym k
    one_act lo hi (write r from) x y h k = h ∙ sym k
    one_act lo hi (arithmetic sum targets remainder size fine) (computing a b) (computing c d) h k =
        ap (λ (z : LaidPhrase). computing z b) (one_phrase lo hi size a c h.0 k.0)
        ∙ ap (computing c) (one_list lo hi fine b d h.1 k.1)
    one_act lo hi (if_ t held other) (deciding u a b) (deciding v c d) h k =
        ap (λ t. deciding t a b) (sym h.0 ∙ k.0) ∙ ap (λ (z : LaidList). deciding v z b)
        (one_list lo hi held a c h.1 k.1)
        ∙ ap (deciding v c) (one_list lo hi other b d h.2 k.2)
    one_act lo hi (evaluate ws other) (choosing xs b) (choosing ys d) h k =
        ap (λ (z : LaidWhens). choosing z b) (one_whens lo hi ws xs ys h.0 k.0)
        ∙ ap (choosing ys) (one_list lo hi other b d h.1 k.1)
    one_act lo hi (perform body turns) (performing x t) (performing y u) h k =
        ap (performing x) (sym h.0 ∙ k.0) ∙ ap (λ (z : LaidBody). performing z u) (one_body lo hi body x y h.1 k.1)
    one_act lo hi (read f into end fine) (reading g i a b) (reading e j c d) h k =
        ap (λ n. reading n i a b) (sym h.0 ∙ k.0) ∙ ap (λ n. reading e n a b) (sym h.1 ∙ k.1)
        ∙ ap (λ (z : LaidPhrase). reading e j z b) (one_phrase lo hi end a c h.2 k.2)
        ∙ ap (reading e j c) (one_list lo hi fine b d h.3 k.3)
    one_act lo hi (arithmetic sum targets remainder size fine) (computing a b) y h k = absurd k
    one_act lo hi (arithmetic sum targets remainder size fine) x y h k = absurd h
    one_act lo hi (if_ t held other) (deciding u a b) y h k = absurd k
    one_act lo hi (if_ t held other) x y h k = absurd h
    one_act lo hi (evaluate ws other) (choosing xs b) y h k = absurd k
    one_act lo hi (evaluate ws other) x y h k = absurd h
    one_act lo hi (perform body turns) (performing x t) y h k = absurd k
    one_act lo hi (perform body turns) x y h k = absurd h
    one_act lo hi (read f into end fine) (reading g i a b) y h k = absurd k
    one_act lo hi (read f into end fine) x y h k = absurd h

    one_whens : (lo hi : ℕ) (ws : Whens) (xs ys : LaidWhens) → AreLaidWhens p lo hi ws xs → AreLaidWhens p lo hi ws ys →
        xs ≡ ys
    one_whens lo hi no_whens no_laid_whens no_laid_whens h k = refl
    one_whens lo hi (more_whens (MkWhen ts ss) ws) (more_laid_whens us as_ xs) (more_laid_whens vs bs ys) h k =
        ap (λ ts. more_laid_whens ts as_ xs) (sym h.0 ∙ k.0)
        ∙ ap (λ (z : LaidList). more_laid_whens vs z xs) (one_list lo hi ss as_ bs h.1 k.1)
        ∙ ap (more_laid_whens vs bs) (one_whens lo hi ws xs ys h.2 k.2)
    one_whens lo hi no_whens no_laid_whens (more_laid_whens vs bs ys) h k = absurd k
    one_whens lo hi no_whens (more_laid_whens us as_ xs) ys h k = absurd h
    one_whens lo hi (more_whens (MkWhen ts ss) ws) (more_laid_whens us as_ xs) no_laid_whens h k = absurd k
    one_whens lo hi (more_whens w ws) no_laid_whens ys h k = absurd h

    one_body : (lo hi : ℕ) (body : Body) (x y : LaidBody) → IsLaidBody p lo hi body x → IsLaidBody p lo hi body y →
        x ≡ y
    one_body lo hi (inline ss) (own_list xs) (own_list ys) h k = ap own_list (one_list lo hi ss xs ys h k)
    one_body lo hi (range first last) (copy m xs) (copy n ys) h k =
        ap (λ (i : ℕ). copy i xs) (sym h.0 ∙ k.0)
        ∙ ap (copy n) (one_paras first last first (suc last - first) xs ys h.1 k.1)
    one_body lo hi (inline ss) (own_list xs) (copy n ys) h k = absurd k
    one_body lo hi (inline ss) (copy m xs) y h k = absurd h
    one_body lo hi (range first last) (copy m xs) (own_list ys) h k = absurd k
    one_body lo hi (range first last) (own_list xs) y h k = absurd h

    one_paras : (lo hi from count : ℕ) (xs ys : LaidParas) → AreLaidParas p lo hi from count xs →
        AreLaidParas p lo hi from count ys → xs ≡ ys
    one_paras lo hi from zero no_laid_paras no_laid_paras h k = refl
    one_paras lo hi from (suc count) (more_laid_paras as_ xs) (more_laid_paras bs ys) h k =
        ap (λ (z : LaidList). more_laid_paras z xs) (one_list lo hi (body_at p from) as_ bs h.0 k.0)
        ∙ ap (more_laid_paras bs) (one_paras lo hi (suc from) count xs ys h.1 k.1)
    one_paras lo hi from zero no_laid_paras (more_laid_paras bs ys) h k = absurd k
    one_paras lo hi from zero (more_laid_paras as_ xs) ys h k = absurd h
    one_paras lo hi from (suc count) (more_laid_paras as_ xs) no_laid_paras h k = absurd k
    one_paras lo hi from (suc count) no_laid_paras ys h k = absurd h

pub one_main_copy : OneMainCopy
one_main_copy p a b h k = one_paras p 0 (last_para p) 0 (length p.paras) a b h k

pub one_count : OneCount
one_count p m n h k = h.counted ∙ ap final_of (one_main_copy p h.copies k.copies h.laid k.laid) ∙ sym k.counted

abbrev with_parts : List Node → List Edge → List Cell → Graph
with_parts nodes edges cells = record { nodes = nodes; edges = edges; cells = cells }

pub one_graph : OneGraph
one_graph p g h is it =
    let same = one_main_copy p is.copies it.copies is.laid it.laid in
    let nodes : g.nodes ≡ h.nodes = is.nodes ∙ ap (λ c. map as_node (all_nodes p c)) same ∙ sym it.nodes in
    let edges : g.edges ≡ h.edges = is.edges ∙ ap (λ c. edges_of 1 (all_nodes p c)) same ∙ sym it.edges in
    let cells : g.cells ≡ h.cells = is.cells ∙ sym it.cells in
    ap (λ (ns : List Node). with_parts ns g.edges g.cells) nodes
    ∙ ap (λ (es : List Edge). with_parts h.nodes es g.cells) edges
    ∙ ap (with_parts h.nodes h.edges) cells
