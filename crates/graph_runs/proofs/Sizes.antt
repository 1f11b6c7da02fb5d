-- What one statement does is laid in one size, in whatever copy it stands.
use Rattle.std.proofs.Common.{◌≡◌, ℕ, zero, suc, ◌-◌, refl, sym, ap, ◌∙◌, arith}
use Rattle.cob_program.specs.Act.{MkStmt, Stmts, no_stmts, more_stmts, Phrase, left_out, given, Act, move, arith as arithmetic, if_, evaluate, perform, go, nothing, stop, open_files, close_files, read, write, show, Whens, no_whens, more_whens, MkWhen, Body, range, inline, Program}
use Rattle.cob_runs.specs.Steps.{body_at}
use Rattle.cob_graph.specs.Laid.{MkLaid, LaidList, no_laid, more_laid, LaidPhrase, no_phrase, a_phrase, LaidAct, computing, deciding, choosing, performing, reading, LaidWhens, no_laid_whens, more_laid_whens, LaidBody, own_list, copy, LaidParas, no_laid_paras, more_laid_paras, tests_in, tests_among, one_if, loop_nodes, list_size, phrase_size, act_size, whens_size, body_size, paras_size}
use Rattle.cob_program.specs.Logic.{logics_of}
use Rattle.cob_graph.specs.Copies.{AreLaid, IsLaidPhrase, IsLaidAct, AreLaidWhens, IsLaidBody, AreLaidParas}

module _ (p : Program) where
  mutual
    same_list : (lo hi from to : ℕ) (ss : Stmts) (xs ys : LaidList) → AreLaid p lo hi ss xs →
        AreLaid p from to ss ys → list_size xs ≡ list_size ys
    same_list lo hi from to no_stmts no_laid no_laid h k = refl
    same_list lo hi from to (more_stmts (MkStmt number line a) ss) (more_laid (MkLaid m x) xs)
        (more_laid (MkLaid n y) ys) h k =
        omega (arith, same_act lo hi from to a x y h.0.1 k.0.1, same_list lo hi from to ss xs ys h.1 k.1)
    same_list lo hi from to no_stmts no_laid (more_laid y ys) h k = absurd k
    same_list lo hi from to no_stmts (more_laid x xs) ys h k = absurd h
    same_list lo hi from to (more_stmts s ss) (more_laid x xs) no_laid h k = absurd k
    same_list lo hi from to (more_stmts s ss) no_laid ys h k = absurd h

    same_phrase : (lo hi from to : ℕ) (e : Phrase) (x y : LaidPhrase) → IsLaidPhrase p lo hi e x →
        IsLaidPhrase p from to e y → phrase_size x ≡ phrase_size y
    same_phrase lo hi from to left_out no_phrase no_phrase h k = refl
    same_phrase lo hi from to (given ss) (a_phrase xs) (a_phrase ys) h k = same_list lo hi from to ss xs ys h k
    same_phrase lo hi from to left_out no_phrase (a_phrase ys) h k = absurd k
    same_phrase lo hi from to left_out (a_phrase xs) y h k = absurd h
    same_phrase lo hi from to (given ss) (a_phrase xs) no_phrase h k = absurd k
    same_phrase lo hi from to (given ss) no_phrase y h k = absurd h

    pub same_act : (lo hi from to : ℕ) (a : Act) (x y : LaidAct) → IsLaidAct p lo hi a x →
        IsLaidAct p from to a y → act_size x ≡ act_size y
    same_act lo hi from to (move v places) x y h k = ap act_size (h ∙ sym k)
    same_act lo hi from to (show vs) x y h k = ap act_size (h ∙ sym k)
    same_act lo hi from to nothing x y h k = ap act_size (h ∙ sym k)
    same_act lo hi from to (go t) x y h k = ap act_size (h.0 ∙ sym k.0)
    same_act lo hi from to stop x y h k = ap act_size (h ∙ sym k)
    same_act lo hi from to (open_files os) x y h k = ap act_size (h ∙ sym k)
    same_act lo hi from to (close_files fs) x y h k = ap act_size (h ∙ sym k)
    same_act lo hi from to (write r v) x y h k = ap act_size (h ∙ sym k)
    same_act lo hi from to (arithmetic s targets remainder size fine) (computing x xs) (computing y ys) h k =
        omega (arith, same_phrase lo hi from to size x y h.0 k.0, same_list lo hi from to fine xs ys h.1 k.1)
    same_act lo hi from to (if_ t held other) (deciding u xs as_) (deciding v ys bs) h k =
        omega (
          arith,
          ap tests_in (sym h.0 ∙ k.0),
          same_list lo hi from to held xs ys h.1 k.1,
          same_list lo hi from to other as_ bs h.2 k.2,
        )
    same_act lo hi from to (evaluate ws other) (choosing us xs) (choosing vs ys) h k =
        omega (arith, same_whens lo hi from to ws us vs h.0 k.0, same_list lo hi from to other xs ys h.1 k.1)
    same_act lo hi from to (perform body turns) (performing x t) (performing y u) h k =
        omega (arith, ap loop_nodes (sym h.0 ∙ k.0), same_body lo hi from to body x y h.1 k.1)
    same_act lo hi from to (read f into end fine) (reading g i x xs) (reading e j y ys) h k =
        omega (
          arith,
          ap one_if (sym h.1 ∙ k.1),
          same_phrase lo hi from to end x y h.2 k.2,
          same_list lo hi from to fine xs ys h.3 k.3,
        )
    same_act lo hi from to (arithmetic s targets remainder size fine) (computing x xs) y h k = absurd k
    same_act lo hi from to (arithmetic s targets remainder size fine) x y h k = absurd h
    same_act lo hi from to (if_ t held other) (deciding u xs as_) y h k = absurd k
    same_act lo hi from to (if_ t held other) x y h k = absurd h
    same_act lo hi from to (evaluate ws other) (choosing us xs) y h k = absurd k
    same_act lo hi from to (evaluate ws other) x y h k = absurd h
    same_act lo hi from to (perform body turns) (performing x t) y h k = absurd k
    same_act lo hi from to (perform body turns) x y h k = absurd h
    same_act lo hi from to (read f into end fine) (reading g i x xs) y h k = absurd k
    same_act lo hi from to (read f into end fine) x y h k = absurd h

    same_whens : (lo hi from to : ℕ) (ws : Whens) (us vs : LaidWhens) → AreLaidWhens p lo hi ws us →
        AreLaidWhens p from to ws vs → whens_size us ≡ whens_size vs
    same_whens lo hi from to no_whens no_laid_whens no_laid_whens h k = refl
    same_whens lo hi from to (more_whens (MkWhen ts ss) ws) (more_laid_whens as_ xs us) (more_laid_whens bs ys vs) h
        k =
        omega (
          arith,
          ap (λ l. tests_among (logics_of l)) (sym h.0 ∙ k.0),
          same_list lo hi from to ss xs ys h.1 k.1,
          same_whens lo hi from to ws us vs h.2 k.2,
        )
    same_whens lo hi from to no_whens no_laid_whens (more_laid_whens bs ys vs) h k = absurd k
    same_whens lo hi from to no_whens (more_laid_whens as_ xs us) vs h k = absurd h
    same_whens lo hi from to (more_whens (MkWhen ts ss) ws) (more_laid_whens as_ xs us) no_laid_whens h k = absurd k
    same_whens lo hi from to (more_whens w ws) no_laid_whens vs h k = absurd h

    same_body : (lo hi from to : ℕ) (body : Body) (x y : LaidBody) → IsLaidBody p lo hi body x →
        IsLaidBody p from to body y → body_size x ≡ body_size y
    same_body lo hi from to (inline ss) (own_list xs) (own_list ys) h k = same_list lo hi from to ss xs ys h k
    same_body lo hi from to (range first last) (copy m xs) (copy n ys) h k =
        same_paras first last first last first (suc last - first) xs ys h.1 k.1
    same_body lo hi from to (inline ss) (own_list xs) (copy n ys) h k = absurd k
    same_body lo hi from to (inline ss) (copy m xs) y h k = absurd h
    same_body lo hi from to (range first last) (copy m xs) (own_list ys) h k = absurd k
    same_body lo hi from to (range first last) (own_list xs) y h k = absurd h

    same_paras : (lo hi from to at count : ℕ) (xs ys : LaidParas) → AreLaidParas p lo hi at count xs →
        AreLaidParas p from to at count ys → paras_size xs ≡ paras_size ys
    same_paras lo hi from to at zero no_laid_paras no_laid_paras h k = refl
    same_paras lo hi from to at (suc count) (more_laid_paras as_ xs) (more_laid_paras bs ys) h k =
        omega (
          arith,
          same_list lo hi from to (body_at p at) as_ bs h.0 k.0,
          same_paras lo hi from to (suc at) count xs ys h.1 k.1,
        )
    same_paras lo hi from to at zero no_laid_paras (more_laid_paras bs ys) h k = absurd k
    same_paras lo hi from to at zero (more_laid_paras as_ xs) ys h k = absurd h
    same_paras lo hi from to at (suc count) (more_laid_paras as_ xs) no_laid_paras h k = absurd k
    same_paras lo hi from to at (suc count) no_laid_paras ys h k = absurd h
