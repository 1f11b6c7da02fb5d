-- `part_at` hands places from one owner to the other. Assumes `Logic`.
use mathlib.Core.Path.{◌≡◌, refl, sym, ap, subst, ◌∙◌}
use Prim.Native.Nat.{ℕ, ◌+◌, ◌*◌, ◌<◌, ◌≤◌, ◌^◌}
use native.Mathlib.Omega.{arith}
use mathlib.Core.List.{List, [], ◌∷◌, ◌++◌}
use lib.ListN.{length, take, drop, length-take, length-drop, take-append-drop}
use base.Fraction.{full_share}
use mir.Syntax.{Fn, w64}
use mir.Val.{Val, vint}
use seplogic.Ra.Ura.{Ura}
use mir.MapTy.{inst_fn}
use base.Logic.{SProp, ent, id⊢, never}
use base.Fml.{fat}
use prog.Memory.{Memory}
use prog.Routine.{Routine}
use prog.Wp.{Env, WpFn, Tables}
use types.Logic.{Logic}
use contract.Monad.{Fun, fact}
use contract.BorrowLft.{◌⊑◌}
use contract.Running.{tables, tables_of}
use denote.RattleType.{RattleType, owns}
use denote.Signature.{plain, types_at}
use denote.Steps.{nothing}
use denote.Triple.Clauses.{Clauses, Ended, closing}
use denote.Triple.Spec.{Meets, triple_of}
use denote.Triple.Table.{entered}
use sound.WpLaws.{WpFn-mono}
use types.Kit.{Item, ⋆, ‵, raw, ◌⊛◌, at_ret, ◌$◌, ◌∵◌, !, qed, move, keep, use0, use1, use2, use3, split, rewrite, fsplit, fjoin, feq_l, flt_l, flt_i, suffices, frame, by, done}
use types.Kit.{drop as skip}
use denote.Steps.{heard}
use types.Part.{whole, sub, agg}
use types.Run.{bin, size_word, stop, fld, of_opd, and_then, no_more, first, blocks, exec, returns, enter}
use types.ByLocal.{alloc_all, pass_all, free_all, look_at, get, get_in, sets, sets_last, is, env, take_at, give_at}
use denote.Exit.{yes, no}
use denote.Builtin.{usize}
use denote.Param.{layout}
use denote.RawPtr.{Ptr, block_ptr, in_a_block}
use denote.Struct.Tuple.{Tuple}
use denote.Triple.Entry.{alive}
use denote.Triple.Walked.{says, Stays, stay_dropped, walk_of, ends_at, Goes-dropped, walk_Meets}
use Rattle.std.specs.Prelude.{◌⊎◌}
use Rattle.std.proofs.Common.{inl, inr}
use Rattle.core.proofs.mem.Param.{El, R, args}
use Rattle.core.proofs.slots.Leases.{uncapped}
use Rattle.core.proofs.ptr.Rows.{times_below}
use Rattle.std_alloc.proofs.RcSteps.{Good, word, word-Good}
use Rattle.std.specs.Vec.Ownership.{FitsInBlock}
use Rattle.std_alloc.proofs.VecSteps.Shapes.{after}
use Rattle.block_store.specs.Ownership.{slots, cells_own, place_on}
use Rattle.block_store.proofs.Memory.{Cr, Bs, Mark, sz, Place, mark, mark_had, mark_made, word_had, word_made, three_val, three_of, lands, cut, glue}
use Rattle.block_store.specs.contracts.cells.part_at as F
use Rattle.block_store.specs.contracts.cells.part_at.Key.{name as #self}
use Rattle.block_store.proofs.cells.part_at.Statement as stated
use Rattle.block_store.proofs.cells.part_at.Code as code

at_border : {Φ : Type 0} (f : Ptr → Ptr) (p q : Ptr) {h : Ptr} → p ≡ q → Φ ⊎ (h ≡ f p) → Φ ⊎ (h ≡ f q)
at_border f p q is (inl none) = inl none
at_border f p q is (inr at) = inr (at ∙ ap f is)

module _ (E : El) where
  abbrev here : Fn
  here = inst_fn (args E) code.function

  abbrev ended : Ended
  ended = F.ended E.row

  abbrev Three : RattleType
  Three = Tuple (Bs E ∷ Cr E ∷ Cr E ∷ [])

  abbrev stayed : Stays ended.signature.params ended.kept
  stayed = (stay_dropped (plain (λ _. Bs E)) no, (stay_dropped (plain (λ _. Cr E)) no, (stay_dropped (plain (λ _. Cr E)) no, (stay_dropped (plain (λ _. usize)) yes, tt))))

  module _ {M : Type 1} {𝓤 : Ura M} (𝓛 : Logic 𝓤) (at_mem : Memory → SProp 𝓤) (run : Routine → Fun 𝓤) (𝓣 : Tables 𝓤 𝓛.H) where
    open 𝓛 use {H}

    abbrev held : Clauses 𝓤 ended
    held = F.clauses E.row 𝓛 at_mem run

    abbrev Bound : Type 0
    Bound = (walk_of 𝓛 ended stayed held).Ghost

    abbrev Goes : Bound → Type 1
    Goes y = ent 𝓤 ((walk_of 𝓛 ended stayed held).pre y) (WpFn 𝓤 H 𝓣.C 𝓣.Λ here ((walk_of 𝓛 ended stayed held).args y) ((walk_of 𝓛 ended stayed held).post y))

    module _ (z : Bound) where
      abbrev base₀ : (Bs E).Denot
      base₀ = z.0.3.0

      abbrev low : (Cr E).Denot
      low = z.0.3.1.0

      abbrev high : (Cr E).Denot
      high = z.0.3.1.1.0

      abbrev at : ℕ
      at = z.0.3.1.1.1.0

      abbrev all : List (Place E)
      all = low.slots ++ high.slots

      abbrev Asks : Type 0
      Asks = (low.at ≡ base₀.ptr) × ((high.slots ≡ []) ⊎ (high.at ≡ place_on (R E) (length low.slots) base₀.ptr)) × (at ≤ length all) × FitsInBlock (R E) (length all)

      abbrev Post : Val → SProp 𝓤
      Post = (walk_of 𝓛 ended stayed held).post z

      abbrev Run : List Val → SProp 𝓤
      Run ws = WpFn 𝓤 H 𝓣.C 𝓣.Λ here ws Post

      abbrev us : List Val
      us = word base₀.ptr ∷ mark ∷ mark ∷ vint w64 at ∷ []

      abbrev Had : List (Item 𝓤)
      Had = ‵ (cells_own (R E) low.at low.slots) ∷ ‵ (cells_own (R E) high.at high.slots) ∷ raw (alive 𝓛 ended.signature z.0.0 z.0.1) ∷ []

      exits : (r : Three.Denot) (v : Val) → (r.0.ptr ≡ place_on (R E) at base₀.ptr) × (r.1.at ≡ base₀.ptr) × (r.1.slots ≡ take at all) × (r.2.at ≡ place_on (R E) at base₀.ptr) × (r.2.slots ≡ drop at all)
          → ent 𝓤 (⋆ 𝓛 (‵ (Three.own_val r (v ∷ [])) ∷ raw (alive 𝓛 ended.signature z.0.0 z.0.1) ∷ [])) (Post v)
      exits r v g =
          qed 𝓛 (‵ (Three.own_val r (v ∷ [])) ∷ raw (alive 𝓛 ended.signature z.0.0 z.0.1) ∷ []) ∵
          suffices ! _ (ends_at 𝓛 ended stayed held z v r (tt, (tt, (tt, (tt, tt)))) (tt, (tt, (tt, (tt, tt))))) $ says ! g $
          move ! (1 ∷ []) $ frame ! $ nothing ! $ nothing ! $ fjoin ! $ nothing ! $ fjoin ! $ nothing ! $ fjoin ! $ nothing ! $ fjoin ! $ done !

      main : Asks → at < 2 ^ 64 → ent 𝓤 (⋆ 𝓛 Had) (Run us)
      main asked fits =
          let s = sz E in let front = take at all in let back = drop at all in let n : ℕ = length low.slots in
          let count : at ≡ length front = omega (arith, asked.2, length-take at all) in
          let small : length all * s < 2 ^ 63 = asked.3.0 in
          let far : at * s < 2 ^ 64 = omega (arith, times_below at (length all) s (2 ^ 63) asked.2 small) in
          let front_small : length front * s < 2 ^ 63 = times_below (length front) (length all) s (2 ^ 63) (omega (arith, length-take at all)) small in
          let back_small : length back * s < 2 ^ 63 = times_below (length back) (length all) s (2 ^ 63) (omega (arith, length-drop at all)) small in
          qed 𝓛 Had ∵ enter ! 𝓣.C 𝓣.Λ here us _ $ alloc_all ! (λ l. pass_all ! refl (word-Good [] base₀.ptr, ((tt, (tt, tt)), ((tt, (tt, tt)), ((tt, record { fits = fits }), tt)))) $
          let En : Env 𝓤 H = env here.locals l in
          in_a_block ! low.at (λ p. cells_own (R E) p low.slots) (id⊢ 𝓤 (never 𝓤)) (λ b o e. fsplit ! $ flt_l ! (λ low_small.
          let here_is : base₀.ptr ≡ block_ptr b o = sym asked.0 ∙ e in
          let p : Ptr = block_ptr b (at * s + o) in
          let p_is : p ≡ place_on (R E) at base₀.ptr = sym (ap (place_on (R E) at) here_is) in
          let middle : (Bs E).Denot = record { ptr = p } in
          let low' : (Cr E).Denot = record { mark = record {}; at = block_ptr b o; slots = front } in
          let high' : (Cr E).Denot = record { mark = record {}; at = p; slots = back } in
          let made : Val = three_val (word p) mark mark in
          let typed : Good (layout Three) made = (tt, ((tt, tt), ((tt, tt), ((tt, tt), tt)))) in
          move ! (1 ∷ []) $ in_a_block ! high.at (λ p. cells_own (R E) p high.slots) (id⊢ 𝓤 (never 𝓤)) (λ b₁ o₁ e₁.
          use1 𝓛 (‵ (cells_own (R E) (block_ptr b (n * s + o)) high.slots)) (lands E 𝓛 b high.at (n * s + o) b₁ o₁ high.slots e₁ (at_border (place_on (R E) n) base₀.ptr (block_ptr b o) here_is asked.1)) $ fsplit ! $ flt_l ! (λ high_small.
          move ! (1 ∷ 0 ∷ []) $ use2 𝓛 (‵ (slots (R E) b o all)) (glue E 𝓛 b low.slots high.slots o (n * s + o) refl) $
          rewrite ! 0 (λ (cs : List (Place E)). ‵ (slots (R E) b o cs)) (sym (take-append-drop at all)) refl $
          use1 𝓛 (‵ (slots (R E) b o front) ⊛ ‵ (slots (R E) b (at * s + o) back)) (cut E 𝓛 b front back o (at * s + o) (ap (λ k. k * s + o) count)) $ split ! $
          take_at ! 1 $ rewrite ! 0 (λ (p : Ptr). ‵ (fat full_share (layout (Bs E)) (l 1) 0 (word p))) here_is refl $ give_at ! 1 $ first ! $ blocks ! $
          sets ! (is ! (bin ! (get ! refl) (size_word !) (record { fits = subst (λ (k : ℕ). k < 2 ^ 64) (sym (uncapped at s far)) far })) (ap (vint w64) (uncapped at s far))) refl (tt, record { fits = far }) $
          sets_last ! (bin ! (get_in ! (fld ! refl (stop !)) (sub ! 0 refl (whole !))) (get ! refl) tt) refl (tt, tt) $
          exec ! 𝓣.C 𝓣.Λ En (after 1 here.body) (at_ret En Post) $
          sets ! (of_opd ! (get ! refl)) refl (tt, tt) $
          sets ! (agg ! (and_then ! (get ! refl) (no_more !))) refl (word-Good [] p) $
          sets ! (agg ! (no_more !)) refl (tt, tt) $ sets ! (agg ! (and_then ! (get ! refl) (no_more !))) refl (tt, (tt, tt)) $
          sets ! (agg ! (no_more !)) refl (tt, tt) $ sets ! (agg ! (and_then ! (get ! refl) (no_more !))) refl (tt, (tt, tt)) $
          sets ! (agg ! (and_then ! (get ! refl) (and_then ! (get ! refl) (and_then ! (get ! refl) (no_more !))))) refl typed $
          flt_i ! (length front * s) (2 ^ 63) front_small $ fjoin ! $ use0 𝓛 (‵ ((Mark E).own_val (tt, tt) (mark ∷ []))) (mark_made E 𝓛) $ fjoin ! $ move ! (1 ∷ []) $
          flt_i ! (length back * s) (2 ^ 63) back_small $ fjoin ! $ use0 𝓛 (‵ ((Mark E).own_val (tt, tt) (mark ∷ []))) (mark_made E 𝓛) $ fjoin ! $ move ! (1 ∷ 0 ∷ []) $ word_made ! p $
          use3 𝓛 (‵ (Three.own_val (middle, low', high') (made ∷ []))) (three_of 𝓛 (Bs E) (Cr E) (Cr E) middle low' high' (word p) mark mark) $
          returns ! (look_at ! 0 refl) $ free_all ! refl $ keep ! (0 ∷ 1 ∷ []) $ by ! (exits (middle, low', high') made (p_is, sym here_is, refl, p_is, refl)))))))

      walk : Goes z
      walk =
          let vss = z.0.4 in
          qed 𝓛 ((raw (alive 𝓛 ended.signature z.0.0 z.0.1) ⊛ ‵ (owns (types_at ended.signature.params z.0.0) z.0.3 vss)) ∷ (raw (fact 𝓤 (z.0.0.0 ⊑ E.row.lives)) ⊛ raw (fact 𝓤 Asks)) ∷ []) ∵
          split ! $ move ! (1 ∷ []) $ fsplit ! $ word_had ! base₀.ptr vss.0 (λ e0. fsplit ! $ fsplit ! $ mark_had ! E vss.1.0 (λ e1.
          move ! (1 ∷ []) $ fsplit ! $ fsplit ! $ mark_had ! E vss.1.1.0 (λ e2.
          move ! (1 ∷ []) $ fsplit ! $ fsplit ! $ feq_l ! (λ e3. flt_l ! (λ fits. skip ! $
          move ! (3 ∷ []) $ split ! $ skip ! $ heard ! Asks (λ asked.
          move ! (1 ∷ 0 ∷ []) $ keep ! (0 ∷ 1 ∷ 2 ∷ []) $
          by ! (subst (λ (ws : List Val × List Val × List Val × List Val). ent 𝓤 (⋆ 𝓛 Had) (Run (ws.0 ++ (ws.1 ++ (ws.2 ++ (ws.3 ++ [])))))) (λ j. (sym e0 j, sym e1 j, sym e2 j, sym e3 j)) (main asked fits))))))))

    meets : Meets 𝓛 ended.signature (WpFn 𝓤 H 𝓣.C 𝓣.Λ here) (closing 𝓛 ended held)
    meets = walk_Meets 𝓛 ended stayed (Goes-dropped 𝓛 1 (plain (λ _. Bs E)) no (λ κs x f. refl), (Goes-dropped 𝓛 1 (plain (λ _. Cr E)) no (λ κs x f. refl), (Goes-dropped 𝓛 1 (plain (λ _. Cr E)) no (λ κs x f. refl), (Goes-dropped 𝓛 1 (plain (λ _. usize)) yes (λ κs x f. refl), tt)))) held (WpFn 𝓤 H 𝓣.C 𝓣.Λ here) (WpFn-mono 𝓤 H 𝓛.laws 𝓣 here) walk

pub part_at_spec : {M : Type 1} → stated.statement M
unfolding tables_of
part_at_spec 𝓤 𝓛 𝓜 𝓡 wired X L =
    let E : El = record { row = X; laws = L } in
    let 𝓣 : Tables 𝓤 𝓛.H = tables_of 𝓤 𝓛.H 𝓜 (tables 𝓤 𝓛.H 𝓜 𝓡 𝓡.env) in
    entered 𝓤 𝓛.H (triple_of 𝓛 (F.signature X) (F.spec X 𝓛 𝓜.mem 𝓡.returns)) 𝓣.C 𝓣.Λ (#self (args E)) (here E) (code.unfolded 𝓤 𝓛.H 𝓜 𝓡 wired (X, tt))
    (meets E 𝓛 𝓜.mem 𝓡.returns 𝓣)
