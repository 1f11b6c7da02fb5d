-- `end`, of no places. Assumes `Logic`.
use mathlib.Core.Path.{refl, sym, subst}
use mathlib.Core.List.{List, [], ◌∷◌, ◌++◌}
use mir.Syntax.{Fn}
use mir.Val.{Val, vunit}
use seplogic.Ra.Ura.{Ura}
use mir.MapTy.{inst_fn}
use base.Logic.{SProp, ent, id⊢}
use prog.Memory.{Memory}
use prog.Routine.{Routine}
use prog.Wp.{Env, WpFn, Tables}
use types.Logic.{Logic}
use contract.Monad.{Fun}
use contract.Running.{tables, tables_of}
use denote.RattleType.{owns}
use denote.Signature.{plain, types_at}
use denote.Steps.{nothing}
use denote.Triple.Clauses.{Clauses, Ended, closing}
use denote.Triple.Spec.{Meets, triple_of}
use denote.Triple.Table.{entered}
use sound.WpLaws.{WpFn-mono}
use types.Kit.{⋆, ‵, raw, ◌⊛◌, ◌$◌, ◌∵◌, !, qed, move, keep, split, join, fsplit, fjoin, feq_i, suffices, by, done}
use types.Run.{of_opd, unit_lit, returns, enter}
use types.ByLocal.{alloc_all, pass_all, free_all, look_at, sets, env}
use denote.Exit.{no}
use denote.Triple.Entry.{alive}
use denote.Triple.Walked.{Stays, stay_dropped, walk_of, ends_at, Goes-dropped, walk_Meets}
use Rattle.core.proofs.mem.Param.{El, args}
use Rattle.block_store.proofs.Memory.{Cr, mark, mark_had}
use Rattle.block_store.specs.contracts.cells.end as F
use Rattle.block_store.specs.contracts.cells.end.Key.{name as #self}
use Rattle.block_store.proofs.cells.end.Statement as stated
use Rattle.block_store.proofs.cells.end.Code as code

module _ (E : El) where
  abbrev here : Fn
  here = inst_fn (args E) code.function

  abbrev ended : Ended
  ended = F.ended E.row

  abbrev stayed : Stays ended.signature.params ended.kept
  stayed = (stay_dropped (plain (λ _. Cr E)) no, tt)

  module _ {M : Type 1} {𝓤 : Ura M} (𝓛 : Logic 𝓤) (at_mem : Memory → SProp 𝓤) (run : Routine → Fun 𝓤) (𝓣 : Tables 𝓤 𝓛.H) where
    open 𝓛 use {H}

    abbrev held : Clauses 𝓤 ended
    held = F.clauses E.row 𝓛 at_mem run

    abbrev Bound : Type 0
    Bound = (walk_of 𝓛 ended stayed held).Ghost

    module _ (z : Bound) where
      abbrev Post : Val → SProp 𝓤
      Post = (walk_of 𝓛 ended stayed held).post z

      exits : ent 𝓤 (⋆ 𝓛 (raw (alive 𝓛 ended.signature z.0.0 z.0.1) ∷ [])) (Post vunit)
      exits =
          qed 𝓛 (raw (alive 𝓛 ended.signature z.0.0 z.0.1) ∷ []) ∵
          suffices ! _ (ends_at 𝓛 ended stayed held z vunit tt (tt, tt) (tt, tt)) $
          feq_i ! (List Val) (vunit ∷ []) (vunit ∷ []) refl $ nothing ! $ nothing ! $ fjoin ! $ join ! $ move ! (1 ∷ 0 ∷ []) $ join ! $ nothing ! $ move ! (1 ∷ 0 ∷ []) $ done !

      walk : ent 𝓤 ((walk_of 𝓛 ended stayed held).pre z) (WpFn 𝓤 H 𝓣.C 𝓣.Λ here ((walk_of 𝓛 ended stayed held).args z) Post)
      walk =
          let vss = z.0.4 in
          let Run : List Val → SProp 𝓤 = λ ws. WpFn 𝓤 H 𝓣.C 𝓣.Λ here ws Post in
          qed 𝓛 ((raw (alive 𝓛 ended.signature z.0.0 z.0.1) ⊛ ‵ (owns (types_at ended.signature.params z.0.0) z.0.3 vss)) ∷ raw ((held z.0.0 z.0.3).requires z.1) ∷ []) ∵
          split ! $ move ! (1 ∷ []) $ fsplit ! $ fsplit ! $ mark_had ! E vss.0 (λ e0. keep ! (2 ∷ []) $
          suffices ! (Run (mark ∷ [])) (subst (λ (ws : List Val). ent 𝓤 (Run (mark ∷ [])) (Run (ws ++ []))) (sym e0) (id⊢ 𝓤 (Run (mark ∷ [])))) $
          enter ! 𝓣.C 𝓣.Λ here (mark ∷ []) _ $ alloc_all ! (λ l. pass_all ! refl ((tt, (tt, tt)), tt) $
          let En : Env 𝓤 H = env here.locals l in
          sets ! (of_opd ! (unit_lit !)) refl (tt, tt) $ returns ! (look_at ! 0 refl) $ free_all ! refl $ keep ! (0 ∷ []) $ by ! exits))

    meets : Meets 𝓛 ended.signature (WpFn 𝓤 H 𝓣.C 𝓣.Λ here) (closing 𝓛 ended held)
    meets = walk_Meets 𝓛 ended stayed (Goes-dropped 𝓛 1 (plain (λ _. Cr E)) no (λ κs x f. refl), tt) held (WpFn 𝓤 H 𝓣.C 𝓣.Λ here) (WpFn-mono 𝓤 H 𝓛.laws 𝓣 here) walk

pub end_spec : {M : Type 1} → stated.statement M
unfolding tables_of
end_spec 𝓤 𝓛 𝓜 𝓡 wired X L =
    let E : El = record { row = X; laws = L } in
    let 𝓣 : Tables 𝓤 𝓛.H = tables_of 𝓤 𝓛.H 𝓜 (tables 𝓤 𝓛.H 𝓜 𝓡 𝓡.env) in
    entered 𝓤 𝓛.H (triple_of 𝓛 (F.signature X) (F.spec X 𝓛 𝓜.mem 𝓡.returns)) 𝓣.C 𝓣.Λ (#self (args E)) (here E) (code.unfolded 𝓤 𝓛.H 𝓜 𝓡 wired (X, tt))
    (meets E 𝓛 𝓜.mem 𝓡.returns 𝓣)
