-- A fault that an edge clears by both layers is met by none of its parts.
use Rattle.std.proofs.Common.{◌≡◌, ℕ, true, inl, inr, List, [], ◌∷◌, ◌++◌, Option, Some, None, ℤ, refl, ◌∙◌}
use Rattle.std.specs.Prelude.{IsSomeAnd}
use Rattle.std.specs.Option.{option_map_or}
use Rattle.std.proofs.lemmas.List.{append_assoc}
use Rattle.cob_tree.specs.declared.fault.Kind.{Kind}
use Rattle.cob_program.specs.Act.{Act, Program}
use Rattle.cob_runs.specs.declared.action.Action.{Action}
use Rattle.cob_edge_parts.specs.Parts.{Part, parts_of}
use Rattle.cob_edge_parts.specs.Meaning as run
use Rattle.cob_edge_parts.specs.Meaning.{Moment}
use Rattle.cob_edge_parts.specs.Edges.{fault_edge}
use Rattle.cob_edge_parts.specs.Counters.{MeetsAmong}
use Rattle.dom_laws.specs.Walking.{Meets}
use Rattle.interval_domain.specs.Known.{Known}
use Rattle.cell_steps.specs.Storages.{storage, StandsIn}
use Rattle.cell_steps.specs.Seen.{Seen, beginning}
use Rattle.cell_steps.specs.Stores.{handled}
use Rattle.cell_steps.specs.Agreeing.{IsSoundEdge, walking}
use Rattle.cell_laws.proofs.PartsDone.{both_true}
use Rattle.cell_laws.proofs.OneReceiver.{meets_walk}
use Rattle.diff_steps.specs.Packs.{Pack, PacksStand}
use Rattle.diff_steps.specs.Moments.{Seen2}
use Rattle.diff_steps.specs.Steps.{all_closed, step2}
use Rattle.diff_steps.specs.Edges.{beginning2}
use Rattle.diff_steps.specs.Clearing.{clears_part2, clears_parts2}
use Rattle.pack_laws.specs.Agreeing.{AreMatrices, ArePacksOf, Agrees2}
use Rattle.pack_laws.specs.EdgeLaws.{ClearedIsntMet}
use Rattle.pack_laws.proofs.PacksKeep.{part_keeps}
use Rattle.pack_laws.proofs.PacksStand.{begins, closed_at}
use Rattle.pack_laws.proofs.PacksClear.{part_cleared}

module _ (p : Program) (packs : List Pack) (of : ArePacksOf p packs) (statement : ℕ) (a : Act) (x : Action) (fault : Kind) (its : fault_edge a x ≡ x) where
  parts_cleared : (done ys : List Part) (s : Seen) (r : Seen2) (m : Moment) → done ++ ys ≡ parts_of p statement a x → Agrees2 p packs statement a x done s r m → clears_parts2 p packs a x ys s r fault ≡ true
      → ¬ Meets (walking p statement a x) ys m fault
  parts_cleared done [] s r m e g clear meets = meets
  parts_cleared done (y ∷ ys) s r m e g clear meets =
      let two = both_true (clears_part2 p packs a x y s r fault) (option_map_or (λ t. clears_parts2 p packs a x ys t.0 t.1 fault) (step2 p a x packs y s r) true) clear in
      by_meeting two.0 meets
      (λ next held hs. behind next (step2 p a x packs y s r) held two.1 (λ u k c. parts_cleared (done ++ y ∷ []) ys u.0 u.1 next (append_assoc done (y ∷ []) ys ∙ e) k c hs))
    where
      behind : (next : Moment) (o : Option (Seen × Seen2)) → IsSomeAnd o (λ u. Agrees2 p packs statement a x (done ++ y ∷ []) u.0 u.1 next) → option_map_or (λ t. clears_parts2 p packs a x ys t.0 t.1 fault) o true ≡ true
          → ((u : Seen × Seen2) → Agrees2 p packs statement a x (done ++ y ∷ []) u.0 u.1 next → clears_parts2 p packs a x ys u.0 u.1 fault ≡ true → ⊥) → ⊥
      behind next None k c later = k
      behind next (Some u) k c later = later u k c

      by_meeting : clears_part2 p packs a x y s r fault ≡ true → Meets (walking p statement a x) (y ∷ ys) m fault
          → ((next : Moment) → IsSomeAnd (step2 p a x packs y s r) (λ u. Agrees2 p packs statement a x (done ++ y ∷ []) u.0 u.1 next) → Meets (walking p statement a x) ys next fault → ⊥) → ⊥
      by_meeting c (inl f) later = part_cleared p packs of statement a x done ys y s r m fault e g c f
      by_meeting c (inr (next, h, hs)) later = later next (part_keeps p packs statement a x of done ys y s r m next e g h) hs

  pub edge_cleared : (cells : List Known) (bytes : List ℕ) (counts : List (Option ℤ)) (ms : List (List ℤ)) → IsSoundEdge p statement a x → StandsIn p cells (storage bytes counts) → AreMatrices packs ms → PacksStand p.layout packs ms (storage bytes counts)
      → option_map_or (λ cs. clears_parts2 p packs a x (parts_of p statement a x) (beginning cells) (beginning2 cs) fault) (all_closed p cells packs ms) true ≡ true
      → ¬ MeetsAmong p.layout (handled p a x) (parts_of p statement a x) (run.beginning bytes counts) fault
  edge_cleared cells bytes counts ms sound stands are stand = begun (all_closed p cells packs ms) (closed_at p packs statement a x of sound cells bytes counts stands ms are stand)
    where
      begun : (o : Option (List (List ℤ))) → IsSomeAnd o (λ cs. AreMatrices packs cs × PacksStand p.layout packs cs (storage bytes counts))
          → option_map_or (λ cs. clears_parts2 p packs a x (parts_of p statement a x) (beginning cells) (beginning2 cs) fault) o true ≡ true
          → ¬ MeetsAmong p.layout (handled p a x) (parts_of p statement a x) (run.beginning bytes counts) fault
      begun None k clear = absurd k
      begun (Some cs) (fit, k) clear =
          λ meets. parts_cleared [] (parts_of p statement a x) (beginning cells) (beginning2 cs) (run.beginning bytes counts) refl (begins p packs statement a x of sound cells bytes counts stands cs fit k) clear
          (meets_walk p statement a x (run.beginning bytes counts) fault its meets)

pub none_cleared_is_met : ClearedIsntMet
none_cleared_is_met p packs statement a x cells ms bytes counts fault of sound stands are stand clear its = edge_cleared p packs of statement a x fault its cells bytes counts ms sound stands are stand clear
