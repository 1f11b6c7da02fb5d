-- What is known of differences behind an edge is true of what its parts lead to.
use Rattle.std.proofs.Common.{◌≡◌, ℕ, Bool, true, false, ◌&&◌, not, if◌then◌else◌, List, [], ◌∷◌, Option, Some, None, ℤ, refl, sym, ap, subst, ◌∙◌}
use Rattle.std.specs.Prelude.{IfSome, IsSomeAnd}
use Rattle.cob_program.specs.Values.{◌>>=◌}
use Rattle.cob_program.specs.Act.{Act, Program}
use Rattle.cob_runs.specs.declared.action.Action.{Action}
use Rattle.cob_edge_parts.specs.Parts.{Part, parts_of}
use Rattle.cob_edge_parts.specs.Meaning as run
use Rattle.cob_edge_parts.specs.Meaning.{Moment}
use Rattle.cob_edge_parts.specs.Counters.{PassesParts}
use Rattle.interval_domain.specs.Known.{Known}
use Rattle.cell_steps.specs.Storages.{storage, StandsIn, ElementStands}
use Rattle.cell_steps.specs.Seen.{Seen, beginning}
use Rattle.cell_steps.specs.Stores.{handled}
use Rattle.cell_steps.specs.Steps.{step}
use Rattle.cell_steps.specs.Edges.{steps, finished}
use Rattle.cell_steps.specs.Agreeing.{IsSoundEdge}
use Rattle.cell_laws.proofs.EachEdge.{all_posts_stand}
use Rattle.cell_laws.proofs.OneReceiver.{passes_walk}
use Rattle.cell_laws.proofs.StoresKeep.{then_is}
use Rattle.cell_laws.proofs.WalkLawsHold.{cell_laws}
use Rattle.cell_laws.proofs.EdgesAreSound.{begins as cells_begin}
use Rattle.diff_steps.specs.Packs.{Pack, PacksStand}
use Rattle.diff_steps.specs.Moments.{Seen2, with_packs}
use Rattle.diff_steps.specs.Steps.{all_closed, changed, step2}
use Rattle.diff_steps.specs.Edges.{beginning2, or_bottoms, steps2, finished2}
use Rattle.pack_laws.specs.Agreeing.{AreMatrices, ArePacksOf, Agrees2}
use Rattle.pack_laws.specs.EdgeLaws.{PostsStand}
use Rattle.pack_laws.proofs.Occurrences.{first_home}
use Rattle.pack_laws.proofs.PacksPutRise.{all_are_flat, all_fit}
use Rattle.pack_laws.proofs.PacksKeep.{all_closed_stand, parts_keep}

module _ (p : Program) (packs : List Pack) (statement : ℕ) (a : Act) (x : Action) where
  abbrev after : Part → Seen → Seen2 → Seen → List (List ℤ) → Option (Seen × Seen2)
  after y s r t ms = Some (t, with_packs (changed p a x packs y s r) ms)

  -- what is seen of cells doesn't depend on matrices
  seen_steps : (ys : List Part) (s : Seen) (r : Seen2) (u : Seen × Seen2) → steps2 p packs a x ys s r ≡ Some u → steps p a x ys s ≡ Some u.0
  seen_steps [] s r u e = let same : (s, r) ≡ u = cc in ap (λ (v : Seen × Seen2). Some v.0) same
  seen_steps (y ∷ ys) s r u e =
      let v = then_is (step2 p a x packs y s r) (λ v. steps2 p packs a x ys v.0 v.1) u e in
      let t = then_is (step p a x y s) (λ t. all_closed p t.cells packs (changed p a x packs y s r).packs >>= λ ms. after y s r t ms) v.0 v.1 in
      let c = then_is (all_closed p t.0.cells packs (changed p a x packs y s r).packs) (λ ms. after y s r t.0 ms) v.0 t.2 in
      let one : step p a x y s ≡ Some v.0.0 = t.1 ∙ ap (λ (o : Option (Seen × Seen2)). o >>= λ w. Some w.0) c.2 in
      ap (λ (o : Option Seen). o >>= λ t. steps p a x ys t) one ∙ seen_steps ys v.0.0 v.0.1 u v.2

  module _ (of : ArePacksOf p packs) (sound : IsSoundEdge p statement a x) (cells : List Known) (bytes : List ℕ) (counts : List (Option ℤ)) (stands : StandsIn p cells (storage bytes counts)) where
    pub begins : (cs : List (List ℤ)) → AreMatrices packs cs → PacksStand p.layout packs cs (storage bytes counts) → Agrees2 p packs statement a x [] (beginning cells) (beginning2 cs) (run.beginning bytes counts)
    begins cs are stand = record {
      cells = cells_begin cell_laws p statement a x cells bytes counts sound stands;
      tracked = record { same = λ place n less e. refl };
      matrices = are;
      stand = stand;
    }

    pub closed_at : (ms : List (List ℤ)) → AreMatrices packs ms → PacksStand p.layout packs ms (storage bytes counts) → IsSomeAnd (all_closed p cells packs ms) (λ cs. AreMatrices packs cs × PacksStand p.layout packs cs (storage bytes counts))
    closed_at ms are stand =
        both (all_closed p cells packs ms) (all_fit p cells packs ms (all_are_flat packs ms are)) (all_closed_stand p cells (storage bytes counts) (λ h. stands.known h 0 (first_home p.layout sound.items h)) packs ms (all_are_flat packs ms are) stand)
      where
        both : (o : Option (List (List ℤ))) → IfSome o (AreMatrices packs) → IsSomeAnd o (λ cs. PacksStand p.layout packs cs (storage bytes counts)) → IsSomeAnd o (λ cs. AreMatrices packs cs × PacksStand p.layout packs cs (storage bytes counts))
        both None fit h = h
        both (Some cs) fit h = (fit, h)

    module _ (last : Moment) (h : PassesParts p.layout (handled p a x) (parts_of p statement a x) (run.beginning bytes counts) last) (failed : last.failed ≡ handled p a x) where
      -- on an edge of size errors some receiver may have kept its value
      taken : (t : Seen) → steps p a x (parts_of p statement a x) (beginning cells) ≡ Some t → (handled p a x && not t.any_fail) ≡ false
      taken t e = go (handled p a x && not t.any_fail) (subst (λ (o : Option Seen). ElementStands p (finished p a x o) (storage last.storage last.counts)) e (all_posts_stand p statement a x cells bytes counts last sound stands h failed))
        where
          go : (b : Bool) → ElementStands p (if b then None else Some t.cells) (storage last.storage last.counts) → b ≡ false
          go true k = absurd k
          go false k = refl

      ended : (cs : List (List ℤ)) (o : Option (Seen × Seen2)) → steps2 p packs a x (parts_of p statement a x) (beginning cells) (beginning2 cs) ≡ o → IsSomeAnd o (λ u. Agrees2 p packs statement a x (parts_of p statement a x) u.0 u.1 last)
          → PacksStand p.layout packs (or_bottoms packs (finished2 p packs a x o)) (storage last.storage last.counts)
      ended cs None e k = absurd k
      ended cs (Some u) e k =
          subst (λ (b : Bool). PacksStand p.layout packs (or_bottoms packs (if b then None else Some u.1.packs)) (storage last.storage last.counts)) (sym (taken u.0 (seen_steps (parts_of p statement a x) (beginning cells) (beginning2 cs) u e))) k.stand

      begun : (o : Option (List (List ℤ))) → IsSomeAnd o (λ cs. AreMatrices packs cs × PacksStand p.layout packs cs (storage bytes counts))
          → PacksStand p.layout packs (or_bottoms packs (o >>= λ cs. finished2 p packs a x (steps2 p packs a x (parts_of p statement a x) (beginning cells) (beginning2 cs)))) (storage last.storage last.counts)
      begun None k = absurd k
      begun (Some cs) (are, stand) =
          ended cs (steps2 p packs a x (parts_of p statement a x) (beginning cells) (beginning2 cs)) refl
          (parts_keep p packs statement a x of [] (parts_of p statement a x) (beginning cells) (beginning2 cs) (run.beginning bytes counts) last refl (begins cs are stand)
          (passes_walk p statement a x (run.beginning bytes counts) last refl failed h))

      pub post_stands : (ms : List (List ℤ)) → AreMatrices packs ms → PacksStand p.layout packs ms (storage bytes counts)
          → PacksStand p.layout packs (or_bottoms packs (all_closed p cells packs ms >>= λ cs. finished2 p packs a x (steps2 p packs a x (parts_of p statement a x) (beginning cells) (beginning2 cs)))) (storage last.storage last.counts)
      post_stands ms are stand = begun (all_closed p cells packs ms) (closed_at ms are stand)

pub all_packs_stand : PostsStand
all_packs_stand p packs statement a x cells ms bytes counts last of sound stands are stand h failed = post_stands p packs statement a x of sound cells bytes counts stands last h failed ms are stand
