-- What is known of differences where a run begins: matrices, in which each storage stands that stands in what is known of
-- the cells.
use Rattle.std.proofs.Common.{◌≡◌, ◌≢◌, ℕ, ◌+◌, ◌≤◌, Bool, true, false, List, [], ◌∷◌, map, ℤ, pos, Option, Some, None, refl, ◌∙◌, arith}
use Rattle.std.specs.Prelude.{nat_eq, IsSomeAnd, if◌then◌else◌}
use Rattle.std.specs.List.{AllByRecursion}
use Rattle.std.proofs.lemmas.Bool.{eq-eqb, ne_eqb}
use Rattle.std.proofs.lemmas.Int.{ints}
use Rattle.cob_data.specs.declared.layout.Layout.{Layout}
use Rattle.cob_program.specs.Act.{Program}
use Rattle.dom_laws.specs.Meaning.{Storage}
use Rattle.diff_bounds.specs.Matrix.{word, none, IsBound, IsWord, IsMatrix}
use Rattle.interval_domain.specs.Known.{Known}
use Rattle.cell_steps.specs.Premises.{HasSoundItems}
use Rattle.cell_steps.specs.Storages.{StandsIn}
use Rattle.diff_steps.specs.Packs.{Pack, size_of, PackStands, PacksStand}
use Rattle.diff_steps.specs.Edges.{or_bottoms, no_bounds, entry_packs}
use Rattle.diff_steps.specs.Steps.{all_closed}
use Rattle.pack_laws.proofs.Occurrences.{first_home}
use Rattle.pack_laws.proofs.Words.{word_at}
use Rattle.pack_laws.specs.Agreeing.{AreMatrices}
use Rattle.pack_laws.proofs.PacksClosingRise.{words_are_matrix}
use Rattle.pack_laws.proofs.PacksPutRise.{all_are_flat, all_fit}
use Rattle.pack_laws.proofs.PacksFit.{or_bottoms_fit}
use Rattle.pack_laws.proofs.PacksKeep.{all_closed_stand}

-- ---- no bounds

abbrev no_word : ℕ → ℕ → ℤ
no_word i j = if nat_eq i j then pos 0 else none

same_place : (i j : ℕ) → i ≡ j → no_word i j ≡ pos 0
same_place i j e = rw (eq-eqb i j e) refl

other_place : (i j : ℕ) → i ≢ j → no_word i j ≡ none
other_place i j ne = rw (ne_eqb i j ne) refl

no_bounds_are_matrix : (size : ℕ) → IsMatrix size (no_bounds size)
no_bounds_are_matrix size = words_are_matrix size no_word (λ i j. by_place (nat_eq i j)) (λ i h. same_place i i refl)
  where
    by_place : (b : Bool) → IsWord (if b then pos 0 else none)
    by_place true = record { low = omega (arith, ints); high = λ b. omega (arith, ints); top = omega (arith, ints) }
    by_place false = record { low = omega (arith, ints); high = λ b. absurd (omega (arith, ints, b)); top = omega (arith, ints) }

no_bounds_stand : (l : Layout) (pack : Pack) (s : Storage) → PackStands l pack (no_bounds (size_of pack)) s
no_bounds_stand l pack s = record {
  bounded = λ i j h g ne b. absurd (unbounded (word (size_of pack + 1) (no_bounds (size_of pack)) i j) (word_at (size_of pack) no_word i j h g ∙ other_place i j ne) b);
}
  where
    unbounded : (x : ℤ) → x ≡ none → IsBound x → ⊥
    unbounded x e b = omega (arith, ints, e, b)

-- of each pack
abbrev pub unbounded_packs : List Pack → List (List ℤ)
unbounded_packs packs = map (λ pack. no_bounds (size_of pack)) packs

pub unbounded_are : (packs : List Pack) → AllByRecursion (λ pack. size_of pack ≤ 8) packs → AreMatrices packs (unbounded_packs packs)
unbounded_are [] few = tt
unbounded_are (pack ∷ packs) few = ((few.0, no_bounds_are_matrix (size_of pack)), unbounded_are packs few.1)

unbounded_stand : (l : Layout) (s : Storage) (packs : List Pack) → PacksStand l packs (unbounded_packs packs) s
unbounded_stand l s [] = tt
unbounded_stand l s (pack ∷ packs) = (no_bounds_stand l pack s, unbounded_stand l s packs)

-- ---- the entry

module _ (p : Program) (packs : List Pack) (few : AllByRecursion (λ pack. size_of pack ≤ 8) packs) (known : List Known) where
  pub entry_fits : AreMatrices packs (entry_packs p packs known)
  entry_fits =
      let are = unbounded_are packs few in
      or_bottoms_fit packs (unbounded_packs packs) (all_closed p known packs (unbounded_packs packs)) are
      (all_fit p known packs (unbounded_packs packs) (all_are_flat packs (unbounded_packs packs) are))

  pub entry_stands : HasSoundItems p.layout → (s : Storage) → StandsIn p known s → PacksStand p.layout packs (entry_packs p packs known) s
  entry_stands sound s stands =
      closed (all_closed p known packs (unbounded_packs packs))
      (all_closed_stand p known s (λ h. stands.known h 0 (first_home p.layout sound h)) packs (unbounded_packs packs) (all_are_flat packs (unbounded_packs packs) (unbounded_are packs few)) (unbounded_stand p.layout s packs))
    where
      closed : (o : Option (List (List ℤ))) → IsSomeAnd o (λ cs. PacksStand p.layout packs cs s) → PacksStand p.layout packs (or_bottoms packs o) s
      closed None h = absurd h
      closed (Some cs) h = h
