-- What an edge makes of a row of matrices, beside what is known of cells at its source.
use Rattle.std.specs.Prelude.{ℕ, nat_eq, ◌&&◌, not, if◌then◌else◌, List, [], ◌∷◌, map, ℤ, pos, Option, Some, None}
use Rattle.cob_program.specs.Values.{◌>>=◌}
use Rattle.cob_program.specs.Act.{Act, Program}
use Rattle.cob_runs.specs.declared.action.Action.{Action}
use Rattle.cob_edge_parts.specs.Parts.{Part, parts_of}
use Rattle.diff_bounds.specs.Matrix.{none}
use Rattle.interval_domain.specs.Known.{Known}
use Rattle.interval_domain.specs.Elements.{Element}
use Rattle.cell_steps.specs.Seen.{Seen, beginning}
use Rattle.cell_steps.specs.Stores.{handled}
use Rattle.diff_steps.specs.Packs.{Pack, size_of}
use Rattle.diff_steps.specs.Matrices.{with_words, bottom}
use Rattle.diff_steps.specs.Moments.{Seen2}
use Rattle.diff_steps.specs.Steps.{all_closed, step2}

-- no run comes
abbrev pub bottoms : List Pack → List (List ℤ)
bottoms packs = map (λ pack. bottom (size_of pack)) packs

abbrev pub or_bottoms : List Pack → Option (List (List ℤ)) → List (List ℤ)
or_bottoms packs None = bottoms packs
or_bottoms packs (Some ms) = ms

abbrev pub no_bounds : ℕ → List ℤ
no_bounds size = with_words size (λ i j. if nat_eq i j then pos 0 else none)

abbrev pub beginning2 : List (List ℤ) → Seen2
beginning2 ms = record { wrote = []; packs = ms }

module _ (p : Program) (packs : List Pack) where
  -- what is known where a run begins, by what is known of cells there
  abbrev pub entry_packs : List Known → List (List ℤ)
  entry_packs known = or_bottoms packs (all_closed p known packs (map (λ pack. no_bounds (size_of pack)) packs))

module _ (p : Program) (packs : List Pack) (a : Act) (x : Action) where
  -- the parts in turn
  abbrev pub steps2 : List Part → Seen → Seen2 → Option (Seen × Seen2)
  steps2 [] s r = Some (s, r)
  steps2 (y ∷ ys) s r = step2 p a x packs y s r >>= λ t. steps2 ys t.0 t.1

  -- An edge of size errors isn't taken where no receiver may keep its value.
  abbrev pub finished2 : Option (Seen × Seen2) → Option (List (List ℤ))
  finished2 None = None
  finished2 (Some t) = if handled p a x && not t.0.any_fail then None else Some t.1.packs

module _ (p : Program) (packs : List Pack) (statement : ℕ) (a : Act) (x : Action) where
  abbrev pub walked_packs : Element → List (List ℤ) → Option (List (List ℤ))
  walked_packs known ms =
      known >>= λ cells. all_closed p cells packs ms >>= λ cs.
      finished2 p packs a x (steps2 p packs a x (parts_of p statement a x) (beginning cells) (beginning2 cs))

  -- A negative cycle in one pack, or nothing that is known of cells to be possible, leaves nothing in any.
  abbrev pub post_packs : Element → List (List ℤ) → List (List ℤ)
  post_packs known ms = or_bottoms packs (walked_packs known ms)
