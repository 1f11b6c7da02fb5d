-- Along an edge less is seen where less is known before it.
use Rattle.std.proofs.Common.{◌≡◌, ℕ, Bool, true, false, ◌&&◌, not, if◌then◌else◌, List, [], ◌∷◌, Option, Some, None, refl}
use Rattle.std.specs.Option.{option_map_or}
use Rattle.cob_tree.specs.declared.fault.Kind.{Kind}
use Rattle.cob_program.specs.Values.{◌>>=◌}
use Rattle.cob_program.specs.Act.{Act, Program}
use Rattle.cob_runs.specs.declared.action.Action.{Action}
use Rattle.cob_edge_parts.specs.Parts.{Part, parts_of}
use Rattle.interval_domain.specs.Known.{Known}
use Rattle.interval_domain.specs.Elements.{CellsFit, ElementFits, CellsBelow, ElementBelow}
use Rattle.cell_steps.specs.OwnRanges.{owns}
use Rattle.cell_steps.specs.Seen.{Seen, beginning}
use Rattle.cell_steps.specs.Stores.{handled}
use Rattle.cell_steps.specs.Steps.{step}
use Rattle.cell_steps.specs.Clearing.{clears_part, clears_parts}
use Rattle.cell_steps.specs.Edges.{steps, finished, post_cells}
use Rattle.cell_steps.specs.Order.{SeenBelow}
use Rattle.cell_laws.proofs.ResultLaws.{Given}
use Rattle.cell_laws.proofs.CellLists.{cells_reflexive}
use Rattle.cell_laws.proofs.PartsRise.{BelowIf, rises}
use Rattle.cell_laws.proofs.ClearsFall.{clears_below}
use Rattle.cell_laws.proofs.PartsDone.{both_true, and_true}

module _ (given : Given) (p : Program) (a : Act) (x : Action) where
  pub begins_below : (as_ bs : List Known) → CellsFit (owns p) as_ → CellsBelow as_ bs → SeenBelow p a x (beginning as_) (beginning bs)
  begins_below as_ bs f h = record {
    fits = f;
    cells = h;
    written = refl;
    common = tt;
    untaken = λ e g k. absurd cc;
    zero = λ e. e;
    fails = λ e. e;
  }

  then_rises : (o q : Option Seen) (ys : List Part) → BelowIf p a x o q → ((s t : Seen) → SeenBelow p a x s t → BelowIf p a x (steps p a x ys s) (steps p a x ys t))
      → BelowIf p a x (o >>= λ s. steps p a x ys s) (q >>= λ t. steps p a x ys t)
  then_rises None q ys h more = tt
  then_rises (Some s) None ys h more = absurd h
  then_rises (Some s) (Some t) ys h more = more s t h

  pub steps_rise : (ys : List Part) (s t : Seen) → SeenBelow p a x s t → BelowIf p a x (steps p a x ys s) (steps p a x ys t)
  steps_rise [] s t h = h
  steps_rise (y ∷ ys) s t h = then_rises (step p a x y s) (step p a x y t) ys (rises given p a x y s t h) (λ u v k. steps_rise ys u v k)

  if_falls : (o q : Option Seen) (ys : List Part) (fault : Kind) → BelowIf p a x o q → ((s t : Seen) → SeenBelow p a x s t → clears_parts p a x ys t fault ≡ true → clears_parts p a x ys s fault ≡ true)
      → option_map_or (λ t. clears_parts p a x ys t fault) q true ≡ true → option_map_or (λ s. clears_parts p a x ys s fault) o true ≡ true
  if_falls None q ys fault h more e = refl
  if_falls (Some s) None ys fault h more e = absurd h
  if_falls (Some s) (Some t) ys fault h more e = more s t h e

  pub clears_fall : (ys : List Part) (s t : Seen) (fault : Kind) → SeenBelow p a x s t → clears_parts p a x ys t fault ≡ true → clears_parts p a x ys s fault ≡ true
  clears_fall [] s t fault h e = refl
  clears_fall (y ∷ ys) s t fault h e =
      let two = both_true (clears_part p a x y t fault) (option_map_or (λ u. clears_parts p a x ys u fault) (step p a x y t) true) e in
      and_true (clears_part p a x y s fault) (option_map_or (λ u. clears_parts p a x ys u fault) (step p a x y s) true)
      (clears_below given p a x y s t fault h two.0)
      (if_falls (step p a x y s) (step p a x y t) ys fault (rises given p a x y s t h) (λ u v k c. clears_fall ys u v fault k c) two.1)

  -- ---- the end

  pub finished_rises : (o q : Option Seen) → BelowIf p a x o q → ElementBelow (finished p a x o) (finished p a x q)
  finished_rises None q h = tt
  finished_rises (Some s) None h = absurd h
  finished_rises (Some s) (Some t) h = go (handled p a x) s.any_fail t.any_fail h.fails
    where
      go : (k u v : Bool) → (u ≡ true → v ≡ true) → ElementBelow (if k && not u then None else Some s.cells) (if k && not v then None else Some t.cells)
      go true true true uv = h.cells
      go true true false uv = absurd (let e = uv refl in cc)
      go true false v uv = tt
      go false u v uv = h.cells

  pub finished_fits : (o : Option Seen) → BelowIf p a x o o → ElementFits (owns p) (finished p a x o)
  finished_fits None h = tt
  finished_fits (Some s) h = go (handled p a x && not s.any_fail)
    where
      go : (b : Bool) → ElementFits (owns p) (if b then None else Some s.cells)
      go true = tt
      go false = h.fits

module _ (given : Given) (p : Program) (statement : ℕ) (a : Act) (x : Action) where
  pub posts_rise : (as_ bs : List Known) → CellsFit (owns p) as_ → CellsBelow as_ bs → ElementBelow (post_cells p statement a x as_) (post_cells p statement a x bs)
  posts_rise as_ bs f h =
      finished_rises given p a x (steps p a x (parts_of p statement a x) (beginning as_)) (steps p a x (parts_of p statement a x) (beginning bs))
      (steps_rise given p a x (parts_of p statement a x) (beginning as_) (beginning bs) (begins_below given p a x as_ bs f h))

  pub posts_fit : (cs : List Known) → CellsFit (owns p) cs → ElementFits (owns p) (post_cells p statement a x cs)
  posts_fit cs f =
      finished_fits given p a x (steps p a x (parts_of p statement a x) (beginning cs))
      (steps_rise given p a x (parts_of p statement a x) (beginning cs) (beginning cs) (begins_below given p a x cs cs f (cells_reflexive cs)))

  pub clears_stay : (as_ bs : List Known) (fault : Kind) → CellsFit (owns p) as_ → CellsBelow as_ bs → clears_parts p a x (parts_of p statement a x) (beginning bs) fault ≡ true → clears_parts p a x (parts_of p statement a x) (beginning as_) fault ≡ true
  clears_stay as_ bs fault f h e = clears_fall given p a x (parts_of p statement a x) (beginning as_) (beginning bs) fault (begins_below given p a x as_ bs f h) e
