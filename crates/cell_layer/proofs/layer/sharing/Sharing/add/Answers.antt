use Rattle.std.proofs.Common.{List, [], ◌∷◌, ◌++◌, refl, ap, subst, sym, ◌∙◌}
use Rattle.std.specs.List.{All}
use Rattle.std.specs.Prelude.{slice_get}
use Rattle.cob_program.specs.ActView.{plain_program}
use Rattle.edge_parts.specs.declared.work.EdgeWork.{EdgeWork}
use Rattle.cell_layer.specs.Works.{IsOfProgram}
use Rattle.cell_layer.proofs.WorkPlaces.{found_if, at_end}
use Rattle.cell_layer.proofs.layer.sharing.Sharing.add.Goals as goal

pub invariant_of-self : goal.invariant_of-self
invariant_of-self c =
    let s = c.args.self.now in
    record {
      source = s.source;
      listed = s.listed;
      found = subst (λ (ws : List EdgeWork). ∥ All (IsOfProgram (plain_program s.program.now)) ws ∥₁) (sym c.push.ensures.items)
          (found_if (plain_program s.program.now) s.works.items c.args.work _ s.found c.requires.of_program);
    }

pub invariant_of-self-2 : goal.invariant_of-self-2
invariant_of-self-2 c =
    let s = c.args.self.now in
    record {
      source = s.source;
      listed = s.listed;
      found = subst (λ (ws : List EdgeWork). ∥ All (IsOfProgram (plain_program s.program.now)) ws ∥₁) (sym c.push.ensures.items)
          (found_if (plain_program s.program.now) s.works.items c.args.work _ s.found c.requires.of_program);
    }

pub returns-clause-place : goal.returns-clause-place
returns-clause-place c =
    let s = c.args.self.now in
    let w = c.args.work in
    let place = c.len-place.ensures ∙ s.works.ok.0 in
    record {
      work = w;
      at = ap (λ (ws : List EdgeWork). slice_get ws c.len-place.result) c.in_ok-push.ensures.items
          ∙ (ap (slice_get (s.works.items ++ w ∷ [])) place ∙ at_end s.works.items w);
      of_statement = refl;
      by_action = refl;
    }
