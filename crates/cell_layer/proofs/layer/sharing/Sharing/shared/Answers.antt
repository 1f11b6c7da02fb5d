use Rattle.std.proofs.Common.{List, ap, sym, refl, ◌∙◌, length}
use Rattle.std.specs.Prelude.{slice_get}
use Rattle.std.proofs.lemmas.Option.{slice_get_read}
use Rattle.edge_parts.specs.declared.work.EdgeWork.{EdgeWork}
use Rattle.cell_layer.proofs.layer.sharing.Sharing.shared.Goals as goal

pub returns-then-is_of : goal.returns-then-is_of
returns-then-is_of c =
    let w = c.in_ok-work.work.now in
    let place = c.in_ok-place.place in
    let xs = c.as_slice.result.now in
    let is = c.is_of.ensures c.if-is_of.true in
    record {
      work = w;
      at = ap (λ (ws : List EdgeWork). slice_get ws place) (sym c.as_slice.ensures.value)
          ∙ slice_get_read xs (length xs) place w refl c.in_ok-work.ensures.lookup.3.0 c.in_ok-work.ensures.lookup.1;
      of_statement = is.0;
      by_action = is.1;
    }
