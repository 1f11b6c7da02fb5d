-- A divisor that the matrix of a pack shows not to be 0.
use Rattle.std.proofs.Common.{◌≡◌, List, length, ℤ, Option, ap, ◌∙◌}
use Rattle.cob_program.specs.Sum.{Atom}
use Rattle.cob_program.specs.Act.{Program}
use Rattle.diff_bounds.specs.declared.form.lin.Lin.{Lin}
use Rattle.sum_forms.specs.SumForms.{atom_form}
use Rattle.interval_domain.specs.Known.{Known}
use Rattle.cob_graph.specs.declared.homes.Home.TheVariants.{Item as of_item}
use Rattle.cell_steps.specs.Stores.{range_at}
use Rattle.diff_steps.specs.Packs.{Pack, cell_of, pack_decimals}
use Rattle.diff_layer.specs.Receiving.{is_apart}
use Rattle.cob_graph.specs.declared.homes.Home.{Home}
use Rattle.diff_layer.specs.Clears.{divisor_apart}

pub apart_is : (p : Program) (known : List Known) (d : Atom) (cells : List Home) (pack : Pack) (m : List ℤ) (form : Option Lin) → cells ≡ pack →
    form ≡ atom_form (pack_decimals p.layout cells) (λ place. cell_of cells (of_item place)) (range_at p known) d →
    is_apart (length cells) m form ≡ divisor_apart p known d pack m
apart_is p known d cells pack m form same e =
    ap (is_apart (length cells) m) e ∙ ap (λ k. divisor_apart p known d k m) same
