-- What contracts see of a sum: each type's layer, with what its children are seen as in their place.
use Rattle.cob_program.specs.declared.sum.Sum as declared_sum
use Rattle.cob_program.specs.declared.sum.Part as declared_part
use Rattle.cob_program.specs.declared.sum.Factor as declared_factor
use Rattle.cob_program.specs.declared.sum.Atom as declared_atom
use Rattle.cob_program.specs.declared.sum.Atom.TheOpen as layer
use Rattle.cob_program.specs.declared.sum.Atom.TheFolds.{fold-Sum, fold-Part, fold-Factor, fold-Atom}
use Rattle.cob_program.specs.Sum.{Sum, MkSum, parts_of, Part, MkPart, factors_of, Factor, MkFactor, Atom, item, number, group}

abbrev atom_step : layer.Atom-F Atom Factor Part Sum → Atom
atom_step (layer.Item place) = item place
atom_step (layer.Number n) = number n
atom_step (layer.Group b) = group b.value

abbrev factor_step : layer.Factor-F Atom Factor Part Sum → Factor
factor_step f = MkFactor f.over f.minus f.atom

abbrev part_step : layer.Part-F Atom Factor Part Sum → Part
part_step p = MkPart p.minus (factors_of p.factors.items)

abbrev sum_step : layer.Sum-F Atom Factor Part Sum → Sum
sum_step s = MkSum (parts_of s.parts.items)

abbrev pub plain_sum : declared_sum.Sum → Sum
plain_sum = fold-Sum Atom Factor Part Sum atom_step factor_step part_step sum_step

abbrev pub plain_part : declared_part.Part → Part
plain_part = fold-Part Atom Factor Part Sum atom_step factor_step part_step sum_step

abbrev pub plain_factor : declared_factor.Factor → Factor
plain_factor = fold-Factor Atom Factor Part Sum atom_step factor_step part_step sum_step

abbrev pub plain_atom : declared_atom.Atom → Atom
plain_atom = fold-Atom Atom Factor Part Sum atom_step factor_step part_step sum_step
