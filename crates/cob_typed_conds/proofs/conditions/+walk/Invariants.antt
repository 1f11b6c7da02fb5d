use Rattle.std.proofs.Common.{◌≡◌, ◌++◌, map, option_map}
use Rattle.cob_program.specs.LogicView.{plain_logic}
use Rattle.cob_typed_exprs.specs.Judged.{noted}
use Rattle.cob_typed_conds.specs.Operands.{plain_carry}
use Rattle.cob_typed_conds.specs.Conditions.{walk_conjs, walk_negs}
use Rattle.cob_typed_conds.proofs.Walks.{conjs_from, negs_from}
use Rattle.cob_typed_conds.proofs.conditions.+walk.Given as goal

abbrev pub invariant-add_conjs-loop-conj : goal.invariant-add_conjs-loop-conj
invariant-add_conjs-loop-conj l = record {
  value : map plain_logic l.parts.items ++ (walk_conjs l.scope (option_map plain_carry l.carry) (conjs_from l.conjs l.conj-index)).logics.value ≡ map plain_logic l.initial.parts.items ++ (walk_conjs l.scope (option_map plain_carry l.fn.before) (conjs_from l.conjs 0)).logics.value;
  noted : noted l.line l.findings.items (walk_conjs l.scope (option_map plain_carry l.carry) (conjs_from l.conjs l.conj-index)).logics.broken ≡ noted l.line l.initial.findings.items (walk_conjs l.scope (option_map plain_carry l.fn.before) (conjs_from l.conjs 0)).logics.broken;
}

abbrev pub invariant-add_negs-loop-neg : goal.invariant-add_negs-loop-neg
invariant-add_negs-loop-neg l = record {
  value : map plain_logic l.parts.items ++ (walk_negs l.scope (option_map plain_carry l.carry) (negs_from l.negs l.neg-index)).logics.value ≡ map plain_logic l.initial.parts.items ++ (walk_negs l.scope (option_map plain_carry l.fn.before) (negs_from l.negs 0)).logics.value;
  carry : (walk_negs l.scope (option_map plain_carry l.carry) (negs_from l.negs l.neg-index)).carry ≡ (walk_negs l.scope (option_map plain_carry l.fn.before) (negs_from l.negs 0)).carry;
  noted : noted l.line l.findings.items (walk_negs l.scope (option_map plain_carry l.carry) (negs_from l.negs l.neg-index)).logics.broken ≡ noted l.line l.initial.findings.items (walk_negs l.scope (option_map plain_carry l.fn.before) (negs_from l.negs 0)).logics.broken;
}
