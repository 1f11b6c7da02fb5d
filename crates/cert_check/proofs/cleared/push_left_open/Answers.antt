use Rattle.std.proofs.Common.{◌≡◌, ◌<◌, ◌≤◌, ◌∙◌, ◌+◌, ◌++◌, length, ap, drop, arith}
use Rattle.std.proofs.lemmas.List.{get_or_default, drop_all}
use Rattle.cob_tree.specs.declared.fault.Kind.TheVariants.{Size}
use Rattle.cob_program.proofs.Loops.{nothing_left}
use Rattle.cert_check.specs.Clearing.{left_of}
use Rattle.cert_check.proofs.Noting.{pushed_kind}
use Rattle.cert_check.proofs.cleared.push_left_open.Goals as goal

pub loop-kind-preserved : goal.loop-kind-preserved
loop-kind-preserved c =
    let l = c.loop-kind in
    let items = c.all_kinds-kind-items.result in
    let count : length c.all_kinds-kind-items.result ≡ 5 = ap length c.all_kinds-kind-items.ensures in
    let test = c.loop-kind-test.true in
    let within : c.loop-kind.kind-index < length c.all_kinds-kind-items.result = omega (arith, count, test) in
    pushed_kind _ _ c.args.cleared c.args.statement items l.kind-index _ _ _ within (get_or_default items l.kind-index Size _ within)
    c.has.ensures c.in_ok-push_open.ensures l.invariant

pub returns : goal.returns
returns c =
    let l = c.loop-kind in
    let count : length c.all_kinds-kind-items.result ≡ 5 = ap length c.all_kinds-kind-items.ensures in
    let test = c.loop-kind-test.false in
    let over : length c.all_kinds-kind-items.result ≤ c.loop-kind.kind-index = omega (arith, count, test) in
    nothing_left _ _ (left_of c.args.cleared c.args.statement (drop l.kind-index c.all_kinds-kind-items.result))
    (ap (left_of c.args.cleared c.args.statement) (drop_all l.kind-index c.all_kinds-kind-items.result over)) l.invariant
    ∙ ap (λ ks. c.args.pairs.now.items ++ left_of c.args.cleared c.args.statement ks) c.all_kinds-kind-items.ensures
