use Rattle.std.proofs.Common.{◌≡◌, ◌≤◌, length, map}
use Rattle.std.specs.List.{AllByRecursion}
use Rattle.std.proofs.lemmas.Result.{IfOk-weaker}
use Rattle.analyse_core.specs.Mentions.{lists_of}
use Rattle.diff_bounds.specs.Widening.{AreThresholds}
use Rattle.analyse_core.specs.Choice.{numbers_of}
use Rattle.analyse_core.specs.Rising.{Rises}
use Rattle.analyse_core.specs.PackThresholds.{thresholds_of_pack}
use Rattle.analyse_core.proofs.PackUnits.{are_counted, they_rise, they_are_short, they_are_words}
use Rattle.analyse_core.proofs.threshold_lists.pack_thresholds.Goals as goal

pub returns-clause-counted : goal.returns-clause-counted
returns-clause-counted c =
    IfOk-weaker c.thresholds_of.result
    (λ thresholds. lists_of thresholds.items ≡ map (thresholds_of_pack c.args.cells.now (lists_of c.args.lists.now)) (numbers_of c.args.packs.now))
    (λ thresholds. length thresholds.items ≡ length c.args.packs.now)
    (λ thresholds is. are_counted c.args.cells.now (lists_of c.args.lists.now) c.args.packs.now thresholds.items is)
    c.thresholds_of.ensures

pub returns-clause-rise : goal.returns-clause-rise
returns-clause-rise c =
    IfOk-weaker c.thresholds_of.result
    (λ thresholds. lists_of thresholds.items ≡ map (thresholds_of_pack c.args.cells.now (lists_of c.args.lists.now)) (numbers_of c.args.packs.now))
    (λ thresholds. AllByRecursion Rises (lists_of thresholds.items))
    (λ thresholds is. they_rise c.args.cells.now (lists_of c.args.lists.now) c.args.packs.now thresholds.items is)
    c.thresholds_of.ensures

pub returns-clause-short : goal.returns-clause-short
returns-clause-short c =
    IfOk-weaker c.thresholds_of.result
    (λ thresholds. lists_of thresholds.items ≡ map (thresholds_of_pack c.args.cells.now (lists_of c.args.lists.now)) (numbers_of c.args.packs.now))
    (λ thresholds. AllByRecursion (λ list. length list.items ≤ 2048) thresholds.items)
    (λ thresholds is. they_are_short c.args.cells.now (lists_of c.args.lists.now) c.args.packs.now thresholds.items is c.requires.lists c.requires.packs)
    c.thresholds_of.ensures

pub returns-clause-ends : goal.returns-clause-ends
returns-clause-ends c =
    IfOk-weaker c.thresholds_of.result
    (λ thresholds. lists_of thresholds.items ≡ map (thresholds_of_pack c.args.cells.now (lists_of c.args.lists.now)) (numbers_of c.args.packs.now))
    (λ thresholds. AllByRecursion AreThresholds (lists_of thresholds.items))
    (λ thresholds is. they_are_words c.args.cells.now (lists_of c.args.lists.now) c.args.packs.now thresholds.items is c.requires.lists c.requires.decimals)
    c.thresholds_of.ensures
