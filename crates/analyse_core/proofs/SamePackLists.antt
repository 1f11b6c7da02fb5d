-- Thresholds of equal packs of equal cells are equal.
use Rattle.std.specs.Prelude.{◌≡◌, List, ℤ, map}
use Rattle.cob_runs.specs.declared.action.Cell.{Cell}
use Rattle.diff_bounds.specs.declared.Pack as declared
use Rattle.analyse_core.specs.Choice.{numbers_of}
use Rattle.analyse_core.specs.PackThresholds.{thresholds_of_pack}

pub same_pack_lists : (lists : List (List ℤ)) (cs ds : List Cell) (ps qs : List declared.Pack) → cs ≡ ds → ps ≡ qs →
    map (thresholds_of_pack cs lists) (numbers_of ps) ≡ map (thresholds_of_pack ds lists) (numbers_of qs)
same_pack_lists lists cs ds ps qs cells packs = λ i. map (thresholds_of_pack (cells i) lists) (numbers_of (packs i))
