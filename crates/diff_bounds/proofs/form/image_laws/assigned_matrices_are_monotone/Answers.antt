use Rattle.diff_bounds.proofs.Forms.{lower_words}
use Rattle.diff_bounds.specs.Matrix.{word}
use Rattle.std.proofs.Common.{◌+◌}
use Rattle.diff_bounds.proofs.Assigned.{assigned_lower}
use Rattle.diff_bounds.proofs.form.image_laws.assigned_matrices_are_monotone.Goals as goal

pub returns : goal.returns
returns c a b f g to x y is below narrower within one other =
    let n = c.args.size + 1 in
    assigned_lower c.args.size (word n a) (word n b) x y to f g within (lower_words c.args.size a b is below) narrower.coefs narrower.low narrower.high one other
