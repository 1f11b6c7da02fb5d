use Rattle.diff_bounds.proofs.Forms.{lower_words}
use Rattle.diff_bounds.specs.Matrix.{word}
use Rattle.std.proofs.Common.{◌+◌}
use Rattle.diff_bounds.proofs.Demanded.{demanded_lower}
use Rattle.diff_bounds.proofs.form.image_laws.demanded_matrices_are_monotone.Goals as goal

pub returns : goal.returns
returns c a b f g x y is below narrower one other =
    let n = c.args.size + 1 in
    demanded_lower c.args.size (word n a) (word n b) x y f g (lower_words c.args.size a b is below) narrower.coefs narrower.low one other
