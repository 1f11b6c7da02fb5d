use Rattle.std.proofs.Common.{ap, sym, length, ◌∙◌, w64}
use Rattle.std.proofs.lemmas.Int.{to_z-of_z}
use Rattle.num_bytes.specs.Reading.{contents_value}
use Rattle.num_bytes.specs.Writing.{contents_bytes, number_bytes}
use Rattle.num_bytes.proofs.RoundTrip.{contents_back}
use Rattle.num_bytes.proofs.contents.put.Goals as goal

pub returns-in-Number-clause-read_back : goal.returns-in-Number-clause-read_back
returns-in-Number-clause-read_back c =
    let same = ap (number_bytes c.in-Number.digits c.in-Number.signed c.in-Number.usage) (to_z-of_z w64 c.args.value c.ranges.value) in
    let written = c.write_number.ensures ∙ (same ∙ sym (ap (λ f. contents_bytes f c.args.value) c.in-Number.is)) in
    ap (contents_value c.args.form.now) written ∙ contents_back c.args.form.now c.args.value (length c.args.bytes.now) c.requires
