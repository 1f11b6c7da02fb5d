use Rattle.cert_text.proofs.Refused.{is_found, is_only, is_refused}
use Rattle.cert_text.proofs.reading.read.Goals as goal

pub returns-clause-found : goal.returns-clause-found
returns-clause-found c = is_found c.args.bytes.now c.read_lines.result c.read_lines.ensures

pub returns-clause-only : goal.returns-clause-only
returns-clause-only c = λ d w e. is_only c.args.bytes.now c.read_lines.result d c.read_lines.ensures w e

pub returns-clause-refused : goal.returns-clause-refused
returns-clause-refused c = is_refused c.args.bytes.now c.read_lines.result c.read_lines.ensures
