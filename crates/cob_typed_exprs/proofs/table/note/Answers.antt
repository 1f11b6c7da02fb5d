use Rattle.std.proofs.Common.{arith, rules, List, ℕ, ◌≡◌, Some, sym, ap, ◌∙◌, if◌then◌else◌}
use Rattle.std.specs.Cmp.Lexicographic.{nat_list_eq_equiv}
use Rattle.std.specs.Option.{option_copied}
use Rattle.std.specs.Str.{bytes_eq}
use Rattle.std.proofs.lemmas.Map.Text.{hash_map_updates_str}
use Rattle.cob_typed_exprs.specs.Names.{is_named}
use Rattle.cob_typed_exprs.specs.Tables.{last_in}
use Rattle.cob_typed_exprs.proofs.table.note.Goals as goal

pub returns-in_ok-insert-in-Some-clause-last : goal.returns-in_ok-insert-in-Some-clause-last
returns-in_ok-insert-in-Some-clause-last c = λ q.
    let put = hash_map_updates_str c.get.result.now c.args.last.now c.insert.new.self (Some c.args.place) c.in_ok-insert-in-Some.ensures.updates q in
    let turned = nat_list_eq_equiv.symm q c.get.result.now in
    let named : is_named q (option_copied c.args.name) ≡ bytes_eq q c.get.result.now = rw (c.in-Some.is, c.get.ensures) in
    rw (named, turned, ← put)
