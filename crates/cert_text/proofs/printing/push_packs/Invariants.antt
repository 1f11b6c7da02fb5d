use Rattle.std.proofs.Common.{◌≡◌, ◌++◌, map, take}
use Rattle.cert_text.specs.Text.{entries_text, pack_entry}
use Rattle.cert_text.proofs.printing.push_packs.Given as goal

abbrev pub invariant-loop-pack : goal.invariant-loop-pack
invariant-loop-pack l = l.text.items ≡ l.fn.text.items ++ entries_text (map pack_entry (map (λ p. p.cells.items) (take l.pack-index l.packs)))
