-- What is left behind a tree that was read is what stands from the new place on.
use Rattle.std.proofs.Common.{◌≡◌, ℕ, ◌+◌, ◌-◌, ◌≤◌, List, ◌++◌, length, length-append, length-drop, drop, map, sym, ap, ◌∙◌, arith}
use Rattle.std.proofs.lemmas.List.{drop-map, drop-drop, length-map}
use Rattle.std.proofs.Math.Seq.{drop-append_seam}
use Rattle.cob_tree.specs.declared.token.Token.{Token}
use Rattle.cob_tree.specs.Symbols.{Sign, seen}
use Rattle.cob_parse_expr.specs.Places.{from}

drop_to : (u v : List Sign) → drop (length (u ++ v) - length v) (u ++ v) ≡ v
drop_to u v =
    let n : length (u ++ v) - length v ≡ length u = omega (arith, length-append u v) in
    rw n (drop-append_seam u v)

pub rest_is : (tokens : List Token) (old : ℕ) (text rest : List Sign) → old ≤ length tokens → from tokens old ≡ text ++ rest → rest ≡ from tokens (length tokens - length rest)
rest_is tokens old text rest le parts =
    let count : length (drop old tokens) ≡ length text + length rest = sym (length-map (drop old tokens) seen) ∙ ap length parts ∙ length-append text rest in
    let size : length (drop old tokens) ≡ length tokens - old = length-drop old tokens in
    let there : drop (length (text ++ rest) - length rest) (from tokens old) ≡ rest = ap (drop (length (text ++ rest) - length rest)) parts ∙ drop_to text rest in
    let steps : old + (length (text ++ rest) - length rest) ≡ length tokens - length rest = omega (arith, count, size, length-append text rest) in
    sym there ∙ (drop-map seen (length (text ++ rest) - length rest) (drop old tokens) ∙ (ap (map seen) (drop-drop (length (text ++ rest) - length rest) old tokens) ∙ ap (λ (k : ℕ). from tokens k) steps))
