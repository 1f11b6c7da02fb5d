-- What is read of the ends of ranges, one range after the other.
use Rattle.std.proofs.Common.{◌≡◌, ℕ, ◌+◌, ◌<◌, List, [], ◌∷◌, ◌++◌, length, get_or, drop, refl, sym, ap, append_assoc, ◌∙◌, arith}
use Rattle.cob_data.specs.declared.layout.Layout.{Layout}
use Rattle.cob_data.specs.declared.layout.Pair.{Pair}
use Rattle.cob_data.specs.declared.layout.Sender.TheVariants as sender
use Rattle.cob_program.proofs.Loops.{item_step}
use Rattle.cob_edge_parts.specs.Parts.{end_reads, member_reads, text_reads}
use Rattle.edge_parts.specs.Pieces.{sides_reads}

pub ends_first : (l : Layout) (xs : List Pair) (i : ℕ) (x : Pair) → i < length xs → x ≡ get_or xs i x →
    end_reads l (drop i xs) ≡ sides_reads l x.low x.high ++ end_reads l (drop (i + 1) xs)
ends_first l xs i x within is =
    ap (end_reads l) (item_step xs i x within is)
    ∙ sym (append_assoc (text_reads l x.low) (text_reads l x.high) (end_reads l (drop (i + 1) xs)))

pub member_cut : (l : Layout) (place : ℕ) (ps : List Pair) → 0 < length ps →
    member_reads l place ps ≡ text_reads l (sender.Item place) ++ end_reads l ps
member_cut l place [] some = absurd (omega arith)
member_cut l place (p ∷ ps) some = refl
