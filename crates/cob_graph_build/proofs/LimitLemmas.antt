-- A program is over one limit at most, with one count, and has no graph within the limits then.
use Rattle.std.proofs.Common.{◌≡◌, ◌⊎◌, ℕ, min, length, Result, Ok, Err, refl, sym, ap, ◌∙◌, inl, inr, arith}
use Rattle.std.specs.Prelude.{IfOk}
use Rattle.cob_data.specs.declared.end.Rule.{Rule}
use Rattle.cob_data.specs.declared.end.Which.{Which}
use Rattle.cob_data.specs.declared.end.Which.TheVariants as which
use Rattle.cob_program.specs.Act.{Program}
use Rattle.cob_graph.specs.declared.end.FlowEnd.{FlowEnd}
use Rattle.cob_graph.specs.declared.end.FlowEnd.TheVariants as end
use Rattle.cob_graph.specs.declared.graph.Graph.{Graph}
use Rattle.cob_graph.specs.Graphs.{final_of, IsGraph, IsOver}
use Rattle.cob_graph.specs.Limits.{most_told}
use Rattle.cob_graph.proofs.Lengths.{final_is}
use Rattle.cob_graph.proofs.OneCopy.{one_main_copy, one_count}
use Rattle.cob_graph_build.specs.Limits.{IsWithinLimits}

module _ (p : Program) where
  over_once : (v w : Which) (m n : ℕ) → IsOver p v m → IsOver p w n → end.Limit v m ≡ end.Limit w n
  over_once which.Cells which.Cells m n h k = ap (end.Limit which.Cells) (h.counted ∙ sym k.counted)
  over_once which.Cells which.Nodes m n h k = absurd (omega (arith, h.counted, h.over, k.cells))
  over_once which.Nodes which.Cells m n h k = absurd (omega (arith, k.counted, k.over, h.cells))
  over_once which.Nodes which.Nodes m n h k =
      ap (end.Limit which.Nodes)
      (h.told ∙ ap (λ i. min i most_told) (one_count p h.nodes k.nodes h.counted k.counted) ∙ sym k.told)
  over_once which.Cells which.Items m n h k = absurd k
  over_once which.Cells which.Storage m n h k = absurd k
  over_once which.Cells which.Files m n h k = absurd k
  over_once which.Cells which.Nesting m n h k = absurd k
  over_once which.Nodes which.Items m n h k = absurd k
  over_once which.Nodes which.Storage m n h k = absurd k
  over_once which.Nodes which.Files m n h k = absurd k
  over_once which.Nodes which.Nesting m n h k = absurd k
  over_once which.Items w m n h k = absurd h
  over_once which.Storage w m n h k = absurd h
  over_once which.Files w m n h k = absurd h
  over_once which.Nesting w m n h k = absurd h

  within_or_over : (g : Graph) (w : Which) (n : ℕ) → IsGraph p g → IsWithinLimits g → IsOver p w n → ⊥
  within_or_over g which.Cells n is fits over =
      omega (arith, ap length is.cells, fits.cells, over.counted, over.over)
  within_or_over g which.Nodes n is fits over =
      omega (
        arith,
        final_is p g is,
        ap final_of (one_main_copy p is.copies over.counted.copies is.laid over.counted.laid),
        fits.nodes,
        over.counted.counted,
        over.over,
      )
  within_or_over g which.Items n is fits over = over
  within_or_over g which.Storage n is fits over = over
  within_or_over g which.Files n is fits over = over
  within_or_over g which.Nesting n is fits over = over

  -- an answer that holds tells each limit that the program is over
  pub limit_told : (r : Result Graph FlowEnd) → IfOk r (IsGraph p) → IfOk r (λ g. IsWithinLimits g) →
      ((w : Which) (n : ℕ) → r ≡ Err (end.Limit w n) → IsOver p w n) →
      ((rule : Rule) (line : ℕ) → r ≡ Err (end.Outside rule line) → ⊥) →
      (w : Which) (n : ℕ) → IsOver p w n → (r ≡ Err (end.Limit w n)) ⊎ (r ≡ Err end.Memory)
  limit_told (Ok g) is fits limit inside w n over = absurd (within_or_over g w n is fits over)
  limit_told (Err (end.Limit v m)) is fits limit inside w n over =
      inl (ap (λ (e : FlowEnd). Err e) (over_once v w m n (limit v m refl) over))
  limit_told (Err (end.Outside rule line)) is fits limit inside w n over = absurd (inside rule line refl)
  limit_told (Err end.Memory) is fits limit inside w n over = inr refl
