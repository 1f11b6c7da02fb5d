-- Each cause for which a program has no graph is answered.
use Rattle.std.proofs.Common.{◌≡◌, ◌⊎◌, ℕ, Result, Err, ap, ◌∙◌, inl, inr}
use Rattle.cob_data.specs.declared.end.Rule.{Rule}
use Rattle.cob_data.specs.declared.end.Which.{Which}
use Rattle.cob_program.specs.Act.{Program}
use Rattle.cob_graph.specs.declared.end.FlowEnd.{FlowEnd}
use Rattle.cob_graph.specs.declared.end.FlowEnd.TheVariants as flow
use Rattle.cob_graph.specs.Nesting.{IsNested, IsOutside}
use Rattle.cob_graph.specs.Graphs.{IsOver}
use Rattle.cob_front.specs.declared.refusal.Refusal.{Refusal}
use Rattle.cob_front.specs.declared.refusal.Refusal.TheVariants as end
use Rattle.cob_front.specs.Source.{IsRefused}
use Rattle.cob_front.specs.Control.{IsControlCause}

pub told_as : {T : Type 0} (told : Result T FlowEnd) (ending : FlowEnd) (r rule : Rule) (n line : ℕ) →
    told ≡ Err ending → ending ≡ flow.Outside r n → rule ≡ r → line ≡ n → told ≡ Err (flow.Outside rule line)
told_as told ending r rule n line is it same_rule same_line = cc

-- one answer tells one rule
same_rule : {T : Type 0} (told : Result T FlowEnd) (rule other : Rule) (line l : ℕ) →
    told ≡ Err (flow.Outside rule line) → (told ≡ Err (flow.Outside other l)) ⊎ (told ≡ Err flow.Memory) →
    (end.Outside rule line ≡ end.Outside other l) ⊎ (end.Outside rule line ≡ end.Memory)
same_rule told rule other line l same (inl e) =
    let one : rule ≡ other = cc in
    let two : line ≡ l = cc in
    inl (ap (λ r. end.Outside r line) one ∙ ap (end.Outside other) two)
same_rule told rule other line l same (inr e) = let never : ⊥ = cc in absurd never

module _ (p : Program) where
  -- where PERFORMs nest only limits are left
  pub refused_inside : {T : Type 0} (r : Result T Refusal) → IsNested p →
      ((w : Which) (n : ℕ) → IsOver p w n → IsRefused r (end.Limit w n)) →
      (e : Refusal) → IsControlCause p e → IsRefused r e
  refused_inside r nested limits (end.Outside rule line) cause = absurd (nested.kept rule line cause.broken)
  refused_inside r nested limits (end.Limit w n) cause = limits w n cause.1
  refused_inside r nested limits end.TooLong cause = absurd cause
  refused_inside r nested limits (end.BadLine line column) cause = absurd cause
  refused_inside r nested limits (end.BadToken line column) cause = absurd cause
  refused_inside r nested limits (end.Syntax line) cause = absurd cause
  refused_inside r nested limits (end.Nesting count) cause = absurd cause
  refused_inside r nested limits end.Memory cause = absurd cause

  -- where PERFORMs don't nest, one rule is broken first, and it is told
  pub refused_outside : {T : Type 0} (told : Result T FlowEnd) (rule : Rule) (line : ℕ) →
      told ≡ Err (flow.Outside rule line) →
      ((other : Rule) (l : ℕ) → told ≡ Err (flow.Outside other l) → IsOutside p other l) →
      ((other : Rule) (l : ℕ) → IsOutside p other l →
      (told ≡ Err (flow.Outside other l)) ⊎ (told ≡ Err flow.Memory)) →
      (e : Refusal) → IsControlCause p e → (end.Outside rule line ≡ e) ⊎ (end.Outside rule line ≡ end.Memory)
  refused_outside told rule line same outside exact (end.Outside other l) cause =
      same_rule told rule other line l same (exact other l cause)
  refused_outside told rule line same outside exact (end.Limit w count) cause =
      absurd (cause.0.kept rule line (outside rule line same).broken)
  refused_outside told rule line same outside exact end.TooLong cause = absurd cause
  refused_outside told rule line same outside exact (end.BadLine l column) cause = absurd cause
  refused_outside told rule line same outside exact (end.BadToken l column) cause = absurd cause
  refused_outside told rule line same outside exact (end.Syntax l) cause = absurd cause
  refused_outside told rule line same outside exact (end.Nesting count) cause = absurd cause
  refused_outside told rule line same outside exact end.Memory cause = absurd cause
