-- A plan's nodes have operations of their statements.
use Rattle.std.proofs.Common.{◌≡◌, ℕ, zero, suc, List, [], ◌∷◌, ◌++◌, refl, sym, ap, ◌∙◌, subst}
use Rattle.std.specs.Prelude.{slice_get, Option, Some, None}
use Rattle.std.proofs.lemmas.Option.{same_Some, none-some}
use Rattle.cob_program.specs.Act.{Act, Program}
use Rattle.cob_runs.specs.declared.action.Action.{Action}
use Rattle.cob_runs.specs.declared.action.Action.TheVariants as action
use Rattle.cob_runs.specs.Effects.{act_at}
use Rattle.cob_graph.specs.declared.graph.Graph.{Graph}
use Rattle.cob_graph.specs.Nodes.{Noded}
use Rattle.cob_graph.specs.Graphs.{all_nodes, final_node, IsGraph}
use Rattle.cob_graph.specs.WellFormed.{IsWellFormed}
use Rattle.cob_plan.specs.declared.node.Op.{Op}
use Rattle.cob_plan.specs.declared.node.Op.TheVariants as op
use Rattle.cob_plan.specs.declared.node.PlanNode.{PlanNode}
use Rattle.cob_plan.specs.Plan.{op_edges}
use Rattle.cob_plan.specs.Fitting.{Fits, BeginsRead, IsFitting}
use Rattle.cob_plan.specs.Nodes.{AreOfOne, IsLaidOut, IsNoded}
use Rattle.cob_plan.proofs.LaidNodes.{ways_of_op}
use Rattle.cob_plan.proofs.LaidSteps.{step_nodes}
use Rattle.cob_plan.proofs.LaidFits.{IsFit, EachFits, program_fits}

-- ---- an operation is known by its edges

abbrev Ways : Type 0
Ways = List (Action × ℕ)

abbrev to_first : Ways → ℕ
to_first [] = 0
to_first (x ∷ xs) = x.1

abbrev behind : Ways → Ways
behind [] = []
behind (x ∷ xs) = xs

abbrev size_of : Ways → Option ℕ
size_of [] = None
size_of (x ∷ xs) = Some x.1

abbrev by_action : Action → ℕ → Ways → Op
by_action action.Skip to xs = op.Skip to
by_action action.Assign to xs = op.Assign to
by_action action.Show to xs = op.Show to
by_action action.SetCount to xs = op.SetCount to
by_action action.Down to xs = op.CountDown to
by_action action.Done to xs = op.Compute to (size_of xs)
by_action (action.True k) to xs = op.Test k to (to_first xs)
by_action (action.Open k) to xs = op.Open k to (to_first xs)
by_action (action.Close k) to xs = op.Close k to (to_first xs)
by_action action.Take to xs = op.Read to (to_first xs) (to_first (behind xs))
by_action action.Write to xs = op.Write to (to_first xs)
by_action _ to xs = op.Final

abbrev by_edges : Ways → Op
by_edges [] = op.Final
by_edges (x ∷ xs) = by_action x.0 x.1 xs

known : (o : Op) → by_edges (op_edges o) ≡ o
known (op.Skip to) = refl
known (op.Assign to) = refl
known (op.Show to) = refl
known (op.SetCount to) = refl
known (op.CountDown to) = refl
known (op.Compute fine None) = refl
known (op.Compute fine (Some size)) = refl
known (op.Test k held other) = refl
known (op.Open k fine bad) = refl
known (op.Close k fine bad) = refl
known (op.Read found at_end bad) = refl
known (op.Write fine bad) = refl
known op.Final = refl

one_op : (a b : Op) → op_edges a ≡ op_edges b → a ≡ b
one_op a b e = sym (known a) ∙ ap by_edges e ∙ known b

-- ---- plans

fits_at : (p : Program) (ns : List Noded) (k : ℕ) (x : Noded) → EachFits p ns → slice_get ns k ≡ Some x → IsFit p x
fits_at p [] k x t e = absurd (none-some x e)
fits_at p (y ∷ ns) zero x t e = subst (IsFit p) (same_Some y x e) t.0
fits_at p (y ∷ ns) (suc k) x t e = fits_at p ns k x t.1 e

-- all nodes have the ways of an operation, the last one none
ways_at : (p : Program) (ns : List Noded) (k : ℕ) (x : Noded) → EachFits p ns → slice_get (ns ++ final_node ∷ []) k ≡ Some x →
    AreOfOne x.out
ways_at p [] zero x t e = subst (λ (y : Noded). AreOfOne y.out) (same_Some final_node x e) tt
ways_at p [] (suc k) x t e = absurd (none-some x e)
ways_at p (y ∷ ns) zero x t e = subst (λ (z : Noded). AreOfOne z.out) (same_Some y x e) (ways_of_op t.0.op y.out t.0.out)
ways_at p (y ∷ ns) (suc k) x t e = ways_at p ns k x t.1 e

module _ (p : Program) (g : Graph) (whole : IsWellFormed p) (is : IsGraph p g) where
  abbrev pub laid_nodes : List Noded
  laid_nodes = all_nodes p is.copies

  abbrev all_fit : EachFits p (step_nodes p is.copies)
  all_fit = (program_fits p whole is.copies is.laid).each

  pub laid_out : IsLaidOut g laid_nodes
  laid_out = record {
    nodes = is.nodes;
    edges = is.edges;
    each = λ i x e. ways_at p (step_nodes p is.copies) i x all_fit e;
  }

  pub laid_fits : (i : ℕ) (x : Noded) → slice_get (step_nodes p is.copies) i ≡ Some x → IsFit p x
  laid_fits i x e = fits_at p (step_nodes p is.copies) i x all_fit e

pub node_fits : (p : Program) (x : Noded) (s : PlanNode) → IsFit p x → IsNoded x s → (a : Act) →
    act_at p s.statement ≡ Some a → IsFitting p s a
node_fits p x s fit node a its =
    let same : fit.op ≡ s.op = one_op fit.op s.op (fit.out ∙ sym node.edges) in
    let at = ap (act_at p) (sym node.statement) ∙ its in
    record {
      fits = subst (λ o. Fits p o a) same (fit.fits a at);
      read = subst (λ o. BeginsRead s.starts o a) same (subst (λ b. BeginsRead b fit.op a) (sym node.starts)
          (fit.read a at));
    }
