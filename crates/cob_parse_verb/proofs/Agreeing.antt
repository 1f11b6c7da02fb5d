-- With more room heads and the choices of EVALUATE are read alike, unless there was too little.
use Rattle.std.proofs.Common.{◌≡◌, ◌&&◌, ℕ, ◌+◌, ◌-◌, ◌≤◌, subst, arith}
use Rattle.cob_tree.specs.Cues.{is, Throughs, Whens}
use Rattle.cob_tree.specs.Takes.{begins_opnd, begins_loop}
use Rattle.reading.specs.Readers.{here_if, lead, stands}
use Rattle.reading.specs.Printing.{begins}
use Rattle.reading.specs.Law.{Agrees}
use Rattle.reading.proofs.Wider.{agree_same, agree_seen, agree_follow, agree_seq, agree_branch, agree_choose, agree_optional, agree_opt, agree_phrase, agree_plus}
use Rattle.cob_parse_expr.specs.Alphabet.{grammar}
use Rattle.cob_parse_expr.specs.Classes.{name_of, const_of}
use Rattle.cob_parse_expr.specs.Reading.{second, expr_at}
use Rattle.cob_parse_expr.specs.CondReading.{cond_at}
use Rattle.cob_parse_expr.proofs.ExprAgree.{expr_wider}
use Rattle.cob_parse_expr.proofs.CondAgree.{cond_wider}
use Rattle.cob_parse_verb.specs.Words as word
use Rattle.cob_parse_verb.specs.declared.word.Start.{Start}
use Rattle.cob_parse_verb.specs.declared.word.Start.TheVariants as start
use Rattle.cob_parse_verb.specs.Words.{the, equal_of, test_point_of, begin_of}
use Rattle.cob_parse_verb.specs.Procedure.{procedure}
use Rattle.cob_parse_verb.specs.Heads.{arithmetic, if_head}
use Rattle.cob_parse_verb.specs.Lists.{cons, recvs_at}
use Rattle.cob_parse_verb.specs.Sums.{make_compute, compute_at}
use Rattle.cob_parse_verb.specs.Turning.{times_at, varying_at, until_at, make_varied, varied_at, make_tested, tested_at, make_loop, loop_at, turns, follows_name, qualified_at, through_at, behind_name, named_at, unnamed_at, make_perform, perform_at, is_alone, make_sel, sel_at, choice_at, choices_at}
use Rattle.cob_parse_verb.specs.Reading.{behind_at, head_at}

module _ (a b : ℕ) (cond : Agrees (cond_at a) (cond_at b)) (expr : Agrees (expr_at a) (expr_at b)) where
  agree_compute : Agrees (compute_at a) (compute_at b)
  agree_compute = agree_seen make_compute _ _ (agree_follow _ _ _ _ (agree_same recvs_at) (λ rs. agree_branch equal_of _ _ (λ x. expr)))

  agree_until : Agrees (until_at a) (until_at b)
  agree_until = agree_branch (the word.Until) _ _ (λ x. cond)

  agree_varied : Agrees (varied_at a) (varied_at b)
  agree_varied = agree_seen make_varied _ _ (agree_choose (stands (the word.Varying)) _ _ _ _ (agree_branch (the word.Varying) _ _ (λ x. agree_follow _ _ _ _ (agree_same varying_at) (λ v. agree_until))) agree_until)

  agree_tested : Agrees (tested_at a) (tested_at b)
  agree_tested = agree_seen make_tested _ _ (agree_choose (stands (the word.Test)) _ _ _ _ (agree_branch (the word.Test) _ _ (λ x. agree_seq _ _ _ _ (agree_same (lead test_point_of)) agree_varied)) agree_varied)

  agree_loop : Agrees (loop_at a) (loop_at b)
  agree_loop = agree_seen make_loop _ _ (agree_choose (begins grammar begins_opnd) _ _ _ _ (agree_same times_at) agree_tested)

  agree_through : Agrees (through_at a) (through_at b)
  agree_through = agree_branch (the word.Thru) _ _ (λ x. agree_phrase _ _ _ _ (agree_same (lead name_of)) agree_loop (here_if (begins procedure begins_loop)))

  agree_behind_name : Agrees (behind_name a) (behind_name b)
  agree_behind_name = agree_choose turns _ _ _ _ (agree_same qualified_at) (agree_choose (stands (the word.Thru)) _ _ _ _ agree_through agree_loop)

  agree_named : Agrees (named_at a) (named_at b)
  agree_named = agree_branch name_of _ _ (λ text. agree_optional (here_if (begins procedure follows_name)) _ _ agree_behind_name)

  agree_unnamed : Agrees (unnamed_at a) (unnamed_at b)
  agree_unnamed = agree_choose (stands const_of) _ _ _ _ (agree_same _) agree_tested

  agree_perform : Agrees (perform_at a) (perform_at b)
  agree_perform = agree_seen make_perform _ _ (agree_optional (here_if (begins procedure begins_loop)) _ _ (agree_choose (stands name_of) _ _ _ _ agree_named agree_unnamed))

  agree_sel : Agrees (sel_at a) (sel_at b)
  agree_sel = agree_seen make_sel _ _ (agree_choose (stands (the word.Any)) _ _ _ _ (agree_same (lead (the word.Any))) (agree_opt _ _ _ _ cond (agree_branch (the word.Thru) _ _ (λ x. expr)) (λ c ts. is_alone c && begins grammar (is Throughs) ts)))

  agree_choices : Agrees (choices_at a) (choices_at b)
  agree_choices = agree_seen cons _ _ (agree_plus (begins grammar (is Whens)) (choice_at a) (choice_at b) (agree_seen second _ _ (agree_branch (the word.When) _ _ (λ x. agree_sel))))

  agree_behind : (s : Start) → Agrees (behind_at a s) (behind_at b s)
  agree_behind start.Compute = agree_seen arithmetic _ _ agree_compute
  agree_behind start.If = agree_seen if_head _ _ cond
  agree_behind start.Perform = agree_perform
  agree_behind start.Move = agree_same _
  agree_behind start.Set = agree_same _
  agree_behind start.Display = agree_same _
  agree_behind start.Add = agree_same _
  agree_behind start.Subtract = agree_same _
  agree_behind start.Multiply = agree_same _
  agree_behind start.Divide = agree_same _
  agree_behind start.Evaluate = agree_same _
  agree_behind start.Go = agree_same _
  agree_behind start.Exit = agree_same _
  agree_behind start.Continue = agree_same _
  agree_behind start.Stop = agree_same _
  agree_behind start.Open = agree_same _
  agree_behind start.Close = agree_same _
  agree_behind start.Read = agree_same _
  agree_behind start.Write = agree_same _

  agree_head : Agrees (head_at a) (head_at b)
  agree_head = agree_branch begin_of _ _ (λ x. agree_behind x.start)

rest_of : (room wide : ℕ) → room ≤ wide → room + (wide - room) ≡ wide
rest_of room wide le = omega (arith, le)

pub heads_agree : (room wide : ℕ) → room ≤ wide → Agrees (head_at room) (head_at wide)
heads_agree room wide le = subst (λ (w : ℕ). Agrees (head_at room) (head_at w)) (rest_of room wide le) (agree_head room (room + (wide - room)) (cond_wider room (wide - room)) (expr_wider room (wide - room)))

pub choices_agree : (room wide : ℕ) → room ≤ wide → Agrees (choices_at room) (choices_at wide)
choices_agree room wide le = subst (λ (w : ℕ). Agrees (choices_at room) (choices_at w)) (rest_of room wide le) (agree_choices room (room + (wide - room)) (cond_wider room (wide - room)) (expr_wider room (wide - room)))
