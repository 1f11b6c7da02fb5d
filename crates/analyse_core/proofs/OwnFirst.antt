-- What a statement mentions: itself, and then its lists.
use Rattle.std.proofs.Common.{◌≡◌, List, ◌++◌, refl, ap, ◌∙◌, append_assoc}
use Rattle.cob_program.specs.Act.{Act, move, arith, if_, evaluate, perform, go, nothing, stop, open_files, close_files, read, write, show}
use Rattle.analyse_core.specs.declared.mention.Mention.{Mention}
use Rattle.analyse_core.specs.Mentions.{if_item, targets_mentions, phrase_mentions, stmts_mentions, act_mentions, own_mentions, inner_mentions}

both : (a : Act) → own_mentions a ++ inner_mentions a ≡ act_mentions a
both (move from to) = refl
both (arith s targets remainder size fine) = append_assoc (targets_mentions targets) (if_item remainder) (phrase_mentions size ++ stmts_mentions fine)
both (if_ t held other) = refl
both (evaluate ws other) = refl
both (perform body turns) = refl
both (go para) = refl
both nothing = refl
both stop = refl
both (open_files files) = refl
both (close_files files) = refl
both (read f into end fine) = refl
both (write place from) = refl
both (show senders) = refl

pub own_first : (a : Act) (old one two : List Mention) → one ≡ old ++ own_mentions a → two ≡ one ++ inner_mentions a → two ≡ old ++ act_mentions a
own_first a old one two e f =
    f ∙ ap (λ xs. xs ++ inner_mentions a) e ∙ append_assoc old (own_mentions a) (inner_mentions a) ∙ ap (λ xs. old ++ xs) (both a)
