-- What is known of heads and choices.
use Rattle.cob_parse_verb.proofs.Growing.{heads_grow, choices_grow}
use Rattle.cob_parse_verb.proofs.Agreeing.{heads_agree, choices_agree}
use Rattle.cob_parse_proc.proofs.Syntaxes.{Known}
use Rattle.cob_parse_proc.proofs.Never.{head_never, choices_never}
use Rattle.cob_parse_proc.proofs.StmtAgree.{Rooms}

pub known : Known
known = record { head_never = head_never; choices_never = λ d xs good. choices_never xs; heads_grow = heads_grow; choices_grow = choices_grow }

pub rooms : Rooms
rooms = record { heads_agree = heads_agree; choices_agree = choices_agree }
