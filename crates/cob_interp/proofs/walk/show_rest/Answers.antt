use Rattle.std.proofs.Common.{inl, inr, refl, sym, ◌∙◌}
use Rattle.cob_interp.proofs.walk.show_rest.Goals as goal

pub returns-then-shows_first-clause-shows : goal.returns-then-shows_first-clause-shows
returns-then-shows_first-clause-shows g c =
    (refl, inl (refl, refl, inl (sym c.shows_first.ensures ∙ c.if-shows_first.true)))

pub returns-then-not-is_failure-clause-shows : goal.returns-then-not-is_failure-clause-shows
returns-then-not-is_failure-clause-shows g c =
    (refl, inl (refl, refl, inr (sym c.is_failure.ensures ∙ c.if-not-is_failure.true)))

pub returns-in-Ok-clause-shows : goal.returns-in-Ok-clause-shows
returns-in-Ok-clause-shows g c = (
  refl,
  inr (
    c.in-Ok.ensures.flushes,
    sym c.shows_first.ensures ∙ c.if-shows_first.false,
    sym c.is_failure.ensures ∙ c.if-not-is_failure.false,
  ),
)

pub returns-in-Err-clause-shows : goal.returns-in-Err-clause-shows
returns-in-Err-clause-shows g c = (
  c.in-Err.ensures.flushes,
  sym c.shows_first.ensures ∙ c.if-shows_first.false,
  sym c.is_failure.ensures ∙ c.if-not-is_failure.false,
)
