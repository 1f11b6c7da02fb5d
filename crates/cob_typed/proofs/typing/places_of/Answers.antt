use Rattle.std.proofs.Common.{◌∙◌, ◌+◌, sym, ap, map, take, bytes_eq, if◌then◌else◌}
use Rattle.cob_typed_exprs.specs.Search.{found_and}
use Rattle.cob_typed_exprs.specs.Scope.{found_in, paras_from}
use Rattle.cob_typed_exprs.specs.Paras.{para_in}
use Rattle.cob_typed.proofs.ParaLemmas.{paras_step}
use Rattle.cob_typed.proofs.typing.places_of.Goals as goal

pub loop-paragraph-preserved : goal.loop-paragraph-preserved
loop-paragraph-preserved c =
    let l = c.loop-paragraph in
    let i = l.paragraph-index in
    let ps = c.args.paragraphs.now in
    let x = c.paragraph-item.result in
    let counted = c.in_ok-place.ensures ∙ ap (λ k. k + 1) l.invariant.place in record {
      place = counted;
      has = λ text.
          let before = found_in (paras_from 1 text (map (λ p. p.name) (take i ps))) in
          c.in_ok-add_place.ensures text
          ∙ ap (λ n. if bytes_eq text n then found_and (para_in l.places text) c.in_ok-place.place else para_in l.places text) c.get.ensures
          ∙ ap (λ k. if bytes_eq text x.name then found_and (para_in l.places text) k else para_in l.places text) counted
          ∙ ap (λ f. if bytes_eq text x.name then found_and f (i + 1) else f) (l.invariant.has text)
          ∙ sym (paras_step ps i x text c.loop-paragraph-test.true c.paragraph-item.is);
    }
