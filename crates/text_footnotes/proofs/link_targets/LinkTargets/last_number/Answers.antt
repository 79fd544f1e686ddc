use Rattle.std.proofs.Common.{ap, sym, ◌∙◌, unwrap_or, length, slice_get, true, ◌-◌}
use Rattle.text_footnotes.specs.Links.{all_targets}
use Rattle.text_footnotes.specs.Targets.{last_number}
use Rattle.text_footnotes.proofs.LastLemmas.{last_numbered}
use Rattle.text_footnotes.proofs.link_targets.LinkTargets.last_number.Goals as goal

pub returns-in-Some-clause-number : goal.returns-in-Some-clause-number
returns-in-Some-clause-number c = c.unwrap_or.ensures
    ∙ ap (λ o. unwrap_or o 0) (c.copied.ensures ∙ c.get.ensures.value)
    ∙ last_numbered c.number_all.new.self.targets.items c.number_all.new.self.numbers c.in-Some.target.now
    c.in_ok-number_all.ensures.numbered
    (c.in-Some.ensures.value ∙ ap (λ xs. slice_get xs (length xs - 1)) c.deref.ensures.value)
    ∙ ap (last_number true) c.number_all.ensures.stay
    ∙ ap (λ b. last_number b (all_targets c.args.self.now)) (sym c.if-not-shared.false)
