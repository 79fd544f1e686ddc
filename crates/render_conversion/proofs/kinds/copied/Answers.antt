use Rattle.std.proofs.Common.{◌≡◌, IfOk, ◌∙◌, ap, sym, subst}
use Rattle.std.specs.Option.{option_map}
use Rattle.std.proofs.lemmas.Str.{chars-nil}
use Rattle.render_conversion.specs.Meanings.{or_empty}
use Rattle.render_conversion.proofs.kinds.copied.Goals as goal

pub returns-in-None : goal.returns-in-None
returns-in-None c =
    subst (λ cs. IfOk c.from_str.result (λ copy. copy ≡ cs))
    (chars-nil ∙ sym (ap (λ o. or_empty (option_map (λ t. t.now) o)) c.in-None.is)) c.from_str.ensures
