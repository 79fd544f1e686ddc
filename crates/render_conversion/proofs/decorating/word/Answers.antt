use Rattle.std.proofs.Common.{◌≡◌, ◌∙◌, chars}
use Rattle.std.proofs.lemmas.Result.{IfOk-weaker}
use Rattle.tree_predicates.proofs.WordLemmas.{word_chars}
use Rattle.render_conversion.proofs.decorating.word.Goals as goal

pub returns : goal.returns
returns c =
    IfOk-weaker c.from_str.result (λ t. t ≡ chars c.args.word.now) (λ t. t ≡ c.args.word.now)
    (λ t e. e ∙ word_chars c.args.word.now c.requires) c.from_str.ensures
