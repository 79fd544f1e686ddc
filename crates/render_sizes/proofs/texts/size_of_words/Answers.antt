use Rattle.std.proofs.Common.{false, sym, ap, ◌∙◌}
use Rattle.std.proofs.lemmas.Str.{chars-IsAscii}
use Rattle.render_sizes.specs.Extents.{capped}
use Rattle.render_sizes.specs.TextSizes.{size_after}
use Rattle.render_sizes.proofs.texts.size_of_words.Goals as goal

pub returns-then-is_ascii : goal.returns-then-is_ascii
returns-then-is_ascii c =
    c.size_of_bytes.ensures
    ∙ ap (λ cs. capped (size_after false cs))
    (c.as_bytes.ensures.value ∙ sym (chars-IsAscii c.args.text.now c.if-is_ascii.ensures.cases))
