use Rattle.std.proofs.Common.{chars, sym, ◌∙◌}
use Rattle.render_sizes.proofs.SizeLemmas.{empty_size, white_size, words_size}
use Rattle.render_sizes.proofs.texts.text_size.Goals as goal

pub returns-then-is_empty : goal.returns-then-is_empty
returns-then-is_empty c = empty_size c.args.text.now (sym c.is_empty.ensures ∙ c.if-is_empty.true)

pub returns-then-is_white_space : goal.returns-then-is_white_space
returns-then-is_white_space c =
    white_size c.args.text.now c.utf8.text (sym c.is_empty.ensures ∙ c.if-is_empty.false)
    (sym c.is_white_space.ensures ∙ c.if-is_white_space.true)

pub returns : goal.returns
returns c =
    c.size_of_words.ensures
    ∙ words_size (chars c.args.text.now) (sym c.is_white_space.ensures ∙ c.if-is_white_space.false)
