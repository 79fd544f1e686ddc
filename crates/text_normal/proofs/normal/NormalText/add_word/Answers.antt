use Rattle.std.proofs.Common.{ap, ◌∙◌, refl, chars}
use Rattle.std.specs.Option.{option_map}
use Rattle.text_normal.proofs.NormalWords.{word_laid}
use Rattle.text_normal.proofs.normal.NormalText.add_word.Goals as goal

pub returns-clause-laid : goal.returns-clause-laid
returns-clause-laid g c =
    let seen = g.T.EqualCopy.seen in
    let old = c.args.self.now in
    word_laid seen old (record old { lines = c.add_run.new.self; space = c.take-space.new.self }) c.add_space.new.self _
    (chars c.args.run.now) c.args.c (seen c.args.tag.now)
    (ap (option_map seen) (c.as_ref.ensures.value ∙ c.take-space.ensures.value)) c.in_ok-add_run.ensures.laid refl
    (ap (option_map seen) c.take-space.ensures.after) refl c.in_ok-add_space.ensures.read
