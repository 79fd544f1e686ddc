use Rattle.std.proofs.Common.{ap, ◌∙◌, length, chars}
use Rattle.std.specs.Prelude.{◌==◌}
use Rattle.std.proofs.lemmas.Bool.{false≢true}
use Rattle.text_preserved.specs.SourceLines.{pass_of}
use Rattle.text_preserved.proofs.WordLemmas.{no_text}
use Rattle.text_preserved.proofs.WordsRead.{words_read}
use Rattle.text_preserved.proofs.source_line.SourceLine.read_words.Goals as goal

pub returns-clause-pass : goal.returns-clause-pass
returns-clause-pass g c =
    let seen = g.T.EqualCopy.seen in
    words_read (chars c.words_front.result.0.now) (chars c.words_front.result.1.now) (chars c.args.text.now)
    (seen c.args.main_tag.now) (seen c.args.wrap_tag.now) (pass_of seen c.args.self.now)
    (pass_of seen c.lay_words.new.self) c.in_ok-taken.field-0 c.words_front.ensures.parts c.requires.wraps
    c.requires.no_body
    c.requires.no_word c.in_ok-taken.ensures c.words_front.ensures.words
    (λ none. false≢true (c.if-is_empty.ensures ∙ ap (λ l. length l == 0) (no_text c.words_front.result.0.now
    c.words_front.ensures.text none))) c.in_ok-lay_words.ensures.pass
