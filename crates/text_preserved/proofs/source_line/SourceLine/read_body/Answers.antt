use Rattle.std.proofs.Common.{chars}
use Rattle.text_preserved.specs.SourceLines.{pass_of}
use Rattle.text_preserved.proofs.BodyLemmas.{body_left}
use Rattle.text_preserved.proofs.source_line.SourceLine.read_body.Goals as goal

pub returns-clause-pass : goal.returns-clause-pass
returns-clause-pass g c =
    let seen = g.T.EqualCopy.seen in
    body_left (chars c.body_front.result.0.now) (chars c.body_front.result.1.now) (chars c.args.text.now)
    (seen c.args.main_tag.now) (seen c.args.wrap_tag.now) (pass_of seen c.args.self.now)
    (pass_of seen c.add_text.new.self) c.body_front.ensures.parts c.requires.begun c.body_front.ensures.joins
    c.in_ok-add_text.ensures.pass
