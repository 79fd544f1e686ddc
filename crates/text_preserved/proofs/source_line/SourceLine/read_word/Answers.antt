use Rattle.std.proofs.Common.{◌∙◌, chars}
use Rattle.text_preserved.specs.SourceLines.{pass_of}
use Rattle.text_preserved.proofs.BodyLemmas.{body_begun}
use Rattle.text_preserved.proofs.ReadingLemmas.{if_ok_map}
use Rattle.text_preserved.proofs.source_line.SourceLine.read_word.Goals as goal

pub returns-clause-pass : goal.returns-clause-pass
returns-clause-pass g c =
    let seen = g.T.EqualCopy.seen in
    if_ok_map c.read_body.result c.read_body.ensures.pass (λ rest h. h ∙ body_begun (chars c.args.text.now)
    (seen c.args.main_tag.now) (seen c.args.wrap_tag.now) (pass_of seen c.args.self.now)
    (pass_of seen c.begin.new.self) (c.begins_solid.ensures c.if-not-begins_solid.false) c.in_ok-begin.ensures.pass)
