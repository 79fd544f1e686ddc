use Rattle.std.proofs.lemmas.Result.{on_ok_weaker}
use Rattle.text_preserved.specs.SourceLines.{pass_of}
use Rattle.text_preserved.proofs.ReadingLemmas.{line_read}
use Rattle.text_preserved.proofs.source_line.SourceLine.read_line.Goals as goal

pub returns-clause-pass : goal.returns-clause-pass
returns-clause-pass g c =
    let seen = g.T.EqualCopy.seen in
    on_ok_weaker c.read_trimmed.result (λ h. line_read seen (pass_of seen c.args.self.now)
    (pass_of seen c.read_pieces.new.self) (pass_of seen c.read_trimmed.new.self) c.args.pieces.now
    c.split_at.result.0.now c.split_at.result.1.now c.whole_pieces-whole.result h c.in_ok-read_pieces.ensures.pass
    c.split_at.ensures.front c.split_at.ensures.back c.whole_pieces-whole.ensures) c.read_trimmed.ensures.pass
