use Rattle.std.proofs.Common.{ap, chars}
use Rattle.text_lines.specs.Tagged.{line_columns}
use Rattle.text_preserved.specs.Rows.{laying_of}
use Rattle.text_preserved.proofs.BodyLemmas.{put_left, same_fit}
use Rattle.text_preserved.proofs.laying.Rows.put_front.Goals as goal

pub returns-clause-laid : goal.returns-clause-laid
returns-clause-laid g c =
    let seen = g.T.EqualCopy.seen in
    let r = laying_of seen c.args.self.now in
    put_left c.args.width (chars c.fitting_front.result.0.now) (chars c.fitting_front.result.1.now)
    (chars c.args.text.now) (seen c.args.tag.now) r _ c.fitting_front.ensures.parts c.requires.no_tail
    (same_fit c.args.width c.width.result (line_columns r.line) (chars c.fitting_front.result.0.now) c.width.ensures
    c.fitting_front.ensures.fits) (ap (λ l. record r { line = l }) c.in_ok-push_str.ensures.ok)
