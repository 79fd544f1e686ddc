use Rattle.std.proofs.Common.{◌++◌, chars, sym, ap, subst, ◌∙◌, arith}
use Rattle.text_lines.specs.Tagged.{tagged}
use Rattle.text_pieces.specs.Sources.{sourced}
use Rattle.text_preserved.specs.PlainLines.{IsOnlyLine}
use Rattle.text_preserved.proofs.PlainLemmas.{only}
use Rattle.text_preserved.proofs.plain_lines.lay_line.Goals as goal

pub returns-clause-line : goal.returns-clause-line
returns-clause-line g c = λ further.
    let tag = g.T.EqualCopy.seen c.args.tag.now in
    let front = chars c.in-Some.front.now in
    subst (IsOnlyLine c.args.width c.args.wraps (sourced (chars c.args.text.now) tag further))
    (sym (c.in_ok-push_counted.ensures.ok ∙ ap (λ items. items ++ tagged front tag) c.new-line.ensures.items))
    (only c.args.width c.args.wraps (chars c.args.text.now) front tag further c.in-Some.ensures.front
    (omega (arith, c.if-columns-width.false, c.columns_of-columns.ensures)))
