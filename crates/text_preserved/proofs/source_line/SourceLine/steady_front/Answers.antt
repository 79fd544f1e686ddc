use Rattle.std.proofs.Common.{ap, sym, ◌++◌, append-nil, ◌∙◌, chars}
use Rattle.std.proofs.lemmas.Str.{chars-nil}
use Rattle.text_preserved.specs.SourceLines.{pass_of}
use Rattle.text_preserved.proofs.BodyLemmas.{steady_on, steady_front, same_fit, or_left, or_right}
use Rattle.text_preserved.proofs.source_line.SourceLine.steady_front.Goals as goal
use Rattle.text_preserved.proofs.source_line.SourceLine.steady_front.Goals.{then-self-via-else-self+then-self-2}
use Rattle.text_preserved.proofs.source_line.SourceLine.steady_front.Goals.{then-self-via-then-self}

pub returns-then-self-clause-parts : goal.returns-then-self-clause-parts
returns-then-self-clause-parts g c =
    sym (ap (λ cs. chars c.args.text.now ++ cs) chars-nil ∙ append-nil (chars c.args.text.now))

pub returns-then-self-clause-steady : goal.returns-then-self-clause-steady
returns-then-self-clause-steady g c =
    let p = pass_of g.T.EqualCopy.seen c.args.self.now in
    steady_on (chars c.args.text.now) p (elim c.then-self.branch [
      | then-self-via-then-self w ↦ or_left p.goes_on p.wraps w.if-self.true
      | then-self-via-else-self+then-self-2 w ↦ or_right p.goes_on p.wraps w.if-self-2.true
    ])

pub returns-clause-steady : goal.returns-clause-steady
returns-clause-steady g c =
    let p = pass_of g.T.EqualCopy.seen c.args.self.now in
    steady_front (chars c.fitting_front.result.0.now) p c.if-self.false
    (same_fit c.args.self.now.width _ _ (chars c.fitting_front.result.0.now) c.in_ok-body_end.ensures
    c.fitting_front.ensures.fits)
