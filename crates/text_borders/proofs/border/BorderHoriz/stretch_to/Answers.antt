use Rattle.std.proofs.Common.{ap, ◌∙◌, ◌-◌}
use Rattle.std.proofs.lemmas.Result.{on_ok_weaker}
use Rattle.text_borders.specs.Borders.{border_of, with_segments}
use Rattle.text_borders.proofs.SegmentLemmas.{stretched_by}
use Rattle.text_borders.proofs.border.BorderHoriz.stretch_to.Goals as goal

pub returns : goal.returns
returns g c =
    let seen = g.T.EqualCopy.seen in
    on_ok_weaker c.push_segments.result (λ h. ap (λ ss. with_segments ss (border_of seen c.args.self.now))
    (stretched_by c.args.self.now.segments.items c.push_segments.new.segments.items c.args.width
    c.saturating_sub-missing.result (c.saturating_sub-missing.ensures
    ∙ ap (λ n. c.args.width - n) c.width.ensures) h)) c.push_segments.ensures
