use Rattle.std.proofs.Common.{refl}
use Rattle.std.specs.Option.{option_map}
use Rattle.text_borders.specs.Segments.{with_down}
use Rattle.text_borders.specs.Borders.{border_of}
use Rattle.text_borders.proofs.SegmentLemmas.{joined_to}
use Rattle.text_borders.proofs.border.BorderHoriz.join_below.Goals as goal

pub returns : goal.returns
returns g c =
    let seen = g.T.EqualCopy.seen in
    joined_to (option_map with_down) (border_of seen c.args.self.now) (border_of seen c.stretch_to.new.self)
    c.stretch_to.new.self.segments.items c.args.column c.in_ok-trailing.field-0 c.index_mut.result.now
    c.join_below.new.self c.in_ok-trailing.ensures c.in_ok-stretch_to.ensures refl c.index_mut.ensures.value
    c.join_below.ensures
