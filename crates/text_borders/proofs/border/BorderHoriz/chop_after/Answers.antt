use Rattle.std.proofs.Common.{◌<◌, ◌≤◌, length, map, sym, ap, arith}
use Rattle.std.specs.Option.{option_map}
use Rattle.std.proofs.lemmas.List.{length-map}
use Rattle.text_borders.specs.Segments.{segment_of, without_left}
use Rattle.text_borders.specs.Borders.{border_of, with_segments}
use Rattle.text_borders.proofs.SegmentLemmas.{changed_at, change_at-outside}
use Rattle.text_borders.proofs.border.BorderHoriz.chop_after.Goals as goal

pub returns-then-column-len : goal.returns-then-column-len
returns-then-column-len g c =
    let seen = g.T.EqualCopy.seen in
    let within : c.args.column < length c.args.self.now.segments.items =
    omega (arith, c.if-column-len.true, c.len.ensures, c.args.self.now.segments.ok.0) in
    ap (λ ss. with_segments ss (border_of seen c.args.self.now))
    (changed_at (option_map without_left) c.args.self.now.segments.items c.args.column c.index_mut.result.now
    c.chop_left.new.self within c.index_mut.ensures.value c.chop_left.ensures)

pub returns-else-column-len : goal.returns-else-column-len
returns-else-column-len g c =
    let seen = g.T.EqualCopy.seen in
    let outside : length c.args.self.now.segments.items ≤ c.args.column =
    omega (arith, c.if-column-len.false, c.len.ensures, c.args.self.now.segments.ok.0) in
    ap (λ ss. with_segments ss (border_of seen c.args.self.now))
    (sym (change_at-outside (option_map without_left) c.args.column (map segment_of c.args.self.now.segments.items)
    (omega (arith, outside, length-map c.args.self.now.segments.items segment_of))))
