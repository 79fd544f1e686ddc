use Rattle.std.proofs.Common.{length, ap, refl, arith}
use Rattle.std.specs.Prelude.{Some}
use Rattle.text_lines.specs.Tagged.{line_items, IsJoined}
use Rattle.text_wrapping.specs.Blocks.{padded}
use Rattle.text_wrapping.proofs.NormalPadding.{views_more, all_views, joined_more, all_joined}
use Rattle.text_wrapping.proofs.padding.pad_lines.Goals as goal

pub loop-line-init : goal.loop-line-init
loop-line-init g c = record { views = refl; joined = λ all. all }

pub loop-line-preserved : goal.loop-line-preserved
loop-line-preserved g c =
    let seen = g.T.EqualCopy.seen in
    let views = views_more (line_items seen) (padded c.args.width (Some (seen c.args.tag.now)))
    c.deref_mut-line-items.result.now c.loop-line.line-items c.loop-line.line-index c.line-item.result
    c.pad.new.line (omega arith) c.loop-line.auto.line-items
    c.loop-line.invariant.views c.line-item.is c.in_ok-pad.ensures.filled_up in
    record {
      views = views;
      joined = λ all. joined_more (IsJoined seen) c.loop-line.line-items c.loop-line.line-index c.line-item.result
          c.pad.new.line (omega (arith, c.loop-line.auto.line-items)) c.line-item.is (c.loop-line.invariant.joined all)
          c.pad.ensures.joined;
    }

pub returns-clause-filled_up : goal.returns-clause-filled_up
returns-clause-filled_up g c =
    let seen = g.T.EqualCopy.seen in
    all_views (line_items seen) (padded c.args.width (Some (seen c.args.tag.now))) c.args.lines.items
    c.deref_mut-line-items.result.now c.loop-line.line-items c.loop-line.line-index c.args.lines.len
    c.deref_mut-line-items.ensures.value
    c.loop-line-test.false (omega (
      arith,
      c.loop-line.auto.line-items,
      ap length c.deref_mut-line-items.ensures.value,
      c.args.lines.ok.0,
    )) c.loop-line.invariant.views

pub returns-clause-joined : goal.returns-clause-joined
returns-clause-joined g c = λ all.
    let seen = g.T.EqualCopy.seen in
    all_joined (IsJoined seen) c.args.lines.items c.deref_mut-line-items.result.now c.loop-line.line-items
    c.args.lines.len c.deref_mut-line-items.ensures.value
    (omega (arith, c.loop-line.auto.line-items, ap length c.deref_mut-line-items.ensures.value, c.args.lines.ok.0))
    c.loop-line.invariant.joined all
