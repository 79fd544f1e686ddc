use Rattle.std.proofs.Common.{length, ap, refl, arith}
use Rattle.std.proofs.lemmas.List.Elements.{All-nil}
use Rattle.text_borders.specs.Lines.{IsJoinedText}
use Rattle.text_cells.specs.Cells.{laid_line_of}
use Rattle.text_wrapping.proofs.NormalPadding.{views_more, all_views}
use Rattle.block_layout.specs.Whole.{settled}
use Rattle.block_layout.proofs.WholeLemmas.{all_settled, one_settled}
use Rattle.block_layout.proofs.prefixed.settle_all.Goals as goal

pub loop-line-init : goal.loop-line-init
loop-line-init g c =
    record { views = refl; joined = All-nil (λ x. IsJoinedText g.T.EqualCopy.seen x.line) }

pub loop-line-preserved : goal.loop-line-preserved
loop-line-preserved g c =
    let seen = g.T.EqualCopy.seen in
    let views = views_more (laid_line_of seen) (settled c.args.other (seen c.args.tag.now))
    c.deref_mut-line-items.result.now c.loop-line.line-items c.loop-line.line-index c.line-item.result
    c.settle.new.line (omega arith) c.loop-line.auto.line-items
    c.loop-line.invariant.views c.line-item.is c.in_ok-settle.ensures.line in
    record {
      views = views;
      joined = one_settled (λ x. IsJoinedText seen x.line) c.loop-line.line-items c.loop-line.line-index
          c.settle.new.line (omega (arith, c.loop-line.auto.line-items)) c.loop-line.invariant.joined
          c.in_ok-settle.ensures.joined;
    }

pub returns-clause-lines : goal.returns-clause-lines
returns-clause-lines g c =
    let seen = g.T.EqualCopy.seen in
    all_views (laid_line_of seen) (settled c.args.other (seen c.args.tag.now)) c.args.lines.items
    c.deref_mut-line-items.result.now c.loop-line.line-items c.loop-line.line-index c.args.lines.len
    c.deref_mut-line-items.ensures.value
    c.loop-line-test.false (omega (
      arith,
      c.loop-line.auto.line-items,
      ap length c.deref_mut-line-items.ensures.value,
      c.args.lines.ok.0,
    )) c.loop-line.invariant.views

pub returns-clause-joined : goal.returns-clause-joined
returns-clause-joined g c =
    all_settled (λ x. IsJoinedText g.T.EqualCopy.seen x.line) c.args.lines.items c.loop-line.line-items
    c.loop-line.line-index c.args.lines.len (omega (arith, c.loop-line.auto.line-items, c.loop-line-test.false))
    (omega (arith, c.loop-line.auto.line-items, ap length c.deref_mut-line-items.ensures.value, c.args.lines.ok.0))
    c.loop-line.invariant.joined
