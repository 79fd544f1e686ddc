use Rattle.std.proofs.Common.{arith, ap, map, length}
use Rattle.text_lines.specs.Tagged.{line_items}
use Rattle.text_decorators.proofs.Numbering.{preserved, finished}
use Rattle.text_decorators.proofs.default_marks.footnotes.Goals as goal

pub loop-url-init : goal.loop-url-init
loop-url-init g c = record {
  counted = ap length c.new-lines.ensures.items;
  numbered = ap (map (line_items g.A.EqualCopy.seen)) c.new-lines.ensures.items;
}

pub loop-url-preserved : goal.loop-url-preserved
loop-url-preserved g c =
    let h = preserved g.A.EqualCopy.seen (g.A.EqualCopy.seen c.default-tag.result) c.loop-url.lines.items
    c.push.new.self.items c.in_ok-line.line c.deref-url-items.result.now c.loop-url.url-index _ c.url-item.result
    c.as_str.result.now c.in_ok-push.ensures.items c.loop-url.invariant.counted c.loop-url.invariant.numbered
    c.loop-url-test.true c.url-item.is (omega arith) c.as_str.ensures.value c.in_ok-line.ensures in
    record { counted = h.0; numbered = h.1 }

pub returns : goal.returns
returns g c = (
  c.default-tag.result,
  c.default-tag.ensures,
  finished g.A.EqualCopy.seen (g.A.EqualCopy.seen c.default-tag.result) c.loop-url.lines.items
      c.deref-url-items.result.now c.args.urls.items c.loop-url.url-index c.loop-url.invariant.numbered
      c.loop-url-test.false c.deref-url-items.ensures.value,
)
