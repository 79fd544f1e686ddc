use Rattle.std.proofs.Common.{map}
use Rattle.text_lines.specs.Tagged.{line_items}
use Rattle.block_layout.specs.Laid.{flush}
use Rattle.block_trait.specs.Renderers.{measure_of}
use Rattle.block_renderer.specs.Seen.{sub_of}
use Rattle.block_renderer.proofs.FootnoteLemmas.{footnotes_done}
use Rattle.block_renderer.proofs.sub_renderer.SubRenderer.add_footnotes.Goals as goal

pub returns-clause-done : goal.returns-clause-done
returns-clause-done g c =
    let seen = g.D.Annotation.EqualCopy.seen in
    let s = sub_of seen g.D.TextDecorator.view.held c.args.self.now in
    footnotes_done (flush (measure_of s) s.annotations s.laid) s (sub_of seen g.D.TextDecorator.view.held
    c.flush.new.self)
    (sub_of seen g.D.TextDecorator.view.held c.put_footnotes.new.self) (map (line_items seen) c.args.lines.items)
    c.in_ok-flush.ensures.done c.in_ok-put_footnotes.ensures.done
