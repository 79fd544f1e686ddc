use Rattle.std.proofs.Common.{◌≡◌, map, ap, ◌∙◌, length, chars, string_bytes, arith}
use Rattle.std.proofs.lemmas.Str.{chars-nil}
use Rattle.std.specs.Vec.Iter.{into_iter_items}
use Rattle.text_borders.specs.Lines.{render_line_of}
use Rattle.block_trait.proofs.TextLemmas.{no_items, text_begun, text_more, text_whole}
use Rattle.block_trait.proofs.texts.text_of_lines.Goals as goal

pub loop-line-init : goal.loop-line-init
loop-line-init g c =
    let shown = render_line_of g.T.EqualCopy.seen in
    text_begun (chars (string_bytes c.new-text.result)) (map shown (into_iter_items c.into_iter-line-iterator.result))
    (map shown c.args.lines.items) (ap chars c.new-text.ensures.bytes ∙ chars-nil)
    (ap (map shown) c.into_iter-line-iterator.ensures.into_iter_gives.0)

pub loop-line-preserved : goal.loop-line-preserved
loop-line-preserved g c =
    let shown = render_line_of g.T.EqualCopy.seen in
    text_more (chars (string_bytes c.loop-line.text)) (chars (string_bytes c.push_line.new.text)) _
    (shown c.in-Some.line) (map shown (into_iter_items c.next.new.self))
    (map shown (into_iter_items c.loop-line.line-iterator)) (ap (map shown) c.in-Some.ensures.steps.0)
    c.in_ok-push_line.ensures c.loop-line.invariant

pub returns : goal.returns
returns g c =
    let shown = render_line_of g.T.EqualCopy.seen in
    let left : length (into_iter_items c.loop-line.line-iterator) ≡ 0
    = omega (arith, c.loop-line.line-iterator.rest.ok.0, c.in-None.ensures.steps.0) in
    text_whole (chars (string_bytes c.loop-line.text)) _ (map shown (into_iter_items c.loop-line.line-iterator))
    (no_items shown (into_iter_items c.loop-line.line-iterator) left) c.loop-line.invariant
