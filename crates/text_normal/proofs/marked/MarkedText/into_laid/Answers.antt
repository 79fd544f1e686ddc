use Rattle.std.proofs.Common.{◌++◌, [], ap, ◌∙◌, map}
use Rattle.text_lines.specs.Tagged.{line_items}
use Rattle.text_pieces.specs.Items.{markers_of}
use Rattle.text_normal.specs.Riders.{shown_item, settled_lines, settled_rest, shown_lines}
use Rattle.text_normal.specs.MarkedTags.{tag_seen}
use Rattle.text_pieces.specs.Sources.{names}
use Rattle.text_normal.proofs.marked.MarkedText.into_laid.Goals as goal

pub returns-clause-laid : goal.returns-clause-laid
returns-clause-laid g c = λ width overflow k h.
    let seen = g.T.EqualCopy.seen in
    let shown = ap (map (map (shown_item {S = g.T.EqualCopy.Seen}))) (ap (map (line_items (tag_seen seen)))
    c.deref.ensures.value ∙ c.in_ok-lines.ensures.laid width overflow k.letters h.holds.read) in (
      c.in_ok-settled.ensures.lines ∙ ap (settled_lines []) shown,
      c.in_ok-waiting.ensures
          ∙ ap (λ items. markers_of items ++ names c.args.self.waiting.items)
          (c.in_ok-settled.ensures.rest ∙ ap (settled_rest []) shown)
          ∙ ap (λ ns. markers_of (settled_rest [] (shown_lines width k.letters)) ++ ns) h.holds.waits,
    )
