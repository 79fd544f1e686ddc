use Rattle.std.proofs.Common.{chars, string_bytes}
use Rattle.std.proofs.lemmas.Iterator.{YieldsList-from_slice}
use Rattle.std.proofs.lemmas.Iterator.Consumers.{YieldsList-turn, YieldsList-end}
use Rattle.text_lines.specs.Tagged.{line_elements, characters}
use Rattle.text_pieces.proofs.ElementLemmas.{next_made, all_made}
use Rattle.text_pieces.proofs.ItemColumns.{characters-append}
use Rattle.block_trait.proofs.texts.push_characters.Goals as goal

pub loop-element-preserved : goal.loop-element-preserved
loop-element-preserved g c =
    let es = line_elements c.args.line.now in
    let t = YieldsList-turn (YieldsList-from_slice es cc) c.loop-element.yielded _ c.loop-element.yielded_by _ _
    c.in-Some.element c.in-Some.is c.next.ensures.steps in
    next_made g.T.EqualCopy.seen (characters {S = g.T.EqualCopy.Seen}) characters-append es c.loop-element.yielded
    c.in-Some.element c.in-Some.element.now t (chars (string_bytes c.args.text.now))
    (chars (string_bytes c.loop-element.text)) (chars (string_bytes c.push_element.new.text))
    c.loop-element.invariant c.in_ok-push_element.ensures

pub returns : goal.returns
returns g c =
    let es = line_elements c.args.line.now in
    let t = YieldsList-end (YieldsList-from_slice es cc) c.loop-element.yielded _ c.loop-element.yielded_by _ _
    c.in-None.is c.next.ensures.steps in
    all_made g.T.EqualCopy.seen (characters {S = g.T.EqualCopy.Seen}) es c.loop-element.yielded t.1
    (chars (string_bytes c.args.text.now)) (chars (string_bytes c.loop-element.text)) c.loop-element.invariant
