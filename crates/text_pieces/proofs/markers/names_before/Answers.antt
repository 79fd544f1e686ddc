use Rattle.std.proofs.Common.{◌++◌, [], ap, ◌∙◌, chars, string_bytes}
use Rattle.std.proofs.lemmas.List.{map-append}
use Rattle.std.proofs.lemmas.Iterator.{YieldsList-from_slice}
use Rattle.std.proofs.lemmas.Iterator.Consumers.{YieldsList-turn, YieldsList-end}
use Rattle.text_lines.specs.Tagged.{line_elements}
use Rattle.text_pieces.specs.Items.{markers_of}
use Rattle.text_pieces.specs.Sources.{names}
use Rattle.text_pieces.proofs.ElementLemmas.{next_made, all_made, markers_of-append}
use Rattle.text_pieces.proofs.markers.names_before.Goals as goal

pub loop-element-preserved : goal.loop-element-preserved
loop-element-preserved g c =
    let seen = g.T.EqualCopy.seen in
    let es = line_elements c.args.line.now in
    let t = YieldsList-turn (YieldsList-from_slice es cc) c.loop-element.yielded _ c.loop-element.yielded_by _ _
    c.in-Some.element c.in-Some.is c.next.ensures.steps in
    next_made seen (markers_of {S = g.T.EqualCopy.Seen}) markers_of-append es c.loop-element.yielded c.in-Some.element
    c.in-Some.element.now t [] (names c.loop-element.all.items) (names c.push_name.new.all.items)
    c.loop-element.invariant c.in_ok-push_name.ensures

pub returns : goal.returns
returns g c =
    let seen = g.T.EqualCopy.seen in
    let es = line_elements c.args.line.now in
    let t = YieldsList-end (YieldsList-from_slice es cc) c.loop-element.yielded _ c.loop-element.yielded_by _ _
    c.in-None.is c.next.ensures.steps in
    let made = all_made seen (markers_of {S = g.T.EqualCopy.Seen}) es c.loop-element.yielded t.1 []
    (names c.loop-element.all.items) c.loop-element.invariant in
    ap names c.in_ok-append.ensures.items
    ∙ map-append (λ name. chars (string_bytes name)) c.loop-element.all.items c.args.others.items
    ∙ ap (λ ns. ns ++ names c.args.others.items) made
