use Rattle.std.proofs.Common.{ap, ◌∙◌, chars, fold}
use Rattle.std.proofs.lemmas.Result.{on_ok_weaker}
use Rattle.text_lines.specs.Tagged.{tagged}
use Rattle.text_footnotes.specs.Cuts.{cut_of, tags_seen, placed_spaced, placed_noted}
use Rattle.text_footnotes.proofs.CutLemmas.{noted_text}
use Rattle.text_footnotes.proofs.footnotes.push_string.Goals as goal

pub returns-clause-placed : goal.returns-clause-placed
returns-clause-placed g c =
    let text = c.as_str.result.now in
    let annotation = g.A.EqualCopy.seen c.args.string.now.tag in
    let cut = cut_of (tags_seen g.A.EqualCopy.seen) c.args.cut.now in
    on_ok_weaker c.push_text.result (λ h. h
    ∙ ap (λ tag. fold (placed_spaced c.args.width) cut (tagged (chars text) tag)) c.in_ok-tags.ensures
    ∙ noted_text c.args.width (chars text) annotation cut
    ∙ ap (λ bytes. fold (placed_noted c.args.width) cut (tagged (chars bytes) annotation)) c.as_str.ensures.value)
    c.push_text.ensures.placed
