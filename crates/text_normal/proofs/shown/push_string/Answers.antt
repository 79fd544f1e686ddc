use Rattle.std.proofs.Common.{◌++◌, sym, ap, ◌∙◌, map, chars, string_bytes}
use Rattle.std.proofs.lemmas.Result.{on_ok_weaker}
use Rattle.text_lines.specs.Tagged.{line_items, tagged, marker}
use Rattle.text_normal.specs.Riders.{shown_item}
use Rattle.text_normal.specs.MarkedTags.{tag_seen}
use Rattle.text_normal.proofs.ShownLemmas.{shown_plain_text, shown_note}
use Rattle.text_normal.proofs.shown.push_string.Goals as goal

pub returns-in-Plain-clause-ok : goal.returns-in-Plain-clause-ok
returns-in-Plain-clause-ok g c =
    let seen = g.T.EqualCopy.seen in
    let bytes = string_bytes c.args.string.now.s in
    on_ok_weaker c.push_str.result (λ h. h
    ∙ ap (λ bs. line_items seen c.args.front.now ++ tagged (chars bs) (seen c.in-Plain.tag)) c.as_str.ensures.value
    ∙ ap (λ items. line_items seen c.args.front.now ++ items)
    (sym (ap (λ tag. map (shown_item {S = g.T.EqualCopy.Seen}) (tagged (chars bytes) (tag_seen seen tag))) c.in-Plain.is
    ∙ shown_plain_text (chars bytes) (seen c.in-Plain.tag)))) c.push_str.ensures.ok

pub returns-in-Note-clause-ok : goal.returns-in-Note-clause-ok
returns-in-Note-clause-ok g c =
    let seen = g.T.EqualCopy.seen in
    let bytes = string_bytes c.args.string.now.s in
    on_ok_weaker c.push_markers.result (λ h. h
    ∙ ap (λ bs. line_items seen c.args.front.now ++ map (λ d. marker (chars c.as_str-in-Note-2.result.now)) (chars bs))
    c.as_str-in-Note.ensures.value
    ∙ ap (λ bs. line_items seen c.args.front.now ++ map (λ d. marker (chars bs)) (chars bytes))
    c.as_str-in-Note-2.ensures.value
    ∙ ap (λ items. line_items seen c.args.front.now ++ items)
    (sym (ap (λ tag. map (shown_item {S = g.T.EqualCopy.Seen}) (tagged (chars bytes) (tag_seen seen tag))) c.in-Note.is
    ∙ shown_note {S = g.T.EqualCopy.Seen} (chars bytes) (chars (string_bytes c.in-Note.name)))))
    c.push_markers.ensures.ok
