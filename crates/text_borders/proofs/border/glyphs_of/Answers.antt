use Rattle.std.proofs.Common.{sym, ap, ◌∙◌, ◌++◌, chars, map, append-nil, string_bytes}
use Rattle.std.proofs.lemmas.Str.{chars-nil}
use Rattle.text_borders.specs.Segments.{segment_of, glyph_of}
use Rattle.text_borders.proofs.SegmentLemmas.{nothing_left}
use Rattle.text_borders.proofs.border.glyphs_of.Goals as goal

pub loop-segment-init : goal.loop-segment-init
loop-segment-init c =
    ap (λ cs. cs ++ map glyph_of (map segment_of c.args.segments.now))
    (ap chars c.in_ok-text.ensures.bytes ∙ chars-nil)

pub loop-segment-preserved : goal.loop-segment-preserved
loop-segment-preserved c =
    c.in_ok-rest.ensures.text
    ∙ ap (λ ss. chars (string_bytes c.loop-segment.text) ++ map glyph_of (map segment_of ss))
    (sym c.in-Some.ensures.cases.0)
    ∙ c.loop-segment.invariant

pub returns : goal.returns
returns c =
    let text = chars (string_bytes c.loop-segment.text) in
    sym (append-nil text)
    ∙ sym (ap (λ ss. text ++ map glyph_of (map segment_of ss))
    (nothing_left c.loop-segment.rest.now c.in_default.ensures.cases))
    ∙ c.loop-segment.invariant
