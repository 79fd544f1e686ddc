use Rattle.std.proofs.Common.{sym, ap, ◌∙◌, ◌++◌, map}
use Rattle.std.proofs.lemmas.Result.{on_ok_weaker}
use Rattle.std.proofs.lemmas.List.{length-map}
use Rattle.text_lines.specs.Columns.{text_columns}
use Rattle.text_lines.specs.Tagged.{line_items, tagged}
use Rattle.text_borders.specs.Segments.{glyph_of, segment_of}
use Rattle.text_borders.proofs.BorderLemmas.{glyph_columns}
use Rattle.text_borders.proofs.border.push_glyphs.Goals as goal

pub push_string-requires : goal.push_string-requires
push_string-requires g c =
    sym (ap text_columns c.in_ok-text.ensures ∙ glyph_columns (map segment_of c.args.segments.now)
    ∙ length-map c.args.segments.now segment_of)

pub returns-clause-items : goal.returns-clause-items
returns-clause-items g c =
    let seen = g.T.EqualCopy.seen in
    on_ok_weaker c.push_string.result (λ h. h
    ∙ ap (λ cs. line_items seen c.args.line.now ++ tagged cs (seen c.in_ok-copy.field-0)) c.in_ok-text.ensures
    ∙ ap (λ tag. line_items seen c.args.line.now
    ++ tagged (map glyph_of (map segment_of c.args.segments.now)) tag) c.in_ok-copy.ensures)
    c.push_string.ensures.ok
