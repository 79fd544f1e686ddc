use Rattle.std.proofs.Common.{◌++◌, sym, ap, ◌∙◌, append-nil, chars, string_bytes}
use Rattle.text_lines.specs.Tagged.{element_items}
use Rattle.text_pieces.specs.Items.{markers_of}
use Rattle.text_pieces.specs.Sources.{names}
use Rattle.text_pieces.proofs.ElementLemmas.{markers_of-tagged}
use Rattle.text_pieces.proofs.markers.push_name.Goals as goal

pub returns-in_default : goal.returns-in_default
returns-in_default g c =
    let seen = g.T.EqualCopy.seen in
    sym (ap (λ ms. names c.args.all.now.items ++ ms) (ap (λ e. markers_of (element_items seen e)) c.in_default.is
    ∙ markers_of-tagged {S = g.T.EqualCopy.Seen} (chars (string_bytes c.in_default.field-0.s))
    (seen c.in_default.field-0.tag)) ∙ append-nil (names c.args.all.now.items))
