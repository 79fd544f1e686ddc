use Rattle.std.proofs.Common.{sym, ap, ◌∙◌, ◌++◌, append-nil, chars}
use Rattle.std.specs.Prelude.{string_bytes}
use Rattle.text_pieces.specs.Sources.{names, piece_sources, wrap_seen}
use Rattle.text_preserved.specs.Preserved.{names_of}
use Rattle.text_wrapping.proofs.BlockLemmas.{names_sourced}
use Rattle.text_wrapping.proofs.text_block.push_name.Goals as goal

pub returns-in-Text : goal.returns-in-Text
returns-in-Text g c =
    let seen = g.T.EqualCopy.seen in
    sym (ap (λ ns. names c.args.all.now.items ++ ns) (ap (λ piece. names_of (piece_sources seen piece)) c.in-Text.is
    ∙ names_sourced (chars (string_bytes c.in-Text.field-0.text)) (seen c.in-Text.field-0.main_tag)
    (wrap_seen seen c.in-Text.field-0)) ∙ append-nil (names c.args.all.now.items))
