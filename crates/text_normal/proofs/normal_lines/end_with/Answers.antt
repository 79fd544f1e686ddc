use Rattle.std.proofs.Common.{sym, ap, ◌∙◌, subst}
use Rattle.text_pieces.specs.Sources.{piece_sources}
use Rattle.text_normal.specs.Letters.{letters_of}
use Rattle.text_normal.specs.Riders.{has_wide_text}
use Rattle.text_normal.specs.NormalStates.{EndsAs}
use Rattle.text_normal.proofs.NormalFinal.{if_ok_map}
use Rattle.text_normal.proofs.EndedText.{if_ok_two, ends_here}
use Rattle.text_normal.proofs.normal_lines.end_with.Goals as goal

pub returns-in-Text-clause-ends : goal.returns-in-Text-clause-ends
returns-in-Text-clause-ends g c =
    let seen = g.T.EqualCopy.seen in
    if_ok_map _ _ c.end_with_text.result (λ lines ends. subst (λ piece. EndsAs seen c.args.text
    (letters_of (piece_sources seen piece)) lines.items) (sym c.in-Text.is) ends) c.end_with_text.ensures.ends

pub returns-in-Text-clause-narrow : goal.returns-in-Text-clause-narrow
returns-in-Text-clause-narrow g c = λ e width overflow read has.
    let found = c.end_with_text.ensures.narrow e width overflow read has in (
      found.0,
      ap (λ piece. has_wide_text width (piece_sources g.T.EqualCopy.seen piece)) c.in-Text.is ∙ found.1,
    )

pub returns-clause-ends : goal.returns-clause-ends
returns-clause-ends g c =
    let seen = g.T.EqualCopy.seen in
    if_ok_two _ _ _ c.into_lines.result (λ lines laid joined. subst (λ piece. EndsAs seen c.args.text
    (letters_of (piece_sources seen piece)) lines.items) (sym c.in-Fragment.is)
    (ends_here seen c.args.text lines.items laid joined)) c.into_lines.ensures.laid c.into_lines.ensures.joined
