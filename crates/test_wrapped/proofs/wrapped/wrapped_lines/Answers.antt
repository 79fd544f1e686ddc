use Rattle.std.proofs.Common.{false, map, subst, sym, ap, ◌∙◌}
use Rattle.text_lines.specs.Tagged.{line_items}
use Rattle.text_normal.specs.Layout.{AreLinesOf, NeverFits}
use Rattle.text_wrapping.specs.Blocks.{ended_lines}
use Rattle.test_wrapped.specs.Letters.{letters_of}
use Rattle.test_wrapped.proofs.Pieces.{if_ok_map, letters_in_sources, no_marker_in_sources, piece_kept, pieces_kept}
use Rattle.test_wrapped.proofs.Pieces.{sources}
use Rattle.test_wrapped.proofs.wrapped.wrapped_lines.Goals as goal

pub loop-piece-preserved : goal.loop-piece-preserved
loop-piece-preserved g c =
    record {
      works = sym c.in_ok-add_text.ensures.refused;
      joined = c.in_ok-add_text.ensures.joined c.loop-piece.invariant.joined;
      block = piece_kept c.normal_text_is_kept.ensures.added g.T.EqualCopy.seen c.args.width c.args.allow_overflow
          c.args.pieces.now c.loop-piece.piece-index c.piece-item.result c.as_str.result.now _ _ c.loop-piece-test.true
          c.piece-item.is c.as_str.ensures.value c.loop-piece.invariant.block c.in_ok-add_text.ensures.added;
    }

pub returns-clause-lines : goal.returns-clause-lines
returns-clause-lines g c =
    let seen = g.T.EqualCopy.seen in
    let ps = c.args.pieces.now in
    let holds = pieces_kept seen c.args.width c.args.allow_overflow ps c.loop-piece.piece-index _
    c.loop-piece.invariant.block c.loop-piece-test.false in
    if_ok_map _ _ c.into_lines.result
    (λ lines ends. subst (λ letters. AreLinesOf c.args.width c.args.allow_overflow letters
    (map (line_items seen) lines.items))
    (letters_in_sources c.letters_of_texts.ensures.text c.letters_of_texts.ensures.joined seen ps)
    (c.normal_lines_of_a_block.ensures c.args.width c.args.allow_overflow (sources seen ps)
    (map (line_items seen) lines.items)
    (no_marker_in_sources c.letters_of_texts.ensures.no_marker c.letters_of_texts.ensures.no_more seen ps)
    (sym (ap ended_lines holds) ∙ ends))) c.into_lines.ensures.lines

pub returns-clause-within : goal.returns-clause-within
returns-clause-within g c = λ whole.
    let seen = g.T.EqualCopy.seen in
    if_ok_map _ _ c.into_lines.result
    (λ lines are. c.lines_keep_the_width.ensures c.args.width (letters_of seen c.args.pieces.now)
    (map (line_items seen) lines.items)
    (subst (λ o. AreLinesOf c.args.width o (letters_of seen c.args.pieces.now) (map (line_items seen) lines.items))
    whole
    are)) (returns-clause-lines g c)

pub returns-clause-narrow : goal.returns-clause-narrow
returns-clause-narrow g c = λ e.
    let seen = g.T.EqualCopy.seen in
    let ps = c.args.pieces.now in
    let holds = pieces_kept seen c.args.width c.args.allow_overflow ps c.loop-piece.piece-index _
    c.loop-piece.invariant.block c.loop-piece-test.false in
    let narrow = c.narrow_normal_text.ensures c.args.width c.args.allow_overflow (sources seen ps)
    (sym (ap ended_lines holds) ∙ c.into_lines.ensures.narrow e) in (
      narrow.0,
      subst (NeverFits c.args.width false)
          (letters_in_sources c.letters_of_texts.ensures.text c.letters_of_texts.ensures.joined seen ps) narrow.1,
    )
