use Rattle.std.proofs.Common.{sym, ap, ◌∙◌, ◌++◌, [], subst, append-nil, arith}
use Rattle.std.specs.Prelude.{Err}
use Rattle.std.proofs.lemmas.Result.{err_from_is_err_and}
use Rattle.text_pieces.specs.Sources.{piece_sources, sources_of}
use Rattle.text_normal.specs.Letters.{letters_of}
use Rattle.text_normal.specs.NormalStates.{EndsAs}
use Rattle.text_normal.proofs.NormalFinal.{if_ok_map}
use Rattle.text_normal.proofs.PieceLemmas.{err_same, letters_of-append, last_sources, no_sources, wide_within}
use Rattle.text_normal.proofs.EndedText.{if_ok_two, ends_here, ends_after}
use Rattle.text_normal.proofs.normal_lines.end_with_all.Goals as goal

pub returns-in_err-take_all-in-Some-clause-narrow : goal.returns-in_err-take_all-in-Some-clause-narrow
returns-in_err-take_all-in-Some-clause-narrow g c = λ e width overflow read has.
    let seen = g.T.EqualCopy.seen in
    let front = sources_of seen c.pop.new.self.items in
    let p = err_from_is_err_and c.from_residual.result c.from_residual.ensures.1 in
    let found = c.take_all.ensures.narrow
    (c.in_err-take_all-in-Some.was ∙ ap Err (err_same _ _ c.from_residual.result (p.1 ∙ ap Err p.2) e)) width overflow
    read
    has in (
      found.0,
      wide_within width (sources_of seen c.args.pieces.items) [] front (piece_sources seen c.in-Some.last)
          (last_sources seen c.args.pieces.items c.pop.new.self.items c.in-Some.last c.in-Some.ensures.items) found.1,
    )

pub returns-in_ok-take_all-in-Some-clause-ends : goal.returns-in_ok-take_all-in-Some-clause-ends
returns-in_ok-take_all-in-Some-clause-ends g c =
    let seen = g.T.EqualCopy.seen in
    let front = sources_of seen c.pop.new.self.items in
    let back = piece_sources seen c.in-Some.last in
    let whole = last_sources seen c.args.pieces.items c.pop.new.self.items c.in-Some.last c.in-Some.ensures.items in
    if_ok_map _ _ c.end_with.result (λ lines ends. ends_after seen c.args.text c.take_all.new.text (letters_of front)
    (letters_of back) (letters_of (sources_of seen c.args.pieces.items)) lines.items
    (ap letters_of whole ∙ letters_of-append front back) c.in_ok-take_all-in-Some.ensures.read ends)
    c.end_with.ensures.ends

pub returns-in_ok-take_all-in-Some-clause-narrow : goal.returns-in_ok-take_all-in-Some-clause-narrow
returns-in_ok-take_all-in-Some-clause-narrow g c = λ e width overflow read has.
    let seen = g.T.EqualCopy.seen in
    let front = sources_of seen c.pop.new.self.items in
    let back = piece_sources seen c.in-Some.last in
    let whole = last_sources seen c.args.pieces.items c.pop.new.self.items c.in-Some.last c.in-Some.ensures.items in
    let found = c.end_with.ensures.narrow e width overflow (read ++ letters_of front)
    (c.in_ok-take_all-in-Some.ensures.read width overflow read has) in (
      found.0,
      wide_within width (sources_of seen c.args.pieces.items) front back []
          (whole ∙ ap (λ xs. front ++ xs) (sym (append-nil back))) found.1,
    )

pub returns-in-None-clause-ends : goal.returns-in-None-clause-ends
returns-in-None-clause-ends g c =
    let seen = g.T.EqualCopy.seen in
    let none = no_sources seen c.args.pieces.items (omega (arith, c.in-None.ensures.cases.0, c.args.pieces.ok.0)) in
    if_ok_two _ _ _ c.into_lines.result (λ lines laid joined.
    subst (λ source. EndsAs seen c.args.text (letters_of source)
    lines.items) (sym none) (ends_here seen c.args.text lines.items laid joined)) c.into_lines.ensures.laid
    c.into_lines.ensures.joined
