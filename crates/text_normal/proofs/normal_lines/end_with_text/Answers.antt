use Rattle.std.proofs.Common.{◌≡◌, sym, subst, chars, string_bytes}
use Rattle.text_pieces.specs.Sources.{text_sources, wrap_seen}
use Rattle.text_normal.specs.Units.{lettered}
use Rattle.text_normal.specs.Letters.{letters_of}
use Rattle.text_normal.specs.NormalStates.{EndsAs}
use Rattle.text_normal.proofs.NormalFinal.{if_ok_map}
use Rattle.text_normal.proofs.PieceLemmas.{letters_of_sourced}
use Rattle.text_normal.proofs.MarkedLemmas.{wide_sourced}
use Rattle.text_normal.proofs.normal_lines.end_with_text.Goals as goal

pub returns-clause-ends : goal.returns-clause-ends
returns-clause-ends g c =
    let seen = g.T.EqualCopy.seen in
    let letters : letters_of (text_sources seen c.args.last)
    ≡ lettered (chars (string_bytes c.args.last.text)) (seen c.args.last.main_tag) =
    letters_of_sourced {S = g.T.EqualCopy.Seen} (chars (string_bytes c.args.last.text)) (seen c.args.last.main_tag)
    (wrap_seen seen c.args.last) in
    if_ok_map _ _ c.into_lines_after.result (λ lines ends. subst (λ ls. EndsAs seen c.args.text ls lines.items)
    (sym letters) ends) c.into_lines_after.ensures.ends

pub returns-clause-narrow : goal.returns-clause-narrow
returns-clause-narrow g c = λ e width overflow read has.
    let seen = g.T.EqualCopy.seen in
    wide_sourced width overflow (chars (string_bytes c.args.last.text)) (seen c.args.last.main_tag)
    (seen c.args.last.main_tag) (wrap_seen seen c.args.last)
    (c.into_lines_after.ensures.narrow e width overflow read has)
