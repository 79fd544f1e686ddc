use Rattle.std.proofs.Common.{◌∙◌, ap, arith}
use Rattle.std.proofs.lemmas.Result.{on_ok_weaker}
use Rattle.text_footnotes.specs.Links.{all_targets}
use Rattle.text_pieces.specs.Sources.{names}
use Rattle.article_layout.specs.Seen.{lines_of}
use Rattle.article_layout.specs.Settings.{options_of}
use Rattle.article_layout.proofs.NoteLines.{notes_stand, some_names}
use Rattle.article_layout.proofs.footnotes.add_footnotes.Goals as goal

pub returns : goal.returns
returns c =
    let noted = c.in_ok-noted.noted in
    on_ok_weaker c.add_notes.result (λ added.
    notes_stand c.links_share_footnotes.ensures.some (options_of c.args.room.options) c.args.room.width
    (all_targets c.args.targets) (names noted.items) (names c.as_slice.result.now) (lines_of c.args.lines.now)
    (lines_of c.part.new.self) (lines_of c.add_notes.new.lines) c.if-not-room.false
    (some_names noted.items (λ none. grind (arith, c.is_empty.ensures, c.if-is_empty.false, none))) c.in_ok-noted.ensures
    (ap names c.as_slice.ensures.value ∙ c.in_ok-shown.ensures) c.in_ok-part.ensures added) c.add_notes.ensures
