use Rattle.std.proofs.Common.{◌≡◌, ◌++◌, suc, drop}
use Rattle.article_layout.specs.Seen.{lines_of}
use Rattle.article_layout.specs.Settings.{options_of}
use Rattle.article_definitions.specs.Layouts.{notes_from}
use Rattle.text_pieces.specs.Sources.{names}
use Rattle.article_layout.proofs.footnotes.add_notes.Given as goal

abbrev pub invariant-targets : goal.invariant-targets
invariant-targets l = record {
  counted : l.number ≡ l.target-index;
  lines : lines_of l.lines ++ notes_from (options_of l.room.options) l.room.width (suc l.number)
      (names (drop l.target-index l.targets))
      ≡ lines_of l.initial.lines ++ notes_from (options_of l.room.options) l.room.width 1 (names l.targets);
}
