use denote.Shadow.{shadow}
use denote.Text.{Utf8}
use Rattle.std.proofs.Common.{◌≡◌, ◌++◌, chars, length}
use Rattle.dom_writing.specs.Dumps.{shown}
use Rattle.dom_writing.proofs.shown.push_shown.Given as goal

-- what was added and what the rest is shown as are the whole
abbrev pub invariant-runs : goal.invariant-runs
invariant-runs l = record {
  text : shadow (Utf8 l.rest);
  adds : l.lines ++ shown (chars l.rest) ≡ l.fn.lines ++ shown (chars l.text);
}

abbrev pub decreases-runs : goal.decreases-runs
decreases-runs l = length l.rest
