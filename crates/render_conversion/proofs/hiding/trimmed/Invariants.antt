use Rattle.std.proofs.Common.{◌≡◌, chars, length}
use denote.Text.{Utf8}
use denote.Shadow.{shadow}
use Rattle.render_conversion.specs.Hiding.{trimmed}
use Rattle.render_conversion.proofs.hiding.trimmed.Given as goal

abbrev pub invariant-spaces : goal.invariant-spaces
invariant-spaces l = record {
  text : shadow (Utf8 l.rest);
  same : trimmed (chars l.rest) ≡ trimmed (chars l.text);
}

abbrev pub decreases-spaces : goal.decreases-spaces
decreases-spaces l = length l.rest
