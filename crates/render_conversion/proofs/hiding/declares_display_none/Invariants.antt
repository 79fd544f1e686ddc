use Rattle.std.proofs.Common.{◌≡◌, chars, length}
use denote.Text.{Utf8}
use denote.Shadow.{shadow}
use Rattle.std.specs.List.{list_any}
use Rattle.render_conversion.specs.Hiding.{declarations, is_display_none}
use Rattle.render_conversion.proofs.hiding.declares_display_none.Given as goal

abbrev pub invariant-declarations : goal.invariant-declarations
invariant-declarations l = record {
  text : shadow (Utf8 l.rest);
  same : list_any is_display_none (declarations (chars l.rest))
      ≡ list_any is_display_none (declarations (chars l.style));
}

abbrev pub decreases-declarations : goal.decreases-declarations
decreases-declarations l = length (chars l.rest)
