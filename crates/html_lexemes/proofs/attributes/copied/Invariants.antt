use Rattle.std.proofs.Common.{◌≡◌, take}
use Rattle.html_lexemes.proofs.attributes.copied.Given as goal

abbrev pub invariant-loop-attribute : goal.invariant-loop-attribute
invariant-loop-attribute l = l.copy.items ≡ take l.attribute-index l.items
