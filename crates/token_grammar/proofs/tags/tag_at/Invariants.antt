-- What is left of the text gives the rest of the tag; a set has the names after the first attributes.
use Rattle.std.proofs.Common.{◌≡◌, chars, length}
use denote.Text.{Utf8}
use denote.Shadow.{shadow}
use Rattle.token_grammar.specs.TagParts.{HasLaterNames}
use Rattle.token_grammar.specs.Tags.{tag_at}
use Rattle.token_grammar.proofs.TagLemmas.{tag_left}
use Rattle.token_grammar.proofs.tags.tag_at.Given as goal

abbrev pub invariant-attributes : goal.invariant-attributes
invariant-attributes l =
    shadow (Utf8 l.rest)
    × HasLaterNames l.later l.attrs
    × (tag_left l.fn.table l.fn.kind l.name l.attrs l.had_duplicate_attributes (chars l.rest)
    ≡ tag_at l.fn.table l.fn.kind (chars l.fn.text))

abbrev pub decreases-attributes : goal.decreases-attributes
decreases-attributes l = length (chars l.rest)
