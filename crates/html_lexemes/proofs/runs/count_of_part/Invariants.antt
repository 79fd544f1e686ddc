use Rattle.std.proofs.Common.{◌≡◌, take}
use Rattle.std.specs.List.{count_by}
use Rattle.html_lexemes.specs.QueueParts.{begins_character}
use Rattle.html_lexemes.proofs.runs.count_of_part.Given as goal

abbrev pub invariant-bytes : goal.invariant-bytes
invariant-bytes l = l.count ≡ count_by begins_character (take l.byte-index l.bytes)
