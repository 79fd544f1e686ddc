use Rattle.std.specs.Option.{option_map}
use Rattle.text_borders.specs.Segments.{with_up, with_down, joins_above, joins_below}
use Rattle.text_borders.proofs.BorderLemmas.{merge_keeps}
use Rattle.text_borders.proofs.laws.merges_keep_the_width.Goals as goal

pub returns-clause-below : goal.returns-clause-below
returns-clause-below g c = λ other place b h. merge_keeps (option_map with_down) joins_below other place b.segments h

pub returns-clause-above : goal.returns-clause-above
returns-clause-above g c = λ other place b h. merge_keeps (option_map with_up) joins_above other place b.segments h
