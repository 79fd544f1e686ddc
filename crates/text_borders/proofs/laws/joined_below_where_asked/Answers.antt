use Rattle.std.proofs.Common.{refl}
use Rattle.std.specs.Option.{option_map}
use Rattle.text_borders.specs.Segments.{with_down, joins_below}
use Rattle.text_borders.proofs.BorderLemmas.{changed_where_asked, once_down}
use Rattle.text_borders.proofs.laws.joined_below_where_asked.Goals as goal

pub returns : goal.returns
returns g c =
    λ other place b. changed_where_asked joins_below (option_map with_down) refl once_down other place b.segments
