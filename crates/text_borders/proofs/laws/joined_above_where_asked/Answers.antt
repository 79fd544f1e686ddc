use Rattle.std.proofs.Common.{refl}
use Rattle.std.specs.Option.{option_map}
use Rattle.text_borders.specs.Segments.{with_up, joins_above}
use Rattle.text_borders.proofs.BorderLemmas.{changed_where_asked, once_up}
use Rattle.text_borders.proofs.laws.joined_above_where_asked.Goals as goal

pub returns : goal.returns
returns g c = λ other place b. changed_where_asked joins_above (option_map with_up) refl once_up other place b.segments
