-- What contracts see of styles.
use Rattle.std.specs.Prelude.{chars, option_map}
use Rattle.render_conversion.specs.Styles.{Part, Parts}
use Rattle.render_conversion.specs.declared.styles.NodeStyle.{NodeStyle}
use Rattle.render_conversion.specs.declared.styles.PartStyle.{PartStyle}

abbrev pub seen_part : PartStyle → Part
seen_part p =
    record { look = p.look; hidden = p.hidden; content = option_map (λ t. chars t.now) p.content }

abbrev pub seen_parts : NodeStyle → Parts
seen_parts s =
    record { itself = seen_part s.itself; before = seen_part s.before; after = seen_part s.after }
