-- A block of lines under other tags.
use Rattle.std.specs.Prelude.{map}
use Rattle.std.specs.Option.{option_map}
use Rattle.block_layout.specs.Laid.{Running, Laid}
use Rattle.text_wrapping.specs.Retagged.{reblock}
use Rattle.text_borders.specs.Retagged.{recell_line, rehanging}

abbrev pub rerunning : {A B : Type 0} → (A → B) → Running A → Running B
rerunning f r = record { mode = r.mode; text = reblock f r.text; fill = f r.fill }

abbrev pub relaid : {A B : Type 0} → (A → B) → Laid A → Laid B
relaid f b = record {
  lines = map (recell_line f) b.lines;
  running = option_map (rerunning f) b.running;
  awaits = b.awaits;
  markers = b.markers;
  hanging = map (rehanging f) b.hanging;
}
