-- What contracts see of a `Request`.
use Rattle.std.specs.Prelude.{option_map, string_bytes}
use Rattle.command_line.specs.CommandWords.{Asked}
use Rattle.command_line.specs.declared.words.Request.{Request}

-- texts as their bytes
abbrev pub asked_of : Request → Asked
asked_of r = record {
  width = r.width;
  rich = r.rich;
  decorate = r.decorate;
  footnotes = r.footnotes;
  shared_footnotes = r.shared_footnotes;
  references = option_map string_bytes r.references;
  max_bytes = r.max_bytes;
  file = option_map string_bytes r.file;
}
