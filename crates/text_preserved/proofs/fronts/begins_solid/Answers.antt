use Rattle.std.proofs.Common.{sym, ◌∙◌, chars}
use Rattle.std.proofs.lemmas.Str.{chars_past_char}
use Rattle.text_preserved.specs.Preserved.{kind_of}
use Rattle.text_preserved.proofs.WordLemmas.{solid_kind}
use Rattle.text_preserved.proofs.fronts.begins_solid.Goals as goal

pub returns-in-Some : goal.returns-in-Some
returns-in-Some c = λ is. record {
  first = c.in-Some.c;
  after = chars c.in-Some.field-0-1.now;
  whole = chars_past_char c.args.text.now c.in-Some.field-0-1.now c.in-Some.c c.utf8.text c.in-Some.ensures.first;
  is_solid = solid_kind (kind_of c.args.width c.args.wraps c.in-Some.c) (sym c.is_solid.ensures ∙ is);
}
