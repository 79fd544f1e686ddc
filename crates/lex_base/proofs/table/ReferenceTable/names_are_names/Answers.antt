use Rattle.lex_base.proofs.SoundReferences.{found_sound}
use Rattle.lex_base.proofs.table.ReferenceTable.names_are_names.Goals as goal

pub returns : goal.returns
returns c =
    found_sound c.self.inside.references.items c.args.self.now c.self.view_is c.self.invariant.order
    c.self.invariant.sound
