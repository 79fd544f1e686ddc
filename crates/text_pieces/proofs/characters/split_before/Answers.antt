use Rattle.text_pieces.proofs.FrontLemmas.{front_boundary, front_taken, parts_are}
use Rattle.std.proofs.Common.{refl, length, ◌-◌, ◌∙◌}
use Rattle.text_pieces.proofs.characters.split_before.Goals as goal

pub split_at-requires : goal.split_at-requires
split_at-requires c = front_boundary c.args.text.now c.args.rest.now c.requires c.utf8.rest

pub returns-clause-parts : goal.returns-clause-parts
returns-clause-parts c = parts_are c.args.text.now c.args.rest.now c.split_at.result.0.now c.split_at.result.1.now
    c.requires c.split_at.ensures.front c.split_at.ensures.back

pub returns-clause-front : goal.returns-clause-front
returns-clause-front c = λ front whole. c.split_at.ensures.front
    ∙ front_taken c.args.text.now front c.args.rest.now (length c.args.text.now - length c.args.rest.now) whole refl
