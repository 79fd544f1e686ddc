use Rattle.tree_serializer.proofs.EscapeLemmas.{reference_34, reference_38, reference_60, reference_62, reference_160}
use Rattle.tree_serializer.proofs.escape.reference.Goals as goal

pub returns-in-38 : goal.returns-in-38
returns-in-38 c = reference_38 c.args.c c.in-38.is

pub returns-in-160 : goal.returns-in-160
returns-in-160 c = reference_160 c.args.c c.in-160.is

pub returns-in-60 : goal.returns-in-60
returns-in-60 c = reference_60 c.args.c c.in-60.is

pub returns-in-62 : goal.returns-in-62
returns-in-62 c = reference_62 c.args.c c.in-62.is

pub returns-in-34 : goal.returns-in-34
returns-in-34 c = reference_34 c.args.c c.in-34.is
