use Rattle.dom_writing.proofs.ShownLemmas.{escape_10, escape_92}
use Rattle.dom_writing.proofs.shown.escape.Goals as goal

pub returns-in-10 : goal.returns-in-10
returns-in-10 c = escape_10 c.args.c c.in-10.is

pub returns-in-92 : goal.returns-in-92
returns-in-92 c = escape_92 c.args.c c.in-92.is
