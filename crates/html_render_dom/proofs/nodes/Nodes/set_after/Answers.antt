use Rattle.std.proofs.Common.{refl}
use Rattle.html_render_dom.proofs.HeldNodes.{first_written, next_written, same_kinds}
use Rattle.html_render_dom.specs.Numbers.{number_of}
use Rattle.html_render_dom.proofs.nodes.Nodes.set_after.Goals as goal

pub returns-in-None-clause-kinds : goal.returns-in-None-clause-kinds
returns-in-None-clause-kinds c = same_kinds _ _ c.index_mut.result.now _ c.index_mut.ensures.value refl

pub returns-in-None-clause-links : goal.returns-in-None-clause-links
returns-in-None-clause-links c = first_written _ _ c.args.spot _ c.index_mut.result.now c.index_mut.ensures.value
    c.in-None.is

pub returns-in-Some-clause-kinds : goal.returns-in-Some-clause-kinds
returns-in-Some-clause-kinds c = same_kinds _ _ c.index_mut-in-Some.result.now _ c.index_mut-in-Some.ensures.value refl

pub returns-in-Some-clause-links : goal.returns-in-Some-clause-links
returns-in-Some-clause-links c = next_written _ (number_of c.args.parent) _ c.args.spot _ c.index_mut-in-Some.result.now
    c.index_mut-in-Some.ensures.value c.in-Some.is
