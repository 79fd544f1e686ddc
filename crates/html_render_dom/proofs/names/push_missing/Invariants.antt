use Rattle.std.proofs.Common.{drop}
use Rattle.html_render_dom.proofs.NamesLemmas.{IsPushing}
use Rattle.html_render_dom.proofs.names.push_missing.Given as goal

abbrev pub invariant-loop-attribute : goal.invariant-loop-attribute
invariant-loop-attribute l =
    IsPushing l.fn.held l.fn.more l.held (drop l.attribute-index l.attribute-items) l.known.value
