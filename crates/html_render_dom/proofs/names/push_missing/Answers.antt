use Rattle.std.proofs.Common.{subst, sym}
use Rattle.html_render_dom.proofs.NamesLemmas.{IsPushing, pushed_at, pushing_at}
use Rattle.html_render_dom.proofs.names.push_missing.Goals as goal

pub loop-attribute-init : goal.loop-attribute-init
loop-attribute-init c =
    subst (λ rest. IsPushing c.args.held.now c.args.more c.args.held.now rest c.args.known.value)
    (sym c.as_slice-attribute-items.ensures)
    (pushing_at c.args.held.now c.args.more c.args.known.value c.requires)

pub loop-attribute-preserved : goal.loop-attribute-preserved
loop-attribute-preserved c =
    pushed_at c.args.held.now c.args.more c.loop-attribute.held c.as_slice-attribute-items.result.now
    c.add_one.new.held c.loop-attribute.attribute-index c.attribute-item.result c.loop-attribute.known.value
    c.add_one.new.known c.loop-attribute-test.true c.attribute-item.is c.loop-attribute.invariant
    c.in_ok-add_one.ensures.ok c.in_ok-add_one.ensures.known
