use Rattle.std.proofs.Common.{◌++◌, map, take}
use Rattle.dom_styles.specs.Styles.{declared_by}
use Rattle.dom_styles.proofs.StyleLemmas.{declarations_more, declarations_done}
use Rattle.dom_styles.proofs.computed.PlaceStyle.apply.Goals as goal

pub loop-declaration-preserved : goal.loop-declaration-preserved
loop-declaration-preserved c = λ ds h.
    declarations_more ds c.args.rule.now.origin c.deref-declaration-items.result.now
    c.loop-declaration.declaration-index c.declaration-item.result c.declare.new.self c.loop-declaration-test.true
    c.declaration-item.is
    (c.declare.ensures
    (ds ++ map (declared_by c.args.rule.now.origin)
    (take c.loop-declaration.declaration-index c.deref-declaration-items.result.now))
    (c.loop-declaration.invariant ds h))

pub returns : goal.returns
returns c = λ ds h.
    declarations_done ds c.args.rule.now.origin c.deref-declaration-items.result.now c.args.rule.now.declarations.items
    c.loop-declaration.declaration-index c.loop-declaration.self c.loop-declaration-test.false
    c.deref-declaration-items.ensures.value (c.loop-declaration.invariant ds h)
