use Rattle.std.proofs.Common.{◌≡◌, ◌++◌, map}
use Rattle.std.specs.Vec.Iter.{into_iter_items}
use Rattle.block_renderer.specs.Seen.{sub_of}
use Rattle.layout_state.specs.Seen.{made_of}
use Rattle.layout_tables.specs.Tables.{renderer_of}
use Rattle.layout_tables.proofs.slots.renderers_of.Given as goal

abbrev pub invariant-made : goal.invariant-made
invariant-made g l = map (sub_of g.D.Annotation.EqualCopy.seen g.D.TextDecorator.view.held) l.renderers.items
    ++ map renderer_of (made_of g.D.Annotation.EqualCopy.seen g.D.TextDecorator.view.held
    (into_iter_items l.renderer-iterator))
    ≡ map renderer_of (made_of g.D.Annotation.EqualCopy.seen g.D.TextDecorator.view.held l.fn.made.items)
