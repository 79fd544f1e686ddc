use Rattle.std.proofs.Common.{◌≡◌, length, sym, ap, ◌∙◌, arith}
use Rattle.std.specs.Vec.Iter.{into_iter_len}
use Rattle.std.proofs.lemmas.List.{map-id}
use Rattle.std.proofs.lemmas.Iterator.Adapters.{YieldsList-from_vec}
use Rattle.std.proofs.lemmas.Iterator.Consumers.{YieldsList-end}
use Rattle.text_lines.specs.Elements.{elements_text}
use Rattle.text_lines.specs.Columns.{text_columns}
use Rattle.text_lines.proofs.Elementwise.{MapsTags-more, mapped_columns}
use Rattle.text_lines.proofs.tagged_line.TaggedLine.map_tag.Goals as goal

pub loop-element-preserved : goal.loop-element-preserved
loop-element-preserved g c =
    MapsTags-more (λ tag new. goal.F-post g c.args.f.now tag new) c.loop-element.yielded c.loop-element.mapped.items
    c.push.new.self.items c.in-Some.element c.map_tag.result c.loop-element.invariant c.in_ok-push.ensures.items
    c.map_tag.ensures

pub invariant_of-result : goal.invariant_of-result
invariant_of-result g c =
    let given = c.into_iter-element-iterator.ensures.into_iter_gives in
    let it = c.into_iter-element-iterator.result in
    let len : into_iter_len it ≡ length c.args.self.elements.items = omega (arith, given.1, c.args.self.elements.ok.0)
    in
    let all = YieldsList-end (YieldsList-from_vec {s = it} c.args.self.elements.items given.0 len)
    c.loop-element.yielded c.loop-element.element-iterator c.loop-element.yielded_by c.next.result c.next.new.self
    c.in-None.is c.next.ensures.steps in
    record {
      counted = mapped_columns (λ tag new. goal.F-post g c.args.f.now tag new) c.loop-element.yielded
          c.loop-element.mapped.items _ c.loop-element.invariant (c.args.self.counted
          ∙ ap (λ es. text_columns (elements_text es)) (sym all.0 ∙ map-id c.loop-element.yielded));
    }
