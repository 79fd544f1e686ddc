use Rattle.std.proofs.Common.{suc, sym, ap, ◌∙◌, vec_len, arith}
use Rattle.std.specs.Vec.{with_item}
use Rattle.article_values.specs.Sizes.{block_size, blocks_size, items_size}
use Rattle.article_values.proofs.LettingGo.{first_is_less, first_swapped, first_taken, last_taken, size_of_bullets}
use Rattle.article_values.proofs.LettingGo.{some_wait}
use Rattle.article_values.proofs.letting_go.next_of_items.Goals as goal

pub returns-then-is_empty-2 : goal.returns-then-is_empty-2
returns-then-is_empty-2 c = last_taken _ _ block_size (suc (items_size c.args.items.items)) c.args.waiting.now.items
    c.pop.new.self.items c.args.waiting.now.items _ c.pop.result (omega arith) c.pop.ensures.items c.pop.ensures.cases

pub returns : goal.returns
returns c =
    let some_wait_now = some_wait (vec_len c.args.waiting.now) (sym c.is_empty.ensures ∙ c.if-is_empty.false) in
    let some_items = some_wait (vec_len c.args.items) (sym c.is_empty-2.ensures ∙ c.if-is_empty-2.false) in
    let trailing = size_of_bullets (with_item c.args.items 0 c.swap.new.x) in
    let waited = ap (λ v. blocks_size v.items) c.swap.ensures.x_after in
    let waits = ap (λ v. blocks_size v.items) (c.swap.ensures.y_after ∙ c.index_mut.ensures.value) in
    let swapped = first_swapped c.args.items.items c.swap.new.x c.index_mut.result.now (omega arith) in
    let less = first_is_less c.args.items.items c.index_mut.result.now (omega arith) in
    rw (c.in_place_of_first.ensures.taken, c.in_place_of_first.ensures.left)
    (first_taken block_size (suc (items_size c.args.items.items)) _ c.swap.new.y.items
    c.args.waiting.now.items (omega arith) (omega arith) (omega (arith, less)))
