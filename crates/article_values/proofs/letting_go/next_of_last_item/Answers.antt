use Rattle.std.proofs.Common.{suc, sym, ap, ◌∙◌, arith}
use Rattle.article_values.specs.Sizes.{block_size, blocks_size, items_size}
use Rattle.article_values.proofs.LettingGo.{first_taken_of_fewer, items_but_one, last_taken, size_of_bullets}
use Rattle.article_values.proofs.letting_go.next_of_last_item.Goals as goal

pub returns : goal.returns
returns c =
    let trailing = size_of_bullets c.pop.new.self in
    let all = ap items_size c.in-Some.ensures.items ∙ items_but_one c.pop.new.self.items c.in-Some.last in
    let waits = ap (λ v. blocks_size v.items) c.swap.ensures.y_after in
    rw (c.in_place_of_first.ensures.taken, c.in_place_of_first.ensures.left)
    (first_taken_of_fewer block_size (suc (items_size c.args.items.items)) _ c.swap.new.y.items
    c.args.waiting.now.items (omega arith))

pub returns-then-is_empty : goal.returns-then-is_empty
returns-then-is_empty c =
    let all = ap items_size c.in-Some.ensures.items ∙ items_but_one c.pop.new.self.items c.in-Some.last in
    last_taken _ _ block_size (suc (items_size c.args.items.items)) c.in-Some.last.items
    c.pop-then-is_empty.new.self.items c.args.waiting.now.items _ c.pop-then-is_empty.result (omega arith)
    (sym (ap (λ v. v.items) c.swap.ensures.y_after) ∙ c.pop-then-is_empty.ensures.items)
    c.pop-then-is_empty.ensures.cases
