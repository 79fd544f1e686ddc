use Rattle.std.proofs.Common.{◌<◌, suc, sym, ap, ◌∙◌, subst, vec_len, arith}
use Rattle.article_values.specs.Sizes.{block_size, blocks_size}
use Rattle.article_values.proofs.LettingGo.{first_taken, last_taken, size_of_division, some_wait}
use Rattle.article_values.proofs.letting_go.next_of_blocks.Goals as goal

pub returns-then-is_empty : goal.returns-then-is_empty
returns-then-is_empty c = last_taken _ _ block_size (suc (blocks_size c.args.blocks.items)) c.args.blocks.items
    c.pop.new.self.items c.args.waiting.now.items _ c.pop.result (omega arith)
    (sym (ap (λ v. v.items) c.swap.ensures.y_after) ∙ c.pop.ensures.items) c.pop.ensures.cases

pub returns : goal.returns
returns c =
    let e = size_of_division c.swap.new.x in
    let w = ap (λ v. blocks_size v.items) c.swap.ensures.x_after in
    let a = ap (λ v. blocks_size v.items) c.swap.ensures.y_after in
    let some = some_wait (vec_len c.swap.new.x) (sym c.is_empty.ensures ∙ c.if-is_empty.false) in
    let some_waited : 0 < vec_len c.args.waiting.now = subst (λ v. 0 < vec_len v) c.swap.ensures.x_after some in
    rw (c.in_place_of_first.ensures.taken, c.in_place_of_first.ensures.left)
    (first_taken block_size (suc (blocks_size c.args.blocks.items)) _ c.swap.new.y.items c.args.waiting.now.items
    (omega arith) (omega arith) (omega arith))
