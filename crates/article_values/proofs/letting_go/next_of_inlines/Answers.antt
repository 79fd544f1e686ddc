use Rattle.std.proofs.Common.{◌<◌, suc, sym, ap, ◌∙◌, subst, vec_len, arith}
use Rattle.article_values.specs.Sizes.{inline_size, inlines_size}
use Rattle.article_values.proofs.LettingGo.{first_taken, last_taken, size_of_bold, some_wait}
use Rattle.article_values.proofs.letting_go.next_of_inlines.Goals as goal

pub returns-then-is_empty : goal.returns-then-is_empty
returns-then-is_empty c = last_taken _ _ inline_size (suc (inlines_size c.args.contents.items)) c.args.contents.items
    c.pop.new.self.items c.args.waiting.now.items _ c.pop.result (omega arith)
    (sym (ap (λ v. v.items) c.swap.ensures.y_after) ∙ c.pop.ensures.items) c.pop.ensures.cases

pub returns : goal.returns
returns c =
    let e = size_of_bold c.swap.new.x in
    let w = ap (λ v. inlines_size v.items) c.swap.ensures.x_after in
    let a = ap (λ v. inlines_size v.items) c.swap.ensures.y_after in
    let some = some_wait (vec_len c.swap.new.x) (sym c.is_empty.ensures ∙ c.if-is_empty.false) in
    let some_waited : 0 < vec_len c.args.waiting.now = subst (λ v. 0 < vec_len v) c.swap.ensures.x_after some in
    rw (c.in_place_of_first.ensures.taken, c.in_place_of_first.ensures.left)
    (first_taken inline_size (suc (inlines_size c.args.contents.items)) _ c.swap.new.y.items c.args.waiting.now.items
    (omega arith) (omega arith) (omega arith))
