use Rattle.std.proofs.Common.{rules, ◌≡◌, ◌≤◌, ◌+◌, suc, max, sym, ap, ◌∙◌, arith}
use Rattle.article_layout.specs.Settings.{options_of}
use Rattle.article_definitions.specs.Layouts.{how_many, least_of, least_of_items, room_of_numbers}
use Rattle.article_values.specs.Views.{block_view, held, items_view}
use Rattle.article_values.proofs.VariantViews.{seen_bullets, seen_numbers}
use Rattle.article_values.proofs.Weights.{blocks_weight, items_weight, one_of, weight, weight_of_bullets}
use Rattle.article_values.proofs.Weights.{weight_of_numbers}
use Rattle.render_sizes.specs.Extents.{capped}
use Rattle.article_layout.proofs.ListLemmas.{items_counted}
use Rattle.article_layout.proofs.leasts.+asking.Goals as goal

pub least_of_block-returns-in_ok-least_of_items-in-Bullets :
    goal.least_of_block-returns-in_ok-least_of_items-in-Bullets
least_of_block-returns-in_ok-least_of_items-in-Bullets t c = λ rest.
    let o = options_of c.args.options in
    let seen = ap (λ v. least_of o (block_view v rest)) c.in-Bullets.is
    ∙ ap (least_of o) (seen_bullets c.in-Bullets.items rest) in
    let same = ap (λ xs. least_of_items o (items_view xs)) c.as_slice-in-Bullets.ensures.value in
    search (rules, seen, same)

pub least_of_block-least_of_items-requires : goal.least_of_block-least_of_items-requires
least_of_block-least_of_items-requires t c =
    let less : weight c.args.block.now ≡ suc (items_weight c.as_slice-in-Bullets.result.now) = ap weight c.in-Bullets.is
    ∙ weight_of_bullets c.in-Bullets.items ∙ ap (λ is. suc (items_weight is))
    (sym c.as_slice-in-Bullets.ensures.value) in
    search (rules, less)

pub least_of_items-least_of-requires : goal.least_of_items-least_of-requires
least_of_items-least_of-requires t c =
    let less : suc (blocks_weight c.item-item.result.items) ≤ items_weight c.args.items.now =
    one_of (λ v. suc (blocks_weight v.items)) c.args.items.now c.items.item-index c.item-item.result c.items-test.true
    c.item-item.is in
    let same : blocks_weight c.as_slice.result.now ≡ blocks_weight c.item-item.result.items =
    ap blocks_weight c.as_slice.ensures.value in
    search (rules, less, same)

pub least_of-least_of_block-requires : goal.least_of-least_of_block-requires
least_of-least_of_block-requires t c =
    let less : weight c.block-item.result ≤ blocks_weight c.args.blocks.now = one_of weight c.args.blocks.now
    c.blocks-2.block-index c.block-item.result c.blocks-2-test.true c.block-item.is in
    search (rules, less)

pub least_of_block-least_of_items-requires-in-Numbers :
    goal.least_of_block-least_of_items-requires-in-Numbers
least_of_block-least_of_items-requires-in-Numbers t c =
    let less : weight c.args.block.now ≡ suc (items_weight c.as_slice-in-Numbers.result.now) = ap weight c.in-Numbers.is
    ∙ weight_of_numbers c.in-Numbers.first c.in-Numbers.items
    ∙ ap (λ is. suc (items_weight is)) (sym c.as_slice-in-Numbers.ensures.value) in
    search (rules, less)

pub least_of_block-returns-in_ok-least_of_items-in-Numbers :
    goal.least_of_block-returns-in_ok-least_of_items-in-Numbers
least_of_block-returns-in_ok-least_of_items-in-Numbers t c = λ rest.
    let o = options_of c.args.options in
    let items = c.in-Numbers.items.items in
    let many : c.len.result ≡ how_many (items_view items) = omega (
      arith,
      c.len.ensures,
      c.in-Numbers.items.ok.0,
      items_counted items,
    ) in
    let columns : c.in_ok-columns-in-Numbers.columns
    ≡ room_of_numbers (held c.in-Numbers.first) (how_many (items_view items))
    = c.in_ok-columns-in-Numbers.ensures ∙ ap (room_of_numbers (held c.in-Numbers.first)) many in
    let same : c.in_ok-least_of_items-in-Numbers.field-0 ≡ least_of_items o (items_view items)
    = c.in_ok-least_of_items-in-Numbers.ensures ∙ ap
    (λ xs. least_of_items o (items_view xs)) c.as_slice-in-Numbers.ensures.value in
    let both : c.saturating_add-in-Numbers.result ≡ capped (least_of_items o (items_view items)
    + room_of_numbers (held c.in-Numbers.first) (how_many (items_view items))) = search (rules, columns, same) in
    ap (λ v. least_of o (block_view v rest)) c.in-Numbers.is
    ∙ ap (least_of o) (seen_numbers c.in-Numbers.first c.in-Numbers.items rest)
    ∙ ap (λ n. max n (least_of o rest)) (sym both)
