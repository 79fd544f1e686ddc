use Rattle.std.proofs.Common.{rules, ◌≡◌, ◌≤◌, ◌+◌, suc, [], ◌++◌, map, None, Some, sym, ap, ◌∙◌, arith}
use Rattle.std.specs.Option.{option_and_then}
use Rattle.std.specs.Str.{chars}
use Rattle.std.proofs.lemmas.Result.{on_ok_weaker}
use Rattle.article_layout.specs.Lines.{line_of}
use Rattle.article_layout.specs.Seen.{at_of, lines_of}
use Rattle.article_layout.specs.Settings.{options_of}
use Rattle.article_layout.specs.Walks.{laid, laid_items, parted_at}
use Rattle.article_definitions.specs.Layouts.{how_many, least_of, least_of_items, parted, prefixed, quote_prefix, room}
use Rattle.article_definitions.specs.Layouts.{room_of_numbers}
use Rattle.article_values.specs.Views.{block_view, blocks_view, held, items_view}
use Rattle.article_values.proofs.VariantViews.{seen_bullets, seen_numbers}
use Rattle.article_values.proofs.Weights.{blocks_weight, items_weight, one_of, weight, weight_of_bullets}
use Rattle.article_values.proofs.Weights.{weight_of_numbers}
use Rattle.render_sizes.specs.Extents.{capped}
use Rattle.article_layout.proofs.ListLemmas.{items_counted}
use Rattle.article_layout.proofs.QuoteSteps.{quoted}
use Rattle.article_layout.proofs.blocks.+laying.Goals as goal

pub lay_blocks-lay_block-requires : goal.lay_blocks-lay_block-requires
lay_blocks-lay_block-requires t c =
    let less : weight c.block-item.result ≤ blocks_weight c.args.blocks.now = one_of weight c.args.blocks.now
    c.blocks-2.block-index c.block-item.result c.blocks-2-test.true c.block-item.is in
    search (rules, less)

pub lay_list-lay_item-requires : goal.lay_list-lay_item-requires
lay_list-lay_item-requires t c =
    let less : suc (blocks_weight c.item-item.result.items) ≤ items_weight c.args.items.now =
    one_of (λ v. suc (blocks_weight v.items)) c.args.items.now c.items.item-index c.item-item.result c.items-test.true
    c.item-item.is in
    let same : blocks_weight c.as_slice.result.now ≡ blocks_weight c.item-item.result.items =
    ap blocks_weight c.as_slice.ensures.value in
    search (rules, less, same)

pub lay_block-lay_list-requires : goal.lay_block-lay_list-requires
lay_block-lay_list-requires t c =
    let less : weight c.args.block.now ≡ suc (items_weight c.as_slice-in-Bullets.result.now) = ap weight c.in-Bullets.is
    ∙ weight_of_bullets c.in-Bullets.items ∙ ap (λ is. suc (items_weight is))
    (sym c.as_slice-in-Bullets.ensures.value) in
    search (rules, less)

pub lay_block-lay_list-requires-in-Numbers : goal.lay_block-lay_list-requires-in-Numbers
lay_block-lay_list-requires-in-Numbers t c =
    let less : weight c.args.block.now ≡ suc (items_weight c.as_slice-in-Numbers.result.now) = ap weight c.in-Numbers.is
    ∙ weight_of_numbers c.in-Numbers.first c.in-Numbers.items
    ∙ ap (λ is. suc (items_weight is)) (sym c.as_slice-in-Numbers.ensures.value) in
    search (rules, less)

pub lay_block-returns-in-Bullets-clause-done : goal.lay_block-returns-in-Bullets-clause-done
lay_block-returns-in-Bullets-clause-done t c = on_ok_weaker c.lay_list.result (λ h. λ rest.
    ap (λ v. laid (options_of c.args.room.options) c.args.room.width (block_view v rest)
    (at_of c.args.lines.now c.args.trailing.now)) c.in-Bullets.is
    ∙ ap (λ bs. laid (options_of c.args.room.options) c.args.room.width bs (at_of c.args.lines.now c.args.trailing.now))
    (seen_bullets c.in-Bullets.items rest)
    ∙ ap (option_and_then (laid (options_of c.args.room.options) c.args.room.width rest))
    (ap (λ xs. laid_items (options_of c.args.room.options) c.args.room.width 2
    (capped (least_of_items (options_of c.args.room.options) (items_view xs) + 2)) None (items_view xs)
    (parted_at (options_of c.args.room.options) c.args.room.width (at_of c.args.lines.now c.args.trailing.now)))
    (sym c.as_slice-in-Bullets.ensures.value) ∙ h)) c.lay_list.ensures.done

pub lay_block-returns-in-Bullets-clause-narrow : goal.lay_block-returns-in-Bullets-clause-narrow
lay_block-returns-in-Bullets-clause-narrow t c = λ e. λ rest.
    ap (λ v. laid (options_of c.args.room.options) c.args.room.width (block_view v rest)
    (at_of c.args.lines.now c.args.trailing.now)) c.in-Bullets.is
    ∙ ap (λ bs. laid (options_of c.args.room.options) c.args.room.width bs (at_of c.args.lines.now c.args.trailing.now))
    (seen_bullets c.in-Bullets.items rest)
    ∙ ap (option_and_then (laid (options_of c.args.room.options) c.args.room.width rest))
    (ap (λ xs. laid_items (options_of c.args.room.options) c.args.room.width 2
    (capped (least_of_items (options_of c.args.room.options) (items_view xs) + 2)) None (items_view xs)
    (parted_at (options_of c.args.room.options) c.args.room.width (at_of c.args.lines.now c.args.trailing.now)))
    (sym c.as_slice-in-Bullets.ensures.value) ∙ c.lay_list.ensures.narrow e)

pub lay_block-returns-in_ok-columns-in-Numbers-clause-done :
    goal.lay_block-returns-in_ok-columns-in-Numbers-clause-done
lay_block-returns-in_ok-columns-in-Numbers-clause-done t c =
    let items = c.in-Numbers.items.items in
    let many : c.len.result ≡ how_many (items_view items) = omega (
      arith,
      c.len.ensures,
      c.in-Numbers.items.ok.0,
      items_counted items,
    ) in
    let columns : c.in_ok-columns-in-Numbers.columns
    ≡ room_of_numbers (held c.in-Numbers.first) (how_many (items_view items))
    = c.in_ok-columns-in-Numbers.ensures ∙ ap (room_of_numbers (held c.in-Numbers.first)) many in
    on_ok_weaker c.lay_list-in-Numbers.result (λ h. λ rest.
    ap (λ v. laid (options_of c.args.room.options) c.args.room.width (block_view v rest)
    (at_of c.args.lines.now c.args.trailing.now)) c.in-Numbers.is
    ∙ ap (λ bs. laid (options_of c.args.room.options) c.args.room.width bs (at_of c.args.lines.now c.args.trailing.now))
    (seen_numbers c.in-Numbers.first c.in-Numbers.items rest)
    ∙ ap (option_and_then (laid (options_of c.args.room.options) c.args.room.width rest))
    (ap (λ n. laid_items (options_of c.args.room.options) c.args.room.width n
    (capped (least_of_items (options_of c.args.room.options) (items_view items) + n))
    (Some (held c.in-Numbers.first))
    (items_view items) (parted_at (options_of c.args.room.options) c.args.room.width
    (at_of c.args.lines.now c.args.trailing.now))) (sym columns)
    ∙ ap (λ xs. laid_items (options_of c.args.room.options) c.args.room.width c.in_ok-columns-in-Numbers.columns
    (capped (least_of_items (options_of c.args.room.options) (items_view xs)
    + c.in_ok-columns-in-Numbers.columns)) (Some (held c.in-Numbers.first)) (items_view xs)
    (parted_at (options_of c.args.room.options) c.args.room.width (at_of c.args.lines.now c.args.trailing.now)))
    (sym c.as_slice-in-Numbers.ensures.value) ∙ h)) c.lay_list-in-Numbers.ensures.done

pub lay_block-returns-in_ok-columns-in-Numbers-clause-narrow :
    goal.lay_block-returns-in_ok-columns-in-Numbers-clause-narrow
lay_block-returns-in_ok-columns-in-Numbers-clause-narrow t c =
    let items = c.in-Numbers.items.items in
    let many : c.len.result ≡ how_many (items_view items) = omega (
      arith,
      c.len.ensures,
      c.in-Numbers.items.ok.0,
      items_counted items,
    ) in
    let columns : c.in_ok-columns-in-Numbers.columns
    ≡ room_of_numbers (held c.in-Numbers.first) (how_many (items_view items))
    = c.in_ok-columns-in-Numbers.ensures ∙ ap (room_of_numbers (held c.in-Numbers.first)) many in
    λ e. λ rest.
    ap (λ v. laid (options_of c.args.room.options) c.args.room.width (block_view v rest)
    (at_of c.args.lines.now c.args.trailing.now)) c.in-Numbers.is
    ∙ ap (λ bs. laid (options_of c.args.room.options) c.args.room.width bs (at_of c.args.lines.now c.args.trailing.now))
    (seen_numbers c.in-Numbers.first c.in-Numbers.items rest)
    ∙ ap (option_and_then (laid (options_of c.args.room.options) c.args.room.width rest))
    (ap (λ n. laid_items (options_of c.args.room.options) c.args.room.width n
    (capped (least_of_items (options_of c.args.room.options) (items_view items) + n))
    (Some (held c.in-Numbers.first))
    (items_view items) (parted_at (options_of c.args.room.options) c.args.room.width
    (at_of c.args.lines.now c.args.trailing.now))) (sym columns)
    ∙ ap (λ xs. laid_items (options_of c.args.room.options) c.args.room.width c.in_ok-columns-in-Numbers.columns
    (capped (least_of_items (options_of c.args.room.options) (items_view xs)
    + c.in_ok-columns-in-Numbers.columns)) (Some (held c.in-Numbers.first)) (items_view xs)
    (parted_at (options_of c.args.room.options) c.args.room.width (at_of c.args.lines.now c.args.trailing.now)))
    (sym c.as_slice-in-Numbers.ensures.value) ∙ c.lay_list-in-Numbers.ensures.narrow e)

pub lay_quote-returns-clause-done : goal.lay_quote-returns-clause-done
unfolding chars
lay_quote-returns-clause-done t c =
    let o = options_of c.args.room.options in
    let w = c.args.room.width in
    let seen = blocks_view c.args.blocks.now in
    let s = at_of c.args.lines.now c.args.trailing.now in
    let inner = at_of c.lay_blocks.new.lines c.lay_blocks.new.trailing in
    let room_of = c.in_ok-within.within in
    let least : c.saturating_add-least.result ≡ capped (least_of o seen + 2) = search (rules) in
    quoted o w (capped (least_of o seen + 2)) room_of.width (λ within. laid o within seen) s inner
    (lines_of c.append_after.new.self)
    (ap (room w 2) (sym least) ∙ c.in_ok-within.ensures.room)
    (ap (λ opts. laid (options_of opts) room_of.width seen (record s { lines = [] }))
    (sym c.in_ok-within.ensures.options)
    ∙ ap (λ ls. laid (options_of room_of.options) room_of.width seen (record s { lines = ls })) (sym c.new-own.ensures)
    ∙ c.in_ok-lay_blocks.ensures.done)
    (c.in_ok-append_after.ensures
    ∙ ap (λ ls. ls ++ prefixed o w quote_prefix quote_prefix (map line_of c.into_lines.result.items))
    c.in_ok-part.ensures
    ∙ ap (λ ls. parted o w (lines_of c.args.lines.now)
    ++ prefixed o w quote_prefix quote_prefix ls) c.into_lines.ensures)
