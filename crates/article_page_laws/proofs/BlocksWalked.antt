-- What the walk of a render tree makes of the values of an article's blocks: the calls of its blocks.
use Rattle.std.proofs.Common.{◌≡◌, ◌+◌, ◌-◌, ◌++◌, ◌∙◌, Bool, List, None, Option, Some, ap, append-nil, append_assoc}
use Rattle.std.proofs.Common.{codes, false, max, refl, replicate, sym, ℕ, ℤ}
use Rattle.std.specs.Option.{option_and_then, option_map}
use Rattle.article_definitions.specs.ArticleValues.{values_of_blocks, values_of_inlines, values_of_items}
use Rattle.article_definitions.specs.BlockCalls.{run_blocks, run_items}
use Rattle.article_definitions.specs.Calls.{run}
use Rattle.article_definitions.specs.Layouts.{Options, Tag, how_many, item_prefix, least_in, least_of, least_of_items}
use Rattle.article_definitions.specs.Layouts.{next_number, outermost, parts_of, quote_prefix, room_of_numbers}
use Rattle.article_definitions.specs.Layouts.{targets_in, targets_of, targets_of_items, to_room}
use Rattle.article_values.specs.Articles.{Blocks, Inlines, Items, bullets, division, heading, item, no_blocks, no_items}
use Rattle.article_values.specs.Articles.{numbers, paragraph, quote}
use Rattle.block_layout.specs.Laid.{Laid, end_block, flush, nothing_laid, start_block}
use Rattle.block_layout.specs.declared.measure.Measure.{Measure}
use Rattle.layout_state.specs.Begins.{begins, ends, following, leading, style_begins, style_ends}
use Rattle.layout_state.specs.Items.{item_columns, item_mark, last_mark, next_mark, padded, spaces}
use Rattle.layout_state.specs.LayoutState.{Step, after_prefix, goes_on, mark_of}
use Rattle.layout_state.specs.LayoutState as laying_of
use Rattle.layout_state.specs.declared.around.Around.TheVariants.{Flow, Items as InItems}
use Rattle.layout_state.specs.declared.around.ItemMark.{ItemMark}
use Rattle.layout_state.specs.declared.around.ItemMark.TheVariants.{Bullet, Number}
use Rattle.render_sizes.specs.Extents.{capped, extent_of, number}
use Rattle.render_values.specs.Looks.{plain}
use Rattle.render_values.specs.Plain.{plain_head}
use Rattle.render_values.specs.Values.{Values, value}
use Rattle.render_values.specs.declared.info.RenderInfo.{RenderInfo}
use Rattle.render_values.specs.declared.info.RenderInfo.TheVariants as infos
use Rattle.layout_values.specs.Lay.{after_mark, content_of, holds, lay, listed, shown, styled}
use Rattle.block_trait.specs.Calls.{ends_block, ends_line, starts_block}
use Rattle.block_trait.specs.declared.options.RenderOptions.{RenderOptions}
use Rattle.text_block_renderer.specs.PlainText.{plain_marking}
use Rattle.text_decorators.specs.Marks.{header, quote as quote_mark}
use Rattle.article_page_laws.specs.Measures.{plain_measure, plain_sizing}
use Rattle.article_page_laws.specs.Pages.{AreFilled, AreFilledBlocks, AreFilledItems, Place}
use Rattle.article_page_laws.proofs.InlinesWalked.{are_walked, around_it, next, unstyled}
use Rattle.article_page_laws.proofs.Leasts.{bullet_columns, least_of_inlines, least_of_item_values, least_of_values}
use Rattle.article_page_laws.proofs.Leasts.{number_of_items, numbers_columns}
use Rattle.article_page_laws.proofs.PagesLaid.{Layings, ended, flushed, part_at, started}
use Rattle.article_page_laws.proofs.PartsWalked.{after_is, article, at, in_list, ms, put, put_then, start_last}
use Rattle.article_page_laws.proofs.PartsWalked.{start_quiet, start_rests, then_walk}
use Rattle.article_page_laws.proofs.Prefixes.{both, heading_columns_are, item_columns_are, quote_columns_are}
use Rattle.article_page_laws.proofs.SaidTexts.{nothing_more}

-- what stands before an item of that number, or of none
abbrev mark_at : Option ℤ → ItemMark
mark_at None = Bullet
mark_at (Some z) = Number z

next_mark_is : (number : Option ℤ) → next_mark (mark_at number) ≡ mark_at (next_number number)
next_mark_is None = refl
next_mark_is (Some z) = refl

-- the number after items
abbrev number_after : Items → Option ℤ → Option ℤ
number_after no_items number = number
number_after (item kids rest) number = number_after rest (next_number number)

module _ (given : RenderOptions) (decorates : Bool) (min_wrap : ℕ) (held : Unit {0}) where
  abbrev pub here : Place → List (List ℕ) → Laid Tag → Layings
  here = at given decorates min_wrap held

  abbrev items_at : Option ℤ → (columns least : ℕ) → Place → List (List ℕ) → Laid Tag → Layings
  items_at number columns least = in_list given decorates min_wrap held (InItems (mark_at number) columns least)

  abbrev pub o : Options
  o = article given decorates min_wrap held

  abbrev w : Place → Measure
  w = ms given decorates min_wrap held

  abbrev part : Place → (columns least : ℕ) → (first following : List ℕ) → (ℕ → Option (Laid Tag)) → Laid Tag
      → Option (Laid Tag)
  part = put given decorates min_wrap held

  abbrev pub walk : Values → Step (Unit {0}) (Unit {0})
  walk vs = lay plain_marking (plain_sizing given o) vs

  abbrev least : RenderInfo → Values → ℕ
  least info inside = (extent_of (plain_measure o) (plain_head info) inside).least

  -- ---- values

  block_value : (inside rest : Values) (p : Place) (ts : List (List ℕ)) (b : Laid Tag) →
      walk (value (plain_head infos.Block) inside rest) (here p ts b)
      ≡ option_and_then (walk rest) (option_and_then (laying_of.says plain_marking ends_block)
      (option_and_then (walk inside) (laying_of.says plain_marking starts_block (here p ts b))))
  unfolding begins ends holds leading following style_begins
  block_value inside rest p ts b = ap (option_and_then (walk rest)) (around_it (walk inside) _ _)

  division_value : (inside rest : Values) (p : Place) (ts : List (List ℕ)) (b : Laid Tag) →
      walk (value (plain_head infos.Division) inside rest) (here p ts b)
      ≡ option_and_then (walk rest) (option_and_then (laying_of.says plain_marking ends_line)
      (option_and_then (walk inside) (laying_of.says plain_marking ends_line (here p ts b))))
  unfolding begins ends holds leading following style_begins
  division_value inside rest p ts b = ap (option_and_then (walk rest)) (around_it (walk inside) _ _)

  heading_value : (level : ℕ) (inside rest : Values) (p : Place) (ts : List (List ℕ)) (b : Laid Tag) →
      walk (value (plain_head (infos.Heading level)) inside rest) (here p ts b)
      ≡ option_and_then (walk rest) (option_and_then (laying_of.says plain_marking ends_block) (option_and_then
      (after_mark plain_marking (header level) (least (infos.Heading level) inside) (walk inside))
      (laying_of.says plain_marking starts_block (here p ts b))))
  unfolding begins ends holds leading following style_begins
  heading_value level inside rest p ts b = ap (option_and_then (walk rest))
      (around_it (after_mark plain_marking (header level) (least (infos.Heading level) inside) (walk inside)) _ _)

  quote_value : (inside rest : Values) (p : Place) (ts : List (List ℕ)) (b : Laid Tag) →
      walk (value (plain_head infos.Quote) inside rest) (here p ts b)
      ≡ option_and_then (walk rest) (option_and_then (laying_of.says plain_marking ends_block) (option_and_then
      (after_mark plain_marking quote_mark (least infos.Quote inside) (walk inside))
      (laying_of.says plain_marking starts_block (here p ts b))))
  unfolding begins ends holds leading following style_begins
  quote_value inside rest p ts b = ap (option_and_then (walk rest))
      (around_it (after_mark plain_marking quote_mark (least infos.Quote inside) (walk inside)) _ _)

  bullets_value : (inside rest : Values) (p : Place) (ts : List (List ℕ)) (b : Laid Tag) →
      walk (value (plain_head infos.Bullets) inside rest) (here p ts b)
      ≡ option_and_then (walk rest) (option_and_then
      (listed plain_marking Bullet (number inside) (least infos.Bullets inside) (walk inside))
      (laying_of.says plain_marking starts_block (here p ts b)))
  unfolding begins ends holds leading following style_begins
  bullets_value inside rest p ts b = ap (option_and_then (walk rest))
      (around_it (listed plain_marking Bullet (number inside) (least infos.Bullets inside) (walk inside)) Some
      (laying_of.says plain_marking starts_block (here p ts b)) ∙ nothing_more _)

  numbers_value : (first : ℤ) (inside rest : Values) (p : Place) (ts : List (List ℕ)) (b : Laid Tag) →
      walk (value (plain_head (infos.Numbers first)) inside rest) (here p ts b)
      ≡ option_and_then (walk rest) (option_and_then
      (listed plain_marking (Number first) (number inside) (least (infos.Numbers first) inside) (walk inside))
      (laying_of.says plain_marking starts_block (here p ts b)))
  unfolding begins ends holds leading following style_begins
  numbers_value first inside rest p ts b = ap (option_and_then (walk rest))
      (around_it (listed plain_marking (Number first) (number inside) (least (infos.Numbers first) inside)
      (walk inside))
      Some (laying_of.says plain_marking starts_block (here p ts b)) ∙ nothing_more _)

  -- ---- items

  abbrev pub contained : Values → Step (Unit {0}) (Unit {0})
  contained inside = styled plain_marking plain (shown plain_marking (plain_head infos.Container)
      (content_of (plain_sizing given o) (plain_head infos.Container) inside) (walk inside))

  pub contained_is : (inside : Values) (l : Layings) → contained inside l ≡ walk inside l
  unfolding begins ends holds leading following style_begins
  contained_is inside l = unstyled (option_and_then (λ (l : Layings). Some l) (walk inside l)) ∙ nothing_more
      (walk inside l)

  item_text : (columns : ℕ) (n : Option ℤ) (l : Layings) →
      padded columns (mark_of plain_marking (item_mark (mark_at n)) l) ≡ to_room columns (item_prefix n)
  unfolding mark_of
  item_text columns None l = ap (λ k. item_prefix None ++ spaces (columns - k)) (item_columns_are None)
  item_text columns (Some z) l = ap (λ k. item_prefix (Some z) ++ spaces (columns - k)) (item_columns_are (Some z))

  onward : (mark : ItemMark) (columns least : ℕ) (p : Place) (ts : List (List ℕ)) (x : Option (Laid Tag)) →
      option_and_then (goes_on (InItems mark columns least)) (option_map (here p ts) x)
      ≡ option_map (in_list given decorates min_wrap held (InItems mark columns least) p ts) x
  onward mark columns least p ts None = refl
  onward mark columns least p ts (Some b) = refl

  item_value : (n : Option ℤ) (columns least : ℕ) (inside rest : Values) (p : Place) (ts all : List (List ℕ))
      (b : Laid Tag) (go : ℕ → Option (Laid Tag)) →
      ((within : ℕ) → walk inside (here (part_at within p) ts nothing_laid)
      ≡ option_map (here (part_at within p) all) (go within)) →
      walk (value (plain_head infos.Container) inside rest) (items_at n columns least p ts b)
      ≡ option_and_then (walk rest) (option_map (items_at (next_number n) columns least p all)
      (part p columns least (to_room columns (item_prefix n)) (spaces columns) go b))
  unfolding style_ends
  item_value n columns least inside rest p ts all b go same =
      let mark : ItemMark = mark_at n in
      let text : List ℕ = padded columns (mark_of plain_marking (item_mark mark) (items_at n columns least p ts b)) in
      ap (λ x. option_and_then (walk rest) (option_and_then (goes_on (InItems (next_mark mark) columns least)) x))
      (after_is given decorates min_wrap held (InItems mark columns least) columns least text (spaces columns)
      (contained inside) p ts all b go (λ within. contained_is inside (here (part_at within p) ts nothing_laid)
      ∙ same within))
      ∙ ap (option_and_then (walk rest))
      (onward (next_mark mark) columns least p all (part p columns least text (spaces columns) go b))
      ∙ ap (λ mark. option_and_then (walk rest) (option_map
      (in_list given decorates min_wrap held (InItems mark columns least) p all)
      (part p columns least text (spaces columns) go b))) (next_mark_is n)
      ∙ ap (λ text. option_and_then (walk rest) (option_map (items_at (next_number n) columns least p all)
      (part p columns least text (spaces columns) go b)))
      (item_text columns n (items_at n columns least p ts b))

  -- ---- lists

  flow_again : (n : Option ℤ) (columns least : ℕ) (p : Place) (ts : List (List ℕ)) (x : Option (Laid Tag)) →
      option_and_then (goes_on Flow) (option_map (items_at n columns least p ts) x) ≡ option_map (here p ts) x
  flow_again n columns least p ts None = refl
  flow_again n columns least p ts (Some b) = refl

  bullets_room : (count : ℕ) (l : Layings) → item_columns plain_marking Bullet (last_mark Bullet count) l ≡ 2
  unfolding mark_of
  bullets_room count l = both max bullet_columns bullet_columns

  numbers_room : (first : ℤ) (count : ℕ) (l : Layings) →
      item_columns plain_marking (Number first) (last_mark (Number first) count) l ≡ room_of_numbers first count
  unfolding mark_of
  numbers_room first count l = numbers_columns o first count

  listed_is : (n trailing : Option ℤ) (count given_least columns asked : ℕ) (inside : Values) (p : Place)
      (ts all : List (List ℕ)) (b : Laid Tag) (x : Option (Laid Tag)) →
      item_columns plain_marking (mark_at n) (last_mark (mark_at n) count) (here p ts b) ≡ columns →
      given_least ≡ asked →
      walk inside (items_at n columns asked p ts b) ≡ option_map (items_at trailing columns asked p all) x →
      listed plain_marking (mark_at n) count given_least (walk inside) (here p ts b) ≡ option_map (here p all) x
  listed_is n trailing count given_least columns asked inside p ts all b x room asks walked =
      both (λ c k. option_and_then (goes_on Flow) (walk inside (items_at n c k p ts b))) room asks
      ∙ ap (option_and_then (goes_on Flow)) walked
      ∙ flow_again trailing columns asked p all x

  -- ---- headings and quotes

  headed_is : (level asked : ℕ) (is : Inlines) (p : Place) (ts all : List (List ℕ)) (b : Laid Tag)
      (go : ℕ → Option (Laid Tag)) → least (infos.Heading level) (values_of_inlines o is) ≡ asked →
      ((within : ℕ) → walk (values_of_inlines o is) (here (part_at within p) ts nothing_laid)
      ≡ option_map (here (part_at within p) all) (go within)) →
      after_mark plain_marking (header level) (least (infos.Heading level) (values_of_inlines o is))
      (walk (values_of_inlines o is)) (here p ts b)
      ≡ option_map (here p all)
      (part p (level + 1) asked (replicate level 0x23 ++ codes " ") (replicate level 0x23 ++ codes " ") go b)
  unfolding mark_of
  headed_is level asked is p ts all b go asks same =
      let prefix : List ℕ = replicate level 0x23 ++ codes " " in
      both (λ c k. after_prefix plain_marking c prefix prefix k (walk (values_of_inlines o is)) (here p ts b))
      (heading_columns_are level) asks
      ∙ after_is given decorates min_wrap held Flow (level + 1) asked prefix prefix (walk
      (values_of_inlines o is)) p ts
      all b go same

  quoted_is : (asked : ℕ) (inside : Values) (p : Place) (ts all : List (List ℕ)) (b : Laid Tag)
      (go : ℕ → Option (Laid Tag)) → least infos.Quote inside ≡ asked →
      ((within : ℕ) → walk inside (here (part_at within p) ts nothing_laid)
      ≡ option_map (here (part_at within p) all) (go within)) →
      after_mark plain_marking quote_mark (least infos.Quote inside) (walk inside) (here p ts b)
      ≡ option_map (here p all) (part p 2 asked quote_prefix quote_prefix go b)
  unfolding mark_of
  quoted_is asked inside p ts all b go asks same =
      both (λ c k. after_prefix plain_marking c quote_prefix quote_prefix k (walk inside) (here p ts b))
      quote_columns_are asks
      ∙ after_is given decorates min_wrap held Flow 2 asked quote_prefix quote_prefix (walk inside) p ts all b go same

  ends_is : (p : Place) (ts : List (List ℕ)) (x : Option (Laid Tag)) →
      option_and_then (laying_of.says plain_marking ends_block) (option_map (here p ts) x)
      ≡ option_map (λ b. here p ts (end_block b)) x
  ends_is p ts None = refl
  ends_is p ts (Some b) = ended given decorates min_wrap held p ts b

  -- ---- blocks

  abbrev AreWalked : Blocks → Type 0
  AreWalked blocks = (p : Place) (ts : List (List ℕ)) (b : Laid Tag) →
      walk (values_of_blocks o blocks) (here p ts b)
      ≡ option_map (here p (ts ++ targets_of o blocks)) (run_blocks o p.width ts blocks b)

  -- what follows a block
  rest_walked : (rest : Blocks) → AreWalked rest → (p : Place) (ts more : List (List ℕ))
      (change : Laid Tag → Laid Tag) (x : Option (Laid Tag)) →
      option_and_then (walk (values_of_blocks o rest)) (option_map (λ b. here p (ts ++ more) (change b)) x)
      ≡ option_map (here p (ts ++ (more ++ targets_of o rest)))
      (option_and_then (λ b. run_blocks o p.width (ts ++ more) rest (change b)) x)
  rest_walked rest walked p ts more change x =
      then_walk (walk (values_of_blocks o rest)) (λ b. run_blocks o p.width (ts ++ more) rest (change b))
      (λ b. here p (ts ++ more) (change b)) (here p ((ts ++ more) ++ targets_of o rest)) x
      (λ b. walked p (ts ++ more) (change b))
      ∙ ap (λ all. option_map (here p all)
      (option_and_then (λ b. run_blocks o p.width (ts ++ more) rest (change b)) x))
      (append_assoc ts more (targets_of o rest))

  inside_walked : (is : Inlines) → AreFilled is → (p : Place) (ts : List (List ℕ)) →
      (b : Laid Tag) → b.awaits ≡ false → walk (values_of_inlines o is) (here p ts b)
      ≡ option_map (here p (ts ++ targets_in o is)) (run (w p) (parts_of o outermost ts is) b)
  inside_walked is filled p ts b quiet =
      are_walked given decorates min_wrap held is filled p ts outermost b quiet

  paragraph_walked : (is : Inlines) (rest : Blocks) → AreFilled is → AreWalked rest → AreWalked (paragraph is rest)
  paragraph_walked is rest filled walked p ts b =
      let inside : Values = values_of_inlines o is in
      let others : Values = values_of_blocks o rest in
      let trailing : List (List ℕ) = ts ++ targets_in o is in
      let begun : Option (Laid Tag) = start_block (w p) outermost b in
      block_value inside others p ts b
      ∙ ap (λ x. option_and_then (walk others) (option_and_then (laying_of.says plain_marking ends_block)
      (option_and_then (walk inside) x))) (started given decorates min_wrap held p ts b)
      ∙ ap (λ x. option_and_then (walk others) (option_and_then (laying_of.says plain_marking ends_block) x))
      (next (walk inside) (run (w p) (parts_of o outermost ts is)) (here p ts) (here p trailing) begun
      (start_quiet (w p) b) (λ b quiet. inside_walked is filled p ts b quiet))
      ∙ ap (option_and_then (walk others))
      (ends_is p trailing (option_and_then (run (w p) (parts_of o outermost ts is)) begun))
      ∙ rest_walked rest walked p ts (targets_in o is) end_block
      (option_and_then (run (w p) (parts_of o outermost ts is)) begun)

  heading_walked : (level : ℕ) (is : Inlines) (rest : Blocks) → AreFilled is → AreWalked rest →
      AreWalked (heading level is rest)
  heading_walked level is rest filled walked p ts b =
      let inside : Values = values_of_inlines o is in
      let others : Values = values_of_blocks o rest in
      let targets : List (List ℕ) = targets_in o is in
      let trailing : List (List ℕ) = ts ++ targets in
      let begun : Option (Laid Tag) = start_block (w p) outermost b in
      let asked : ℕ = capped (least_in o is + (level + 1)) in
      let prefix : List ℕ = replicate level 0x23 ++ codes " " in
      let go = λ (within : ℕ). run (w (part_at within p)) (parts_of o outermost ts is) nothing_laid in
      let asks : least (infos.Heading level) inside ≡ asked =
      ap capped (both (λ k n. k + n) (least_of_inlines o is) (heading_columns_are level)) in
      heading_value level inside others p ts b
      ∙ ap (λ x. option_and_then (walk others) (option_and_then (laying_of.says plain_marking ends_block)
      (option_and_then (after_mark plain_marking (header level) (least (infos.Heading level) inside)
      (walk inside)) x)))
      (started given decorates min_wrap held p ts b)
      ∙ ap (λ x. option_and_then (walk others) (option_and_then (laying_of.says plain_marking ends_block) x))
      (then_walk (after_mark plain_marking (header level) (least (infos.Heading level) inside) (walk inside))
      (part p (level + 1) asked prefix prefix go) (here p ts) (here p trailing) begun
      (λ b. headed_is level asked is p ts trailing b go asks
      (λ within. inside_walked is filled (part_at within p) ts nothing_laid refl)))
      ∙ ap (option_and_then (walk others))
      (ends_is p trailing (option_and_then (part p (level + 1) asked prefix prefix go) begun))
      ∙ rest_walked rest walked p ts targets end_block
      (option_and_then (part p (level + 1) asked prefix prefix go) begun)
      ∙ ap (option_map (here p (ts ++ (targets ++ targets_of o rest))))
      (start_last given decorates min_wrap held p (level + 1) asked prefix prefix go
      (λ b. run_blocks o p.width (ts ++ targets) rest (end_block b)) begun (start_rests (w p) b))

  division_walked : (kids rest : Blocks) → AreWalked kids → AreWalked rest → AreWalked (division kids rest)
  division_walked kids rest in_kids walked p ts b =
      let inside : Values = values_of_blocks o kids in
      let others : Values = values_of_blocks o rest in
      let trailing : List (List ℕ) = ts ++ targets_of o kids in
      let begun : Option (Laid Tag) = flush (w p) outermost b in
      let filled : Option (Laid Tag) = option_and_then (run_blocks o p.width ts kids) begun in
      division_value inside others p ts b
      ∙ ap (λ x. option_and_then (walk others) (option_and_then (laying_of.says plain_marking ends_line)
      (option_and_then (walk inside) x))) (flushed given decorates min_wrap held p ts b)
      ∙ ap (λ x. option_and_then (walk others) (option_and_then (laying_of.says plain_marking ends_line) x))
      (then_walk (walk inside) (run_blocks o p.width ts kids) (here p ts) (here p trailing) begun
      (λ b. in_kids p ts b))
      ∙ ap (option_and_then (walk others))
      (then_walk (laying_of.says plain_marking ends_line) (flush (w p) outermost) (here p trailing) (here p trailing)
      filled
      (λ b. flushed given decorates min_wrap held p trailing b))
      ∙ rest_walked rest walked p ts (targets_of o kids) (λ b. b)
      (option_and_then (flush (w p) outermost) filled)

  quote_walked : (kids rest : Blocks) → AreWalked kids → AreWalked rest → AreWalked (quote kids rest)
  quote_walked kids rest in_kids walked p ts b =
      let inside : Values = values_of_blocks o kids in
      let others : Values = values_of_blocks o rest in
      let targets : List (List ℕ) = targets_of o kids in
      let trailing : List (List ℕ) = ts ++ targets in
      let begun : Option (Laid Tag) = start_block (w p) outermost b in
      let asked : ℕ = capped (least_of o kids + 2) in
      let go = λ (within : ℕ). run_blocks o within ts kids nothing_laid in
      let asks : least infos.Quote inside ≡ asked =
      ap capped (both (λ k n. k + n) (least_of_values o kids) quote_columns_are) in
      quote_value inside others p ts b
      ∙ ap (λ x. option_and_then (walk others) (option_and_then (laying_of.says plain_marking ends_block)
      (option_and_then (after_mark plain_marking quote_mark (least infos.Quote inside) (walk inside)) x)))
      (started given decorates min_wrap held p ts b)
      ∙ ap (λ x. option_and_then (walk others) (option_and_then (laying_of.says plain_marking ends_block) x))
      (then_walk (after_mark plain_marking quote_mark (least infos.Quote inside) (walk inside))
      (part p 2 asked quote_prefix quote_prefix go) (here p ts) (here p trailing) begun
      (λ b. quoted_is asked inside p ts trailing b go asks
      (λ within. in_kids (part_at within p) ts nothing_laid)))
      ∙ ap (option_and_then (walk others))
      (ends_is p trailing (option_and_then (part p 2 asked quote_prefix quote_prefix go) begun))
      ∙ rest_walked rest walked p ts targets end_block
      (option_and_then (part p 2 asked quote_prefix quote_prefix go) begun)
      ∙ ap (option_map (here p (ts ++ (targets ++ targets_of o rest))))
      (start_last given decorates min_wrap held p 2 asked quote_prefix quote_prefix go
      (λ b. run_blocks o p.width (ts ++ targets) rest (end_block b)) begun (start_rests (w p) b))

  -- of a list that begins with that number, or none, in so many columns
  abbrev InList : Option ℤ → (columns least : ℕ) → Items → Type 0
  InList number columns least items = (p : Place) (ts : List (List ℕ)) (b : Laid Tag) →
      walk (values_of_items o items) (items_at number columns least p ts b)
      ≡ option_map (items_at (number_after items number) columns least p (ts ++ targets_of_items o items))
      (run_items o p.width ts columns least number items b)

  item_walked : (number : Option ℤ) (columns least : ℕ) (kids : Blocks) (rest : Items) → AreWalked kids →
      InList (next_number number) columns least rest → InList number columns least (item kids rest)
  item_walked number columns least kids rest in_kids walked p ts b =
      let inside : Values = values_of_blocks o kids in
      let others : Values = values_of_items o rest in
      let targets : List (List ℕ) = targets_of o kids in
      let more : List (List ℕ) = targets_of_items o rest in
      let trailing : List (List ℕ) = ts ++ targets in
      let last : Option ℤ = number_after rest (next_number number) in
      let go = λ (within : ℕ). run_blocks o within ts kids nothing_laid in
      let first : List ℕ = to_room columns (item_prefix number) in
      let laid : Option (Laid Tag) = part p columns least first (spaces columns) go b in
      let onwards = run_items o p.width (ts ++ targets) columns least (next_number number) rest in
      item_value number columns least inside others p ts trailing b go
      (λ within. in_kids (part_at within p) ts nothing_laid)
      ∙ then_walk (walk others) onwards (items_at (next_number number) columns least p trailing)
      (items_at last columns least p (trailing ++ more)) laid
      (λ b. walked p trailing b)
      ∙ ap (λ all. option_map (items_at last columns least p all) (option_and_then onwards laid))
      (append_assoc ts targets more)
      ∙ ap (option_map (items_at last columns least p (ts ++ (targets ++ more))))
      (put_then given decorates min_wrap held p columns least first (spaces columns) go b onwards)

  bullets_walked : (items : Items) (rest : Blocks) → InList None 2 (capped (least_of_items o items + 2)) items →
      AreWalked rest → AreWalked (bullets items rest)
  bullets_walked items rest in_items walked p ts b =
      let inside : Values = values_of_items o items in
      let others : Values = values_of_blocks o rest in
      let trailing : List (List ℕ) = ts ++ targets_of_items o items in
      let begun : Option (Laid Tag) = start_block (w p) outermost b in
      let asked : ℕ = capped (least_of_items o items + 2) in
      let runs = run_items o p.width ts 2 asked None items in
      let asks : least infos.Bullets inside ≡ asked =
      ap capped (both (λ k n. k + n) (least_of_item_values o items) bullet_columns) in
      bullets_value inside others p ts b
      ∙ ap (λ x. option_and_then (walk others) (option_and_then
      (listed plain_marking Bullet (number inside) (least infos.Bullets inside) (walk inside)) x))
      (started given decorates min_wrap held p ts b)
      ∙ ap (option_and_then (walk others))
      (then_walk (listed plain_marking Bullet (number inside) (least infos.Bullets inside) (walk inside)) runs
      (here p ts)
      (here p trailing) begun
      (λ b. listed_is None (number_after items None) (number inside) (least infos.Bullets inside) 2 asked inside p ts
      trailing b (runs b) (bullets_room (number inside) (here p ts b)) asks (in_items p ts b)))
      ∙ rest_walked rest walked p ts (targets_of_items o items) (λ b. b) (option_and_then runs begun)

  numbers_walked : (first : ℤ) (items : Items) (rest : Blocks) →
      InList (Some first) (room_of_numbers first (how_many items))
      (capped (least_of_items o items + room_of_numbers first (how_many items))) items →
      AreWalked rest → AreWalked (numbers first items rest)
  numbers_walked first items rest in_items walked p ts b =
      let inside : Values = values_of_items o items in
      let others : Values = values_of_blocks o rest in
      let trailing : List (List ℕ) = ts ++ targets_of_items o items in
      let begun : Option (Laid Tag) = start_block (w p) outermost b in
      let columns : ℕ = room_of_numbers first (how_many items) in
      let asked : ℕ = capped (least_of_items o items + columns) in
      let runs = run_items o p.width ts columns asked (Some first) items in
      let room : room_of_numbers first (number inside) ≡ columns = ap (room_of_numbers first)
      (number_of_items o items) in
      let asks : least (infos.Numbers first) inside ≡ asked =
      ap capped (both (λ k n. k + n) (least_of_item_values o items)
      (numbers_columns o first (number inside) ∙ room)) in
      numbers_value first inside others p ts b
      ∙ ap (λ x. option_and_then (walk others) (option_and_then (listed plain_marking (Number first) (number inside)
      (least (infos.Numbers first) inside) (walk inside)) x)) (started given decorates min_wrap held p ts b)
      ∙ ap (option_and_then (walk others))
      (then_walk (listed plain_marking (Number first) (number inside) (least (infos.Numbers first) inside)
      (walk inside))
      runs (here p ts) (here p trailing) begun
      (λ b. listed_is (Some first) (number_after items (Some first)) (number inside) (least
      (infos.Numbers first) inside)
      columns asked inside p ts trailing b (runs b) (numbers_room first (number inside) (here p ts b) ∙ room) asks
      (in_items p ts b)))
      ∙ rest_walked rest walked p ts (targets_of_items o items) (λ b. b) (option_and_then runs begun)

  mutual
    pub blocks_walked : (blocks : Blocks) → AreFilledBlocks blocks → AreWalked blocks
    blocks_walked no_blocks filled p ts b =
        ap (λ all. let some : Option Layings = Some (here p all b) in some) (sym (append-nil ts))
    blocks_walked (paragraph is rest) filled p ts b =
        paragraph_walked is rest filled.0 (blocks_walked rest filled.1) p ts b
    blocks_walked (heading level is rest) filled p ts b =
        heading_walked level is rest filled.0 (blocks_walked rest filled.1) p ts b
    blocks_walked (division kids rest) filled p ts b =
        division_walked kids rest (blocks_walked kids filled.0) (blocks_walked rest filled.1) p ts b
    blocks_walked (quote kids rest) filled p ts b =
        quote_walked kids rest (blocks_walked kids filled.0) (blocks_walked rest filled.1) p ts b
    blocks_walked (bullets items rest) filled p ts b =
        bullets_walked items rest (items_walked items filled.0 None 2 (capped (least_of_items o items + 2)))
        (blocks_walked rest filled.1) p ts b
    blocks_walked (numbers first items rest) filled p ts b =
        numbers_walked first items rest (items_walked items filled.0 (Some first)
        (room_of_numbers first (how_many items))
        (capped (least_of_items o items + room_of_numbers first (how_many items))))
        (blocks_walked rest filled.1) p ts b

    pub items_walked : (items : Items) → AreFilledItems items → (number : Option ℤ) (columns least : ℕ) →
        InList number columns least items
    items_walked no_items filled number columns least p ts b =
        ap (λ all. let some : Option Layings = Some (items_at number columns least p all b) in some) (sym
        (append-nil ts))
    items_walked (item kids rest) filled number columns least p ts b =
        item_walked number columns least kids rest (blocks_walked kids filled.0)
        (items_walked rest filled.1 (next_number number) columns least) p ts b
