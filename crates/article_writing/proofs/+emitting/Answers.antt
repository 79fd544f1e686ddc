use Rattle.std.proofs.Common.{rules, ◌≡◌, suc, ◌≤◌, List, [], ◌∷◌, refl, sym, ap, subst, ◌∙◌, codes, string_bytes}
use Rattle.std.specs.Fmt.{signed_decimal}
use Rattle.std.specs.Str.{chars}
use Rattle.std.proofs.lemmas.Result.{err_from_is_err_and}
use Rattle.std.proofs.lemmas.Str.{chars-nil}
use Rattle.html_lexemes.specs.declared.names.QualName.{QualName}
use Rattle.tree_serializer.specs.Calls.{Call, finish, start}
use Rattle.document_laws.specs.Contents.{in_no_namespace, none, span}
use Rattle.article_values.specs.Articles.{link, no_blocks, no_inlines, numbers}
use Rattle.article_values.specs.Sizes.{inline_size, inlines_size}
use Rattle.article_values.specs.Views.{block_view, blocks_view, held, inline_view, inlines_view, items_view}
use Rattle.article_writing.specs.Contents.{content_of_blocks, content_of_inlines, content_of_items}
use Rattle.written_document_laws.specs.Emissions.{calls_and, text_content}
use Rattle.article_writing.specs.Emits.{Emits, inner_content}
use Rattle.article_writing.specs.declared.inner.Inner.TheVariants.{Blocks, Head}
use Rattle.article_values.proofs.Weights.{blocks_weight, items_weight, one_of, weight, weight_of_bullets}
use Rattle.article_values.proofs.Weights.{weight_of_numbers}
use Rattle.article_writing.proofs.Emitting.{element_emitted, handed_on, left_err, left_on, none_emitted, one_emitted}
use Rattle.article_writing.proofs.Emitting.{reemitted, then_emitted}
use Rattle.article_writing.proofs.Texts.{number_chars, text_calls}
use Rattle.article_values.proofs.VariantViews.{seen_bold, seen_break, seen_bullets, seen_code, seen_division}
use Rattle.article_values.proofs.VariantViews.{seen_emphasis, seen_italic, seen_numbers, seen_paragraph, seen_quote}
use Rattle.article_values.proofs.VariantViews.{seen_strong, seen_text}
use Rattle.article_writing.proofs.+emitting.Goals as goal

pub blocks::emit_block-emit_element-requires-in-Bullets : goal.blocks::emit_block-emit_element-requires-in-Bullets
blocks::emit_block-emit_element-requires-in-Bullets g t c =
    let less : weight c.args.block.now ≡ suc (items_weight c.as_slice-in-Bullets.result.now) = ap weight c.in-Bullets.is
    ∙ weight_of_bullets c.in-Bullets.items ∙ ap (λ is. suc (items_weight is))
    (sym c.as_slice-in-Bullets.ensures.value) in
    search (rules, less)

pub blocks::emit_block-emit_numbers-requires : goal.blocks::emit_block-emit_numbers-requires
blocks::emit_block-emit_numbers-requires g t c =
    let less : weight c.args.block.now ≡ suc (items_weight c.as_slice-in-Numbers.result.now) = ap weight c.in-Numbers.is
    ∙ weight_of_numbers c.in-Numbers.first c.in-Numbers.items ∙ ap (λ is. suc (items_weight is))
    (sym c.as_slice-in-Numbers.ensures.value) in
    search (rules, less)

pub blocks::emit_blocks-emit_block-requires : goal.blocks::emit_blocks-emit_block-requires
blocks::emit_blocks-emit_block-requires g t c =
    let less : weight c.block-item.result ≤ blocks_weight c.args.blocks.now = one_of weight c.args.blocks.now
    c.blocks-2.block-index c.block-item.result c.blocks-2-test.true c.block-item.is in
    search (rules, less)

pub blocks::emit_items-emit_element-requires : goal.blocks::emit_items-emit_element-requires
blocks::emit_items-emit_element-requires g t c =
    let less : suc (blocks_weight c.item-item.result.items) ≤ items_weight c.args.items.now =
    one_of (λ v. suc (blocks_weight v.items)) c.args.items.now c.items.item-index c.item-item.result c.items-test.true
    c.item-item.is in
    let same : blocks_weight c.as_slice.result.now ≡ blocks_weight c.item-item.result.items =
    ap blocks_weight c.as_slice.ensures.value in
    search (rules, less, same)

pub inlines::emit_inlines-emit_inline-requires : goal.inlines::emit_inlines-emit_inline-requires
inlines::emit_inlines-emit_inline-requires g t c =
    let less : inline_size c.inline-item.result ≤ inlines_size c.args.inlines.now = one_of inline_size
    c.args.inlines.now c.inlines.inline-index c.inline-item.result c.inlines-test.true c.inline-item.is in
    search (rules, less)

pub blocks::emit_heading-returns-in_err-name : goal.blocks::emit_heading-returns-in_err-name
blocks::emit_heading-returns-in_err-name g t c =
    let p = err_from_is_err_and c.from_residual.result c.from_residual.ensures.1 in
    none_emitted g.S.Serializer.means _ _ _ c.from_residual.result p.0 p.1 p.2

pub blocks::emit_numbers-returns-in_err-number : goal.blocks::emit_numbers-returns-in_err-number
blocks::emit_numbers-returns-in_err-number g t c =
    let p = err_from_is_err_and c.from_residual.result c.from_residual.ensures.1 in
    none_emitted g.S.Serializer.means _ _ _ c.from_residual.result p.0 p.1 p.2

pub blocks::emit_numbers-returns-in_err-start : goal.blocks::emit_numbers-returns-in_err-start
blocks::emit_numbers-returns-in_err-start g t c =
    let p = err_from_is_err_and c.from_residual-in_err-start.result c.from_residual-in_err-start.ensures.1 in
    none_emitted g.S.Serializer.means _ _ _ c.from_residual-in_err-start.result p.0 p.1 p.2

pub elements::emit_element-returns-in_err-name : goal.elements::emit_element-returns-in_err-name
elements::emit_element-returns-in_err-name g t c =
    let p = err_from_is_err_and c.from_residual.result c.from_residual.ensures.1 in
    none_emitted g.S.Serializer.means _ _ _ c.from_residual.result p.0 p.1 p.2

pub inlines::emit_link-returns-in_err-href : goal.inlines::emit_link-returns-in_err-href
inlines::emit_link-returns-in_err-href g t c =
    let p = err_from_is_err_and c.from_residual.result c.from_residual.ensures.1 in
    none_emitted g.S.Serializer.means _ _ _ c.from_residual.result p.0 p.1 p.2

pub blocks::emit_block-returns-in-Paragraph : goal.blocks::emit_block-returns-in-Paragraph
unfolding chars
blocks::emit_block-returns-in-Paragraph g t c =
    λ rest. element_emitted g.S.Serializer.means _ _ c.emit_element.result (codes "p") (codes "p") [] []
    (content_of_inlines (inlines_view c.as_slice.result.now))
    (content_of_inlines (inlines_view c.in-Paragraph.contents.items)) (content_of_blocks rest)
    (content_of_blocks (block_view c.args.block.now rest)) refl refl
    (ap (λ xs. content_of_inlines (inlines_view xs)) c.as_slice.ensures.value)
    (ap (λ v. content_of_blocks (block_view v rest)) c.in-Paragraph.is ∙ ap content_of_blocks
    (seen_paragraph c.in-Paragraph.contents rest)) c.emit_element.ensures

pub blocks::emit_block-returns-in-Division : goal.blocks::emit_block-returns-in-Division
unfolding chars
blocks::emit_block-returns-in-Division g t c =
    λ rest. element_emitted g.S.Serializer.means _ _ c.emit_element-in-Division.result (codes "div") (codes "div") [] []
    (content_of_blocks (blocks_view c.as_slice-in-Division.result.now))
    (content_of_blocks (blocks_view c.in-Division.blocks.items)) (content_of_blocks rest)
    (content_of_blocks (block_view c.args.block.now rest)) refl refl
    (ap (λ xs. content_of_blocks (blocks_view xs)) c.as_slice-in-Division.ensures.value)
    (ap (λ v. content_of_blocks (block_view v rest)) c.in-Division.is ∙ ap content_of_blocks
    (seen_division c.in-Division.blocks rest)) c.emit_element-in-Division.ensures

pub blocks::emit_block-returns-in-Quote : goal.blocks::emit_block-returns-in-Quote
unfolding chars
blocks::emit_block-returns-in-Quote g t c =
    λ rest. element_emitted g.S.Serializer.means _ _ c.emit_element-in-Quote.result (codes "blockquote")
    (codes "blockquote") [] []
    (content_of_blocks (blocks_view c.as_slice-in-Quote.result.now))
    (content_of_blocks (blocks_view c.in-Quote.blocks.items)) (content_of_blocks rest)
    (content_of_blocks (block_view c.args.block.now rest)) refl refl
    (ap (λ xs. content_of_blocks (blocks_view xs)) c.as_slice-in-Quote.ensures.value)
    (ap (λ v. content_of_blocks (block_view v rest)) c.in-Quote.is ∙ ap content_of_blocks
    (seen_quote c.in-Quote.blocks rest)) c.emit_element-in-Quote.ensures

pub blocks::emit_block-returns-in-Bullets : goal.blocks::emit_block-returns-in-Bullets
unfolding chars
blocks::emit_block-returns-in-Bullets g t c =
    λ rest. element_emitted g.S.Serializer.means _ _ c.emit_element-in-Bullets.result (codes "ul") (codes "ul") [] []
    (content_of_items (items_view c.as_slice-in-Bullets.result.now))
    (content_of_items (items_view c.in-Bullets.items.items)) (content_of_blocks rest)
    (content_of_blocks (block_view c.args.block.now rest)) refl refl
    (ap (λ xs. content_of_items (items_view xs)) c.as_slice-in-Bullets.ensures.value)
    (ap (λ v. content_of_blocks (block_view v rest)) c.in-Bullets.is ∙ ap content_of_blocks
    (seen_bullets c.in-Bullets.items rest)) c.emit_element-in-Bullets.ensures

pub blocks::emit_block-returns-in-Numbers : goal.blocks::emit_block-returns-in-Numbers
blocks::emit_block-returns-in-Numbers g t c =
    λ rest. reemitted g.S.Serializer.means _ _ c.emit_numbers.result
    (λ more. calls_and
    (content_of_blocks (numbers (held c.in-Numbers.first) (items_view c.as_slice-in-Numbers.result.now)
    no_blocks)) more) (λ more. more) (λ more. calls_and (content_of_blocks (block_view c.args.block.now rest)) more)
    (λ more. calls_and (content_of_blocks rest) more) (λ more. calls_and (content_of_blocks rest) more)
    (λ more. ap (λ v. calls_and (content_of_blocks (block_view v rest)) more) c.in-Numbers.is
    ∙ ap (λ b. calls_and (content_of_blocks b) more) (seen_numbers c.in-Numbers.first c.in-Numbers.items rest)
    ∙ ap (λ xs. calls_and (content_of_blocks (numbers (held c.in-Numbers.first) (items_view xs) rest)) more)
    (sym c.as_slice-in-Numbers.ensures.value)) (λ more. refl) c.emit_numbers.ensures

pub blocks::emit_items-returns-in_err-emit_element : goal.blocks::emit_items-returns-in_err-emit_element
unfolding chars
blocks::emit_items-returns-in_err-emit_element g t c =
    let p = err_from_is_err_and c.from_residual.result c.from_residual.ensures.1 in
    left_err g.S.Serializer.means (λ xs more. calls_and (content_of_items (items_view xs)) more) _ c.args.items.now _ _
    c.items.item-index c.item-item.result
    c.emit_element.result c.from_residual.result c.in_err-emit_element.field-0.0 p.0 c.items.invariant c.items-test.true
    c.item-item.is c.in_err-emit_element.was p.1 p.2
    (λ rest. element_emitted g.S.Serializer.means _ _ c.emit_element.result (codes "li") (codes "li") [] []
    (content_of_blocks (blocks_view c.as_slice.result.now)) (content_of_blocks (blocks_view c.item-item.result.items))
    (content_of_items (items_view rest)) (content_of_items (items_view (c.item-item.result ∷ rest))) refl refl
    (ap (λ xs. content_of_blocks (blocks_view xs)) c.as_slice.ensures.value) refl c.emit_element.ensures)

pub blocks::emit_items-items-preserved : goal.blocks::emit_items-items-preserved
unfolding chars
blocks::emit_items-items-preserved g t c =
    left_on g.S.Serializer.means (λ xs more. calls_and (content_of_items (items_view xs)) more) _ c.args.items.now _ _
    c.items.item-index c.item-item.result
    c.emit_element.result c.in_ok-emit_element.field-0 c.items.invariant c.items-test.true c.item-item.is
    c.in_ok-emit_element.was
    (λ rest. element_emitted g.S.Serializer.means _ _ c.emit_element.result (codes "li") (codes "li") [] []
    (content_of_blocks (blocks_view c.as_slice.result.now)) (content_of_blocks (blocks_view c.item-item.result.items))
    (content_of_items (items_view rest)) (content_of_items (items_view (c.item-item.result ∷ rest))) refl refl
    (ap (λ xs. content_of_blocks (blocks_view xs)) c.as_slice.ensures.value) refl c.emit_element.ensures)

pub blocks::emit_numbers-returns : goal.blocks::emit_numbers-returns
unfolding chars
blocks::emit_numbers-returns g t c =
    element_emitted g.S.Serializer.means _ _ c.emit_element.result (codes "ol") (codes "ol") (c.in_ok-start.start ∷ [])
    (in_no_namespace (codes "start") (signed_decimal c.args.first) ∷ [])
    (content_of_items (items_view c.args.items.now))
    (content_of_items (items_view c.args.items.now)) none
    (content_of_blocks (numbers c.args.first (items_view c.args.items.now) no_blocks)) refl
    (ap (λ a. a ∷ []) (c.in_ok-start.ensures ∙ ap (in_no_namespace (codes "start"))
    (ap chars c.as_str.ensures.value ∙ number_chars c.args.first
    (string_bytes c.in_ok-number.number) c.ranges.first c.in_ok-number.ensures.ok))) refl refl
    c.emit_element.ensures

pub elements::emit_element-returns-in_err-start_elem : goal.elements::emit_element-returns-in_err-start_elem
elements::emit_element-returns-in_err-start_elem g t c =
    let q = c.in_ok-name.name in
    let given = c.args.attributes.now in
    let kids = inner_content c.args.inner in
    let p = err_from_is_err_and c.from_residual-in_err-start_elem.result c.from_residual-in_err-start_elem.ensures.1 in
    subst (λ (n : QualName). Emits {X = List Call} g.S.Serializer.means (g.S.Serializer.seen c.args.serializer.now)
    (g.S.Serializer.seen c.start_elem.new.self) c.from_residual-in_err-start_elem.result
    (λ more. start n given ∷ calls_and kids (finish n ∷ more)) (λ more. more)) c.in_ok-name.ensures
    (handed_on g.S.Serializer.means _ _ c.start_elem.result c.from_residual-in_err-start_elem.result
    c.in_err-start_elem.field-0.0 p.0 (λ more. start q given ∷ calls_and kids (finish q ∷ more))
    (λ more. calls_and kids (finish q ∷ more)) (λ more. more) (λ more. more) c.in_err-start_elem.was p.1 p.2
    (one_emitted g.S.Serializer.means _ _ (start q given) (λ more. calls_and kids (finish q ∷ more)) c.start_elem.result
    c.start_elem.ensures))

pub elements::emit_element-returns-in_err-emit_inner : goal.elements::emit_element-returns-in_err-emit_inner
elements::emit_element-returns-in_err-emit_inner g t c =
    let q = c.in_ok-name.name in
    let given = c.args.attributes.now in
    let kids = inner_content c.args.inner in
    let p = err_from_is_err_and c.from_residual-in_err-emit_inner.result c.from_residual-in_err-emit_inner.ensures.1 in
    subst (λ (n : QualName). Emits {X = List Call} g.S.Serializer.means (g.S.Serializer.seen c.args.serializer.now)
    (g.S.Serializer.seen c.emit_inner.new.serializer) c.from_residual-in_err-emit_inner.result
    (λ more. start n given ∷ calls_and kids (finish n ∷ more)) (λ more. more)) c.in_ok-name.ensures
    (handed_on g.S.Serializer.means _ _ c.emit_inner.result c.from_residual-in_err-emit_inner.result
    c.in_err-emit_inner.field-0.0 p.0 (λ more. start q given ∷ calls_and kids more) (λ more. more) (λ more. more)
    (λ more. finish q ∷ more) c.in_err-emit_inner.was p.1 p.2
    (then_emitted g.S.Serializer.means _ _ _ c.start_elem.result c.in_ok-start_elem.field-0 c.emit_inner.result
    (λ more. start q given ∷ more) (λ more. more) (λ more. more) (λ more. calls_and kids more) c.in_ok-start_elem.was
    (one_emitted g.S.Serializer.means _ _ (start q given) (λ more. more) c.start_elem.result c.start_elem.ensures)
    c.emit_inner.ensures))

pub elements::emit_element-returns : goal.elements::emit_element-returns
elements::emit_element-returns g t c =
    let q = c.in_ok-name.name in
    let given = c.args.attributes.now in
    let kids = inner_content c.args.inner in
    subst (λ (n : QualName). Emits {X = List Call} g.S.Serializer.means (g.S.Serializer.seen c.args.serializer.now)
    (g.S.Serializer.seen c.end_elem.new.self) c.end_elem.result
    (λ more. start n given ∷ calls_and kids (finish n ∷ more)) (λ more. more)) c.in_ok-name.ensures
    (then_emitted g.S.Serializer.means _ _ _ c.emit_inner.result c.in_ok-emit_inner.field-0 c.end_elem.result
    (λ more. start q given ∷ calls_and kids more) (λ more. more) (λ more. more) (λ more. finish q ∷ more)
    c.in_ok-emit_inner.was
    (then_emitted g.S.Serializer.means _ _ _ c.start_elem.result c.in_ok-start_elem.field-0 c.emit_inner.result
    (λ more. start q given ∷ more) (λ more. more) (λ more. more) (λ more. calls_and kids more) c.in_ok-start_elem.was
    (one_emitted g.S.Serializer.means _ _ (start q given) (λ more. more) c.start_elem.result c.start_elem.ensures)
    c.emit_inner.ensures)
    (one_emitted g.S.Serializer.means _ _ (finish q) (λ more. more) c.end_elem.result c.end_elem.ensures))

pub elements::emit_inner-returns-in_err-emit_element-in-Root :
    goal.elements::emit_inner-returns-in_err-emit_element-in-Root
unfolding chars
elements::emit_inner-returns-in_err-emit_element-in-Root g t c =
    let p = err_from_is_err_and c.from_residual.result c.from_residual.ensures.1 in
    handed_on g.S.Serializer.means _ _ c.emit_element-in-Root.result c.from_residual.result
    c.in_err-emit_element-in-Root.field-0.0 p.0
    (λ more. calls_and (inner_content c.args.inner) more)
    (λ more. calls_and (span (codes "body") [] (inner_content (Blocks c.in-Root.blocks)) none) more) (λ more. more)
    (λ more. more) c.in_err-emit_element-in-Root.was p.1 p.2
    (element_emitted g.S.Serializer.means _ _ c.emit_element-in-Root.result (codes "head") (codes "head") []
    [] (inner_content (Head c.in-Root.title))
    (inner_content (Head c.in-Root.title)) (span (codes "body") [] (inner_content (Blocks c.in-Root.blocks)) none)
    (inner_content c.args.inner) refl refl refl (ap inner_content c.in-Root.is) c.emit_element-in-Root.ensures)

pub elements::emit_inner-returns-in_ok-emit_element-in-Root :
    goal.elements::emit_inner-returns-in_ok-emit_element-in-Root
unfolding chars
elements::emit_inner-returns-in_ok-emit_element-in-Root g t c =
    then_emitted g.S.Serializer.means _ _ _ c.emit_element-in-Root.result c.in_ok-emit_element-in-Root.field-0
    c.emit_element-in-Root-2.result (λ more. calls_and (inner_content c.args.inner) more)
    (λ more. calls_and (span (codes "body") [] (inner_content (Blocks c.in-Root.blocks)) none) more) (λ more. more)
    (λ more. more) c.in_ok-emit_element-in-Root.was
    (element_emitted g.S.Serializer.means _ _ c.emit_element-in-Root.result (codes "head") (codes "head") []
    [] (inner_content (Head c.in-Root.title))
    (inner_content (Head c.in-Root.title)) (span (codes "body") [] (inner_content (Blocks c.in-Root.blocks)) none)
    (inner_content c.args.inner) refl refl refl (ap inner_content c.in-Root.is) c.emit_element-in-Root.ensures)
    (element_emitted g.S.Serializer.means _ _ c.emit_element-in-Root-2.result (codes "body") (codes "body") [] []
    (inner_content (Blocks c.in-Root.blocks)) (inner_content (Blocks c.in-Root.blocks)) none
    (span (codes "body") [] (inner_content (Blocks c.in-Root.blocks)) none) refl refl refl refl
    c.emit_element-in-Root-2.ensures)

pub elements::emit_inner-returns-in-Some : goal.elements::emit_inner-returns-in-Some
unfolding chars
elements::emit_inner-returns-in-Some g t c =
    element_emitted g.S.Serializer.means _ _ c.emit_element.result (codes "title") (codes "title") [] []
    (text_content (chars c.in-Some.title.now)) (text_content (chars c.in-Some.title.now)) none
    (inner_content c.args.inner) refl refl refl
    (ap inner_content c.in-Head.is ∙ ap (λ t. inner_content (Head t)) c.in-Some.is) c.emit_element.ensures

pub inlines::emit_inline-returns-in-Text : goal.inlines::emit_inline-returns-in-Text
inlines::emit_inline-returns-in-Text g t c =
    λ rest. reemitted g.S.Serializer.means _ _ c.emit_text.result
    (λ more. calls_and (text_content (chars c.as_str.result.now)) more) (λ more. more)
    (λ more. calls_and (content_of_inlines (inline_view c.args.inline.now rest)) more)
    (λ more. calls_and (content_of_inlines rest) more) (λ more. calls_and (content_of_inlines rest) more)
    (λ more. ap (λ v. calls_and (content_of_inlines (inline_view v rest)) more) c.in-Text.is
    ∙ ap (λ i. calls_and (content_of_inlines i) more) (seen_text c.in-Text.text rest)
    ∙ text_calls (chars (string_bytes c.in-Text.text)) rest more
    ∙ ap (λ bs. calls_and (text_content (chars bs)) (calls_and (content_of_inlines rest) more))
    (sym c.as_str.ensures.value)) (λ more. refl) c.emit_text.ensures

pub inlines::emit_inline-returns-in-Break : goal.inlines::emit_inline-returns-in-Break
unfolding chars
inlines::emit_inline-returns-in-Break g t c =
    λ rest. element_emitted g.S.Serializer.means _ _ c.emit_element.result (codes "br") (codes "br") [] []
    (text_content (chars [])) (none) (content_of_inlines rest)
    (content_of_inlines (inline_view c.args.inline.now rest)) refl refl
    (ap text_content chars-nil)
    (ap (λ v. content_of_inlines (inline_view v rest)) c.in-Break.is ∙ ap content_of_inlines (seen_break rest))
    c.emit_element.ensures

pub inlines::emit_inline-returns-in-Bold : goal.inlines::emit_inline-returns-in-Bold
unfolding chars
inlines::emit_inline-returns-in-Bold g t c =
    λ rest. element_emitted g.S.Serializer.means _ _ c.emit_element-in-Bold.result (codes "b") (codes "b") [] []
    (content_of_inlines (inlines_view c.as_slice.result.now))
    (content_of_inlines (inlines_view c.in-Bold.contents.items)) (content_of_inlines rest)
    (content_of_inlines (inline_view c.args.inline.now rest)) refl refl
    (ap (λ xs. content_of_inlines (inlines_view xs)) c.as_slice.ensures.value)
    (ap (λ v. content_of_inlines (inline_view v rest)) c.in-Bold.is ∙ ap content_of_inlines
    (seen_bold c.in-Bold.contents rest)) c.emit_element-in-Bold.ensures

pub inlines::emit_inline-returns-in-Italic : goal.inlines::emit_inline-returns-in-Italic
unfolding chars
inlines::emit_inline-returns-in-Italic g t c =
    λ rest. element_emitted g.S.Serializer.means _ _ c.emit_element-in-Italic.result (codes "i") (codes "i") [] []
    (content_of_inlines (inlines_view c.as_slice-in-Italic.result.now))
    (content_of_inlines (inlines_view c.in-Italic.contents.items)) (content_of_inlines rest)
    (content_of_inlines (inline_view c.args.inline.now rest)) refl refl
    (ap (λ xs. content_of_inlines (inlines_view xs)) c.as_slice-in-Italic.ensures.value)
    (ap (λ v. content_of_inlines (inline_view v rest)) c.in-Italic.is ∙ ap content_of_inlines
    (seen_italic c.in-Italic.contents rest)) c.emit_element-in-Italic.ensures

pub inlines::emit_inline-returns-in-Emphasis : goal.inlines::emit_inline-returns-in-Emphasis
unfolding chars
inlines::emit_inline-returns-in-Emphasis g t c =
    λ rest. element_emitted g.S.Serializer.means _ _ c.emit_element-in-Emphasis.result (codes "em") (codes "em") [] []
    (content_of_inlines (inlines_view c.as_slice-in-Emphasis.result.now))
    (content_of_inlines (inlines_view c.in-Emphasis.contents.items)) (content_of_inlines rest)
    (content_of_inlines (inline_view c.args.inline.now rest)) refl refl
    (ap (λ xs. content_of_inlines (inlines_view xs)) c.as_slice-in-Emphasis.ensures.value)
    (ap (λ v. content_of_inlines (inline_view v rest)) c.in-Emphasis.is ∙ ap content_of_inlines
    (seen_emphasis c.in-Emphasis.contents rest)) c.emit_element-in-Emphasis.ensures

pub inlines::emit_inline-returns-in-Code : goal.inlines::emit_inline-returns-in-Code
unfolding chars
inlines::emit_inline-returns-in-Code g t c =
    λ rest. element_emitted g.S.Serializer.means _ _ c.emit_element-in-Code.result (codes "code") (codes "code") [] []
    (content_of_inlines (inlines_view c.as_slice-in-Code.result.now))
    (content_of_inlines (inlines_view c.in-Code.contents.items)) (content_of_inlines rest)
    (content_of_inlines (inline_view c.args.inline.now rest)) refl refl
    (ap (λ xs. content_of_inlines (inlines_view xs)) c.as_slice-in-Code.ensures.value)
    (ap (λ v. content_of_inlines (inline_view v rest)) c.in-Code.is ∙ ap content_of_inlines
    (seen_code c.in-Code.contents rest)) c.emit_element-in-Code.ensures

pub inlines::emit_inline-returns-in-Strong : goal.inlines::emit_inline-returns-in-Strong
unfolding chars
inlines::emit_inline-returns-in-Strong g t c =
    λ rest. element_emitted g.S.Serializer.means _ _ c.emit_element-in-Strong.result (codes "strong")
    (codes "strong") []
    []
    (content_of_inlines (inlines_view c.as_slice-in-Strong.result.now))
    (content_of_inlines (inlines_view c.in-Strong.contents.items)) (content_of_inlines rest)
    (content_of_inlines (inline_view c.args.inline.now rest)) refl refl
    (ap (λ xs. content_of_inlines (inlines_view xs)) c.as_slice-in-Strong.ensures.value)
    (ap (λ v. content_of_inlines (inline_view v rest)) c.in-Strong.is ∙ ap content_of_inlines
    (seen_strong c.in-Strong.contents rest)) c.emit_element-in-Strong.ensures

pub inlines::emit_link-returns : goal.inlines::emit_link-returns
unfolding chars
inlines::emit_link-returns g t c =
    element_emitted g.S.Serializer.means _ _ c.emit_element.result (codes "a") (codes "a") (c.in_ok-href.href ∷ [])
    (in_no_namespace (codes "href") (chars c.args.target.now) ∷ [])
    (content_of_inlines (inlines_view c.args.contents.now)) (content_of_inlines (inlines_view c.args.contents.now))
    (none)
    (content_of_inlines (link (chars c.args.target.now) (inlines_view c.args.contents.now) no_inlines)) refl
    (ap (λ a. a ∷ []) c.in_ok-href.ensures)
    (refl)
    (refl) c.emit_element.ensures
