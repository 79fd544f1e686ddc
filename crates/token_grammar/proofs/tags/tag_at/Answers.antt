-- Each turn of the loop reads one attribute, or the end of the tag.
use Rattle.std.proofs.Common.{chars, option_map, ◌||◌, refl, ap, sym, ◌∙◌, rules}
use Rattle.token_grammar.specs.TagParts.{attribute_and_rest}
use Rattle.token_grammar.proofs.LaterNames.{none-later}
use Rattle.token_grammar.proofs.TagLemmas.{left-start, left-ends, left-closes, left-cut_off, left-more, left-shorter}
use Rattle.token_grammar.proofs.tags.tag_at.Goals as goal

pub attributes-init : goal.attributes-init
attributes-init c = (
  c.split_while.ensures.rest_utf8,
  none-later _ _ c.new-later.ensures.empty c.new-attrs.ensures,
  left-start c.args.table.now c.args.kind (chars c.args.text.now) _ _ _ _ _ c.split_while.ensures.front
      c.split_while.ensures.rest refl c.in_ok-name.ensures c.new-attrs.ensures,
)

pub returns-in_default-clause-value : goal.returns-in_default-clause-value
returns-in_default-clause-value c =
    left-ends c.args.table.now c.args.kind c.in_ok-name.name c.attributes.attrs c.attributes.had_duplicate_attributes
    (chars c.attributes.rest.now) _ _
    c.split_while-in-attributes.ensures.front c.split_while-in-attributes.ensures.rest c.in_default.ensures.value
    ∙ c.attributes.invariant.2

pub returns-then-c-eq62-clause-value : goal.returns-then-c-eq62-clause-value
returns-then-c-eq62-clause-value c =
    left-closes c.args.table.now c.args.kind c.in_ok-name.name c.attributes.attrs c.attributes.had_duplicate_attributes
    (chars c.attributes.rest.now) _ _
    c.split_while-in-attributes.ensures.front c.split_while-in-attributes.ensures.rest _ _ _ c.in-Some.ensures.value
    c.if-c-eq62.true c.ends_with_slash.ensures
    ∙ c.attributes.invariant.2

pub returns-in_default-2-clause-value : goal.returns-in_default-2-clause-value
returns-in_default-2-clause-value c =
    left-cut_off c.args.table.now c.args.kind c.in_ok-name.name c.attributes.attrs c.attributes.had_duplicate_attributes
    (chars c.attributes.rest.now) _ _
    c.split_while-in-attributes.ensures.front c.split_while-in-attributes.ensures.rest c.in-Some.c
    (chars c.in-Some.after_c.now) c.in-Some.ensures.value c.if-c-eq62.false
    (ap (λ o. option_map attribute_and_rest o) (sym c.in_default-2.is) ∙ c.in_ok-attribute.ensures.value)
    ∙ c.attributes.invariant.2

pub attributes-smaller : goal.attributes-smaller
attributes-smaller c =
    left-shorter c.args.table.now c.args.kind c.in_ok-name.name c.attributes.attrs c.attributes.had_duplicate_attributes
    (chars c.attributes.rest.now) _ _
    c.split_while-in-attributes.ensures.front c.split_while-in-attributes.ensures.rest c.in-Some.c
    (chars c.in-Some.after_c.now) (chars c.in-Some-2.after_attribute.now) c.in-Some-2.attribute
    c.in-Some.ensures.value
    (ap (λ o. option_map attribute_and_rest o) (sym c.in-Some-2.is) ∙ c.in_ok-attribute.ensures.value)

pub attributes-preserved : goal.attributes-preserved
attributes-preserved c = (
  search rules,
  c.in_ok-is_dropped.ensures.later,
  left-more c.args.table.now c.args.kind c.in_ok-name.name c.attributes.attrs c.attributes.had_duplicate_attributes
      (chars c.attributes.rest.now) _ _
      c.split_while-in-attributes.ensures.front c.split_while-in-attributes.ensures.rest c.in-Some.c
      (chars c.in-Some.after_c.now) (chars c.in-Some-2.after_attribute.now) c.in-Some-2.attribute _ _
      c.in-Some.ensures.value c.if-c-eq62.false
      (ap (λ o. option_map attribute_and_rest o) (sym c.in-Some-2.is) ∙ c.in_ok-attribute.ensures.value)
      c.in_ok-is_dropped.ensures.attributes
      (ap (λ b. c.attributes.had_duplicate_attributes || b) c.in_ok-is_dropped.ensures.dropped)
      ∙ c.attributes.invariant.2,
)
