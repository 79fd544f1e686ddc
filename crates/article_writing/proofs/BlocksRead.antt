-- The blocks of an article are read off the contents of its page; so two articles with equal contents are equal.
use Rattle.std.proofs.Common.{◌≡◌, ◌+◌, ◌-◌, ◌==◌, ◌<◌, ◌^◌, [], ◌∷◌, if◌then◌else◌, ◌∙◌, Bool, List, None, Option, ap}
use Rattle.std.proofs.Common.{arith, codes, false, negsuc, pos, refl, suc, sym, true, zero, ℕ, ℤ}
use Rattle.std.proofs.lemmas.Bool.Decides.{nat_tests}
use Rattle.std.proofs.lemmas.Fmt.{decimal_is_IsNumeral}
use Rattle.std.specs.Fmt.{decimal, signed_decimal}
use Rattle.std.specs.Int.Signed.{mag}
use Rattle.std.specs.Str.Parse.{digits_value}
use Rattle.article_values.specs.Articles.{Blocks, Inlines, Items, Style, bold, bullets, code, division, emphasis}
use Rattle.article_values.specs.Articles.{heading, italic, item, line_break, link, no_blocks, no_inlines, no_items}
use Rattle.article_values.specs.Articles.{numbers, paragraph, quote, strong, words}
use Rattle.article_values.specs.Articles as articles
use Rattle.article_values.specs.Faults.{fault_of_blocks, fault_of_inlines, fault_of_items, fault_of_title, first_fault}
use Rattle.tree_forest.specs.Forest.{is_in}
use Rattle.html_lexemes.specs.declared.names.Attribute.{Attribute}
use Rattle.tree_names.specs.Sets.{is_one_of}
use Rattle.document_laws.specs.Contents.{Content, none, say, span}
use Rattle.article_writing.proofs.Accepted.{both_none, break_passed, decimal_without, heading_passed, held_passed}
use Rattle.article_writing.proofs.Accepted.{link_passed, list_passed, span_passed, word_passed}
use Rattle.article_writing.specs.Contents.{ItemsFit, NumbersFit, content_of_blocks, content_of_inlines}
use Rattle.article_writing.specs.Contents.{content_of_items, style_name}

-- ---- inline contents

abbrev value_in : List Attribute → List ℕ
value_in [] = []
value_in (a ∷ attributes) = a.value

abbrev inline_by : List ℕ → List Attribute → Inlines → Inlines → Inlines
inline_by name attributes contents rest = if is_one_of (codes "br" ∷ []) name then line_break rest
    else if is_one_of (codes "b" ∷ []) name then articles.span bold contents rest
    else if is_one_of (codes "i" ∷ []) name then articles.span italic contents rest
    else if is_one_of (codes "em" ∷ []) name then articles.span emphasis contents rest
    else if is_one_of (codes "code" ∷ []) name then articles.span code contents rest
    else if is_one_of (codes "strong" ∷ []) name then articles.span strong contents rest
    else link (value_in attributes) contents rest

abbrev inlines_in : Content → Inlines
inlines_in none = no_inlines
inlines_in (say c cs rest) = words (c ∷ cs) (inlines_in rest)
inlines_in (span name attributes kids rest) = inline_by name attributes (inlines_in kids) (inlines_in rest)

style_read : (style : Style) (contents rest : Inlines) →
    inline_by (style_name style) [] contents rest ≡ articles.span style contents rest
style_read bold contents rest = refl
style_read italic contents rest = refl
style_read emphasis contents rest = refl
style_read code contents rest = refl
style_read strong contents rest = refl

inlines_read : (d : ℕ) (linked trailing : Bool) (is : Inlines) → fault_of_inlines d linked trailing is ≡ None →
    inlines_in (content_of_inlines is) ≡ is
inlines_read d linked trailing no_inlines h = refl
inlines_read d linked trailing (words [] rest) h = cc
inlines_read d linked true (words (c ∷ cs) rest) h = cc
inlines_read d linked false (words (c ∷ cs) rest) h =
    ap (words (c ∷ cs)) (inlines_read d linked true rest (word_passed d linked c cs rest h).1)
inlines_read d linked trailing (line_break rest) h =
    ap line_break (inlines_read d linked false rest (break_passed d linked trailing rest h))
inlines_read d linked trailing (articles.span style contents rest) h =
    let b = span_passed d linked trailing style contents rest h in
    style_read style (inlines_in (content_of_inlines contents)) (inlines_in (content_of_inlines rest))
    ∙ ap (λ x. articles.span style x (inlines_in (content_of_inlines rest)))
    (inlines_read (suc d) linked false contents b.0)
    ∙ ap (articles.span style contents) (inlines_read d linked false rest b.1)
inlines_read d linked trailing (link target contents rest) h =
    let b = link_passed d linked trailing target contents rest h in
    ap (λ x. link target x (inlines_in (content_of_inlines rest))) (inlines_read (suc d) true false contents b.1.1.0)
    ∙ ap (link target contents) (inlines_read d linked false rest b.1.1.1)

-- ---- numbers

abbrev one_less : ℕ → ℕ
one_less zero = zero
one_less (suc n) = n

abbrev number_in : List ℕ → ℤ
number_in [] = pos 0
number_in (c ∷ cs) = if c == 45 then negsuc (one_less (digits_value 10 cs)) else pos (digits_value 10 (c ∷ cs))

no_sign : (cs : List ℕ) → is_in 45 cs ≡ false → number_in cs ≡ pos (digits_value 10 cs)
no_sign [] h = refl
no_sign (c ∷ cs) h = ap (λ b. if b then negsuc (one_less (digits_value 10 cs)) else pos (digits_value 10 (c ∷ cs)))
    (first_none (c == 45) (45 == c) (is_in 45 cs) same h)
  where
    same : (45 == c) ≡ false → (c == 45) ≡ false
    same k = grind (arith, nat_tests)

    first_none : (a b rest : Bool) → (b ≡ false → a ≡ false) → (if b then true else rest) ≡ false → a ≡ false
    first_none a true rest k e = cc
    first_none a false rest k e = k refl

number_read : (z : ℤ) → mag z < 2 ^ 63 → number_in (signed_decimal z) ≡ z
number_read (pos n) h = no_sign (decimal n) (decimal_without 45 refl n)
    ∙ ap pos (decimal_is_IsNumeral n (omega arith)).1
number_read (negsuc n) h = ap (λ m. negsuc (one_less m)) (decimal_is_IsNumeral (suc n) (omega arith)).1

-- ---- blocks

abbrev level_in : List ℕ → ℕ
level_in [] = 0
level_in (c ∷ []) = 0
level_in (c ∷ digit ∷ cs) = digit - 48

abbrev block_by : List ℕ → List Attribute → Inlines → Blocks → Items → Blocks → Blocks
block_by name attributes contents its_blocks its_items rest =
    if is_one_of (codes "p" ∷ []) name then paragraph contents rest
    else if is_one_of (codes "div" ∷ []) name then division its_blocks rest
    else if is_one_of (codes "blockquote" ∷ []) name then quote its_blocks rest
    else if is_one_of (codes "ul" ∷ []) name then bullets its_items rest
    else if is_one_of (codes "ol" ∷ []) name then numbers (number_in (value_in attributes)) its_items rest
    else heading (level_in name) contents rest

abbrev mutual
  blocks_in : Content → Blocks
  blocks_in none = no_blocks
  blocks_in (say c cs rest) = no_blocks
  blocks_in (span name attributes kids rest) =
      block_by name attributes (inlines_in kids) (blocks_in kids) (items_in kids) (blocks_in rest)

  items_in : Content → Items
  items_in none = no_items
  items_in (say c cs rest) = no_items
  items_in (span name attributes kids rest) = item (blocks_in kids) (items_in rest)

level_read : (level : ℕ) → 48 + level - 48 ≡ level
level_read level = omega arith

mutual
  blocks_read : (d : ℕ) (a : Blocks) → fault_of_blocks d a ≡ None → NumbersFit a → blocks_in (content_of_blocks a) ≡ a
  blocks_read d no_blocks h fit = refl
  blocks_read d (paragraph contents rest) h fit =
      let b = held_passed d (fault_of_inlines (suc d) false false contents) (fault_of_blocks d rest) h in
      ap (λ x. paragraph x (blocks_in (content_of_blocks rest))) (inlines_read (suc d) false false contents b.0)
      ∙ ap (paragraph contents) (blocks_read d rest b.1 fit)
  blocks_read d (heading level contents rest) h fit =
      let b = heading_passed d level (fault_of_inlines (suc d) false false contents) (fault_of_blocks d rest) h in
      let later = blocks_in (content_of_blocks rest) in
      ap (λ n. heading n (inlines_in (content_of_inlines contents)) later) (level_read level)
      ∙ ap (λ x. heading level x later) (inlines_read (suc d) false false contents b.1.0)
      ∙ ap (heading level contents) (blocks_read d rest b.1.1 fit)
  blocks_read d (division its_blocks rest) h fit =
      let b = held_passed d (fault_of_blocks (suc d) its_blocks) (fault_of_blocks d rest) h in
      ap (λ x. division x (blocks_in (content_of_blocks rest))) (blocks_read (suc d) its_blocks b.0 fit.0)
      ∙ ap (division its_blocks) (blocks_read d rest b.1 fit.1)
  blocks_read d (quote its_blocks rest) h fit =
      let b = held_passed d (fault_of_blocks (suc d) its_blocks) (fault_of_blocks d rest) h in
      ap (λ x. quote x (blocks_in (content_of_blocks rest))) (blocks_read (suc d) its_blocks b.0 fit.0)
      ∙ ap (quote its_blocks) (blocks_read d rest b.1 fit.1)
  blocks_read d (bullets its_items rest) h fit =
      let b = list_passed d its_items (fault_of_items (suc d) its_items) (fault_of_blocks d rest) h in
      ap (λ x. bullets x (blocks_in (content_of_blocks rest))) (items_read (suc d) its_items b.0 fit.0)
      ∙ ap (bullets its_items) (blocks_read d rest b.1 fit.1)
  blocks_read d (numbers first its_items rest) h fit =
      let b = list_passed d its_items (fault_of_items (suc d) its_items) (fault_of_blocks d rest) h in
      let later = blocks_in (content_of_blocks rest) in
      ap (λ n. numbers n (items_in (content_of_items its_items)) later) (number_read first fit.0)
      ∙ ap (λ x. numbers first x later) (items_read (suc d) its_items b.0 fit.1.0)
      ∙ ap (numbers first its_items) (blocks_read d rest b.1 fit.1.1)

  items_read : (d : ℕ) (a : Items) → fault_of_items d a ≡ None → ItemsFit a → items_in (content_of_items a) ≡ a
  items_read d no_items h fit = refl
  items_read d (item its_blocks rest) h fit =
      let b = both_none (fault_of_blocks d its_blocks) (fault_of_items d rest) h in
      ap (λ x. item x (items_in (content_of_items rest))) (blocks_read d its_blocks b.0 fit.0)
      ∙ ap (item its_blocks) (items_read d rest b.1 fit.1)

pub same_blocks : (title another : Option (List ℕ)) (a b : Blocks) → first_fault title a ≡ None →
    first_fault another b ≡ None → NumbersFit a → NumbersFit b → content_of_blocks a ≡ content_of_blocks b → a ≡ b
same_blocks title another a b h k fit fits e =
    sym (blocks_read 1 a (both_none (fault_of_title title) (fault_of_blocks 1 a) h).1 fit) ∙ ap blocks_in e
    ∙ blocks_read 1 b (both_none (fault_of_title another) (fault_of_blocks 1 b) k).1 fits
