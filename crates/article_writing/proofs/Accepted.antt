-- What has no fault is what may stand in a body, and neither NUL nor CR stands in it.
use Rattle.std.proofs.Common.{◌≡◌, ◌+◌, ◌/◌, ◌%◌, ◌==◌, ◌||◌, [], ◌∷◌, if◌then◌else◌, ◌∙◌, Bool, List, None, Option}
use Rattle.std.proofs.Common.{Some, ap, arith, codes, false, nat_lt, negsuc, not, pos, refl, suc, true, zero, ℕ, ℤ}
use Rattle.std.proofs.lemmas.Bool.Decides.{nat_tests}
use Rattle.std.specs.Fmt.{decimal, digit_glyph, digits, digits_onto, signed_decimal}
use Rattle.std.specs.List.{list_any}
use Rattle.std.specs.Option.{option_or}
use Rattle.article_values.specs.Articles.{Blocks, Inlines, Items, Style, bold, bullets, code, division, emphasis}
use Rattle.article_values.specs.Articles.{heading, italic, item, line_break, link, no_blocks, no_inlines, no_items}
use Rattle.article_values.specs.Articles.{numbers, paragraph, quote, strong, words}
use Rattle.article_values.specs.Articles as articles
use Rattle.article_values.specs.Faults.{fault_of_blocks, fault_of_inlines, fault_of_items, fault_of_title, fault_where}
use Rattle.article_values.specs.Faults.{first_fault, has_forbidden, has_item, is_forbidden, is_level, is_too_deep}
use Rattle.article_values.specs.declared.error.ArticleError.{ArticleError}
use Rattle.article_values.specs.declared.error.ArticleError.TheVariants.{BadLevel, EmptyList, ForbiddenCharacter}
use Rattle.article_values.specs.declared.error.ArticleError.TheVariants.{LinkInLink, TooDeep}
use Rattle.tree_forest.specs.Forest.{is_in}
use Rattle.tree_names.specs.Sets.{is_one_of}
use Rattle.document_laws.specs.Contents.{IsBlocks, IsInlines, in_no_namespace, marks, none, span, texts_of_blocks}
use Rattle.document_laws.specs.Contents as kinds
use Rattle.article_writing.specs.Contents.{content_of_blocks, content_of_inlines, content_of_items, heading_name}
use Rattle.article_writing.specs.Contents.{style_name}
use Rattle.written_document_laws.specs.Documents.{IsTitleWithout, IsWithout}

-- ---- no fault

pub passed : (b : Bool) (e : ArticleError) (later : Option ArticleError) → fault_where b e later ≡ None →
    (b ≡ false) × (later ≡ None)
passed true e later h = cc
passed false e later h = (refl, h)

pub both_none : (x later : Option ArticleError) → option_or x later ≡ None → (x ≡ None) × (later ≡ None)
both_none None later h = (refl, h)
both_none (Some e) later h = cc

-- the tests of a value that has no fault, and what is said of the rest

pub word_passed : (d : ℕ) (linked : Bool) (c : ℕ) (cs : List ℕ) (rest : Inlines) →
    fault_of_inlines d linked false (words (c ∷ cs) rest) ≡ None →
    (has_forbidden (c ∷ cs) ≡ false) × (fault_of_inlines d linked true rest ≡ None)
word_passed d linked c cs rest h =
    let later = fault_of_inlines d linked true rest in
    let a = passed (has_forbidden (c ∷ cs)) ForbiddenCharacter (fault_where (is_too_deep d) TooDeep later) h in
    (a.0, (passed (is_too_deep d) TooDeep later a.1).1)

pub break_passed : (d : ℕ) (linked trailing : Bool) (rest : Inlines) →
    fault_of_inlines d linked trailing (line_break rest) ≡ None → fault_of_inlines d linked false rest ≡ None
break_passed d linked trailing rest h = (passed (is_too_deep d) TooDeep (fault_of_inlines d linked false rest) h).1

pub span_passed : (d : ℕ) (linked trailing : Bool) (style : Style) (contents rest : Inlines) →
    fault_of_inlines d linked trailing (articles.span style contents rest) ≡ None →
    (fault_of_inlines (suc d) linked false contents ≡ None) × (fault_of_inlines d linked false rest ≡ None)
span_passed d linked trailing style contents rest h =
    let within = fault_of_inlines (suc d) linked false contents in
    let later = fault_of_inlines d linked false rest in
    both_none within later (passed (is_too_deep d) TooDeep (option_or within later) h).1

pub link_passed : (d : ℕ) (linked trailing : Bool) (target : List ℕ) (contents rest : Inlines) →
    fault_of_inlines d linked trailing (link target contents rest) ≡ None →
    (has_forbidden target ≡ false) × ((linked ≡ false)
    × ((fault_of_inlines (suc d) true false contents ≡ None) × (fault_of_inlines d linked false rest ≡ None)))
link_passed d linked trailing target contents rest h =
    let within = fault_of_inlines (suc d) true false contents in
    let later = fault_of_inlines d linked false rest in
    let both = option_or within later in
    let a = passed (has_forbidden target) ForbiddenCharacter
    (fault_where linked LinkInLink (fault_where (is_too_deep d) TooDeep both)) h in
    let b = passed linked LinkInLink (fault_where (is_too_deep d) TooDeep both) a.1 in
    (a.0, (b.0, both_none within later (passed (is_too_deep d) TooDeep both b.1).1))

-- a paragraph, a heading, a division or a quote, and a list, after the test of its own
pub held_passed : (d : ℕ) (within later : Option ArticleError) →
    fault_where (is_too_deep d) TooDeep (option_or within later) ≡ None → (within ≡ None) × (later ≡ None)
held_passed d within later h = both_none within later (passed (is_too_deep d) TooDeep (option_or within later) h).1

pub heading_passed : (d level : ℕ) (within later : Option ArticleError) →
    fault_where (not (is_level level)) BadLevel (fault_where (is_too_deep d) TooDeep (option_or within later)) ≡ None →
    (is_level level ≡ true) × ((within ≡ None) × (later ≡ None))
heading_passed d level within later h =
    let a = passed (not (is_level level)) BadLevel (fault_where (is_too_deep d) TooDeep (option_or within later)) h in
    (stated (is_level level) a.0, held_passed d within later a.1)
  where
    stated : (b : Bool) → not b ≡ false → b ≡ true
    stated true e = refl
    stated false e = cc

pub list_passed : (d : ℕ) (its_items : Items) (within later : Option ArticleError) →
    fault_where (not (has_item its_items)) EmptyList (fault_where (is_too_deep d) TooDeep (option_or within later))
    ≡ None →
    (within ≡ None) × (later ≡ None)
list_passed d its_items within later h = held_passed d within later
    (passed (not (has_item its_items)) EmptyList (fault_where (is_too_deep d) TooDeep (option_or within later)) h).1

-- ---- inline contents

style_marks : (style : Style) → is_one_of marks (style_name style) ≡ true
style_marks bold = refl
style_marks italic = refl
style_marks emphasis = refl
style_marks code = refl
style_marks strong = refl

inlines_are : (d : ℕ) (linked trailing : Bool) (is : Inlines) → fault_of_inlines d linked trailing is ≡ None →
    IsInlines linked trailing (content_of_inlines is)
inlines_are d linked trailing no_inlines h = kinds.nothing linked trailing
inlines_are d linked trailing (words [] rest) h = cc
inlines_are d linked true (words (c ∷ cs) rest) h = cc
inlines_are d linked false (words (c ∷ cs) rest) h =
    kinds.text linked c cs (content_of_inlines rest)
    (inlines_are d linked true rest (word_passed d linked c cs rest h).1)
inlines_are d linked trailing (line_break rest) h =
    kinds.inline linked trailing kinds.line_break (codes "br") [] none (content_of_inlines rest) (refl, (refl, refl))
    (kinds.nothing linked false) (inlines_are d linked false rest (break_passed d linked trailing rest h))
inlines_are d linked trailing (articles.span style contents rest) h =
    let b = span_passed d linked trailing style contents rest h in
    kinds.inline linked trailing kinds.mark (style_name style) [] (content_of_inlines contents)
    (content_of_inlines rest)
    (style_marks style, refl) (inlines_are (suc d) linked false contents b.0) (inlines_are d linked false rest b.1)
inlines_are d linked trailing (link target contents rest) h =
    let b = link_passed d linked trailing target contents rest h in
    kinds.inline linked trailing kinds.link (codes "a") (in_no_namespace (codes "href") target ∷ [])
    (content_of_inlines contents) (content_of_inlines rest) (refl, ((target, refl), b.1.0))
    (inlines_are (suc d) true false contents b.1.1.0) (inlines_are d linked false rest b.1.1.1)

-- ---- blocks

no_seventh : (n : ℕ) → is_level (suc (suc (suc (suc (suc (suc (suc n))))))) ≡ true → ⊥
no_seventh n h = grind (arith, nat_tests)

-- a level is one of six
pub level_is : (P : ℕ → Type 0) → P 1 → P 2 → P 3 → P 4 → P 5 → P 6 → (level : ℕ) → is_level level ≡ true → P level
level_is P a b c d e f zero h = absurd (let k : false ≡ true = h in cc)
level_is P a b c d e f (suc zero) h = a
level_is P a b c d e f (suc (suc zero)) h = b
level_is P a b c d e f (suc (suc (suc zero))) h = c
level_is P a b c d e f (suc (suc (suc (suc zero)))) h = d
level_is P a b c d e f (suc (suc (suc (suc (suc zero))))) h = e
level_is P a b c d e f (suc (suc (suc (suc (suc (suc zero)))))) h = f
level_is P a b c d e f (suc (suc (suc (suc (suc (suc (suc n))))))) h = absurd (no_seventh n h)

abbrev NamesText : ℕ → Type 0
NamesText level = is_one_of texts_of_blocks (heading_name level) ≡ true

mutual
  pub blocks_are : (d : ℕ) (a : Blocks) → fault_of_blocks d a ≡ None → IsBlocks false (content_of_blocks a)
  blocks_are d no_blocks h = kinds.no_more false
  blocks_are d (paragraph contents rest) h =
      let b = held_passed d (fault_of_inlines (suc d) false false contents) (fault_of_blocks d rest) h in
      kinds.of_text (codes "p") (content_of_inlines contents) (content_of_blocks rest) refl
      (inlines_are (suc d) false false contents b.0) (blocks_are d rest b.1)
  blocks_are d (heading level contents rest) h =
      let b = heading_passed d level (fault_of_inlines (suc d) false false contents) (fault_of_blocks d rest) h in
      kinds.of_text (heading_name level) (content_of_inlines contents) (content_of_blocks rest)
      (level_is NamesText refl refl refl refl refl refl level b.0)
      (inlines_are (suc d) false false contents b.1.0) (blocks_are d rest b.1.1)
  blocks_are d (division its_blocks rest) h =
      let b = held_passed d (fault_of_blocks (suc d) its_blocks) (fault_of_blocks d rest) h in
      kinds.division (content_of_blocks its_blocks) (content_of_blocks rest) (blocks_are (suc d) its_blocks b.0)
      (blocks_are d rest b.1)
  blocks_are d (quote its_blocks rest) h =
      let b = held_passed d (fault_of_blocks (suc d) its_blocks) (fault_of_blocks d rest) h in
      kinds.quote (content_of_blocks its_blocks) (content_of_blocks rest) (blocks_are (suc d) its_blocks b.0)
      (blocks_are d rest b.1)
  blocks_are d (bullets its_items rest) h =
      let b = list_passed d its_items (fault_of_items (suc d) its_items) (fault_of_blocks d rest) h in
      kinds.bullets (content_of_items its_items) (content_of_blocks rest) (items_are (suc d) its_items b.0)
      (blocks_are d rest b.1)
  blocks_are d (numbers first its_items rest) h =
      let b = list_passed d its_items (fault_of_items (suc d) its_items) (fault_of_blocks d rest) h in
      kinds.numbers (in_no_namespace (codes "start") (signed_decimal first) ∷ []) (content_of_items its_items)
      (content_of_blocks rest) (signed_decimal first, refl) (items_are (suc d) its_items b.0) (blocks_are d rest b.1)

  items_are : (d : ℕ) (a : Items) → fault_of_items d a ≡ None → IsBlocks true (content_of_items a)
  items_are d no_items h = kinds.no_more true
  items_are d (item its_blocks rest) h =
      let b = both_none (fault_of_blocks d its_blocks) (fault_of_items d rest) h in
      kinds.item (content_of_blocks its_blocks) (content_of_items rest) (blocks_are d its_blocks b.0)
      (items_are d rest b.1)

-- ---- forbidden characters

or_parts_of : (a b : Bool) → (a || b) ≡ false → (a ≡ false) × (b ≡ false)
or_parts_of true b h = cc
or_parts_of false b h = (refl, h)

-- a number is written with digits, all of them after this character, and a sign
module _ (c : ℕ) (low : nat_lt c 48 ≡ true) where
  glyph_apart : (b : Bool) (n : ℕ) → nat_lt c 48 ≡ true → (c == (if b then 48 + n else 87 + n)) ≡ false
  glyph_apart true n k = grind (arith, nat_tests)
  glyph_apart false n k = grind (arith, nat_tests)

  glyph_before : (n : ℕ) (cs : List ℕ) → is_in c cs ≡ false → is_in c (digit_glyph false n ∷ cs) ≡ false
  glyph_before n cs h = ap (λ b. if b then true else is_in c cs) (glyph_apart (nat_lt n 10) n low) ∙ h

  by_end : (xs ys : List ℕ) (b : Bool) → is_in c xs ≡ false → is_in c ys ≡ false → is_in c (if b then xs else ys)
      ≡ false
  by_end xs ys true p q = p
  by_end xs ys false p q = q

  digits_without : (k n : ℕ) (cs : List ℕ) → is_in c cs ≡ false → is_in c (digits_onto k 10 false n cs) ≡ false
  digits_without zero n cs h = h
  digits_without (suc k) n cs h =
      let front : List ℕ = digit_glyph false (n % 10) ∷ cs in
      by_end front (digits_onto k 10 false (n / 10) front) (n / 10 == 0) (glyph_before (n % 10) cs h)
      (digits_without k (n / 10) front (glyph_before (n % 10) cs h))

  pub decimal_without : (n : ℕ) → is_in c (decimal n) ≡ false
  unfolding digits
  decimal_without n = digits_without 64 n [] refl

low_digit : (c : ℕ) → (c == 0 || c == 13) ≡ true → nat_lt c 48 ≡ true
low_digit c k = grind (arith, nat_tests)

module _ (c : ℕ) (forbidden : is_forbidden c ≡ true) where
  apart : (e : ℕ) → (e == 0 || e == 13) ≡ false → (c == 0 || c == 13) ≡ true → (c == e) ≡ false
  apart e h k = grind (arith, nat_tests)

  text_without : (cs : List ℕ) → has_forbidden cs ≡ false → is_in c cs ≡ false
  text_without [] h = refl
  text_without (e ∷ cs) h =
      let p = or_parts_of (is_forbidden e) (list_any is_forbidden cs) h in
      ap (λ b. if b then true else is_in c cs) (apart e p.0 forbidden) ∙ text_without cs p.1

  number_without : (z : ℤ) → is_in c (signed_decimal z) ≡ false
  number_without (pos n) = decimal_without c (low_digit c forbidden) n
  number_without (negsuc n) =
      ap (λ b. if b then true else is_in c (decimal (suc n))) (apart 45 refl forbidden)
      ∙ decimal_without c (low_digit c forbidden) (suc n)

  inlines_without : (d : ℕ) (linked trailing : Bool) (is : Inlines) → fault_of_inlines d linked trailing is ≡ None →
      IsWithout c (content_of_inlines is)
  inlines_without d linked trailing no_inlines h = tt
  inlines_without d linked trailing (words [] rest) h = cc
  inlines_without d linked true (words (e ∷ es) rest) h = cc
  inlines_without d linked false (words (e ∷ es) rest) h =
      let b = word_passed d linked e es rest h in
      (text_without (e ∷ es) b.0, inlines_without d linked true rest b.1)
  inlines_without d linked trailing (line_break rest) h =
      (tt, (tt, inlines_without d linked false rest (break_passed d linked trailing rest h)))
  inlines_without d linked trailing (articles.span style contents rest) h =
      let b = span_passed d linked trailing style contents rest h in
      (tt, (inlines_without (suc d) linked false contents b.0, inlines_without d linked false rest b.1))
  inlines_without d linked trailing (link target contents rest) h =
      let b = link_passed d linked trailing target contents rest h in (
        (text_without target b.0, tt),
        (inlines_without (suc d) true false contents b.1.1.0, inlines_without d linked false rest b.1.1.1),
      )

  mutual
    pub blocks_without : (d : ℕ) (a : Blocks) → fault_of_blocks d a ≡ None → IsWithout c (content_of_blocks a)
    blocks_without d no_blocks h = tt
    blocks_without d (paragraph contents rest) h =
        let b = held_passed d (fault_of_inlines (suc d) false false contents) (fault_of_blocks d rest) h in
        (tt, (inlines_without (suc d) false false contents b.0, blocks_without d rest b.1))
    blocks_without d (heading level contents rest) h =
        let b = heading_passed d level (fault_of_inlines (suc d) false false contents) (fault_of_blocks d rest) h in
        (tt, (inlines_without (suc d) false false contents b.1.0, blocks_without d rest b.1.1))
    blocks_without d (division its_blocks rest) h =
        let b = held_passed d (fault_of_blocks (suc d) its_blocks) (fault_of_blocks d rest) h in
        (tt, (blocks_without (suc d) its_blocks b.0, blocks_without d rest b.1))
    blocks_without d (quote its_blocks rest) h =
        let b = held_passed d (fault_of_blocks (suc d) its_blocks) (fault_of_blocks d rest) h in
        (tt, (blocks_without (suc d) its_blocks b.0, blocks_without d rest b.1))
    blocks_without d (bullets its_items rest) h =
        let b = list_passed d its_items (fault_of_items (suc d) its_items) (fault_of_blocks d rest) h in
        (tt, (items_without (suc d) its_items b.0, blocks_without d rest b.1))
    blocks_without d (numbers first its_items rest) h =
        let b = list_passed d its_items (fault_of_items (suc d) its_items) (fault_of_blocks d rest) h in
        ((number_without first, tt), (items_without (suc d) its_items b.0, blocks_without d rest b.1))

    items_without : (d : ℕ) (a : Items) → fault_of_items d a ≡ None → IsWithout c (content_of_items a)
    items_without d no_items h = tt
    items_without d (item its_blocks rest) h =
        let b = both_none (fault_of_blocks d its_blocks) (fault_of_items d rest) h in
        (tt, (blocks_without d its_blocks b.0, items_without d rest b.1))

  title_without : (title : Option (List ℕ)) → fault_of_title title ≡ None → IsTitleWithout c title
  title_without None h = tt
  title_without (Some title) h = text_without title (passed (has_forbidden title) ForbiddenCharacter None h).0

-- ---- articles

pub are_blocks : (title : Option (List ℕ)) (blocks : Blocks) → first_fault title blocks ≡ None →
    IsBlocks false (content_of_blocks blocks)
are_blocks title blocks h = blocks_are 1 blocks (both_none (fault_of_title title) (fault_of_blocks 1 blocks) h).1

pub are_without : (c : ℕ) → is_forbidden c ≡ true → (title : Option (List ℕ)) (blocks : Blocks) →
    first_fault title blocks ≡ None → IsTitleWithout c title × IsWithout c (content_of_blocks blocks)
are_without c forbidden title blocks h =
    let p = both_none (fault_of_title title) (fault_of_blocks 1 blocks) h in
    (title_without c forbidden title p.0, blocks_without c forbidden 1 blocks p.1)
