-- No text of an article without a fault is empty.
use Rattle.std.proofs.Common.{◌≡◌, ℕ, suc, Bool, true, false, not, List, [], ◌∷◌, Option, None}
use Rattle.std.specs.Option.{option_or}
use Rattle.article_values.specs.Articles.{Blocks, Inlines, Items, bullets, division, heading, item, line_break, link}
use Rattle.article_values.specs.Articles.{no_blocks, no_inlines, no_items, numbers, paragraph, quote, span, words}
use Rattle.article_values.specs.Faults.{fault_of_blocks, fault_of_inlines, fault_of_items, fault_of_title, fault_where}
use Rattle.article_values.specs.Faults.{first_fault, has_forbidden, has_item, is_level, is_too_deep}
use Rattle.article_values.specs.declared.error.ArticleError.TheVariants.{BadLevel, EmptyList, ForbiddenCharacter}
use Rattle.article_values.specs.declared.error.ArticleError.TheVariants.{LinkInLink, NeighbourTexts, TooDeep}
use Rattle.article_page_laws.specs.Pages.{AreFilled, AreFilledBlocks, AreFilledItems}
use Rattle.article_writing.proofs.Accepted.{both_none, passed}

inlines_filled : (d : ℕ) (linked trailing : Bool) (is : Inlines) → fault_of_inlines d linked trailing is ≡ None →
    AreFilled is
inlines_filled d linked trailing no_inlines h = tt
inlines_filled d linked trailing (words [] rest) h = cc
inlines_filled d linked trailing (words (c ∷ cs) rest) h =
    let later = fault_of_inlines d linked true rest in
    let a = passed trailing NeighbourTexts (fault_where (has_forbidden (c ∷ cs)) ForbiddenCharacter
    (fault_where (is_too_deep d) TooDeep later)) h in
    let b = passed (has_forbidden (c ∷ cs)) ForbiddenCharacter (fault_where (is_too_deep d) TooDeep later) a.1 in
    inlines_filled d linked true rest (passed (is_too_deep d) TooDeep later b.1).1
inlines_filled d linked trailing (line_break rest) h =
    inlines_filled d linked false rest (passed (is_too_deep d) TooDeep (fault_of_inlines d linked false rest) h).1
inlines_filled d linked trailing (span style kids rest) h =
    let within = fault_of_inlines (suc d) linked false kids in
    let later = fault_of_inlines d linked false rest in
    let a = both_none within later (passed (is_too_deep d) TooDeep (option_or within later) h).1 in
    (inlines_filled (suc d) linked false kids a.0, inlines_filled d linked false rest a.1)
inlines_filled d linked trailing (link target kids rest) h =
    let within = fault_of_inlines (suc d) true false kids in
    let later = fault_of_inlines d linked false rest in
    let a = passed (has_forbidden target) ForbiddenCharacter (fault_where linked LinkInLink
    (fault_where (is_too_deep d) TooDeep (option_or within later))) h in
    let b = passed linked LinkInLink (fault_where (is_too_deep d) TooDeep (option_or within later)) a.1 in
    let e = both_none within later (passed (is_too_deep d) TooDeep (option_or within later) b.1).1 in
    (inlines_filled (suc d) true false kids e.0, inlines_filled d linked false rest e.1)

mutual
  blocks_filled : (d : ℕ) (a : Blocks) → fault_of_blocks d a ≡ None → AreFilledBlocks a
  blocks_filled d no_blocks h = tt
  blocks_filled d (paragraph is rest) h =
      let within = fault_of_inlines (suc d) false false is in
      let e = both_none within (fault_of_blocks d rest)
      (passed (is_too_deep d) TooDeep (option_or within (fault_of_blocks d rest)) h).1 in
      (inlines_filled (suc d) false false is e.0, blocks_filled d rest e.1)
  blocks_filled d (heading level is rest) h =
      let within = fault_of_inlines (suc d) false false is in
      let a = passed (not (is_level level)) BadLevel
      (fault_where (is_too_deep d) TooDeep (option_or within (fault_of_blocks d rest))) h in
      let e = both_none within (fault_of_blocks d rest)
      (passed (is_too_deep d) TooDeep (option_or within (fault_of_blocks d rest)) a.1).1 in
      (inlines_filled (suc d) false false is e.0, blocks_filled d rest e.1)
  blocks_filled d (division kids rest) h =
      let within = fault_of_blocks (suc d) kids in
      let e = both_none within (fault_of_blocks d rest)
      (passed (is_too_deep d) TooDeep (option_or within (fault_of_blocks d rest)) h).1 in
      (blocks_filled (suc d) kids e.0, blocks_filled d rest e.1)
  blocks_filled d (quote kids rest) h =
      let within = fault_of_blocks (suc d) kids in
      let e = both_none within (fault_of_blocks d rest)
      (passed (is_too_deep d) TooDeep (option_or within (fault_of_blocks d rest)) h).1 in
      (blocks_filled (suc d) kids e.0, blocks_filled d rest e.1)
  blocks_filled d (bullets items rest) h =
      let within = fault_of_items (suc d) items in
      let a = passed (not (has_item items)) EmptyList
      (fault_where (is_too_deep d) TooDeep (option_or within (fault_of_blocks d rest))) h in
      let e = both_none within (fault_of_blocks d rest)
      (passed (is_too_deep d) TooDeep (option_or within (fault_of_blocks d rest)) a.1).1 in
      (items_filled (suc d) items e.0, blocks_filled d rest e.1)
  blocks_filled d (numbers first items rest) h =
      let within = fault_of_items (suc d) items in
      let a = passed (not (has_item items)) EmptyList
      (fault_where (is_too_deep d) TooDeep (option_or within (fault_of_blocks d rest))) h in
      let e = both_none within (fault_of_blocks d rest)
      (passed (is_too_deep d) TooDeep (option_or within (fault_of_blocks d rest)) a.1).1 in
      (items_filled (suc d) items e.0, blocks_filled d rest e.1)

  items_filled : (d : ℕ) (a : Items) → fault_of_items d a ≡ None → AreFilledItems a
  items_filled d no_items h = tt
  items_filled d (item kids rest) h =
      let e = both_none (fault_of_blocks d kids) (fault_of_items d rest) h in
      (blocks_filled d kids e.0, items_filled d rest e.1)

pub article_filled : (title : Option (List ℕ)) (blocks : Blocks) → first_fault title blocks ≡ None →
    AreFilledBlocks blocks
article_filled title blocks h = blocks_filled 1 blocks (both_none (fault_of_title title) (fault_of_blocks 1 blocks) h).1
