-- The lines of an article, by what was laid out of its blocks.
use Rattle.std.proofs.Common.{◌≡◌, ◌+◌, ◌<◌, [], if◌then◌else◌, ◌∙◌, List, None, Option, Some, ap, arith, lt-ltb, map}
use Rattle.std.proofs.Common.{refl, suc, sym, zero, ℕ}
use Rattle.std.specs.Option.{option_map}
use Rattle.std.proofs.lemmas.Option.{none-some, same_Some}
use Rattle.article_definitions.specs.Layouts.{Line, Options, article_lines, count, lay, layout, notes, targets_of}
use Rattle.article_layout.specs.Seen.{Emitted, emitted}
use Rattle.article_layout.specs.Walks.{At, laid, with_notes}
use Rattle.article_layout.proofs.LaidLines.{laid_is}
use Rattle.article_values.specs.Articles.{Blocks}

positive : (n : ℕ) → (n ≡ 0 → ⊥) → 0 < n
positive zero e = absurd (e refl)
positive (suc n) e = omega arith

module _ (o : Options) (width : ℕ) (blocks : Blocks) where
  abbrev found : Option (List Line)
  found = lay o width 0 [] blocks []

  abbrev trailing : Option (List Line) → Option At
  trailing x = option_map (λ ls. record { lines = ls; paragraphs = 0 + count blocks; targets = targets_of o blocks }) x

  article_is : (x : Option (List Line)) → (width ≡ 0 → ⊥) → found ≡ x →
      article_lines o width blocks ≡ option_map (with_notes o width (targets_of o blocks)) x
  article_is x wide e =
      ap (λ b. if b then layout o (notes o width) width blocks else None) (lt-ltb 0 width (positive width wide))
      ∙ ap (option_map (with_notes o width (targets_of o blocks))) e

  laid_from : (lines : List Line) (ts : List (List ℕ)) (y : Option At) → lines ≡ [] → ts ≡ [] →
      laid o width blocks (record { lines = lines; paragraphs = 0; targets = ts }) ≡ y → trailing found ≡ y
  laid_from lines ts y e f h = sym (laid_is o blocks width 0 [] [])
      ∙ ap (λ l. laid o width blocks (record { lines = l; paragraphs = 0; targets = [] })) (sym e)
      ∙ ap (λ t. laid o width blocks (record { lines = lines; paragraphs = 0; targets = t })) (sym f) ∙ h

  none_after : (x : Option (List Line)) → trailing x ≡ None → x ≡ None
  none_after None h = refl
  none_after (Some ls) h = absurd (none-some _ (sym h))

  some_after : (x : Option (List Line)) (s : At) → trailing x ≡ Some s → x ≡ Some s.lines
  some_after None s h = absurd (none-some s h)
  some_after (Some ls) s h = ap Some (ap (λ (t : At). t.lines) (same_Some _ s h))

  targets_after : (x : Option (List Line)) (s : At) → trailing x ≡ Some s → targets_of o blocks ≡ s.targets
  targets_after None s h = absurd (none-some s h)
  targets_after (Some ls) s h = ap (λ (t : At). t.targets) (same_Some _ s h)

  pub no_lines : (lines : List Line) (ts : List (List ℕ)) → (width ≡ 0 → ⊥) → lines ≡ [] → ts ≡ [] →
      laid o width blocks (record { lines = lines; paragraphs = 0; targets = ts }) ≡ None →
      article_lines o width blocks ≡ None
  no_lines lines ts wide e f h = article_is None wide (none_after found (laid_from lines ts None e f h))

  pub all_lines : (lines : List Line) (ts : List (List ℕ)) (s : At) (new : List Line) (shown : List Emitted) →
      (width ≡ 0 → ⊥) → lines ≡ [] → ts ≡ [] →
      laid o width blocks (record { lines = lines; paragraphs = 0; targets = ts }) ≡ Some s →
      new ≡ with_notes o width s.targets s.lines → shown ≡ map emitted new →
      option_map (map emitted) (article_lines o width blocks) ≡ Some shown
  all_lines lines ts s new shown wide e f h g i =
      let laid : trailing found ≡ Some s = laid_from lines ts (Some s) e f h in
      ap (option_map (map emitted)) (article_is (Some s.lines) wide (some_after found s laid))
      ∙ ap (λ t. let l : Option (List Emitted) = Some (map emitted (with_notes o width t s.lines)) in l)
      (targets_after found s laid)
      ∙ ap (λ ls. let l : Option (List Emitted) = Some (map emitted ls) in l) (sym g) ∙ ap Some (sym i)
