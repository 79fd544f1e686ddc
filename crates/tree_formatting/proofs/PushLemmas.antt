-- An element is pushed, and the earliest of three goes.
use Rattle.std.proofs.Common.{◌≡◌, ℕ, List, [], ◌∷◌, ◌++◌, sym, ap, ◌∙◌}
use Rattle.std.specs.List.{remove}
use Rattle.std.proofs.lemmas.Bool.{cond-true, cond-false}
use Rattle.std.proofs.lemmas.List.Edits.{remove-append_left}
use Rattle.html_lexemes.specs.declared.token.Tag.{Tag}
use Rattle.tree_formatting.specs.Entries.{entries_of, formatted}
use Rattle.tree_formatting.specs.Found.{HasRoom, IsEarliest}
use Rattle.tree_formatting.specs.Pushing.{pushed, without_earliest}
use Rattle.tree_formatting.specs.declared.entry.FormatEntry.{FormatEntry}
use Rattle.tree_formatting.specs.declared.entry.FormatEntry.TheVariants.{Element}
use Rattle.tree_formatting.proofs.EntryLemmas.{entries_of-push}

module _ {H : Type 0} (number : H → ℕ) (xs : List (FormatEntry H)) (h : H) (tag : Tag) where
  pub pushed_for_three : (k : ℕ) → IsEarliest tag xs k →
      entries_of number (remove (xs ++ Element h tag ∷ []) k) ≡ pushed (number h) tag (entries_of number xs)
  pushed_for_three k at = ap (entries_of number) (remove-append_left xs (Element h tag ∷ []) k at.within)
      ∙ entries_of-push number (remove xs k) (Element h tag)
      ∙ ap (λ v. formatted (number h) tag ∷ v) (at.goes number
      ∙ sym (cond-true _ (without_earliest tag (entries_of number xs)) (entries_of number xs) (at.many number)))

  pub pushed_with_room : HasRoom tag xs →
      entries_of number (xs ++ Element h tag ∷ []) ≡ pushed (number h) tag (entries_of number xs)
  pushed_with_room room = entries_of-push number xs (Element h tag)
      ∙ ap (λ v. formatted (number h) tag ∷ v)
      (sym (cond-false _ (without_earliest tag (entries_of number xs)) (entries_of number xs) (room number)))
