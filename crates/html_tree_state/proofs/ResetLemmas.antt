-- Which mode the open elements ask for, element by element.
use Rattle.std.proofs.Common.{◌≡◌, ◌<◌, ◌∙◌, [], ◌∷◌, ◌++◌, Bool, List, None, Option, Some, ap, arith, false, length}
use Rattle.std.proofs.Common.{map, refl, ℕ}
use Rattle.std.proofs.lemmas.List.{length-map, length-reverse}
use Rattle.html_lexemes.specs.declared.names.QualName.{QualName}
use Rattle.tree_model.specs.Building.{stack_of}
use Rattle.tree_model.proofs.Stacks.{stack_of_last}
use Rattle.tree_predicates.specs.Modes.{mode_above, own_mode, reset_mode, root_mode}
use Rattle.tree_predicates.specs.declared.modes.InsertionMode.{InsertionMode}

above_own : (rest : List QualName) (root own : InsertionMode) (further : InsertionMode) → ¬ (rest ≡ []) →
    mode_above rest root (Some own) further ≡ own
above_own [] root own further some = absurd (some refl)
above_own (name ∷ rest) root own further some = refl

above_none : (rest : List QualName) (root further : InsertionMode) → ¬ (rest ≡ []) →
    mode_above rest root None further ≡ further
above_none [] root further some = absurd (some refl)
above_none (name ∷ rest) root further some = refl

-- the names of a walk from the end of what is held
names_last : {H : Type 0} (name_at : ℕ → QualName) (number : H → ℕ) (lower : List H) (last : H) →
    map name_at (stack_of number (lower ++ last ∷ [])) ≡ name_at (number last) ∷ map name_at (stack_of number lower)
names_last name_at number lower last = ap (map name_at) (stack_of_last number lower last)

some_names : {H : Type 0} (name_at : ℕ → QualName) (number : H → ℕ) (lower : List H) → 0 < length lower →
    ¬ (map name_at (stack_of number lower) ≡ [])
some_names name_at number lower held none =
    let size : length (map name_at (stack_of number lower)) ≡ length lower = simp (length-map, length-reverse) in
    absurd (omega (arith, size, ap length none))

module _ {H : Type 0} (name_at : ℕ → QualName) (number : H → ℕ) (context : Option QualName) (has_head : Bool)
    (template : Option InsertionMode) where
  pub reset_own : (lower : List H) (last : H) (mode : InsertionMode) → 0 < length lower →
      own_mode (name_at (number last)) false has_head template ≡ Some mode →
      reset_mode context has_head template (map name_at (stack_of number (lower ++ last ∷ []))) ≡ mode
  reset_own lower last mode held own =
      ap (reset_mode context has_head template) (names_last name_at number lower last)
      ∙ ap (λ o. mode_above (map name_at (stack_of number lower)) (root_mode context (name_at (number last)) has_head
      template) o
      (reset_mode context has_head template (map name_at (stack_of number lower)))) own
      ∙ above_own _ _ mode _ (some_names name_at number lower held)

  pub reset_further : (lower : List H) (last : H) → 0 < length lower →
      own_mode (name_at (number last)) false has_head template ≡ None →
      reset_mode context has_head template (map name_at (stack_of number (lower ++ last ∷ [])))
      ≡ reset_mode context has_head template (map name_at (stack_of number lower))
  reset_further lower last held own =
      ap (reset_mode context has_head template) (names_last name_at number lower last)
      ∙ ap (λ o. mode_above (map name_at (stack_of number lower)) (root_mode context (name_at (number last)) has_head
      template) o
      (reset_mode context has_head template (map name_at (stack_of number lower)))) own
      ∙ above_none _ _ _ (some_names name_at number lower held)
