-- What calls on the fields say of actions.
use Rattle.std.proofs.Common.{◌≡◌, ◌-◌, if◌then◌else◌, [], ◌∷◌, ◌++◌, ◌∙◌, List, MatchOption, None, Option, Some, ap}
use Rattle.std.proofs.Common.{append_assoc, ap₂, bytes_eq, fold, map, option_to_list, refl, reverse, sym, take, true, ℕ}
use Rattle.std.proofs.lemmas.List.{reverse-append, append-nil}
use Rattle.tree_forest.specs.Forest.{Forest, element_of, kind_at, name_of}
use Rattle.html_lexemes.specs.declared.names.QualName.{QualName}
use Rattle.html_lexemes.specs.declared.token.Tag.{Tag}
use Rattle.html_tree_state.specs.Building.{Building, are_counted}
use Rattle.html_tree_state.specs.Formatting.{inserted_for, inserted_formatting}
use Rattle.tree_names.specs.Counts.{counts_of}
use Rattle.tree_names.specs.Sets.{is_one_of}
use Rattle.tree_names.specs.TagSets.{formatting}
use Rattle.rules_table.specs.Actions.{act, inserted_and_listed, keep_pending, later_modes}
use Rattle.rules_table.specs.State.{State}
use Rattle.tree_predicates.specs.declared.modes.InsertionMode.{InsertionMode}

pub with_building : (s : State) {old new : Building} → old ≡ new → record s { tree = old } ≡ record s { tree = new }
with_building s e = ap (λ (b : Building). record s { tree = b }) e

pub with_modes : (s : State) {old new : List InsertionMode} → old ≡ new →
    record s { template_modes = old } ≡ record s { template_modes = new }
with_modes s e = ap (λ (modes : List InsertionMode). record s { template_modes = modes }) e

pub pushed_modes : (mode : InsertionMode) (old new : List InsertionMode) → new ≡ old ++ mode ∷ [] →
    reverse new ≡ mode ∷ reverse old
pushed_modes mode old new e = ap reverse e ∙ reverse-append old (mode ∷ [])

pub popped_modes : (P : InsertionMode → Type 0) (r : Option InsertionMode) (n m : ℕ) (old new : List InsertionMode) →
    old ≡ new ++ option_to_list r → new ≡ take (n - 1) old → MatchOption r ((n ≡ 0) × (m ≡ 0)) P →
    reverse new ≡ later_modes (reverse old)
popped_modes P (Some mode) n m old new is rest cases =
    sym (ap later_modes (ap reverse is ∙ reverse-append new (mode ∷ [])))
popped_modes P None n m old new is rest cases =
    let nothing : new ≡ [] = rest ∙ ap (λ k. take (k - 1) old) cases.0 in
    ap reverse nothing ∙ sym (ap (λ ms. later_modes (reverse ms)) (is ∙ (append-nil new ∙ nothing)))

pub formatting_listed : (tag : Tag) (b : Building) → is_one_of formatting tag.name ≡ true →
    inserted_formatting tag b ≡ inserted_and_listed tag b
formatting_listed tag b e = sym (ap (λ x. if x then inserted_formatting tag b else inserted_for tag b) e)

pub with_pending : (s : State) {old new : List ℕ} → old ≡ new →
    record s { pending = old } ≡ record s { pending = new }
with_pending s e = ap (λ (cs : List ℕ). record s { pending = cs }) e

pub kept_pending : (cs : List ℕ) (s : State) →
    fold (λ s c. act (keep_pending c) s) s cs ≡ record s { pending = s.pending ++ cs }
unfolding act
kept_pending [] s = sym (with_pending s (append-nil s.pending))
kept_pending (c ∷ cs) s = kept_pending cs (record s { pending = s.pending ++ c ∷ [] })
    ∙ with_pending s (append_assoc s.pending (c ∷ []) cs)

-- what names the nodes have is all that the counts of open elements read of a forest
pub same_names : (f g : Forest) → ((n : ℕ) → kind_at n g ≡ kind_at n f) → (ns : List ℕ) →
    map (λ n. name_of n g) ns ≡ map (λ n. name_of n f) ns
same_names f g same [] = refl
same_names f g same (n ∷ ns) =
    ap₂ (λ (name : QualName) (names : List QualName). name ∷ names) (ap (λ k. (element_of k).name) (same n))
    (same_names f g same ns)

pub out_counted : (counts stack : List ℕ) (f g : Forest) → ((n : ℕ) → kind_at n g ≡ kind_at n f) →
    are_counted counts stack g ≡ are_counted counts stack f
out_counted counts stack f g same = ap (λ names. bytes_eq counts (counts_of names)) (same_names f g same stack)
