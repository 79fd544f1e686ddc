-- Lines of a page, and those after it.
use Rattle.std.proofs.Common.{◌≡◌, [], ◌∷◌, ◌++◌, ◌∙◌, Err, IfOk, List, Ok, Option, Result, ap, append-nil}
use Rattle.std.proofs.Common.{append_assoc, arith, length, map, refl, subst, sym, ℕ}
use Rattle.std.specs.Prelude.{if◌then◌else◌}
use Rattle.std.proofs.lemmas.List.{map-append}
use Rattle.std.specs.Option.{option_and_then}
use Rattle.block_renderer.specs.Footnotes.{add_footnotes}
use Rattle.block_trait.specs.Renderers.{Marking, Sub, with_block_started}
use Rattle.text_lines.specs.Tagged.{Item}
use Rattle.text_block_renderer.specs.Parts.{Parts}
use Rattle.html_render_tree.specs.PageLines.{Setting, noted, targets_after, with_notes, with_targets}

pub notes_are : {H A : Type 0} (notes : List (List (Item A))) (s : Sub H A) → (notes ≡ [] → ⊥)
    → with_notes notes s ≡ option_and_then (add_footnotes notes) (with_block_started s)
notes_are [] s some = absurd (some refl)
notes_are (note ∷ notes) s some = refl

pub some_left : {X Y : Type 0} (f : X → Y) (xs : List X) → (length xs ≡ 0 → ⊥) → map f xs ≡ [] → ⊥
some_left f [] some h = some refl
some_left f (x ∷ xs) some h = cc h

-- ---- lines as text

pub next_text : {T X Y Z : Type 0} (f : T → Z) (s : Y → Z) (r : X → Y) (old new : List T) (t : T) (its rest : List X)
    (x : X) (all : List Z) → new ≡ old ++ t ∷ [] → its ≡ x ∷ rest → f t ≡ s (r x)
    → map f old ++ map s (map r its) ≡ all → map f new ++ map s (map r rest) ≡ all
next_text {X = X} f s r old new t its rest x all pushed here is so_far =
    let later = map s (map r rest) in
    ap (λ l. l ++ later) (ap (map f) pushed ∙ map-append f old (t ∷ []))
    ∙ (append_assoc (map f old) (f t ∷ []) later
    ∙ (ap (λ y. map f old ++ y ∷ later) is
    ∙ (ap (λ (l : List X). map f old ++ map s (map r l)) (sym here) ∙ so_far)))

pub all_texts : {X Y Z : Type 0} (front : List Z) (s : Y → Z) (r : X → Y) (its : List X) (all : List Z)
    → length its ≡ 0 → front ++ map s (map r its) ≡ all → front ≡ all
all_texts front s r [] all none_left h = sym (append-nil front) ∙ h
all_texts front s r (x ∷ its) all none_left h = absurd (omega (arith, none_left))

abbrev pub by_decorator : {H : Type 0} → H → Setting H → Setting H
by_decorator held c = record c { held = held }

-- targets and a renderer, by what they are

pub with_targets_as : {T H A : Type 0} (m : Marking H A) (seen : T → A)
    (closes : H → List (List ℕ) → List (List (Item T))) (targets others : List (List ℕ)) (s r : Sub H A)
    (out : Option (Sub H A)) → targets ≡ others → s ≡ r → with_targets m seen closes targets s ≡ out
    → with_targets m seen closes others r ≡ out
with_targets_as m seen closes targets others s r out e f h =
    subst (λ l. with_targets m seen closes l r ≡ out) e (subst (λ x. with_targets m seen closes targets x ≡ out) f h)

pub noted_as : {H A : Type 0} (p : Parts H A) (s : Sub H A) (links targets : List (List ℕ)) → s ≡ p.current
    → links ≡ p.targets → targets ≡ targets_after s.options links → targets ≡ noted p
noted_as p s links targets e f h =
    h ∙ (ap (λ x. targets_after x.options links) e ∙ ap (targets_after p.current.options) f)

pub if_ok_by : {X E : Type 0} (P Q : X → Type 0) (r : Result X E) → ((x : X) → P x → Q x) → IfOk r P → IfOk r Q
if_ok_by P Q (Ok x) f h = f x h
if_ok_by P Q (Err e) f h = tt
