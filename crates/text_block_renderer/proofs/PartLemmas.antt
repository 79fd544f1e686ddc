-- What stands below a part is one thing.
use Rattle.std.proofs.Common.{◌≡◌, ℕ, true, if◌then◌else◌, List, [], ◌∷◌, ◌++◌, refl, sym, ap, ◌∙◌}
use Rattle.std.specs.Prelude.{Option, Some, fold}
use Rattle.std.specs.Option.{option_map}
use Rattle.text_footnotes.specs.Targets.{last_number}
use Rattle.block_layout.specs.LaidRows.{before_last}
use Rattle.block_trait.specs.Renderers.{Marking, Sub, add_inline}
use Rattle.text_block_renderer.specs.Parts.{Parts, with_part, with_current, footnote_mark, add_part_number}

front_of : {A : Type 0} (front : List A) (x : A) → before_last (front ++ x ∷ []) ≡ front
front_of [] x = refl
front_of (y ∷ []) x = refl
front_of (y ∷ z ∷ front) x = ap (λ ys. y ∷ ys) (front_of (z ∷ front) x)

last_of : {A : Type 0} (front : List A) (x y : A) → fold (λ _ z. z) y (front ++ x ∷ []) ≡ x
last_of [] x y = refl
last_of (z ∷ front) x y = last_of front x z

pub parts_split : {H A : Type 0} (s t : Sub H A) (p q : Parts H A) → with_part s p ≡ with_part t q → (s ≡ t) × (p ≡ q)
parts_split {H} {A} s t p q e = (
  ap (λ (r : Parts H A). r.current) e,
  ap (λ below. record { below = below; current = p.current; targets = p.targets }) below_is
      ∙ ap (λ current. record { below = q.below; current = current; targets = p.targets }) current_is
      ∙ ap (λ targets. record { below = q.below; current = q.current; targets = targets })
      (ap (λ (r : Parts H A). r.targets) e),
)
  where
    below_is : p.below ≡ q.below
    below_is = sym (front_of p.below p.current) ∙ ap (λ (r : Parts H A). before_last r.below) e
        ∙ front_of q.below q.current

    current_is : p.current ≡ q.current
    current_is = sym (last_of p.below p.current p.current)
        ∙ ap (λ (r : Parts H A). fold (λ _ z. z) p.current r.below) e ∙ last_of q.below q.current p.current

-- the number of the last link is added
pub number_added : {H A : Type 0} (m : Marking H A) (p : Parts H A) (n : ℕ) (cs : List ℕ) (o : Option (Sub H A))
    → p.current.options.include_link_footnotes ≡ true → n ≡ last_number p.current.options.shared_footnotes p.targets →
    cs ≡ footnote_mark n
    → add_inline m cs p.current ≡ o → add_part_number m p ≡ option_map (with_current p) o
number_added m p n cs o asked number mark added =
    ap (λ t. option_map (with_current p) (if t then
    add_inline m (footnote_mark (last_number p.current.options.shared_footnotes p.targets)) p.current
    else Some p.current)) asked
    ∙ ap (λ k. option_map (with_current p) (add_inline m (footnote_mark k) p.current)) (sym number)
    ∙ ap (λ ds. option_map (with_current p) (add_inline m ds p.current)) (sym mark)
    ∙ ap (option_map (with_current p)) added
