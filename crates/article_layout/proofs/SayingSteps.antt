-- What is said of a span and of a link, step by step.
use Rattle.std.proofs.Common.{◌≡◌, ℕ, Bool, false, List, [], ◌∷◌, ◌++◌, Option, codes, sym, ap, ◌∙◌}
use Rattle.std.specs.Option.{option_and_then}
use Rattle.article_definitions.specs.Layouts.{Options, Tag, mark_of, within}
use Rattle.article_layout.specs.Walks.{Said, adds, linked, numbered, spanned, with_target}
use Rattle.article_values.specs.Articles.{Style}
use Rattle.block_layout.specs.Laid.{Laid}
use Rattle.block_layout.specs.declared.measure.Measure.{Measure}

module _ (o : Options) (m : Measure) (tag : Tag) (inside : Tag → Said → Option Said) (s : Said) where
  -- a span by what its mark is, and by what each step comes to
  pub span_by : (style : Style) (cs : List ℕ) (d : Tag) (x y z : Option Said) → cs ≡ mark_of o style →
      d ≡ within tag → adds m cs d s ≡ x → option_and_then (inside d) x ≡ y → option_and_then (adds m cs d) y ≡ z →
      spanned o m tag style (inside (within tag)) s ≡ z
  span_by style cs d x y z mark inner first second third =
      ap (λ c. option_and_then (adds m c (within tag))
      (option_and_then (inside (within tag)) (adds m c (within tag) s)))
      (sym mark)
      ∙ ap (λ t. option_and_then (adds m cs t) (option_and_then (inside t) (adds m cs t s))) (sym inner)
      ∙ ap (λ x. option_and_then (adds m cs d) (option_and_then (inside d) x)) first
      ∙ ap (option_and_then (adds m cs d)) second ∙ third

  -- a link that shows something, likewise
  pub link_by : (shallow : Bool) (target : List ℕ) (d : Tag) (t : Said) (x y z w : Option Said) → shallow ≡ false →
      d ≡ within tag → t ≡ with_target target s → adds m (codes "[") d t ≡ x → option_and_then (inside d) x ≡ y →
      option_and_then (adds m (codes "]") d) y ≡ z → option_and_then (numbered o m tag) z ≡ w →
      linked shallow o m tag target (inside (within tag)) s ≡ w
  link_by shallow target d t x y z w shows inner begun first second third last =
      ap (λ b. linked b o m tag target (inside (within tag)) s) shows
      ∙ ap (λ t. option_and_then (numbered o m tag) (option_and_then (adds m (codes "]") (within tag))
      (option_and_then (inside (within tag)) (adds m (codes "[") (within tag) t)))) (sym begun)
      ∙ ap (λ e. option_and_then (numbered o m tag) (option_and_then (adds m (codes "]") e)
      (option_and_then (inside e) (adds m (codes "[") e t)))) (sym inner)
      ∙ ap (λ x. option_and_then (numbered o m tag) (option_and_then (adds m (codes "]") d)
      (option_and_then (inside d) x))) first
      ∙ ap (λ y. option_and_then (numbered o m tag) (option_and_then (adds m (codes "]") d) y)) second
      ∙ ap (option_and_then (numbered o m tag)) third ∙ last

-- a target that was noted
pub target_noted : (laid : Laid Tag) (old new : List (List ℕ)) (target : List ℕ) → new ≡ old ++ target ∷ [] →
    record { laid = laid; targets = new } ≡ with_target target (record { laid = laid; targets = old })
target_noted laid old new target e = ap (λ ts. let s : Said = record { laid = laid; targets = ts } in s) e
