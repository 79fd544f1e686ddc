-- The lines of targets after an article.
use Rattle.std.proofs.Common.{◌≡◌, ◌&&◌, [], ◌∷◌, ◌++◌, ◌∙◌, Bool, List, String, ap, false, length, not, refl}
use Rattle.std.proofs.Common.{sym, true, ℕ}
use Rattle.std.specs.Global.{Global}
use Rattle.std.proofs.lemmas.Bool.{cond-true}
use Rattle.text_footnotes.specs.Printable.{shown_targets}
use Rattle.text_footnotes.specs.Targets.{distinct, noted_targets}
use Rattle.text_pieces.specs.Sources.{is_filled, names}
use Rattle.article_definitions.specs.Layouts.{Line, Options, listed_targets, notes, parted}
use Rattle.article_layout.specs.Walks.{with_notes}

pub some_names : (items : List (String Global)) → (length items ≡ 0 → ⊥) → is_filled (names items) ≡ true
some_names [] some = absurd (some refl)
some_names (item ∷ items) some = refl

noted_filled : ((targets : List (List ℕ)) → is_filled (distinct targets) ≡ is_filled targets) → (shared : Bool)
    (targets : List (List ℕ)) → is_filled (noted_targets shared targets) ≡ is_filled targets
noted_filled some true targets = some targets
noted_filled some false targets = refl

both : (a b : Bool) → not a ≡ false → b ≡ true → (a && b) ≡ true
both true b e f = f
both false b e f = sym e

-- a block of their own, where they are wanted and there are some
pub notes_stand : ((targets : List (List ℕ)) → is_filled (distinct targets) ≡ is_filled targets) → (o : Options)
    (width : ℕ) (targets stand shown : List (List ℕ)) (old before new : List Line) → not o.footnotes ≡ false
    → is_filled stand ≡ true → stand ≡ noted_targets o.shares_footnotes targets
    → shown ≡ shown_targets o.prints_targets stand → before ≡ parted o width old → new ≡ before ++ notes o width shown
    → new ≡ with_notes o width targets old
notes_stand some o width targets stand shown old before new wants filled is prints parts added =
    let here : is_filled targets ≡ true
    = sym (noted_filled some o.shares_footnotes targets) ∙ ap is_filled (sym is) ∙ filled in
    added ∙ ap (λ l. l ++ notes o width shown) parts
    ∙ ap (λ l. parted o width old ++ notes o width l) (prints ∙ ap (shown_targets o.prints_targets) is)
    ∙ sym (cond-true (o.footnotes && is_filled targets) (parted o width old ++ notes o width (listed_targets o targets))
    old (both o.footnotes (is_filled targets) wants here))
