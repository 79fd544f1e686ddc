-- What was reconstructed is as it was where it is reconstructed again (WHATWG HTML, 13.2.4.3).
use Rattle.std.proofs.Common.{◌≡◌, if◌then◌else◌, ◌∙◌, [], ◌∷◌, ◌++◌, ◌==◌, Bool, List, ap, ap₂, false, refl, sym, true}
use Rattle.std.proofs.Common.{ℕ}
use Rattle.std.proofs.lemmas.Bool.{cond-true, eq-eqb}
use Rattle.tree_formatting.specs.Entries.{Entry, formatted, marker}
use Rattle.tree_forest.specs.Forest.{is_in, nodes}
use Rattle.tree_model.specs.Building.{Building}
use Rattle.tree_model.specs.Formatting.{all_made_anew, is_kept, made_already, made_anew, reconstructed, to_make}
use Rattle.tree_model.specs.Insertions.{said}
use Rattle.tree_model.proofs.MadeAnewLemmas.{made_and_kept}

-- none is to be made anew
abbrev IsCalm : Building → Type 0
IsCalm b = to_make b.stack b.formatting ≡ []

calm_step : (t : Bool) (stack : List ℕ) (e : Entry) (es : List Entry) → is_kept stack e ≡ t →
    to_make stack (made_already stack es) ≡ [] →
    to_make stack (if t then e ∷ es else made_already stack es) ≡ []
calm_step true stack e es is rest = cond-true (is_kept stack e) _ _ is
calm_step false stack e es is rest = rest

made_calm : (stack : List ℕ) (es : List Entry) → to_make stack (made_already stack es) ≡ []
made_calm stack [] = refl
made_calm stack (e ∷ es) = calm_step (is_kept stack e) stack e es refl (made_calm stack es)

-- an element that was made anew is the current node
new_kept : (n : ℕ) (ns : List ℕ) → is_in n (n ∷ ns) ≡ true
new_kept n ns = cond-true (n == n) true (is_in n ns) (eq-eqb n n refl)

anew_calm : (e : Entry) (b : Building) → IsCalm (made_anew e b)
anew_calm marker b = refl
anew_calm (formatted n tag) b =
    cond-true (is_in (nodes b.forest) (nodes b.forest ∷ b.stack)) _ _ (new_kept (nodes b.forest) b.stack)

all_calm : (later : List Entry) (b : Building) → IsCalm b → IsCalm (all_made_anew later b)
all_calm [] b calm = calm
all_calm (e ∷ earlier) b calm = anew_calm e (all_made_anew earlier b)

reconstructed_calm : (b : Building) → IsCalm (reconstructed b)
reconstructed_calm b = all_calm (to_make b.stack b.formatting)
    (record b { formatting = made_already b.stack b.formatting }) (made_calm b.stack b.formatting)

-- where none is, nothing changes
calm_same : (b : Building) → IsCalm b → reconstructed b ≡ b
calm_same b calm =
    let whole : made_already b.stack b.formatting ≡ b.formatting
    = sym (made_and_kept b.stack b.formatting
    ∙ ap (λ (v : List Entry). v ++ made_already b.stack b.formatting) calm) in
    ap₂ (λ (v w : List Entry). all_made_anew v (record b { formatting = w })) calm whole

pub reconstructed_once : (cs : List ℕ) (b : Building) →
    reconstructed (said cs (reconstructed b)) ≡ said cs (reconstructed b)
reconstructed_once cs b = calm_same (said cs (reconstructed b)) (reconstructed_calm b)
