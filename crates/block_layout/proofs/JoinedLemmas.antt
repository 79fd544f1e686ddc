-- Texts stay joined where lines are taken one by one.
use Rattle.std.proofs.Common.{◌≡◌, List, ◌∷◌, subst}
use Rattle.std.specs.Prelude.{All}
use Rattle.std.proofs.lemmas.List.Elements.{All-head, All-tail}

pub next_joined : {X J K : Type 0} (P : X → Type 0) (x : X) (xs ys : List X) → ys ≡ x ∷ xs → (J → P x → K)
    → J × All P ys → K × All P xs
next_joined P x xs ys same step h =
    let all = subst (All P) same h.1 in
    (step h.0 (All-head P x xs all), All-tail P x xs all)
