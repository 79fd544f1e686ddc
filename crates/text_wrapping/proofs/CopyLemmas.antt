-- Lists that are copied one by one.
use Rattle.std.proofs.Common.{◌≡◌, List, [], ◌∷◌, ◌++◌, map, sym, ap, ◌∙◌, subst, append_assoc}
use Rattle.std.specs.Prelude.{All}
use Rattle.std.proofs.lemmas.List.{map-append}
use Rattle.std.proofs.lemmas.List.Elements.{All-head, All-tail, All-push}

pub copied_items : {A B : Type 0} (f : A → B) (all new rest others lines : List A) (x copy : A) → rest ≡ x ∷ others
    → new ≡ all ++ copy ∷ [] → f copy ≡ f x → map f all ++ map f rest ≡ map f lines
    → map f new ++ map f others ≡ map f lines
copied_items f all new rest others lines x copy rest_is new_is same so_far =
    ap (λ l. map f l ++ map f others) new_is
    ∙ ap (λ l. l ++ map f others) (map-append f all (copy ∷ []))
    ∙ append_assoc (map f all) (f copy ∷ []) (map f others)
    ∙ ap (λ y. map f all ++ y ∷ map f others) same
    ∙ sym (ap (λ l. map f all ++ map f l) rest_is) ∙ so_far

pub copied_all : {A : Type 0} (P : A → Type 0) (all new rest others : List A) (x copy : A) → rest ≡ x ∷ others
    → new ≡ all ++ copy ∷ [] → (P x → P copy) → All P all × All P rest → All P new × All P others
copied_all P all new rest others x copy rest_is new_is keeps so_far =
    let back = subst (All P) rest_is so_far.1 in (
      subst (All P) (sym new_is) (All-push P all copy so_far.0 (keeps (All-head P x others back))),
      All-tail P x others back,
    )
