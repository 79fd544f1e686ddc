-- A sink that keeps its tokens is lawful: texts that follow each other are as one.
use Rattle.std.specs.Prelude.{◌≡◌, ℕ, List, [], ◌∷◌, ◌++◌, refl}
use Rattle.std.proofs.Common.{sym, ap, ◌∙◌, append_assoc, append-nil}
use Rattle.token_grammar.specs.Items.{Item, characters}
use Rattle.token_grammar.specs.Reading.{IsLawful}
use Rattle.test_token_sinks.specs.KeptTokens.{Kept, kept, kept_after, kept_meaning, with_text}

-- a first item stays first
first_stays : (item : Item) (items : List Item) (cs ds : List ℕ)
    → with_text (item ∷ with_text items cs) ds ≡ item ∷ with_text (with_text items cs) ds
first_stays (characters es) [] cs ds = refl
first_stays (characters es) (characters fs ∷ []) cs ds = refl
first_stays (characters es) (characters fs ∷ item ∷ items) cs ds = refl
first_stays (characters es) (item ∷ items) cs ds = refl
first_stays item items cs ds = refl

with_text-with_text : (items : List Item) (cs ds : List ℕ)
    → with_text (with_text items cs) ds ≡ with_text items (cs ++ ds)
with_text-with_text [] cs ds = refl
with_text-with_text (characters es ∷ []) cs ds = ap (λ l. characters l ∷ []) (append_assoc es cs ds)
with_text-with_text (characters es ∷ item ∷ items) cs ds =
    first_stays (characters es) (item ∷ items) cs ds
    ∙ ap (λ l. characters es ∷ l) (with_text-with_text (item ∷ items) cs ds)
with_text-with_text (item ∷ items) cs ds = ap (λ l. item ∷ l) (with_text-with_text items cs ds)

kept-joins : (items : List Item) (cs ds : List ℕ)
    → kept (kept items (characters cs)) (characters ds) ≡ kept items (characters (cs ++ ds))
kept-joins items [] ds = refl
kept-joins items (c ∷ cs) [] = ap (λ l. with_text items (c ∷ l)) (sym (append-nil cs))
kept-joins items (c ∷ cs) (d ∷ ds) = with_text-with_text items (c ∷ cs) (d ∷ ds)

abbrev with_items : Kept → List Item → Kept
with_items s items = record s { items = items }

kept_after-joins : (s : Kept) (cs ds : List ℕ)
    → kept_after (kept_after s (characters cs)) (characters ds) ≡ kept_after s (characters (cs ++ ds))
kept_after-joins s cs ds = ap (with_items s) (kept-joins s.items cs ds)

pub kept_meaning-lawful : {H : Type 0} → IsLawful {H = H} kept_meaning (λ _. Unit {0})
kept_meaning-lawful = record {
  joins = kept_after-joins;
  skips = λ _. refl;
  answers = λ _ _ _. refl;
  keeps = λ _ _ ready. ready;
  forgets = λ _ _ _. refl;
  still_answers = λ _ _. refl;
  still_foreign = λ _. refl;
}
