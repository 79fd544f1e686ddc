-- What a parser was fed with, and a rest of the page: by what its tokenizer does.
use Rattle.std.proofs.Common.{◌≡◌, ◌++◌, ℕ, List, [], subst, append_assoc}
use Rattle.tree_forest.specs.Sinks.{SinkView}
use Rattle.html_tree_state.specs.Building.{Parts}
use Rattle.rules_actions.specs.Parsed.{parsed}
use Rattle.rules_actions.specs.declared.kept.Kept.{Kept}

-- A piece goes after what stood in the buffer, of which nothing is left.
pub read_on : {A : Type 0} (new old : List ℕ → A → Type 0) (queue before piece left : List ℕ) → left ≡ [] →
    queue ≡ before ++ piece →
    ((rest : List ℕ) (final : A) → new rest final → old (queue ++ rest) final) →
    (rest : List ℕ) (final : A) → new (left ++ rest) final → old (before ++ (piece ++ rest)) final
read_on new old queue before piece left none pushed reads rest final now =
    let shorter : new rest final = subst (λ cs. new (cs ++ rest) final) none now in
    let longer : old (queue ++ rest) final = reads rest final shorter in
    let whole : old ((before ++ piece) ++ rest) final = subst (λ cs. old (cs ++ rest) final) pushed longer in
    subst (λ cs. old cs final) (append_assoc before piece rest) whole

-- A sink of trees in another state, with the same nodes and view.quirks mode, is the same tree that is being built.
pub same_parsed : {H S : Type 0} (view : SinkView S H) (kept : Kept H)
    (held : Parts H) (new old : S) → view.forest new ≡ view.forest old → view.quirks new ≡ view.quirks old →
    parsed view kept held new ≡ parsed view kept held old
same_parsed view kept held new old nodes mode = cc (nodes, mode)
