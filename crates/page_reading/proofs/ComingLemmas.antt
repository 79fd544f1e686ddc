-- What comes of a page: by what its decoder and its parser do.
use Rattle.std.proofs.Common.{◌≡◌, ◌++◌, ℕ, List, [], sym, ap, ◌∙◌, subst, append_assoc}
use Rattle.tree_forest.specs.Forest.{Forest, page_alone}
use Rattle.tree_forest.specs.declared.sink.QuirksMode.{QuirksMode}
use Rattle.tree_forest.specs.declared.sink.QuirksMode.TheVariants.{NoQuirks}
use Rattle.html_tree_builder.specs.Grown.{IsGrown}
use Rattle.rules_table.specs.State.{State}
use Rattle.page_decoding.specs.ReplacedText.{replaced_text}

-- what ends in one way ends in another
pub grown_as : (one other : State → Type 0) (forest : Forest) (mode : QuirksMode) →
    ((final : State) → one final → other final) → IsGrown one forest mode → IsGrown other forest mode
grown_as one other forest mode turns grown = record {
  final = grown.final;
  reading = turns grown.final grown.reading;
  nodes = grown.nodes;
  mode = grown.mode;
}

-- The text of a piece goes to the parser: what the decoder held, the piece and a rest are read as that text, and what
-- the decoder holds now and the rest are read as.
pub fed : {A : Type 0} (new old : List ℕ → A → Type 0) (held now piece text : List ℕ) →
    ((rest : List ℕ) → replaced_text ((held ++ piece) ++ rest) ≡ text ++ replaced_text (now ++ rest)) →
    ((rest : List ℕ) (final : A) → new rest final → old (text ++ rest) final) →
    (rest : List ℕ) (final : A) → new (replaced_text (now ++ rest)) final →
    old (replaced_text (held ++ (piece ++ rest))) final
fed new old held now piece text decoded parsed rest final comes =
    subst (λ cs. old cs final) (sym (ap replaced_text (sym (append_assoc held piece rest)) ∙ decoded rest))
    (parsed (replaced_text (now ++ rest)) final comes)

-- Of a decoder that holds nothing, and a parser that begins on a document alone, comes the tree of the bytes.
pub begun_alone : (completes : List ℕ → State → Type 0) (reads : Forest → QuirksMode → List ℕ → State → Type 0)
    (held : List ℕ) (first : Forest) (begun : QuirksMode) → held ≡ [] → first ≡ page_alone → begun ≡ NoQuirks →
    ((text : List ℕ) (final : State) → completes text final → reads first begun text final) →
    (bytes : List ℕ) (forest : Forest) (mode : QuirksMode) →
    IsGrown (completes (replaced_text (held ++ bytes))) forest mode →
    IsGrown (reads page_alone NoQuirks (replaced_text bytes)) forest mode
begun_alone completes reads held first begun none alone plain turns bytes forest mode grown =
    let fresh : IsGrown (completes (replaced_text bytes)) forest mode = subst
    (λ (h : List ℕ). IsGrown (completes (replaced_text (h ++ bytes))) forest mode) none grown in
    let read : IsGrown (reads first begun (replaced_text bytes)) forest mode = grown_as
    (completes (replaced_text bytes)) (reads first begun (replaced_text bytes)) forest mode
    (turns (replaced_text bytes)) fresh in
    subst (λ q. IsGrown (reads page_alone q (replaced_text bytes)) forest mode) plain
    (subst (λ f. IsGrown (reads f begun (replaced_text bytes)) forest mode) alone read)
