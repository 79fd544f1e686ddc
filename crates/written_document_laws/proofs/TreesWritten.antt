-- The tree of what is written of a document is the document's.
use Rattle.std.proofs.Common.{◌≡◌, [], ◌∷◌, if◌then◌else◌, ◌∙◌, Bool, List, Option, ap, false, fold, refl, true, ℕ}
use Rattle.document_laws.specs.Escaped.{KnowsEscapes}
use Rattle.tree_forest.specs.Forest.{page_alone}
use Rattle.token_grammar.proofs.Readings.{one}
use Rattle.token_grammar.specs.Items.{Item, characters, comment, doctype, end_of_file, error, null_character, tag}
use Rattle.token_grammar.specs.Reading.{IsLawful, Reading}
use Rattle.lex_base.specs.References.{References}
use Rattle.html_lexemes.specs.declared.states.RawKind.TheVariants.{Rcdata}
use Rattle.html_lexemes.specs.declared.token.TokenSinkResult.TheVariants.{Continue, RawData}
use Rattle.page_tree_laws.specs.KeptText.{IsAtBeginning}
use Rattle.rules_table.specs.Settling.{answer_of, meaning, step}
use Rattle.rules_table.specs.State.{State}
use Rattle.rules_table.specs.Welcome.{IsReady}
use Rattle.document_laws.specs.Asked.{AreAsked, DocumentsAsk, IsAsked, asked_by, opens_title}
use Rattle.document_laws.specs.Contents.{Content, IsBlocks}
use Rattle.document_laws.specs.Rebuilt.{DocumentsRebuild, document_tokens, document_tree}
use Rattle.written_document_laws.proofs.DocumentsRead.{read_whole}
use Rattle.written_document_laws.specs.Documents.{AreRepliedTo, HoldsNoNul, IsRepliedTo, document_text}
use Rattle.written_document_laws.specs.Written.{ordinary}

-- what is asked is replied
module _ {H : Type 0} (handle : ℕ → H) where
  wanted_is : (b : Bool) → answer_of handle (asked_by b) ≡ (if b then RawData Rcdata else Continue)
  wanted_is true = refl
  wanted_is false = refl

  one_replied : (s : State) (item : Item) → IsAsked s item → IsRepliedTo (meaning handle) s item
  one_replied s (tag t) h = ap (answer_of handle) h ∙ wanted_is (opens_title t.kind t.name)
  one_replied s (characters cs) h = tt
  one_replied s null_character h = tt
  one_replied s (comment cs) h = tt
  one_replied s (doctype d) h = tt
  one_replied s error h = tt
  one_replied s end_of_file h = tt

  all_replied : (s : State) (items : List Item) → AreAsked s items → AreRepliedTo (meaning handle) s items
  all_replied s [] h = tt
  all_replied s (item ∷ items) h = (one_replied s item h.0, all_replied (step s item) items h.1)

  pub tree_written : DocumentsAsk → DocumentsRebuild → IsLawful (meaning handle) IsReady → (table : References) →
      KnowsEscapes table → (last : Option (List ℕ)) (s : State) (title : Option (List ℕ)) (content : Content)
      (final : State) → IsAtBeginning s → s.tree.forest ≡ page_alone → s.options.drop_doctype ≡ false →
      HoldsNoNul title content → IsBlocks false content →
      Reading table (meaning handle) (ordinary last) s (document_text title content) final →
      final.tree.forest ≡ document_tree title content
  tree_written ask rebuild lawful table knows last s title content final is alone keeps h blocks reading =
      let read = read_whole (meaning handle) table knows lawful last s title content h blocks
      (all_replied s (document_tokens title content) (ask s title content is alone keeps blocks)) in
      let same : final ≡ fold step s (document_tokens title content) =
      one table (meaning handle) (ordinary last) s (document_text title content) final _ reading read in
      ap (λ z. z.tree.forest) same ∙ rebuild s title content is alone keeps blocks
