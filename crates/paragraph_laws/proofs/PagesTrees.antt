-- A page of paragraphs has its tree.
use Rattle.std.proofs.Common.{◌≡◌, ◌<◌, [], ◌∷◌, ◌∙◌, List, None, ap, arith, codes, false, fold, refl, subst, sym, true}
use Rattle.std.proofs.Common.{ℕ}
use Rattle.document_laws.specs.Escaped.{KnowsEscapes}
use Rattle.tree_forest.specs.Forest.{Forest, nodes, page_alone}
use Rattle.tree_forest.specs.declared.sink.QuirksMode.{QuirksMode}
use Rattle.tree_forest.specs.declared.sink.QuirksMode.TheVariants.{NoQuirks}
use Rattle.token_grammar.proofs.Readings.{one}
use Rattle.token_grammar.specs.Items.{end_of_file}
use Rattle.token_grammar.specs.PageText.{page_text}
use Rattle.token_grammar.specs.Reading.{Reading}
use Rattle.lex_base.specs.References.{References}
use Rattle.html_tree_builder.specs.Defaults.{default_parse}
use Rattle.html_tree_builder.specs.Grown.{IsTreeOfPage, beginning}
use Rattle.document_laws.specs.Contents.{Content, IsBlocks, no_more, none, nothing, of_text, text, tokens}
use Rattle.document_laws.specs.Contents as kinds
use Rattle.document_laws.specs.Parts.{BlocksRebuild}
use Rattle.document_laws.specs.Planted.{planted, standing}
use Rattle.rules_table.specs.Settling.{meaning, step}
use Rattle.paragraph_laws.proofs.BodyModes.{InTheBody, Stays, body_hears, start_stays, stays_leads}
use Rattle.paragraph_laws.proofs.FirstTags.{at_first, end_changes_nothing, first_start, in_body, nothing_emitted}
use Rattle.paragraph_laws.proofs.PagesRead.{ended_by, nothing_read, opening, paragraph_read, paragraphs_read}
use Rattle.paragraph_laws.proofs.TextsRead.{ordinary}
use Rattle.paragraph_laws.specs.ParagraphPage.{IsParagraphPage}
use Rattle.paragraph_laws.specs.ParagraphTrees.{body_alone, paragraph_tree, paragraphs, text_content}

-- paragraphs are blocks
text_inlines : (cs : List ℕ) → kinds.IsInlines false false (text_content cs)
text_inlines [] = nothing false false
text_inlines (c ∷ cs) = text false c cs none (nothing false true)

are_blocks : (texts : List (List ℕ)) → IsBlocks false (paragraphs texts)
are_blocks [] = no_more false
are_blocks (cs ∷ texts) =
    of_text (codes "p") (text_content cs) (paragraphs texts) refl (text_inlines cs) (are_blocks texts)

abbrev StandsAtOnce : Type 0
StandsAtOnce = (p : ℕ) (content : Content) (f : Forest) → p < nodes f → planted p content f ≡ standing p content f

module _ (rebuild : BlocksRebuild) (at_once : StandsAtOnce) where
  -- what the paragraphs and the end come to in an empty body
  body_grown : (texts : List (List ℕ)) →
      (step (fold step (in_body true body_alone) (tokens (paragraphs texts))) end_of_file).tree.forest
      ≡ paragraph_tree texts
  body_grown texts =
      let content = paragraphs texts in
      let rebuilt = rebuild (in_body true body_alone) 3 (1 ∷ []) false content
      (record { mode = refl; page = refl; past = refl; fostering = refl })
      refl refl (omega arith, (omega arith, tt))
      ((codes "body", refl, refl), ((codes "html", refl, refl), tt))
      tt (are_blocks texts) in
      ap (λ z. (step z end_of_file).tree.forest) rebuilt.1
      ∙ end_changes_nothing rebuilt.0 content (planted 3 content body_alone)
      (at_once 3 content body_alone (omega arith))

  page_grown : (texts : List (List ℕ)) →
      (step (fold step at_first (tokens (paragraphs texts))) end_of_file).tree.forest ≡ paragraph_tree texts
  page_grown [] = nothing_emitted
  page_grown (cs ∷ texts) =
      let trailing = kinds.tokens_and (text_content cs) (kinds.end_of (codes "p") ∷ tokens (paragraphs texts)) in
      ap (λ z. (step (fold step z.state trailing) end_of_file).tree.forest) first_start
      ∙ body_grown (cs ∷ texts)

  module _ {H : Type 0} (handle : ℕ → H) (table : References) (knows : KnowsEscapes table) where
    page_read : (page : List ℕ) (texts : List (List ℕ)) → IsParagraphPage page texts →
        Reading table (meaning handle) (ordinary None) at_first page
        (ended_by (meaning handle) at_first (tokens (paragraphs texts)))
    page_read page [] is = nothing_read table knows (meaning handle) InTheBody (body_hears handle) None at_first page is
    page_read page (cs ∷ more) is =
        subst (λ l. Reading table (meaning handle) (ordinary None) at_first l
        (ended_by (meaning handle) at_first (tokens (paragraphs (cs ∷ more))))) (sym is.2)
        (paragraph_read table knows (meaning handle) InTheBody (body_hears handle) None at_first is.0 cs is.1 more
        (stays_leads handle opening at_first
        (subst Stays (sym first_start) (start_stays (in_body true body_alone) refl))) is.3
        (paragraphs_read table knows (meaning handle) InTheBody (body_hears handle) is.1 more is.4))

    pub page_has_tree : (source : List ℕ) (texts : List (List ℕ)) (forest : Forest) (mode : QuirksMode) →
        IsParagraphPage (page_text true source) texts →
        IsTreeOfPage handle (beginning table default_parse page_alone NoQuirks) source forest mode →
        forest ≡ paragraph_tree texts
    page_has_tree source texts forest mode is grown =
        grown.nodes
        ∙ ap (λ z. z.tree.forest) (one table (meaning handle) (ordinary None) at_first (page_text true source)
        grown.final _ grown.reading (page_read (page_text true source) texts is))
        ∙ page_grown texts
