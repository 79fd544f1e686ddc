-- The reading of a page of paragraphs emits their tokens, and then the end.
use Rattle.std.proofs.Common.{◌≡◌, ℕ, false, List, [], ◌∷◌, ◌++◌, Option, Some, codes, fold, refl, sym, ap, subst}
use Rattle.document_laws.specs.Escaped.{KnowsEscapes}
use Rattle.token_grammar.specs.Items.{Item, characters, end_of_file, tag}
use Rattle.token_grammar.specs.Lexemes.{lexeme}
use Rattle.token_grammar.specs.Meaning.{Meaning}
use Rattle.token_grammar.specs.Modes.{next_mode}
use Rattle.token_grammar.specs.Reading.{Reading, ends, tags}
use Rattle.lex_base.specs.References.{References}
use Rattle.html_lexemes.specs.declared.token.Tag.{Tag}
use Rattle.html_lexemes.specs.declared.token.TagKind.TheVariants.{EndTag, StartTag}
use Rattle.html_lexemes.specs.declared.token.TokenSinkResult.TheVariants.{Continue}
use Rattle.document_laws.specs.Contents.{end_of, tokens, tokens_and}
use Rattle.paragraph_laws.proofs.TextsRead.{Joins, Skips, ordinary, text_read}
use Rattle.paragraph_laws.specs.ParagraphPage.{IsParagraphPage, IsText, end_tag, start_tag}
use Rattle.paragraph_laws.specs.ParagraphTrees.{paragraphs, text_content}

abbrev pub opening : Tag
opening = record {
  kind = StartTag;
  name = codes "p";
  self_closing = false;
  attrs = [];
  had_duplicate_attributes = false;
}

abbrev pub closing : Tag
closing = record {
  kind = EndTag;
  name = codes "p";
  self_closing = false;
  attrs = [];
  had_duplicate_attributes = false;
}

-- a tag asks nothing, and leads to a state inside
abbrev pub Leads : {A H : Type 0} → Meaning A H → (A → Type 0) → Tag → A → Type 0
Leads means Inside t s = (means.reply s (tag t) ≡ Continue) × Inside (means.step s (tag t))

-- what paragraphs are emitted to: their tags and texts lead from a state inside to such states
pub record Hears {A H : Type 0} (means : Meaning A H) (Inside : A → Type 0) : Type 0 where
  pub joins : Joins means
  pub skips : Skips means
  pub opens : (s : A) → Inside s → Leads means Inside opening s
  pub emits : (s : A) (cs : List ℕ) → Inside s → Inside (means.step s (characters cs))
  pub closes : (s : A) → Inside s → Leads means Inside closing s

-- the state that items and then the end lead to
abbrev pub ended_by : {A H : Type 0} → Meaning A H → A → List Item → A
ended_by means s items = means.step (fold means.step s items) end_of_file

-- a text that is emitted is one item, or none
text_emitted : {A H : Type 0} (means : Meaning A H) → Skips means → (s : A) (text : List ℕ) (more : List Item) →
    fold means.step s (tokens_and (text_content text) more) ≡ fold means.step (means.step s (characters text)) more
text_emitted means skips s [] more = ap (λ z. fold means.step z more) (sym (skips s))
text_emitted means skips s (c ∷ cs) more = refl

module _ {A H : Type 0} (table : References) (knows : KnowsEscapes table) (means : Meaning A H) (Inside : A → Type 0)
    (hears : Hears means Inside) where
  abbrev Reads : Option (List ℕ) → A → List ℕ → A → Type 0
  Reads last s cs final = Reading table means (ordinary last) s cs final

  start_read : (last : Option (List ℕ)) (s : A) (rest : List ℕ) (final : A) → Leads means Inside opening s →
      Reads (Some (codes "p")) (means.step s (tag opening)) rest final → Reads last s (start_tag ++ rest) final
  start_read last s rest final leads r = tags (ordinary last) s (start_tag ++ rest) opening rest final refl
      (subst (λ answer. Reading table means (next_mode (ordinary last) opening answer) (means.step s (tag opening))
      rest final) (sym leads.0) r)

  end_read : (last : Option (List ℕ)) (s : A) (rest : List ℕ) (final : A) → Leads means Inside closing s →
      Reads last (means.step s (tag closing)) rest final → Reads last s (end_tag ++ rest) final
  end_read last s rest final leads r = tags (ordinary last) s (end_tag ++ rest) closing rest final refl
      (subst (λ answer. Reading table means (next_mode (ordinary last) closing answer) (means.step s (tag closing))
      rest final) (sym leads.0) r)

  -- from any state inside, whatever the last start tag was
  abbrev ReadsOn : List ℕ → List Item → Type 0
  ReadsOn rest more = (last : Option (List ℕ)) (s : A) → Inside s → Reads last s rest (ended_by means s more)

  pub paragraph_read : (last : Option (List ℕ)) (s : A) (source text rest : List ℕ) (more : List (List ℕ)) →
      Leads means Inside opening s → IsText source text → ReadsOn rest (tokens (paragraphs more)) →
      Reads last s (start_tag ++ (source ++ (end_tag ++ rest)))
      (ended_by means s (tokens (paragraphs (text ∷ more))))
  paragraph_read last s source text rest more leads is further =
      let opened : A = means.step s (tag opening) in
      let emitted : A = means.step opened (characters text) in
      let later : List Item = tokens (paragraphs more) in
      let closes = hears.closes emitted (hears.emits opened text leads.1) in
      let final : A = ended_by means (means.step emitted (tag closing)) later in
      subst (Reads last s (start_tag ++ (source ++ (end_tag ++ rest))))
      (sym (ap (λ z. means.step z end_of_file) (text_emitted means hears.skips opened text
      (end_of (codes "p") ∷ later))))
      (start_read last s (source ++ (end_tag ++ rest)) final leads
      (text_read means hears.joins hears.skips table knows (Some (codes "p")) (end_tag ++ rest) final opened source
      text is
      (end_read (Some (codes "p")) emitted rest final closes
      (further (Some (codes "p")) (means.step emitted (tag closing)) closes.1))))

  pub nothing_read : (last : Option (List ℕ)) (s : A) (page : List ℕ) → page ≡ [] →
      Reads last s page (ended_by means s [])
  nothing_read last s page e = ends (ordinary last) s page (ended_by means s [])
      (ap (lexeme table (means.foreign s) (ordinary last)) e) refl

  pub paragraphs_read : (page : List ℕ) (texts : List (List ℕ)) → IsParagraphPage page texts →
      ReadsOn page (tokens (paragraphs texts))
  paragraphs_read page [] is last s inside = nothing_read last s page is
  paragraphs_read page (text ∷ more) is last s inside =
      subst (λ cs. Reads last s cs (ended_by means s (tokens (paragraphs (text ∷ more))))) (sym is.2)
      (paragraph_read last s is.0 text is.1 more (hears.opens s inside) is.3 (paragraphs_read is.1 more is.4))
