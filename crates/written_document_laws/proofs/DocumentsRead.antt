-- What is written of a document is read back as its items.
use Rattle.std.proofs.Common.{◌≡◌, [], ◌∷◌, ◌++◌, if◌then◌else◌, ◌∙◌, Bool, List, None, Option, Some, ap, append-nil}
use Rattle.std.proofs.Common.{append_assoc, codes, false, fold, refl, subst, sym, true, ℕ}
use Rattle.document_laws.specs.Escaped.{KnowsEscapes}
use Rattle.token_grammar.specs.Items.{Item, characters, end_of_file, tag}
use Rattle.token_grammar.specs.Meaning.{Meaning}
use Rattle.token_grammar.specs.Modes.{next_mode}
use Rattle.token_grammar.specs.Reading.{IsLawful, Reading, ends}
use Rattle.lex_base.specs.References.{References}
use Rattle.written_document_laws.proofs.ReadBack.{items_read}
use Rattle.token_grammar.specs.Tags.{first_of_each}
use Rattle.html_lexemes.specs.declared.names.Attribute.{Attribute}
use Rattle.html_lexemes.specs.declared.states.RawKind.TheVariants.{Rcdata}
use Rattle.html_lexemes.specs.declared.token.TokenSinkResult.{TokenSinkResult}
use Rattle.html_lexemes.specs.declared.token.TokenSinkResult.TheVariants.{Continue, RawData}
use Rattle.tree_serializer.specs.Escapes.{end_text, escaped, start_text}
use Rattle.tree_names.specs.Sets.{is_one_of}
use Rattle.document_laws.specs.Contents.{Content, IsBlocks, end_of, ended, none, say, span, start_of, tokens_and}
use Rattle.document_laws.specs.Planted.{of_html}
use Rattle.document_laws.specs.Rebuilt.{document_tokens, html_doctype, text_tokens, title_tokens}
use Rattle.written_document_laws.proofs.Elements.{AreNamed, AreReadable, blocks_named, blocks_readable}
use Rattle.written_document_laws.proofs.WrittenTags.{end_tag, start_tag}
use Rattle.written_document_laws.specs.Documents.{AreRepliedTo, HoldsNoNul, IsTitleWithout, content_text, document_text}
use Rattle.written_document_laws.specs.Documents.{is_void, title_text}
use Rattle.written_document_laws.specs.Written.{AreAttributes, AreReadBack, IsTagName, closes, declares, ends_text}
use Rattle.written_document_laws.specs.Written.{items_text, mode_after_all, opens, ordinary, rcdata_of, text}

-- ---- the tokens of a document, but for the end of the file

abbrev pub document_items : Option (List ℕ) → Content → List Item
document_items title content = html_doctype ∷ start_of (codes "html") [] ∷ start_of (codes "head") []
    ∷ title_tokens title (end_of (codes "head") ∷ start_of (codes "body") []
    ∷ tokens_and content (end_of (codes "body") ∷ end_of (codes "html") ∷ []))

module _ (ys : List Item) where
  ended_both : (name : List ℕ) (more : List Item) (b : Bool) →
      (if b then more else end_of name ∷ more) ++ ys ≡ (if b then more ++ ys else end_of name ∷ (more ++ ys))
  ended_both name more true = refl
  ended_both name more false = refl

  tokens_both : (content : Content) (more : List Item) → tokens_and content more ++ ys ≡ tokens_and content (more ++ ys)
  tokens_both none more = refl
  tokens_both (say c cs rest) more = ap (λ t. characters (c ∷ cs) ∷ t) (tokens_both rest more)
  tokens_both (span name attributes kids rest) more =
      ap (λ t. start_of name attributes ∷ t)
      (tokens_both kids (ended name (tokens_and rest more))
      ∙ ap (tokens_and kids) (ended_both name (tokens_and rest more) (is_one_of (codes "br" ∷ []) name)
      ∙ ap (ended name) (tokens_both rest more)))

  title_both : (title : Option (List ℕ)) (more more' : List Item) → more ++ ys ≡ more' →
      title_tokens title more ++ ys ≡ title_tokens title more'
  title_both None more more' e = e
  title_both (Some []) more more' e = ap (λ t. start_of (codes "title") [] ∷ end_of (codes "title") ∷ t) e
  title_both (Some (c ∷ cs)) more more' e =
      ap (λ t. start_of (codes "title") [] ∷ characters (c ∷ cs) ∷ end_of (codes "title") ∷ t) e

pub items_are : (title : Option (List ℕ)) (content : Content) →
    document_items title content ++ end_of_file ∷ [] ≡ document_tokens title content
items_are title content =
    let ends : List Item = end_of (codes "body") ∷ end_of (codes "html") ∷ [] in
    let ys : List Item = end_of_file ∷ [] in
    ap (λ t. html_doctype ∷ start_of (codes "html") [] ∷ start_of (codes "head") [] ∷ t)
    (title_both ys title (end_of (codes "head") ∷ start_of (codes "body") [] ∷ tokens_and content ends)
    (end_of (codes "head") ∷ start_of (codes "body") [] ∷ tokens_and content (ends ++ ys))
    (ap (λ t. end_of (codes "head") ∷ start_of (codes "body") [] ∷ t) (tokens_both ys content ends)))

-- ---- the text of a document is that of its items

module _ (name : List ℕ) (more : List Item) where
  ended_text : (b : Bool) → items_text (if b then more else end_of name ∷ more)
      ≡ (if b then [] else end_text (of_html name)) ++ items_text more
  ended_text true = refl
  ended_text false = refl

no_kids : (name : List ℕ) (kids : Content) (b : Bool) → (b ≡ true → kids ≡ none) →
    content_text kids ++ (if b then [] else end_text (of_html name))
    ≡ (if b then [] else content_text kids ++ end_text (of_html name))
no_kids name kids true h = ap (λ k. content_text k ++ []) (h refl)
no_kids name kids false h = refl

pub tokens_text : (content : Content) (more : List Item) → AreReadable content →
    items_text (tokens_and content more) ≡ content_text content ++ items_text more
tokens_text none more h = refl
tokens_text (say c cs rest) more h =
    ap (λ l. escaped false (c ∷ cs) ++ l) (tokens_text rest more h.1)
    ∙ sym (append_assoc (escaped false (c ∷ cs)) (content_text rest) (items_text more))
tokens_text (span name attributes kids rest) more h =
    let opening : List ℕ = start_text (of_html name) attributes in
    let closing : List ℕ = if is_void name then [] else end_text (of_html name) in
    let inner : List ℕ = if is_void name then [] else content_text kids ++ end_text (of_html name) in
    let trailing : List ℕ = content_text rest ++ items_text more in
    ap (λ l. opening ++ l)
    (tokens_text kids (ended name (tokens_and rest more)) h.1.0
    ∙ ap (λ l. content_text kids ++ l) (ended_text name (tokens_and rest more) (is_void name)
    ∙ ap (λ l. closing ++ l) (tokens_text rest more h.1.1))
    ∙ sym (append_assoc (content_text kids) closing trailing)
    ∙ ap (λ l. l ++ trailing) (no_kids name kids (is_void name) h.0.void)
    ∙ sym (append_assoc inner (content_text rest) (items_text more)))
    ∙ sym (append_assoc opening (inner ++ content_text rest) (items_text more))

title_tokens_text : (title : Option (List ℕ)) (more : List Item) →
    items_text (title_tokens title more) ≡ title_text title ++ items_text more
title_tokens_text None more = refl
title_tokens_text (Some []) more = refl
title_tokens_text (Some (c ∷ cs)) more =
    ap (λ l. codes "<title>" ++ l)
    (sym (append_assoc (escaped false (c ∷ cs)) (codes "</title>") (items_text more)))

pub document_items_text : (title : Option (List ℕ)) (content : Content) → AreReadable content →
    items_text (document_items title content) ≡ document_text title content
document_items_text title content h =
    let ends : List Item = end_of (codes "body") ∷ end_of (codes "html") ∷ [] in
    ap (λ l. codes "<!DOCTYPE html><html><head>" ++ l)
    (title_tokens_text title (end_of (codes "head") ∷ start_of (codes "body") [] ∷ tokens_and content ends)
    ∙ ap (λ l. title_text title ++ (codes "</head><body>" ++ l)) (tokens_text content ends h))

-- ---- each item is read back where it stands

module _ {A H : Type 0} (means : Meaning A H) where
  abbrev ReadFrom : Option (List ℕ) → A → List Item → Type 0
  ReadFrom last state items = AreReadBack means (ordinary last) state items

  -- whatever the last start tag was
  abbrev ReadsOn : List Item → Type 0
  ReadsOn more = (last : Option (List ℕ)) (state : A) → AreRepliedTo means state more → ReadFrom last state more

  opened_read : (last : Option (List ℕ)) (state : A) (name : List ℕ) (attributes : List Attribute) (more : List Item) →
      IsTagName name → AreAttributes attributes → first_of_each [] attributes ≡ attributes →
      is_one_of (codes "title" ∷ []) name ≡ false → ReadsOn more →
      AreRepliedTo means state (start_of name attributes ∷ more) →
      ReadFrom last state (start_of name attributes ∷ more)
  opened_read last state name attributes more n a f no_title further replied =
      let t = start_tag name attributes in
      let answered : means.reply state (tag t) ≡ Continue = replied.0
      ∙ ap (λ b. let r : TokenSinkResult H = if b then RawData Rcdata else Continue in r) no_title in (
        opens last name attributes n a f,
        subst (λ r. AreReadBack means (next_mode (ordinary last) t r) (means.step state (tag t)) more) (sym answered)
            (further (Some name) (means.step state (tag t)) replied.1),
      )

  closed_read : (last : Option (List ℕ)) (state : A) (name : List ℕ) (more : List Item) → IsTagName name →
      ReadsOn more → AreRepliedTo means state (end_of name ∷ more) → ReadFrom last state (end_of name ∷ more)
  closed_read last state name more n further replied = (
    closes last name n,
    subst (λ r. AreReadBack means (next_mode (ordinary last) (end_tag name) r)
        (means.step state (tag (end_tag name)))
        more) (sym replied.0) (further last (means.step state (tag (end_tag name))) replied.1),
  )

  ended_reads : (name : List ℕ) (more : List Item) (b : Bool) → IsTagName name → ReadsOn more →
      ReadsOn (if b then more else end_of name ∷ more)
  ended_reads name more true n further = further
  ended_reads name more false n further = λ last state replied. closed_read last state name more n further replied

  pub content_reads : (content : Content) (more : List Item) → AreReadable content → AreNamed content → ReadsOn more →
      ReadsOn (tokens_and content more)
  content_reads none more h k further = further
  content_reads (say c cs rest) more h k further = λ last state replied. (
    text (ordinary last) (c ∷ cs) tt h.0,
    content_reads rest more h.1 k further last (means.step state (characters (c ∷ cs))) replied.1,
  )
  content_reads (span name attributes kids rest) more h k further = λ last state replied.
      opened_read last state name attributes (tokens_and kids (ended name (tokens_and rest more))) k.0.written
      h.0.attributes h.0.once k.0.untitled
      (content_reads kids (ended name (tokens_and rest more)) h.1.0 k.1.0
      (ended_reads name (tokens_and rest more) (is_void name) k.0.written
      (content_reads rest more h.1.1 k.1.1 further)))
      replied

  -- names that are written as they are read
  title_name : IsTagName (codes "title")
  title_name = record { begins = refl; goes_on = refl; lower = refl }

  in_title : (state : A) (more : List Item) → ReadsOn more →
      AreRepliedTo means state (end_of (codes "title") ∷ more) →
      AreReadBack means (rcdata_of (codes "title")) state (end_of (codes "title") ∷ more)
  in_title state more further replied =
      let t = end_tag (codes "title") in (
        ends_text (codes "title") title_name refl,
        subst (λ r. AreReadBack means (next_mode (rcdata_of (codes "title")) t r) (means.step state (tag t)) more)
            (sym replied.0) (further (Some (codes "title")) (means.step state (tag t)) replied.1),
      )

  title_within : (title : List ℕ) (state : A) (more : List Item) → IsTitleWithout 0 (Some title) → ReadsOn more →
      AreRepliedTo means state (text_tokens title (end_of (codes "title") ∷ more)) →
      AreReadBack means (rcdata_of (codes "title")) state (text_tokens title (end_of (codes "title") ∷ more))
  title_within [] state more h further replied = in_title state more further replied
  title_within (c ∷ cs) state more h further replied = (
    text (rcdata_of (codes "title")) (c ∷ cs) tt h,
    in_title (means.step state (characters (c ∷ cs))) more further replied.1,
  )

  title_reads : (title : Option (List ℕ)) (more : List Item) → IsTitleWithout 0 title → ReadsOn more →
      ReadsOn (title_tokens title more)
  title_reads None more h further = further
  title_reads (Some title) more h further = λ last state replied.
      let t = start_tag (codes "title") [] in (
        opens last (codes "title") [] title_name tt refl,
        subst (λ r. AreReadBack means (next_mode (ordinary last) t r) (means.step state (tag t))
            (text_tokens title (end_of (codes "title") ∷ more))) (sym replied.0)
            (title_within title (means.step state (tag t)) more h further replied.1),
      )

  -- tags of the page itself
  page_opens : (name : List ℕ) (more : List Item) → IsTagName name → is_one_of (codes "title" ∷ []) name ≡ false →
      ReadsOn more → ReadsOn (start_of name [] ∷ more)
  page_opens name more n no_title further = λ last state replied.
      opened_read last state name [] more n tt refl no_title further replied

  page_closes : (name : List ℕ) (more : List Item) → IsTagName name → ReadsOn more → ReadsOn (end_of name ∷ more)
  page_closes name more n further = λ last state replied. closed_read last state name more n further replied

  nothing_reads : ReadsOn []
  nothing_reads last state replied = tt

  pub document_reads : (title : Option (List ℕ)) (content : Content) → IsTitleWithout 0 title → AreReadable content →
      AreNamed content → ReadsOn (document_items title content)
  document_reads title content h k named last state replied =
      let html : IsTagName (codes "html") = record { begins = refl; goes_on = refl; lower = refl } in
      let head : IsTagName (codes "head") = record { begins = refl; goes_on = refl; lower = refl } in
      let body : IsTagName (codes "body") = record { begins = refl; goes_on = refl; lower = refl } in
      let ends : List Item = end_of (codes "body") ∷ end_of (codes "html") ∷ [] in
      let within : List Item = tokens_and content ends in
      let trailing : List Item = end_of (codes "head") ∷ start_of (codes "body") [] ∷ within in
      let at_end : ReadsOn ends =
      page_closes (codes "body") (end_of (codes "html") ∷ []) body (page_closes (codes "html") [] html nothing_reads) in
      let at_body : ReadsOn trailing =
      page_closes (codes "head") (start_of (codes "body") [] ∷ within) head
      (page_opens (codes "body") within body refl (content_reads content ends k named at_end)) in
      let at_title : ReadsOn (title_tokens title trailing) = title_reads title trailing h at_body in
      let at_html : ReadsOn (start_of (codes "html") [] ∷ start_of (codes "head") [] ∷ title_tokens title trailing) =
      page_opens (codes "html") (start_of (codes "head") [] ∷ title_tokens title trailing) html refl
      (page_opens (codes "head") (title_tokens title trailing) head refl at_title) in
      (declares last, at_html last (means.step state html_doctype) replied.1)

fold_after : {A : Type 0} (f : A → Item → A) (s : A) (xs ys : List Item) → fold f s (xs ++ ys)
    ≡ fold f (fold f s xs) ys
fold_after f s [] ys = refl
fold_after f s (x ∷ xs) ys = fold_after f (f s x) xs ys

module _ {A H : Type 0} (means : Meaning A H) where
  replied_front : (state : A) (front back : List Item) → AreRepliedTo means state (front ++ back) →
      AreRepliedTo means state front
  replied_front state [] back h = tt
  replied_front state (item ∷ front) back h = (h.0, replied_front (means.step state item) front back h.1)

  pub read_whole : (table : References) (knows : KnowsEscapes table) {ready : A → Type 0}
      (lawful : IsLawful means ready)
      (last : Option (List ℕ)) (state : A) (title : Option (List ℕ)) (content : Content) → HoldsNoNul title content →
      IsBlocks false content → AreRepliedTo means state (document_tokens title content) →
      Reading table means (ordinary last) state (document_text title content)
      (fold means.step state (document_tokens title content))
  read_whole table knows lawful last state title content h blocks replied =
      let items : List Item = document_items title content in
      let ys : List Item = end_of_file ∷ [] in
      let final = means.step (fold means.step state items) end_of_file in
      let readable : AreReadable content = blocks_readable false content blocks h.1 in
      let replied_items : AreRepliedTo means state items = replied_front state items ys
      (subst (AreRepliedTo means state) (sym (items_are title content)) replied) in
      let are : AreReadBack means (ordinary last) state items =
      document_reads means title content h.0 readable (blocks_named false content blocks) last state replied_items in
      let whole : Reading table means (ordinary last) state (items_text items ++ []) final =
      items_read table knows means lawful (ordinary last) state items [] final are
      (ends (mode_after_all means (ordinary last) state items) (fold means.step state items) [] final refl refl) in
      subst (λ f. Reading table means (ordinary last) state (document_text title content) f)
      (sym (fold_after means.step state items ys) ∙ ap (fold means.step state) (items_are title content))
      (subst (λ t. Reading table means (ordinary last) state t final)
      (append-nil (items_text items) ∙ document_items_text title content readable) whole)
