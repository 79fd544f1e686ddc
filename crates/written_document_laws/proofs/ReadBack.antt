-- What is written of items is read back as those items.
use Rattle.std.proofs.Common.{◌≡◌, ◌&&◌, [], ◌∷◌, ◌++◌, if◌then◌else◌, ◌∙◌, Bool, List, Option, Some, ap, append_assoc}
use Rattle.std.proofs.Common.{false, fold, refl, subst, sym, true, ℕ}
use Rattle.std.specs.List.{list_all}
use Rattle.document_laws.proofs.ReadTexts.{emitted_text}
use Rattle.document_laws.specs.Escaped.{KnowsEscapes}
use Rattle.token_grammar.specs.Characters.{is_letter, name_of}
use Rattle.token_grammar.specs.Items.{Item}
use Rattle.token_grammar.specs.Lexemes.{after_slash, emitted, ends_raw_text, is_last, lexeme, markup, named_end_tag}
use Rattle.token_grammar.specs.Lexemes.{one_character, tag_lexeme, tagged}
use Rattle.std.specs.Str.{bytes_eq}
use Rattle.token_grammar.specs.Meaning.{Meaning}
use Rattle.token_grammar.specs.Reading.{IsLawful, Reading, goes, tags}
use Rattle.token_grammar.specs.Slices.{first_passes, rest_while}
use Rattle.token_grammar.specs.Tags.{first_of_each, tag_at}
use Rattle.token_grammar.specs.declared.modes.Mode.{Mode}
use Rattle.lex_base.specs.References.{References}
use Rattle.html_lexemes.specs.declared.names.Attribute.{Attribute}
use Rattle.html_lexemes.specs.declared.token.TagKind.TheVariants.{EndTag, StartTag}
use Rattle.tree_serializer.specs.Escapes.{attributes_text, end_text, start_text}
use Rattle.document_laws.specs.Planted.{of_html}
use Rattle.document_laws.specs.Rebuilt.{html_doctype}
use Rattle.written_document_laws.proofs.WrittenTags.{end_tag, letters_front, letters_rest, same_text, some_letters}
use Rattle.written_document_laws.proofs.WrittenTags.{start_tag, tag_is_read}
use Rattle.written_document_laws.specs.Written.{AreAttributes, AreReadBack, IsReadBack, IsTagName, closes, declares}
use Rattle.written_document_laws.specs.Written.{ends_text, item_text, items_text, mode_after, mode_after_all, opens}
use Rattle.written_document_laws.specs.Written.{ordinary, rcdata_of, text}

begins_after : (name more : List ℕ) → first_passes is_letter name ≡ true → first_passes is_letter (name ++ more) ≡ true
begins_after [] more e = absurd (let wrong : false ≡ true = e in cc)
begins_after (c ∷ name) more e = e

module _ (table : References) (knows : KnowsEscapes table) (foreign : Bool) where
  -- after `<` a letter opens a tag, and so it does after `</`
  a_tag : (mode : Mode) (cs : List ℕ) → first_passes is_letter cs ≡ true →
      markup table foreign mode cs ≡ tag_lexeme (tag_at table StartTag cs)
  a_tag mode [] e = absurd (let wrong : false ≡ true = e in cc)
  a_tag mode (c ∷ cs) e = rw e refl

  an_end_tag : (mode : Mode) (cs : List ℕ) → first_passes is_letter cs ≡ true →
      after_slash table mode cs ≡ tag_lexeme (tag_at table EndTag cs)
  an_end_tag mode [] e = absurd (let wrong : false ≡ true = e in cc)
  an_end_tag mode (c ∷ cs) e = rw e refl

  start_apart : (name : List ℕ) (attributes : List Attribute) (rest : List ℕ) →
      start_text (of_html name) attributes ++ rest ≡ 60 ∷ (name ++ (attributes_text attributes ++ 62 ∷ rest))
  start_apart name attributes rest = ap (λ l. 60 ∷ l)
      (append_assoc (name ++ attributes_text attributes) (62 ∷ []) rest
      ∙ append_assoc name (attributes_text attributes) (62 ∷ rest))

  end_apart : (name rest : List ℕ) → end_text (of_html name) ++ rest ≡ 60 ∷ 47 ∷ (name ++ 62 ∷ rest)
  end_apart name rest = ap (λ l. 60 ∷ 47 ∷ l) (append_assoc name (62 ∷ []) rest)

  start_lexeme : (last : Option (List ℕ)) (name : List ℕ) (attributes : List Attribute) (rest : List ℕ) →
      IsTagName name → AreAttributes attributes → first_of_each [] attributes ≡ attributes →
      lexeme table foreign (ordinary last) (start_text (of_html name) attributes ++ rest)
      ≡ tagged (start_tag name attributes) rest
  start_lexeme last name attributes rest n h f =
      let trailing : List ℕ = attributes_text attributes ++ 62 ∷ rest in
      ap (lexeme table foreign (ordinary last)) (start_apart name attributes rest)
      ∙ a_tag (ordinary last) (name ++ trailing) (begins_after name trailing n.begins)
      ∙ ap tag_lexeme (tag_is_read table knows StartTag name attributes rest n h f)

  end_lexeme : (last : Option (List ℕ)) (name rest : List ℕ) → IsTagName name →
      lexeme table foreign (ordinary last) (end_text (of_html name) ++ rest) ≡ tagged (end_tag name) rest
  end_lexeme last name rest n =
      ap (lexeme table foreign (ordinary last)) (end_apart name rest)
      ∙ an_end_tag (ordinary last) (name ++ 62 ∷ rest) (begins_after name (62 ∷ rest) n.begins)
      ∙ ap tag_lexeme (tag_is_read table knows EndTag name [] rest n tt refl)

  is_named : (name rest : List ℕ) → IsTagName name → list_all is_letter name ≡ true →
      ends_raw_text (Some name) (47 ∷ (name ++ 62 ∷ rest)) ≡ true
  is_named name rest n l =
      let all : List ℕ = name ++ 62 ∷ rest in
      ap (λ letters. named_end_tag (Some name) letters (rest_while is_letter all)) (letters_front name rest l)
      ∙ ap (named_end_tag (Some name) name) (letters_rest name rest l)
      ∙ ap (λ b. b && is_last (Some name) (name_of name) && true) (some_letters name n.begins)
      ∙ ap (λ m. bytes_eq name m && true) n.lower ∙ ap (λ b. b && true) (same_text name)

  text_end_lexeme : (name rest : List ℕ) → IsTagName name → list_all is_letter name ≡ true →
      lexeme table foreign (rcdata_of name) (end_text (of_html name) ++ rest) ≡ tagged (end_tag name) rest
  text_end_lexeme name rest n l =
      ap (lexeme table foreign (rcdata_of name)) (end_apart name rest)
      ∙ ap (λ b. if b then tag_lexeme (tag_at table EndTag (name ++ 62 ∷ rest))
      else one_character (rcdata_of name) 60 (47 ∷ (name ++ 62 ∷ rest))) (is_named name rest n l)
      ∙ ap tag_lexeme (tag_is_read table knows EndTag name [] rest n tt refl)

  doctype_lexeme : (last : Option (List ℕ)) (rest : List ℕ) →
      lexeme table foreign (ordinary last) (item_text html_doctype ++ rest)
      ≡ emitted (html_doctype ∷ []) (ordinary last) rest
  doctype_lexeme last rest = refl

module _ {A H : Type 0} (table : References) (knows : KnowsEscapes table) (means : Meaning A H) {ready : A → Type 0}
    (lawful : IsLawful means ready) where
  -- one item
  item_read : (mode : Mode) (state : A) (item : Item) (rest : List ℕ) (final : A) → IsReadBack mode item →
      Reading table means (mode_after means mode state item) (means.step state item) rest final →
      Reading table means mode state (item_text item ++ rest) final
  item_read mode state _ rest final (text _ cs reads no_nul) r =
      emitted_text table knows means lawful mode reads rest final state cs no_nul r
  item_read _ state _ rest final (opens last name attributes n h f) r =
      tags (ordinary last) state (start_text (of_html name) attributes ++ rest) (start_tag name attributes) rest final
      (start_lexeme table knows (means.foreign state) last name attributes rest n h f) r
  item_read _ state _ rest final (closes last name n) r =
      tags (ordinary last) state (end_text (of_html name) ++ rest) (end_tag name) rest final
      (end_lexeme table knows (means.foreign state) last name rest n) r
  item_read _ state _ rest final (ends_text name n l) r =
      tags (rcdata_of name) state (end_text (of_html name) ++ rest) (end_tag name) rest final
      (text_end_lexeme table knows (means.foreign state) name rest n l) r
  item_read _ state _ rest final (declares last) r =
      goes (ordinary last) state (item_text html_doctype ++ rest) (html_doctype ∷ []) (ordinary last) rest final
      (doctype_lexeme table knows (means.foreign state) last rest) r

  pub items_read : (mode : Mode) (state : A) (items : List Item) (rest : List ℕ) (final : A) →
      AreReadBack means mode state items →
      Reading table means (mode_after_all means mode state items) (fold means.step state items) rest final →
      Reading table means mode state (items_text items ++ rest) final
  items_read mode state [] rest final h r = r
  items_read mode state (item ∷ items) rest final h r =
      subst (λ t. Reading table means mode state t final) (sym (append_assoc (item_text item) (items_text items) rest))
      (item_read mode state item (items_text items ++ rest) final h.0
      (items_read (mode_after means mode state item) (means.step state item) items rest final h.1 r))
