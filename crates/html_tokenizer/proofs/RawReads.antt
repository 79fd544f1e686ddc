-- What a text that goes on does to a sink, from within the text of an element and from within a section.
use Rattle.std.proofs.Common.{◌≡◌, ◌==◌, ◌&&◌, [], ◌∷◌, ◌++◌, ◌∙◌, ◌⊎◌, if◌then◌else◌, Bool, IsTrue, List, ap}
use Rattle.std.proofs.Common.{append_assoc, arith, codes, false, inl, inr, map, not, refl, subst, sym, true, ℕ}
use Rattle.std.proofs.lemmas.Bool.Decides.{nat_tests}
use Rattle.std.proofs.lemmas.List.Sums.{fold-append}
use Rattle.std.proofs.lemmas.List.{map-append}
use Rattle.std.specs.List.{fold, list_all}
use Rattle.lex_base.specs.References.{References}
use Rattle.html_lexemes.specs.declared.states.RawKind.{RawKind}
use Rattle.html_lexemes.specs.declared.token.TagKind.TheVariants.{EndTag}
use Rattle.token_grammar.specs.Items.{Item, characters, null_character}
use Rattle.token_grammar.specs.Lexemes.{Lexeme, cdata_lexeme, in_kind, lexeme, nothing, ordinary_item, emitted, tagged}
use Rattle.token_grammar.specs.Meaning.{Meaning}
use Rattle.token_grammar.specs.Reading.{Reading, ends, goes, tags}
use Rattle.token_grammar.specs.Slices.{Cut, after, cut, cut_or_all}
use Rattle.token_grammar.specs.declared.modes.Mode.{Mode}
use Rattle.html_tokenizer.specs.Advances.{IsRawPlace}
use Rattle.token_states.specs.PlaceKinds.{IsNoMarkup, IsWithinMarkup}
use Rattle.token_states.specs.MarkupSound.{is_begun}
use Rattle.token_states.specs.RawTurns.{IsEndTag, IsShifted, IsText, IsTextBefore}
use Rattle.html_tokenizer.specs.Reads.{Follows, Leaves}
use Rattle.token_states.specs.SectionTurns.{SectionAdvances, section_lexeme, with_items}
use Rattle.token_states.specs.declared.section_turns.SectionTurn.{SectionTurn}
use Rattle.token_states.specs.declared.section_turns.SectionTurn.TheVariants.{Goes as SectionGoes, Ends as SectionEnds}
use Rattle.token_states.specs.declared.place.LexemeState.{LexemeState}
use Rattle.token_states.specs.declared.place.LexemeState.TheVariants.{BogusComment, CdataSection, CharacterReference}
use Rattle.token_states.specs.declared.place.LexemeState.TheVariants.{Comment, Doctype, EndTagOpen}
use Rattle.token_states.specs.declared.place.LexemeState.TheVariants.{MarkupDeclarationOpen, RawText, Tag as TagPlace}
use Rattle.token_states.specs.declared.place.LexemeState.TheVariants.{TagOpen, Text}
use Rattle.token_states.specs.declared.place.RawPlace.{RawPlace}
use Rattle.token_states.specs.declared.place.TagPlace.TheVariants.{TagName}
use Rattle.html_tokenizer.proofs.ReadsLemmas.{of_lexeme, reading_of}

-- what is a beginning of a mark without NUL has none
both_true : (a b : Bool) → IsTrue (a && b) → IsTrue a × IsTrue b
both_true true b h = (refl, h)
both_true false b h = absurd (let k : false ≡ true = h in cc)

both_of : (a b : Bool) → IsTrue a → IsTrue b → IsTrue (a && b)
both_of true b h k = k
both_of false b h k = h

same_number : (c m : ℕ) → (c == m) ≡ true → c ≡ m
same_number c m e = grind (arith, nat_tests)

pub begun_plain : (mark held : List ℕ) → IsTrue (is_begun mark held) → IsTrue (list_all (λ c. not (c == 0)) mark) →
    IsTrue (list_all (λ c. not (c == 0)) held)
begun_plain mark [] h k = refl
begun_plain [] (c ∷ cs) h k = absurd (let e : false ≡ true = h in cc)
begun_plain (m ∷ ms) (c ∷ cs) h k =
    let a = both_true (c == m) (is_begun ms cs) h in
    let b = both_true (not (m == 0)) (list_all (λ d. not (d == 0)) ms) k in
    both_of (not (c == 0)) (list_all (λ d. not (d == 0)) cs)
    (subst (λ x. IsTrue (not (x == 0))) (sym (same_number c m a.0)) b.0) (begun_plain ms cs a.1 b.1)

not_true : (b : Bool) → IsTrue (not b) → b ≡ false
not_true true h = absurd (let k : false ≡ true = h in cc)
not_true false h = refl

ordinary_plain : (c : ℕ) → IsTrue (not (c == 0)) → ordinary_item c ≡ characters (c ∷ [])
ordinary_plain c h = ap (λ b. if b then null_character else characters (c ∷ [])) (not_true (c == 0) h)

-- within markup, and in no markup, is within a section
pub in_section : (place : LexemeState) → IsWithinMarkup place → IsNoMarkup place → place ≡ CdataSection
in_section CdataSection h k = refl
in_section Text h k = absurd h
in_section (RawText kind at) h k = absurd h
in_section (CharacterReference p) h k = absurd k
in_section TagOpen h k = absurd k
in_section EndTagOpen h k = absurd k
in_section (TagPlace kind p) h k = absurd k
in_section MarkupDeclarationOpen h k = absurd k
in_section BogusComment h k = absurd k
in_section Comment h k = absurd k
in_section Doctype h k = absurd k

module _ {A H : Type 0} (table : References) (means : Meaning A H) where
  abbrev Reads : Mode → A → List ℕ → A → Type 0
  Reads mode state cs final = Reading table means mode state cs final

  abbrev Stays : Mode → LexemeState → List ℕ → A → A → Type 0
  Stays mode place cs state final = Leaves table means mode place cs state final

  abbrev Joins : Type 0
  Joins = (state : A) (cs ds : List ℕ) → means.step (means.step state (characters cs)) (characters ds)
      ≡ means.step state (characters (cs ++ ds))

  abbrev Skips : Type 0
  Skips = (state : A) → means.step state (characters []) ≡ state

  abbrev After : Mode → Lexeme → A → A → Type 0
  After mode l s final = Follows table means mode l s final

  follows_of : (mode : Mode) (cs : List ℕ) (s final : A) → Reads mode s cs final →
      After mode (lexeme table (means.foreign s) mode cs) s final
  follows_of mode cs s final (ends _ _ _ _ e p) = subst (λ l. After mode l s final) (sym e) p
  follows_of mode cs s final (goes _ _ _ items trailing rest _ e r) = subst (λ l. After mode l s final) (sym e) r
  follows_of mode cs s final (tags _ _ _ t rest _ e r) = subst (λ l. After mode l s final) (sym e) r

  in_other_kind : (mode : Mode) (kind : RawKind) (l : Lexeme) (s final : A) → After (in_kind mode kind) l s final →
      After mode l s final
  in_other_kind mode kind nothing s final p = p
  in_other_kind mode kind (emitted items trailing rest) s final p = p
  in_other_kind mode kind (tagged t rest) s final p = p

  -- from a place in an element's text to the reading of what is held
  raw_reading : (mode : Mode) (kind : RawKind) (place : LexemeState) (cs : List ℕ) (s final : A) → IsRawPlace kind place →
      Stays (in_kind mode kind) place cs s final → Reads (in_kind mode kind) s cs final
  raw_reading mode kind (RawText k at) cs s final h l =
      of_lexeme table means (in_kind mode kind) cs s final (lexeme table (means.foreign s) (in_kind mode kind) cs) refl
      (subst (λ x. After (in_kind mode kind) (lexeme table (means.foreign s) (in_kind mode x) cs) s final) h l)
  raw_reading mode kind Text cs s final h l = absurd h
  raw_reading mode kind (CharacterReference p) cs s final h l = absurd h
  raw_reading mode kind TagOpen cs s final h l = absurd h
  raw_reading mode kind EndTagOpen cs s final h l = absurd h
  raw_reading mode kind (TagPlace k p) cs s final h l = absurd h
  raw_reading mode kind MarkupDeclarationOpen cs s final h l = absurd h
  raw_reading mode kind BogusComment cs s final h l = absurd h
  raw_reading mode kind Comment cs s final h l = absurd h
  raw_reading mode kind Doctype cs s final h l = absurd h
  raw_reading mode kind CdataSection cs s final h l = absurd h

  -- and back
  raw_stays : (mode : Mode) (kind : RawKind) (at : RawPlace) (place : LexemeState) (cs : List ℕ) (s final : A) →
      place ≡ RawText kind at → Reads (in_kind mode kind) s cs final → Stays mode place cs s final
  raw_stays mode kind at place cs s final e r =
      subst (λ p. Stays mode p cs s final) (sym e)
      (in_other_kind mode kind (lexeme table (means.foreign s) (in_kind mode kind) cs) s final
      (follows_of (in_kind mode kind) cs s final r))

  pub text_emitted : (mode trailing : Mode) (text cs : List ℕ) (s final : A) → Joins → Skips →
      IsText table mode text trailing cs → Reads trailing (means.step s (characters text)) cs final →
      Reads mode s (text ++ cs) final
  text_emitted mode trailing [] cs s final j k t r =
      subst (λ m. Reads m s cs final) (sym t) (subst (λ x. Reads trailing x cs final) (k s) r)
  text_emitted mode trailing (c ∷ text) cs s final j k t r =
      goes mode s (c ∷ (text ++ cs)) (characters (c ∷ []) ∷ []) t.0 (text ++ cs) final (t.1 (means.foreign s))
      (text_emitted t.0 trailing text cs (means.step s (characters (c ∷ []))) final j k t.2
      (subst (λ x. Reads trailing x cs final) (sym (j s (c ∷ []) text)) r))

  raw_lexeme_of : (mode : Mode) (kind : RawKind) (place : LexemeState) (cs : List ℕ) (s final : A) → IsRawPlace kind place →
      Stays mode place cs s final → After mode (lexeme table (means.foreign s) (in_kind mode kind) cs) s final
  raw_lexeme_of mode kind (RawText k at) cs s final h l =
      subst (λ x. After mode (lexeme table (means.foreign s) (in_kind mode x) cs) s final) h l
  raw_lexeme_of mode kind Text cs s final h l = absurd h
  raw_lexeme_of mode kind (CharacterReference p) cs s final h l = absurd h
  raw_lexeme_of mode kind TagOpen cs s final h l = absurd h
  raw_lexeme_of mode kind EndTagOpen cs s final h l = absurd h
  raw_lexeme_of mode kind (TagPlace k p) cs s final h l = absurd h
  raw_lexeme_of mode kind MarkupDeclarationOpen cs s final h l = absurd h
  raw_lexeme_of mode kind BogusComment cs s final h l = absurd h
  raw_lexeme_of mode kind Comment cs s final h l = absurd h
  raw_lexeme_of mode kind Doctype cs s final h l = absurd h
  raw_lexeme_of mode kind CdataSection cs s final h l = absurd h

  pub raw_goes : (mode : Mode) (kind : RawKind) (at : RawPlace) (place next : LexemeState) (held now : List ℕ) (c : ℕ)
      (rest : List ℕ) (s final : A) → place ≡ RawText kind at → IsRawPlace kind next → now ≡ held ++ c ∷ [] →
      Stays mode next (now ++ rest) s final → Stays mode place (held ++ c ∷ rest) s final
  raw_goes mode kind at place next held now c rest s final e h n l =
      let same : now ++ rest ≡ held ++ c ∷ rest = ap (λ x. x ++ rest) n ∙ append_assoc held (c ∷ []) rest in
      subst (λ p. Stays mode p (held ++ c ∷ rest) s final) (sym e)
      (subst (λ x. After mode (lexeme table (means.foreign s) (in_kind mode kind) x) s final) same
      (raw_lexeme_of mode kind next (now ++ rest) s final h l))

  pub raw_before : (mode : Mode) (kind trailing : RawKind) (at : RawPlace) (place now : LexemeState)
      (held after text run pushed : List ℕ) (c : ℕ) (rest : List ℕ) (s final : A) → Joins → Skips →
      place ≡ RawText kind at → now ≡ Text → after ≡ [] → text ≡ held → pushed ≡ run ++ text →
      IsTextBefore table mode kind held trailing c →
      Stays (in_kind mode trailing) now (after ++ c ∷ rest) (means.step s (characters pushed)) final →
      Stays mode place (held ++ c ∷ rest) (means.step s (characters run)) final
  raw_before mode kind trailing at place now held after text run pushed c rest s final j k e n a t p b l =
      let reads =
      reading_of table means (in_kind mode trailing) now after (c ∷ rest)
      (means.step s (characters pushed)) final n a l in
      let same : means.step s (characters pushed) ≡ means.step (means.step s (characters run)) (characters held) =
      ap (λ x. means.step s (characters x)) (p ∙ ap (λ x. run ++ x) t) ∙ sym (j s run held) in
      raw_stays mode kind at place (held ++ c ∷ rest) (means.step s (characters run)) final e
      (text_emitted (in_kind mode kind) (in_kind mode trailing) held (c ∷ rest) (means.step s (characters run)) final j k
      (b rest) (subst (λ x. Reads (in_kind mode trailing) x (c ∷ rest) final) same reads))

  pub raw_shifts : (mode : Mode) (kind trailing : RawKind) (at : RawPlace) (place next : LexemeState)
      (held now text run pushed : List ℕ) (c : ℕ) (rest : List ℕ) (s final : A) → Joins → Skips →
      place ≡ RawText kind at → IsRawPlace trailing next → pushed ≡ run ++ text →
      IsShifted table mode kind (held ++ c ∷ []) text trailing now →
      Stays (in_kind mode trailing) next (now ++ rest) (means.step s (characters pushed)) final →
      Stays mode place (held ++ c ∷ rest) (means.step s (characters run)) final
  raw_shifts mode kind trailing at place next held now text run pushed c rest s final j k e h p b l =
      let reads = raw_reading mode trailing next (now ++ rest) (means.step s (characters pushed)) final h l in
      let same : means.step s (characters pushed) ≡ means.step (means.step s (characters run)) (characters text) =
      ap (λ x. means.step s (characters x)) p ∙ sym (j s run text) in
      let parts : text ++ (now ++ rest) ≡ held ++ c ∷ rest =
      sym (append_assoc text now rest) ∙ (ap (λ x. x ++ rest) (sym b.parts) ∙ append_assoc held (c ∷ []) rest)
      in
      raw_stays mode kind at place (held ++ c ∷ rest) (means.step s (characters run)) final e
      (subst (λ x. Reads (in_kind mode kind) (means.step s (characters run)) x final) parts
      (text_emitted (in_kind mode kind) (in_kind mode trailing) text (now ++ rest) (means.step s (characters run)) final j k
      (b.is_text rest) (subst (λ x. Reads (in_kind mode trailing) x (now ++ rest) final) same reads)))

  pub raw_end_tag : (mode : Mode) (kind : RawKind) (at : RawPlace) (place next : LexemeState) (held now : List ℕ) (c : ℕ)
      (rest : List ℕ) (s final : A) → place ≡ RawText kind at → next ≡ TagPlace EndTag TagName →
      IsEndTag table (means.foreign s) mode kind held c now →
      Stays mode next (now ++ c ∷ rest) s final → Stays mode place (held ++ c ∷ rest) s final
  raw_end_tag mode kind at place next held now c rest s final e n t l =
      subst (λ p. Stays mode p (held ++ c ∷ rest) s final) (sym e)
      (subst (λ x. After mode x s final) (sym (t.is_tag rest))
      (subst (λ p. Stays mode p (now ++ c ∷ rest) s final) n l))

  -- text of a section
  pub plain_items : (text : List ℕ) (s : A) → Joins → Skips → IsTrue (list_all (λ c. not (c == 0)) text) →
      means.step s (characters text) ≡ fold means.step s (map ordinary_item text)
  plain_items [] s j k h = k s
  plain_items (c ∷ text) s j k h =
      let a = both_true (not (c == 0)) (list_all (λ d. not (d == 0)) text) h in
      sym (j s (c ∷ []) text) ∙ (plain_items text (means.step s (characters (c ∷ []))) j k a.1 ∙
      ap (λ i. fold means.step (means.step s i) (map ordinary_item text)) (sym (ordinary_plain c a.0)))

  pub section_items : (mode : Mode) (items : List Item) (cut : Cut) (s emitted_to final : A) →
      emitted_to ≡ fold means.step s items → After mode (cdata_lexeme mode cut) emitted_to final →
      After mode (with_items items (cdata_lexeme mode cut)) s final
  section_items mode items cut s emitted_to final e l =
      subst (λ x. Reads mode x cut.rest final) (sym (fold-append means.step s items (map ordinary_item cut.slice)))
      (subst (λ x. Reads mode (fold means.step x (map ordinary_item cut.slice)) cut.rest final) e l)

  -- held text of a section, and a character
  items_after : (held : List ℕ) (c : ℕ) (s : A) → fold means.step s (map ordinary_item (held ++ c ∷ []))
      ≡ means.step (fold means.step s (map ordinary_item held)) (ordinary_item c)
  items_after held c s =
      ap (fold means.step s) (map-append ordinary_item held (c ∷ [])) ∙ fold-append means.step s
      (map ordinary_item held) (ordinary_item c ∷ [])

  pub section_null : (held run pushed left : List ℕ) (c : ℕ) (s emitted_to : A) → Joins → Skips →
      IsTrue (list_all (λ d. not (d == 0)) held) → pushed ≡ run ++ held → c ≡ 0 →
      emitted_to ≡ means.step (means.step s (characters pushed)) null_character → left ≡ [] →
      means.step emitted_to (characters left) ≡ fold means.step (means.step s (characters run))
      (map ordinary_item (held ++ c ∷ []))
  section_null held run pushed left c s emitted_to j k h p z t n =
      let s1 = means.step s (characters run) in
      let whole : means.step s (characters pushed) ≡ fold means.step s1 (map ordinary_item held) =
      ap (λ x. means.step s (characters x)) p ∙ (sym (j s run held) ∙ plain_items held s1 j k h) in
      ap (λ x. means.step emitted_to (characters x)) n
      ∙ (k emitted_to
      ∙ (t ∙ (ap (λ x. means.step x null_character) whole
      ∙ (ap (λ x. means.step (fold means.step s1 (map ordinary_item held)) (ordinary_item x)) (sym z) ∙
      sym (items_after held c s1)))))

  pub section_character : (held run pushed : List ℕ) (c : ℕ) (s now : A) → Joins → Skips →
      IsTrue (list_all (λ d. not (d == 0)) held) → pushed ≡ run ++ held →
      now ≡ means.step (means.step s (characters pushed)) (characters (c ∷ [])) → IsTrue (not (c == 0)) →
      now ≡ fold means.step (means.step s (characters run)) (map ordinary_item (held ++ c ∷ []))
  section_character held run pushed c s now j k h p n z =
      let s1 = means.step s (characters run) in
      let whole : means.step s (characters pushed) ≡ fold means.step s1 (map ordinary_item held) =
      ap (λ x. means.step s (characters x)) p ∙ (sym (j s run held) ∙ plain_items held s1 j k h) in
      n ∙ (ap (λ x. means.step x (characters (c ∷ []))) whole
      ∙ (ap (λ x. means.step (fold means.step s1 (map ordinary_item held)) x) (sym (ordinary_plain c z)) ∙
      sym (items_after held c s1)))

  pub section_goes : (mode : Mode) (place next : LexemeState) (held now : List ℕ) (c : ℕ) (rest : List ℕ) (s final : A) →
      place ≡ CdataSection → next ≡ CdataSection → now ≡ held ++ c ∷ [] → Stays mode next (now ++ rest) s final →
      Stays mode place (held ++ c ∷ rest) s final
  section_goes mode place next held now c rest s final e n h l =
      subst (λ p. Stays mode p (held ++ c ∷ rest) s final) (sym e)
      (subst (λ x. Stays mode CdataSection x s final) (ap (λ x. x ++ rest) h ∙ append_assoc held (c ∷ []) rest)
      (subst (λ p. Stays mode p (now ++ rest) s final) n l))

  pub section_ends : (mode : Mode) (place next : LexemeState) (held now : List ℕ) (c : ℕ) (rest : List ℕ) (s final : A) →
      place ≡ CdataSection → next ≡ Text → now ≡ [] → section_lexeme mode (held ++ c ∷ rest) ≡ emitted [] mode rest →
      Stays mode next (now ++ rest) s final → Stays mode place (held ++ c ∷ rest) s final
  section_ends mode place next held now c rest s final e n h k l =
      subst (λ p. Stays mode p (held ++ c ∷ rest) s final) (sym e)
      (subst (λ x. After mode x s final) (sym k) (reading_of table means mode next now rest s final n h l))

  pub section_on : (mode : Mode) (place next : LexemeState) (held now : List ℕ) (c : ℕ) (rest : List ℕ) (s final : A)
      (turn : SectionTurn) → ((turn ≡ SectionGoes) ⊎ (turn ≡ SectionEnds)) → place ≡ CdataSection →
      SectionAdvances mode held c turn next now → Stays mode next (now ++ rest) s final →
      Stays mode place (held ++ c ∷ rest) s final
  section_on mode place next held now c rest s final turn (inl t) e a l = let b = subst (λ x. SectionAdvances mode held c x next now) t a in section_goes mode place next held now c rest s final e b.0 b.1 l
  section_on mode place next held now c rest s final turn (inr t) e a l = let b = subst (λ x. SectionAdvances mode held c x next now) t a in section_ends mode place next held now c rest s final e b.0 b.1.0 (b.1.1 rest) l

  pub section_more : (mode : Mode) (place next : LexemeState) (held now trailing : List ℕ) (c : ℕ) (rest : List ℕ)
      (items : List Item) (s emitted_to final : A) → place ≡ CdataSection → next ≡ CdataSection → now ≡ trailing →
      section_lexeme mode (held ++ c ∷ rest) ≡ with_items items (section_lexeme mode (trailing ++ rest)) →
      emitted_to ≡ fold means.step s items →
      Stays mode next (now ++ rest) emitted_to final → Stays mode place (held ++ c ∷ rest) s final
  section_more mode place next held now trailing c rest items s emitted_to final e n h k t l =
      let m = subst (λ x. After mode (section_lexeme mode (x ++ rest)) emitted_to final) h
      (subst (λ p. Stays mode p (now ++ rest) emitted_to final) n l) in
      subst (λ p. Stays mode p (held ++ c ∷ rest) s final) (sym e)
      (subst (λ x. After mode x s final) (sym k)
      (section_items mode items (cut_or_all (cut (after (codes "]]>")) (trailing ++ rest)) (trailing ++ rest)) s emitted_to
      final t m))
