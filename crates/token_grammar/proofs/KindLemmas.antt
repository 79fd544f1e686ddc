-- What is read in a kind of text is of it.
use Rattle.std.proofs.Common.{◌≡◌, ◌==◌, ◌&&◌, [], ◌∷◌, ◌++◌, Bool, List, None, Option, Some, codes, cond, drop, false}
use Rattle.std.proofs.Common.{map, not, option_map, subst, true, ℕ}
use Rattle.lex_base.specs.References.{References}
use Rattle.html_lexemes.specs.declared.states.RawKind.{RawKind}
use Rattle.html_lexemes.specs.declared.token.TagKind.{TagKind}
use Rattle.html_lexemes.specs.declared.token.TagKind.TheVariants.{StartTag, EndTag}
use Rattle.token_grammar.specs.Characters.{is_letter, shown}
use Rattle.token_grammar.specs.Comments.{bogus_comment_slice, comment_slice}
use Rattle.token_grammar.specs.Doctypes.{doctype_at}
use Rattle.token_grammar.specs.Items.{Item, characters, comment, doctype, end_of_file, error, null_character, tag}
use Rattle.token_grammar.specs.Kinds.{AreWelcome, AreWithin, HasMarkup, IsHearing, IsOf, IsOfTag, IsReadyFor, IsWithin}
use Rattle.token_grammar.specs.Kinds.{LexemeOf}
use Rattle.token_grammar.specs.Lexemes.{Lexeme, after_slash, cdata_lexeme, comment_lexeme, declaration, doctype_lexeme}
use Rattle.token_grammar.specs.Lexemes.{emitted, ends_raw_text, error_unless, has_end_tags, has_references, in_kind}
use Rattle.token_grammar.specs.Lexemes.{kind_after, lexeme, lexeme_in, markup, one_character, ordinary_item}
use Rattle.token_grammar.specs.Lexemes.{ordinary_lexeme, raw_lexeme, reference_lexeme, tag_lexeme}
use Rattle.token_grammar.specs.Meaning.{Meaning}
use Rattle.token_grammar.specs.References.{Found, reference}
use Rattle.token_grammar.specs.Slices.{after, begins, begins_word, cut, cut_or_all, front_while, rest_while}
use Rattle.token_grammar.specs.Tags.{TagEnd, ends_tag_name, tag_at, tag_end, tag_of}
use Rattle.token_grammar.specs.declared.modes.Mode.{Mode}
use Rattle.token_grammar.specs.declared.modes.TextKind.{TextKind}
use Rattle.token_grammar.specs.declared.modes.TextKind.TheVariants.{Ordinary, Plain, Raw}

module _ (kind : TextKind) where
  both : (b : Bool) (x y : Lexeme) → LexemeOf kind x → LexemeOf kind y → LexemeOf kind (cond b x y)
  both true x y p q = p
  both false x y p q = q

  -- ---- tags

  tag_from_end : (t : TagKind) (name : List ℕ) (end : Option TagEnd) → IsOfTag kind t →
      LexemeOf kind (tag_lexeme (option_map (λ e. (tag_of t name e, e.rest)) end))
  tag_from_end t name None p = tt
  tag_from_end t name (Some e) p = p

  pub in_tag : (table : References) (t : TagKind) (cs : List ℕ) → IsOfTag kind t →
      LexemeOf kind (tag_lexeme (tag_at table t cs))
  in_tag table t cs p =
      tag_from_end t (front_while (λ c. not (ends_tag_name c)) cs)
      (tag_end table (rest_while (λ c. not (ends_tag_name c)) cs)) p

  -- ---- the forms of lexemes

  characters_within : (cs : List ℕ) → AreWithin kind (characters cs ∷ [])
  characters_within cs = ((tt, tt), tt)

  error_within : (closed : Bool) (cs : List ℕ) → AreWithin kind (error_unless closed ++ characters cs ∷ [])
  error_within true cs = characters_within cs
  error_within false cs = ((tt, tt), characters_within cs)

  module _ (mode : Mode) (stays : HasMarkup mode.text → HasMarkup kind) where
    pub in_reference : (cs : List ℕ) (found : Option Found) → LexemeOf kind (reference_lexeme mode cs found)
    in_reference cs None = (characters_within (38 ∷ []), stays)
    in_reference cs (Some found) = (error_within found.closed found.characters, stays)

    in_characters : (cs rest : List ℕ) → LexemeOf kind (emitted (characters cs ∷ []) mode rest)
    in_characters cs rest = (characters_within cs, stays)

    -- ---- markup

    module _ (marked : HasMarkup kind) where
      item_if : (b : Bool) (x y : Item) → IsWithin x × IsOf kind x → IsWithin y × IsOf kind y →
          IsWithin (cond b x y) × IsOf kind (cond b x y)
      item_if true x y p q = p
      item_if false x y p q = q

      item_within : (c : ℕ) → IsWithin (ordinary_item c) × IsOf kind (ordinary_item c)
      item_within c = item_if (c == 0) null_character (characters (c ∷ [])) (tt, marked) (tt, tt)

      items_within : (cs : List ℕ) → AreWithin kind (map ordinary_item cs)
      items_within [] = tt
      items_within (c ∷ cs) = (item_within c, items_within cs)

      any_tag : (t : TagKind) → IsOfTag kind t
      any_tag StartTag = marked
      any_tag EndTag = tt

      pub any_section : (cs rest : List ℕ) → LexemeOf kind (emitted (map ordinary_item cs) mode rest)
      any_section cs rest = (items_within cs, stays)

      pub in_end_tag : (table : References) (cs : List ℕ) → LexemeOf kind (after_slash table mode cs)
      in_end_tag table [] = in_characters (60 ∷ []) (codes "/")
      in_end_tag table (c ∷ cs) =
          both (is_letter c) (tag_lexeme (tag_at table EndTag (c ∷ cs)))
          (cond (c == 62) (emitted (error ∷ []) mode cs) (comment_lexeme mode (bogus_comment_slice (c ∷ cs))))
          (in_tag table EndTag (c ∷ cs) tt)
          (both (c == 62) (emitted (error ∷ []) mode cs) (comment_lexeme mode (bogus_comment_slice (c ∷ cs)))
          (((tt, tt), tt), stays) (((tt, marked), tt), stays))

      pub in_declaration : (foreign : Bool) (cs : List ℕ) → LexemeOf kind (declaration foreign mode cs)
      in_declaration foreign cs =
          let section : Lexeme = cdata_lexeme mode (cut_or_all (cut (after (codes "]]>")) (drop 7 cs)) (drop 7 cs)) in
          let bogus : Lexeme = comment_lexeme mode (bogus_comment_slice cs) in
          let other : Lexeme = cond (foreign && begins (codes "[CDATA[") cs) section bogus in
          both (begins (codes "--") cs) (comment_lexeme mode (comment_slice (drop 2 cs)))
          (cond (begins_word (codes "doctype") cs) (doctype_lexeme mode (doctype_at (drop 7 cs))) other)
          (((tt, marked), tt), stays)
          (both (begins_word (codes "doctype") cs) (doctype_lexeme mode (doctype_at (drop 7 cs))) other
          (((tt, marked), tt), stays)
          (both (foreign && begins (codes "[CDATA[") cs) section bogus
          (any_section (cut_or_all (cut (after (codes "]]>")) (drop 7 cs)) (drop 7 cs)).slice
          (cut_or_all (cut (after (codes "]]>")) (drop 7 cs)) (drop 7 cs)).rest) (((tt, marked), tt), stays)))

      pub in_markup : (table : References) (foreign : Bool) (cs : List ℕ) → LexemeOf kind (markup table foreign mode cs)
      in_markup table foreign [] = in_characters (60 ∷ []) []
      in_markup table foreign (c ∷ cs) =
          let bogus : Lexeme = comment_lexeme mode (bogus_comment_slice (c ∷ cs)) in
          let text : Lexeme = one_character mode 60 (c ∷ cs) in
          both (is_letter c) (tag_lexeme (tag_at table StartTag (c ∷ cs)))
          (cond (c == 47) (after_slash table mode cs)
          (cond (c == 33) (declaration foreign mode cs) (cond (c == 63) bogus text)))
          (in_tag table StartTag (c ∷ cs) marked)
          (both (c == 47) (after_slash table mode cs)
          (cond (c == 33) (declaration foreign mode cs) (cond (c == 63) bogus text)) (in_end_tag table cs)
          (both (c == 33) (declaration foreign mode cs) (cond (c == 63) bogus text) (in_declaration foreign cs)
          (both (c == 63) bogus text (((tt, marked), tt), stays) (in_characters (60 ∷ []) (c ∷ cs)))))

      pub in_ordinary : (table : References) (foreign : Bool) (c : ℕ) (cs : List ℕ) →
          LexemeOf kind (ordinary_lexeme table foreign mode c cs)
      in_ordinary table foreign c cs =
          let text : Lexeme = emitted (ordinary_item c ∷ []) mode cs in
          both (c == 60) (markup table foreign mode cs)
          (cond (c == 38) (reference_lexeme mode cs (reference table cs)) text) (in_markup table foreign cs)
          (both (c == 38) (reference_lexeme mode cs (reference table cs)) text (in_reference cs (reference table cs))
          ((item_within c, tt), stays))

    -- ---- text

    in_raw : (table : References) (raw : RawKind) (c : ℕ) (cs : List ℕ) → LexemeOf kind (raw_lexeme table raw mode c cs)
    in_raw table raw c cs =
        let text : Lexeme = one_character (in_kind mode (kind_after raw (c ∷ cs))) (shown c) cs in
        both (c == 60 && has_end_tags raw && ends_raw_text mode.last_start_tag cs)
        (tag_lexeme (tag_at table EndTag (drop 1 cs)))
        (cond (c == 38 && has_references raw) (reference_lexeme mode cs (reference table cs)) text)
        (in_tag table EndTag (drop 1 cs) tt)
        (both (c == 38 && has_references raw) (reference_lexeme mode cs (reference table cs)) text
        (in_reference cs (reference table cs)) (characters_within (shown c ∷ []), λ h. absurd h))

    in_kind_of_text : (table : References) (foreign : Bool) (of : TextKind) (c : ℕ) (cs : List ℕ) →
        (HasMarkup of → HasMarkup kind) → LexemeOf kind (lexeme_in table foreign of mode c cs)
    in_kind_of_text table foreign Ordinary c cs h = in_ordinary (h tt) table foreign c cs
    in_kind_of_text table foreign Plain c cs h = in_characters (shown c ∷ []) cs
    in_kind_of_text table foreign (Raw raw) c cs h = in_raw table raw c cs

-- A text whose markup is of a kind is of it.
pub in_text : (kind : TextKind) (table : References) (foreign : Bool) (mode : Mode) (cs : List ℕ) →
    (HasMarkup mode.text → HasMarkup kind) → LexemeOf kind (lexeme table foreign mode cs)
in_text kind table foreign mode [] h = tt
in_text kind table foreign mode (c ∷ cs) h = in_kind_of_text kind mode h table foreign mode.text c cs h

-- ---- sinks

module _ {A H : Type 0} (means : Meaning A H) (welcomes : A → Item → Type 0) (hearing : IsHearing means welcomes) where
  -- items that are welcome are so after an item that is
  pub welcome_on : (state : A) (item : Item) (items : List Item) → IsWithin item → welcomes state item →
      AreWelcome welcomes state items → AreWelcome welcomes (means.step state item) items
  welcome_on state item [] i w h = tt
  welcome_on state item (later ∷ items) i w h =
      ((h.0.0, hearing.goes_on state item later i w h.0.1), welcome_on state item items i w h.1)

-- items of a kind are welcome to a sink that is ready for it
pub within_welcome : {A : Type 0} (ready : A → Type 0) (welcomes : A → Item → Type 0) (kind : TextKind) (state : A)
    (items : List Item) →
    IsReadyFor ready welcomes kind state → AreWithin kind items → AreWelcome welcomes state items
within_welcome ready welcomes kind state [] r h = tt
within_welcome ready welcomes kind state (item ∷ items) r h =
    ((h.0.0, r.hears item h.0.1), within_welcome ready welcomes kind state items r h.1)

of_tag : (kind now : TextKind) (t : TagKind) → (HasMarkup now → HasMarkup kind) → IsOfTag now t → IsOfTag kind t
of_tag kind now StartTag h i = h i
of_tag kind now EndTag h i = tt

-- a sink that is ready for a kind is so for plain text, and for a kind whose markup is of it
pub of_kind : (kind now : TextKind) (item : Item) → (HasMarkup now → HasMarkup kind) → IsOf now item → IsOf kind item
of_kind kind now (characters cs) h i = tt
of_kind kind now error h i = tt
of_kind kind now end_of_file h i = tt
of_kind kind now (tag t) h i = of_tag kind now t.kind h i
of_kind kind now null_character h i = h i
of_kind kind now (comment cs) h i = h i
of_kind kind now (doctype d) h i = h i

pub ready_of : {A : Type 0} (ready : A → Type 0) (welcomes : A → Item → Type 0) (kind now : TextKind) (state : A) →
    (HasMarkup now → HasMarkup kind) →
    IsReadyFor ready welcomes kind state → IsReadyFor ready welcomes now state
ready_of ready welcomes kind now state h r =
    record { is_ready = r.is_ready; hears = λ item i. r.hears item (of_kind kind now item h i) }

-- A state that welcomes what another does is ready for what the other is.
pub ready_on : {A : Type 0} (ready : A → Type 0) (welcomes : A → Item → Type 0) (kind now : TextKind) (old new : A) →
    (HasMarkup now → HasMarkup kind) →
    IsReadyFor ready welcomes kind old → ready new → ((item : Item) → welcomes old item → welcomes new item) →
    IsReadyFor ready welcomes now new
ready_on ready welcomes kind now old new h r n w =
    record { is_ready = n; hears = λ item i. w item (r.hears item (of_kind kind now item h i)) }

-- what a lexeme that was read in a mode is
pub lexeme_is_of : (table : References) (foreign : Bool) (mode : Mode) (cs : List ℕ) (l : Lexeme) →
    lexeme table foreign mode cs ≡ l → LexemeOf mode.text l
lexeme_is_of table foreign mode cs l e = subst (LexemeOf mode.text) e (in_text mode.text table foreign mode cs (λ h. h))
