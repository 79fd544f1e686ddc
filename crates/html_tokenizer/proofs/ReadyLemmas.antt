-- A sink stays ready for the text that is read.
use Rattle.std.proofs.Common.{◌≡◌, ℕ, List, [], ◌∷◌, sym, subst}
use Rattle.html_lexemes.specs.declared.token.Tag.{Tag}
use Rattle.token_grammar.specs.Items.{Item, characters, comment, doctype, end_of_file, error, null_character, tag}
use Rattle.token_grammar.specs.Kinds.{AreWithin, HasMarkup, IsHearing, IsOf, IsReadyFor, IsWithin, LexemeOf}
use Rattle.token_grammar.specs.Lexemes.{Lexeme, emitted, tagged}
use Rattle.token_grammar.specs.Meaning.{Meaning}
use Rattle.token_grammar.specs.Reading.{IsAnswered, IsLawful}
use Rattle.token_grammar.specs.declared.modes.Mode.{Mode}
use Rattle.token_grammar.specs.declared.modes.TextKind.{TextKind}
use Rattle.token_states.specs.PlaceKinds.{IsPlaceOf}
use Rattle.token_states.specs.declared.place.LexemeState.{LexemeState}
use Rattle.token_states.specs.declared.place.LexemeState.TheVariants.{Text as NoLexeme}
use Rattle.html_tokenizer.specs.Emits.{AreUnanswered}

module _ {A H : Type 0} (means : Meaning A H) (ready : A → Type 0) (welcomes : A → Item → Type 0)
    (lawful : IsLawful means ready) (hearing : IsHearing means welcomes) where
  -- after an item that is of the text
  pub ready_after : (kind : TextKind) (old new : A) (item : Item) → IsReadyFor ready welcomes kind old →
      IsWithin item → IsOf kind item → new ≡ means.step old item → IsReadyFor ready welcomes kind new
  ready_after kind old new item r w o e = subst (IsReadyFor ready welcomes kind) (sym e)
      (record {
        is_ready = lawful.keeps old item r.is_ready;
        hears = λ later i. hearing.goes_on old item later w (r.hears item o) (r.hears later i);
      })

-- no text of a kind that is emitted is answered
unanswered : (item : Item) → IsWithin item → ¬ (IsAnswered item)
unanswered (characters cs) w h = h
unanswered error w h = h
unanswered null_character w h = h
unanswered (comment cs) w h = h
unanswered (doctype d) w h = h
unanswered (tag t) w h = w
unanswered end_of_file w h = w

pub are_unanswered : (kind : TextKind) (items : List Item) → AreWithin kind items → AreUnanswered items
are_unanswered kind [] h = tt
are_unanswered kind (item ∷ items) h = (unanswered item h.0.0, are_unanswered kind items h.1)

-- where no lexeme has begun, any text is at hand
pub placed_text : (kind : TextKind) (place : LexemeState) → place ≡ NoLexeme → IsPlaceOf kind place
placed_text kind place e = subst (IsPlaceOf kind) (sym e) tt

-- what a lexeme of a kind emits is of it
pub emitted_kind : (kind : TextKind) (l : Lexeme) (items : List Item) (trailing : Mode) (rest : List ℕ) → LexemeOf kind l →
    l ≡ emitted items trailing rest →
    AreWithin kind items × (HasMarkup trailing.text → HasMarkup kind)
emitted_kind kind l items trailing rest h e = subst (LexemeOf kind) e h

pub tagged_kind : (kind : TextKind) (l : Lexeme) (t : Tag) (rest : List ℕ) → LexemeOf kind l → l ≡ tagged t rest →
    IsOf kind (tag t)
tagged_kind kind l t rest h e = subst (LexemeOf kind) e h
