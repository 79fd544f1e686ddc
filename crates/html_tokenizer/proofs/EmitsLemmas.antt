-- What was emitted between two states of a sink.
use Rattle.std.proofs.Common.{◌≡◌, [], ◌∷◌, ◌∙◌, Err, IfOk, List, None, Ok, OnOk, Option, Result, Some, ap, false, refl}
use Rattle.std.proofs.Common.{subst, sym}
use Rattle.std.specs.List.{fold}
use Rattle.html_lexemes.specs.declared.token.Tag.{Tag}
use Rattle.html_lexemes.specs.declared.token.TokenSinkResult.{TokenSinkResult}
use Rattle.html_lexemes.specs.declared.token.TokenSinkResult.TheVariants.{Continue}
use Rattle.token_grammar.specs.Items.{Item, error, tag}
use Rattle.token_grammar.specs.Meaning.{Meaning}
use Rattle.token_grammar.specs.Modes.{is_pause}
use Rattle.token_grammar.specs.Reading.{IsAnswered, IsClosed, IsLawful}
use Rattle.html_tokenizer.specs.Emits.{AreUnanswered, Asks, EmitsOn, IsAlike, IsFirstAfterError, IsPauseOf}
use Rattle.html_tokenizer.specs.Emits.{emitted_none, emitted_one}
use Rattle.html_tokenizer.specs.Completes.{Answers}
use Rattle.html_tokenizer.specs.Inside.{result_of}
use Rattle.html_tokenizer.specs.declared.reader.Pause.{Pause}
use Rattle.html_tokenizer.specs.declared.reader.Pause.TheVariants.{Script, EncodingIndicator}
use Rattle.html_tokenizer.specs.declared.results.TokenizerResult.{TokenizerResult}

pub emits_same : {A H : Type 0} (means : Meaning A H) (old new : A) → new ≡ old → EmitsOn means old new
emits_same means old new e = subst (EmitsOn means old) (sym e) (emitted_none old)

pub emits_then : {A H : Type 0} (means : Meaning A H) (a b c : A) → EmitsOn means a b → EmitsOn means b c →
    EmitsOn means a c
emits_then means a b c (emitted_none _) on = on
emits_then means a b c (emitted_one _ item _ quiet more) on =
    emitted_one a item c quiet (emits_then means (means.step a item) b c more on)

-- an item that is no tag
quiet_item : {A H : Type 0} (reply : A → Item → TokenSinkResult H) →
    ((state : A) (item : Item) → ¬ (IsAnswered item) → reply state item ≡ Continue) → (state : A) (item : Item) →
    ¬ (IsAnswered item) → is_pause (reply state item) ≡ false
quiet_item reply answers state item untagged = ap is_pause (answers state item untagged)

pub emits_item : {A H : Type 0} (means : Meaning A H) →
    ((state : A) (item : Item) → ¬ (IsAnswered item) → means.reply state item ≡ Continue)
    → (old new : A) (item : Item) → ¬ (IsAnswered item) → new ≡ means.step old item → EmitsOn means old new
emits_item means answers old new item untagged e =
    emitted_one old item new (quiet_item means.reply answers old item untagged)
    (emits_same means (means.step old item) new e)

pub emits_items : {A H : Type 0} (means : Meaning A H) →
    ((state : A) (item : Item) → ¬ (IsAnswered item) → means.reply state item ≡ Continue)
    → (old : A) (items : List Item) → AreUnanswered items → EmitsOn means old (fold means.step old items)
emits_items means answers old [] u = emitted_none old
emits_items means answers old (item ∷ items) u =
    emitted_one old item _ (quiet_item means.reply answers old item u.0)
    (emits_items means answers (means.step old item) items u.1)

pub emits_all : {A H : Type 0} (means : Meaning A H) →
    ((state : A) (item : Item) → ¬ (IsAnswered item) → means.reply state item ≡ Continue)
    → (old new : A) (items : List Item) → AreUnanswered items → new ≡ fold means.step old items → EmitsOn means old new
emits_all means answers old new items u e = subst (EmitsOn means old) (sym e) (emits_items means answers old items u)

-- a tag, by what it is answered
pub asks_tag : {A H : Type 0} (means : Meaning A H) (old new : A) (t : Tag) (pause : Option (Pause H))
    → new ≡ means.step old (tag t) → IsPauseOf (means.reply old (tag t)) pause → Asks means pause old new
asks_tag means old new t None e quiet = emitted_one old (tag t) new quiet (emits_same means (means.step old (tag t)) new e)
asks_tag means old new t (Some pause) e asked =
    record { before = old; asking = t; on = emitted_none old; asked = asked; emitted = e }

pub asks_after : {A H : Type 0} (means : Meaning A H) (pause : Option (Pause H)) (a b c : A)
    → EmitsOn means a b → Asks means pause b c → Asks means pause a c
asks_after means None a b c on asks = emits_then means a b c on asks
asks_after means (Some pause) a b c on asks =
    record {
      before = asks.before;
      asking = asks.asking;
      on = emits_then means a b asks.before on asks.on;
      asked = asks.asked;
      emitted = asks.emitted;
    }

-- ---- errors

pub alike_same : {A H : Type 0} (means : Meaning A H) (old new : A) → new ≡ old → IsAlike means old new
alike_same means old new e =
    record {
      steps = λ item _. ap (λ s. means.step s item) e;
      replies = λ item. ap (λ s. means.reply s item) e;
      foreigns = ap means.foreign e;
    }

-- another error
pub alike_more : {A H : Type 0} (means : Meaning A H) (ready : A → Type 0) → IsLawful means ready
    → (old between new : A) → IsAlike means old between → new ≡ means.step between error → IsAlike means old new
alike_more means ready lawful old between new alike e = record {
  steps = λ item h. ap (λ s. means.step s item) e ∙ (lawful.forgets between item h ∙ alike.steps item h);
  replies = λ item. ap (λ s. means.reply s item) e ∙ (lawful.still_answers between item ∙ alike.replies item);
  foreigns = ap means.foreign e ∙ (lawful.still_foreign between ∙ alike.foreigns);
}

pub alike_items : {A H : Type 0} (means : Meaning A H) (old new : A) (items : List Item)
    → IsAlike means old new → IsFirstAfterError items → fold means.step new items ≡ fold means.step old items
alike_items means old new [] alike h = absurd h
alike_items means old new (item ∷ items) alike h = ap (λ s. fold means.step s items) (alike.steps item h)

-- ---- what is known of a call that is not refused

pub if_ok_with : {X E : Type 0} {P R : X → Type 0} {Q : Type 0} (r : Result X E) → IfOk r P → OnOk r Q →
    ((x : X) → P x → Q → R x) → IfOk r R
if_ok_with (Ok x) p q f = f x p q
if_ok_with (Err e) p q f = tt

pub if_ok_map : {X E : Type 0} {P R : X → Type 0} (r : Result X E) → IfOk r P → ((x : X) → P x → R x) → IfOk r R
if_ok_map (Ok x) p f = f x p
if_ok_map (Err e) p f = tt

-- a sink that was notified of the end
pub closed_by : {A X E : Type 0} (close : A → A) (reads : A → Type 0) (r : Result X E) (final closed : A) →
    reads final → IfOk r (λ _. closed ≡ close final) → OnOk r (IsClosed close reads closed)
closed_by close reads (Ok x) final closed h e = (final, (h, e))
closed_by close reads (Err x) final closed h e = tt

-- a pause as a result
pub answers_pause : {A H : Type 0} (means : Meaning A H) (pause : Pause H) (result : TokenizerResult H) (old new : A) →
    result ≡ result_of pause → Asks means (Some pause) old new → Answers means result old new
answers_pause means (Script handle) result old new e asks = subst (λ r. Answers means r old new) (sym e) asks
answers_pause means (EncodingIndicator encoding) result old new e asks =
    subst (λ r. Answers means r old new) (sym e) asks

pub none_asked : {A H : Type 0} (means : Meaning A H) (pause : Option (Pause H)) (old new : A) →
    ((p : Pause H) → pause ≡ Some p → ⊥) → Asks means pause old new → EmitsOn means old new
none_asked means None old new n asks = asks
none_asked means (Some pause) old new n asks = absurd (n pause refl)
