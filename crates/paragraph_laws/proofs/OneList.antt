-- A page has one reading, and who listens to it hears its paragraphs: so it is no two lists of paragraphs.
use Rattle.std.proofs.Common.{◌≡◌, [], ◌∷◌, ◌++◌, ◌∙◌, List, None, ap, append-nil, append_assoc, codes, false, fold}
use Rattle.std.proofs.Common.{refl, sym, ℕ}
use Rattle.document_laws.specs.Escaped.{KnowsEscapes}
use Rattle.token_grammar.proofs.Readings.{one}
use Rattle.token_grammar.specs.Items.{Item, characters, comment, doctype, end_of_file, error, null_character, tag}
use Rattle.token_grammar.specs.Meaning.{Meaning}
use Rattle.lex_base.specs.References.{References}
use Rattle.html_lexemes.specs.declared.token.TagKind.{TagKind}
use Rattle.html_lexemes.specs.declared.token.TagKind.TheVariants.{EndTag, StartTag}
use Rattle.html_lexemes.specs.declared.token.TokenSinkResult.TheVariants.{Continue}
use Rattle.document_laws.specs.Contents.{end_of, start_of, tokens, tokens_and}
use Rattle.paragraph_laws.proofs.PagesRead.{Hears, paragraphs_read}
use Rattle.paragraph_laws.proofs.TextsRead.{ordinary}
use Rattle.paragraph_laws.specs.ParagraphPage.{HasOneList}
use Rattle.paragraph_laws.specs.ParagraphTrees.{paragraphs, text_content}

-- what was heard: the texts of the paragraphs that have ended, and of the one that is open
data Heard : Type 0 where
  heard : List (List ℕ) → List ℕ → Heard

abbrev ended : Heard → List (List ℕ)
ended (heard texts cs) = texts

abbrev after_tag : TagKind → Heard → Heard
after_tag StartTag (heard texts cs) = heard texts []
after_tag EndTag (heard texts cs) = heard (texts ++ cs ∷ []) []

abbrev after_text : List ℕ → Heard → Heard
after_text more (heard texts cs) = heard texts (cs ++ more)

abbrev trailing : Heard → Item → Heard
trailing h (characters cs) = after_text cs h
trailing h (tag t) = after_tag t.kind h
trailing h null_character = h
trailing h (comment cs) = h
trailing h (doctype d) = h
trailing h error = h
trailing h end_of_file = h

abbrev listener : Meaning Heard ℕ
listener = record { step = trailing; reply = λ h item. Continue; foreign = λ h. false }

abbrev Always : Heard → Type 0
Always h = Unit {0}

texts_join : (h : Heard) (c : ℕ) (cs : List ℕ) →
    trailing (trailing h (characters (c ∷ []))) (characters cs) ≡ trailing h (characters (c ∷ cs))
texts_join (heard texts before) c cs = ap (heard texts) (append_assoc before (c ∷ []) cs)

no_text : (h : Heard) → trailing h (characters []) ≡ h
no_text (heard texts before) = ap (heard texts) (append-nil before)

listens : Hears listener Always
listens = record {
  joins = texts_join;
  skips = no_text;
  opens = λ h inside. (refl, tt);
  emits = λ h cs inside. tt;
  closes = λ h inside. (refl, tt);
}

paragraph_heard : (texts : List (List ℕ)) (cs : List ℕ) (items : List Item) →
    fold trailing (heard texts []) (start_of (codes "p") [] ∷ tokens_and (text_content cs) (end_of (codes "p") ∷ items))
    ≡ fold trailing (heard (texts ++ cs ∷ []) []) items
paragraph_heard texts [] items = refl
paragraph_heard texts (c ∷ cs) items = refl

all_heard : (texts more : List (List ℕ)) →
    fold trailing (heard texts []) (tokens (paragraphs more)) ≡ heard (texts ++ more) []
all_heard texts [] = ap (λ l. heard l []) (sym (append-nil texts))
all_heard texts (cs ∷ more) =
    paragraph_heard texts cs (tokens (paragraphs more))
    ∙ all_heard (texts ++ cs ∷ []) more
    ∙ ap (λ l. heard l []) (append_assoc texts (cs ∷ []) more)

pub one_page : (table : References) → KnowsEscapes table → (page : List ℕ) → HasOneList page
one_page table knows page texts others is again =
    let first = paragraphs_read table knows listener Always listens page texts is None (heard [] []) tt in
    let second = paragraphs_read table knows listener Always listens page others again None (heard [] []) tt in
    let same = one table listener (ordinary None) (heard [] []) page _ _ first second in
    ap ended (sym (all_heard [] texts) ∙ same ∙ all_heard [] others)
