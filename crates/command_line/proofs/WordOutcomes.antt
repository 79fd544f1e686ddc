-- What the kinds of clap's error say of the words, and what its matches say.
use Rattle.std.proofs.Common.{◌≡◌, ◌∙◌, ◌⊎◌, ◌++◌, ◌∷◌, [], List, None, String, ap, append-nil, inl, inr, map, refl}
use Rattle.std.proofs.Common.{string_bytes, subst, sym, true}
use Rattle.std.proofs.lemmas.Str.{IsUtf8-string_bytes}
use Rattle.clap.specs.Walk.{Text, rows_of}
use Rattle.clap.specs.Kinds.{HasKind, IsAmong}
use Rattle.clap.specs.Simple.{App, matches_of}
use Rattle.clap.specs.Values.{kind_of}
use Rattle.clap.specs.Faults.{fault_of, is_simple_and_free}
use Rattle.clap.specs.declared.error.Error.{Error}
use Rattle.clap.specs.declared.error.kind.ErrorKind.{ErrorKind}
use Rattle.clap.specs.declared.error.kind.ErrorKind.TheVariants.{DisplayHelp, OutOfMemory}
use Rattle.clap.specs.declared.parser.matches.Found.{Found}
use Rattle.command_line.specs.CommandRules.{program}
use Rattle.command_line.specs.CommandWords.{Asked, Asks, AsksHelp, IsLine, bare}
use Rattle.command_line.specs.FoundWords.{IsFound}
use Rattle.command_line.specs.WordFaults.{Explains, IsFaultOf, IsHelpOrMemory}
use Rattle.command_line.specs.declared.words.WordFault.{WordFault}
use Rattle.command_line.specs.declared.words.WordFault.TheVariants as faults
use Rattle.command_line.proofs.FaultKinds.{no_kind, no_refusal, refusal_harmless}
use Rattle.command_line.proofs.FoundRows.{all_faults}
use Rattle.command_line.proofs.ItemRuns.{Runs, trailing}
use Rattle.command_line.proofs.ItemUses.{row_in}
use Rattle.command_line.proofs.LineItems.{line_runs, runs_ask}
use Rattle.command_line.proofs.LineWalks.{Passes, fault_over, line_helps, line_passes, stands}
use Rattle.command_line.proofs.OptionNames.{free_program}
use Rattle.command_line.proofs.RequestFields.{found_is_asked}
use Rattle.command_line.proofs.WordVerdicts.{AreTexts, Emitted, Verdict, allowed, emitted_help, emitted_line, forbidden}
use Rattle.command_line.proofs.WordVerdicts.{verdicts}

pub are_texts : {Z : Type 0} (words : List (String Z)) → AreTexts (map string_bytes words)
are_texts [] = tt
are_texts (word ∷ words) = (IsUtf8-string_bytes word, are_texts words)

-- ---- a line passes

pub asks_passes : (words : List Text) (asked : Asked) (asks : Asks words asked)
    → Passes (stands [] None) words (map row_in (asks.items ++ trailing asks.ending))
asks_passes words asked asks =
    subst (λ ws. Passes (stands [] None) ws (map row_in (asks.items ++ trailing asks.ending))) (sym asks.line)
    (line_passes asks.items asks.ending [] None tt (line_runs asks.items asks.ending asked asks.asks) asks.asks.written)

pub asked_passes : (words : List Text) (asked : Asked) → Asks words asked → fault_of program words ≡ []
asked_passes words asked asks = all_faults words ∙ (asks_passes words asked asks).fault

pub help_fault : (words : List Text) → AsksHelp words → fault_of program words ≡ DisplayHelp ∷ []
help_fault words asks =
    all_faults words ∙ ap (fault_over (stands [] None)) asks.line
    ∙ line_helps asks.items [] None asks.word asks.rest tt
    (subst (Runs []) (append-nil asks.items) (line_runs asks.items bare asks.asked asks.asks)) asks.asks.written
    asks.helps

-- ---- what passes is a line

pub takes_line : (words : List Text) (found : Found) (read : Asked) → AreTexts words → fault_of program words ≡ []
    → rows_of found ≡ matches_of program words → IsFound found read → Asks words read
takes_line words found read texts none rows emits = go ((verdicts words texts).at_rest [] None)
  where
    as_emitted : Emitted [] words → Asks words read
    as_emitted (emitted_line items ending is written runs) =
        let line = runs_ask items ending written runs in
        let passes = asks_passes words line.asked
        (record { items = items; ending = ending; line = is; asks = line.asks }) in
        let same = found_is_asked found words items ending read line.asked (record { rows = rows; walk = passes.found })
        line.asks emits in
        record { items = items; ending = ending; line = is; asks = subst (IsLine items ending) (sym same) line.asks }
    as_emitted (emitted_help items word rest is written help runs) =
        let asks = runs_ask items bare written (subst (Runs []) (sym (append-nil items)) runs) in
        absurd
        (no_kind
        (sym
        (help_fault words (record {
          items = items;
          asked = asks.asked;
          word = word;
          rest = rest;
          line = is;
          asks =
              asks.asks;
          helps = help;
        })) ∙ none))

    go : Verdict [] None words (fault_over (stands [] None) words) → Asks words read
    go (allowed runs emitted) = as_emitted emitted
    go (forbidden refused) = absurd (no_refusal _ refused (sym (all_faults words) ∙ none))

pub helps_asked : (words : List Text) → AreTexts words → IsAmong DisplayHelp (fault_of program words) → AsksHelp words
helps_asked words texts among = go ((verdicts words texts).at_rest [] None)
  where
    as_emitted : Emitted [] words → AsksHelp words
    as_emitted (emitted_line items ending is written runs) =
        let line = runs_ask items ending written runs in
        absurd (subst (IsAmong DisplayHelp) (asked_passes words line.asked
        (record { items = items; ending = ending; line = is; asks = line.asks })) among)
    as_emitted (emitted_help items word rest is written help runs) =
        let asks = runs_ask items bare written (subst (Runs []) (sym (append-nil items)) runs) in
        record {
          items = items;
          asked = asks.asked;
          word = word;
          rest = rest;
          line = is;
          asks = asks.asks;
          helps =
              help;
        }

    go : Verdict [] None words (fault_over (stands [] None) words) → AsksHelp words
    go (allowed runs emitted) = as_emitted emitted
    go (forbidden refused) = absurd (refusal_harmless _ refused (subst (IsAmong DisplayHelp) (all_faults words) among))

-- ---- kinds and faults

-- memory ran out, or the kind is among those that these words may give
abbrev pub MayBe : List Text → ErrorKind → Type 0
MayBe words kind = (kind ≡ OutOfMemory) ⊎ IsAmong kind (fault_of program words)

-- clap's clauses, at this program's command
pub may_be : (app : App) (words : List Text) (error : Error) → app ≡ program
    → (is_simple_and_free app ≡ true → HasKind (fault_of app words) error) → MayBe words (kind_of error)
may_be app words error is kinds = subst (λ a. HasKind (fault_of a words) error) is
    (kinds (ap is_simple_and_free is ∙ free_program))

pub no_fault : (app : App) (words : List Text) → app ≡ program
    → (is_simple_and_free app ≡ true → fault_of app words ≡ []) → fault_of program words ≡ []
no_fault app words is kinds = subst (λ a. fault_of a words ≡ []) is (kinds (ap is_simple_and_free is ∙ free_program))

-- words that are a line give no kind but memory
pub passed_kinds : (words : List Text) (asked : Asked) (kind : ErrorKind) → Asks words asked → MayBe words kind
    → kind ≡ OutOfMemory
passed_kinds words asked kind asks (inl memory) = memory
passed_kinds words asked kind asks (inr among) = absurd (subst (IsAmong kind) (asked_passes words asked asks) among)

pub memory_fault : (kind : ErrorKind) (fault : WordFault) → IsFaultOf kind fault → kind ≡ OutOfMemory
    → fault ≡ faults.Memory
memory_fault kind (faults.Help text) is memory = let bad : DisplayHelp ≡ OutOfMemory = sym is ∙ memory in cc
memory_fault kind (faults.Words text) is memory = absurd (is.1 memory)
memory_fault kind faults.NotUtf8 is memory = absurd is
memory_fault kind faults.Memory is memory = refl

pub explains : (words : List Text) (kind : ErrorKind) (fault : WordFault) → AreTexts words → MayBe words kind
    → IsFaultOf kind fault → Explains words fault
explains words kind (faults.Help text) texts (inl memory) is = let bad : DisplayHelp ≡ OutOfMemory =
    sym is ∙ memory in cc
explains words kind (faults.Help text) texts (inr among) is =
    helps_asked words texts (subst (λ k. IsAmong k (fault_of program words)) is among)
explains words kind (faults.Words text) texts (inl memory) is = absurd (is.1 memory)
explains words kind (faults.Words text) texts (inr among) is = (
  λ asked asks. subst (IsAmong kind) (asked_passes words asked asks) among,
  λ help. elim (subst (IsAmong kind) (help_fault words help) among) [ inl same ↦ is.0 same | inr none ↦ none ],
)
explains words kind faults.NotUtf8 texts may is = is
explains words kind faults.Memory texts may is = tt

pub helped : (words : List Text) (kind : ErrorKind) (fault : WordFault) → AreTexts words → MayBe words kind
    → IsFaultOf kind fault → AsksHelp words → IsHelpOrMemory fault
helped words kind (faults.Help text) texts may is help = tt
helped words kind (faults.Words text) texts may is help = (explains words kind (faults.Words text) texts may is).1 help
helped words kind faults.NotUtf8 texts may is help = is
helped words kind faults.Memory texts may is help = tt

-- words that ask for help are no line
pub helps_alone : (words : List Text) → fault_of program words ≡ [] → AsksHelp words → ⊥
helps_alone words none help = let bad : DisplayHelp ∷ [] ≡ [] = sym (help_fault words help) ∙ none in cc
