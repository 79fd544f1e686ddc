-- What a block holds after each call.
use Rattle.std.proofs.Common.{◌≡◌, ◌≢◌, ◌&&◌, ◌==◌, [], ◌∷◌, ◌++◌, ◌∙◌, Bool, Global, List, None, Some, String, ap}
use Rattle.std.proofs.Common.{append-nil, append_assoc, arith, chars, false, length, map, refl, sym, true, ℕ}
use Rattle.std.specs.Prelude.{Option, string_bytes, if◌then◌else◌}
use Rattle.std.specs.Option.{option_map, option_and_then}
use Rattle.std.proofs.lemmas.Bool.Decides.{nat_tests}
use Rattle.text_lines.specs.Tagged.{Item}
use Rattle.text_pieces.specs.Cuts.{Lacks, IsCutAt}
use Rattle.text_pieces.specs.Sources.{Source, letter, fragment, sourced, fragments, piece_sources, sources_of}
use Rattle.text_preserved.specs.Preserved.{names_of}
use Rattle.text_pieces.specs.declared.piece.Piece.{Piece}
use Rattle.text_pieces.specs.declared.piece.Piece.TheVariants.{Fragment}
use Rattle.text_preserved.proofs.TrimLemmas.{sources-append, nil_length}
use Rattle.text_pieces.specs.Modes.{is_preserved, is_same_mode}
use Rattle.text_pieces.specs.declared.white_space.WhiteSpace.{WhiteSpace}
use Rattle.text_wrapping.specs.Lines.{lines_in, waiting_in}
use Rattle.text_wrapping.specs.Blocks.{Block, added, after_sources, ended, in_mode, is_too_narrow, line_ended}
use Rattle.text_wrapping.specs.Blocks.{line_feed, lines_after, lines_or_empty, padded, took, took_all, with_letter}
use Rattle.text_wrapping.specs.Blocks.{with_lines, with_mode, with_source}

-- ---- texts that end nothing

-- none of the characters ends a source line
abbrev pub AreLetters : WhiteSpace → List ℕ → Type 0
AreLetters mode [] = Unit {0}
AreLetters mode (c ∷ cs) = ((is_preserved mode && (c == line_feed)) ≡ false) × AreLetters mode cs

pub normal_letters : (mode : WhiteSpace) (cs : List ℕ) → is_preserved mode ≡ false → AreLetters mode cs
normal_letters mode [] normal = tt
normal_letters mode (c ∷ cs) normal =
    (ap (λ b. b && (c == line_feed)) normal, normal_letters mode cs normal)

not_line_feed : (c : ℕ) → c ≢ line_feed → (c == line_feed) ≡ false
not_line_feed c other = grind (arith, nat_tests)

and_false : (b : Bool) → (b && false) ≡ false
and_false true = refl
and_false false = refl

pub lacking_letters : (mode : WhiteSpace) (cs : List ℕ) → Lacks 10 cs → AreLetters mode cs
lacking_letters mode [] lacks = tt
lacking_letters mode (c ∷ cs) lacks = (
  ap (λ b. is_preserved mode && b) (not_line_feed c lacks.0) ∙ and_false (is_preserved mode),
  lacking_letters mode cs lacks.1,
)

pub took_letters : {S : Type 0} (main further : S) (cs : List ℕ) (b : Block S) → AreLetters b.mode cs
    → took_all main further cs b ≡ Some (after_sources (sourced cs main further) b)
took_letters main further [] b are = ap (λ s. Some (record b { source = s })) (sym (append-nil b.source))
took_letters main further (c ∷ cs) b are =
    ap (λ t. option_and_then (took_all main further cs)
    (if t then line_ended b else Some (with_letter main further c b))) are.0
    ∙ took_letters main further cs (with_letter main further c b) are.1
    ∙ ap (λ s. Some (record b { source = s }))
    (append_assoc b.source (letter c main further ∷ []) (sourced cs main further))

pub run_taken : {S : Type 0} (main further : S) (cs : List ℕ) (b new : Block S) → is_preserved b.mode ≡ false
    → new ≡ after_sources (sourced cs main further) b → took_all main further cs b ≡ Some new
run_taken main further cs b new normal run =
    took_letters main further cs b (normal_letters b.mode cs normal) ∙ ap Some (sym run)

-- a text of the same mode goes on
pub same_mode : {S : Type 0} (mode : WhiteSpace) (b : Block S) → is_same_mode mode b.mode ≡ true
    → in_mode mode b ≡ Some b
same_mode mode b same = ap (λ t. if t then Some b else option_map (with_mode mode) (ended b)) same

-- an empty text
pub nothing_after : {S : Type 0} (main further : S) (cs : List ℕ) (b : Block S) → cs ≡ []
    → b ≡ after_sources (sourced cs main further) b
nothing_after main further cs b none =
    ap (λ s. record b { source = s }) (sym (append-nil b.source))
    ∙ ap (λ l. after_sources (sourced l main further) b) (sym none)

-- ---- texts in parts

and_then_more : {A : Type 0} (o : Option A) (f g h : A → Option A) → ((a : A) → h a ≡ option_and_then g (f a))
    → option_and_then h o ≡ option_and_then g (option_and_then f o)
and_then_more None f g h same = refl
and_then_more (Some a) f g h same = same a

pub took_all-append : {S : Type 0} (main further : S) (front back : List ℕ) (b : Block S)
    → took_all main further (front ++ back) b
    ≡ option_and_then (took_all main further back) (took_all main further front b)
took_all-append main further [] back b = refl
took_all-append main further (c ∷ front) back b =
    and_then_more (took main further c b) (took_all main further front) (took_all main further back)
    (took_all main further (front ++ back)) (λ a. took_all-append main further front back a)

-- ---- source lines

line_taken : {S : Type 0} (main further : S) (b mid : Block S) (text line trailing : List ℕ) → is_preserved b.mode ≡ true
    → IsCutAt 10 text line trailing → mid ≡ after_sources (sourced line main further) b
    → took_all main further text b ≡ option_and_then (took_all main further trailing) (line_ended mid)
line_taken main further b mid text line trailing preserved cut run =
    ap (λ t. took_all main further t b) cut.whole ∙ took_all-append main further line (10 ∷ trailing) b
    ∙ ap (option_and_then (took_all main further (10 ∷ trailing)))
    (took_letters main further line b (lacking_letters b.mode line cut.lacks) ∙ ap Some (sym run))
    ∙ ap (λ t. option_and_then (took_all main further trailing)
    (if t && (10 == line_feed) then line_ended mid else Some (with_letter main further 10 mid)))
    (ap (λ m. is_preserved m.mode) run ∙ preserved)

pub lines_step : {S : Type 0} (main further : S) (b mid new : Block S) (text line trailing : List ℕ)
    → is_preserved b.mode ≡ true → IsCutAt 10 text line trailing → mid ≡ after_sources (sourced line main further) b
    → line_ended mid ≡ Some new → took_all main further text b ≡ took_all main further trailing new
lines_step main further b mid new text line trailing preserved cut run end =
    line_taken main further b mid text line trailing preserved cut run
    ∙ ap (option_and_then (took_all main further trailing)) end

pub lines_refused : {S : Type 0} (main further : S) (b mid : Block S) (text line trailing : List ℕ)
    → is_preserved b.mode ≡ true → IsCutAt 10 text line trailing → mid ≡ after_sources (sourced line main further) b
    → line_ended mid ≡ None → took_all main further text b ≡ None
lines_refused main further b mid text line trailing preserved cut run refused =
    line_taken main further b mid text line trailing preserved cut run
    ∙ ap (option_and_then (took_all main further trailing)) refused

mode_at : {S : Type 0} (narrow : Bool) (b mid new : Block S) → (if narrow then None else Some mid) ≡ Some new
    → mid.mode ≡ b.mode → new.mode ≡ b.mode
mode_at true b mid new is same = cc
mode_at false b mid new is same = let here : mid ≡ new = cc in ap (λ x. x.mode) (sym here) ∙ same

pub line_ended_mode : {S : Type 0} (b new : Block S) → line_ended b ≡ Some new → new.mode ≡ b.mode
line_ended_mode b new is =
    mode_at (is_too_narrow b) b (lines_after b (lines_or_empty (lines_in b.mode b.width b.source))) new is refl

-- the rest of a text has no line end
pub rest_taken : {S : Type 0} (main further : S) (b new first : Block S) (text rest : List ℕ)
    → Lacks 10 rest → took_all main further rest b ≡ took_all main further text first
    → new ≡ after_sources (sourced rest main further) b → took_all main further text first ≡ Some new
rest_taken main further b new first text rest lacks so_far run =
    sym so_far ∙ took_letters main further rest b (lacking_letters b.mode rest lacks) ∙ ap Some (sym run)

-- ---- what ends

-- lines are added, and markers wait
pub ended_by : {S : Type 0} (b mid new : Block S) (lines : List (List (Item S))) (waiting : List (List ℕ))
    → is_too_narrow b ≡ false → lines ≡ lines_in b.mode b.width b.source → waiting ≡ waiting_in b.mode b.width b.source
    → mid ≡ with_lines lines b → new ≡ with_source (fragments waiting) mid → ended b ≡ Some new
ended_by b mid new lines waiting room lines_are waiting_are put waits =
    ap (λ t. if t then None else Some (lines_after b (lines_in b.mode b.width b.source))) room
    ∙ ap Some (sym (waits ∙ ap (with_source (fragments waiting)) (put ∙ ap (λ l. with_lines l b) lines_are)
    ∙ ap (λ w. with_source (fragments w) (with_lines (lines_in b.mode b.width b.source) b)) waiting_are))

pub line_ended_by : {S : Type 0} (b mid new : Block S) (laid lines : List (List (Item S))) (waiting : List (List ℕ))
    → is_too_narrow b ≡ false → laid ≡ lines_in b.mode b.width b.source → lines ≡ lines_or_empty laid
    → waiting ≡ waiting_in b.mode b.width b.source
    → mid ≡ with_lines lines b → new ≡ with_source (fragments waiting) mid → line_ended b ≡ Some new
line_ended_by b mid new laid lines waiting room laid_are lines_are waiting_are put waits =
    let all = lines_or_empty (lines_in b.mode b.width b.source) in
    ap (λ t. if t then None else Some (lines_after b all)) room
    ∙ ap Some (sym (waits ∙ ap (with_source (fragments waiting)) (put
    ∙ ap (λ l. with_lines l b) (lines_are ∙ ap lines_or_empty laid_are))
    ∙ ap (λ w. with_source (fragments w) (with_lines all b)) waiting_are))

pub refused_text : {S : Type 0} (b : Block S) → is_too_narrow b ≡ true → ended b ≡ None
refused_text b narrow =
    ap (λ t. if t then None else Some (lines_after b (lines_in b.mode b.width b.source))) narrow

pub refused_line : {S : Type 0} (b : Block S) → is_too_narrow b ≡ true → line_ended b ≡ None
refused_line b narrow =
    ap (λ t. if t then None else Some (lines_after b (lines_or_empty (lines_in b.mode b.width b.source)))) narrow

-- ---- lines that are filled

pub not_padded : {S : Type 0} (width : ℕ) (lines : List (List (Item S))) → map (padded width None) lines ≡ lines
not_padded width [] = refl
not_padded width (line ∷ lines) = ap (λ rest. line ∷ rest) (not_padded width lines)

pub bare_lines : {S : Type 0} (pads : Bool) (tag : S) (width : ℕ) (lines : List (List (Item S))) → pads ≡ false
    → lines ≡ map (padded width (if pads then Some tag else None)) lines
bare_lines true tag width lines off = cc
bare_lines false tag width lines off = sym (not_padded width lines)

-- ---- pieces

pub names-append : {S : Type 0} (xs ys : List (Source S)) → names_of (xs ++ ys) ≡ names_of xs ++ names_of ys
names-append [] ys = refl
names-append (letter c main further ∷ xs) ys = names-append xs ys
names-append (fragment name ∷ xs) ys = ap (λ ns. name ∷ ns) (names-append xs ys)

pub names_sourced : {S : Type 0} (cs : List ℕ) (main further : S) → names_of (sourced cs main further) ≡ []
names_sourced [] main further = refl
names_sourced (c ∷ cs) main further = names_sourced cs main further

pub names_fragments : (S : Type 0) (ns : List (List ℕ)) → names_of (fragments {S = S} ns) ≡ ns
names_fragments S [] = refl
names_fragments S (n ∷ ns) = ap (λ rest. n ∷ rest) (names_fragments S ns)

-- the names of the pieces so far, and of one more
pub names_more : {T S : Type 0} (seen : T → S) (all now new : List (List ℕ)) (rest others : List (Piece T))
    (first : Piece T) → rest ≡ first ∷ others → now ++ names_of (sources_of seen rest) ≡ all
    → new ≡ now ++ names_of (piece_sources seen first) → new ++ names_of (sources_of seen others) ≡ all
names_more seen all now new rest others first split so_far step =
    ap (λ ns. ns ++ names_of (sources_of seen others)) step
    ∙ append_assoc now (names_of (piece_sources seen first)) (names_of (sources_of seen others))
    ∙ ap (λ ns. now ++ ns) (sym (names-append (piece_sources seen first) (sources_of seen others)))
    ∙ ap (λ pieces. now ++ names_of (sources_of seen pieces)) (sym split) ∙ so_far

pub all_names : {T S : Type 0} (seen : T → S) (all now : List (List ℕ)) (rest : List (Piece T)) → length rest ≡ 0
    → now ++ names_of (sources_of seen rest) ≡ all → now ≡ all
all_names seen all now rest none so_far =
    sym (append-nil now) ∙ ap (λ pieces. now ++ names_of (sources_of seen pieces)) (sym (nil_length rest none)) ∙ so_far

-- nothing is held yet
pub nothing_held : {T S : Type 0} (seen : T → S) (b now : Block S) (pieces : List (Piece T)) (all left : List (List ℕ))
    → now ≡ record b { source = sources_of seen pieces } → pieces ≡ [] → left ≡ all
    → after_sources (fragments left) now ≡ with_source (fragments all) b
nothing_held seen b now pieces all left is none same =
    ap (after_sources (fragments left)) is
    ∙ ap (λ ps. record b { source = sources_of seen ps ++ fragments left }) none
    ∙ ap (λ l. with_source (fragments l) b) same

-- a marker more is held, of those that wait
pub wait_more : {T S : Type 0} (seen : T → S) (now new end : Block S) (pieces : List (Piece T)) (name : String Global)
    (others : List (List ℕ)) → now.source ≡ sources_of seen pieces
    → new ≡ record now { source = sources_of seen (pieces ++ Fragment name ∷ []) }
    → after_sources (fragments (chars (string_bytes name) ∷ others)) now ≡ end
    → after_sources (fragments others) new ≡ end
wait_more seen now new end pieces name others here step so_far =
    ap (after_sources (fragments others)) step
    ∙ ap (λ s. record now { source = s ++ fragments others }) (sources-append seen pieces (Fragment name ∷ []))
    ∙ ap (λ s. record now { source = s }) (append_assoc (sources_of seen pieces)
    (fragment (chars (string_bytes name)) ∷ []) (fragments others))
    ∙ ap (λ s. record now { source = s ++ fragments (chars (string_bytes name) ∷ others) }) (sym here) ∙ so_far

pub wait_all : {S : Type 0} (now end : Block S) (left : List (List ℕ)) → left ≡ []
    → after_sources (fragments left) now ≡ end → now ≡ end
wait_all now end left none so_far =
    ap (λ s. record now { source = s }) (sym (append-nil now.source))
    ∙ ap (λ l. after_sources (fragments l) now) (sym none) ∙ so_far

-- ---- a text in its mode

pub added_nothing : {S : Type 0} (mode : WhiteSpace) (cs : List ℕ) (main further : S) (b : Block S) → cs ≡ []
    → added mode cs main further b ≡ Some b
added_nothing mode cs main further b none = ap (λ l. added mode l main further b) none

added_some : {S : Type 0} (mode : WhiteSpace) (cs : List ℕ) (main further : S) (b : Block S) → (cs ≡ [] → ⊥)
    → added mode cs main further b ≡ option_and_then (took_all main further cs) (in_mode mode b)
added_some mode [] main further b some = absurd (some refl)
added_some mode (c ∷ cs) main further b some = refl

pub added_after : {S : Type 0} (mode : WhiteSpace) (cs : List ℕ) (main further : S) (b mid new : Block S)
    → (cs ≡ [] → ⊥) → in_mode mode b ≡ Some mid → took_all main further cs mid ≡ Some new
    → added mode cs main further b ≡ Some new
added_after mode cs main further b mid new some entered taken =
    added_some mode cs main further b some ∙ ap (option_and_then (took_all main further cs)) entered ∙ taken

pub added_refused : {S : Type 0} (mode : WhiteSpace) (cs : List ℕ) (main further : S) (b : Block S)
    → (cs ≡ [] → ⊥) → in_mode mode b ≡ None → added mode cs main further b ≡ None
added_refused mode cs main further b some refused =
    added_some mode cs main further b some ∙ ap (option_and_then (took_all main further cs)) refused

pub added_narrow : {S : Type 0} (mode : WhiteSpace) (cs : List ℕ) (main further : S) (b mid : Block S)
    → (cs ≡ [] → ⊥) → in_mode mode b ≡ Some mid → took_all main further cs mid ≡ None
    → added mode cs main further b ≡ None
added_narrow mode cs main further b mid some entered refused =
    added_some mode cs main further b some ∙ ap (option_and_then (took_all main further cs)) entered ∙ refused
