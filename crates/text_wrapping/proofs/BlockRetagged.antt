-- Tags have no say in a block of text: each call makes the same of it under other tags.
use Rattle.std.proofs.Common.{◌≡◌, ℕ, ◌-◌, Bool, false, List, [], ◌∷◌, ◌++◌, map, replicate, sym, ap, ◌∙◌, refl}
use Rattle.std.specs.Prelude.{fold, not, ◌&&◌, ◌||◌, ◌==◌, nat_lt, Option, None, Some}
use Rattle.std.specs.List.{list_any}
use Rattle.std.specs.Option.{option_map, option_and_then}
use Rattle.std.proofs.lemmas.List.{map-append}
use Rattle.text_lines.specs.Tagged.{Item, character, line_columns}
use Rattle.text_pieces.specs.Sources.{Source, letter, fragment, fragments, names_of}
use Rattle.text_pieces.specs.Modes.{is_preserved, is_wrapped, is_same_mode}
use Rattle.text_pieces.specs.declared.white_space.WhiteSpace.{WhiteSpace}
use Rattle.text_pieces.proofs.RetaggedItems.{chosen_by, replicate_mapped, line_columns_retagged, names_retagged}
use Rattle.text_preserved.specs.Preserved.{preserved_lines, preserved_waiting, is_too_wide}
use Rattle.text_preserved.proofs.LayingRetagged.{lines_retagged, lines_wait_retagged, too_wide_retagged}
use Rattle.text_normal.specs.Riders.{normal_lines, normal_waiting, has_wide_text}
use Rattle.text_normal_laws.proofs.NormalRetagged.{normal_retagged, waiting_retagged, wide_text_retagged}
use Rattle.text_wrapping.specs.Lines.{lines_in, waiting_in, is_wide_in}
use Rattle.text_wrapping.specs.Blocks.{Block, added, broken, ended, ended_lines, ends_in_columns, fragments_taken}
use Rattle.text_wrapping.specs.Blocks.{has_columns, has_visible, in_mode, is_too_narrow, is_visible, line_ended}
use Rattle.text_wrapping.specs.Blocks.{line_feed, lines_after, lines_of, lines_or_empty, marked_by, padded, took}
use Rattle.text_wrapping.specs.Blocks.{took_all, with_letter, with_mode, without_source}
use Rattle.text_wrapping.specs.Retagged.{reitem, resource, reblock, reblocked}

-- ---- options

pub then_mapped : {X Y P Q : Type 0} (g : X → Option Y) (h : P → Option Q) (R : X → P) (S : Y → Q)
    → ((x : X) → h (R x) ≡ option_map S (g x)) → (o : Option X)
    → option_and_then h (option_map R o) ≡ option_map S (option_and_then g o)
then_mapped g h R S same None = refl
then_mapped g h R S same (Some x) = same x

pub map_mapped : {X Y P Q : Type 0} (g : X → Y) (h : P → Q) (R : X → P) (S : Y → Q) → ((x : X) → h (R x) ≡ S (g x))
    → (o : Option X) → option_map h (option_map R o) ≡ option_map S (option_map g o)
map_mapped g h R S same None = refl
map_mapped g h R S same (Some x) = ap Some (same x)

-- ---- lines

pub padded_retagged : {A B : Type 0} (f : A → B) (w : ℕ) (padding : Option A) (line : List (Item A))
    → padded w (option_map f padding) (map (reitem f) line) ≡ map (reitem f) (padded w padding line)
padded_retagged f w None line = refl
padded_retagged f w (Some tag) line =
    ap (λ n. map (reitem f) line ++ replicate (w - n) (character 0x20 (f tag))) (line_columns_retagged f line)
    ∙ ap (λ spaces. map (reitem f) line ++ spaces)
    (replicate_mapped (reitem f) (w - line_columns line) (character 0x20 tag))
    ∙ sym (map-append (reitem f) line (replicate (w - line_columns line) (character 0x20 tag)))

all_padded : {A B : Type 0} (f : A → B) (w : ℕ) (padding : Option A) (lines : List (List (Item A)))
    → map (padded w (option_map f padding)) (map (map (reitem f)) lines)
    ≡ map (map (reitem f)) (map (padded w padding) lines)
all_padded f w padding [] = refl
all_padded f w padding (line ∷ lines) =
    ap (λ l. l ∷ map (padded w (option_map f padding)) (map (map (reitem f)) lines)) (padded_retagged f w padding line)
    ∙ ap (λ ls. map (reitem f) (padded w padding line) ∷ ls) (all_padded f w padding lines)

pub lines_in_retagged : {A B : Type 0} (f : A → B) (mode : WhiteSpace) (w : ℕ) (source : List (Source A))
    → lines_in mode w (map (resource f) source) ≡ map (map (reitem f)) (lines_in mode w source)
lines_in_retagged f mode w source =
    chosen_by (map (map (reitem f))) (is_preserved mode) (is_preserved mode)
    (preserved_lines w (is_wrapped mode) source) (normal_lines w source)
    (preserved_lines w (is_wrapped mode) (map (resource f) source)) (normal_lines w (map (resource f) source))
    refl (lines_retagged f w (is_wrapped mode) source) (normal_retagged f w source)

waiting_in_retagged : {A B : Type 0} (f : A → B) (mode : WhiteSpace) (w : ℕ) (source : List (Source A))
    → waiting_in mode w (map (resource f) source) ≡ waiting_in mode w source
waiting_in_retagged f mode w source =
    chosen_by (λ names. names) (is_preserved mode) (is_preserved mode)
    (preserved_waiting w (is_wrapped mode) source) (normal_waiting w source)
    (preserved_waiting w (is_wrapped mode) (map (resource f) source)) (normal_waiting w (map (resource f) source))
    refl (lines_wait_retagged f w (is_wrapped mode) source) (waiting_retagged f w source)

wide_in_retagged : {A B : Type 0} (f : A → B) (mode : WhiteSpace) (w : ℕ) (source : List (Source A))
    → is_wide_in mode w (map (resource f) source) ≡ is_wide_in mode w source
wide_in_retagged f mode w source =
    chosen_by (λ b. b) (is_preserved mode) (is_preserved mode)
    (is_too_wide w (is_wrapped mode) source) (has_wide_text w source)
    (is_too_wide w (is_wrapped mode) (map (resource f) source)) (has_wide_text w (map (resource f) source))
    refl (too_wide_retagged f w (is_wrapped mode) source) (wide_text_retagged f w source)

-- ---- text that ends

abbrev made : {S : Type 0} → Block S → List (List (Item S)) → List (Source S) → Block S
made b lines source = record b { lines = lines; source = source }

fragments_retagged : {A B : Type 0} (f : A → B) (names : List (List ℕ)) → fragments {S = B} names
    ≡ map (resource f) (fragments {S = A} names)
fragments_retagged f [] = refl
fragments_retagged f (name ∷ names) = ap (λ ss. fragment name ∷ ss) (fragments_retagged f names)

lines_after_retagged : {A B : Type 0} (f : A → B) (b : Block A) (lines : List (List (Item A)))
    → lines_after (reblock f b) (map (map (reitem f)) lines) ≡ reblock f (lines_after b lines)
lines_after_retagged f b lines =
    ap (λ ls. made (reblock f b) ls (fragments (waiting_in b.mode b.width (map (resource f) b.source))))
    (ap (λ ls. map (map (reitem f)) b.lines ++ ls) (all_padded f b.width b.padding lines)
    ∙ sym (map-append (map (reitem f)) b.lines (map (padded b.width b.padding) lines)))
    ∙ ap (made (reblock f b) (map (map (reitem f)) (b.lines ++ map (padded b.width b.padding) lines)))
    (ap (λ names. fragments names) (waiting_in_retagged f b.mode b.width b.source)
    ∙ fragments_retagged f (waiting_in b.mode b.width b.source))

narrow_retagged : {A B : Type 0} (f : A → B) (b : Block A) → is_too_narrow (reblock f b) ≡ is_too_narrow b
narrow_retagged f b = ap (λ t. not b.overflow && t) (wide_in_retagged f b.mode b.width b.source)

pub ended_retagged : {A B : Type 0} (f : A → B) (b : Block A) → ended (reblock f b)
    ≡ option_map (reblock f) (ended b)
ended_retagged f b =
    let lines = lines_in b.mode b.width b.source in
    chosen_by (option_map (reblock f)) (is_too_narrow b) (is_too_narrow (reblock f b)) None
    (Some (lines_after b lines)) None
    (Some (lines_after (reblock f b) (lines_in b.mode b.width (map (resource f) b.source)))) (narrow_retagged f b) refl
    (ap (λ ls. Some (lines_after (reblock f b) ls)) (lines_in_retagged f b.mode b.width b.source)
    ∙ ap Some (lines_after_retagged f b lines))

or_empty_retagged : {A B : Type 0} (f : A → B) (lines : List (List (Item A)))
    → lines_or_empty (map (map (reitem f)) lines) ≡ map (map (reitem f)) (lines_or_empty lines)
or_empty_retagged f [] = refl
or_empty_retagged f (line ∷ lines) = refl

line_ended_retagged : {A B : Type 0} (f : A → B) (b : Block A) → line_ended (reblock f b)
    ≡ option_map (reblock f) (line_ended b)
line_ended_retagged f b =
    let lines = lines_in b.mode b.width b.source in
    chosen_by (option_map (reblock f)) (is_too_narrow b) (is_too_narrow (reblock f b)) None
    (Some (lines_after b (lines_or_empty lines))) None
    (Some (lines_after (reblock f b) (lines_or_empty (lines_in b.mode b.width (map (resource f) b.source)))))
    (narrow_retagged f b) refl
    (ap (λ ls. Some (lines_after (reblock f b) (lines_or_empty ls))) (lines_in_retagged f b.mode b.width b.source)
    ∙ ap (λ ls. Some (lines_after (reblock f b) ls)) (or_empty_retagged f lines)
    ∙ ap Some (lines_after_retagged f b (lines_or_empty lines)))

-- ---- text that is added

source_retagged : {A B : Type 0} (f : A → B) (b : Block A) (more : List (Source A))
    → made (reblock f b) (map (map (reitem f)) b.lines) (map (resource f) b.source ++ map (resource f) more)
    ≡ reblock f (made b b.lines (b.source ++ more))
source_retagged f b more =
    ap (made (reblock f b) (map (map (reitem f)) b.lines)) (sym (map-append (resource f) b.source more))

took_retagged : {A B : Type 0} (f : A → B) (main further : A) (c : ℕ) (b : Block A)
    → took (f main) (f further) c (reblock f b) ≡ option_map (reblock f) (took main further c b)
took_retagged f main further c b =
    chosen_by (option_map (reblock f)) (is_preserved b.mode && (c == line_feed))
    (is_preserved b.mode && (c == line_feed))
    (line_ended b) (Some (with_letter main further c b)) (line_ended (reblock f b))
    (Some (with_letter (f main) (f further) c (reblock f b))) refl (line_ended_retagged f b)
    (ap Some (source_retagged f b (letter c main further ∷ [])))

took_all_retagged : {A B : Type 0} (f : A → B) (main further : A) (cs : List ℕ) (b : Block A)
    → took_all (f main) (f further) cs (reblock f b) ≡ option_map (reblock f) (took_all main further cs b)
took_all_retagged f main further [] b = refl
took_all_retagged f main further (c ∷ cs) b =
    ap (option_and_then (took_all (f main) (f further) cs)) (took_retagged f main further c b)
    ∙ then_mapped (took_all main further cs) (took_all (f main) (f further) cs) (reblock f) (reblock f)
    (took_all_retagged f main further cs) (took main further c b)

in_mode_retagged : {A B : Type 0} (f : A → B) (mode : WhiteSpace) (b : Block A) → in_mode mode (reblock f b)
    ≡ option_map (reblock f) (in_mode mode b)
in_mode_retagged f mode b =
    chosen_by (option_map (reblock f)) (is_same_mode mode b.mode) (is_same_mode mode b.mode) (Some b)
    (option_map (with_mode mode) (ended b)) (Some (reblock f b)) (option_map (with_mode mode) (ended (reblock f b)))
    refl refl
    (ap (option_map (with_mode mode)) (ended_retagged f b)
    ∙ map_mapped (with_mode mode) (with_mode mode) (reblock f) (reblock f) (λ x. refl) (ended b))

pub added_retagged : {A B : Type 0} (f : A → B) (mode : WhiteSpace) (cs : List ℕ) (main further : A) (b : Block A)
    → added mode cs (f main) (f further) (reblock f b) ≡ option_map (reblock f) (added mode cs main further b)
added_retagged f mode [] main further b = refl
added_retagged f mode (c ∷ cs) main further b =
    ap (option_and_then (took_all (f main) (f further) (c ∷ cs))) (in_mode_retagged f mode b)
    ∙ then_mapped (took_all main further (c ∷ cs)) (took_all (f main) (f further) (c ∷ cs)) (reblock f) (reblock f)
    (took_all_retagged f main further (c ∷ cs)) (in_mode mode b)

pub marked_retagged : {A B : Type 0} (f : A → B) (name : List ℕ) (b : Block A) → marked_by name (reblock f b)
    ≡ reblock f (marked_by name b)
marked_retagged f name b = source_retagged f b (fragment name ∷ [])

-- ---- what is said of it

pub taken_retagged : {A B : Type 0} (f : A → B) (b : Block A) → fragments_taken (reblock f b)
    ≡ option_map (reblocked f) (fragments_taken b)
taken_retagged f b =
    ap (option_map (λ e. (names_of e.source, without_source e))) (ended_retagged f b)
    ∙ map_mapped (λ e. (names_of e.source, without_source e)) (λ e. (names_of e.source, without_source e)) (reblock f)
    (reblocked f) (λ e. ap (λ names. (names, without_source (reblock f e))) (names_retagged f e.source)) (ended b)

pub ended_lines_retagged : {A B : Type 0} (f : A → B) (b : Block A) → ended_lines (reblock f b)
    ≡ option_map (map (map (reitem f))) (ended_lines b)
ended_lines_retagged f b =
    ap (option_map lines_of) (ended_retagged f b)
    ∙ map_mapped lines_of lines_of (reblock f) (map (map (reitem f))) (λ e. refl) (ended b)

ends_from : {A B : Type 0} (f : A → B) (lines : List (List (Item A))) (ends : Bool)
    → fold (λ ends line. nat_lt 0 (line_columns line)) ends (map (map (reitem f)) lines)
    ≡ fold (λ ends line. nat_lt 0 (line_columns line)) ends lines
ends_from f [] ends = refl
ends_from f (line ∷ lines) ends =
    ap (λ n. fold (λ ends line. nat_lt 0 (line_columns line)) (nat_lt 0 n) (map (map (reitem f)) lines))
    (line_columns_retagged f line) ∙ ends_from f lines (nat_lt 0 (line_columns line))

pub broken_retagged : {A B : Type 0} (f : A → B) (b : Block A) → broken (reblock f b)
    ≡ option_map (reblocked f) (broken b)
broken_retagged f b =
    let lines = lines_in b.mode b.width b.source in
    ap (λ ls. option_map (λ e. (ends_in_columns ls, e)) (ended (reblock f b)))
    (lines_in_retagged f b.mode b.width b.source)
    ∙ ap (λ ends. option_map (λ e. (ends, e)) (ended (reblock f b))) (ends_from f lines false)
    ∙ ap (option_map (λ e. (ends_in_columns lines, e))) (ended_retagged f b)
    ∙ map_mapped (λ e. (ends_in_columns lines, e)) (λ e. (ends_in_columns lines, e)) (reblock f) (reblocked f)
    (λ e. refl) (ended b)

visible_retagged : {A B : Type 0} (f : A → B) (source : List (Source A)) → has_visible (map (resource f) source)
    ≡ has_visible source
visible_retagged f [] = refl
visible_retagged f (letter c main further ∷ rest) = ap (λ b. is_visible c || b) (visible_retagged f rest)
visible_retagged f (fragment name ∷ rest) = visible_retagged f rest

any_retagged : {A B : Type 0} (f : A → B) (lines : List (List (Item A)))
    → list_any (λ line. nat_lt 0 (line_columns line)) (map (map (reitem f)) lines)
    ≡ list_any (λ line. nat_lt 0 (line_columns line)) lines
any_retagged f [] = refl
any_retagged f (line ∷ lines) =
    ap (λ n. nat_lt 0 n || list_any (λ line. nat_lt 0 (line_columns line)) (map (map (reitem f)) lines))
    (line_columns_retagged f line)
    ∙ ap (λ b. nat_lt 0 (line_columns line) || b) (any_retagged f lines)

pub columns_retagged : {A B : Type 0} (f : A → B) (b : Block A) → has_columns (reblock f b) ≡ has_columns b
columns_retagged f b =
    ap (λ t. t || has_visible (map (resource f) b.source)) (any_retagged f b.lines)
    ∙ ap (λ t. list_any (λ line. nat_lt 0 (line_columns line)) b.lines || t) (visible_retagged f b.source)
