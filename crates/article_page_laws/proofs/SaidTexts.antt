-- What texts and breaks do to a block of lines: they keep that it awaits no text, and an empty text beside another
-- changes nothing.
use Rattle.std.proofs.Common.{◌≡◌, [], ◌∷◌, ◌++◌, if◌then◌else◌, ◌∙◌, Bool, List, None, Option, Some, ap, false, refl}
use Rattle.std.proofs.Common.{true, ℕ}
use Rattle.std.specs.Option.{option_and_then, option_map}
use Rattle.std.specs.Prelude.{IfSome}
use Rattle.article_definitions.specs.Calls.{run}
use Rattle.article_definitions.specs.Layouts.{Part, Tag, breaks, says}
use Rattle.block_layout.specs.Laid.{Laid, Running, add_text, add_text_line, add_text_lines, after_empty_line}
use Rattle.block_layout.specs.Laid.{break_line, break_of, broken_line, enter_mode, flush, flush_of, laid_text, run_on}
use Rattle.block_layout.specs.Laid.{running_or_new, text_laid, with_added, with_running, with_text_of, without_running}
use Rattle.block_layout.specs.LaidRows.{before_last}
use Rattle.block_layout.specs.declared.measure.Measure.{Measure}
use Rattle.text_lines.specs.Tagged.{Item}
use Rattle.text_pieces.specs.declared.white_space.WhiteSpace.TheVariants.{Normal}
use Rattle.text_wrapping.specs.Blocks.{Block, added, broken}

-- a text under one tag
abbrev pub say : Measure → Tag → List ℕ → Laid Tag → Option (Laid Tag)
say m d cs b = add_text m d Normal cs d d b

-- no text would start a block
abbrev pub IsQuiet : Option (Laid Tag) → Type 0
IsQuiet x = IfSome x (λ (b : Laid Tag). b.awaits ≡ false)

pub then_same : {B : Type 0} (f g : Laid Tag → Option B) (x : Option (Laid Tag)) → IsQuiet x →
    ((b : Laid Tag) → b.awaits ≡ false → f b ≡ g b) → option_and_then f x ≡ option_and_then g x
then_same f g None quiet same = refl
then_same f g (Some b) quiet same = same b quiet

pub then_quiet : (f : Laid Tag → Option (Laid Tag)) (x : Option (Laid Tag)) → IsQuiet x →
    ((b : Laid Tag) → b.awaits ≡ false → IsQuiet (f b)) → IsQuiet (option_and_then f x)
then_quiet f None quiet next = tt
then_quiet f (Some b) quiet next = next b quiet

pub chained : {A B C : Type 0} (f : B → Option C) (g : A → Option B) (x : Option A) →
    option_and_then f (option_and_then g x) ≡ option_and_then (λ a. option_and_then f (g a)) x
chained f g None = refl
chained f g (Some a) = refl

pub both_after : {A : Type 0} (f g both : A → Option A) (x : Option A) → ((a : A) → both a ≡ option_and_then f (g a)) →
    option_and_then both x ≡ option_and_then f (option_and_then g x)
both_after f g both None same = refl
both_after f g both (Some a) same = same a

pub nothing_more : {A : Type 0} (x : Option A) → option_and_then (λ (a : A). Some a) x ≡ x
nothing_more None = refl
nothing_more (Some a) = refl

module _ (m : Measure) where
  -- ---- what awaits

  lines_await : (tag fill : Tag) (lines : List (List (Item Tag))) (b : Laid Tag) →
      (add_text_lines m tag fill lines b).awaits ≡ b.awaits
  lines_await tag fill [] b = refl
  lines_await tag fill (l ∷ lines) b = lines_await tag fill lines (add_text_line m tag fill b l)

  found_quiet : (tag fill : Tag) (b : Laid Tag) (found : Option (List (List ℕ) × List (List (Item Tag)))) →
      b.awaits ≡ false → IsQuiet (option_map (text_laid m tag fill b) found)
  found_quiet tag fill b None e = tt
  found_quiet tag fill b (Some found) e = lines_await tag fill found.1 b ∙ e

  flush_quiet_of : (tag : Tag) (r : Option (Running Tag)) (b : Laid Tag) → b.awaits ≡ false → IsQuiet
      (flush_of m tag r b)
  flush_quiet_of tag None b e = e
  flush_quiet_of tag (Some r) b e = found_quiet tag r.fill b (laid_text r.text) e

  pub flush_quiet : (tag : Tag) (b : Laid Tag) → b.awaits ≡ false → IsQuiet (flush m tag b)
  flush_quiet tag b e = flush_quiet_of tag b.running (without_running b) e

  running_quiet : (cs : List ℕ) (r : Running Tag) (b : Laid Tag) (text : Option (Block Tag)) → b.awaits ≡ false →
      IsQuiet (option_map (with_running b) (option_map (with_added Normal cs r) text))
  running_quiet cs r b None e = tt
  running_quiet cs r b (Some text) e = e

  entered_quiet : (tag : Tag) (b : Laid Tag) (flushes : Bool) → b.awaits ≡ false →
      IsQuiet (if flushes then flush m tag b else Some b)
  entered_quiet tag b true e = flush_quiet tag b e
  entered_quiet tag b false e = e

  pub say_quiet : (d : Tag) (cs : List ℕ) (b : Laid Tag) → b.awaits ≡ false → IsQuiet (say m d cs b)
  say_quiet d cs b e = then_quiet (run_on m d Normal cs d d) (enter_mode m d Normal cs b)
      (entered_quiet d b _ e)
      (λ b e. running_quiet cs (running_or_new m d b.running) b
      (added Normal cs d d (running_or_new m d b.running).text) e)

  line_quiet : (tag : Tag) (x : Option (Laid Tag)) → IsQuiet (option_map (after_empty_line m tag) x)
  line_quiet tag None = tt
  line_quiet tag (Some b) = refl

  broken_quiet : (tag : Tag) (b : Laid Tag) (ends : Bool) (r : Running Tag) → b.awaits ≡ false →
      IsQuiet (broken_line m tag b (ends, r))
  broken_quiet tag b true r e = flush_quiet tag (with_running b r) e
  broken_quiet tag b false r e = line_quiet tag (flush m tag (with_running b r))

  ended_quiet : (tag : Tag) (b : Laid Tag) (r : Running Tag) (ended : Option (Bool × Block Tag)) → b.awaits ≡ false →
      IsQuiet (option_and_then (broken_line m tag b) (option_map (with_text_of r) ended))
  ended_quiet tag b r None e = tt
  ended_quiet tag b r (Some ended) e = broken_quiet tag b ended.0 (record r { text = ended.1 }) e

  break_quiet_of : (tag : Tag) (r : Option (Running Tag)) (b : Laid Tag) → b.awaits ≡ false →
      IsQuiet (break_of m tag r b)
  break_quiet_of tag None b e = line_quiet tag (flush m tag b)
  break_quiet_of tag (Some r) b e = ended_quiet tag b r (broken r.text) e

  pub break_quiet : (tag : Tag) (b : Laid Tag) → b.awaits ≡ false → IsQuiet (break_line m tag b)
  break_quiet tag b e = break_quiet_of tag b.running b e

  pub run_quiet : (parts : List Part) (b : Laid Tag) → b.awaits ≡ false → IsQuiet (run m parts b)
  run_quiet [] b e = e
  run_quiet (says cs tag ∷ parts) b e =
      then_quiet (run m parts) (say m tag cs b) (say_quiet tag cs b e) (λ b e. run_quiet parts b e)
  run_quiet (breaks tag ∷ parts) b e =
      then_quiet (run m parts) (break_line m tag b) (break_quiet tag b e) (λ b e. run_quiet parts b e)

  pub run_both : (xs ys : List Part) (b : Laid Tag) →
      run m (xs ++ ys) b ≡ option_and_then (run m ys) (run m xs b)
  run_both [] ys b = refl
  run_both (says cs tag ∷ xs) ys b =
      both_after (run m ys) (run m xs) (run m (xs ++ ys)) (say m tag cs b) (λ b. run_both xs ys b)
  run_both (breaks tag ∷ xs) ys b =
      both_after (run m ys) (run m xs) (run m (xs ++ ys)) (break_line m tag b) (λ b. run_both xs ys b)

  -- ---- empty texts

  -- an empty text makes a text run
  abbrev begun : Tag → Laid Tag → Laid Tag
  begun d b = with_running b (running_or_new m d b.running)

  empty_by : (d : Tag) (r : Option (Running Tag)) (b : Laid Tag) → b.running ≡ r →
      say m d [] b ≡ Some (begun d b)
  empty_by d r b e = refl

  first_by : (d : Tag) (cs : List ℕ) (r : Option (Running Tag)) (b : Laid Tag) →
      say m d cs (with_running (record b { running = r }) (running_or_new m d r)) ≡ say m d cs
      (record b { running = r })
  first_by d [] None b = refl
  first_by d (c ∷ cs) None b = refl
  first_by d cs (Some r) b = refl

  -- before a text under the same tag it changes nothing
  pub empty_first : (d : Tag) (cs : List ℕ) (b : Laid Tag) → option_and_then (say m d cs) (say m d [] b) ≡ say m d cs b
  empty_first d cs b = first_by d cs b.running b

  entered_then : (d e : Tag) (cs : List ℕ) (x : Option (Laid Tag)) →
      option_and_then (say m e []) (option_and_then (run_on m d Normal cs d d) x)
      ≡ option_and_then (run_on m d Normal cs d d) x
  entered_then d e cs None = refl
  entered_then d e cs (Some b) = by (added Normal cs d d (running_or_new m d b.running).text)
    where
      by : (text : Option (Block Tag)) → option_and_then (say m e [])
          (option_map (with_running b) (option_map (with_added Normal cs (running_or_new m d b.running)) text))
          ≡ option_map (with_running b) (option_map (with_added Normal cs (running_or_new m d b.running)) text)
      by None = refl
      by (Some text) = refl

  -- after a text it changes nothing, whatever its tag
  pub empty_last : (d e : Tag) (cs : List ℕ) (b : Laid Tag) → option_and_then (say m e []) (say m d cs b) ≡ say m d cs b
  empty_last d e cs b = entered_then d e cs (enter_mode m d Normal cs b)

-- ---- tags

pub last_off : (d : Tag) → before_last (d ++ tt ∷ []) ≡ d
last_off [] = refl
last_off (tt ∷ []) = refl
last_off (tt ∷ e ∷ d) = ap (λ d. tt ∷ d) (last_off (e ∷ d))
