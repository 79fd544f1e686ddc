-- Comments (WHATWG HTML, 13.2.5.41 and 13.2.5.43 to 13.2.5.52).
use Rattle.std.specs.Prelude.{ℕ, if◌then◌else◌, List, [], length, ◌-◌, take, drop, reverse, codes, Option, Some, None}
use Rattle.std.specs.Option.{option_or}
use Rattle.token_grammar.specs.Slices.{Cut, after, begins, cut, cut_or_all}

-- the end of a comment
abbrev pub comment_mark : List ℕ → Option (List ℕ)
comment_mark cs = option_or (after (codes "-->") cs) (after (codes "--!>") cs)

-- at the end of input a begun end mark is no part of the comment
abbrev pub dropped : ℕ → List ℕ → List ℕ
dropped n cs = take (length cs - n) cs

abbrev pub without_begun_mark : List ℕ → List ℕ
without_begun_mark cs =
    if begins (codes "!--") (reverse cs) then dropped 3 cs
    else (if begins (codes "--") (reverse cs) then dropped 2 cs
    else (if begins (codes "-") (reverse cs) then dropped 1 cs else cs))

abbrev pub ended : List ℕ → Cut
ended cs = record { slice = without_begun_mark cs; rest = [] }

abbrev pub found_or_ended : Option Cut → List ℕ → Cut
found_or_ended None cs = ended cs
found_or_ended (Some cut) cs = cut

abbrev pub empty_comment : List ℕ → Cut
empty_comment rest = record { slice = []; rest = rest }

-- The comment after `<!--`: empty before `>` and `->`, else the shortest slice before an end mark.
abbrev pub comment_slice : List ℕ → Cut
comment_slice cs =
    if begins (codes ">") cs then empty_comment (drop 1 cs)
    else (if begins (codes "->") cs then empty_comment (drop 2 cs)
    else found_or_ended (cut comment_mark cs) cs)

-- a comment up to `>`, or up to the end
abbrev pub bogus_comment_slice : List ℕ → Cut
bogus_comment_slice cs = cut_or_all (cut (after (codes ">")) cs) cs
