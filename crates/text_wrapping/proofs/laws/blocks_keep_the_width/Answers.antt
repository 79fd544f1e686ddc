use Rattle.std.proofs.Common.{ℕ, ◌≤◌, List, [], refl}
use Rattle.std.specs.Prelude.{All}
use Rattle.std.proofs.lemmas.List.Elements.{All-nil}
use Rattle.text_lines.specs.Tagged.{Item, line_columns}
use Rattle.text_wrapping.proofs.BlockWidths.{FitLaws, ended_within, added_within, lines_within}
use Rattle.text_wrapping.proofs.laws.blocks_keep_the_width.Goals as goal

none_fit : {S : Type 0} (width : ℕ) → All {X = List (Item S)} (λ line. line_columns line ≤ width) []
none_fit {S = S} width = All-nil (λ (line : List (Item S)). line_columns line ≤ width)

pub returns : goal.returns
returns g c =
    let laws : FitLaws g.T.EqualCopy.Seen = record {
      preserved = λ width wraps line narrow. c.preserved_lines_keep_the_width.ensures width wraps line narrow;
      normal = λ width source narrow. c.normal_lines_keep_the_width.ensures width source narrow;
    } in
    record {
      empty = λ width padding. record {
        same_width = refl;
        no_overflow = refl;
        lines = none_fit width;
      };
      added = λ width mode cs main further b new h is. added_within laws width mode cs main further b new h is;
      marked = λ width name b h. record {
        same_width = h.same_width;
        no_overflow = h.no_overflow;
        lines = h.lines;
      };
      ended = λ width b new h is. ended_within laws width b new h is;
      lines = λ width b lines h is. lines_within laws width b lines h is;
    }
