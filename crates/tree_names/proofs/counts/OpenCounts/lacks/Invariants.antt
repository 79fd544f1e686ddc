use Rattle.std.proofs.Common.{◌≡◌, List, drop, map, true}
use Rattle.html_lexemes.specs.declared.names.QualName.{QualName}
use Rattle.lex_base.specs.Known.{known_text}
use Rattle.tree_names.specs.Counts.{counts_of, has_counts, has_one}
use Rattle.tree_names.specs.Sets.{html_elements}
use Rattle.tree_names.proofs.counts.OpenCounts.lacks.Given as goal

abbrev pub invariant-loop-known : goal.invariant-loop-known
invariant-loop-known l = record {
  same : (names : List QualName) → l.self ≡ counts_of names →
      has_one (html_elements (map known_text l.wanted)) names
      ≡ has_one (html_elements (map known_text (drop l.known-index l.wanted))) names;
  counts : has_counts (html_elements (map known_text l.wanted)) ≡ true →
      has_counts (html_elements (map known_text (drop l.known-index l.wanted))) ≡ true;
}
