use Rattle.std.proofs.Common.{List, ℕ, ◌++◌, chars, string_bytes, IfSome, IsUtf8, option_map, ap, sym, ◌∙◌, subst}
use Rattle.std.proofs.lemmas.Str.{chars-nil}
use Rattle.token_grammar.specs.Read.{found_of}
use Rattle.token_grammar.proofs.ValueLemmas.{pushed_shown, pushed_text, shorter_found, valuing_character, valuing_ends}
use Rattle.token_grammar.proofs.ValueLemmas.{valuing_found, valuing_start}
use Rattle.token_grammar.proofs.references.value_of.Goals as goal

pub value-init : goal.value-init
value-init c = record {
  is_text = c.utf8.text;
  so_far = valuing_start c.args.table.now (chars c.args.text.now) _ (ap chars c.new-value.ensures.bytes ∙ chars-nil);
}

pub value-smaller-in-Some-2 : goal.value-smaller-in-Some-2
value-smaller-in-Some-2 c =
    shorter_found c.args.table.now _ _ _ c.in-Some.c
    (chars c.in-Some.after_c.now) c.value.invariant.so_far c.in-Some.ensures.value (found_of c.in-Some-2.found)
    (sym (ap (option_map found_of) c.in-Some-2.is) ∙ c.in_ok-found.ensures.value)

pub value-preserved-in-Some-2 : goal.value-preserved-in-Some-2
value-preserved-in-Some-2 c = record {
  is_text = subst (λ o. IfSome o (λ f. IsUtf8 f.rest.now)) c.in-Some-2.is c.in_ok-found.ensures.utf8;
  so_far =
      valuing_found c.args.table.now _ _ _ c.in-Some.c
      (chars c.in-Some.after_c.now) c.value.invariant.so_far c.in-Some.ensures.value _ (found_of c.in-Some-2.found)
      (sym (ap (option_map found_of) c.in-Some-2.is) ∙ c.in_ok-found.ensures.value)
      (pushed_text c.value.value c.push_str.new.self c.as_str.result.now c.in_ok-push_str.ensures.bytes ∙
      ap (λ (l : List ℕ). chars (string_bytes c.value.value) ++ l) c.as_str.ensures);
}

pub value-preserved : goal.value-preserved
value-preserved c = record {
  is_text = c.in-Some.ensures.utf8;
  so_far =
      valuing_character c.args.table.now _ _ _ c.in-Some.c
      (chars c.in-Some.after_c.now) c.value.invariant.so_far c.in-Some.ensures.value _
      (sym (ap (option_map found_of) c.in_default-2.is) ∙ c.in_ok-found.ensures.value)
      (pushed_shown c.value.value c.push.new.self c.in-Some.c c.shown_character.result c.in-Some.ensures.scalar
      c.shown_character.ensures.value c.in_ok-push.ensures.bytes);
}

pub returns : goal.returns
returns c = c.from.ensures ∙ valuing_ends c.args.table.now _ _ _ c.value.invariant.so_far c.in_default.ensures.value
