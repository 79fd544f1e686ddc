use Rattle.std.proofs.Common.{◌∷◌, ◌++◌, [], ap, sym, ◌∙◌, string_bytes, subst}
use Rattle.std.proofs.lemmas.Str.{IsUtf8-string_bytes}
use Rattle.token_states.specs.Sound.{IsSound}
use Rattle.token_states.specs.declared.place.LexemeState.TheVariants.{RawText}
use Rattle.html_tokenizer.proofs.ReadsLemmas.{held_none, pushed_one}
use Rattle.html_tokenizer.proofs.pending.Pending.open_raw.Goals as goal

pub invariant_of-self-2 : goal.invariant_of-self-2
invariant_of-self-2 c = record {
  sound = subst (λ l. IsSound (RawText c.args.kind c.args.place) l) (sym
      (pushed_one (string_bytes c.args.self.now.held) (string_bytes c.push.new.self) c.args.c
      (IsUtf8-string_bytes c.args.self.now.held) c.requires.scalar c.in_ok-push.ensures.bytes ∙
      ap (λ l. l ++ c.args.c ∷ []) (held_none c.args.self.now c.requires.at)))
      c.requires.sound;
}

pub returns-clause-held : goal.returns-clause-held
returns-clause-held c =
    pushed_one (string_bytes c.args.self.now.held) (string_bytes c.push.new.self) c.args.c
    (IsUtf8-string_bytes c.args.self.now.held) c.requires.scalar c.in_ok-push.ensures.bytes ∙
    ap (λ l. l ++ c.args.c ∷ []) (held_none c.args.self.now c.requires.at)
