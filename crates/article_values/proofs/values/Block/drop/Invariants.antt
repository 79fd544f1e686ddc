use Rattle.std.proofs.Common.{◌≡◌, map, MatchOption, option_map, vec_len}
use Rattle.article_values.specs.Sizes.{block_size, steps_left, work}
use Rattle.article_values.proofs.values.Block.drop.Given as goal

abbrev pub invariant-all : goal.invariant-all
invariant-all l = MatchOption l.in_hand (vec_len l.waiting ≡ 0) (λ block. Unit {0})

abbrev pub decreases-all : goal.decreases-all
decreases-all l = steps_left (option_map (λ block. work (block_size block) (map block_size l.waiting.items)) l.in_hand)
