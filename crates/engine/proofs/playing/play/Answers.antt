-- `engine::playing::play` meets its contract.
use Rattle.std.proofs.Common.{◌≡◌, sym, ◌∙◌}
use Rattle.laws.specs.Parts.{front}
use Rattle.nets.specs.Carrying.{AllEnough, tokens_behind, play}
use Rattle.engine.specs.Playing.{places_of, left_by, none-played, some-played}
use Rattle.engine.proofs.playing.play.Goals as goal
use Rattle.engine.proofs.playing.play.Goals.{In_default}

pub returns-in-Some-clause-tokens_after : goal.returns-in-Some-clause-tokens_after
returns-in-Some-clause-tokens_after c =
    sym (some-played c.args.net.now c.args.tokens.now c.args.event (sym c.in-Some.is ∙ c.find_short.ensures))

-- no place has too few
all : (c : In_default) → let net = c.args.net.now in let ts = c.args.tokens.now in let played = play (places_of net) ts c.args.event in
    AllEnough (places_of net) ts c.args.event × (left_by played ts ≡ front (tokens_behind (places_of net) ts c.args.event) ts)
all c = none-played c.args.net.now c.args.tokens.now c.args.event (sym c.in_default.is ∙ c.find_short.ensures)

pub move_tokens-requires-clause-enough : goal.move_tokens-requires-clause-enough
move_tokens-requires-clause-enough c = (all (goal.at.move_tokens-requires-clause-enough c).In_default).0

pub returns : goal.returns
returns c = record {
  value = sym c.in_default.is ∙ c.find_short.ensures;
  tokens_after = c.move_tokens.ensures ∙ sym (all (goal.at.returns c).In_default).1;
}
